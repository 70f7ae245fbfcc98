-- A DOCTYPE that holds a comment, cut between any two bytes. Assumes nothing.
use Rattle.std.proofs.Common.{◌≡◌, ℕ, ◌+◌, ◌-◌, ◌<◌, ◌≤◌, List, [], ◌∷◌, ◌++◌, length, drop, codes, Ok, Err, sym, ap, ◌∙◌, subst, append_assoc, append-nil, zero-add, arith, length-append, length-drop, le-ltb, lt-ltb}
use lib.Utf8.{encodes}
use Rattle.std.specs.List.{flat_map}
use Rattle.std.proofs.lemmas.List.{drop-append-le}
use Rattle.std.proofs.lemmas.Str.{encodes-append, length-le-encodes}
use Rattle.parser.specs.Scan.{stop}
use Rattle.bang.specs.Dtd.{dtd, dtd_step, dtd_due}
use Rattle.parser.specs.Runs.{told}
use Rattle.bang.specs.declared.dtd.DtdParser.TheVariants.{Before}
use Rattle.parser.specs.declared.errors.SyntaxError.{SyntaxError}
use Rattle.parser.specs.declared.errors.SyntaxError.TheVariants.{UnclosedDoctype}
use Rattle.parser.specs.Machines.{prefix, owes}
use Rattle.grammar.specs.Lang.{word, seq, left, right, present, more as further}
use Rattle.grammar.specs.Doctype.{Doctypedecl, Opening, Closing, Commented}
use Rattle.grammar.specs.Cut.{stops_at, CutAnywhere, CutInComment}
use Rattle.grammar.proofs.Rows.{star_append}
use Rattle.grammar.proofs.Cuts.{told_cut}
use Rattle.grammar.proofs.Doctypes.{doctype_ends}

pub cut_anywhere : (content : List ℕ) (runs : List (List ℕ)) → CutAnywhere Doctypedecl runs (told (dtd Before) content [] runs)
cut_anywhere content runs text p more e =
    told_cut (dtd Before) content UnclosedDoctype (prefix dtd_step dtd_due Before) (λ xs d q. ap (λ f. f content) (sym (owes dtd_step dtd_due Before xs d q).1)) [] runs (length (encodes text) - 2 - 1)
    (ap (dtd Before) e ∙ doctype_ends text p more ∙ ap stop (sym (zero-add (length (encodes text) - 2 - 1))))

regroup : (a s n x o b i c j d p e : List ℕ) → a ++ (s ++ (n ++ (x ++ (o ++ ((b ++ ((i ++ (c ++ j)) ++ (d ++ p))) ++ e))))) ≡ (a ++ (s ++ (n ++ (x ++ (o ++ (b ++ i)))))) ++ (c ++ (j ++ (d ++ (p ++ e))))
regroup a s n x o b i c j d p e = simp append_assoc

pub commented : (text : List ℕ) → Commented text → Doctypedecl text
commented text (seq (seq word (seq {xs = s} ps (seq {xs = n} pn (seq {xs = x} px (seq {xs = o} po (seq {ys = i} word pi)))))) (seq {xs = c} pc (seq {xs = j} pj (seq word (seq {xs = p} pp word))))) =
    subst Doctypedecl (regroup (codes "<!DOCTYPE") s n x o (codes "[") i c j (codes "]") p (codes ">"))
    (seq word (seq ps (seq pn (seq px (seq po (seq (present (seq word (seq (star_append _ i (c ++ j) pi (further (left (right (right (right (right (right pc)))))) pj)) (seq word pp)))) word))))))

pub cut_commented : (content : List ℕ) (runs : List (List ℕ)) → CutAnywhere Commented runs (told (dtd Before) content [] runs)
cut_commented content runs text p = cut_anywhere content runs text (commented text p)

long_opening : (xs : List ℕ) → Opening xs → 2 ≤ length (encodes xs)
long_opening xs (seq {ys = ys} word p) = omega (arith, length-le-encodes (codes "<!DOCTYPE" ++ ys))

long_closing : (xs : List ℕ) → Closing xs → 0 < length (encodes xs)
long_closing xs (seq {xs = ys} p (seq {ys = zs} word q)) = omega (arith, length-le-encodes (ys ++ (codes "]" ++ zs)), length-append ys (codes "]" ++ zs))

two_runs : (fault : SyntaxError) (x y : List ℕ) (k n : ℕ) → k ≡ length x + n → n < length y → stops_at fault k (x ∷ y ∷ []) ≡ Err fault ∷ Ok n ∷ []
two_runs fault x y k n e lt =
    let same : k - length x ≡ n = omega arith in
    let late = le-ltb k (length x) (omega arith) in
    let early = lt-ltb n (length y) lt in
    rw (late, same, early)

halves : (a one two l more : List ℕ) → (a ++ one) ++ ((two ++ (l ++ more)) ++ []) ≡ (a ++ ((one ++ two) ++ l)) ++ more
halves a one two l more = simp (append_assoc, append-nil)

pub cut_in_comment : (content : List ℕ) (runs : List (List ℕ)) → CutInComment runs (told (dtd Before) content [] runs)
cut_in_comment content runs o c l po pc pl one two more e r =
    let a = drop 2 (encodes o) in
    let bytes : drop 2 (encodes (o ++ (c ++ l))) ≡ a ++ ((one ++ two) ++ encodes l) =
    ap (drop 2) (encodes-append o (c ++ l)) ∙ drop-append-le 2 (encodes o) (encodes (c ++ l)) (long_opening o po) ∙ ap (λ x. a ++ x) (encodes-append c l ∙ ap (λ x. x ++ encodes l) (sym e)) in
    let long : length (encodes (o ++ (c ++ l))) - 2 ≡ length a + (length one + length two + length (encodes l)) =
    sym (length-drop 2 (encodes (o ++ (c ++ l)))) ∙ ap length bytes ∙ simp length-append in
    let whole = long_closing l pl in
    cut_commented content runs (o ++ (c ++ l)) (seq po (seq pc pl)) more (ap (flat_map (λ run. run)) r ∙ halves a one two (encodes l) more ∙ ap (λ x. x ++ more) (sym bytes))
    ∙ ap (stops_at UnclosedDoctype (length (encodes (o ++ (c ++ l))) - 2 - 1)) r
    ∙ two_runs UnclosedDoctype (a ++ one) (two ++ (encodes l ++ more)) (length (encodes (o ++ (c ++ l))) - 2 - 1) (length two + length (encodes l) - 1)
    (omega (arith, length-append a one))
    (omega (arith, length-append two (encodes l ++ more), length-append (encodes l) more))
