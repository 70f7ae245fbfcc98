-- Content that may hold no given word, up to that word. Assumes nothing.
use Rattle.std.proofs.Common.{◌≡◌, ℕ, ◌+◌, true, eqb, List, [], ◌∷◌, ◌++◌, reverse, get_or, take, drop, sym, refl, ap, ◌∙◌, subst, append_assoc, eqb-true}
use mathlib.Core.List.{reverse-append, reverse-reverse}
use lib.Utf8.{encode, encodes}
use Rattle.std.proofs.lemmas.Bool.{and_parts}
use Rattle.std.proofs.lemmas.List.{take-append-drop, drop_more}
use Rattle.parser.specs.Scan.{stop, later}
use Rattle.parser.specs.Bytes.{Move, halt, goes, machine}
use Rattle.parser.specs.Words.{begins}
use Rattle.parser.specs.First.{First, StopsAtFirst, ends_after}
use Rattle.parser.specs.Machines.{machine-cons}
use Rattle.grammar.specs.Lang.{Lang, Word, word, One, one, ◌⨾◌, seq, Star, none, more}
use Rattle.grammar.specs.Xml.{char, Without}
use Rattle.grammar.proofs.Walks.{Machine, then, walk, walk-append, walk-char, High}
use Rattle.grammar.proofs.Finishes.{Reaches}

abbrev Chars : Lang
Chars = Star (One char)

chars_tail : (zs : List ℕ) → Chars zs → (c : ℕ) (cs : List ℕ) → zs ≡ c ∷ cs → (char c ≡ true) × Chars cs
chars_tail zs none c cs e = absurd (cc)
chars_tail zs (more (one d is) t) c cs e = let same : d ≡ c = cc in (ap char (sym same) ∙ is, subst Chars (tails e) t)
  where
    tails : {y : ℕ} {ys : List ℕ} → y ∷ ys ≡ c ∷ cs → ys ≡ cs
    tails q = cc

chars_split : (xs ys : List ℕ) → Chars (xs ++ ys) → Chars xs × Chars ys
chars_split [] ys t = (none, t)
chars_split (x ∷ xs) ys t =
    let parts = chars_tail (x ∷ (xs ++ ys)) t x (xs ++ ys) refl in
    let rest = chars_split xs ys parts.1 in
    (more (one x parts.0) rest.0, rest.1)

begins-split : (w xs : List ℕ) → begins w xs ≡ true → (rest : List ℕ) × (xs ≡ w ++ rest)
begins-split [] xs e = (xs, refl)
begins-split (w ∷ ws) [] e = absurd (cc)
begins-split (w ∷ ws) (x ∷ xs) e =
    let parts = and_parts (eqb x w) (begins ws xs) e in
    let rest = begins-split ws xs parts.1 in
    (rest.0, ap (λ y. y ∷ xs) (eqb-true x w parts.0) ∙ ap (λ l. w ∷ l) rest.1)

ends_split : (w xs : List ℕ) → begins (reverse w) (reverse xs) ≡ true → (front : List ℕ) × (xs ≡ front ++ w)
ends_split w xs e =
    let parts = begins-split (reverse w) (reverse xs) e in
    (reverse parts.0, sym (reverse-reverse xs) ∙ ap reverse parts.1 ∙ reverse-append (reverse w) parts.0 ∙ ap (λ l. reverse parts.0 ++ l) (reverse-reverse w))

-- a place that ends the construct shows the word
found : (w xs : List ℕ) (k : ℕ) → Chars xs → First (ends_after w) xs k → (Chars ⨾ Word (w ++ 62 ∷ []) ⨾ Chars) xs
found w xs k t first =
    let parts = and_parts _ (eqb (get_or xs k 0) 62) first.here in
    let front = ends_split w (take k xs) parts.0 in
    let back = drop (k + 1) xs in
    let whole : xs ≡ front.0 ++ ((w ++ 62 ∷ []) ++ back) =
    sym (take-append-drop k xs)
    ∙ ap (λ l. take k xs ++ l) (drop_more xs k 0 first.inside ∙ ap (λ b. b ∷ back) (eqb-true (get_or xs k 0) 62 parts.1))
    ∙ ap (λ l. l ++ 62 ∷ back) front.1
    ∙ append_assoc front.0 w (62 ∷ back)
    ∙ ap (λ l. front.0 ++ l) (sym (append_assoc w (62 ∷ []) back)) in
    let chars = chars_split front.0 ((w ++ 62 ∷ []) ++ back) (subst Chars whole t) in
    subst (Chars ⨾ Word (w ++ 62 ∷ []) ⨾ Chars) (sym whole) (seq chars.0 (seq word (chars_split (w ++ 62 ∷ []) back chars.1).1))

-- a machine that never stops on a list walks through it
unstopped : (M : Machine) (s : M.State) (cs : List ℕ) → ((k : ℕ) → machine M.step M.due s cs ≡ stop k → ⊥) → (t : M.State) × (walk M s cs ≡ goes t)
unstopped M s [] never = (s, refl)
unstopped M s (c ∷ cs) never = go (λ u. unstopped M u cs) (M.step s c) refl
  where
    go : ((u : M.State) → ((k : ℕ) → machine M.step M.due u cs ≡ stop k → ⊥) → (t : M.State) × (walk M u cs ≡ goes t)) → (m : Move M.State) → M.step s c ≡ m → (t : M.State) × (then m (λ u. walk M u cs) ≡ goes t)
    go ih halt q = absurd (never 0 (machine-cons M.step M.due s c cs halt q))
    go ih (goes u) q = ih u (λ k e. never (1 + k) (machine-cons M.step M.due s c cs (goes u) q ∙ ap (later 1) e))

-- bytes past ASCII lead from each state to one in which they stay
abbrev pub Uniform : Machine → Type 0
Uniform M = (s : M.State) → (t : M.State) × High M s t

-- over code points the machine goes where it goes over their bytes
walk-text : (M : Machine) → Uniform M → (s t : M.State) (cs : List ℕ) → walk M s cs ≡ goes t → walk M s (encodes cs) ≡ goes t
walk-text M un s t [] e = e
walk-text M un s t (c ∷ cs) e = go (λ u. walk-text M un u t cs) (M.step s c) refl e
  where
    same : {u v : M.State} → goes u ≡ goes v → u ≡ v
    same q = cc

    go : ((u : M.State) → walk M u cs ≡ goes t → walk M u (encodes cs) ≡ goes t) → (m : Move M.State) → M.step s c ≡ m → then m (λ u. walk M u cs) ≡ goes t → walk M s (encode c ++ encodes cs) ≡ goes t
    go ih halt q r = absurd (cc)
    go ih (goes u) q r =
        walk-append M s u (encode c) (encodes cs) (walk-char M s u c q (λ le. subst (High M s) (same (sym ((un s).1 c le).0 ∙ q)) (un s).1)) ∙ ih u r

pub reaches_without : {M : Machine} {s : M.State} (w : List ℕ) → Uniform M → StopsAtFirst (machine M.step M.due s) (ends_after w) → Reaches M s (Without (w ++ 62 ∷ []))
reaches_without {M} {s} w un first = record { state = at }
  where
    at : (xs : List ℕ) → Without (w ++ 62 ∷ []) xs → (t : M.State) × (walk M s (encodes xs) ≡ goes t)
    at xs p = let to = unstopped M s xs (λ k e. p.1 (found w xs k p.0 ((first xs k).0 e))) in (to.0, walk-text M un s to.0 xs to.1)
