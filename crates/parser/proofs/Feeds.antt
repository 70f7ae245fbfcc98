-- What one turn of `feed_runs` keeps. Assumes nothing.
use Rattle.std.proofs.Common.{◌≡◌, ℕ, ◌+◌, ◌-◌, ◌<◌, ◌≤◌, List, [], ◌∷◌, ◌++◌, map, length, get_or, take, drop, Some, None, Option, Ok, Err, Result, sym, refl, ap, ◌∙◌, subst, append_assoc, append-nil, arith, length-append, Bor}
use Rattle.std.specs.List.{flat_map}
use Rattle.std.proofs.lemmas.List.{take_more, drop_more, flat_map_more, get_or-map, length-map}
use Rattle.parser.specs.Scan.{Verdict, stop, unclosed, answer, less, Due, Meaning, Follows, Fed}
use Rattle.parser.specs.Runs.{told}
use Rattle.parser.specs.declared.errors.SyntaxError.{SyntaxError}

less-less : (m n : ℕ) (v : Verdict) → less m (less n v) ≡ less (n + m) v
less-less m n (stop k) = ap stop (omega arith)
less-less m n (unclosed due) = refl

less_zero : (v : Verdict) → less 0 v ≡ v
less_zero (stop k) = ap stop (omega arith)
less_zero (unclosed due) = refl

-- what is told from a run on, by the verdict on the bytes through it, those before it n
abbrev from : List ℕ → ℕ → List (Result ℕ SyntaxError) → Verdict → List (Result ℕ SyntaxError)
from content n later-runs (stop k) = Ok (k - n) ∷ []
from content n later-runs (unclosed due) = Err (due content) ∷ later-runs

from_stop : (content : List ℕ) (n : ℕ) (later-runs : List (Result ℕ SyntaxError)) (v : Verdict) (k : ℕ) → Some k ≡ answer (less n v) → from content n later-runs v ≡ Ok k ∷ []
from_stop content n later-runs (stop j) k e = let same : k ≡ j - n = cc in ap (λ i. Ok i ∷ []) (sym same)
from_stop content n later-runs (unclosed due) k e = absurd (cc)

from_open : (content : List ℕ) (m n : ℕ) (later-runs : List (Result ℕ SyntaxError)) (v : Verdict) (f : SyntaxError) → None ≡ answer (less n v) → Due (less m v) content f → from content n later-runs v ≡ Err f ∷ later-runs
from_open content m n later-runs (stop j) f e d = absurd (cc)
from_open content m n later-runs (unclosed due) f e d = ap (λ g. Err g ∷ later-runs) (sym d)

-- the bytes of the runs before place i
abbrev front : List (List ℕ) → ℕ → List ℕ
front all i = flat_map (λ x. x) (take i all)

pub record Sofar (m new : Meaning) (content : List ℕ) (all : List (List ℕ)) (i : ℕ) (given : List (Result ℕ SyntaxError)) : Type 0 where
  pub fits : i ≤ length all
  pub follows : Follows m new (front all i)
  pub rest : given ++ told m content (front all i) (drop i all) ≡ told m content [] all

pub sofar_none : (m : Meaning) (content : List ℕ) (all : List (List ℕ)) → Sofar m m content all 0 []
sofar_none m content all = record { fits = omega arith; follows = λ ys. sym (less_zero (m ys)); rest = refl }

module _ {m new : Meaning} {content : List ℕ} {all : List (List ℕ)} {i : ℕ} {given : List (Result ℕ SyntaxError)} (so : Sofar m new content all i given) (lt : i < length all) where
  longer : front all (i + 1) ≡ front all i ++ get_or all i []
  longer = ap (flat_map (λ x. x)) (take_more all i [] lt) ∙ sym (flat_map_more (λ x. x) [] (take i all) (get_or all i []))

  -- what is told from the run at place i on
  split : (v : Verdict) → m (front all i ++ get_or all i []) ≡ v → given ++ from content (length (front all i)) (told m content (front all i ++ get_or all i []) (drop (i + 1) all)) v ≡ told m content [] all
  split v e =
      ap (λ l. given ++ l) (sym (same v) ∙ ap (λ (w : Verdict). (elim w as (λ _. List (Result ℕ SyntaxError)) [ stop k ↦ Ok (k - length (front all i)) ∷ [] | unclosed due ↦ Err (due content) ∷ told m content (front all i ++ get_or all i []) (drop (i + 1) all) ])) (sym e))
      ∙ ap (λ l. given ++ told m content (front all i) l) (sym (drop_more all i [] lt))
      ∙ so.rest
    where
      same : (w : Verdict) → (elim w as (λ _. List (Result ℕ SyntaxError)) [ stop k ↦ Ok (k - length (front all i)) ∷ [] | unclosed due ↦ Err (due content) ∷ told m content (front all i ++ get_or all i []) (drop (i + 1) all) ]) ≡ from content (length (front all i)) (told m content (front all i ++ get_or all i []) (drop (i + 1) all)) w
      same (stop k) = refl
      same (unclosed due) = refl

  sofar_stop : {after : Meaning} (k : ℕ) → Fed new after (get_or all i []) (Some k) → given ++ Ok k ∷ [] ≡ told m content [] all
  sofar_stop {after} k fed =
      ap (λ l. given ++ l) (sym (from_stop content (length (front all i)) _ (m (front all i ++ get_or all i [])) k (fed.place ∙ ap answer (so.follows (get_or all i [])))))
      ∙ split (m (front all i ++ get_or all i [])) refl

  onward : {after : Meaning} → Fed new after (get_or all i []) None → Follows m after (front all i ++ get_or all i [])
  onward {after} fed ys =
      fed.further refl ys
      ∙ ap (less (length (get_or all i []))) (so.follows (get_or all i [] ++ ys))
      ∙ less-less (length (get_or all i [])) (length (front all i)) (m (front all i ++ (get_or all i [] ++ ys)))
      ∙ ap (λ n. less n (m (front all i ++ (get_or all i [] ++ ys)))) (sym (length-append (front all i) (get_or all i [])))
      ∙ ap (λ l. less (length (front all i ++ get_or all i [])) (m l)) (sym (append_assoc (front all i) (get_or all i []) ys))

  sofar_open : {after : Meaning} (f : SyntaxError) → Fed new after (get_or all i []) None → Due (after []) content f → Sofar m after content all (i + 1) (given ++ Err f ∷ [])
  sofar_open {after} f fed d = record {
    fits = omega arith;
    follows = subst (Follows m after) (sym longer) (onward fed);
    rest =
        append_assoc given (Err f ∷ []) (told m content (front all (i + 1)) (drop (i + 1) all))
        ∙ ap (λ l. given ++ Err f ∷ told m content l (drop (i + 1) all)) longer
        ∙ ap (λ l. given ++ l) (sym (from_open content (length (front all i ++ get_or all i [])) (length (front all i)) _ (m (front all i ++ get_or all i [])) f (fed.place ∙ ap answer (so.follows (get_or all i []))) (subst (λ v. Due v content f) (onward fed [] ∙ ap (λ l. less (length (front all i ++ get_or all i [])) (m l)) (append-nil (front all i ++ get_or all i []))) d)))
        ∙ split (m (front all i ++ get_or all i [])) refl;
  }

-- a slice of runs, by what each holds
abbrev pub held : List (Bor (List ℕ)) → List (List ℕ)
held runs = map (λ x. x.now) runs

module _ (m new after : Meaning) (content : List ℕ) (runs : List (Bor (List ℕ))) (i : ℕ) (given : List (Result ℕ SyntaxError)) (so : Sofar m new content (held runs) i given) (lt : i < length runs) (d : Bor (List ℕ)) where
  long : i < length (held runs)
  long = rw length-map lt

  here : (p : Option ℕ) → Fed new after (get_or runs i d).now p → Fed new after (get_or (held runs) i []) p
  here p fed = subst (λ l. Fed new after l p) (sym (get_or-map (λ x. x.now) runs i d [] lt)) fed

  pub turn_stop : (k : ℕ) → Fed new after (get_or runs i d).now (Some k) → given ++ Ok k ∷ [] ≡ told m content [] (held runs)
  turn_stop k fed = sofar_stop so long k (here (Some k) fed)

  pub turn_open : (f : SyntaxError) → Fed new after (get_or runs i d).now None → Due (after []) content f → Sofar m after content (held runs) (i + 1) (given ++ Err f ∷ [])
  turn_open f fed due = sofar_open so long f (here None fed) due
