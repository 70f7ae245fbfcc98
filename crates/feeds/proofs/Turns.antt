-- What one more run keeps.
use Rattle.std.proofs.Common.{◌≡◌, ℕ, ◌+◌, ◌<◌, ◌≤◌, List, [], ◌∷◌, ◌++◌, map, length, get_or, drop, Some, None, Option, sym, refl, ap, ◌∙◌, append_assoc, append-nil}
use mathlib.Core.Path.{fun_ext}
use Rattle.std.proofs.lemmas.List.{drop_more, drop_all}
use Rattle.parser.specs.Scan.{Verdict, stop, unclosed, answer, Meaning, Due, Fed}
use Rattle.parser.specs.declared.errors.SyntaxError.{SyntaxError}
use Rattle.feeds.specs.Answers.{after, up_to_stop, places_of, due_for, unless_stop, fault_of}

open_places : (v : Verdict) (more : List (Option ℕ)) → None ≡ answer v → up_to_stop v more ≡ None ∷ more
open_places (stop k) more e = cc
open_places (unclosed due) more e = refl

open_fault : (v : Verdict) (fault : Option SyntaxError) → None ≡ answer v → unless_stop v fault ≡ fault
open_fault (stop k) fault e = cc
open_fault (unclosed due) fault e = refl

stop_places : (v : Verdict) (more : List (Option ℕ)) (k : ℕ) → Some k ≡ answer v → up_to_stop v more ≡ Some k ∷ []
stop_places (stop j) more k e = ap (λ x. x ∷ []) (sym e)
stop_places (unclosed due) more k e = cc

stop_fault : (v : Verdict) (fault : Option SyntaxError) (k : ℕ) → Some k ≡ answer v → unless_stop v fault ≡ None
stop_fault (stop j) fault k e = refl
stop_fault (unclosed due) fault k e = cc

due_fault : (v : Verdict) (content : List ℕ) (f : SyntaxError) → Due v content f → due_for content v ≡ Some f
due_fault (stop k) content f d = absurd d
due_fault (unclosed due) content f d = ap (λ x. Some x) (sym d)

module _ {V : Type 0} (view : V → List ℕ) (old : Meaning) (content : List ℕ) (runs : List V) where
  -- the first i runs are fed, and the scanner means m then
  pub record Turn (m : Meaning) (i : ℕ) (given : List (Option ℕ)) : Type 0 where
    pub places : given ++ places_of m (map view (drop i runs)) ≡ places_of old (map view runs)
    pub fault : fault_of m content (map view (drop i runs)) ≡ fault_of old content (map view runs)

  module _ (m : Meaning) (i : ℕ) (given : List (Option ℕ)) (t : Turn m i given) where
    module _ (lt : i < length runs) (x : V) (is : x ≡ get_or runs i x) (new : Meaning) where
      here : map view (drop i runs) ≡ view x ∷ map view (drop (i + 1) runs)
      here = ap (map view) (drop_more runs i x lt) ∙ ap (λ y. view y ∷ map view (drop (i + 1) runs)) (sym is)

      some_places : given ++ up_to_stop (m (view x)) (places_of (after m (view x)) (map view (drop (i + 1) runs))) ≡ places_of old (map view runs)
      some_places = ap (λ l. given ++ places_of m l) (sym here) ∙ t.places

      some_fault : unless_stop (m (view x)) (fault_of (after m (view x)) content (map view (drop (i + 1) runs))) ≡ fault_of old content (map view runs)
      some_fault = ap (fault_of m content) (sym here) ∙ t.fault

      pub next : Fed m new (view x) None → Turn new (i + 1) (given ++ None ∷ [])
      next fed =
          let same : new ≡ after m (view x) = fun_ext (fed.further refl) in
          record {
            places =
                append_assoc given (None ∷ []) (places_of new (map view (drop (i + 1) runs)))
                ∙ ap (λ n. given ++ None ∷ places_of n (map view (drop (i + 1) runs))) same
                ∙ ap (λ l. given ++ l) (sym (open_places (m (view x)) _ fed.place))
                ∙ some_places;
            fault =
                ap (λ n. fault_of n content (map view (drop (i + 1) runs))) same
                ∙ sym (open_fault (m (view x)) _ fed.place)
                ∙ some_fault;
          }

      pub stop_here : (k : ℕ) → Fed m new (view x) (Some k) → given ++ Some k ∷ [] ≡ places_of old (map view runs)
      stop_here k fed = ap (λ l. given ++ l) (sym (stop_places (m (view x)) _ k fed.place)) ∙ some_places

      pub no_fault : (k : ℕ) → Fed m new (view x) (Some k) → None ≡ fault_of old content (map view runs)
      no_fault k fed = sym (stop_fault (m (view x)) _ k fed.place) ∙ some_fault

    module _ (end : length runs ≤ i) where
      none_left : map view (drop i runs) ≡ []
      none_left = ap (map view) (drop_all i runs end)

      pub all_places : given ≡ places_of old (map view runs)
      all_places = sym (append-nil given) ∙ ap (λ l. given ++ places_of m l) (sym none_left) ∙ t.places

      pub last_fault : (f : SyntaxError) → Due (m []) content f → Some f ≡ fault_of old content (map view runs)
      last_fault f d = sym (due_fault (m []) content f d) ∙ ap (fault_of m content) (sym none_left) ∙ t.fault

  pub start : Turn old 0 []
  start = record { places = refl; fault = refl }
