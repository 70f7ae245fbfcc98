-- Where the stop of a construct is told, however it is cut into runs. Assumes nothing.
use Rattle.std.proofs.Common.{◌≡◌, ℕ, ◌+◌, ◌-◌, ◌<◌, ◌≤◌, Bool, true, false, cond, ltb, List, [], ◌∷◌, ◌++◌, length, take, Ok, Err, Result, sym, refl, ap, ◌∙◌, append_assoc, arith, length-append, ltb-false, ltb-true}
use Rattle.std.specs.List.{flat_map}
use Rattle.std.proofs.lemmas.List.{take-append-le}
use Rattle.parser.specs.Scan.{Verdict, stop, unclosed, Meaning, Prefix}
use Rattle.parser.specs.Runs.{told}
use Rattle.parser.specs.declared.errors.SyntaxError.{SyntaxError}
use Rattle.grammar.specs.Cut.{stops_at}

module _ (m : Meaning) (content : List ℕ) (fault : SyntaxError) (prefix : Prefix m) (due : (xs : List ℕ) (d : List ℕ → SyntaxError) → m xs ≡ unclosed d → d content ≡ fault) where
  abbrev Told : List ℕ → List (List ℕ) → Type 0
  Told before runs = (k : ℕ) → m (before ++ flat_map (λ run. run) runs) ≡ stop (length before + k) → told m content before runs ≡ stops_at fault k runs

  -- what is told from a run on, by the verdict on the bytes through it
  abbrev from : List ℕ → List ℕ → List (List ℕ) → Verdict → List (Result ℕ SyntaxError)
  from before run runs v = elim v [ stop j ↦ Ok (j - length before) ∷ [] | unclosed d ↦ Err (d content) ∷ told m content (before ++ run) runs ]

  front : (n : ℕ) (before run rest : List ℕ) → n ≤ length (before ++ run) → take n (before ++ (run ++ rest)) ≡ take n (before ++ run)
  front n before run rest le = ap (take n) (sym (append_assoc before run rest)) ∙ take-append-le n (before ++ run) rest le

  told_run : (before run : List ℕ) (runs : List (List ℕ)) → Told (before ++ run) runs → Told before (run ∷ runs)
  told_run before run runs ih k e = go (ltb k (length run)) refl
    where
      long : length (before ++ run) ≡ length before + length run
      long = length-append before run

      here : k < length run → from before run runs (m (before ++ run)) ≡ Ok k ∷ []
      here lt =
          ap (from before run runs) ((prefix (before ++ (run ++ flat_map (λ r. r) runs)) (length before + k) e).1 (before ++ run) (sym (front (length before + k + 1) before run (flat_map (λ r. r) runs) (omega (arith, long)))))
          ∙ ap (λ n. Ok n ∷ []) (omega arith)

      further : (v : Verdict) → m (before ++ run) ≡ v → length run ≤ k → from before run runs v ≡ Err fault ∷ stops_at fault (k - length run) runs
      further (stop j) q le =
          let at = prefix (before ++ run) j q in
          let both : stop j ≡ stop (length before + k) = sym (at.1 (before ++ (run ++ flat_map (λ r. r) runs)) (front (j + 1) before run (flat_map (λ r. r) runs) (omega (arith, at.0)))) ∙ e in
          let same : j ≡ length before + k = cc in
          absurd (omega (arith, at.0, long))
      further (unclosed d) q le =
          ap (λ f. Err f ∷ told m content (before ++ run) runs) (due (before ++ run) d q)
          ∙ ap (λ l. Err fault ∷ l) (ih (k - length run) (ap m (append_assoc before run (flat_map (λ r. r) runs)) ∙ e ∙ ap stop (omega (arith, long))))

      go : (v : Bool) → ltb k (length run) ≡ v → from before run runs (m (before ++ run)) ≡ cond v (Ok k ∷ []) (Err fault ∷ stops_at fault (k - length run) runs)
      go true q = here (ltb-true k (length run) q)
      go false q = further (m (before ++ run)) refl (ltb-false k (length run) q)

  pub told_cut : (before : List ℕ) (runs : List (List ℕ)) → Told before runs
  told_cut before [] k e = refl
  told_cut before (run ∷ runs) k e = told_run before run runs (told_cut (before ++ run) runs) k e
