-- Laws of cuts, and of a cutter's loop over a run.
use Rattle.std.proofs.Common.{◌≡◌, ℕ, zero, suc, ◌+◌, ◌-◌, ◌<◌, ◌≤◌, Bool, true, false, ltb, List, ◌∷◌, ◌++◌, length, get_or, drop, Some, None, Ok, Err, sym, refl, ap, ◌∙◌, arith}
use lib.Seq.{take-append-le}
use Rattle.std.proofs.lemmas.List.{drop_more, drop_all}
use Rattle.std.proofs.lemmas.Bool.{ltb-true, ltb-false}
use Rattle.parser.specs.Scan.{Verdict, stop, unclosed, answer, less, Meaning, Prefix, Fed}
use Rattle.model.specs.Cut.{Cut, before, through, nowhere, behind_one, behind, verdict_cut, scan_cut}
use Rattle.model.proofs.Cuts.{behind-before, behind_through}
use Rattle.gather.specs.Scanned.{Scanned}
use Rattle.gather.specs.declared.cutter.Scan.TheVariants.{Before, Through}

module _ {E : Type 0} where
  behind_swap : (n : ℕ) (c : Cut E) → behind n (behind_one c) ≡ behind_one (behind n c)
  behind_swap zero c = refl
  behind_swap (suc n) c = ap behind_one (behind_swap n c)

  pub behind-add : (m n : ℕ) (c : Cut E) → behind (m + n) c ≡ behind m (behind n c)
  behind-add zero n c = let e : 0 + n ≡ n = omega arith in ap (λ k. behind k c) e
  behind-add (suc m) n c =
      let e : suc m + n ≡ suc (m + n) = omega arith in
      ap (λ k. behind k c) e ∙ ap behind_one (behind-add m n c)

  pub behind-before_more : (n k : ℕ) (e : E) → behind n (before k e) ≡ before (n + k) e
  behind-before_more n k e = ap (behind n) (sym (behind-before k e)) ∙ sym (behind-add n k (before 0 e)) ∙ behind-before (n + k) e

  pub behind_through_more : (n k : ℕ) (e : E) → behind n (through k e) ≡ through (n + k) e
  behind_through_more n k e = ap (behind n) (sym (behind_through k e)) ∙ sym (behind-add n k (through 0 e)) ∙ behind_through (n + k) e

  pub behind_nowhere : (n : ℕ) (due : List ℕ → E) → behind n (nowhere due) ≡ nowhere due
  behind_nowhere zero due = refl
  behind_nowhere (suc n) due = ap behind_one (behind_nowhere n due)

  -- a loop over a run has come to place i: `old` is where the piece ends from the run's start, and `new` from place i
  pub record Seen (old : List ℕ → Cut E) (run : List ℕ) (i : ℕ) (new : List ℕ → Cut E) : Type 0 where
    pub here : (more : List ℕ) → old (run ++ more) ≡ behind i (new (drop i run ++ more))

  pub seen_none : (old : List ℕ → Cut E) (run : List ℕ) → Seen old run 0 old
  seen_none old run = record { here = λ more. refl }

  module _ {old new : List ℕ → Cut E} {run : List ℕ} {i : ℕ} (seen : Seen old run i new) where
    pub seen_end : length run ≤ i → i ≤ length run → Scanned old new run None
    seen_end h l more =
        let e : i ≡ length run = omega arith in
        seen.here more ∙ ap (λ xs. behind i (new (xs ++ more))) (drop_all i run h) ∙ ap (λ n. behind n (new more)) e

    module _ (within : i < length run) where
      at_byte : (more : List ℕ) → old (run ++ more) ≡ behind i (new (get_or run i 0 ∷ (drop (i + 1) run ++ more)))
      at_byte more = seen.here more ∙ ap (λ xs. behind i (new (xs ++ more))) (drop_more run i 0 within)

      pub seen_keep : (later : List ℕ → Cut E) → ((zs : List ℕ) → new (get_or run i 0 ∷ zs) ≡ behind_one (later zs)) → Seen old run (i + 1) later
      seen_keep later h = record {
        here = λ more.
            at_byte more ∙ ap (behind i) (h (drop (i + 1) run ++ more)) ∙ behind_swap i (later (drop (i + 1) run ++ more))
            ∙ (let e : suc i ≡ i + 1 = omega arith in ap (λ n. behind n (later (drop (i + 1) run ++ more))) e);
      }

      pub seen-before : (any : List ℕ → Cut E) (e : E) → ((zs : List ℕ) → new (get_or run i 0 ∷ zs) ≡ before 0 e) → Scanned old any run (Some (Before i e))
      seen-before any e h =
          (within, λ more. at_byte more ∙ ap (behind i) (h (drop (i + 1) run ++ more)) ∙ behind-before i e)

      pub seen_through : (any : List ℕ → Cut E) (e : E) → ((zs : List ℕ) → new (get_or run i 0 ∷ zs) ≡ through 0 e) → Scanned old any run (Some (Through i e))
      seen_through any e h =
          (within, λ more. at_byte more ∙ ap (behind i) (h (drop (i + 1) run ++ more)) ∙ behind_through i e)

-- a scanner's stop, and its none, cut what follows too
module _ (old new : Meaning) (run : List ℕ) (prefix : Prefix old) where
  stops : (v : Verdict) (k : ℕ) → Some k ≡ answer v → v ≡ stop k
  stops (stop j) k e = let same : k ≡ j = cc in ap stop (sym same)
  stops (unclosed due) k e = cc

  pub scan_stop : (k : ℕ) → Fed old new run (Some k) → Scanned (scan_cut old) (scan_cut new) run (Some (Through k (Ok tt)))
  scan_stop k fed =
      let within : k < length run = fed.inside in
      let at = stops (old run) k fed.place in
      let le : k + 1 ≤ length run = omega arith in
      (within, λ more. ap verdict_cut ((prefix run k at).1 (run ++ more) (take-append-le (k + 1) run more le)))

  open_cut : None ≡ answer (old run) → (more : List ℕ) (v : Verdict) → old (run ++ more) ≡ v
      → verdict_cut v ≡ behind (length run) (verdict_cut (less (length run) v))
  open_cut none more (unclosed due) e = sym (behind_nowhere (length run) (λ content. Err (due content)))
  open_cut none more (stop k) e = go (ltb k (length run)) refl
    where
      go : (b : Bool) → ltb k (length run) ≡ b → verdict_cut (stop k) ≡ behind (length run) (verdict_cut (stop (k - length run)))
      go true h =
          let lt : k < length run = ltb-true k (length run) h in
          let le : k + 1 ≤ length run = omega arith in
          let early = (prefix (run ++ more) k e).1 run (sym (take-append-le (k + 1) run more le)) in
          let clash : None ≡ Some k = none ∙ ap answer early in
          cc
      go false h =
          let le : length run ≤ k = ltb-false k (length run) h in
          let whole : length run + (k - length run) ≡ k = omega arith in
          ap (λ n. through n (Ok tt)) (sym whole) ∙ sym (behind_through_more (length run) (k - length run) (Ok tt))

  pub scan_open : Fed old new run None → Scanned (scan_cut old) (scan_cut new) run None
  scan_open fed more =
      open_cut fed.place more (old (run ++ more)) refl ∙ ap (λ v. behind (length run) (verdict_cut v)) (sym (fed.further refl more))
