-- The laws of every machine of bytes. Assumes nothing.
use Rattle.std.specs.Prelude.{◌≡◌, ℕ, suc, ◌+◌, ◌<◌, ◌≤◌, Bool, true, false, List, [], ◌∷◌, ◌++◌, length, take, drop, Some, None, slice_index, refl}
use Rattle.std.proofs.Common.{sym, ap, subst, ◌∙◌, append-nil, append_assoc, zero-add, add-one, arith, take_all}
use Rattle.std.proofs.lemmas.List.{take_more, length-take-le, length_push, take-append-drop, drop_more}
use Rattle.parser.specs.Scan.{Verdict, stop, unclosed, answer, less, later, Prefix, Fed}
use Rattle.parser.specs.Bytes.{Move, halt, goes, machine, Moves}
use Rattle.parser.specs.declared.errors.SyntaxError.{SyntaxError}

later_zero : (v : Verdict) → later 0 v ≡ v
later_zero (stop k) = ap stop (zero-add k)
later_zero (unclosed due) = refl

pub later-later : (m n : ℕ) (v : Verdict) → later m (later n v) ≡ later (m + n) v
later-later m n (stop k) = ap stop (omega arith)
later-later m n (unclosed due) = refl

less-later : (n : ℕ) (v : Verdict) → less n (later n v) ≡ v
less-later n (stop k) = ap stop (omega arith)
less-later n (unclosed due) = refl

pub later_stop : (v : Verdict) (k : ℕ) → later 1 v ≡ stop k → (j : ℕ) × (v ≡ stop j) × (k ≡ suc j)
later_stop (stop j) k e = (j, refl, (let q : 1 + j ≡ k = cc in omega arith))
later_stop (unclosed d) k e = absurd (cc)

moves_true : {S : Type 0} (m : Move S) (r : Bool) (t : S) → Moves m r t → r ≡ true → m ≡ halt
moves_true halt r t h e = refl
moves_true (goes u) r t h e = absurd (cc)

moves_false : {S : Type 0} (m : Move S) (r : Bool) (t : S) → Moves m r t → r ≡ false → m ≡ goes t
moves_false halt r t h e = absurd (cc)
moves_false (goes u) r t h e = ap goes (sym h.1)

module _ {S : Type 0} (step : S → ℕ → Move S) (due : S → List ℕ → SyntaxError) where
  -- what a move means
  abbrev moved : Move S → List ℕ → Verdict
  moved halt xs = stop 0
  moved (goes t) xs = later 1 (machine step due t xs)

  pub machine-cons : (s : S) (x : ℕ) (xs : List ℕ) (m : Move S) → step s x ≡ m → machine step due s (x ∷ xs) ≡ moved m xs
  machine-cons s x xs m e = ap (λ (v : Move S). (elim v as (λ w. Verdict) [ halt ↦ stop 0 | goes t ↦ later 1 (machine step due t xs) ])) e ∙ same m
    where
      same : (m : Move S) → (elim m as (λ w. Verdict) [ halt ↦ stop 0 | goes t ↦ later 1 (machine step due t xs) ]) ≡ moved m xs
      same halt = refl
      same (goes t) = refl

  -- the machine came from s to t by the bytes of the front
  abbrev pub Along : S → S → List ℕ → Type 0
  Along s t front = (zs : List ℕ) → machine step due s (front ++ zs) ≡ later (length front) (machine step due t zs)

  pub along_none : (s : S) → Along s s []
  along_none s zs = sym (later_zero (machine step due s zs))

  pub along_more : (s t u : S) (front : List ℕ) (b : ℕ) → Along s t front → step t b ≡ goes u → Along s u (front ++ b ∷ [])
  along_more s t u front b h e zs =
      ap (machine step due s) (append_assoc front (b ∷ []) zs)
      ∙ h (b ∷ zs)
      ∙ ap (later (length front)) (machine-cons t b zs (goes u) e)
      ∙ later-later (length front) 1 (machine step due u zs)
      ∙ ap (λ n. later n (machine step due u zs)) (sym (length_push front b))

  pub along_halt : (s t : S) (front : List ℕ) (b : ℕ) (zs : List ℕ) → Along s t front → step t b ≡ halt → machine step due s (front ++ b ∷ zs) ≡ stop (length front)
  along_halt s t front b zs h e =
      h (b ∷ zs) ∙ ap (later (length front)) (machine-cons t b zs halt e) ∙ ap stop (omega arith)

  fed_halt : (s t u : S) (run : List ℕ) (i : ℕ) (r : Bool) → Along s t (take i run) → i < length run → Moves (step t (slice_index run i)) r u → r ≡ true → Fed (machine step due s) (machine step due u) run (Some i)
  fed_halt s t u run i r along lt moves e =
      let ends : step t (slice_index run i) ≡ halt = moves_true (step t (slice_index run i)) r u moves e in
      let whole : take i run ++ (slice_index run i ∷ drop (i + 1) run) ≡ run = ap (λ l. take i run ++ l) (sym (drop_more run i 0 lt)) ∙ take-append-drop i run in
      let at : stop (length (take i run)) ≡ machine step due s run = sym (along_halt s t (take i run) (slice_index run i) (drop (i + 1) run) along ends) ∙ ap (machine step due s) whole in
      record {
        place = ap answer (ap stop (sym (length-take-le i run (omega arith))) ∙ at);
        inside = lt;
        further = λ q. absurd (cc);
      }

  fed_all : (s t : S) (run : List ℕ) (i : ℕ) → Along s t (take i run) → length run ≤ i → Fed (machine step due s) (machine step due t) run None
  fed_all s t run i h end =
      let along : Along s t run = subst (Along s t) (take_all i run end) h in
      record {
        place = ap answer (sym (ap (machine step due s) (sym (append-nil run)) ∙ along []));
        inside = tt;
        further = λ _ ys. sym (less-later (length run) (machine step due t ys)) ∙ ap (less (length run)) (sym (along ys));
      }

  -- A loop over the places of a run came from s to t at place i. What it may answer there follows, so that only the next turn
  -- is left to a proof.
  pub record Reached (s t : S) (run : List ℕ) (i : ℕ) : Type 0 where
    pub along : Along s t (take i run)
    pub stops : (u : S) (r : Bool) → i < length run → Moves (step t (slice_index run i)) r u → r ≡ true → Fed (machine step due s) (machine step due u) run (Some i)
    pub ends : length run ≤ i → Fed (machine step due s) (machine step due t) run None

  pub reached : (s t : S) (run : List ℕ) (i : ℕ) → Along s t (take i run) → Reached s t run i
  reached s t run i h = record { along = h; stops = λ u r. fed_halt s t u run i r h; ends = fed_all s t run i h }

  pub reached_none : (s : S) (run : List ℕ) → Reached s s run 0
  reached_none s run = reached s s run 0 (along_none s)

  pub reached_more : (s t u : S) (run : List ℕ) (i : ℕ) (r : Bool) → Reached s t run i → i < length run → Moves (step t (slice_index run i)) r u → r ≡ false → Reached s u run (i + 1)
  reached_more s t u run i r h lt moves e =
      reached s u run (i + 1) (subst (Along s u) (sym (take_more run i 0 lt)) (along_more s t u (take i run) (slice_index run i) h.along (moves_false (step t (slice_index run i)) r u moves e)))

  stop_zero : (k : ℕ) → stop 0 ≡ stop k → k ≡ 0
  stop_zero k e = cc

  abbrev Stays : S → List ℕ → ℕ → Type 0
  Stays s xs k = (k < length xs) × ((ys : List ℕ) → take (k + 1) ys ≡ take (k + 1) xs → machine step due s ys ≡ stop k)

  stays_halt : (s : S) (x : ℕ) (xs : List ℕ) → step s x ≡ halt → Stays s (x ∷ xs) 0
  stays_halt s x xs q = (omega arith, after)
    where
      after : (ys : List ℕ) → take 1 ys ≡ x ∷ [] → machine step due s ys ≡ stop 0
      after [] e = absurd (cc)
      after (y ∷ ys) e = let same : y ≡ x = cc in machine-cons s y ys halt (ap (step s) same ∙ q)

  stays_goes : (s t : S) (x : ℕ) (xs : List ℕ) (j : ℕ) → step s x ≡ goes t → Stays t xs j → Stays s (x ∷ xs) (suc j)
  stays_goes s t x xs j q h = (omega arith, after)
    where
      after : (ys : List ℕ) → take (suc j + 1) ys ≡ take (suc j + 1) (x ∷ xs) → machine step due s ys ≡ stop (suc j)
      after [] e = let none : [] ≡ x ∷ take (suc j) xs = rw add-one at e in absurd (cc)
      after (y ∷ ys) e =
          let both : y ∷ take (suc j) ys ≡ x ∷ take (suc j) xs = rw add-one at e in
          let same : y ≡ x = cc in
          let rest : take (suc j) ys ≡ take (suc j) xs = cc in
          machine-cons s y ys (goes t) (ap (step s) same ∙ q) ∙ ap (later 1) (h.1 ys (rw add-one rest)) ∙ ap stop (omega arith)

  pub prefix : (s : S) → Prefix (machine step due s)
  prefix s [] k e = absurd (cc)
  prefix s (x ∷ xs) k e = go (λ t. prefix t xs) (step s x) refl
    where
      go : ((t : S) (j : ℕ) → machine step due t xs ≡ stop j → Stays t xs j) → (m : Move S) → step s x ≡ m → Stays s (x ∷ xs) k
      go ih halt q = subst (Stays s (x ∷ xs)) (sym (stop_zero k (sym (machine-cons s x xs halt q) ∙ e))) (stays_halt s x xs q)
      go ih (goes t) q =
          let at = later_stop (machine step due t xs) k (sym (machine-cons s x xs (goes t) q) ∙ e) in
          subst (Stays s (x ∷ xs)) (sym at.2) (stays_goes s t x xs at.0 q (ih t at.0 at.1))

  -- a machine that is open owes the fault of one of its states
  pub owes : (s : S) (xs : List ℕ) (d : List ℕ → SyntaxError) → machine step due s xs ≡ unclosed d → (t : S) × (due t ≡ d)
  owes s [] d e = (s, same e)
    where
      same : {f g : List ℕ → SyntaxError} → unclosed f ≡ unclosed g → f ≡ g
      same q = cc
  owes s (x ∷ xs) d e = go (λ t. owes t xs d) (step s x) refl
    where
      earlier : (v : Verdict) → later 1 v ≡ unclosed d → v ≡ unclosed d
      earlier (stop k) q = absurd (cc)
      earlier (unclosed f) q = q

      go : ((t : S) → machine step due t xs ≡ unclosed d → (u : S) × (due u ≡ d)) → (m : Move S) → step s x ≡ m → (u : S) × (due u ≡ d)
      go ih halt q = let e' : stop 0 ≡ unclosed d = sym (machine-cons s x xs halt q) ∙ e in absurd (cc)
      go ih (goes t) q = ih t (earlier (machine step due t xs) (sym (machine-cons s x xs (goes t) q) ∙ e))
