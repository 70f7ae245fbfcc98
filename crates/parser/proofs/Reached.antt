-- How far a loop over the bytes of a run has come, whichever faults are due. Assumes nothing.
use Rattle.std.proofs.Common.{◌≡◌, ℕ, ◌+◌, ◌<◌, ◌≤◌, Bool, true, false, List, length, get_or, take, Some, None}
use Rattle.parser.specs.Bytes.{Move, Moves, FedBytes}
use Rattle.parser.specs.Machines
use Rattle.parser.specs.declared.errors.SyntaxError.{SyntaxError}

module _ {S : Type 0} (step : S → ℕ → Move S) where
  -- The loop came from s to t at place i. What it may answer there follows, so that only the next turn is left to a proof.
  pub record Reached (s t : S) (run : List ℕ) (i : ℕ) : Type 0 where
    pub along : (due : S → List ℕ → SyntaxError) → Machines.Along step due s t (take i run)
    pub stops : (u : S) (r : Bool) → i < length run → Moves (step t (get_or run i 0)) r u → r ≡ true → FedBytes step s u run (Some i)
    pub ends : length run ≤ i → FedBytes step s t run None

  reached : (s t : S) (run : List ℕ) (i : ℕ) → ((due : S → List ℕ → SyntaxError) → Machines.Reached step due s t run i) → Reached s t run i
  reached s t run i h = record { along = λ due. (h due).along; stops = λ u r lt moves e due. (h due).stops u r lt moves e; ends = λ end due. (h due).ends end }

  pub reached_none : (s : S) (run : List ℕ) → Reached s s run 0
  reached_none s run = reached s s run 0 (λ due. Machines.reached_none step due s run)

  pub reached_more : (s t u : S) (run : List ℕ) (i : ℕ) (r : Bool) → Reached s t run i → i < length run → Moves (step t (get_or run i 0)) r u → r ≡ false → Reached s u run (i + 1)
  reached_more s t u run i r h lt moves e =
      reached s u run (i + 1) (λ due. Machines.reached_more step due s t u run i r (Machines.reached step due s t run i (h.along due)) lt moves e)
