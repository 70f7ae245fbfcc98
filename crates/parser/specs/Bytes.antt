-- Scanners that look at one byte after another. Assumes nothing.
use Rattle.std.specs.Prelude.{◌≡◌, ℕ, Bool, true, false, List, [], ◌∷◌, Option}
use Rattle.parser.specs.Scan.{stop, unclosed, later, Meaning, Fed}
use Rattle.parser.specs.declared.errors.SyntaxError.{SyntaxError}

-- what a byte does: it ends the construct, or leads to a state
pub data Move (S : Type 0) : Type 0 where
  halt : Move S
  goes : S → Move S

-- the meaning of a machine of bytes in a state
abbrev pub machine : {S : Type 0} → (S → ℕ → Move S) → (S → List ℕ → SyntaxError) → S → Meaning
machine step due s [] = unclosed (due s)
machine step due s (x ∷ xs) = elim (step s x) [ halt ↦ stop 0 | goes t ↦ later 1 (machine step due t xs) ]

-- what a call that takes one byte answers and leaves
abbrev pub Moves : {S : Type 0} → Move S → Bool → S → Type 0
Moves halt r t = r ≡ true
Moves (goes u) r t = (r ≡ false) × (t ≡ u)

-- what a call that takes a run of bytes tells of it, whichever faults are due: s is the state before and t the state after
abbrev pub FedBytes : {S : Type 0} → (S → ℕ → Move S) → S → S → List ℕ → Option ℕ → Type 0
FedBytes step s t xs r = (due : _ → List ℕ → SyntaxError) → Fed (machine step due s) (machine step due t) xs r
