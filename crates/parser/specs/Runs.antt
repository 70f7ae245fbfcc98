-- A scanner that is fed one run after another. Assumes nothing.
use Rattle.std.specs.Prelude.{ℕ, ◌-◌, List, [], ◌∷◌, ◌++◌, length, Ok, Err, Result}
use Rattle.parser.specs.Scan.{Meaning, stop, unclosed}
use Rattle.parser.specs.declared.errors.SyntaxError.{SyntaxError}

-- what is told of each run up to the stop, by the meaning for all bytes so far: the place less the bytes of the earlier runs, or
-- the fault that is due for `content` if the input ends with this run
abbrev pub told : Meaning → List ℕ → List ℕ → List (List ℕ) → List (Result ℕ SyntaxError)
told m content before [] = []
told m content before (run ∷ runs) = elim (m (before ++ run)) [ stop k ↦ Ok (k - length before) ∷ [] | unclosed due ↦ Err (due content) ∷ told m content (before ++ run) runs ]
