-- What a cutter finds in a run.
use Rattle.std.specs.Prelude.{◌≡◌, ℕ, ◌<◌, List, ◌++◌, length, Some, None, Option}
use Rattle.model.specs.Cut.{Cut, before, through, behind}
use Rattle.gather.specs.declared.cutter.Scan.{Scan}
use Rattle.gather.specs.declared.cutter.Scan.TheVariants.{Before, Through}

-- `old` is where the piece ends before the run, and `new` where it ends behind it
abbrev pub Scanned : {E : Type 0} → (List ℕ → Cut E) → (List ℕ → Cut E) → List ℕ → Option (Scan E) → Type 0
Scanned old new run None = (more : List ℕ) → old (run ++ more) ≡ behind (length run) (new more)
Scanned old new run (Some (Before k e)) = (k < length run) × ((more : List ℕ) → old (run ++ more) ≡ before k e)
Scanned old new run (Some (Through k e)) = (k < length run) × ((more : List ℕ) → old (run ++ more) ≡ through k e)
