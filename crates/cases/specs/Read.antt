-- What a reading answers, where memory does not fail.
use Rattle.std.specs.Prelude.{◌≡◌, Some, None, Ok, Err, Option, Result}
use Rattle.cases.specs.declared.bad.Bad.{Bad}
use Rattle.cases.specs.declared.bad.Bad.TheVariants.{NoCase, NoMemory}

-- `view` says what a value stands for
abbrev pub Reads : {X A : Type 0} → (X → A) → Result X Bad → Option A → Type 0
Reads view (Ok x) meant = meant ≡ Some (view x)
Reads view (Err NoCase) meant = meant ≡ None
Reads view (Err NoMemory) meant = Unit {0}
