-- The byte that was peeked is taken.
use Rattle.std.specs.Prelude.{ℕ, List, drop, Some, None, Ok, Err, Option, Result}
use Rattle.source.specs.Stream.{Item}
use Rattle.parser.specs.declared.errors.SyntaxError.TheVariants.{InvalidBangMarkup}
use Rattle.errors.specs.declared.Error.{Error}
use Rattle.errors.specs.declared.Error.TheVariants.{Syntax}
use Rattle.model.specs.Peek.{Awaited}

-- the patience left once the byte that was peeked is taken
abbrev pub peeked_taken_by : Result (Option ℕ) Error → ℕ → Result ℕ Error
peeked_taken_by (Ok (Some b)) p = Ok p
peeked_taken_by (Ok None) p = Err (Syntax InvalidBangMarkup)
peeked_taken_by (Err e) p = Err e

abbrev pub peeked_taken : Awaited → Result ℕ Error
peeked_taken a = peeked_taken_by a.first a.patience

abbrev pub left_behind_by : Result (Option ℕ) Error → List Item → List Item
left_behind_by (Ok (Some b)) is = drop 1 is
left_behind_by (Ok None) is = is
left_behind_by (Err e) is = is

abbrev pub left_behind : Awaited → List Item
left_behind a = left_behind_by a.first a.left
