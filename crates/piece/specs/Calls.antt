-- next_piece is nothing but the reader's calls.
use Rattle.std.specs.Prelude.{◌≡◌, List, ◌++◌}
use Rattle.model.specs.Call.{State, Outcome}
use Rattle.model.specs.History.{Event, History, Made, Whole, told_taken}
use Rattle.reader.specs.State.{the_token}
use Rattle.reader.specs.Token.{OpeningToken}
use Rattle.piece.specs.Next.{Next, next_told}

-- some calls lead from a reader to the one behind an answer, and their answers tell together what it tells as taken
pub record ByCalls (s : State) (o : Outcome Next) : Type 0 where
  pub events : List (Event OpeningToken)
  pub history : History the_token s events o.after
  pub taken : told_taken events ≡ (next_told o.answer).taken

-- so the report comes out whole behind it too, whatever history led to the reader
pub record GoesOn (s : State) (o : Outcome Next) (made : State) (es : List (Event OpeningToken)) : Type 0 where
  pub calls : ByCalls s o
  pub history : History the_token made (es ++ calls.events) o.after
  pub whole : Whole made (es ++ calls.events) o.after

abbrev pub PieceContinues : State → Outcome Next → Type 0
PieceContinues s o = (made : State) (es : List (Event OpeningToken)) → Made made → History the_token made es s → GoesOn s o made es
