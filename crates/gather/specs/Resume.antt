-- What one run adds to a piece, and how the gathering goes on behind it.
use Rattle.std.specs.Prelude.{ℕ, suc, Bool, true, false, if◌then◌else◌, List, Some, None, Ok, Err, Option, Result, nat_le}
use Rattle.source.specs.Stream.{Item, Tail, bytes_in}
use Rattle.model.specs.Cut.{Cut}
use Rattle.model.specs.Gather.{Gathered, gathered, gather}
use Rattle.errors.specs.declared.Error.{Error}
use Rattle.errors.specs.declared.Error.TheVariants.{BufferFull}
use Rattle.gather.specs.declared.cutter.Scan.{Scan}
use Rattle.gather.specs.declared.cutter.Scan.TheVariants.{Before, Through}

module _ {E : Type 0} where
  -- how many bytes of a run of n belong to the piece, and how it ends there if it does
  abbrev pub reach : Option (Scan E) → ℕ → ℕ × Option (Result E Error)
  reach None n = (n, None)
  reach (Some (Before k e)) n = (k, Some (Ok e))
  reach (Some (Through k e)) n = (suc k, Some (Ok e))

  -- the same where there is room for no more than `room` bytes
  abbrev pub fitted : Option (Scan E) → ℕ → ℕ → ℕ × Option (Result E Error)
  fitted r n room = if nat_le (reach r n).0 room then reach r n else (room, Some (Err BufferFull))

  -- on with what is left of the stream, or to the end of the piece
  abbrev pub resumed : Option (Result E Error) → (List ℕ → Cut E) → ℕ → List ℕ → ℕ → List Item → Tail → Gathered E
  resumed None cut size so_far patience is t = gather (cut (bytes_in is)) size so_far patience is t
  resumed (Some e) cut size so_far patience is t = gathered so_far is e

-- a byte was found
abbrev pub is_byte : Result (Option ℕ) Error → Bool
is_byte (Ok (Some b)) = true
is_byte (Ok None) = false
is_byte (Err e) = false
