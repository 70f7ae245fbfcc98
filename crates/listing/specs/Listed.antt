-- The lines of a listing: a piece after another, up to the end or a refusal.
use Rattle.std.specs.Prelude.{ℕ, zero, suc, Bool, true, false, cond, List, [], ◌∷◌, replicate, Some, None, Ok, Err}
use Rattle.source.specs.Stream.{plain, limited}
use Rattle.source.specs.declared.fault.Fault.TheVariants.{Quota}
use Rattle.model.specs.Call.{State, state}
use Rattle.errors.specs.Numbers.{number}
use Rattle.piece.specs.Next.{Next, nexts}
use Rattle.listing.specs.declared.line.Line.{Line}
use Rattle.listing.specs.declared.line.Line.TheVariants.{Piece, End, Fault}

-- the line of an answer, where `before` is the position before it
abbrev pub line : ℕ → Next → Line
line before (Ok (Some p)) = Piece p.kind before p.written
line before (Ok None) = End before
line before (Err r) = Fault before (number r.error)

-- the listing ends with the end or a refusal
abbrev pub closing : Next → Bool
closing (Ok (Some p)) = false
closing (Ok None) = true
closing (Err r) = true

-- at most `most` lines
abbrev pub listed : ℕ → State → List ℕ → ℕ → List Line
listed zero s buf p = []
listed (suc most) s buf p =
    line s.position (nexts s buf p).answer ∷ cond (closing (nexts s buf p).answer) [] (listed most (nexts s buf p).after (nexts s buf p).buffer p)

-- the listing of a report of which no more than `quota` bytes are read, into a buffer of `size` zeros
abbrev pub report_listed : List ℕ → ℕ → ℕ → ℕ → List Line
report_listed report quota size most = listed most (state (limited (Quota quota) quota (plain report)) 0 None) (replicate size 0) 0
