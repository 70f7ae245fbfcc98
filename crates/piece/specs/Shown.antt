-- What show gives: the kind of the piece, and the front of the buffer.
use Rattle.std.specs.Prelude.{◌≡◌, ℕ, ◌<◌, ◌≤◌, cond, List, length, take, Ok, Err, Result, nat_le}
use Rattle.errors.specs.Numbers.{number}
use Rattle.errors.specs.declared.Error.{Error}
use Rattle.errors.specs.declared.Error.TheVariants.{PieceTooLong}
use Rattle.model.specs.Told.{accepted}
use Rattle.model.specs.declared.answer.Told.{Told}
use Rattle.piece.specs.declared.kinds.Kind.{Kind}
use Rattle.piece.specs.declared.kinds.Kind.TheVariants as kind
use Rattle.piece.specs.declared.kinds.Piece.{Piece}
use Rattle.piece.specs.declared.display.Shown.{Shown}
use Rattle.piece.specs.declared.display.Shown.TheVariants.{Text, Ref, Loose, Tag, Pi, Comment, CData, DocType}

abbrev pub shown_kind : Shown → Kind
shown_kind (Text b) = kind.Text
shown_kind (Ref b) = kind.Ref
shown_kind (Loose b) = kind.Loose
shown_kind (Tag b) = kind.Tag
shown_kind (Pi b) = kind.Pi
shown_kind (Comment b) = kind.Comment
shown_kind (CData b) = kind.CData
shown_kind (DocType b) = kind.DocType

abbrev pub shown_bytes : Shown → List ℕ
shown_bytes (Text b) = b.now
shown_bytes (Ref b) = b.now
shown_bytes (Loose b) = b.now
shown_bytes (Tag b) = b.now
shown_bytes (Pi b) = b.now
shown_bytes (Comment b) = b.now
shown_bytes (CData b) = b.now
shown_bytes (DocType b) = b.now

-- the number of its answer, the bytes shown, and those taken, which are none
abbrev pub shown_told : Result Shown Error → Told
shown_told (Ok s) = accepted (length (shown_bytes s)) 0
shown_told (Err e) = record { number = number e; written = 0; taken = 0 }

-- the same, by the piece and the buffer's length: 20 where the piece is longer
abbrev pub show_told : Piece → ℕ → Told
show_told p size = cond (nat_le p.written size) (accepted p.written 0) (record { number = 20; written = 0; taken = 0 })

-- a piece longer than the buffer, and only that, is refused
abbrev pub Shows : Piece → List ℕ → Result Shown Error → Type 0
Shows p buf (Ok s) = (p.written ≤ length buf) × (shown_kind s ≡ p.kind) × (shown_bytes s ≡ take p.written buf)
Shows p buf (Err e) = (length buf < p.written) × (e ≡ PieceTooLong)
