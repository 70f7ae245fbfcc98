-- What a call that gathers one piece does, told by that piece.
use Rattle.std.specs.Prelude.{◌≡◌, ℕ, ◌+◌, List, length, take, drop, None, Ok, Err, Result}
use Rattle.source.specs.Stream.{bytes_of}
use Rattle.model.specs.Gather.{Gathered}
use Rattle.model.specs.Call.{State, Outcome, outcome, admitted, Reading, reads}
use Rattle.errors.specs.declared.Error.{Error}
use Rattle.split.specs.Piece.{Piece, Only}

module _ {E A : Type 0} (r : Reading E A) where
  -- the call gave the piece g
  pub record Gave (s : State) (buf : List ℕ) (o : Outcome A) (g : Gathered E) : Type 0 where
    pub answer : o.answer ≡ r.answer g.bytes g.ending
    pub items : o.after.stream.items ≡ g.left
    pub tail : o.after.stream.tail ≡ s.stream.tail
    pub position : o.after.position ≡ s.position + length g.bytes
    pub opening : o.after.opening ≡ None
    -- the piece stands at the buffer's front, and what is behind it is as it was
    pub front : take (length g.bytes) o.buffer ≡ g.bytes
    pub behind : drop (length g.bytes) o.buffer ≡ drop (length g.bytes) buf

  -- a piece of the source, for this buffer and this patience
  abbrev pub PieceOf : State → List ℕ → ℕ → Gathered E → Type 0
  PieceOf s buf patience = Piece (r.cut (bytes_of s.stream)) (length buf) r.prefix patience s.stream.items s.stream.tail

  -- there is exactly one piece, and the call gave it
  pub record OnePiece (s : State) (buf : List ℕ) (patience : ℕ) (o : Outcome A) : Type 0 where
    pub piece : Only (PieceOf s buf patience)
    pub gave : Gave s buf o piece.it

  -- the questions before any look
  abbrev pub asked : State → List ℕ → Result (Unit {0}) Error
  asked s buf = admitted s.position (length buf) r.wanted s.opening r.least

  -- a call that is refused changes nothing; one that is not gives the one piece
  pub record PieceCall (s : State) (buf : List ℕ) (patience : ℕ) (o : Outcome A) : Type 0 where
    pub refused : (e : Error) → asked s buf ≡ Err e → o ≡ outcome (r.early e) s buf
    pub read : asked s buf ≡ Ok tt → OnePiece s buf patience o

  abbrev pub ReadsOnePiece : Type 0
  ReadsOnePiece = (s : State) (buf : List ℕ) (patience : ℕ) → PieceCall s buf patience (reads r s buf patience)
