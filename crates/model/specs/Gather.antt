-- How a piece is gathered from a stream: up to its cut, the end, a fault, one wait too many, or a full buffer.
use Rattle.std.specs.Prelude.{ℕ, zero, suc, Bool, true, false, List, [], ◌∷◌, ◌++◌, length, Ok, Err, Result, nat_lt}
use Rattle.source.specs.Stream.{Item, byte, wait, Tail, end, fault}
use Rattle.model.specs.Cut.{Cut, before, through, nowhere, at_end}
use Rattle.errors.specs.declared.Error.{Error}
use Rattle.errors.specs.declared.Error.TheVariants.{Patience, Io, BufferFull}

pub record Gathered (E : Type 0) : Type 0 where
  -- what stands at the buffer's front
  pub bytes : List ℕ
  -- the items that are left
  pub left : List Item
  -- what ended the piece, or why there is none
  pub ending : Result E Error

module _ {E : Type 0} where
  abbrev pub gathered : List ℕ → List Item → Result E Error → Gathered E
  gathered bs is e = record { bytes = bs; left = is; ending = e }

  -- the cut, as seen from behind one byte more
  abbrev pub next : Cut E → Cut E
  next (before zero e) = before zero e
  next (before (suc k) e) = before k e
  next (through zero e) = through zero e
  next (through (suc k) e) = through k e
  next (nowhere due) = nowhere due

  -- a byte comes first: it ends the piece, or does not fit, or `rest` follows once it is kept
  abbrev pub on_byte : Cut E → Bool → List ℕ → ℕ → List Item → Gathered E → Gathered E
  on_byte (before zero e) fits so_far b is rest = gathered so_far (byte b ∷ is) (Ok e)
  on_byte (before (suc k) e) true so_far b is rest = rest
  on_byte (before (suc k) e) false so_far b is rest = gathered so_far (byte b ∷ is) (Err BufferFull)
  on_byte (through zero e) true so_far b is rest = gathered (so_far ++ b ∷ []) is (Ok e)
  on_byte (through zero e) false so_far b is rest = gathered so_far (byte b ∷ is) (Err BufferFull)
  on_byte (through (suc k) e) true so_far b is rest = rest
  on_byte (through (suc k) e) false so_far b is rest = gathered so_far (byte b ∷ is) (Err BufferFull)
  on_byte (nowhere due) true so_far b is rest = rest
  on_byte (nowhere due) false so_far b is rest = gathered so_far (byte b ∷ is) (Err BufferFull)

  -- the cut is where the piece ends in the bytes of the items; `size` is the buffer's length, and `so_far` stands at its front
  abbrev pub gather : Cut E → ℕ → List ℕ → ℕ → List Item → Tail → Gathered E
  gather c size so_far patience [] end = gathered so_far [] (Ok (at_end c so_far))
  gather c size so_far patience [] (fault f) = gathered so_far [] (Err (Io f))
  gather c size so_far zero (wait ∷ is) t = gathered so_far is (Err Patience)
  gather c size so_far (suc patience) (wait ∷ is) t = gather c size so_far patience is t
  gather c size so_far patience (byte b ∷ is) t =
      on_byte c (nat_lt (length so_far) size) so_far b is (gather (next c) size (so_far ++ b ∷ []) patience is t)
