-- What a piece is: how the call that gathers it splits the items of the source, and why it ends there.
use Rattle.std.specs.Prelude.{◌≡◌, ℕ, ◌<◌, ◌≤◌, List, [], ◌∷◌, ◌++◌, length, Ok, Err}
use Rattle.source.specs.declared.fault.Fault.{Fault}
use Rattle.source.specs.Stream.{Item, byte, wait, Tail, end, fault, bytes_in, waits_in}
use Rattle.model.specs.Cut.{Cut, before, through, nowhere}
use Rattle.model.specs.Gather.{Gathered, gathered, gather}
use Rattle.errors.specs.declared.Error.TheVariants.{Patience, Io, BufferFull}

-- how many bytes are among the items
abbrev pub count : List Item → ℕ
count is = length (bytes_in is)

-- the cut lies within n bytes
abbrev pub Inside : {E : Type 0} → Cut E → ℕ → Type 0
Inside (before k e) n = k < n
Inside (through k e) n = k < n
Inside (nowhere due) n = Unit {0}

-- the first n bytes belong to the piece, and none of them ends it
abbrev pub Open : {E : Type 0} → Cut E → ℕ → Type 0
Open (before k e) n = n ≤ k
Open (through k e) n = n ≤ k
Open (nowhere due) n = Unit {0}

-- the byte at place n belongs to the piece
abbrev pub Holds : {E : Type 0} → Cut E → ℕ → Type 0
Holds (before k e) n = n < k
Holds (through k e) n = n ≤ k
Holds (nowhere due) n = Unit {0}

-- why a piece ends once the items `met` are used up, where `c` is its cut in the bytes of the source
pub data Ends {E : Type 0} (c : Cut E) (size patience : ℕ) (tail : Tail) : List Item → Gathered E → Type 0 where
  -- it ends before the next byte
  before_byte : (met : List Item) {is : List Item} {bs : List ℕ} {b : ℕ} {e : E} → c ≡ before (count met) e → waits_in met ≤ patience
      → Ends c size patience tail met (gathered bs (byte b ∷ is) (Ok e))
  -- it ends with the byte met last
  with_byte : (met : List Item) (b : ℕ) {is : List Item} {bs : List ℕ} {e : E} → c ≡ through (count met) e → waits_in met ≤ patience
      → Ends c size patience tail (met ++ byte b ∷ []) (gathered bs is (Ok e))
  -- no byte ends it, and the source ends
  at_end : (met : List Item) {bs : List ℕ} {due : List ℕ → E} → c ≡ nowhere due → waits_in met ≤ patience → tail ≡ end
      → Ends c size patience tail met (gathered bs [] (Ok (due bs)))
  -- no byte ends it, and the source fails
  at_fault : (met : List Item) {bs : List ℕ} {due : List ℕ → E} {f : Fault} → c ≡ nowhere due → waits_in met ≤ patience → tail ≡ fault f
      → Ends c size patience tail met (gathered bs [] (Err (Io f)))
  -- nothing ended it before the wait met last, which is one more than the patience
  at_wait : (met : List Item) {is : List Item} {bs : List ℕ} → Open c (count met) → waits_in met ≡ patience
      → Ends c size patience tail (met ++ wait ∷ []) (gathered bs is (Err Patience))
  -- the next byte belongs to it, and there is no room
  at_full : (met : List Item) {is : List Item} {bs : List ℕ} {b : ℕ} → Holds c (count met) → waits_in met ≤ patience → length bs ≡ size
      → Ends c size patience tail met (gathered bs (byte b ∷ is) (Err BufferFull))

-- g is the piece behind `so_far`, for a buffer of `size` bytes
pub record Piece {E : Type 0} (c : Cut E) (size : ℕ) (so_far : List ℕ) (patience : ℕ) (items : List Item) (tail : Tail) (g : Gathered E) : Type 0 where
  -- what the call used up
  pub met : List Item
  pub split : items ≡ met ++ g.left
  pub bytes : g.bytes ≡ so_far ++ bytes_in met
  pub fits : length g.bytes ≤ size
  pub why : Ends c size patience tail met g

-- every cut within the bytes makes a piece, and it is what is gathered
abbrev pub GatherIsPiece : Type 0 → Type 0
GatherIsPiece E =
    (c : Cut E) (size : ℕ) (so_far : List ℕ) (patience : ℕ) (items : List Item) (tail : Tail) → Inside c (count items) → length so_far ≤ size
    → Piece c size so_far patience items tail (gather c size so_far patience items tail)

-- there is no other
abbrev pub PieceAlone : Type 0 → Type 0
PieceAlone E =
    (c : Cut E) (size : ℕ) (so_far : List ℕ) (patience : ℕ) (items : List Item) (tail : Tail) (g h : Gathered E)
    → Piece c size so_far patience items tail g → Piece c size so_far patience items tail h → g ≡ h

-- there is exactly one
pub record Only {X : Type 0} (P : X → Type 0) : Type 0 where
  pub it : X
  pub is : P it
  pub only : (x : X) → P x → x ≡ it
