-- Ways to cut bytes by which what follows a piece does not decide it.
use Rattle.std.specs.Prelude.{◌≡◌, ℕ, List, ◌∷◌, ◌++◌, length}
use Rattle.source.specs.Stream.{Item, Tail, bytes_in}
use Rattle.model.specs.Cut.{Cut, before, through, nowhere}
use Rattle.model.specs.Gather.{Gathered, gathered}
use Rattle.split.specs.Piece.{Inside, Open, Piece}

-- c is the cut of n bytes, and d that of the same with more behind them: it stays, or comes behind them
abbrev pub Settles : {E : Type 0} → Cut E → ℕ → Cut E → Type 0
Settles (before k e) n d = d ≡ before k e
Settles (through k e) n d = d ≡ through k e
Settles (nowhere due) n d = Open d n

-- a way to cut bytes: the cut lies within them, and no more bytes move it
pub record Lawful {E : Type 0} (cut : List ℕ → Cut E) : Type 0 where
  pub inside : (bs : List ℕ) → Inside (cut bs) (length bs)
  pub settles : (bs more : List ℕ) → Settles (cut bs) (length bs) (cut (bs ++ more))

-- a piece that leaves an item of `front` is the same whatever follows `front`
abbrev pub Unseen : {E : Type 0} → (List ℕ → Cut E) → Type 0
Unseen {E} cut =
    (size : ℕ) (so_far : List ℕ) (patience : ℕ) (front rest other : List Item) (t u : Tail) (i : Item) (is : List Item) (g : Gathered E)
    → Piece (cut (bytes_in (front ++ rest))) size so_far patience (front ++ rest) t g → g.left ≡ i ∷ (is ++ rest)
    → Piece (cut (bytes_in (front ++ other))) size so_far patience (front ++ other) u (gathered g.bytes (i ∷ (is ++ other)) g.ending)
