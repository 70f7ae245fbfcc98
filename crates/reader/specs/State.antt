-- The token that a reader gives, and what a gathering leaves of the reader and the buffer.
use Rattle.std.specs.Prelude.{◌≡◌, ℕ, ◌+◌, List, length, take, None, Result}
use Rattle.source.specs.Stream.{bytes_of}
use Rattle.model.specs.Cut.{Cut}
use Rattle.model.specs.Gather.{Gathered, gather}
use Rattle.model.specs.Call.{State, left_with, over}
use Rattle.errors.specs.declared.Error.{Error}
use Rattle.reader.specs.Token.{OpeningToken}

-- all tokens are the same
abbrev pub the_token : OpeningToken
the_token = record { seal = tt }

-- the piece that a reader gathers behind what it wrote before
abbrev pub gathers : {E : Type 0} → State → List ℕ → (List ℕ → Cut E) → List ℕ → ℕ → Gathered E
gathers s buf cut so_far patience = gather (cut (bytes_of s.stream)) (length buf) so_far patience s.stream.items s.stream.tail

-- what a gathering leaves: `n` bytes at the buffer's front
pub record Leaves {E : Type 0} (s : State) (buf : List ℕ) (g : Gathered E) (n : ℕ) (e : Result E Error) (after : State) (new : List ℕ) : Type 0 where
  pub front : take n new ≡ g.bytes
  pub ending : e ≡ g.ending
  pub left : after ≡ left_with s g.left (s.position + length g.bytes) None
  pub buffer : new ≡ over g.bytes buf
