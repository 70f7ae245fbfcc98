-- What a source means: the items still to come, and what stands behind them.
use Rattle.std.specs.Prelude.{ℕ, zero, suc, List, [], ◌∷◌, map, drop}
use Rattle.source.specs.declared.fault.Fault.{Fault}
use Rattle.source.specs.declared.fault.Look.{Look}
use Rattle.source.specs.declared.fault.Look.TheVariants.{Wait, Ready, End, Fault as fails}

pub data Item : Type 0 where
  byte : ℕ → Item
  wait : Item

pub data Tail : Type 0 where
  end : Tail
  fault : Fault → Tail

pub record Stream : Type 0 where
  pub items : List Item
  pub tail : Tail

-- the bytes among the items
abbrev pub bytes_in : List Item → List ℕ
bytes_in [] = []
bytes_in (byte b ∷ is) = b ∷ bytes_in is
bytes_in (wait ∷ is) = bytes_in is

abbrev pub bytes_of : Stream → List ℕ
bytes_of s = bytes_in s.items

-- how many waits are among them
abbrev pub waits_in : List Item → ℕ
waits_in [] = 0
waits_in (byte b ∷ is) = waits_in is
waits_in (wait ∷ is) = suc (waits_in is)

-- how many bytes come before the next wait or the end
abbrev pub lead : List Item → ℕ
lead [] = 0
lead (byte b ∷ is) = suc (lead is)
lead (wait ∷ is) = 0

-- a stream of bytes alone, then the end
abbrev pub plain : List ℕ → Stream
plain xs = record { items = map byte xs; tail = end }

-- the stream without its first n items
abbrev pub without : ℕ → Stream → Stream
without n s = record { items = drop n s.items; tail = s.tail }

-- what a look answers
abbrev pub seen_in : List Item → Tail → Look
seen_in [] end = End
seen_in [] (fault f) = fails f
seen_in (byte b ∷ is) t = Ready
seen_in (wait ∷ is) t = Wait

abbrev pub seen : Stream → Look
seen s = seen_in s.items s.tail

-- a look passes a wait that stands first, and nothing else
abbrev pub passed_in : List Item → List Item
passed_in [] = []
passed_in (byte b ∷ is) = byte b ∷ is
passed_in (wait ∷ is) = is

abbrev pub passed : Stream → Stream
passed s = record { items = passed_in s.items; tail = s.tail }

-- the items before byte number n + 1
abbrev pub within : ℕ → List Item → List Item
within n [] = []
within n (wait ∷ is) = wait ∷ within n is
within zero (byte b ∷ is) = []
within (suc n) (byte b ∷ is) = byte b ∷ within n is

-- what stands behind them: f where there is such a byte
abbrev pub tail_within : Fault → ℕ → List Item → Tail → Tail
tail_within f n [] t = t
tail_within f n (wait ∷ is) t = tail_within f n is t
tail_within f zero (byte b ∷ is) t = fault f
tail_within f (suc n) (byte b ∷ is) t = tail_within f n is t

abbrev pub limited : Fault → ℕ → Stream → Stream
limited f n s = record { items = within n s.items; tail = tail_within f n s.items s.tail }
