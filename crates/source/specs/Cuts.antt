-- How a list of entries cuts bytes: an entry other than 0 is a frame of so many bytes, or of those that remain; 0 is a wait; the rest is the last frame.
use Rattle.std.specs.Prelude.{ℕ, zero, suc, ◌-◌, min, List, [], ◌∷◌, ◌++◌, map, take, drop}
use Rattle.source.specs.Stream.{Item, byte, wait, Tail, end, fault, Stream}
use Rattle.source.specs.declared.fault.Fault.TheVariants.{Broken}

-- the items of the bytes bs
abbrev pub pieces : List ℕ → List ℕ → List Item
pieces [] bs = map byte bs
pieces (zero ∷ es) bs = wait ∷ pieces es bs
pieces (suc n ∷ es) bs = map byte (take (suc n) bs) ++ pieces es (drop (suc n) bs)

-- what stands behind them
abbrev pub ending : ℕ → Tail
ending zero = end
ending (suc code) = fault (Broken (suc code))

abbrev pub cut_at : List ℕ → List ℕ → ℕ → Stream
cut_at es bs code = record { items = pieces es bs; tail = ending code }

-- a frame of n bytes before others: an empty one does not count
abbrev pub before : ℕ → List ℕ → List ℕ
before zero ns = ns
before (suc n) ns = suc n ∷ ns

-- how many bytes each frame holds, where n remain
abbrev pub sizes : List ℕ → ℕ → List ℕ
sizes [] n = before n []
sizes (e ∷ es) n = before (min e n) (sizes es (n - e))

-- the same with the first n bytes of the first frame gone
abbrev pub less : ℕ → List ℕ → List ℕ
less zero ns = ns
less (suc n) [] = []
less (suc n) (m ∷ ns) = before (m - suc n) ns
