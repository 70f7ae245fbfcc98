-- What a scanner means: for every run of bytes, the place at which it stops, or that it is open. Assumes nothing.
use Rattle.std.specs.Prelude.{◌≡◌, ℕ, ◌+◌, ◌-◌, ◌<◌, List, ◌++◌, length, take, IfSome, Some, None, Option}
use Rattle.parser.specs.declared.errors.SyntaxError.{SyntaxError}

-- `stop k`: the byte at place k ends the construct. `unclosed due`: no byte does, and `due content` is the fault to report if
-- the input ends here, where `content` is the piece from its `<`
pub data Verdict : Type 0 where
  stop : ℕ → Verdict
  unclosed : (List ℕ → SyntaxError) → Verdict

-- what `feed` answers
abbrev pub answer : Verdict → Option ℕ
answer (stop k) = Some k
answer (unclosed due) = None

-- the verdict on what follows the first n bytes
abbrev pub less : ℕ → Verdict → Verdict
less n (stop k) = stop (k - n)
less n (unclosed due) = unclosed due

-- the verdict on what n more bytes precede
abbrev pub later : ℕ → Verdict → Verdict
later n (stop k) = stop (n + k)
later n (unclosed due) = unclosed due

-- e is the fault that is due at the end of the input; none is due after a stop
abbrev pub Due : Verdict → List ℕ → SyntaxError → Type 0
Due (stop k) content e = ⊥
Due (unclosed due) content e = e ≡ due content

abbrev pub Meaning : Type 0
Meaning = List ℕ → Verdict

-- a stop lies within the run, and every run with the same bytes through that place stops there
abbrev pub Prefix : Meaning → Type 0
Prefix m = (xs : List ℕ) (k : ℕ) → m xs ≡ stop k → (k < length xs) × ((ys : List ℕ) → take (k + 1) ys ≡ take (k + 1) xs → m ys ≡ stop k)

-- after the run xs without a stop, `new` means for every further run what `old` means for both joined
abbrev pub Follows : Meaning → Meaning → List ℕ → Type 0
Follows old new xs = (ys : List ℕ) → new ys ≡ less (length xs) (old (xs ++ ys))

-- what `feed` tells of a run: `old` is the meaning before and `new` the meaning after
pub record Fed (old new : Meaning) (xs : List ℕ) (r : Option ℕ) : Type 0 where
  -- the place at which the meaning stops, or none
  pub place : r ≡ answer (old xs)
  -- a place lies within the run
  pub inside : IfSome r (λ k. k < length xs)
  -- after none, the meaning for every further run is the old meaning for both runs joined
  pub further : r ≡ None → Follows old new xs
