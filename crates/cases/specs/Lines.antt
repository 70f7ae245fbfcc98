-- The lines of a list of cases.
use Rattle.std.specs.Prelude.{◌≡◌, ℕ, ◌-◌, cond, List, [], ◌∷◌, ◌++◌, length, take, Some, None, Ok, Err, OnOk, IsErr, codes, Option, Result, ◌==◌, slice_index, Vec}
use Rattle.std.specs.Borrow.{Bor, MutBor}
use Rattle.std.specs.declared.alloc.Global.{Global}
use Rattle.std.specs.Fn.{Called, Mut}
use Rattle.cases.specs.declared.bad.Bad.{Bad}
use Rattle.cases.specs.declared.bad.Bad.TheVariants.{NoCase, NoMemory}
use Rattle.cases.specs.Words.{before}

-- a carriage return is 13
abbrev pub without_return : List ℕ → List ℕ
without_return bs = cond (length bs == 0) bs (cond (slice_index bs (length bs - 1) == 13) (take (length bs - 1) bs) bs)

-- the lines that are no comment: `#` is 35
abbrev pub case_line : List ℕ → Option (List ℕ)
case_line [] = None
case_line (b ∷ bs) = cond (b == 35) None (Some (b ∷ bs))

-- what stands before the first tab, and that it is no case: a tab is 9, a line's end 10
abbrev pub bad_line : List ℕ → List ℕ
bad_line line = before 9 line ++ 9 ∷ (codes "BADCASE" ++ (10 ∷ []))

-- what is written for a line, where `added` is what was added for the case in its text, with what was answered
abbrev pub Writes : {X E : Type 0} → List ℕ → List ℕ → Result (Result X E) Bad → Result X E → List ℕ → Type 0
Writes text added (Ok written) result lines = (result ≡ written) × (lines ≡ added)
Writes text added (Err NoCase) result lines = OnOk result (lines ≡ bad_line text)
Writes text added (Err NoMemory) result lines = IsErr result

-- that by a call of f at a line's text, with room that is empty before
pub record WritesBy {F X E : Type 0} (g : Mut F (Bor (List ℕ) × (MutBor (Vec ℕ Global) × Unit {0})) (Result (Result X E) Bad × (MutBor (Vec ℕ Global) × Unit {0}))) (f : F) (text : List ℕ) (f' : F) (result : Result X E) (lines : List ℕ) : Type 0 where
  pub line : Bor (List ℕ)
  pub room : MutBor (Vec ℕ Global)
  pub shows : (line.now ≡ text) × (room.now.items ≡ [])
  pub answered : Result (Result X E) Bad
  pub left : MutBor (Vec ℕ Global)
  pub called : Called g f (line, (room, tt)) (answered, (left, tt)) f'
  pub writes : Writes text left.now.items answered result lines
