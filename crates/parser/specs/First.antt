-- The first place of a run whose byte ends a construct, told by that byte and the bytes before it. Assumes nothing.
use Rattle.std.specs.Prelude.{◌≡◌, ℕ, ◌<◌, Bool, true, false, cond, not, ◌&&◌, ◌||◌, List, [], ◌∷◌, length, take, is_some, Some, None, Option, ◌==◌, slice_index}
use Rattle.parser.specs.Scan.{Meaning, stop}
use Rattle.parser.specs.Words.{ends_with}

-- whether a byte ends the construct after the bytes before it
abbrev pub Ending : Type 0
Ending = List ℕ → ℕ → Bool

pub record First (ends : Ending) (xs : List ℕ) (k : ℕ) : Type 0 where
  pub inside : k < length xs
  pub here : ends (take k xs) (slice_index xs k) ≡ true
  pub before : (j : ℕ) → j < k → ends (take j xs) (slice_index xs j) ≡ false

-- the scanner stops just at the first such place
abbrev pub StopsAtFirst : Meaning → Ending → Type 0
StopsAtFirst m ends = (xs : List ℕ) (k : ℕ) → (m xs ≡ stop k → First ends xs k) × (First ends xs k → m xs ≡ stop k)

-- the quote that is open after the bytes, where `q` was open before them: `'` (39) and `"` (34) open one, and only the
-- same quote closes it
abbrev pub quote_after : Option ℕ → List ℕ → Option ℕ
quote_after q [] = q
quote_after None (b ∷ bs) = quote_after (cond (b == 39 || b == 34) (Some b) None) bs
quote_after (Some q) (b ∷ bs) = quote_after (cond (b == q) None (Some q)) bs

-- `>` (62) with no quote open
abbrev pub ends_tag : Ending
ends_tag before b = not (is_some (quote_after None before)) && b == 62

-- `>` right after the word
abbrev pub ends_after : List ℕ → Ending
ends_after word before b = ends_with word before && b == 62
