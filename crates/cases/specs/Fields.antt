-- The fields of a line.
use Rattle.std.specs.Prelude.{ℕ, cond, List, [], ◌∷◌, length, Some, None, Option, ◌==◌, nat_le}
use Rattle.std.specs.List.{list_any}
use Rattle.cases.specs.Words.{before, behind, bound, split, decimal_of}

-- the next field, which may not be empty, and what stands behind it
abbrev pub filled : List ℕ → Option (List ℕ) → Option (List ℕ × Option (List ℕ))
filled [] rest = None
filled (b ∷ bs) rest = Some (b ∷ bs, rest)

-- a tab is 9
abbrev pub field_of : Option (List ℕ) → Option (List ℕ × Option (List ℕ))
field_of line = bound line (λ text. filled (before 9 text) (behind 9 text))

-- none is empty; a tab is 9
abbrev pub fields_of : List ℕ → Option (List (List ℕ))
fields_of line = cond (list_any (λ field. length field == 0) (split 9 line)) None (Some (split 9 line))

-- no more than `most`
abbrev pub few : ℕ → List (List ℕ) → Option (List (List ℕ))
few most fields = cond (nat_le (length fields) most) (Some fields) None

-- the width and the quota: the largest where they are left out
abbrev pub limits_of : List (List ℕ) → Option (ℕ × ℕ)
limits_of [] = Some (65535, 4294967295)
limits_of (narrow ∷ []) = bound (decimal_of 65535 narrow) (λ k. Some (k, 4294967295))
limits_of (narrow ∷ quota ∷ []) = bound (decimal_of 65535 narrow) (λ k. bound (decimal_of 4294967295 quota) (λ q. Some (k, q)))
limits_of (narrow ∷ quota ∷ more ∷ fields) = None
