-- What one byte does to the check's state. These follow the code: what counts is `judged` and `Checks`.
use Rattle.std.specs.Prelude.{ℕ, cond, List, [], ◌∷◌, Some, None, Option, ◌==◌}
use Rattle.std.specs.Int.{is_in_range}
use Rattle.utf8.specs.Utf8.{Row, table}
use Rattle.utf8.specs.declared.Need.{Need}
use Rattle.utf8.specs.declared.Need.TheVariants.{Lead, Second, Tails}

-- the ranges of the bytes after the first byte b, by the table
abbrev pub after : List Row → ℕ → Option Row
after [] b = None
after ([] ∷ rows) b = after rows b
after ((r ∷ row) ∷ rows) b = cond (is_in_range r.low r.high b) (Some row) (after rows b)

-- the state in which these ranges, all of them tails, are still due
abbrev pub due : Row → Need
due [] = Lead
due (r ∷ []) = Tails 1
due (r ∷ q ∷ rs) = Tails 2

-- a byte against the first of the ranges that are due
abbrev pub against : Row → ℕ → Option Need
against [] b = None
against (r ∷ rs) b = cond (is_in_range r.low r.high b) (Some (due rs)) None

-- the second byte b after the first byte a
abbrev pub second_step : ℕ → ℕ → Option Need
second_step a b = elim (after table a) [ None ↦ None | Some row ↦ against row b ]

abbrev pub need_step : Need → ℕ → Option Need
need_step Lead b = cond (is_in_range 0 0x7F b) (Some Lead) (cond (is_in_range 0xC2 0xF4 b) (Some (Second b)) None)
need_step (Second a) b = second_step a b
need_step (Tails n) b = cond (is_in_range 0x80 0xBF b) (Some (cond (n == 2) (Tails 1) Lead)) None
