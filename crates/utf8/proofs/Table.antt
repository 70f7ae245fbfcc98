-- The rows of the table: a first byte has at most one row. Assumes nothing.
use Rattle.std.proofs.Common.{◌≡◌, ℕ, ◌+◌, ◌<◌, ◌≤◌, true, false, ◌&&◌, ◌||◌, List, [], ◌∷◌, refl, ap, ◌∙◌, arith, lit≤, rules}
use Rattle.std.specs.Int.{is_in_range}
use Rattle.utf8.specs.Utf8.{Row, fits, table, some_fits}

-- the first bytes of the rows rise, so at most one row begins with a byte
abbrev pub Rising : ℕ → List Row → Type 0
Rising n [] = Unit {0}
Rising n ([] ∷ rows) = ⊥
Rising n ((r ∷ row) ∷ rows) = (n ≤ r.low) × (r.low ≤ r.high) × Rising (r.high + 1) rows

pub rises : Rising 0 table
rises = (lit≤ tt, lit≤ tt, (lit≤ tt, lit≤ tt, (lit≤ tt, lit≤ tt, (lit≤ tt, lit≤ tt, (lit≤ tt, lit≤ tt, (lit≤ tt, lit≤ tt, (lit≤ tt, lit≤ tt, (lit≤ tt, lit≤ tt, (lit≤ tt, lit≤ tt, tt)))))))))

outside : (low high b : ℕ) → b < low → is_in_range low high b ≡ false
outside low high b lt = search rules

pub below : (n : ℕ) (rows : List Row) (b : ℕ) (c : List ℕ) → Rising n rows → b < n → some_fits rows (b ∷ c) ≡ false
below n [] b c h lt = refl
below n ([] ∷ rows) b c h lt = absurd h
below n ((r ∷ row) ∷ rows) b c h lt =
    ap (λ a. (a && fits row c) || some_fits rows (b ∷ c)) (outside r.low r.high b (omega (arith, h.0))) ∙ below (r.high + 1) rows b c h.2 (omega (arith, h.0, h.1))

pub upto : (low high b : ℕ) → is_in_range low high b ≡ true → b ≤ high
upto low high b e = search rules
