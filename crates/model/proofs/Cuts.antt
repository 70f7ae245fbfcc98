-- A cut behind some bytes. Assumes nothing.
use Rattle.std.proofs.Common.{◌≡◌, ℕ, zero, suc, refl, ap}
use Rattle.model.specs.Cut.{before, through, behind_one, behind}

pub behind-before : {E : Type 0} (i : ℕ) (e : E) → behind i (before 0 e) ≡ before i e
behind-before zero e = refl
behind-before (suc i) e = ap behind_one (behind-before i e)

pub behind_through : {E : Type 0} (i : ℕ) (e : E) → behind i (through 0 e) ≡ through i e
behind_through zero e = refl
behind_through (suc i) e = ap behind_one (behind_through i e)
