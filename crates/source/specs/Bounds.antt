-- That no source shows more than the bytes before the next wait: what the sources cite.
use Rattle.std.specs.Prelude.{◌≡◌, ℕ, zero, suc, ◌≤◌, min, List, [], ◌∷◌, ◌++◌, map, length}
use Rattle.std.proofs.Common.{arith}
use Rattle.source.specs.Stream.{Item, byte, wait, lead, within}

pub whole_bounded : (xs : List ℕ) → length xs ≤ lead (map byte xs)
whole_bounded [] = omega arith
whole_bounded (x ∷ xs) = omega (arith, whole_bounded xs)

pub cut_bounded : (xs : List ℕ) (is : List Item) → length xs ≤ lead (map byte xs ++ is)
cut_bounded [] is = omega arith
cut_bounded (x ∷ xs) is = omega (arith, cut_bounded xs is)

pub narrow_bounded : (shown : ℕ) {ready bound : ℕ} → ready ≤ bound → min shown ready ≤ bound
narrow_bounded shown h = omega arith

pub lead-within : (n : ℕ) (is : List Item) → lead (within n is) ≡ min n (lead is)
lead-within n [] = omega arith
lead-within n (wait ∷ is) = omega arith
lead-within zero (byte b ∷ is) = omega arith
lead-within (suc n) (byte b ∷ is) = omega (arith, lead-within n is)

pub quota_bounded : (left : ℕ) (is : List Item) (ready : ℕ) → ready ≤ lead is → min left ready ≤ lead (within left is)
quota_bounded left is ready h = omega (arith, lead-within left is)
