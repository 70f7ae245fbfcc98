-- What a match on byte strings tells of a text: its length and each of its bytes.
use Rattle.std.proofs.Common.{◌≡◌, ℕ, suc, Bool, true, ◌&&◌, nat_eq, List, [], ◌∷◌, length, refl, ap, get_or, arith}
use Rattle.std.proofs.lemmas.Bool.Decides.{nat_tests}
use Rattle.std.specs.Str.{bytes_eq}

-- the bytes of p stand in s, from index i on
abbrev pub reads : List ℕ → ℕ → List ℕ → Bool
reads s i [] = true
reads s i (b ∷ p) = nat_eq (get_or s i 0) b && reads s (suc i) p

behind_one : (x : ℕ) (s : List ℕ) (i : ℕ) (p : List ℕ) → reads (x ∷ s) (suc i) p ≡ reads s i p
behind_one x s i [] = refl
behind_one x s i (b ∷ p) = ap (λ t. nat_eq (get_or s i 0) b && t) (behind_one x s (suc i) p)

pub spelled : (s p : List ℕ) → bytes_eq s p ≡ (nat_eq (length s) (length p) && reads s 0 p)
spelled [] [] = refl
spelled [] (y ∷ p) = grind (arith, nat_tests)
spelled (x ∷ s) [] = grind (arith, nat_tests)
spelled (x ∷ s) (y ∷ p) = grind (arith, nat_tests, spelled s p, behind_one x s 0 p)
