-- Sets of texts, as a grammar's productions write them. A text is the list of its code points. Assumes nothing.
use Rattle.std.specs.Prelude.{◌≡◌, ℕ, Bool, true, List, [], ◌∷◌, ◌++◌}

infixr 6 ◌⨾◌
infixr 5 ◌∣◌
infix 7 ◌less◌
abbrev pub Lang : Type 1
Lang = List ℕ → Type 0

-- 'word'
pub data Word (w : List ℕ) : List ℕ → Type 0 where
  word : Word w w

-- [class]: one code point
pub data One (class : ℕ → Bool) : List ℕ → Type 0 where
  one : (c : ℕ) → class c ≡ true → One class (c ∷ [])

-- P Q
pub data ◌⨾◌ (P Q : Lang) : List ℕ → Type 0 where
  seq : {xs ys : List ℕ} → P xs → Q ys → (P ⨾ Q) (xs ++ ys)

-- P | Q
pub data ◌∣◌ (P Q : Lang) : List ℕ → Type 0 where
  left : {xs : List ℕ} → P xs → (P ∣ Q) xs
  right : {xs : List ℕ} → Q xs → (P ∣ Q) xs

-- P?
pub data Opt (P : Lang) : List ℕ → Type 0 where
  absent : Opt P []
  present : {xs : List ℕ} → P xs → Opt P xs

-- P*
pub data Star (P : Lang) : List ℕ → Type 0 where
  none : Star P []
  more : {xs ys : List ℕ} → P xs → Star P ys → Star P (xs ++ ys)

-- P+
abbrev pub Plus : Lang → Lang
Plus P = P ⨾ Star P

-- P - Q
abbrev pub ◌less◌ : Lang → Lang → Lang
◌less◌ P Q xs = P xs × (Q xs → ⊥)
