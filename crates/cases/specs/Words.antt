-- The words of a case: the parts between separators, decimal numbers, bytes in hexadecimal digits.
use Rattle.std.specs.Prelude.{ℕ, ◌+◌, ◌*◌, cond, List, [], ◌∷◌, Some, None, codes, Option, ◌==◌, nat_le, nat_lt, drop, position}
use Rattle.std.specs.Char.{digit_value}
use Rattle.std.specs.List.{before_first, slice_split}
use Rattle.std.specs.Option.{option_map}
use Rattle.std.specs.Str.{all_ascii_digits, bytes_eq}
use Rattle.std.specs.Str.Parse.{digits_value}

-- what stands before the first s
abbrev pub before : ℕ → List ℕ → List ℕ
before s = before_first (λ b. b == s)

-- what stands behind it
abbrev pub behind : ℕ → List ℕ → Option (List ℕ)
behind s bs = option_map (λ i. drop (i + 1) bs) (position (λ b. b == s) bs)

-- the parts between the separators s
abbrev pub split : ℕ → List ℕ → List (List ℕ)
split s = slice_split (λ b. b == s)

abbrev pub bound : {A B : Type 0} → Option A → (A → Option B) → Option B
bound None f = None
bound (Some a) f = f a

abbrev pub at_most : ℕ → ℕ → Option ℕ
at_most most n = cond (nat_le n most) (Some n) None

-- what the parts read as, if each does
abbrev pub every : {A : Type 0} → (List ℕ → Option A) → List (List ℕ) → Option (List A)
every f [] = Some []
every f (w ∷ ws) = bound (f w) (λ a. bound (every f ws) (λ more. Some (a ∷ more)))

-- `-` stands for none
abbrev pub none_or : {A : Type 0} → (List ℕ → Option (List A)) → List ℕ → Option (List A)
none_or f text = cond (bytes_eq text (codes "-")) (Some []) (f text)

-- the number n with the digit b behind its own, where it is no more than `most`
abbrev pub appended_of : ℕ → ℕ → ℕ → Option ℕ
appended_of most n b = cond (nat_lt (digit_value b) 10) (at_most most (n * 10 + digit_value b)) None

-- the number of decimal digits, of which there is at least one, where it is no more than `most`
abbrev pub decimal_of : ℕ → List ℕ → Option ℕ
decimal_of most [] = None
decimal_of most (b ∷ bs) = cond (all_ascii_digits (b ∷ bs)) (at_most most (digits_value 10 (b ∷ bs))) None

abbrev pub hex_digit_of : ℕ → Option ℕ
hex_digit_of b = cond (nat_lt (digit_value b) 16) (Some (digit_value b)) None

abbrev pub hex_byte_of : ℕ → ℕ → Option ℕ
hex_byte_of high low = bound (hex_digit_of high) (λ h. bound (hex_digit_of low) (λ l. Some (h * 16 + l)))

-- the bytes of pairs of digits
abbrev pub pairs_of : List ℕ → Option (List ℕ)
pairs_of [] = Some []
pairs_of (high ∷ []) = None
pairs_of (high ∷ low ∷ ds) = bound (hex_byte_of high low) (λ b. bound (pairs_of ds) (λ bs. Some (b ∷ bs)))
