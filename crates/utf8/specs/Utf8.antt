-- UTF-8, by the table of RFC 3629, section 4, and what the check of some bytes answers.
use Rattle.std.specs.Prelude.{◌≡◌, ℕ, zero, suc, ◌+◌, ◌≤◌, Bool, true, false, cond, ◌&&◌, ◌||◌, List, [], ◌∷◌, ◌++◌, length, take, drop, Ok, Err, Result, ◌==◌}
use Rattle.std.specs.Int.{is_in_range}
use Rattle.utf8.specs.declared.Utf8Error.{Utf8Error}

-- the bytes from low to high
pub record Range : Type 0 where
  pub low : ℕ
  pub high : ℕ

infix 80 ◌to◌
abbrev pub ◌to◌ : ℕ → ℕ → Range
low to high = record { low = low; high = high }

-- UTF8-tail = %x80-BF
abbrev pub tail : Range
tail = 0x80 to 0xBF

-- a range for each byte of a character
abbrev pub Row : Type 0
Row = List Range

abbrev pub fits : Row → List ℕ → Bool
fits [] [] = true
fits [] (b ∷ bs) = false
fits (r ∷ rs) [] = false
fits (r ∷ rs) (b ∷ bs) = is_in_range r.low r.high b && fits rs bs

-- UTF8-1, then UTF8-2, then the four lines of UTF8-3, then the three of UTF8-4
abbrev pub table : List Row
table =
    (0x00 to 0x7F ∷ [])
    ∷ (0xC2 to 0xDF ∷ tail ∷ [])
    ∷ (0xE0 to 0xE0 ∷ 0xA0 to 0xBF ∷ tail ∷ [])
    ∷ (0xE1 to 0xEC ∷ tail ∷ tail ∷ [])
    ∷ (0xED to 0xED ∷ 0x80 to 0x9F ∷ tail ∷ [])
    ∷ (0xEE to 0xEF ∷ tail ∷ tail ∷ [])
    ∷ (0xF0 to 0xF0 ∷ 0x90 to 0xBF ∷ tail ∷ tail ∷ [])
    ∷ (0xF1 to 0xF3 ∷ tail ∷ tail ∷ tail ∷ [])
    ∷ (0xF4 to 0xF4 ∷ 0x80 to 0x8F ∷ tail ∷ tail ∷ [])
    ∷ []

abbrev pub some_fits : List Row → List ℕ → Bool
some_fits [] bs = false
some_fits (r ∷ rs) bs = fits r bs || some_fits rs bs

-- UTF8-octets = *( UTF8-char )
pub data Octets : List ℕ → Type 0 where
  none : Octets []
  more : (c : List ℕ) {bs : List ℕ} → some_fits table c ≡ true → Octets bs → Octets (c ++ bs)

-- n is the length of the longest front that is UTF-8
pub record Longest (bs : List ℕ) (n : ℕ) : Type 0 where
  pub inside : n ≤ length bs
  pub good : Octets (take n bs)
  pub longest : (m : ℕ) → m ≤ length bs → Octets (take m bs) → m ≤ n

-- what an answer says of the bytes
abbrev pub Checks : List ℕ → Result (Unit {0}) Utf8Error → Type 0
Checks bs (Ok u) = Octets bs
Checks bs (Err e) = Longest bs e.valid_up_to × (Octets bs → ⊥)

-- the length of the character that the bytes begin with, 0 where they begin with none
abbrev pub char_length : List Row → List ℕ → ℕ
char_length [] bs = 0
char_length (row ∷ rows) bs = cond (fits row (take (length row) bs)) (length row) (char_length rows bs)

-- the length of the longest front that is UTF-8 and has at most n characters
abbrev pub good_length : ℕ → List ℕ → ℕ
good_length zero bs = 0
good_length (suc n) bs = char_length table bs + good_length n (drop (char_length table bs) bs)

-- the answer: Ok where the longest front is the whole
abbrev pub judged : List ℕ → Result (Unit {0}) Utf8Error
judged bs = cond (good_length (length bs) bs == length bs) (Ok tt) (Err (record { valid_up_to = good_length (length bs) bs }))
