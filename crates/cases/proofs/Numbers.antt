-- Decimal numbers, a digit at a time.
use Rattle.std.proofs.Common.{◌≡◌, ℕ, ◌+◌, ◌*◌, ◌<◌, ◌≤◌, nat_lt, Bool, true, false, ◌&&◌, cond, leb, List, [], ◌∷◌, length, get_or, take, Some, None, Option, sym, refl, ap, ◌∙◌, arith, take_all}
use Rattle.std.specs.Char.{digit_value, is_ascii_digit}
use Rattle.std.specs.List.{list_all}
use Rattle.std.specs.Str.{all_ascii_digits}
use Rattle.std.specs.Str.Parse.{digits_value}
use Rattle.std.proofs.lemmas.Bool.{leb-true, leb-false, le-leb, ltb-true, ltb-false}
use Rattle.std.proofs.lemmas.Int.Digits.{digits_value_more}
use Rattle.std.proofs.lemmas.List.Folds.{list_all_at, list_all_more}
use Rattle.std.proofs.lemmas.Str.{digit_value_digit}
use Rattle.std.proofs.lemmas.Str.Parse.{digit_from_value, digits_value-take-le}
use Rattle.cases.specs.Words.{at_most, appended_of, decimal_of}

list_all-digits : (ds : List ℕ) → list_all is_ascii_digit ds ≡ all_ascii_digits ds
list_all-digits [] = refl
list_all-digits (d ∷ ds) = rw (list_all-digits ds) refl

decimal_is : (most : ℕ) (ds : List ℕ) → 0 < length ds → decimal_of most ds ≡ cond (list_all is_ascii_digit ds) (at_most most (digits_value 10 ds)) None
decimal_is most [] h = absurd (omega arith)
decimal_is most (d ∷ ds) h = ap (λ b. cond b (at_most most (digits_value 10 (d ∷ ds))) None) (sym (list_all-digits (d ∷ ds)))

-- the first i digits make n
pub record Turn (most : ℕ) (ds : List ℕ) (i n : ℕ) : Type 0 where
  pub digits : list_all is_ascii_digit (take i ds) ≡ true
  pub value : n ≡ digits_value 10 (take i ds)
  pub small : n ≤ most

pub start : (most : ℕ) (ds : List ℕ) → Turn most ds 0 0
start most ds = record { digits = refl; value = refl; small = omega arith }

too_large : (most n : ℕ) → most < n → at_most most n ≡ None
too_large most n h = go (leb n most) refl
  where
    go : (v : Bool) → leb n most ≡ v → cond v (Some n) None ≡ None
    go true e = let l = leb-true n most e in absurd (omega arith)
    go false e = refl

digit_is : (b : ℕ) (v : Bool) → nat_lt (digit_value b) 10 ≡ v → is_ascii_digit b ≡ v
digit_is b true h =
    let r = digit_from_value b (ltb-true (digit_value b) 10 h) in
    rw (le-leb 48 b (omega arith), le-leb b 57 (omega arith)) refl
digit_is b false h = go (leb 48 b) (leb b 57) refl refl
  where
    go : (u v : Bool) → leb 48 b ≡ u → leb b 57 ≡ v → (u && v) ≡ false
    go true true f g =
        let low = leb-true 48 b f in
        let high = leb-true b 57 g in
        let value = digit_value_digit b (low, high) in
        let no = ltb-false (digit_value b) 10 h in
        absurd (omega arith)
    go true false f g = refl
    go false v f g = refl

module _ (most : ℕ) (ds : List ℕ) (i n : ℕ) (t : Turn most ds i n) (l : i < length ds) where
  more : (v : Bool) → nat_lt (digit_value (get_or ds i 0)) 10 ≡ v → list_all is_ascii_digit (take (i + 1) ds) ≡ v
  more v h = list_all_more is_ascii_digit ds i 0 l ∙ rw t.digits (digit_is (get_or ds i 0) v h)

  longer : digits_value 10 (take (i + 1) ds) ≡ n * 10 + digit_value (get_or ds i 0)
  longer = digits_value_more 10 ds i l ∙ ap (λ x. x * 10 + digit_value (get_or ds i 0)) (sym t.value)

  pub next : (m : ℕ) → Some m ≡ appended_of most n (get_or ds i 0) → Turn most ds (i + 1) m
  next m = go (nat_lt (digit_value (get_or ds i 0)) 10) refl (leb (n * 10 + digit_value (get_or ds i 0)) most) refl
    where
      go : (v : Bool) → nat_lt (digit_value (get_or ds i 0)) 10 ≡ v → (w : Bool) → leb (n * 10 + digit_value (get_or ds i 0)) most ≡ w → Some m ≡ cond v (cond w (Some (n * 10 + digit_value (get_or ds i 0))) None) None → Turn most ds (i + 1) m
      go true h true k e =
          let same : m ≡ n * 10 + digit_value (get_or ds i 0) = cc in
          let small = leb-true _ _ k in
          record { digits = more true h; value = same ∙ sym longer; small = omega arith }
      go true h false k e = cc
      go false h w k e = cc

  pub refused : None ≡ appended_of most n (get_or ds i 0) → None ≡ decimal_of most ds
  refused = go (nat_lt (digit_value (get_or ds i 0)) 10) refl (leb (n * 10 + digit_value (get_or ds i 0)) most) refl
    where
      go : (v : Bool) → nat_lt (digit_value (get_or ds i 0)) 10 ≡ v → (w : Bool) → leb (n * 10 + digit_value (get_or ds i 0)) most ≡ w → None ≡ cond v (cond w (Some (n * 10 + digit_value (get_or ds i 0))) None) None → None ≡ decimal_of most ds
      go true h true k e = cc
      go true h false k e =
          let large = leb-false _ _ k in
          let rest = digits_value-take-le 10 ds (i + 1) (omega arith) in
          let none = too_large most (digits_value 10 ds) (omega (arith, longer)) in
          sym (decimal_is most ds (omega arith) ∙ ap (λ o. cond (list_all is_ascii_digit ds) o None) none ∙ same (list_all is_ascii_digit ds))
        where
          same : (b : Bool) → cond {A = Option ℕ} b None None ≡ None
          same true = refl
          same false = refl
      go false h w k e =
          sym (decimal_is most ds (omega arith) ∙ ap (λ b. cond b (at_most most (digits_value 10 ds)) None) (list_all_at is_ascii_digit ds i 0 l (digit_is (get_or ds i 0) false h)))

pub whole : (most : ℕ) (ds : List ℕ) (i n : ℕ) → 0 < length ds → Turn most ds i n → length ds ≤ i → Some n ≡ decimal_of most ds
whole most ds i n p t h =
    let all = take_all i ds h in
    let value : n ≡ digits_value 10 ds = t.value ∙ ap (digits_value 10) all in
    sym (decimal_is most ds p ∙ ap (λ b. cond b (at_most most (digits_value 10 ds)) None) (ap (list_all is_ascii_digit) (sym all) ∙ t.digits)
    ∙ ap (at_most most) (sym value) ∙ ap (λ b. cond b (Some n) None) (le-leb n most t.small))
