-- What stands before a separator and behind it.
use Rattle.std.proofs.Common.{◌≡◌, ℕ, suc, ◌+◌, ◌-◌, ◌<◌, ◌==◌, Bool, true, false, not, cond, ltb, List, [], ◌∷◌, length, take, drop, Some, None, Option, refl, ap, sym, ◌∙◌, arith, length-drop, take_all, position, Bor}
use borrow.Author.Tests.{ltb-true, ltb-false}
use Rattle.std.specs.List.{before_first, position_or_len}
use Rattle.std.specs.Option.{option_map}
use Rattle.std.proofs.lemmas.List.Elements.{All-from_get_or}
use Rattle.std.proofs.lemmas.List.Splits.{slice_split_first, slice_split_none}
use Rattle.std.proofs.lemmas.List.Sums.{prefix_len_passes}
use Rattle.cases.specs.Words.{before, behind, split}

module _ {A : Type 0} (p : A → Bool) (xs : List A) where
  pub before_found : (i : ℕ) → position p xs ≡ Some i → before_first p xs ≡ take i xs
  before_found i = go (ltb (position_or_len p xs) (length xs))
    where
      go : (v : Bool) → cond v (Some (position_or_len p xs)) None ≡ Some i → before_first p xs ≡ take i xs
      go true e = let same : position_or_len p xs ≡ i = cc in ap (λ n. take n xs) same
      go false e = cc

  pub before_none : position p xs ≡ None → before_first p xs ≡ xs
  before_none = go (ltb (position_or_len p xs) (length xs)) refl
    where
      go : (v : Bool) → ltb (position_or_len p xs) (length xs) ≡ v → cond v (Some (position_or_len p xs)) None ≡ None → before_first p xs ≡ xs
      go true h e = cc
      go false h e = take_all (position_or_len p xs) xs (ltb-false _ _ h)

pub all_behind : {A : Type 0} (i : ℕ) (xs : List A) → take (length xs - i) (drop i xs) ≡ drop i xs
all_behind i xs = take_all (length xs - i) (drop i xs) (simp length-drop (omega arith))

-- the parts of what is left
abbrev pub parts : ℕ → Option (List ℕ) → List (List ℕ)
parts s None = []
parts s (Some text) = split s text

pub split_cut : (s : ℕ) (bs : List ℕ) → split s bs ≡ before s bs ∷ parts s (behind s bs)
split_cut s bs = go (ltb n (length bs)) refl
  where
    p : ℕ → Bool
    p b = b == s

    n : ℕ
    n = position_or_len p bs

    no : (v : Bool) → not v ≡ true → v ≡ false
    no true h = cc
    no false h = refl

    go : (v : Bool) → ltb n (length bs) ≡ v → split s bs ≡ before s bs ∷ parts s (option_map (λ i. drop (i + 1) bs) (cond v (Some n) None))
    go true h = slice_split_first p bs 0 (ltb-true _ _ h)
    go false h =
        let all = ltb-false n (length bs) h in
        slice_split_none p bs (All-from_get_or (λ x. p x ≡ false) bs 0 (λ i l. no _ (prefix_len_passes (λ x. not (p x)) bs i 0 (omega arith))))
        ∙ ap (λ xs. xs ∷ []) (sym (take_all n bs all))

-- how much of a text is left: one more than its bytes
abbrev pub left_in : Option (Bor (List ℕ)) → ℕ
left_in None = 0
left_in (Some text) = suc (length text.now)

pub left_behind : (s : ℕ) (text : Bor (List ℕ)) (rest : Option (Bor (List ℕ))) → option_map (λ x. x.now) rest ≡ behind s text.now → left_in rest < left_in (Some text)
left_behind s text None e = omega arith
left_behind s text (Some r) e = go (ltb n (length text.now)) refl e
  where
    n : ℕ
    n = position_or_len (λ b. b == s) text.now

    go : (v : Bool) → ltb n (length text.now) ≡ v → Some r.now ≡ option_map (λ i. drop (i + 1) text.now) (cond v (Some n) None) → suc (length r.now) < suc (length text.now)
    go true h q =
        let same : r.now ≡ drop (n + 1) text.now = cc in
        let l = ltb-true _ _ h in
        omega (arith, ap length same, length-drop (n + 1) text.now)
    go false h q = cc
