-- Bytes have one answer that `Checks` allows, and `judged` gives it. Assumes nothing.
use Rattle.std.proofs.Common.{◌≡◌, ℕ, zero, suc, ◌+◌, ◌<◌, ◌≤◌, Bool, true, false, cond, eqb, ◌⊎◌, List, [], ◌∷◌, ◌++◌, length, take, drop, Ok, Err, Decides, Result, sym, refl, ap, ◌∙◌, subst, inl, inr, append_assoc, zero-add, arith, length-append, length-drop, length-take}
use Rattle.std.proofs.lemmas.List.{take_at, drop_at, take_all, take-take, drop-take, take-append-drop, length-take-le}
use Rattle.std.proofs.lemmas.Bool.Decides.{Decides-eqb}
use Rattle.std.specs.Int.{is_in_range}
use Rattle.std.proofs.Math.Bool.{or-false, or-true}
use Rattle.std.proofs.lemmas.Bool.{and_parts}
use Rattle.utf8.proofs.Table.{Rising, rises, below, upto}
use Rattle.utf8.specs.Utf8.{Row, fits, table, some_fits, Octets, none, more, Longest, Checks, char_length, good_length, judged}
use Rattle.utf8.specs.declared.Utf8Error.{Utf8Error}

fits-length : (row : Row) (c : List ℕ) → fits row c ≡ true → length c ≡ length row
fits-length [] [] e = refl
fits-length [] (b ∷ c) e = absurd (cc)
fits-length (r ∷ row) [] e = absurd (cc)
fits-length (r ∷ row) (b ∷ c) e = ap suc (fits-length row c (and_parts (is_in_range r.low r.high b) (fits row c) e).1)

-- a row fits as many bytes as `char_length` says
abbrev Begins : List Row → List ℕ → ℕ → Type 0
Begins rows bs k = (k ≡ 0) ⊎ ((some_fits rows (take k bs) ≡ true) × (k ≤ length bs))

begins : (rows : List Row) (bs : List ℕ) → Begins rows bs (char_length rows bs)
begins [] bs = inl refl
begins (row ∷ rows) bs = go (fits row (take (length row) bs)) refl (begins rows bs)
  where
    go : (w : Bool) → fits row (take (length row) bs) ≡ w → Begins rows bs (char_length rows bs) → Begins (row ∷ rows) bs (cond w (length row) (char_length rows bs))
    go true w ih = inr (rw w, let e = simp length-take at (fits-length row (take (length row) bs) w) in omega arith)
    go false w (inl none') = inl none'
    go false w (inr some) = inr (rw some.0 (or-true (fits row (take (char_length rows bs) bs))), some.1)

-- the character at the front has the length that `char_length` says
char_of : (n : ℕ) (rows : List Row) (b : ℕ) (c ys : List ℕ) → Rising n rows → some_fits rows (b ∷ c) ≡ true → char_length rows (b ∷ (c ++ ys)) ≡ suc (length c)
char_of n [] b c ys h e = absurd (cc)
char_of n ([] ∷ rows) b c ys h e = absurd h
char_of n ((r ∷ row) ∷ rows) b c ys h e = go (char_of (r.high + 1) rows b c ys h.2) (is_in_range r.low r.high b) refl
  where
    go : (some_fits rows (b ∷ c) ≡ true → char_length rows (b ∷ (c ++ ys)) ≡ suc (length c)) → (w : Bool) → is_in_range r.low r.high b ≡ w → char_length ((r ∷ row) ∷ rows) (b ∷ (c ++ ys)) ≡ suc (length c)
    go ih true w =
        let last : b < r.high + 1 = omega (arith, upto r.low r.high b w) in
        let fit : fits row c ≡ true = sym (or-false (fits row c)) ∙ rw (w, below (r.high + 1) rows b c h.2 last) at e in
        let same = fits-length row c fit in
        rw (w, take_at c ys (length row) same, fit) (ap suc (sym same))
    go ih false w = rw w (ih (rw w at e))

-- the front of the length `good_length` is UTF-8
good_front : (n : ℕ) (bs : List ℕ) → Octets (take (good_length n bs) bs) × (good_length n bs ≤ length bs)
good_front zero bs = (none, omega arith)
good_front (suc n) bs = go (good_front n) (char_length table bs) (begins table bs)
  where
    go : ((zs : List ℕ) → Octets (take (good_length n zs) zs) × (good_length n zs ≤ length zs)) → (k : ℕ) → Begins table bs k → Octets (take (k + good_length n (drop k bs)) bs) × (k + good_length n (drop k bs) ≤ length bs)
    go ih k (inl z) = rw (z, zero-add) (ih bs)
    go ih k (inr some) =
        let m = good_length n (drop k bs) in
        let cut : take (k + m) bs ≡ take k bs ++ take m (drop k bs) =
        sym (take-append-drop k (take (k + m) bs))
        ∙ ap (λ l. l ++ drop k (take (k + m) bs)) (take-take k (k + m) bs (omega arith))
        ∙ ap (λ l. take k bs ++ l) (drop-take k m bs) in
        (rw cut (more (take k bs) some.0 (ih (drop k bs)).0), omega (arith, some.1, simp length-drop at (ih (drop k bs)).1))

-- and no longer front is, within n characters
good_most : (n : ℕ) (zs ys : List ℕ) → length zs ≤ n → Octets zs → length zs ≤ good_length n (zs ++ ys)
good_most n zs ys le none = omega arith
good_most n zs ys le (more [] e o) = absurd (cc)
good_most zero zs ys le (more (b ∷ c) {bs} e o) = absurd (omega arith)
good_most (suc n) zs ys le (more (b ∷ c) {bs} e o) =
    let counted : good_length (suc n) (((b ∷ c) ++ bs) ++ ys) ≡ suc (length c) + good_length n (bs ++ ys) =
    ap (good_length (suc n)) (append_assoc (b ∷ c) bs ys)
    ∙ ap (λ k. k + good_length n (drop k (b ∷ (c ++ (bs ++ ys))))) (char_of 0 table b c (bs ++ ys) rises e)
    ∙ ap (λ l. suc (length c) + good_length n l) (drop_at c (bs ++ ys) (length c) refl) in
    let rest = good_most n bs ys (omega (arith, length-append c bs)) o in
    subst (λ k. suc (length (c ++ bs)) ≤ k) (sym counted) (omega (arith, length-append c bs, rest))

longest_front : (bs : List ℕ) → Longest bs (good_length (length bs) bs)
longest_front bs = record {
  inside = (good_front (length bs) bs).1;
  good = (good_front (length bs) bs).0;
  longest = λ m le o.
      let same = length-take-le m bs le in
      let most = good_most (length bs) (take m bs) (drop m bs) (omega arith) o in
      omega (arith, same, rw take-append-drop at most);
}

-- the two answers, by the longest front
pub whole : {bs : List ℕ} {n : ℕ} → Longest bs n → n ≡ length bs → Checks bs (Ok tt)
whole {bs} {n} front e = subst Octets (take_all n bs (omega arith)) front.good

pub part : {bs : List ℕ} {n : ℕ} → Longest bs n → (n ≡ length bs → ⊥) → Checks bs (Err (record { valid_up_to = n }))
part {bs} front apart =
    (front, λ o. let all = front.longest (length bs) (omega arith) (rw (take_all (length bs) bs (omega arith)) o) in apart (omega (arith, all, front.inside)))

unique : (bs : List ℕ) (r s : Result (Unit {0}) Utf8Error) → Checks bs r → Checks bs s → r ≡ s
unique bs (Ok u) (Ok v) g h = refl
unique bs (Ok u) (Err e) g h = absurd (h.1 g)
unique bs (Err d) (Ok v) g h = absurd (g.1 h)
unique bs (Err d) (Err e) g h =
    let same : d.valid_up_to ≡ e.valid_up_to =
    omega (arith, g.0.longest e.valid_up_to h.0.inside h.0.good, h.0.longest d.valid_up_to g.0.inside g.0.good) in
    ap (λ n. Err (record { valid_up_to = n })) same

pub judged_checks : (bs : List ℕ) → Checks bs (judged bs)
judged_checks bs = go (eqb (good_length (length bs) bs) (length bs)) (Decides-eqb (good_length (length bs) bs) (length bs))
  where
    go : (w : Bool) → Decides w (good_length (length bs) bs ≡ length bs) → Checks bs (cond w (Ok tt) (Err (record { valid_up_to = good_length (length bs) bs })))
    go true d = whole (longest_front bs) (d.0 refl)
    go false d = part (longest_front bs) (λ e. absurd (cc (d.1 e)))

pub judges : (bs : List ℕ) (r : Result (Unit {0}) Utf8Error) → Checks bs r → r ≡ judged bs
judges bs r h = unique bs r (judged bs) h (judged_checks bs)
