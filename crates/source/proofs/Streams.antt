-- Laws of streams. Assumes nothing.
use Rattle.std.proofs.Common.{◌≡◌, ℕ, zero, suc, ◌-◌, ◌<◌, ◌≤◌, Bool, List, [], ◌∷◌, ◌++◌, map, length, take, drop, sym, refl, ap, ◌∙◌, arith, Option, Some, None, MatchOption, is_some, if◌then◌else◌}
use Rattle.std.specs.List.{IsSplitAt}
use Rattle.std.proofs.lemmas.List.{drop-map}
use Rattle.source.specs.declared.fault.Fault.{Fault}
use Rattle.source.specs.declared.fault.Look.TheVariants.{Ready}
use Rattle.source.specs.Stream.{Item, byte, wait, Tail, end, fault, Stream, lead, bytes_in, plain, within, tail_within, limited, seen, seen_in, passed, passed_in, without}

pub bytes_plain : (xs : List ℕ) → bytes_in (map byte xs) ≡ xs
bytes_plain [] = refl
bytes_plain (x ∷ xs) = ap (λ r. x ∷ r) (bytes_plain xs)

-- the first n items, where no wait is among them, are the first n bytes
pub split-lead : (n : ℕ) (is : List Item) → n ≤ lead is → is ≡ map byte (take n (bytes_in is)) ++ drop n is
split-lead zero is h = refl
split-lead (suc n) [] h = absurd (omega arith)
split-lead (suc n) (byte b ∷ is) h = ap (λ r. byte b ∷ r) (split-lead n is (omega arith))
split-lead (suc n) (wait ∷ is) h = absurd (omega arith)

pub length-lead : (n : ℕ) (is : List Item) → n ≤ lead is → length (take n (bytes_in is)) ≡ n
length-lead zero is h = refl
length-lead (suc n) [] h = absurd (omega arith)
length-lead (suc n) (byte b ∷ is) h = ap suc (length-lead n is (omega arith))
length-lead (suc n) (wait ∷ is) h = absurd (omega arith)

pub lead-drop : (n : ℕ) (is : List Item) → n ≤ lead is → lead (drop n is) ≡ lead is - n
lead-drop zero is h = omega arith
lead-drop (suc n) [] h = absurd (omega arith)
lead-drop (suc n) (byte b ∷ is) h = let e = lead-drop n is (omega arith) in omega arith
lead-drop (suc n) (wait ∷ is) h = absurd (omega arith)

-- a slice with some byte
pub seen_some : (xs : List ℕ) → 0 < length xs → seen (plain xs) ≡ Ready
seen_some [] h = absurd (omega arith)
seen_some (x ∷ xs) h = refl

pub passed-plain : (xs : List ℕ) → passed (plain xs) ≡ plain xs
passed-plain [] = refl
passed-plain (x ∷ xs) = refl

pub without-plain : (n : ℕ) (xs : List ℕ) → without n (plain xs) ≡ plain (drop n xs)
without-plain n xs = ap (λ is. record { items = is; tail = end }) (drop-map byte n xs)

-- of a slice that f makes a stream of, the first n bytes split off, or none where it has fewer
pub IsSplitAt-without : {B : Type 0} (now : B → List ℕ) (f : List ℕ → Stream) (n : ℕ) (xs ys : List ℕ) (part : Option B) {took : Bool}
    → (n ≤ length xs → without n (f xs) ≡ f (drop n xs)) → MatchOption part (ys ≡ xs) (λ x. IsSplitAt xs n (now x) ys)
    → took ≡ is_some part → f ys ≡ (if took then without n (f xs) else f xs)
IsSplitAt-without now f n xs ys None law cut e = ap f cut ∙ ap (λ b. if b then without n (f xs) else f xs) (sym e)
IsSplitAt-without now f n xs ys (Some x) law cut e = ap f cut.2 ∙ sym (law cut.0) ∙ ap (λ b. if b then without n (f xs) else f xs) (sym e)

-- a look finds no byte where none comes before the next wait
pub not_ready : {P : Type 0} (is : List Item) (t : Tail) → lead is ≡ 0 → seen_in is t ≡ Ready → P
not_ready [] end h e = absurd (cc)
not_ready [] (fault f) h e = absurd (cc)
not_ready (byte b ∷ is) t h e = absurd (omega arith)
not_ready (wait ∷ is) t h e = absurd (cc)

-- a look that finds one changes nothing
pub passed_ready : (s : Stream) → Ready ≡ seen s → passed s ≡ s
passed_ready s e = ap (λ is. record { items = is; tail = s.tail }) (go s.items e)
  where
    go : (is : List Item) → Ready ≡ seen_in is s.tail → passed_in is ≡ is
    go [] h = refl
    go (byte b ∷ is) h = refl
    go (wait ∷ is) h = not_ready (wait ∷ is) s.tail refl (sym h)

-- under a limit
pub limited-without : (f : Fault) (k n : ℕ) (s t : Stream) → k ≤ n → k ≤ lead s.items → t ≡ without k s → limited f (n - k) t ≡ without k (limited f n s)
limited-without f k n s t h l e = let r = go k n s.items h l in ap (limited f (n - k)) e ∙ (λ i. record { items = r.0 i; tail = r.1 i })
  where
    go : (k n : ℕ) (is : List Item) → k ≤ n → k ≤ lead is
        → (within (n - k) (drop k is) ≡ drop k (within n is)) × (tail_within f (n - k) (drop k is) s.tail ≡ tail_within f n is s.tail)
    go zero n is h l = let e : n - 0 ≡ n = omega arith in (ap (λ m. within m is) e, ap (λ m. tail_within f m is s.tail) e)
    go (suc k) n [] h l = absurd (omega arith)
    go (suc k) n (wait ∷ is) h l = absurd (omega arith)
    go (suc k) zero (byte b ∷ is) h l = absurd (omega arith)
    go (suc k) (suc n) (byte b ∷ is) h l =
        let r = go k n is (omega arith) (omega arith) in
        let e : suc n - suc k ≡ n - k = omega arith in
        (ap (λ m. within m (drop k is)) e ∙ r.0, ap (λ m. tail_within f m (drop k is) s.tail) e ∙ r.1)

pub take_within : (k n : ℕ) (is : List Item) → k ≤ n → k ≤ lead is → take k (bytes_in (within n is)) ≡ take k (bytes_in is)
take_within zero n is h l = refl
take_within (suc k) n [] h l = refl
take_within (suc k) n (wait ∷ is) h l = absurd (omega arith)
take_within (suc k) zero (byte b ∷ is) h l = absurd (omega arith)
take_within (suc k) (suc n) (byte b ∷ is) h l = ap (λ r. b ∷ r) (take_within k n is (omega arith) (omega arith))
