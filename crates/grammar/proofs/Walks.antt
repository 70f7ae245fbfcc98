-- Where bytes lead a machine, by computation. Assumes nothing.
use Rattle.std.proofs.Common.{◌≡◌, ℕ, suc, ◌<◌, ◌≤◌, Bool, true, false, cond, ltb, List, [], ◌∷◌, ◌++◌, length, get_or, sym, refl, ap, ◌∙◌, subst, ⊎_elim, append-nil, one-add, arith, ltb-true}
use lib.Utf8.{encode, encodes}
use Rattle.std.proofs.str.Laws.{order}
use Rattle.std.proofs.lemmas.Str.{encode_ascii, inside_one, length-le-encodes}
use Rattle.parser.specs.Scan.{later}
use Rattle.parser.specs.Bytes.{Move, halt, goes, machine}
use Rattle.parser.specs.declared.errors.SyntaxError.{SyntaxError}
use Rattle.parser.specs.Machines.{Along, along_none, later-later, machine-cons}

pub record Machine : Type 1 where
  pub State : Type 0
  pub step : State → ℕ → Move State
  pub due : State → List ℕ → SyntaxError

abbrev pub then : {A B : Type 0} → Move A → (A → Move B) → Move B
then halt f = halt
then (goes t) f = f t

abbrev pub walk : (M : Machine) → M.State → List ℕ → Move M.State
walk M s [] = goes s
walk M s (b ∷ bs) = then (M.step s b) (λ t. walk M t bs)

pub walk-append : (M : Machine) (s t : M.State) (xs ys : List ℕ) → walk M s xs ≡ goes t → walk M s (xs ++ ys) ≡ walk M t ys
walk-append M s t [] ys e = let same : s ≡ t = cc in ap (λ u. walk M u ys) same
walk-append M s t (x ∷ xs) ys e = go (λ u. walk-append M u t xs ys) (M.step s x) e
  where
    go : ((u : M.State) → walk M u xs ≡ goes t → walk M u (xs ++ ys) ≡ walk M t ys) → (m : Move M.State) → then m (λ u. walk M u xs) ≡ goes t → then m (λ u. walk M u (xs ++ ys)) ≡ walk M t ys
    go ih halt q = absurd (cc)
    go ih (goes u) q = ih u q

pub walk_byte : (M : Machine) (s t : M.State) (b : ℕ) → M.step s b ≡ goes t → walk M s (b ∷ []) ≡ goes t
walk_byte M s t b e = ap (λ m. then m goes) e

-- the machine's meaning after a walk
pub walk_along : (M : Machine) (s t : M.State) (bs : List ℕ) → walk M s bs ≡ goes t → Along M.step M.due s t bs
walk_along M s t [] e = let same : s ≡ t = cc in subst (λ u. Along M.step M.due s u []) same (along_none M.step M.due s)
walk_along M s t (b ∷ bs) e = go (λ u. walk_along M u t bs) (M.step s b) refl e
  where
    go : ((u : M.State) → walk M u bs ≡ goes t → Along M.step M.due u t bs) → (m : Move M.State) → M.step s b ≡ m → then m (λ u. walk M u bs) ≡ goes t → Along M.step M.due s t (b ∷ bs)
    go ih halt q r zs = absurd (cc)
    go ih (goes u) q r zs =
        machine-cons M.step M.due s b (bs ++ zs) (goes u) q
        ∙ ap (later 1) (ih u r zs)
        ∙ later-later 1 (length bs) (machine M.step M.due t zs)
        ∙ ap (λ n. later n (machine M.step M.due t zs)) (one-add (length bs))

-- every byte of a code point past ASCII is past ASCII
high_bytes : (c : ℕ) → 128 ≤ c → (k : ℕ) → k < length (encode c) → 128 ≤ get_or (encode c) k 0
high_bytes c h k lt =
    ⊎_elim (λ low. absurd (omega (arith, inside_one c [] (encode c) k (sym (append-nil (encode c))) lt low))) (λ le. le) (order (get_or (encode c) k 0) 128)

-- bytes past ASCII lead from s to t, and stay there
abbrev pub High : (M : Machine) → M.State → M.State → Type 0
High M s t = (b : ℕ) → 128 ≤ b → (M.step s b ≡ goes t) × (M.step t b ≡ goes t)

walk-stays : (M : Machine) (s : M.State) (bs : List ℕ) → ((k : ℕ) → k < length bs → M.step s (get_or bs k 0) ≡ goes s) → walk M s bs ≡ goes s
walk-stays M s [] h = refl
walk-stays M s (b ∷ bs) h = walk-append M s s (b ∷ []) bs (walk_byte M s s b (h 0 (omega arith))) ∙ walk-stays M s bs (λ k lt. h (suc k) (omega arith))

walk_high : (M : Machine) (s t : M.State) (bs : List ℕ) → High M s t → 0 < length bs → ((k : ℕ) → k < length bs → 128 ≤ get_or bs k 0) → walk M s bs ≡ goes t
walk_high M s t [] high some h = absurd (omega arith)
walk_high M s t (b ∷ bs) high some h = walk-append M s t (b ∷ []) bs (walk_byte M s t b (high b (h 0 (omega arith))).0) ∙ walk-stays M t bs (λ k lt. (high _ (h (suc k) (omega arith))).1)

-- a code point that leads to t as one number does so as its bytes
pub walk-char : (M : Machine) (s t : M.State) (c : ℕ) → M.step s c ≡ goes t → (128 ≤ c → High M s t) → walk M s (encode c) ≡ goes t
walk-char M s t c e high =
    ⊎_elim
    (λ lt. ap (walk M s) (encode_ascii c lt) ∙ walk_byte M s t c e)
    (λ le. walk_high M s t (encode c) (high le) (rw append-nil at (length-le-encodes (c ∷ []))) (high_bytes c le))
    (order c 128)

-- every code point is below 128
abbrev pub ascii : List ℕ → Bool
ascii [] = true
ascii (c ∷ cs) = cond (ltb c 128) (ascii cs) false

pub encodes_self : (w : List ℕ) → ascii w ≡ true → encodes w ≡ w
encodes_self [] e = refl
encodes_self (c ∷ cs) e = go (encodes_self cs) (ltb c 128) refl e
  where
    go : (ascii cs ≡ true → encodes cs ≡ cs) → (v : Bool) → ltb c 128 ≡ v → cond v (ascii cs) false ≡ true → encode c ++ encodes cs ≡ c ∷ cs
    go ih true q r = ap (λ l. l ++ encodes cs) (encode_ascii c (ltb-true c 128 q)) ∙ ap (λ l. c ∷ l) (ih r)
    go ih false q r = absurd (cc)
