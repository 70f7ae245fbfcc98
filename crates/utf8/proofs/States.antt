-- What a state of the check still needs, and what one byte does to it. Assumes nothing.
use Rattle.std.proofs.Common.{◌≡◌, ℕ, ◌+◌, ◌<◌, Bool, true, false, cond, ◌&&◌, ◌||◌, eqb, ◌⊎◌, List, [], ◌∷◌, ◌++◌, Some, None, Option, sym, refl, ap, ◌∙◌, subst, inl, inr, ⊎_elim, arith, rules}
use Rattle.std.specs.Int.{is_in_range}
use Rattle.std.proofs.Math.Bool.{or-false}
use Rattle.std.proofs.lemmas.Bool.{and_parts}
use Rattle.utf8.proofs.Table.{Rising, rises, below, upto}
use Rattle.utf8.specs.Utf8.{Range, ◌to◌, tail, Row, fits, table, some_fits, Octets, none, more}
use Rattle.utf8.specs.Steps.{after, due, against, need_step}
use Rattle.utf8.specs.declared.Need.{Need}
use Rattle.utf8.specs.declared.Need.TheVariants.{Lead, Second, Tails}

-- the first bytes fit the row, and the rest is UTF-8
pub record Rest (row : Row) (zs : List ℕ) : Type 0 where
  pub xs : List ℕ
  pub ys : List ℕ
  pub cut : zs ≡ xs ++ ys
  pub front : fits row xs ≡ true
  pub back : Octets ys

empty_fits : (xs : List ℕ) → fits [] xs ≡ true → xs ≡ []
empty_fits [] e = refl
empty_fits (x ∷ xs) e = absurd (cc)

pub rest_octets : (zs : List ℕ) → Rest [] zs → Octets zs
rest_octets zs r = subst Octets (sym (r.cut ∙ ap (λ l. l ++ r.ys) (empty_fits r.xs r.front))) r.back

pub octets_rest : (zs : List ℕ) → Octets zs → Rest [] zs
octets_rest zs o = record { xs = []; ys = zs; cut = refl; front = refl; back = o }

pub rest_nil : (r : Range) (row : Row) → Rest (r ∷ row) [] → ⊥
rest_nil r row h = go h.xs h.cut h.front
  where
    go : (xs : List ℕ) → [] ≡ xs ++ h.ys → fits (r ∷ row) xs ≡ true → ⊥
    go [] e f = absurd (cc)
    go (x ∷ xs) e f = absurd (cc)

pub rest_cons : (r : Range) (row : Row) (b : ℕ) (zs : List ℕ) → Rest (r ∷ row) (b ∷ zs) → (is_in_range r.low r.high b ≡ true) × Rest row zs
rest_cons r row b zs h = go h.xs h.cut h.front
  where
    go : (xs : List ℕ) → b ∷ zs ≡ xs ++ h.ys → fits (r ∷ row) xs ≡ true → (is_in_range r.low r.high b ≡ true) × Rest row zs
    go [] e f = absurd (cc)
    go (x ∷ xs) e f =
        let same : b ≡ x = cc in
        let rest : zs ≡ xs ++ h.ys = cc in
        let parts = and_parts (is_in_range r.low r.high x) (fits row xs) f in
        (ap (is_in_range r.low r.high) same ∙ parts.0, record { xs = xs; ys = h.ys; cut = rest; front = parts.1; back = h.back })

pub cons_rest : (r : Range) (row : Row) (b : ℕ) (zs : List ℕ) → is_in_range r.low r.high b ≡ true → Rest row zs → Rest (r ∷ row) (b ∷ zs)
cons_rest r row b zs w h = record { xs = b ∷ h.xs; ys = h.ys; cut = ap (λ l. b ∷ l) h.cut; front = ap (λ a. a && fits row h.xs) w ∙ h.front; back = h.back }

abbrev follows : Option Row → List ℕ → Bool
follows None c = false
follows (Some row) c = fits row c

fits_after : (n : ℕ) (rows : List Row) (b : ℕ) (c : List ℕ) → Rising n rows → some_fits rows (b ∷ c) ≡ follows (after rows b) c
fits_after n [] b c h = refl
fits_after n ([] ∷ rows) b c h = absurd h
fits_after n ((r ∷ row) ∷ rows) b c h = go (fits_after (r.high + 1) rows b c h.2) (is_in_range r.low r.high b) refl
  where
    go : some_fits rows (b ∷ c) ≡ follows (after rows b) c → (w : Bool) → is_in_range r.low r.high b ≡ w → ((is_in_range r.low r.high b && fits row c) || some_fits rows (b ∷ c)) ≡ follows (cond (is_in_range r.low r.high b) (Some row) (after rows b)) c
    go ih true e =
        let last : b < r.high + 1 = omega (arith, upto r.low r.high b e) in
        rw (e, below (r.high + 1) rows b c h.2 last) (or-false (fits row c))
    go ih false e = rw e ih

abbrev Cons : ℕ → List ℕ → Type 0
Cons b zs = (row : Row) × (after table b ≡ Some row) × Rest row zs

picked : (o : Option Row) (c : List ℕ) → follows o c ≡ true → (row : Row) × (o ≡ Some row) × (fits row c ≡ true)
picked None c e = absurd (cc)
picked (Some row) c e = (row, refl, e)

abbrev Split : List ℕ → Type 0
Split ts = (ts ≡ []) ⊎ ((c : List ℕ) × (bs : List ℕ) × (ts ≡ c ++ bs) × (some_fits table c ≡ true) × Octets bs)

split : (ts : List ℕ) → Octets ts → Split ts
split ts none = inl refl
split ts (more c {bs} e o) = inr (c, bs, refl, e, o)

pub octets_cons : (b : ℕ) (zs : List ℕ) → Octets (b ∷ zs) → Cons b zs
octets_cons b zs o = ⊎_elim (λ e. absurd (cc)) (λ s. go s.0 s.1 s.2 s.3 s.4) (split (b ∷ zs) o)
  where
    go : (c bs : List ℕ) → b ∷ zs ≡ c ++ bs → some_fits table c ≡ true → Octets bs → Cons b zs
    go [] bs e f u = absurd (cc)
    go (x ∷ c) bs e f u =
        let same : b ≡ x = cc in
        let rest : zs ≡ c ++ bs = cc in
        let at = picked (after table b) c (sym (fits_after 0 table b c rises) ∙ ap (λ y. some_fits table (y ∷ c)) same ∙ f) in
        (at.0, at.1, record { xs = c; ys = bs; cut = rest; front = at.2; back = u })

pub cons_octets : (b : ℕ) (zs : List ℕ) (row : Row) → after table b ≡ Some row → Rest row zs → Octets (b ∷ zs)
cons_octets b zs row e h =
    subst Octets (ap (λ l. b ∷ l) (sym h.cut)) (more (b ∷ h.xs) (fits_after 0 table b h.xs rises ∙ ap (λ o. follows o h.xs) e ∙ h.front) h.back)

-- what a state still needs; a second byte that no first byte calls for needs what there is not
abbrev never : Row
never = 1 to 0 ∷ []

abbrev called : Option Row → Row
called None = never
called (Some []) = never
called (Some (r ∷ rs)) = r ∷ rs

abbrev pub row_of : Need → Row
row_of Lead = []
row_of (Second a) = called (after table a)
row_of (Tails n) = cond (eqb n 2) (tail ∷ tail ∷ []) (tail ∷ [])

-- what stands after the second byte are tails
abbrev Tailed : Row → Type 0
Tailed [] = Unit {0}
Tailed (r ∷ rs) = row_of (due rs) ≡ rs

abbrev Each : List Row → Type 0
Each [] = Unit {0}
Each ([] ∷ rows) = Each rows
Each ((r ∷ row) ∷ rows) = Tailed row × Each rows

each : Each table
each = (tt, (refl, (refl, (refl, (refl, (refl, (refl, (refl, (refl, tt)))))))))

tailed : (rows : List Row) (b : ℕ) (row : Row) → Each rows → after rows b ≡ Some row → Tailed row
tailed [] b row h e = absurd (cc)
tailed ([] ∷ rows) b row h e = tailed rows b row h e
tailed ((r ∷ first) ∷ rows) b row h e = go (λ q. tailed rows b row h.1 q) (is_in_range r.low r.high b) e
  where
    go : (after rows b ≡ Some row → Tailed row) → (w : Bool) → cond w (Some first) (after rows b) ≡ Some row → Tailed row
    go ih true q = let same : first ≡ row = cc in subst Tailed same h.0
    go ih false q = ih q

-- the two sides of a step
abbrev Steps : Need → ℕ → Need → Type 0
Steps n b m = (zs : List ℕ) → (Rest (row_of n) (b ∷ zs) → Rest (row_of m) zs) × (Rest (row_of m) zs → Rest (row_of n) (b ∷ zs))

long : Option Row → Bool
long None = false
long (Some []) = false
long (Some (r ∷ rs)) = true

some : Option Row → Bool
some None = false
some (Some row) = true

wide_lead : (b : ℕ) → is_in_range 0 0x7F b ≡ false → is_in_range 0xC2 0xF4 b ≡ true → long (after table b) ≡ true
unfolding long
wide_lead b p q = search rules

no_lead : (b : ℕ) → is_in_range 0 0x7F b ≡ false → is_in_range 0xC2 0xF4 b ≡ false → some (after table b) ≡ false
unfolding some
no_lead b p q = search rules

some_back : (o : Option Row) → long o ≡ true → o ≡ Some (called o)
unfolding long
some_back None l = absurd (cc)
some_back (Some []) l = absurd (cc)
some_back (Some (r ∷ rs)) l = refl

not_none : (o : Option Row) (row : Row) → some o ≡ false → o ≡ Some row → ⊥
unfolding some
not_none None row s e = (cc)
not_none (Some r) row s e = absurd (cc)

same_some : (o : Option Row) (r q : Row) → o ≡ Some r → o ≡ Some q → r ≡ q
same_some o r q d e = cc

by_row : (b : ℕ) (m : Need) (row : Row) → after table b ≡ Some row → row_of m ≡ row → Steps Lead b m
by_row b m row e same zs = (
  λ h. let at = octets_cons b zs (rest_octets (b ∷ zs) h) in subst (λ r. Rest r zs) (same_some (after table b) at.0 row at.1 e ∙ sym same) at.2,
  λ h. octets_rest (b ∷ zs) (cons_octets b zs row e (subst (λ r. Rest r zs) same h)),
)

by_range : (n : Need) (b : ℕ) (m : Need) (r : Range) (rs : Row) → row_of n ≡ r ∷ rs → row_of m ≡ rs → is_in_range r.low r.high b ≡ true → Steps n b m
by_range n b m r rs d e w zs = (
  λ h. subst (λ q. Rest q zs) (sym e) (rest_cons r rs b zs (subst (λ q. Rest q (b ∷ zs)) d h)).1,
  λ h. subst (λ q. Rest q (b ∷ zs)) (sym d) (cons_rest r rs b zs w (subst (λ q. Rest q zs) e h)),
)

some_same : (m n : Need) → Some m ≡ Some n → m ≡ n
some_same m n e = cc

none_some : {A : Type 0} (m : Need) → None ≡ Some m → A
none_some m e = absurd (cc)

-- one byte that the state takes
pub steps : (n : Need) (b : ℕ) (m : Need) → need_step n b ≡ Some m → Steps n b m
steps Lead b m e = go (is_in_range 0 0x7F b) refl (is_in_range 0xC2 0xF4 b) refl e
  where
    go : (p : Bool) → is_in_range 0 0x7F b ≡ p → (q : Bool) → is_in_range 0xC2 0xF4 b ≡ q → cond p (Some Lead) (cond q (Some (Second b)) None) ≡ Some m → Steps Lead b m
    go true p q e₂ s = subst (Steps Lead b) (some_same Lead m s) (by_row b Lead [] (rw p) refl)
    go false p true q s =
        let l = wide_lead b p q in
        subst (Steps Lead b) (some_same (Second b) m s) (by_row b (Second b) (called (after table b)) (some_back (after table b) l) refl)
    go false p false q s = none_some m s
steps (Second a) b m e = go (after table a) refl e
  where
    go : (o : Option Row) → after table a ≡ o → (elim o as (λ _. Option Need) [ None ↦ None | Some row ↦ against row b ]) ≡ Some m → Steps (Second a) b m
    go None q s = none_some m s
    go (Some []) q s = none_some m s
    go (Some (r ∷ rs)) q s = in' (is_in_range r.low r.high b) refl s
      where
        in' : (w : Bool) → is_in_range r.low r.high b ≡ w → cond w (Some (due rs)) None ≡ Some m → Steps (Second a) b m
        in' true w t = subst (Steps (Second a) b) (some_same (due rs) m t) (by_range (Second a) b (due rs) r rs (ap called q) (tailed table a (r ∷ rs) each q) w)
        in' false w t = none_some m t
steps (Tails n) b m e = go (is_in_range 0x80 0xBF b) refl (eqb n 2) refl e
  where
    go : (w : Bool) → is_in_range 0x80 0xBF b ≡ w → (k : Bool) → eqb n 2 ≡ k → cond w (Some (cond k (Tails 1) Lead)) None ≡ Some m → Steps (Tails n) b m
    go true w true k s = subst (Steps (Tails n) b) (some_same (Tails 1) m s) (by_range (Tails n) b (Tails 1) tail (tail ∷ []) (rw k) refl w)
    go true w false k s = subst (Steps (Tails n) b) (some_same Lead m s) (by_range (Tails n) b Lead tail [] (rw k) refl w)
    go false w k q s = none_some m s

-- one byte that it does not
pub refuses : (n : Need) (b : ℕ) (zs : List ℕ) → need_step n b ≡ None → Rest (row_of n) (b ∷ zs) → ⊥
refuses Lead b zs e h = go (is_in_range 0 0x7F b) refl (is_in_range 0xC2 0xF4 b) refl e
  where
    go : (p : Bool) → is_in_range 0 0x7F b ≡ p → (q : Bool) → is_in_range 0xC2 0xF4 b ≡ q → cond p (Some Lead) (cond q (Some (Second b)) None) ≡ None → ⊥
    go true p q e₂ s = none_some Lead (sym s)
    go false p true q s = none_some (Second b) (sym s)
    go false p false q s = let at = octets_cons b zs (rest_octets (b ∷ zs) h) in not_none (after table b) at.0 (no_lead b p q) at.1
refuses (Second a) b zs e h = go (after table a) refl e
  where
    nothing : called (after table a) ≡ never → ⊥
    nothing q = let w = (rest_cons (1 to 0) [] b zs (subst (λ r. Rest r (b ∷ zs)) q h)).0 in empty w
      where
        empty : is_in_range 1 0 b ≡ true → ⊥
        empty w = search rules

    go : (o : Option Row) → after table a ≡ o → (elim o as (λ _. Option Need) [ None ↦ None | Some row ↦ against row b ]) ≡ None → ⊥
    go None q s = nothing (ap called q)
    go (Some []) q s = nothing (ap called q)
    go (Some (r ∷ rs)) q s = let w = (rest_cons r rs b zs (subst (λ o. Rest (called o) (b ∷ zs)) q h)).0 in none_some (due rs) (sym s ∙ ap (λ v. cond v (Some (due rs)) None) w)
refuses (Tails n) b zs e h = go (eqb n 2) refl
  where
    go : (k : Bool) → eqb n 2 ≡ k → ⊥
    go true k = let w = (rest_cons tail (tail ∷ []) b zs (subst (λ v. Rest (cond v (tail ∷ tail ∷ []) (tail ∷ [])) (b ∷ zs)) k h)).0 in none_some (cond (eqb n 2) (Tails 1) Lead) (sym e ∙ ap (λ v. cond v (Some (cond (eqb n 2) (Tails 1) Lead)) None) w)
    go false k = let w = (rest_cons tail [] b zs (subst (λ v. Rest (cond v (tail ∷ tail ∷ []) (tail ∷ [])) (b ∷ zs)) k h)).0 in none_some (cond (eqb n 2) (Tails 1) Lead) (sym e ∙ ap (λ v. cond v (Some (cond (eqb n 2) (Tails 1) Lead)) None) w)

-- a state in which a byte is due is not at an end
second_due : (a : ℕ) → Rest (row_of (Second a)) [] → ⊥
second_due a = go (after table a)
  where
    go : (o : Option Row) → Rest (called o) [] → ⊥
    go None h = rest_nil (1 to 0) [] h
    go (Some []) h = rest_nil (1 to 0) [] h
    go (Some (r ∷ rs)) h = rest_nil r rs h

tails_due : (n : ℕ) → Rest (row_of (Tails n)) [] → ⊥
tails_due n = go (eqb n 2)
  where
    go : (k : Bool) → Rest (cond k (tail ∷ tail ∷ []) (tail ∷ [])) [] → ⊥
    go true h = rest_nil tail (tail ∷ []) h
    go false h = rest_nil tail [] h

pub not_lead : (m : Need) → (m ≡ Lead → ⊥) → Rest (row_of m) [] → ⊥
not_lead Lead apart h = apart refl
not_lead (Second a) apart h = second_due a h
not_lead (Tails n) apart h = tails_due n h
