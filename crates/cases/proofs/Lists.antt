-- Lists of words, a word at a time.
use Rattle.std.proofs.Common.{◌≡◌, ℕ, ◌-◌, ◌≤◌, List, [], ◌∷◌, ◌++◌, map, length, get_or, take, drop, IsErrAnd, Some, None, Err, Option, Result, sym, refl, ap, ◌∙◌, append_assoc, append-nil, arith, Bor}
use Rattle.std.proofs.lemmas.List.{map_push}
use Rattle.std.proofs.lemmas.Result.{err_from_is_err_and}
use Rattle.std.specs.Option.{option_map}
use Rattle.cases.proofs.Parts.{all_behind, parts, split_cut}
use Rattle.cases.specs.Read.{Reads}
use Rattle.cases.specs.Words.{before, behind, bound, split, every, hex_byte_of, pairs_of}
use Rattle.cases.specs.declared.bad.Bad.{Bad}
use Rattle.cases.specs.declared.bad.Bad.TheVariants.{NoCase, NoMemory}

-- what is read after `done`
abbrev pub after : {A : Type 0} → List A → Option (List A) → Option (List A)
after done o = bound o (λ more. Some (done ++ more))

after_nothing : {A : Type 0} (o : Option (List A)) → after [] o ≡ o
after_nothing None = refl
after_nothing (Some more) = refl

-- one more word
after_one : {A : Type 0} (done : List A) (a : A) (o : Option (List A)) → after done (bound o (λ more. Some (a ∷ more))) ≡ after (done ++ (a ∷ [])) o
after_one done a None = refl
after_one done a (Some more) = ap (λ x. Some x) (sym (append_assoc done (a ∷ []) more))

-- words with s between them
module _ {W A : Type 0} (s : ℕ) (view : W → A) (f : List ℕ → Option A) (text : List ℕ) where
  -- the words before `left` are read
  abbrev pub ListTurn : Option (Bor (List ℕ)) → List W → Type 0
  ListTurn left done = every f (split s text) ≡ after (map view done) (every f (parts s (option_map (λ x. x.now) left)))

  pub list_start : (t : Bor (List ℕ)) → t.now ≡ text → ListTurn (Some t) []
  list_start t e = ap (λ t. every f (split s t)) (sym e) ∙ sym (after_nothing (every f (split s t.now)))

  module _ (r : Bor (List ℕ)) (done : List W) (t : ListTurn (Some r) done) (word : List ℕ) (is_IsWord : word ≡ before s r.now) where
    here : every f (split s text) ≡ after (map view done) (bound (f word) (λ a. bound (every f (parts s (behind s r.now))) (λ more. Some (a ∷ more))))
    here =
        t ∙ ap (λ ws. after (map view done) (every f ws)) (split_cut s r.now)
        ∙ ap (λ w. after (map view done) (bound (f w) (λ a. bound (every f (parts s (behind s r.now))) (λ more. Some (a ∷ more))))) (sym is_IsWord)

    pub list_next : (rest : Option (Bor (List ℕ))) → option_map (λ x. x.now) rest ≡ behind s r.now → (w : W) → f word ≡ Some (view w) → ListTurn rest (done ++ (w ∷ []))
    list_next rest q w e =
        here ∙ ap (λ o. after (map view done) (bound o (λ a. bound (every f (parts s (behind s r.now))) (λ more. Some (a ∷ more))))) e
        ∙ after_one (map view done) (view w) (every f (parts s (behind s r.now)))
        ∙ ap (λ ws. after ws (every f (parts s (behind s r.now)))) (sym (map_push view done w))
        ∙ ap (λ x. after (map view (done ++ (w ∷ []))) (every f (parts s x))) (sym q)

    pub list_refused : f word ≡ None → every f (split s text) ≡ None
    list_refused e = here ∙ ap (λ o. after (map view done) (bound o (λ a. bound (every f (parts s (behind s r.now))) (λ more. Some (a ∷ more))))) e

  pub list_whole : (done : List W) → ListTurn None done → every f (split s text) ≡ Some (map view done)
  list_whole done t = t ∙ ap (λ x. Some x) (append-nil (map view done))

two_more : (ds : List ℕ) → 2 ≤ length ds → pairs_of ds ≡ bound (hex_byte_of (get_or ds 0 0) (get_or ds 1 0)) (λ b. bound (pairs_of (drop 2 ds)) (λ bs. Some (b ∷ bs)))
two_more [] h = absurd (omega arith)
two_more (d ∷ []) h = absurd (omega arith)
two_more (high ∷ low ∷ ds) h = refl

module _ (text : List ℕ) where
  -- the digits before `digits` are read
  abbrev pub PairTurn : List ℕ → List ℕ → Type 0
  PairTurn digits done = pairs_of text ≡ after done (pairs_of digits)

  module _ (digits done : List ℕ) (t : PairTurn digits done) (two : 2 ≤ length digits) where
    pub pair_next : (b : ℕ) → hex_byte_of (get_or digits 0 0) (get_or digits 1 0) ≡ Some b → PairTurn (take (length digits - 2) (drop 2 digits)) (done ++ (b ∷ []))
    pair_next b e =
        t ∙ ap (after done) (two_more digits two) ∙ ap (λ o. after done (bound o (λ b. bound (pairs_of (drop 2 digits)) (λ bs. Some (b ∷ bs))))) e
        ∙ after_one done b (pairs_of (drop 2 digits)) ∙ ap (λ ds. after (done ++ (b ∷ [])) (pairs_of ds)) (sym (all_behind 2 digits))

-- a refusal that is passed on
pub passed : {X Y A B : Type 0} (view : X → A) (whole : Y → B) (r : Result Y Bad) (e : Bad) (word : Option A) (all : Option B) → IsErrAnd r (λ d. d ≡ e) → Reads view (Err e) word → (word ≡ None → all ≡ None) → Reads whole r all
passed view whole r e word all p h f = let q = err_from_is_err_and r p in rw (q.1, q.2) (go e h)
  where
    go : (e : Bad) → Reads view (Err e) word → Reads whole (Err e) all
    go NoCase h = f h
    go NoMemory h = tt
