-- The fields of a line.
use Rattle.std.proofs.Common.{◌≡◌, ℕ, ◌+◌, ◌<◌, ◌≤◌, ◌==◌, Bool, true, false, ◌||◌, cond, List, [], ◌∷◌, ◌++◌, map, length, Some, None, Option, is_some, refl, sym, ap, ◌∙◌, append_assoc, length-append, arith, Bor}
use Rattle.std.specs.List.{list_any}
use Rattle.std.specs.Option.{option_map}
use Rattle.std.proofs.lemmas.Bool.{ne_eqb, le-leb, lt-leb}
use Rattle.std.proofs.lemmas.List.{length-map, map_push}
use Rattle.std.proofs.lemmas.List.Splits.{length-slice_split}
use Rattle.std.proofs.lemmas.List.Sums.{count_by-le-length}
use Rattle.cases.proofs.Lists.{ListTurn, list_start, list_next, list_refused, list_whole}
use Rattle.cases.proofs.Parts.{parts, split_cut}
use Rattle.cases.specs.Cases.{case_in}
use Rattle.cases.specs.Fields.{filled, field_of, fields_of, few}
use Rattle.cases.specs.Words.{before, behind, bound, split, every}

-- a field that is not empty
abbrev pub filled_in : List ℕ → Option (List ℕ)
filled_in [] = None
filled_in (b ∷ bs) = Some (b ∷ bs)

pub fields_are : (parts : List (List ℕ)) → every filled_in parts ≡ cond (list_any (λ field. length field == 0) parts) None (Some parts)
fields_are [] = refl
fields_are ([] ∷ parts) = refl
fields_are ((b ∷ bs) ∷ parts) = rw (fields_are parts) (go (length (b ∷ bs) == 0) (list_any (λ field. length field == 0) parts) (ne_eqb (length (b ∷ bs)) 0 (λ e. omega arith)))
  where
    go : (u v : Bool) → u ≡ false → bound (cond v None (Some parts)) (λ more. Some ((b ∷ bs) ∷ more)) ≡ cond (u || v) None (Some ((b ∷ bs) ∷ parts))
    go true v h = cc
    go false true h = refl
    go false false h = refl

-- what `field` finds in a text
found : (text front : List ℕ) (rest more : Option (List ℕ)) → Some (front, rest) ≡ filled text more → (filled_in text ≡ Some front) × (rest ≡ more)
found [] front rest more e = cc
found (b ∷ bs) front rest more e = (ap first (sym e), ap then e)
  where
    first : Option (List ℕ × Option (List ℕ)) → Option (List ℕ)
    first None = None
    first (Some p) = Some p.0

    then : Option (List ℕ × Option (List ℕ)) → Option (List ℕ)
    then None = None
    then (Some p) = p.1

not_found : (text : List ℕ) (more : Option (List ℕ)) → None ≡ filled text more → filled_in text ≡ None
not_found [] more e = refl
not_found (b ∷ bs) more e = cc

filled_same : (text front : List ℕ) → filled_in text ≡ Some front → text ≡ front
filled_same [] front e = cc
filled_same (b ∷ bs) front e = cc

-- the fields before `left` are taken
module _ (line : List ℕ) where
  abbrev pub FieldTurn : Option (Bor (List ℕ)) → List (Bor (List ℕ)) → Type 0
  FieldTurn = ListTurn 9 (λ x. x.now) filled_in line

  module _ (left : Option (Bor (List ℕ))) (done : List (Bor (List ℕ))) (t : FieldTurn left done) where
    pub field_next : (text : Bor (List ℕ)) (rest : Option (Bor (List ℕ))) → Some (text.now, option_map (λ x. x.now) rest) ≡ field_of (option_map (λ x. x.now) left) → FieldTurn rest (done ++ (text ∷ []))
    field_next text rest e = go left t e
      where
        go : (left : Option (Bor (List ℕ))) → FieldTurn left done → Some (text.now, option_map (λ x. x.now) rest) ≡ field_of (option_map (λ x. x.now) left) → FieldTurn rest (done ++ (text ∷ []))
        go None t e = cc
        go (Some r) t e = let f = found (before 9 r.now) text.now (option_map (λ x. x.now) rest) (behind 9 r.now) e in list_next 9 (λ x. x.now) filled_in line r done t (before 9 r.now) refl rest f.1 text f.0

    pub field_refused : is_some left ≡ true → None ≡ field_of (option_map (λ x. x.now) left) → fields_of line ≡ None
    field_refused h e = sym (fields_are (split 9 line)) ∙ go left t h e
      where
        go : (left : Option (Bor (List ℕ))) → FieldTurn left done → is_some left ≡ true → None ≡ field_of (option_map (λ x. x.now) left) → every filled_in (split 9 line) ≡ None
        go None t h e = cc
        go (Some r) t h e = list_refused 9 (λ x. x.now) filled_in line r done t (before 9 r.now) refl (not_found (before 9 r.now) (behind 9 r.now) e)

    pub field_whole : is_some left ≡ false → fields_of line ≡ Some (map (λ x. x.now) done)
    field_whole h = sym (fields_are (split 9 line)) ∙ go left t h
      where
        go : (left : Option (Bor (List ℕ))) → FieldTurn left done → is_some left ≡ false → every filled_in (split 9 line) ≡ Some (map (λ x. x.now) done)
        go None t h = list_whole 9 (λ x. x.now) filled_in line done t
        go (Some r) t h = cc

-- the fields before `left` are taken, no more than `most`
pub record FewTurn (line : List ℕ) (most : ℕ) (left : Option (Bor (List ℕ))) (done : List (Bor (List ℕ))) : Type 0 where
  pub reads : FieldTurn line left done
  pub cut : split 9 line ≡ map (λ x. x.now) done ++ parts 9 (option_map (λ x. x.now) left)
  pub small : length done ≤ most

pub few_start : (line : Bor (List ℕ)) (most : ℕ) → FewTurn line.now most (Some line) []
few_start line most = record { reads = list_start 9 (λ (x : Bor (List ℕ)). x.now) filled_in line.now line refl; cut = refl; small = omega arith }

few_is : (most : ℕ) (fields : List (List ℕ)) → length fields ≤ most → few most fields ≡ Some fields
few_is most fields h = ap (λ b. cond b (Some fields) None) (le-leb (length fields) most h)

module _ (line : List ℕ) (most : ℕ) (left : Option (Bor (List ℕ))) (done : List (Bor (List ℕ))) (t : FewTurn line most left done) where
  pub few_next : length done < most → (text : Bor (List ℕ)) (rest : Option (Bor (List ℕ))) → Some (text.now, option_map (λ x. x.now) rest) ≡ field_of (option_map (λ x. x.now) left) → FewTurn line most rest (done ++ (text ∷ []))
  few_next h text rest e = record {
    reads = field_next line left done t.reads text rest e;
    cut = t.cut ∙ go left e;
    small = (let n = length-append done (text ∷ []) in omega arith);
  }
    where
      go : (left : Option (Bor (List ℕ))) → Some (text.now, option_map (λ x. x.now) rest) ≡ field_of (option_map (λ x. x.now) left) → (map (λ x. x.now) done ++ parts 9 (option_map (λ x. x.now) left)) ≡ (map (λ x. x.now) (done ++ (text ∷ [])) ++ parts 9 (option_map (λ x. x.now) rest))
      go None e = cc
      go (Some r) e =
          let f = found (before 9 r.now) text.now (option_map (λ x. x.now) rest) (behind 9 r.now) e in
          let same : before 9 r.now ≡ text.now = filled_same (before 9 r.now) text.now f.0 in
          ap (λ ws. map (λ x. x.now) done ++ ws) (split_cut 9 r.now)
          ∙ ap (λ ws. map (λ x. x.now) done ++ (ws ∷ parts 9 (behind 9 r.now))) same
          ∙ ap (λ o. map (λ x. x.now) done ++ (text.now ∷ parts 9 o)) (sym f.1)
          ∙ sym (append_assoc (map (λ x. x.now) done) (text.now ∷ []) (parts 9 (option_map (λ x. x.now) rest)))
          ∙ ap (λ ws. ws ++ parts 9 (option_map (λ x. x.now) rest)) (sym (map_push (λ x. x.now) done text))

  pub few_refused : is_some left ≡ true → None ≡ field_of (option_map (λ x. x.now) left) → bound (fields_of line) (few most) ≡ None
  few_refused h e = ap (λ o. bound o (few most)) (field_refused line left done t.reads h e)

  pub few_over : is_some left ≡ true → most ≤ length done → bound (fields_of line) (few most) ≡ None
  few_over h e = go (list_any (λ field. length field == 0) (split 9 line))
    where
      longer : (left : Option (Bor (List ℕ))) → is_some left ≡ true → split 9 line ≡ map (λ x. x.now) done ++ parts 9 (option_map (λ x. x.now) left) → most < length (split 9 line)
      longer None h c = cc
      longer (Some r) h c =
          let n = length-append (map (λ x. x.now) done) (split 9 r.now) in
          let m = length-map done (λ x. x.now) in
          let k = length-slice_split (λ b. b == 9) r.now in
          omega (arith, ap length c)

      none : few most (split 9 line) ≡ None
      none = ap (λ b. cond b (Some (split 9 line)) None) (lt-leb (length (split 9 line)) most (longer left h t.cut))

      go : (v : Bool) → bound (cond v None (Some (split 9 line))) (few most) ≡ None
      go true = refl
      go false = none

  pub few_whole : is_some left ≡ false → bound (fields_of line) (few most) ≡ Some (map (λ x. x.now) done)
  few_whole h =
      ap (λ o. bound o (few most)) (field_whole line left done t.reads h)
      ∙ few_is most (map (λ x. x.now) done) (let m = length-map done (λ x. x.now) in omega (arith, t.small))

-- a line has no more fields than bytes and one
pub few_all : (line : List ℕ) (most : ℕ) → length line + 1 ≤ most → bound (fields_of line) (few most) ≡ fields_of line
few_all line most h = go (list_any (λ field. length field == 0) (split 9 line))
  where
    all : few most (split 9 line) ≡ Some (split 9 line)
    all =
        let k = length-slice_split (λ b. b == 9) line in
        let n = count_by-le-length (λ b. b == 9) line in
        few_is most (split 9 line) (omega arith)

    go : (v : Bool) → bound (cond v None (Some (split 9 line))) (few most) ≡ cond v None (Some (split 9 line))
    go true = refl
    go false = all

pub too_few : (fields : List (Bor (List ℕ))) → length fields < 6 → case_in (map (λ x. x.now) fields) ≡ None
too_few [] h = refl
too_few (a ∷ []) h = refl
too_few (a ∷ b ∷ []) h = refl
too_few (a ∷ b ∷ c ∷ []) h = refl
too_few (a ∷ b ∷ c ∷ d ∷ []) h = refl
too_few (a ∷ b ∷ c ∷ d ∷ e ∷ []) h = refl
too_few (a ∷ b ∷ c ∷ d ∷ e ∷ f ∷ fields) h = absurd (omega arith)
