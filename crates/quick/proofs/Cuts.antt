-- Where text and references end, by the first place of a byte. Assumes nothing.
use Rattle.std.proofs.Common.{◌≡◌, ℕ, suc, ◌<◌, Bool, true, false, cond, ◌||◌, eqb, List, [], ◌∷◌, length, get_or, Some, None, Option, refl, ap, ◌∙◌, arith}
use Rattle.std.specs.Option.{option_map}
use Rattle.model.specs.Cut.{Cut, before, through, nowhere, behind_one, behind, text_cut, name_cut}
use Rattle.model.specs.declared.ending.TextEnd.{TextEnd}
use Rattle.model.specs.declared.ending.TextEnd.TheVariants as text
use Rattle.model.specs.declared.ending.RefEnd.{RefEnd}
use Rattle.model.specs.declared.ending.RefEnd.TheVariants as ref
use Rattle.quick.specs.QuickXml.{place}

mapped_suc : (o : Option ℕ) (i : ℕ) → option_map suc o ≡ Some i → (j : ℕ) × (o ≡ Some j) × (i ≡ suc j)
mapped_suc None i e = cc
mapped_suc (Some j) i e = (j, refl, cc)

pub place_inside : (sought : ℕ → Bool) (bs : List ℕ) (i : ℕ) → place sought bs ≡ Some i → i < length bs
place_inside sought [] i e = cc
place_inside sought (b ∷ bs) i e = go (λ j. place_inside sought bs j) (sought b) e
  where
    go : ((j : ℕ) → place sought bs ≡ Some j → j < length bs) → (v : Bool) → cond v (Some 0) (option_map suc (place sought bs)) ≡ Some i → i < length (b ∷ bs)
    go ih true q = let z : 0 ≡ i = cc in omega arith
    go ih false q = let at = mapped_suc (place sought bs) i q in omega (arith, at.2, ih at.0 at.1)

-- a cut that the first byte of some makes, at that byte
module _ {E : Type 0} (sought : ℕ → Bool) (at : ℕ → Cut E) (due : List ℕ → E) where
  abbrev pub cut_by : Option ℕ → List ℕ → Cut E
  cut_by None bs = nowhere due
  cut_by (Some i) bs = behind i (at (get_or bs i 0))

  pub cut_place : (cut : List ℕ → Cut E) → cut [] ≡ nowhere due → ((b : ℕ) (bs : List ℕ) → cut (b ∷ bs) ≡ cond (sought b) (at b) (behind_one (cut bs)))
      → (bs : List ℕ) → cut bs ≡ cut_by (place sought bs) bs
  cut_place cut none more [] = none
  cut_place cut none more (b ∷ bs) = more b bs ∙ ap (λ c. cond (sought b) (at b) (behind_one c)) (cut_place cut none more bs) ∙ go (sought b) (place sought bs)
    where
      go : (v : Bool) (o : Option ℕ) → cond v (at b) (behind_one (cut_by o bs)) ≡ cut_by (cond v (Some 0) (option_map suc o)) (b ∷ bs)
      go true o = refl
      go false None = refl
      go false (Some i) = refl

abbrev pub text_sought : ℕ → Bool
text_sought b = eqb b 60 || eqb b 38

abbrev pub text_end_at : ℕ → TextEnd
text_end_at b = cond (eqb b 60) text.Markup text.Ref

abbrev pub text_cut_by : Option ℕ → List ℕ → Cut TextEnd
text_cut_by = cut_by text_sought (λ b. before 0 (text_end_at b)) (λ _. text.Eof)

pub text_cut-place : (bs : List ℕ) → text_cut bs ≡ text_cut_by (place text_sought bs) bs
text_cut-place = cut_place text_sought (λ b. before 0 (text_end_at b)) (λ _. text.Eof) text_cut refl (λ b bs. go (eqb b 60) (eqb b 38) (behind_one (text_cut bs)))
  where
    go : (v w : Bool) (c : Cut TextEnd) → cond v (before 0 text.Markup) (cond w (before 0 text.Ref) c) ≡ cond (v || w) (before 0 (cond v text.Markup text.Ref)) c
    go true w c = refl
    go false true c = refl
    go false false c = refl

abbrev pub name_sought : ℕ → Bool
name_sought b = eqb b 59 || (eqb b 38 || eqb b 60)

abbrev pub name_end_at : ℕ → RefEnd
name_end_at b = cond (eqb b 38) ref.Ref ref.Markup

abbrev pub name_cut_at : ℕ → Cut RefEnd
name_cut_at b = cond (eqb b 59) (through 0 ref.Semicolon) (before 0 (name_end_at b))

abbrev pub name_cut_by : Option ℕ → List ℕ → Cut RefEnd
name_cut_by = cut_by name_sought name_cut_at (λ _. ref.Eof)

pub name_cut-place : (bs : List ℕ) → name_cut bs ≡ name_cut_by (place name_sought bs) bs
name_cut-place = cut_place name_sought name_cut_at (λ _. ref.Eof) name_cut refl (λ b bs. go (eqb b 59) (eqb b 38) (eqb b 60) (behind_one (name_cut bs)))
  where
    go : (v w x : Bool) (c : Cut RefEnd) → cond v (through 0 ref.Semicolon) (cond w (before 0 ref.Ref) (cond x (before 0 ref.Markup) c)) ≡ cond (v || (w || x)) (cond v (through 0 ref.Semicolon) (before 0 (cond w ref.Ref ref.Markup))) c
    go true w x c = refl
    go false true x c = refl
    go false false true c = refl
    go false false false c = refl
