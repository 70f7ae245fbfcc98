-- The cuts of read_text, read_ref and the scanners lie within the bytes, and no more bytes move them. Assumes nothing.
use Rattle.std.proofs.Common.{◌≡◌, ℕ, suc, ◌+◌, ◌<◌, ◌≤◌, Bool, true, false, cond, eqb, ◌⊎◌, List, [], ◌∷◌, ◌++◌, length, sym, refl, ap, inl, inr, arith}
use Rattle.std.proofs.lemmas.List.{take-append-le}
use Rattle.std.proofs.lemmas.Bool.{cases_lt}
use Rattle.parser.specs.Scan.{Verdict, stop, unclosed, Meaning, Prefix}
use Rattle.model.specs.Cut.{Cut, before, through, nowhere, behind_one, text_cut, name_cut, ref_cut, verdict_cut, scan_cut}
use Rattle.split.specs.Piece.{Inside}
use Rattle.split.specs.Lawful.{Settles, Lawful}
use Rattle.split.proofs.Pieces.{open_none, open_behind}

either : {A : Type 0} (P : A → A → Type 0) (y : Bool) {a b c d : A} → P a b → P c d → P (cond y a c) (cond y b d)
either P true h k = h
either P false h k = k

module _ {E : Type 0} where
  -- the cut c of n bytes lies within them, and settles the cut d of more
  abbrev Lies : ℕ → Cut E → Cut E → Type 0
  Lies n c d = Inside c n × Settles c n d

  lies_behind : (n : ℕ) (c d : Cut E) → Lies n c d → Lies (suc n) (behind_one c) (behind_one d)
  lies_behind n (before k e) d h = (omega (arith, h.0), ap behind_one h.1)
  lies_behind n (through k e) d h = (omega (arith, h.0), ap behind_one h.1)
  lies_behind n (nowhere due) d h = (tt, open_behind d n h.1)

text_lies : (bs more : List ℕ) → Lies (length bs) (text_cut bs) (text_cut (bs ++ more))
text_lies [] more = (tt, open_none (text_cut more))
text_lies (b ∷ bs) more =
    either (Lies (suc (length bs))) (eqb b 60) (omega arith, refl)
    (either (Lies (suc (length bs))) (eqb b 38) (omega arith, refl)
    (lies_behind (length bs) (text_cut bs) (text_cut (bs ++ more)) (text_lies bs more)))

name_lies : (bs more : List ℕ) → Lies (length bs) (name_cut bs) (name_cut (bs ++ more))
name_lies [] more = (tt, open_none (name_cut more))
name_lies (b ∷ bs) more =
    either (Lies (suc (length bs))) (eqb b 59) (omega arith, refl)
    (either (Lies (suc (length bs))) (eqb b 38) (omega arith, refl)
    (either (Lies (suc (length bs))) (eqb b 60) (omega arith, refl)
    (lies_behind (length bs) (name_cut bs) (name_cut (bs ++ more)) (name_lies bs more))))

ref_lies : (bs more : List ℕ) → Lies (length bs) (ref_cut bs) (ref_cut (bs ++ more))
ref_lies [] more = (tt, open_none (ref_cut more))
ref_lies (b ∷ bs) more =
    either (Lies (suc (length bs))) (eqb b 38)
    (lies_behind (length bs) (name_cut bs) (name_cut (bs ++ more)) (name_lies bs more))
    (omega arith, refl)

module _ (m : Meaning) (law : Prefix m) where
  scan_inside : (bs : List ℕ) → Inside (scan_cut m bs) (length bs)
  scan_inside bs = by (m bs) refl
    where
      by : (v : Verdict) → m bs ≡ v → Inside (verdict_cut v) (length bs)
      by (stop k) e = (law bs k e).0
      by (unclosed due) e = tt

  scan_settles : (bs more : List ℕ) → Settles (scan_cut m bs) (length bs) (scan_cut m (bs ++ more))
  scan_settles bs more = by (m bs) refl
    where
      -- a stop in the first bytes alone
      early : (due : _) (j : ℕ) → m bs ≡ unclosed due → m (bs ++ more) ≡ stop j → (j < length bs) ⊎ (length bs ≤ j) → length bs ≤ j
      early due j e q (inl h) =
          let short : j + 1 ≤ length bs = omega arith in
          cc ((law (bs ++ more) j q).1 bs (sym (take-append-le (j + 1) bs more short)))
      early due j e q (inr h) = h

      behind : (due : _) (v : Verdict) → m bs ≡ unclosed due → m (bs ++ more) ≡ v → Settles (verdict_cut (unclosed due)) (length bs) (verdict_cut v)
      behind due (stop j) e q = early due j e q (cases_lt j (length bs))
      behind due (unclosed d) e q = tt

      by : (v : Verdict) → m bs ≡ v → Settles (verdict_cut v) (length bs) (scan_cut m (bs ++ more))
      by (stop k) e =
          let within : k + 1 ≤ length bs = omega (arith, (law bs k e).0) in
          ap verdict_cut ((law bs k e).1 (bs ++ more) (take-append-le (k + 1) bs more within))
      by (unclosed due) e = behind due (m (bs ++ more)) e refl

pub text_lawful : Lawful text_cut
text_lawful = record { inside = λ bs. (text_lies bs []).0; settles = λ bs more. (text_lies bs more).1 }

pub ref_lawful : Lawful ref_cut
ref_lawful = record { inside = λ bs. (ref_lies bs []).0; settles = λ bs more. (ref_lies bs more).1 }

pub scan_lawful : (m : Meaning) → Prefix m → Lawful (scan_cut m)
scan_lawful m law = record { inside = scan_inside m law; settles = scan_settles m law }
