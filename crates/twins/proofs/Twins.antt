-- The same call on two readers. Assumes nothing.
use Prim.Native.Nat.{ℕ}
use mathlib.Core.Path.{◌≡◌, refl, sym, ap, subst, ◌∙◌, fun_ext}
use mathlib.Core.Bool.{Bool, cond}
use mathlib.Core.List.{List}
use Rattle.parser.specs.Scan.{Meaning}
use Rattle.model.specs.Agree.{Alike, Same, read_texts, read_refs, peek_ones, read_withs, read_bang_elements, abandons, Rested}
use Rattle.model.specs.Call.{State, Outcome, outcome}
use Rattle.model.specs.History.{Call as ModelCall, read_with, does}
use Rattle.model.specs.declared.answer.Answer.{Answer}
use Rattle.laws.proofs.Agrees.{call_agrees}
use Rattle.reader.specs.State.{the_token}
use Rattle.reader.specs.Token.{OpeningToken}
use Rattle.twins.specs.Calls.{buffered, call_of, performs, SameCall, both_read_text, both_read_ref, both_peek_one, both_read_with, both_read_bang_element, both_abandon, AlikeOutcomes}
use Rattle.twins.specs.declared.call.Call.{Call}
use Rattle.twins.specs.declared.call.Call.TheVariants.{ReadText, ReadRef, PeekOne, ReadWith, ReadBangElement, Abandon}

-- a call by what the model has of it
abbrev Known : Type 0
Known = (List ℕ → ℕ → ModelCall OpeningToken) × Bool

abbrev known : {P : Type 0} → (P → Meaning) → Call P → Known
known scan c = (call_of scan c, buffered c)

abbrev known_performs : Known → State → List ℕ → ℕ → Outcome (Answer OpeningToken)
known_performs k s buf p = let o = does the_token s (k.0 buf p) in outcome o.answer o.after (cond k.1 o.buffer buf)

same_known : {P Q : Type 0} {scan : P → Meaning} {other : Q → Meaning} {c : Call P} {d : Call Q} → SameCall scan other c d → known scan c ≡ known other d
same_known both_read_text = refl
same_known both_read_ref = refl
same_known both_peek_one = refl
same_known (both_read_with t u x y h) = ap (λ m. ((λ buf p. read_with t m buf p), buffered (ReadWith t x))) (fun_ext h)
same_known (both_read_bang_element t u) = refl
same_known (both_abandon t u) = refl

patience_apart : {P : Type 0} (scan : P → Meaning) (c : Call P) (buf : List ℕ) (p q : ℕ) → Same (call_of scan c buf p) (call_of scan c buf q)
patience_apart scan ReadText buf p q = read_texts buf p q
patience_apart scan ReadRef buf p q = read_refs buf p q
patience_apart scan PeekOne buf p q = peek_ones p q
patience_apart scan (ReadWith t x) buf p q = read_withs t (scan x) buf p q
patience_apart scan (ReadBangElement t) buf p q = read_bang_elements t buf p q
patience_apart scan (Abandon t) buf p q = abandons t

module _ {P Q : Type 0} (scan : P → Meaning) (other : Q → Meaning) (c : Call P) (d : Call Q) (s t : State) (buf buf' : List ℕ) (p q : ℕ)
    {o x : Outcome (Answer OpeningToken)} (e : o ≡ performs scan s c buf p) (f : x ≡ performs other t d buf' q) (same : SameCall scan other c d) where
  -- the second call on the first reader
  other_call : o ≡ performs other s d buf p
  other_call = e ∙ ap (λ k. known_performs k s buf p) (same_known same)

  pub equal_outcomes : s ≡ t → buf ≡ buf' → p ≡ q → o ≡ x
  equal_outcomes es eb ep =
      other_call ∙ ap (λ u. performs other u d buf p) es ∙ ap (λ b. performs other t d b p) eb ∙ ap (performs other t d buf') ep ∙ sym f

  pub alike_outcomes : Alike s t → buf ≡ buf' → Rested o.answer → Rested x.answer → AlikeOutcomes o x
  alike_outcomes a eb rested rested' =
      let h : o ≡ performs other s d buf' p = other_call ∙ ap (λ b. performs other s d b p) eb in
      let k = call_agrees the_token a (record {
        same = patience_apart other d buf' p q;
        one = subst (λ y. Rested y.answer) h rested;
        other = subst (λ y. Rested y.answer) f rested';
      }) in
      subst (λ y. AlikeOutcomes y x) (sym h)
      (subst (AlikeOutcomes (performs other s d buf' p)) (sym f)
      (record { answer = k.0; buffer = ap (λ b. cond (buffered d) b buf') k.1; after = k.2 }))
