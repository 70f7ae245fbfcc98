-- Machines whose state is told by the bytes that came before. Assumes nothing.
use Rattle.std.proofs.Common.{◌≡◌, ℕ, zero, suc, ◌<◌, Bool, true, false, cond, not, ◌&&◌, ◌||◌, eqb, List, [], ◌∷◌, ◌++◌, reverse, length, get_or, take, is_some, Some, None, codes, Option, sym, refl, ap, ◌∙◌, subst, append_assoc, append-nil, arith, eqb-true}
use Rattle.std.proofs.Math.Bool.{and-true}
use mathlib.Core.List.{reverse-append}
use Rattle.parser.specs.Scan.{stop, later}
use Rattle.parser.specs.Bytes.{Move, halt, goes, machine}
use Rattle.parser.specs.Words.{begins, ends_with}
use Rattle.parser.specs.First.{Ending, StopsAtFirst, quote_after, ends_tag, ends_after}
use Rattle.parser.specs.Element.{element, element_step, element_due}
use Rattle.parser.specs.Pi.{pi, pi_step, pi_due, after_question}
use Rattle.parser.specs.Doubled.{doubled_step}
use Rattle.parser.specs.declared.doubled.DoubledParser.{DoubledParser}
use Rattle.parser.specs.declared.doubled.DoubledParser.TheVariants.{Seen0, Seen1, Seen2}
use Rattle.parser.specs.declared.element.ElementParser.{ElementParser}
use Rattle.parser.specs.declared.element.ElementParser.TheVariants.{Outside, SingleQ, DoubleQ}
use Rattle.parser.specs.declared.errors.SyntaxError.{SyntaxError}
use Rattle.parser.specs.Machines.{machine-cons, later_stop}

module _ {S : Type 0} (step : S → ℕ → Move S) (due : S → List ℕ → SyntaxError) (ends : Ending) (view : List ℕ → S) (views : (h : List ℕ) (b : ℕ) → step (view h) b ≡ cond (ends h b) halt (goes (view (h ++ b ∷ [])))) where
  -- the first place, after the bytes h
  record After (h xs : List ℕ) (k : ℕ) : Type 0 where
    inside : k < length xs
    here : ends (h ++ take k xs) (get_or xs k 0) ≡ true
    before : (j : ℕ) → j < k → ends (h ++ take j xs) (get_or xs j 0) ≡ false

  ended : (h : List ℕ) (x : ℕ) (xs : List ℕ) → ends h x ≡ true → machine step due (view h) (x ∷ xs) ≡ stop 0
  ended h x xs e = machine-cons step due (view h) x xs halt (views h x ∙ ap (λ v. cond v halt (goes (view (h ++ x ∷ [])))) e)

  gone : (h : List ℕ) (x : ℕ) (xs : List ℕ) → ends h x ≡ false → machine step due (view h) (x ∷ xs) ≡ later 1 (machine step due (view (h ++ x ∷ [])) xs)
  gone h x xs e = machine-cons step due (view h) x xs (goes (view (h ++ x ∷ []))) (views h x ∙ ap (λ v. cond v halt (goes (view (h ++ x ∷ [])))) e)

  to_first : (h xs : List ℕ) (k : ℕ) → machine step due (view h) xs ≡ stop k → After h xs k
  to_first h [] k e = absurd (cc)
  to_first h (x ∷ xs) k e = go (λ j. to_first (h ++ x ∷ []) xs j) (ends h x) refl
    where
      go : ((j : ℕ) → machine step due (view (h ++ x ∷ [])) xs ≡ stop j → After (h ++ x ∷ []) xs j) → (v : Bool) → ends h x ≡ v → After h (x ∷ xs) k
      go ih true q =
          let zero_is : 0 ≡ k = (let s : stop 0 ≡ stop k = sym (ended h x xs q) ∙ e in cc) in
          subst (After h (x ∷ xs)) zero_is (record { inside = omega arith; here = ap (λ l. ends l x) (append-nil h) ∙ q; before = λ j lt. absurd (omega arith) })
      go ih false q =
          let at = later_stop (machine step due (view (h ++ x ∷ [])) xs) k (sym (gone h x xs q) ∙ e) in
          let rest = ih at.0 at.1 in
          let early : (j : ℕ) → j < suc at.0 → ends (h ++ take j (x ∷ xs)) (get_or (x ∷ xs) j 0) ≡ false =
          elim [ zero ↦ λ lt. ap (λ l. ends l x) (append-nil h) ∙ q | suc j ↦ λ lt. ap (λ l. ends l (get_or xs j 0)) (sym (append_assoc h (x ∷ []) (take j xs))) ∙ rest.before j (omega arith) ] in
          subst (After h (x ∷ xs)) (sym at.2)
          (record { inside = omega (arith, rest.inside); here = ap (λ l. ends l (get_or xs at.0 0)) (sym (append_assoc h (x ∷ []) (take at.0 xs))) ∙ rest.here; before = early })

  from_first : (h xs : List ℕ) (k : ℕ) → After h xs k → machine step due (view h) xs ≡ stop k
  from_first h [] k a = absurd (omega (arith, a.inside))
  from_first h (x ∷ xs) zero a = ended h x xs (ap (λ l. ends l x) (sym (append-nil h)) ∙ a.here)
  from_first h (x ∷ xs) (suc k) a =
      gone h x xs (ap (λ l. ends l x) (sym (append-nil h)) ∙ a.before 0 (omega arith))
      ∙ ap (later 1) (from_first (h ++ x ∷ []) xs k (record {
        inside = omega (arith, a.inside);
        here = ap (λ l. ends l (get_or xs k 0)) (append_assoc h (x ∷ []) (take k xs)) ∙ a.here;
        before = λ j lt. ap (λ l. ends l (get_or xs j 0)) (append_assoc h (x ∷ []) (take j xs)) ∙ a.before (suc j) (omega arith);
      }))
      ∙ ap stop (omega arith)

  pub stops_at-first : StopsAtFirst (machine step due (view [])) ends
  stops_at-first xs k = (
    λ e. let a = to_first [] xs k e in record { inside = a.inside; here = a.here; before = a.before },
    λ f. from_first [] xs k (record { inside = f.inside; here = f.here; before = f.before }),
  )

-- a push at the end, read backwards
pub pushed : (h : List ℕ) (b : ℕ) → reverse (h ++ b ∷ []) ≡ b ∷ reverse h
pushed h b = reverse-append h (b ∷ [])

pub pi-first : StopsAtFirst (pi (after_question false)) (ends_after (codes "?"))
pi-first = stops_at-first pi_step pi_due (ends_after (codes "?")) (λ h. after_question (ends_with (codes "?") h)) views
  where
    views : (h : List ℕ) (b : ℕ) → pi_step (after_question (ends_with (codes "?") h)) b ≡ cond (ends_after (codes "?") h b) halt (goes (after_question (ends_with (codes "?") (h ++ b ∷ []))))
    views h b = ap (λ v. cond (ends_after (codes "?") h b) halt (goes (after_question v))) (sym (and-true (eqb b 63)) ∙ ap (begins (codes "?")) (sym (pushed h b)))

-- a machine of three states, by how many bytes c came right before, two for more
module _ {S : Type 0} (step : S → ℕ → Move S) (due : S → List ℕ → SyntaxError) (c : ℕ) (zero' one two : S) (at_zero : (b : ℕ) → step zero' b ≡ cond (eqb b c) (goes one) (goes zero')) (at_one : (b : ℕ) → step one b ≡ cond (eqb b c) (goes two) (goes zero')) (at-two : (b : ℕ) → step two b ≡ cond (eqb b 62) halt (cond (eqb b c) (goes two) (goes zero'))) where
  -- the state after the bytes that are, read backwards, r
  abbrev pub seen : List ℕ → S
  seen [] = zero'
  seen (x ∷ []) = cond (eqb x c) one zero'
  seen (x ∷ y ∷ r) = cond (eqb x c) (cond (eqb y c) two one) zero'

  abbrev pub both : List ℕ → Bool
  both r = begins (c ∷ c ∷ []) r

  on_none : (p : Bool) → cond p (goes one) (goes zero') ≡ goes (cond p one zero')
  on_none true = refl
  on_none false = refl

  on_one : (b : ℕ) (v p : Bool) → eqb b c ≡ p → step (cond v one zero') b ≡ cond ((v && false) && eqb b 62) halt (goes (cond p (cond v two one) zero'))
  on_one b true true e = at_one b ∙ ap (λ p. cond p (goes two) (goes zero')) e
  on_one b true false e = at_one b ∙ ap (λ p. cond p (goes two) (goes zero')) e
  on_one b false true e = at_zero b ∙ ap (λ p. cond p (goes one) (goes zero')) e
  on_one b false false e = at_zero b ∙ ap (λ p. cond p (goes one) (goes zero')) e

  on_two : (b : ℕ) (v w p : Bool) → eqb b c ≡ p → step (cond v (cond w two one) zero') b ≡ cond ((v && (w && true)) && eqb b 62) halt (goes (cond p (cond v two one) zero'))
  on_two b true true true e = at-two b ∙ ap (λ p. cond (eqb b 62) halt (cond p (goes two) (goes zero'))) e
  on_two b true true false e = at-two b ∙ ap (λ p. cond (eqb b 62) halt (cond p (goes two) (goes zero'))) e
  on_two b true false true e = at_one b ∙ ap (λ p. cond p (goes two) (goes zero')) e
  on_two b true false false e = at_one b ∙ ap (λ p. cond p (goes two) (goes zero')) e
  on_two b false w true e = at_zero b ∙ ap (λ p. cond p (goes one) (goes zero')) e
  on_two b false w false e = at_zero b ∙ ap (λ p. cond p (goes one) (goes zero')) e

  pub seen_step : (r : List ℕ) (b : ℕ) → step (seen r) b ≡ cond (both r && eqb b 62) halt (goes (seen (b ∷ r)))
  seen_step [] b = at_zero b ∙ on_none (eqb b c)
  seen_step (x ∷ []) b = on_one b (eqb x c) (eqb b c) refl
  seen_step (x ∷ y ∷ r) b = on_two b (eqb x c) (eqb y c) (eqb b c) refl

  pub two_first : StopsAtFirst (machine step due zero') (ends_after (c ∷ c ∷ []))
  two_first = stops_at-first step due (ends_after (c ∷ c ∷ [])) (λ h. seen (reverse h)) (λ h b. seen_step (reverse h) b ∙ ap (λ l. cond (both (reverse h) && eqb b 62) halt (goes (seen l))) (sym (pushed h b)))

-- the scanner of two marks
pub doubled-first : (mark : ℕ) (due : DoubledParser mark → List ℕ → SyntaxError) → StopsAtFirst (machine doubled_step due Seen0) (ends_after (mark ∷ mark ∷ []))
doubled-first mark due = two_first doubled_step due mark Seen0 Seen1 Seen2 (λ b. refl) (λ b. refl) (λ b. refl)

-- a quote that can be open
data Open : Option ℕ → Type 0 where
  none : Open None
  single : Open (Some 39)
  double : Open (Some 34)

opens : (b : ℕ) → Open (cond (eqb b 39 || eqb b 34) (Some b) None)
opens b = go (eqb b 39) refl (eqb b 34) refl
  where
    go : (p : Bool) → eqb b 39 ≡ p → (r : Bool) → eqb b 34 ≡ r → Open (cond (p || r) (Some b) None)
    go true e r f = subst (λ n. Open (Some n)) (sym (eqb-true b 39 e)) single
    go false e true f = subst (λ n. Open (Some n)) (sym (eqb-true b 34 f)) double
    go false e false f = none

closes : (q b : ℕ) → Open (Some q) → Open (cond (eqb b q) None (Some q))
closes q b o = elim (eqb b q) as (λ v. Open (cond v None (Some q))) [ true ↦ none | false ↦ o ]

stays_open : (q : Option ℕ) (h : List ℕ) → Open q → Open (quote_after q h)
stays_open q [] o = o
stays_open None (b ∷ h) o = stays_open (cond (eqb b 39 || eqb b 34) (Some b) None) h (opens b)
stays_open (Some q) (b ∷ h) o = stays_open (cond (eqb b q) None (Some q)) h (closes q b o)

quote_push : (q : Option ℕ) (h : List ℕ) (b : ℕ) → quote_after q (h ++ b ∷ []) ≡ quote_after (quote_after q h) (b ∷ [])
quote_push q [] b = refl
quote_push None (x ∷ h) b = quote_push (cond (eqb x 39 || eqb x 34) (Some x) None) h b
quote_push (Some q) (x ∷ h) b = quote_push (cond (eqb x q) None (Some q)) h b

abbrev quoted : Option ℕ → ElementParser
quoted None = Outside
quoted (Some q) = cond (eqb q 39) SingleQ DoubleQ

quoted_step : (q : Option ℕ) (b : ℕ) → Open q → element_step (quoted q) b ≡ cond (not (is_some q) && eqb b 62) halt (goes (quoted (quote_after q (b ∷ []))))
quoted_step q b none = ap (cond (eqb b 62) halt) (go (eqb b 39) (eqb b 34) refl)
  where
    go : (p r : Bool) → eqb b 39 ≡ p → cond p (goes SingleQ) (cond r (goes DoubleQ) (goes Outside)) ≡ goes (quoted (cond (p || r) (Some b) None))
    go true r e = ap (λ v. goes (cond v SingleQ DoubleQ)) (sym e)
    go false true e = ap (λ v. goes (cond v SingleQ DoubleQ)) (sym e)
    go false false e = refl
quoted_step q b single = go (eqb b 39)
  where
    go : (p : Bool) → cond p (goes Outside) (goes SingleQ) ≡ goes (quoted (cond p None (Some 39)))
    go true = refl
    go false = refl
quoted_step q b double = go (eqb b 34)
  where
    go : (p : Bool) → cond p (goes Outside) (goes DoubleQ) ≡ goes (quoted (cond p None (Some 34)))
    go true = refl
    go false = refl

pub element-first : StopsAtFirst (element Outside) ends_tag
element-first = stops_at-first element_step element_due ends_tag (λ h. quoted (quote_after None h)) (λ h b. quoted_step (quote_after None h) b (stays_open None h none) ∙ ap (λ q. cond (ends_tag h b) halt (goes (quoted q))) (sym (quote_push None h b)))
