-- What an entry of a script means: a call, whether it goes on, the length of its buffer and its patience.
use Rattle.std.specs.Prelude.{ℕ, Bool, true, false, cond, List, [], ◌∷◌, Some, None, codes, Option}
use Rattle.std.specs.Str.{bytes_eq}
use Rattle.cases.specs.declared.step.Spending.TheVariants.{Elem, Pi, Comment, Bang, Abandon}
use Rattle.cases.specs.declared.step.Call.{Call}
use Rattle.cases.specs.declared.step.Call.TheVariants.{Text, Ref, Peek, Next, Spend}
use Rattle.cases.specs.declared.step.Step.{Step}
use Rattle.cases.specs.Words.{before, behind, bound, decimal_of}

-- the first name that is written so
abbrev pub look_up : {A : Type 0} → List (List ℕ × A) → List ℕ → Option A
look_up [] name = None
look_up (entry ∷ entries) name = cond (bytes_eq name entry.0) (Some entry.1) (look_up entries name)

-- the first call of each name, and whether its answer leads to a further one
abbrev pub names : List (List ℕ × (Call × Bool))
names =
    (codes "pieces", (Text, true)) ∷ (codes "nexts", (Next, true)) ∷ (codes "text", (Text, false)) ∷ (codes "ref", (Ref, false))
    ∷ (codes "peek", (Peek, false)) ∷ (codes "next", (Next, false)) ∷ (codes "elem", (Spend Elem, false)) ∷ (codes "pi", (Spend Pi, false))
    ∷ (codes "comment", (Spend Comment, false)) ∷ (codes "bang", (Spend Bang, false)) ∷ (codes "abandon", (Spend Abandon, false)) ∷ []

-- the name of a call
abbrev pub call_text : Call → List ℕ
call_text Text = codes "text"
call_text Ref = codes "ref"
call_text Peek = codes "peek"
call_text Next = codes "next"
call_text (Spend Elem) = codes "elem"
call_text (Spend Pi) = codes "pi"
call_text (Spend Comment) = codes "comment"
call_text (Spend Bang) = codes "bang"
call_text (Spend Abandon) = codes "abandon"

-- a buffer's length: 65536 where there is no digit
abbrev pub length_of : List ℕ → Option ℕ
length_of [] = Some 65536
length_of (b ∷ bs) = decimal_of 16777217 (b ∷ bs)

-- the patience: the largest where there is none
abbrev pub patience_of : Option (List ℕ) → Option ℕ
patience_of None = Some 4294967295
patience_of (Some digits) = decimal_of 4294967295 digits

-- both, with a `:` between, which is 58
abbrev pub numbers_of : Option (List ℕ) → Option (ℕ × ℕ)
numbers_of None = Some (65536, 4294967295)
numbers_of (Some text) = bound (length_of (before 58 text)) (λ n. bound (patience_of (behind 58 text)) (λ p. Some (n, p)))

abbrev pub step_of : List ℕ → Option Step
step_of text =
    bound (look_up names (before 58 text)) (λ call. bound (numbers_of (behind 58 text))
    (λ numbers. Some (record { call = call.0; goes_on = call.1; buffer = numbers.0; patience = numbers.1 })))
