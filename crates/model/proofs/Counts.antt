-- How many bytes the answer to a gathering says were written and taken. Assumes nothing.
use Rattle.std.proofs.Common.{◌≡◌, ℕ, zero, suc, ◌-◌, List, length, IfOk, Ok, Err, Result, refl}
use Rattle.parser.specs.declared.errors.SyntaxError.{SyntaxError}
use Rattle.utf8.specs.Utf8.{judged}
use Rattle.utf8.specs.declared.Utf8Error.{Utf8Error}
use Rattle.model.specs.Told.{text_told, ref_told}
use Rattle.model.specs.Call.{chain, checked, whole, taking, text_answer, text_reading, ref_answer, ref_reading, with_answer, with_piece}
use Rattle.model.specs.declared.ending.TextEnd.{TextEnd}
use Rattle.model.specs.declared.ending.TextEnd.TheVariants as text_end
use Rattle.model.specs.declared.ending.RefEnd.{RefEnd}
use Rattle.model.specs.declared.ending.RefEnd.TheVariants as ref_end
use Rattle.model.specs.declared.answer.Told.{Told}
use Rattle.errors.specs.declared.Error.{Error}

abbrev pub counts : Told → ℕ × ℕ
counts a = (a.written, a.taken)

module _ {A B : Type 0} (to : Result A Error → B) (counted : B → ℕ × ℕ) (n : ℕ × ℕ) (refused : (e : Error) → counted (to (Err e)) ≡ n) where
  checked-counts : (r : Result (Unit {0}) Utf8Error) (a : A) → counted (to (Ok a)) ≡ n → counted (to (checked r a)) ≡ n
  checked-counts (Ok u) a h = h
  checked-counts (Err e) a h = refused _

  -- where each refusal counts n, and each answer to a whole piece
  whole-counts : {E : Type 0} (answer : E → ℕ → Result A Error) (bs : List ℕ) → ((e : E) → IfOk (answer e (length bs)) (λ a. counted (to (Ok a)) ≡ n))
      → (e : Result E Error) → counted (to (chain e (whole answer bs))) ≡ n
  whole-counts answer bs h (Err e) = refused e
  whole-counts answer bs h (Ok e) = by (answer e (length bs)) (h e)
    where
      by : (r : Result A Error) → IfOk r (λ a. counted (to (Ok a)) ≡ n) → counted (to (chain r (checked (judged bs)))) ≡ n
      by (Ok a) same = checked-counts (judged bs) a same
      by (Err e) _ = refused e

module _ (bs : List ℕ) where
  abbrev all_taken : ℕ × ℕ
  all_taken = (length bs, length bs)

  pub text-counts : (e : Result TextEnd Error) → counts (text_told (text_reading.answer bs e)) ≡ all_taken
  text-counts = whole-counts (taking (length bs)) (λ r. counts (text_told r)) all_taken (λ _. refl) text_answer bs (λ e. kind e (length bs))
    where
      kind : (e : TextEnd) (w : ℕ) → IfOk (text_answer e w) (λ a. counts (text_told (Ok a)) ≡ (w, w))
      kind text_end.Markup zero = refl
      kind text_end.Markup (suc w) = refl
      kind text_end.Ref zero = refl
      kind text_end.Ref (suc w) = refl
      kind text_end.Eof w = refl

  pub ref-counts : (e : Result RefEnd Error) → counts (ref_told (ref_reading.answer bs e)) ≡ all_taken
  ref-counts = whole-counts (taking (length bs)) (λ r. counts (ref_told r)) all_taken (λ _. refl) ref_answer bs (λ e. kind e (length bs))
    where
      kind : (e : RefEnd) (w : ℕ) → IfOk (ref_answer e w) (λ a. counts (ref_told (Ok a)) ≡ (w, w))
      kind ref_end.Semicolon w = refl
      kind ref_end.Markup w = refl
      kind ref_end.Ref w = refl
      kind ref_end.Eof w = refl
      kind ref_end.NotRef w = tt

  -- the `<` was taken before
  abbrev pub one_before : ℕ × ℕ
  one_before = (length bs, length bs - 1)

  pub scanned_counts : {B : Type 0} (to : Result ℕ Error → B) (counted : B → ℕ × ℕ) → ((e : Error) → counted (to (Err e)) ≡ one_before)
      → counted (to (Ok (length bs))) ≡ one_before
      → (e : Result (Result (Unit {0}) SyntaxError) Error) → counted (to (chain e (with_piece bs))) ≡ one_before
  scanned_counts to counted refused accepted = whole-counts to counted one_before refused with_answer bs end
    where
      end : (r : Result (Unit {0}) SyntaxError) → IfOk (with_answer r (length bs)) (λ a. counted (to (Ok a)) ≡ one_before)
      end (Ok u) = accepted
      end (Err e) = tt
