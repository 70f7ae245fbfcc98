-- What each answer tells, case by case: its number (0 where it is no refusal), the bytes written and the bytes taken.
use Rattle.std.specs.Prelude.{ℕ, ◌-◌, Ok, Err, Option, Result}
use Rattle.errors.specs.Numbers.{number}
use Rattle.model.specs.declared.answer.ReadText.{ReadText}
use Rattle.model.specs.declared.answer.ReadText.TheVariants as text
use Rattle.model.specs.declared.answer.ReadRef.{ReadRef}
use Rattle.model.specs.declared.answer.ReadRef.TheVariants as ref
use Rattle.model.specs.declared.answer.Refusal.{Refusal}
use Rattle.model.specs.declared.answer.Refused.{Refused}
use Rattle.model.specs.declared.answer.Refused.TheVariants.{Kept, Spent}
use Rattle.model.specs.declared.answer.BangKind.{BangKind}
use Rattle.model.specs.declared.answer.Answer.{Answer}
use Rattle.model.specs.declared.answer.Answer.TheVariants.{Text, Ref, Peek, With, Bang, Abandon}
use Rattle.model.specs.declared.answer.Told.{Told}

-- an answer that is no refusal
abbrev pub accepted : ℕ → ℕ → Told
accepted w t = record { number = 0; written = w; taken = t }

abbrev pub refused_told : Refusal → Told
refused_told r = record { number = number r.error; written = r.written; taken = r.taken }

-- read_text and read_ref take what they write
abbrev pub text_told : Result ReadText Refusal → Told
text_told (Ok (text.UpToMarkup w)) = accepted w w
text_told (Ok (text.UpToRef w)) = accepted w w
text_told (Ok (text.UpToEof w)) = accepted w w
text_told (Ok text.Markup) = accepted 0 0
text_told (Ok text.Ref) = accepted 0 0
text_told (Err r) = refused_told r

abbrev pub ref_told : Result ReadRef Refusal → Told
ref_told (Ok (ref.Ref w)) = accepted w w
ref_told (Ok (ref.UpToRef w)) = accepted w w
ref_told (Ok (ref.UpToMarkup w)) = accepted w w
ref_told (Ok (ref.UpToEof w)) = accepted w w
ref_told (Err r) = refused_told r

module _ {T : Type 0} where
  -- peek_one takes the `<`, with a byte behind it or not
  abbrev pub peek_told : Result (Option (ℕ × T)) Refusal → Told
  peek_told (Ok p) = accepted 0 1
  peek_told (Err r) = refused_told r

  abbrev pub turned_told : Refused T → Told
  turned_told (Kept e token) = record { number = number e; written = 0; taken = 0 }
  turned_told (Spent r) = refused_told r

  -- the `<` of read_with and read_bang_element was taken before
  abbrev pub with_told : Result ℕ (Refused T) → Told
  with_told (Ok w) = accepted w (w - 1)
  with_told (Err r) = turned_told r

  abbrev pub bang_told : Result (BangKind × ℕ) (Refused T) → Told
  bang_told (Ok (k, w)) = accepted w (w - 1)
  bang_told (Err r) = turned_told r

  abbrev pub abandon_told : Result (Unit {0}) (Refused T) → Told
  abandon_told (Ok u) = accepted 0 0
  abandon_told (Err r) = turned_told r

  abbrev pub told : Answer T → Told
  told (Text r) = text_told r
  told (Ref r) = ref_told r
  told (Peek r) = peek_told r
  told (With r) = with_told r
  told (Bang r) = bang_told r
  told (Abandon r) = abandon_told r
