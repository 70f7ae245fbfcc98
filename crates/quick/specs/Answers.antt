-- That a call answers as quick-xml's does.
use Rattle.std.specs.Prelude.{◌≡◌, ℕ, ◌+◌, ◌^◌, ◌<◌, ◌≤◌, true, ◌⊎◌, List, [], ◌∷◌, length, take, is_some, Some, None, Ok, Err, Option, Result}
use Rattle.source.specs.Stream.{Tail, bytes_of, waits_in}
use Rattle.parser.specs.Scan.{Meaning, Prefix}
use Rattle.model.specs.Told.{text_told, ref_told, peek_told, with_told, bang_told}
use Rattle.model.specs.Call.{State, Outcome, reads, text_reading, ref_reading, with_reading}
use Rattle.model.specs.Peek.{peeks}
use Rattle.model.specs.Bang.{bangs}
use Rattle.model.specs.declared.answer.ReadText.{ReadText}
use Rattle.model.specs.declared.answer.ReadRef.{ReadRef}
use Rattle.model.specs.declared.answer.BangKind.{BangKind}
use Rattle.model.specs.declared.answer.Refusal.{Refusal}
use Rattle.model.specs.declared.answer.Refused.{Refused}
use Rattle.model.specs.declared.answer.Refused.TheVariants.{Kept, Spent}
use Rattle.model.specs.declared.answer.Told.{Told}
use Rattle.errors.specs.declared.Error.{Error}
use Rattle.quick.specs.QuickXml.{Returned, rust_read_text, rust_read_ref, rust_peek_one, rust_read_with, rust_read_bang_element}

-- an answer as quick-xml has it: of a refusal the error alone, and of a peek the byte alone
abbrev pub plain_answer : {A : Type 0} → Result A Refusal → Result A Error
plain_answer (Ok a) = Ok a
plain_answer (Err r) = Err r.error

module _ {T : Type 0} where
  abbrev pub plain_turned : {A : Type 0} → Result A (Refused T) → Result A Error
  plain_turned (Ok a) = Ok a
  plain_turned (Err (Kept e token)) = Err e
  plain_turned (Err (Spent r)) = Err r.error

  abbrev pub plain_peeked : Result (Option (ℕ × T)) Refusal → Result (Option ℕ) Error
  plain_peeked (Ok (Some (b, token))) = Ok (Some b)
  plain_peeked (Ok None) = Ok None
  plain_peeked (Err r) = Err r.error

-- what quick-xml does not run out of: numbers for the position, room for what is appended, and patience
pub record Enough (s : State) (buf : List ℕ) (patience : ℕ) (appended : List ℕ) : Type 0 where
  pub counts : s.position < 2 ^ 63
  pub size : length buf ≤ 16777216
  pub room : length appended ≤ length buf
  pub patient : waits_in s.stream.items ≤ patience

-- the outcome of a call from the state s is what quick-xml returned
pub record AnswersAs {A B : Type 0} (plain : B → Result A Error) (told : B → Told) (s : State) (r : Returned A) (o : Outcome B) : Type 0 where
  -- the same answer or the same error
  pub answer : plain o.answer ≡ r.answer
  -- as many bytes are written, and they are the buffer's front
  pub written : (told o.answer).written ≡ length r.bytes
  pub front : take (told o.answer).written o.buffer ≡ r.bytes
  -- as many bytes are taken
  pub taken : (told o.answer).taken + length r.left ≡ length (bytes_of s.stream)
  pub position : o.after.position ≡ r.position
  pub left : bytes_of o.after.stream ≡ r.left
  pub tail : o.after.stream.tail ≡ s.stream.tail

module _ {A B : Type 0} (plain : B → Result A Error) (told : B → Told) (rust : List ℕ → Tail → ℕ → Returned A) where
  abbrev pub AsQuickXml : State → List ℕ → ℕ → Outcome B → Type 0
  AsQuickXml s buf patience o =
      Enough s buf patience (rust (bytes_of s.stream) s.stream.tail s.position).bytes
      → AnswersAs plain told s (rust (bytes_of s.stream) s.stream.tail s.position) o

-- the byte that the source begins with, once waits are passed
abbrev pub Begins : State → ℕ → Type 0
Begins s b = (bs : List ℕ) × (bytes_of s.stream ≡ b ∷ bs)

-- the outcome of each call, made where quick-xml makes it
abbrev pub AsQuickXmlText : State → List ℕ → ℕ → Outcome (Result ReadText Refusal) → Type 0
AsQuickXmlText s buf patience o = s.opening ≡ None → AsQuickXml plain_answer text_told rust_read_text s buf patience o

abbrev pub AsQuickXmlRef : State → List ℕ → ℕ → Outcome (Result ReadRef Refusal) → Type 0
AsQuickXmlRef s buf patience o =
    s.opening ≡ None → 0 < length buf → Begins s 38 ⊎ (bytes_of s.stream ≡ []) → AsQuickXml plain_answer ref_told rust_read_ref s buf patience o

module _ {T : Type 0} where
  abbrev pub AsQuickXmlPeek : State → ℕ → Outcome (Result (Option (ℕ × T)) Refusal) → Type 0
  AsQuickXmlPeek s patience o = s.opening ≡ None → Begins s 60 → AsQuickXml plain_peeked peek_told rust_peek_one s [] patience o

  abbrev pub AsQuickXmlWith : Meaning → State → List ℕ → ℕ → Outcome (Result ℕ (Refused T)) → Type 0
  AsQuickXmlWith m s buf patience o = is_some s.opening ≡ true → AsQuickXml plain_turned with_told (rust_read_with m) s buf patience o

  -- the byte that was peeked still stands first
  abbrev pub AsQuickXmlBang : State → List ℕ → ℕ → Outcome (Result (BangKind × ℕ) (Refused T)) → Type 0
  AsQuickXmlBang s buf patience o =
      s.opening ≡ Some 33 → Begins s 33 → AsQuickXml plain_turned bang_told rust_read_bang_element s buf patience o

-- for every source, every buffer and every patience
abbrev pub TextAsQuickXml : Type 0
TextAsQuickXml = (s : State) (buf : List ℕ) (patience : ℕ) → AsQuickXmlText s buf patience (reads text_reading s buf patience)

abbrev pub RefAsQuickXml : Type 0
RefAsQuickXml = (s : State) (buf : List ℕ) (patience : ℕ) → AsQuickXmlRef s buf patience (reads ref_reading s buf patience)

module _ {T : Type 0} (token : T) where
  abbrev pub PeekAsQuickXml : Type 0
  PeekAsQuickXml = (s : State) (patience : ℕ) → AsQuickXmlPeek s patience (peeks token s patience)

  -- and every parser
  abbrev pub WithAsQuickXml : Type 0
  WithAsQuickXml =
      (m : Meaning) → Prefix m → (s : State) (buf : List ℕ) (patience : ℕ)
      → AsQuickXmlWith m s buf patience (reads (with_reading token m) s buf patience)

  abbrev pub BangAsQuickXml : Type 0
  BangAsQuickXml = (s : State) (buf : List ℕ) (patience : ℕ) → AsQuickXmlBang s buf patience (bangs token s buf patience)
