-- What a call does: its answer, and the stream, the position, the opening and the buffer after it.
use Rattle.std.specs.Prelude.{ℕ, zero, suc, ◌+◌, ◌-◌, ◌^◌, if◌then◌else◌, List, [], ◌∷◌, ◌++◌, length, drop, Some, None, Ok, Err, Option, Result, ◌==◌, nat_le, nat_lt}
use Rattle.source.specs.Stream.{Item, Stream, bytes_of}
use Rattle.parser.specs.Scan.{Meaning}
use Rattle.parser.specs.declared.errors.SyntaxError.{SyntaxError}
use Rattle.utf8.specs.Utf8.{judged}
use Rattle.utf8.specs.declared.Utf8Error.{Utf8Error}
use Rattle.model.specs.Cut.{Cut, text_cut, ref_cut, scan_cut}
use Rattle.model.specs.Gather.{Gathered, gather}
use Rattle.model.specs.declared.ending.Pending.{Pending}
use Rattle.model.specs.declared.ending.Pending.TheVariants as pending
use Rattle.model.specs.declared.ending.TextEnd.{TextEnd}
use Rattle.model.specs.declared.ending.TextEnd.TheVariants as text_end
use Rattle.model.specs.declared.ending.RefEnd.{RefEnd}
use Rattle.model.specs.declared.ending.RefEnd.TheVariants as ref_end
use Rattle.model.specs.declared.answer.ReadText.{ReadText}
use Rattle.model.specs.declared.answer.ReadText.TheVariants as text
use Rattle.model.specs.declared.answer.ReadRef.{ReadRef}
use Rattle.model.specs.declared.answer.ReadRef.TheVariants as ref
use Rattle.model.specs.declared.answer.Refusal.{Refusal}
use Rattle.model.specs.declared.answer.Refused.{Refused}
use Rattle.model.specs.declared.answer.Refused.TheVariants.{Kept, Spent}
use Rattle.errors.specs.declared.Error.{Error}
use Rattle.errors.specs.declared.Error.TheVariants.{Position, BufferTooLong, Opening, NotBang, BufferTooShort, FirstByte, Syntax, Utf8}

-- a reader: what its source means, its position, and the byte peeked behind a pending opening
pub record State : Type 0 where
  pub stream : Stream
  pub position : ℕ
  pub opening : Option ℕ

abbrev pub state : Stream → ℕ → Option ℕ → State
state s p o = record { stream = s; position = p; opening = o }

-- a reader over the items that are left
abbrev pub left_with : State → List Item → ℕ → Option ℕ → State
left_with s is p o = state (record { items = is; tail = s.stream.tail }) p o

-- an answer, the reader after it, and the buffer after it
pub record Outcome (A : Type 0) : Type 0 where
  pub answer : A
  pub after : State
  pub buffer : List ℕ

abbrev pub outcome : {A : Type 0} → A → State → List ℕ → Outcome A
outcome r s buf = record { answer = r; after = s; buffer = buf }

-- whether what a call wants is pending: `!` is 33
abbrev pub pends : Pending → Option ℕ → Result (Unit {0}) Error
pends pending.Nothing None = Ok tt
pends pending.Nothing (Some b) = Err Opening
pends pending.Opening None = Err Opening
pends pending.Opening (Some b) = Ok tt
pends pending.Bang None = Err Opening
pends pending.Bang (Some b) = if b == 33 then Ok tt else Err NotBang

abbrev pub chain : {A B : Type 0} → Result A Error → (A → Result B Error) → Result B Error
chain (Ok a) f = f a
chain (Err e) f = Err e

-- the questions before any look: the position, the buffer's length, what is pending, the least buffer
abbrev pub admitted : ℕ → ℕ → Pending → Option ℕ → ℕ → Result (Unit {0}) Error
admitted position size wanted opening least =
    if nat_le (2 ^ 63) position then Err Position
    else if nat_lt 16777216 size then Err BufferTooLong
    else chain (pends wanted opening) (λ _. if nat_lt size least then Err BufferTooShort else Ok tt)

-- the answer of a whole piece, if it is UTF-8
abbrev pub checked : {A : Type 0} → Result (Unit {0}) Utf8Error → A → Result A Error
checked (Ok u) a = Ok a
checked (Err e) a = Err (Utf8 e)

-- the same by what ended the piece and by its length
abbrev pub whole : {E A : Type 0} → (E → ℕ → Result A Error) → List ℕ → E → Result A Error
whole answer bs e = chain (answer e (length bs)) (checked (judged bs))

abbrev pub refusal : Error → ℕ → ℕ → Refusal
refusal e w t = record { error = e; written = w; taken = t }

-- bytes over the front of a buffer
abbrev pub over : List ℕ → List ℕ → List ℕ
over bs buf = bs ++ drop (length bs) buf

-- a call that gathers one piece
pub record Reading (E A : Type 0) : Type 0 where
  -- where the piece ends in the bytes of the source
  pub cut : List ℕ → Cut E
  -- what it writes first
  pub prefix : List ℕ
  -- what it wants to be pending
  pub wanted : Pending
  -- the least buffer
  pub least : ℕ
  -- its answer to a refusal that touches nothing, and to a gathering
  pub early : Error → A
  pub answer : List ℕ → Result E Error → A

module _ {E A : Type 0} (r : Reading E A) (s : State) (buf : List ℕ) (patience : ℕ) where
  abbrev pub read_piece : Gathered E → Outcome A
  read_piece g = outcome (r.answer g.bytes g.ending) (left_with s g.left (s.position + length g.bytes) None) (over g.bytes buf)

  abbrev pub unless_early : Result (Unit {0}) Error → Outcome A
  unless_early (Err e) = outcome (r.early e) s buf
  unless_early (Ok u) =
      read_piece (gather (r.cut (bytes_of s.stream)) (length buf) r.prefix patience s.stream.items s.stream.tail)

  abbrev pub reads : Outcome A
  reads = unless_early (admitted s.position (length buf) r.wanted s.opening r.least)

-- read_text and read_ref take what they write
abbrev pub taking : {A : Type 0} → ℕ → Result A Error → Result A Refusal
taking w (Ok a) = Ok a
taking w (Err e) = Err (refusal e w w)

-- such a call, by where its piece ends, its least buffer and what it makes of a whole piece
abbrev pub taking_reading : {E A : Type 0} → (List ℕ → Cut E) → ℕ → (List ℕ → E → Result A Error) → Reading E (Result A Refusal)
taking_reading cut least piece = record {
  cut = cut;
  prefix = [];
  wanted = pending.Nothing;
  least = least;
  early = λ e. Err (refusal e 0 0);
  answer = λ bs e. taking (length bs) (chain e (piece bs));
}

abbrev pub text_kind : TextEnd → ℕ → ReadText
text_kind text_end.Markup zero = text.Markup
text_kind text_end.Markup (suc w) = text.UpToMarkup (suc w)
text_kind text_end.Ref zero = text.Ref
text_kind text_end.Ref (suc w) = text.UpToRef (suc w)
text_kind text_end.Eof w = text.UpToEof w

abbrev pub text_answer : TextEnd → ℕ → Result ReadText Error
text_answer e w = Ok (text_kind e w)

abbrev pub text_piece : List ℕ → TextEnd → Result ReadText Error
text_piece = whole text_answer

abbrev pub text_reading : Reading TextEnd (Result ReadText Refusal)
text_reading = taking_reading text_cut 0 text_piece

abbrev pub ref_answer : RefEnd → ℕ → Result ReadRef Error
ref_answer ref_end.Semicolon w = Ok (ref.Ref w)
ref_answer ref_end.Markup w = Ok (ref.UpToMarkup w)
ref_answer ref_end.Ref w = Ok (ref.UpToRef w)
ref_answer ref_end.Eof w = Ok (ref.UpToEof w)
ref_answer ref_end.NotRef w = Err FirstByte

abbrev pub ref_piece : List ℕ → RefEnd → Result ReadRef Error
ref_piece = whole ref_answer

abbrev pub ref_reading : Reading RefEnd (Result ReadRef Refusal)
ref_reading = taking_reading ref_cut 1 ref_piece

-- read_with spends its token, and its `<` was taken before
abbrev pub spending : {A T : Type 0} → ℕ → Result A Error → Result A (Refused T)
spending w (Ok a) = Ok a
spending w (Err e) = Err (Spent (refusal e w (w - 1)))

abbrev pub with_answer : Result (Unit {0}) SyntaxError → ℕ → Result ℕ Error
with_answer (Ok u) w = Ok w
with_answer (Err e) w = Err (Syntax e)

abbrev pub with_piece : List ℕ → Result (Unit {0}) SyntaxError → Result ℕ Error
with_piece = whole with_answer

-- `<` is 60
abbrev pub with_reading : {T : Type 0} → T → Meaning → Reading (Result (Unit {0}) SyntaxError) (Result ℕ (Refused T))
with_reading token m = record {
  cut = scan_cut m;
  prefix = 60 ∷ [];
  wanted = pending.Opening;
  least = 1;
  early = λ e. Err (Kept e token);
  answer = λ bs e. spending (length bs) (chain e (with_piece bs));
}
