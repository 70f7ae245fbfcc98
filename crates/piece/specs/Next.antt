-- What next_piece does: the calls that it makes, one after another.
use Rattle.std.specs.Prelude.{◌≡◌, ℕ, zero, suc, ◌+◌, ◌^◌, ◌<◌, ◌≤◌, false, cond, List, length, Some, None, Ok, Err, Option, Result, ◌==◌}
use Rattle.parser.specs.Element.{element}
use Rattle.parser.specs.Pi.{pi, after_question}
use Rattle.parser.specs.declared.element.ElementParser.TheVariants.{Outside}
use Rattle.parser.specs.declared.errors.SyntaxError.TheVariants.{UnclosedTag}
use Rattle.model.specs.Call.{State, Outcome, outcome, admitted, refusal, reads, text_reading, ref_reading, with_reading}
use Rattle.model.specs.Peek.{peeks}
use Rattle.model.specs.Bang.{bangs}
use Rattle.model.specs.History.{answering}
use Rattle.model.specs.Told.{accepted, refused_told}
use Rattle.model.specs.declared.answer.Told.{Told}
use Rattle.model.specs.declared.answer.ReadText.{ReadText}
use Rattle.model.specs.declared.answer.ReadText.TheVariants as text
use Rattle.model.specs.declared.answer.ReadRef.{ReadRef}
use Rattle.model.specs.declared.answer.ReadRef.TheVariants as ref
use Rattle.model.specs.declared.answer.BangKind.{BangKind}
use Rattle.model.specs.declared.answer.Refusal.{Refusal}
use Rattle.model.specs.declared.answer.Refused.{Refused}
use Rattle.model.specs.declared.answer.Refused.TheVariants.{Kept, Spent}
use Rattle.model.specs.declared.ending.Pending.TheVariants as pending
use Rattle.errors.specs.declared.Error.{Error}
use Rattle.errors.specs.declared.Error.TheVariants.{Syntax}
use Rattle.reader.specs.State.{the_token}
use Rattle.reader.specs.Token.{OpeningToken}
use Rattle.piece.specs.declared.kinds.Kind.{Kind}
use Rattle.piece.specs.declared.kinds.Kind.TheVariants.{Text, Ref, Loose, Tag, Pi}
use Rattle.piece.specs.declared.kinds.Piece.{Piece}
use Rattle.piece.specs.Kinds.{bang_kind}

-- a piece, none at the end, or a refusal
abbrev pub Next : Type 0
Next = Result (Option Piece) Refusal

abbrev pub piece : Kind → ℕ → Next
piece k w = Ok (Some (record { kind = k; written = w }))

-- its number, the bytes written, and the bytes taken
abbrev pub next_told : Next → Told
next_told (Ok None) = accepted 0 0
next_told (Ok (Some p)) = accepted p.written p.written
next_told (Err r) = refused_told r

-- an empty text at the end is the end; Markup and Ref do not come here
abbrev pub of_text : Result ReadText Refusal → Next
of_text (Ok (text.UpToMarkup w)) = piece Text w
of_text (Ok (text.UpToRef w)) = piece Text w
of_text (Ok (text.UpToEof zero)) = Ok None
of_text (Ok (text.UpToEof (suc w))) = piece Text (suc w)
of_text (Ok text.Markup) = Ok None
of_text (Ok text.Ref) = Ok None
of_text (Err r) = Err r

abbrev pub of_ref : Result ReadRef Refusal → Next
of_ref (Ok (ref.Ref w)) = piece Ref w
of_ref (Ok (ref.UpToRef w)) = piece Loose w
of_ref (Ok (ref.UpToMarkup w)) = piece Loose w
of_ref (Ok (ref.UpToEof w)) = piece Loose w
of_ref (Err r) = Err r

-- the `<` that peek_one took counts too
abbrev pub with_opening : Refusal → Refusal
with_opening r = refusal r.error r.written (r.taken + 1)

abbrev pub of_refused : Refused OpeningToken → Next
of_refused (Kept e token) = Err (refusal e 0 1)
of_refused (Spent r) = Err (with_opening r)

-- the token was spent, and the bytes taken are few
abbrev pub Spends : Refused OpeningToken → Type 0
Spends (Kept e token) = ⊥
Spends (Spent r) = r.taken < 2 ^ 63

-- a reader behind peek_one, with a buffer that next_piece takes
pub record Opened (s : State) (size : ℕ) (b : ℕ) : Type 0 where
  pub below : s.position < 2 ^ 63
  pub short : size ≤ 16777216
  pub enough : 2 ≤ size
  pub pending : s.opening ≡ Some b

abbrev pub of_with : Kind → Result ℕ (Refused OpeningToken) → Next
of_with k (Ok w) = piece k w
of_with k (Err r) = of_refused r

abbrev pub of_bang : Result (BangKind × ℕ) (Refused OpeningToken) → Next
of_bang (Ok (k, w)) = piece (bang_kind k) w
of_bang (Err r) = of_refused r

module _ (buf : List ℕ) (p : ℕ) where
  -- `!` is 33, `?` is 63
  abbrev pub by_byte : ℕ → OpeningToken → State → Outcome Next
  by_byte b token s =
      cond (b == 33) (answering of_bang (bangs token s buf p))
      (cond (b == 63) (answering (of_with Pi) (reads (with_reading token (pi (after_question false))) s buf p))
      (answering (of_with Tag) (reads (with_reading token (element Outside)) s buf p)))

  abbrev pub behind_opening : Result (Option (ℕ × OpeningToken)) Refusal → State → Outcome Next
  behind_opening (Ok (Some (b, token))) s = by_byte b token s
  behind_opening (Ok None) s = outcome (Err (refusal (Syntax UnclosedTag) 0 1)) s buf
  behind_opening (Err r) s = outcome (Err r) s buf

  abbrev pub at_markup : State → Outcome Next
  at_markup s = behind_opening (peeks the_token s p).answer (peeks the_token s p).after

  abbrev pub at_ref : State → Outcome Next
  at_ref s = answering of_ref (reads ref_reading s buf p)

-- an answer other than Markup or Ref goes straight back
abbrev pub behind_text : ℕ → Result ReadText Refusal → State → List ℕ → Outcome Next
behind_text p (Ok (text.UpToMarkup w)) s buf = outcome (of_text (Ok (text.UpToMarkup w))) s buf
behind_text p (Ok (text.UpToRef w)) s buf = outcome (of_text (Ok (text.UpToRef w))) s buf
behind_text p (Ok (text.UpToEof w)) s buf = outcome (of_text (Ok (text.UpToEof w))) s buf
behind_text p (Ok text.Markup) s buf = at_markup buf p s
behind_text p (Ok text.Ref) s buf = at_ref buf p s
behind_text p (Err r) s buf = outcome (of_text (Err r)) s buf

abbrev pub after_text : ℕ → Outcome (Result ReadText Refusal) → Outcome Next
after_text p o = behind_text p o.answer o.after o.buffer

abbrev pub next_unless : Result (Unit {0}) Error → State → List ℕ → ℕ → Outcome Next
next_unless (Err e) s buf p = outcome (Err (refusal e 0 0)) s buf
next_unless (Ok u) s buf p = after_text p (reads text_reading s buf p)

abbrev pub nexts : State → List ℕ → ℕ → Outcome Next
nexts s buf p = next_unless (admitted s.position (length buf) pending.Nothing s.opening 2) s buf p
