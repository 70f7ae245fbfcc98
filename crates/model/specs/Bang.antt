-- What read_bang_element does.
use Rattle.std.specs.Prelude.{ℕ, ◌+◌, List, [], ◌∷◌, length, drop, Some, None, Ok, Err, Option, Result, ok_or, option_and_then}
use Rattle.source.specs.Stream.{Item, bytes_in}
use Rattle.bang.specs.Bang.{bang, bang_type}
use Rattle.bang.specs.declared.bang.BangType.{BangType}
use Rattle.bang.specs.declared.bang.BangType.TheVariants as scanner
use Rattle.parser.specs.declared.errors.SyntaxError.{SyntaxError}
use Rattle.parser.specs.declared.errors.SyntaxError.TheVariants.{InvalidBangMarkup}
use Rattle.model.specs.Cut.{scan_cut}
use Rattle.model.specs.Gather.{Gathered, gather}
use Rattle.model.specs.Call.{State, left_with, Outcome, outcome, admitted, chain, refusal, over, spending, with_piece}
use Rattle.model.specs.Peek.{Awaited, await}
use Rattle.model.specs.declared.ending.Pending.TheVariants as pending
use Rattle.model.specs.declared.answer.BangKind.{BangKind}
use Rattle.model.specs.declared.answer.BangKind.TheVariants as kind
use Rattle.model.specs.declared.answer.Refused.{Refused}
use Rattle.model.specs.declared.answer.Refused.TheVariants.{Kept, Spent}
use Rattle.errors.specs.declared.Error.{Error}
use Rattle.errors.specs.declared.Error.TheVariants.{Syntax}

abbrev pub kind_of : BangType → BangKind
kind_of (scanner.CData s) = kind.CData
kind_of (scanner.Comment s) = kind.Comment
kind_of (scanner.DocType s) = kind.DocType

-- what `<!` and the byte behind it begin
abbrev pub bang_of : Option ℕ → Result BangType Error
bang_of first = ok_or (option_and_then bang_type first) (Syntax InvalidBangMarkup)

-- `<!`, and its `<` alone
abbrev pub bang_prefix : List ℕ
bang_prefix = 60 ∷ 33 ∷ []

abbrev pub opening_prefix : List ℕ
opening_prefix = 60 ∷ []

abbrev pub with_kind : BangKind → Result ℕ Error → Result (BangKind × ℕ) Error
with_kind k (Ok w) = Ok (k, w)
with_kind k (Err e) = Err e

module _ {T : Type 0} (token : T) (s : State) (buf : List ℕ) where
  -- refused before the kind is known: the bytes written so far, and those taken; the position stays
  abbrev pub bang_stuck : List ℕ → ℕ → Error → List Item → Outcome (Result (BangKind × ℕ) (Refused T))
  bang_stuck bs t e is = outcome (Err (Spent (refusal e (length bs) t))) (left_with s is s.position None) (over bs buf)

  abbrev pub bang_piece : BangKind → Gathered (Result (Unit {0}) SyntaxError) → Outcome (Result (BangKind × ℕ) (Refused T))
  bang_piece k g =
      outcome (spending (length g.bytes) (with_kind k (chain g.ending (with_piece g.bytes))))
      (left_with s g.left (s.position + length g.bytes) None) (over g.bytes buf)

  -- the byte behind `<!` names the kind; it is not taken yet
  abbrev pub bang_named : Result BangType Error → List Item → ℕ → Outcome (Result (BangKind × ℕ) (Refused T))
  bang_named (Ok b) is p = bang_piece (kind_of b) (gather (scan_cut (bang b) (bytes_in is)) (length buf) bang_prefix p is s.stream.tail)
  bang_named (Err e) is p = bang_stuck bang_prefix 1 e is

  abbrev pub bang_after : Awaited → Outcome (Result (BangKind × ℕ) (Refused T))
  bang_after a = bang_named (chain a.first bang_of) a.left a.patience

  -- the byte peeked stands first in every reader that calls lead to; the other two cases make the definition total
  abbrev pub bang_first : Result (Option ℕ) Error → List Item → ℕ → Outcome (Result (BangKind × ℕ) (Refused T))
  bang_first (Ok (Some b)) is p = bang_after (await p (drop 1 is) s.stream.tail)
  bang_first (Ok None) is p = bang_stuck opening_prefix 0 (Syntax InvalidBangMarkup) is
  bang_first (Err e) is p = bang_stuck opening_prefix 0 e is

  abbrev pub bang_from : Awaited → Outcome (Result (BangKind × ℕ) (Refused T))
  bang_from a = bang_first a.first a.left a.patience

  abbrev pub bang_unless : Result (Unit {0}) Error → ℕ → Outcome (Result (BangKind × ℕ) (Refused T))
  bang_unless (Err e) p = outcome (Err (Kept e token)) s buf
  bang_unless (Ok u) p = bang_from (await p s.stream.items s.stream.tail)

  abbrev pub bangs : ℕ → Outcome (Result (BangKind × ℕ) (Refused T))
  bangs p = bang_unless (admitted s.position (length buf) pending.Bang s.opening 2) p
