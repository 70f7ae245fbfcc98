-- The scanner of a document type declaration. Assumes nothing.
use Rattle.std.specs.Prelude.{Option, Some, None, ℕ, ◌+◌, false, cond, ◌||◌, List, [], ◌∷◌, length, take, codes, ◌==◌, nat_le, slice_set}
use Rattle.std.specs.Str.{bytes_eq}
use Rattle.std.specs.Option.{unwrap_or}
use Rattle.parser.specs.Scan.{Meaning}
use Rattle.parser.specs.Bytes.{Move, halt, goes, machine}
use Rattle.parser.specs.Element.{element_step}
use Rattle.parser.specs.Pi.{pi_step, after_question}
use Rattle.parser.specs.Doubled.{doubled_step}
use Rattle.parser.specs.declared.element.ElementParser.TheVariants.{Outside}
use Rattle.parser.specs.declared.doubled.DoubledParser.TheVariants.{Seen0}
use Rattle.bang.specs.declared.dtd.Held.{Held}
use Rattle.bang.specs.declared.dtd.DtdParser.{DtdParser}
use Rattle.bang.specs.declared.dtd.DtdParser.TheVariants.{Before, Literal, Inside, Undecided, Plain, InPi, InComment, InQuoteSensitive, After}
use Rattle.parser.specs.declared.errors.SyntaxError.{SyntaxError}
use Rattle.parser.specs.declared.errors.SyntaxError.TheVariants.{UnclosedDoctype}

-- the bytes that are held
abbrev pub held : Held → List ℕ
held h = take h.len h.bytes

abbrev pub hold : Held → ℕ → Held
hold h b = record { bytes = slice_set h.bytes h.len b; len = h.len + 1 }

abbrev pub held_none : Held
held_none = record { bytes = 0 ∷ 0 ∷ 0 ∷ 0 ∷ 0 ∷ 0 ∷ 0 ∷ 0 ∷ 0 ∷ []; len = 0 }

-- the markup that the bytes held begin, where they say it
abbrev pub kind_of : List ℕ → Option DtdParser
kind_of bs =
    cond (bytes_eq bs (codes "?")) (Some (InPi (after_question false)))
    (cond (bytes_eq bs (codes "!--")) (Some (InComment Seen0))
    (cond (bytes_eq bs (codes "!ELEMENT")) (Some Plain)
    (cond (bytes_eq bs (codes "!ENTITY") || (bytes_eq bs (codes "!ATTLIST") || bytes_eq bs (codes "!NOTATION"))) (Some (InQuoteSensitive Outside))
    None)))

-- what the bytes held, `b` the last of them, lead to
abbrev pub decide : List ℕ → ℕ → Held → DtdParser
decide bs b h = unwrap_or (kind_of bs) (cond (b == 62) Inside (cond (nat_le 9 (length bs)) Plain (Undecided h)))

-- no more than eight bytes are held
abbrev pub undecided : Held → ℕ → DtdParser
undecided h b = cond (nat_le 9 h.len) Plain (decide (held (hold h b)) b (hold h b))

-- an inner scanner's stop leads to Inside
abbrev pub inner : {S : Type 0} → (S → DtdParser) → Move S → Move DtdParser
inner f halt = goes Inside
inner f (goes t) = goes (f t)

-- `>` is 62, `'` is 39, `"` is 34, `[` is 91, `]` is 93, `<` is 60
abbrev pub dtd_step : DtdParser → ℕ → Move DtdParser
dtd_step Before b = cond (b == 62) halt (cond (b == 91) (goes Inside) (cond (b == 39 || b == 34) (goes (Literal b)) (goes Before)))
dtd_step (Literal q) b = cond (b == q) (goes Before) (goes (Literal q))
dtd_step Inside b = cond (b == 93) (goes After) (cond (b == 60) (goes (Undecided held_none)) (goes Inside))
dtd_step (Undecided h) b = goes (undecided h b)
dtd_step Plain b = cond (b == 62) (goes Inside) (goes Plain)
dtd_step (InPi p) b = inner InPi (pi_step p b)
dtd_step (InComment p) b = inner InComment (doubled_step p b)
dtd_step (InQuoteSensitive p) b = inner InQuoteSensitive (element_step p b)
dtd_step After b = cond (b == 62) halt (goes After)

abbrev pub dtd_due : DtdParser → List ℕ → SyntaxError
dtd_due s content = UnclosedDoctype

abbrev pub dtd : DtdParser → Meaning
dtd = machine dtd_step dtd_due
