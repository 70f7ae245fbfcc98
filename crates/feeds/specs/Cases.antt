-- What a line means as a case of a scanner.
use Rattle.std.specs.Prelude.{ℕ, true, false, cond, List, [], ◌∷◌, map, Some, None, vec_items, codes, Option, Vec}
use Rattle.std.specs.Str.{bytes_eq}
use Rattle.bang.specs.Bang.{bang_type}
use Rattle.parser.specs.Pi.{after_question}
use Rattle.bang.specs.declared.bang.BangType.{BangType}
use Rattle.parser.specs.declared.doubled.DoubledParser.{DoubledParser}
use Rattle.parser.specs.declared.doubled.DoubledParser.TheVariants.{Seen0, Seen1, Seen2}
use Rattle.bang.specs.declared.dtd.DtdParser.{DtdParser}
use Rattle.bang.specs.declared.dtd.DtdParser.TheVariants.{Before}
use Rattle.parser.specs.declared.element.ElementParser.{ElementParser}
use Rattle.parser.specs.declared.element.ElementParser.TheVariants.{Outside, SingleQ, DoubleQ}
use Rattle.parser.specs.declared.pi.PiParser.{PiParser}
use Rattle.cases.specs.Fields.{fields_of}
use Rattle.cases.specs.Steps.{look_up}
use Rattle.cases.specs.Words.{bound, split, every, none_or, pairs_of}
use Rattle.feeds.specs.declared.case.Case.{Case}
use Rattle.feeds.specs.declared.case.Scanner.{Scanner}
use Rattle.feeds.specs.declared.case.Scanner.TheVariants.{Elem, Pi, Comment, Dtd, Bang}

abbrev pub elem_of : List ℕ → Option ElementParser
elem_of = look_up ((codes "Outside", Outside) ∷ (codes "SingleQ", SingleQ) ∷ (codes "DoubleQ", DoubleQ) ∷ [])

abbrev pub pi_of : List ℕ → Option PiParser
pi_of = look_up ((codes "0", after_question false) ∷ (codes "1", after_question true) ∷ [])

abbrev pub comment_of : List ℕ → Option (DoubledParser 45)
comment_of = look_up ((codes "Seen0", Seen0) ∷ (codes "Seen1", Seen1) ∷ (codes "Seen2", Seen2) ∷ [])

abbrev pub dtd_of : List ℕ → Option DtdParser
dtd_of = look_up ((codes "Before", Before) ∷ [])

-- the byte after `<!` that each begins with: `-` is 45, `D` is 68, `d` is 100, `[` is 91
abbrev pub bang_of : List ℕ → Option BangType
bang_of name = bound (look_up ((codes "bang-C", 45) ∷ (codes "bang-D", 68) ∷ (codes "bang-d", 100) ∷ (codes "bang-[", 91) ∷ []) name) bang_type

abbrev pub scanner_of : List ℕ → List ℕ → Option Scanner
scanner_of name state =
    cond (bytes_eq name (codes "elem")) (bound (elem_of state) (λ s. Some (Elem s)))
    (cond (bytes_eq name (codes "pi")) (bound (pi_of state) (λ s. Some (Pi s)))
    (cond (bytes_eq name (codes "comment")) (bound (comment_of state) (λ s. Some (Comment s)))
    (cond (bytes_eq name (codes "dtd")) (bound (dtd_of state) (λ s. Some (Dtd s)))
    (bound (bang_of name) (λ s. Some (Bang s))))))

abbrev pub meant_runs : {Z : Type 0} → List (Vec ℕ Z) → List (List ℕ)
meant_runs = map vec_items

pub record Meant : Type 0 where
  pub id : List ℕ
  pub scanner : Scanner
  pub runs : List (List ℕ)

abbrev pub meant_case : Case → Meant
meant_case c = record { id = c.id.now; scanner = c.scanner; runs = meant_runs (vec_items c.runs) }

-- four fields
abbrev pub case_in : List (List ℕ) → Option Meant
case_in (id ∷ name ∷ state ∷ runs ∷ []) =
    bound (scanner_of name state) (λ s. bound (every (none_or pairs_of) (split 44 runs)) (λ rs. Some (record { id = id; scanner = s; runs = rs })))
case_in fields = None

abbrev pub case_of : List ℕ → Option Meant
case_of line = bound (fields_of line) case_in
