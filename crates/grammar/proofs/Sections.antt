-- A CDATA section ends at its last byte. Assumes nothing.
use Rattle.std.proofs.Common.{leb, [], ◌∷◌, codes, refl, le-leb}
use Rattle.parser.specs.CData.{cdata_due}
use Rattle.parser.specs.Doubled.{doubled_step}
use Rattle.bang.specs.Bang.{bang}
use Rattle.bang.specs.declared.bang.BangType.TheVariants.{CData}
use Rattle.parser.specs.declared.doubled.DoubledParser.{DoubledParser}
use Rattle.parser.specs.declared.doubled.DoubledParser.TheVariants.{Seen0, Seen1, Seen2}
use Rattle.parser.proofs.Firsts.{doubled-first}
use Rattle.grammar.specs.Lang.{Word}
use Rattle.grammar.specs.Xml.{CDSect}
use Rattle.grammar.specs.Ends.{Ends}
use Rattle.grammar.proofs.Walks.{Machine}
use Rattle.grammar.proofs.Finishes.{Finishes, finishes_any, finishes_word, ends_opened}
use Rattle.grammar.proofs.Classes.{off_class, Past}
use Rattle.grammar.proofs.Content.{Uniform, reaches_without}

abbrev Sections : Machine
Sections = record { State = DoubledParser 93; step = doubled_step; due = cdata_due }

-- a byte that is neither `]` nor `>`
other : (s : DoubledParser 93) → Past Sections (93 ∷ 62 ∷ []) s Seen0
other Seen0 b o = rw o.0
other Seen1 b o = rw o.0
other Seen2 b o = rw (o.0, o.1.0)

uniform : Uniform Sections
uniform s = (Seen0, λ b le. let o = off_class (leb 128) (93 ∷ 62 ∷ []) b refl (le-leb 128 b le) in (other s b o, other Seen0 b o))

closing : (s : DoubledParser 93) → Finishes Sections s (Word (codes "]]>"))
closing Seen0 = finishes_word Seen2 (codes "]]") 62 refl refl refl
closing Seen1 = finishes_word Seen2 (codes "]]") 62 refl refl refl
closing Seen2 = finishes_word Seen2 (codes "]]") 62 refl refl refl

pub cdata_ends : Ends (bang (CData Seen0)) 2 CDSect
cdata_ends =
    ends_opened {M = Sections} Seen0 Seen0 (codes "<!") (codes "[CDATA[") refl refl
    (finishes_any (reaches_without (codes "]]") uniform (doubled-first 93 cdata_due)) closing)
