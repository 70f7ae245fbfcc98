-- Tags end at their last byte. Assumes nothing.
use Rattle.std.proofs.Common.{[], codes, refl}
use Rattle.parser.specs.Element.{element, element_step, element_due}
use Rattle.parser.specs.declared.element.ElementParser.{ElementParser}
use Rattle.parser.specs.declared.element.ElementParser.TheVariants.{Outside, SingleQ, DoubleQ}
use Rattle.grammar.specs.Lang.{Lang, Word, ◌⨾◌, Star}
use Rattle.grammar.specs.Xml.{S, Attribute, STag, ETag, EmptyElemTag}
use Rattle.grammar.specs.Ends.{Ends}
use Rattle.grammar.proofs.Walks.{Machine}
use Rattle.grammar.proofs.Leads.{Leads, leads_or}
use Rattle.grammar.proofs.Finishes.{Finishes, finishes_seq, finishes_word, ends_opened}
use Rattle.grammar.proofs.Classes.{Past, leads_past}
use Rattle.grammar.proofs.Rows.{Made, made_seq, made_opt, made_star, made_word, leads_made}
use Rattle.grammar.proofs.Parts.{markup, Part, part, space, name, att_value, leads_literal}

abbrev pub Tags : Machine
Tags = record { State = ElementParser; step = element_step; due = element_due }

outside : Past Tags markup Outside Outside
outside b o = rw (o.1.0, o.1.1.0, o.1.1.1.0)

outside_part : Leads Tags Outside Outside Part
outside_part =
    leads_or (leads_past markup refl outside outside refl)
    (leads_or (leads_literal {M = Tags} {s = Outside} {t = DoubleQ} 34 refl refl refl refl (λ b o. rw o.0) refl)
    (leads_literal {M = Tags} {s = Outside} {t = SingleQ} 39 refl refl refl refl (λ b o. rw o.0) refl))

-- what is made of parts stays outside
pub passes : {P Q : Lang} → Made Part P → Finishes Tags Outside Q → Finishes Tags Outside (P ⨾ Q)
passes made = finishes_seq (leads_made outside_part made)

pub closes : Finishes Tags Outside (Word (codes ">"))
closes = finishes_word Outside [] 62 refl refl refl

attributes : Made Part (Star (S ⨾ Attribute))
attributes = made_star (made_seq (space part) (made_seq (name part) (made_seq (made_seq (made_opt (space part)) (made_seq (made_word markup part refl) (made_opt (space part)))) att_value)))

pub stag_ends : Ends (element Outside) 1 STag
stag_ends = ends_opened {M = Tags} Outside Outside (codes "<") [] refl refl (passes (name part) (passes attributes (passes (made_opt (space part)) closes)))

pub empty_ends : Ends (element Outside) 1 EmptyElemTag
empty_ends =
    ends_opened {M = Tags} Outside Outside (codes "<") [] refl refl
    (passes (name part) (passes attributes (passes (made_opt (space part)) (finishes_word Outside (codes "/") 62 refl refl refl))))

pub etag_ends : Ends (element Outside) 1 ETag
etag_ends = ends_opened {M = Tags} Outside Outside (codes "<") (codes "/") refl refl (passes (name part) (passes (made_opt (space part)) closes))
