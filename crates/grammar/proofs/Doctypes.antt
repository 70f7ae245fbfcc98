-- A document type declaration ends at its last byte. Assumes nothing.
use Rattle.std.proofs.Common.{◌≡◌, ℕ, true, false, List, [], codes, refl, ap}
use Rattle.parser.specs.Bytes.{goes}
use Rattle.bang.specs.Bang.{bang}
use Rattle.bang.specs.Dtd.{dtd_step, dtd_due, inner}
use Rattle.parser.specs.Pi.{after_question}
use Rattle.bang.specs.declared.bang.BangType.TheVariants.{DocType}
use Rattle.parser.specs.declared.doubled.DoubledParser.TheVariants.{Seen0}
use Rattle.bang.specs.declared.dtd.DtdParser.{DtdParser}
use Rattle.bang.specs.declared.dtd.DtdParser.TheVariants.{Before, Literal, Inside, Plain, InPi, InComment, InQuoteSensitive, After}
use Rattle.parser.specs.declared.element.ElementParser.TheVariants.{Outside}
use Rattle.grammar.specs.Lang.{Lang, Word, One, ◌⨾◌, Opt}
use Rattle.grammar.specs.Xml.{S, PI, Comment}
use Rattle.grammar.specs.Doctype.{ExternalID, Elementdecl, IntSubset, Doctypedecl}
use Rattle.grammar.specs.Ends.{Ends}
use Rattle.grammar.proofs.Walks.{Machine, walk, ascii}
use Rattle.grammar.proofs.Leads.{Leads, leads_word, leads_seq, leads_or, leads_star}
use Rattle.grammar.proofs.Finishes.{Finishes, finishes_seq, finishes_opt, finishes_word, ends_opened}
use Rattle.grammar.proofs.Classes.{Past, leads_past}
use Rattle.grammar.proofs.Rows.{Made, made_seq, made_opt, made_star, made_word, leads_made}
use Rattle.grammar.proofs.Parts.{markup, off, Part, plain, part, space, name, leads_literal}
use Rattle.grammar.proofs.Nested.{leads_nested}
use Rattle.grammar.proofs.Tags.{Tags, passes, closes}
use Rattle.grammar.proofs.Comments.{Comments, comment_rest}
use Rattle.grammar.proofs.Instructions.{Instructions, pi_rest}
use Rattle.grammar.proofs.Declarations.{pe_reference, contentspec, external_id, att_def, entity_def, pe_def, notation_id}

abbrev pub Doctypes : Machine
Doctypes = record { State = DtdParser; step = dtd_step; due = dtd_due }

before : Past Doctypes markup Before Before
before b o = rw (o.1.0, o.1.1.1.1.0, o.1.1.0, o.1.1.1.0)

before_part : Leads Doctypes Before Before Part
before_part =
    leads_or (leads_past markup refl before before refl)
    (leads_or (leads_literal {M = Doctypes} {s = Before} {t = Literal 34} 34 refl refl refl refl (λ b o. rw o.0) refl)
    (leads_literal {M = Doctypes} {s = Before} {t = Literal 39} 39 refl refl refl refl (λ b o. rw o.0) refl))

-- a state in which what is not markup stays
stays : {s : DtdParser} {P : Lang} → Past Doctypes markup s s → Made (One (off markup)) P → Leads Doctypes s s P
stays past made = leads_made (leads_past markup refl past past refl) made

inside : Past Doctypes markup Inside Inside
inside b o = rw (o.1.1.1.1.1.0, o.0)

in_plain : Past Doctypes markup Plain Plain
in_plain b o = rw o.1.0

after : Past Doctypes markup After After
after b o = rw o.1.0

element_declaration : Leads Doctypes Inside Inside Elementdecl
element_declaration =
    leads_seq (leads_word {M = Doctypes} {s = Inside} {t = Plain} (codes "<!ELEMENT") refl refl)
    (leads_seq (stays in_plain (space plain))
    (leads_seq (stays in_plain (name plain))
    (leads_seq (stays in_plain (space plain))
    (leads_seq (stays in_plain (contentspec plain))
    (leads_seq (stays in_plain (made_opt (space plain))) (leads_word (codes ">") refl refl))))))

-- a declaration in which quotes count
declaration : {Q : Lang} (w : List ℕ) → ascii w ≡ true → walk Doctypes Inside w ≡ goes (InQuoteSensitive Outside) → Finishes Tags Outside Q → Leads Doctypes Inside Inside (Word w ⨾ Q)
declaration w a e rest = leads_seq (leads_word w a e) (leads_nested {M = Tags} {N = Doctypes} InQuoteSensitive (λ s t b q. ap (inner InQuoteSensitive) q) (λ t b q. ap (inner InQuoteSensitive) q) rest)

instruction : Leads Doctypes Inside Inside PI
instruction =
    leads_seq (leads_word {M = Doctypes} {s = Inside} {t = InPi (after_question false)} (codes "<?") refl refl)
    (leads_nested {M = Instructions} {N = Doctypes} InPi (λ s t b q. ap (inner InPi) q) (λ t b q. ap (inner InPi) q) (pi_rest false))

comment : Leads Doctypes Inside Inside Comment
comment =
    leads_seq (leads_word {M = Doctypes} {s = Inside} {t = InComment Seen0} (codes "<!--") refl refl)
    (leads_nested {M = Comments} {N = Doctypes} InComment (λ s t b q. ap (inner InComment) q) (λ t b q. ap (inner InComment) q) comment_rest)

subset : Leads Doctypes Inside Inside IntSubset
subset =
    leads_star
    (leads_or
    (leads_or element_declaration
    (leads_or (declaration (codes "<!ATTLIST") refl refl (passes (space part) (passes (name part) (passes (made_star att_def) (passes (made_opt (space part)) closes)))))
    (leads_or
    (leads_or (declaration (codes "<!ENTITY") refl refl (passes (space part) (passes (name part) (passes (space part) (passes entity_def (passes (made_opt (space part)) closes))))))
    (declaration (codes "<!ENTITY") refl refl (passes (space part) (passes (made_word markup part refl) (passes (space part) (passes (name part) (passes (space part) (passes pe_def (passes (made_opt (space part)) closes)))))))))
    (leads_or (declaration (codes "<!NOTATION") refl refl (passes (space part) (passes (name part) (passes (space part) (passes notation_id (passes (made_opt (space part)) closes))))))
    (leads_or instruction comment)))))
    (leads_or (stays inside (pe_reference plain)) (stays inside (space plain))))

external : Leads Doctypes Before Before (Opt (S ⨾ ExternalID))
external = leads_made before_part (made_opt (made_seq (space part) external_id))

pub doctype_ends : Ends (bang (DocType Before)) 2 Doctypedecl
doctype_ends =
    ends_opened {M = Doctypes} Before Before (codes "<!") (codes "DOCTYPE") refl refl
    (finishes_seq (leads_made before_part (space part))
    (finishes_seq (leads_made before_part (name part))
    (finishes_seq external
    (finishes_seq (leads_made before_part (made_opt (space part)))
    (finishes_opt
    (leads_seq (leads_word {M = Doctypes} {s = Before} {t = Inside} (codes "[") refl refl) (leads_seq subset (leads_seq (leads_word {t = After} (codes "]") refl refl) (stays after (made_opt (space plain))))))
    (finishes_word Before [] 62 refl refl refl)
    (finishes_word After [] 62 refl refl refl))))))
