-- What the declarations of a document type are made of. Assumes nothing.
use Rattle.std.proofs.Common.{◌≡◌, ℕ, zero, suc, true, List, refl}
use Rattle.grammar.specs.Lang.{Lang, Word, ◌∣◌, Opt}
use Rattle.grammar.specs.Xml.{S}
use Rattle.grammar.specs.Doctype.{Next, Nmtoken, PEReference, EntityValue, SystemLiteral, PubidLiteral, ExternalID, Choice, Sequence, Particle, Children, Contentspec, AttType, AttDef, EntityDef, PEDef, PublicID}
use Rattle.grammar.proofs.Rows.{Made, made_seq, made_or, made_opt, made_star, made_plus, made_one, made_word, free, Singles}
use Rattle.grammar.proofs.Parts.{markup, Part, part, double, single, space, name, reference, quoted, unquoted, att_value}

module _ {R : Lang} (each : Singles markup R) where
  a_word : {w : List ℕ} → free markup w ≡ true → Made R (Word w)
  a_word = made_word markup each

  spaced : Made R (Opt S)
  spaced = made_opt (space each)

  next : {w : List ℕ} {P : Lang} → free markup w ≡ true → Made R P → Made R (Next w P)
  next e p = made_seq spaced (made_seq (a_word e) (made_seq spaced p))

  pub pe_reference : Made R PEReference
  pe_reference = made_seq (a_word refl) (made_seq (name each) (a_word refl))

  nmtoken : Made R Nmtoken
  nmtoken = made_plus (made_one markup each refl)

  choice : {P : Lang} → Made R P → Made R (Choice P)
  choice p = made_seq (a_word refl) (made_seq spaced (made_seq p (made_seq (made_plus (next refl p)) (made_seq spaced (a_word refl)))))

  sequence : {P : Lang} → Made R P → Made R (Sequence P)
  sequence p = made_seq (a_word refl) (made_seq spaced (made_seq p (made_seq (made_star (next refl p)) (made_seq spaced (a_word refl)))))

  particle : (depth : ℕ) → Made R (Particle depth)
  particle zero = made_seq (name each) (made_opt (made_one markup each refl))
  particle (suc depth) = made_seq (made_or (name each) (made_or (choice (particle depth)) (sequence (particle depth)))) (made_opt (made_one markup each refl))

  children : Made R Children
  children = record { row = λ xs p. (made_seq (made_or (choice (particle p.0)) (sequence (particle p.0))) (made_opt (made_one markup each refl))).row xs p.1 }

  pub contentspec : Made R Contentspec
  contentspec =
      made_or (a_word refl)
      (made_or (a_word refl)
      (made_or
      (made_or
      (made_seq (a_word refl) (made_seq spaced (made_seq (a_word refl) (made_seq (made_star (next refl (name each))) (made_seq spaced (a_word refl))))))
      (made_seq (a_word refl) (made_seq spaced (made_seq (a_word refl) (made_seq spaced (a_word refl))))))
      children))

  att_type : Made R AttType
  att_type =
      made_or (a_word refl)
      (made_or
      (made_or (a_word refl) (made_or (a_word refl) (made_or (a_word refl) (made_or (a_word refl) (made_or (a_word refl) (made_or (a_word refl) (a_word refl)))))))
      (made_or
      (made_seq (a_word refl) (made_seq (space each) (made_seq (a_word refl) (made_seq spaced (made_seq (name each) (made_seq (made_star (next refl (name each))) (made_seq spaced (a_word refl))))))))
      (made_seq (a_word refl) (made_seq spaced (made_seq nmtoken (made_seq (made_star (next refl nmtoken)) (made_seq spaced (a_word refl))))))))

entity_value : Made Part EntityValue
entity_value =
    quoted (made_star (made_or (unquoted 34 refl) (made_or (pe_reference double) (reference double))))
    (made_star (made_or (unquoted 39 refl) (made_or (pe_reference single) (reference single))))

system_literal : Made Part SystemLiteral
system_literal = quoted (made_star (unquoted 34 refl)) (made_star (unquoted 39 refl))

pubid_literal : Made Part PubidLiteral
pubid_literal = quoted (made_star (unquoted 34 refl)) (made_star (unquoted 39 refl))

pub external_id : Made Part ExternalID
external_id =
    made_or (made_seq (a_word part refl) (made_seq (space part) system_literal))
    (made_seq (a_word part refl) (made_seq (space part) (made_seq pubid_literal (made_seq (space part) system_literal))))

pub att_def : Made Part AttDef
att_def =
    made_seq (space part)
    (made_seq (name part)
    (made_seq (space part)
    (made_seq (att_type part)
    (made_seq (space part)
    (made_or (a_word part refl) (made_or (a_word part refl) (made_seq (made_opt (made_seq (a_word part refl) (space part))) att_value)))))))

pub entity_def : Made Part EntityDef
entity_def = made_or entity_value (made_seq external_id (made_opt (made_seq (space part) (made_seq (a_word part refl) (made_seq (space part) (name part))))))

pub pe_def : Made Part PEDef
pe_def = made_or entity_value external_id

pub notation_id : Made Part (ExternalID ∣ PublicID)
notation_id = made_or external_id (made_seq (a_word part refl) (made_seq (space part) pubid_literal))
