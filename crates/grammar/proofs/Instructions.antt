-- A processing instruction ends at its last byte. Assumes nothing.
use Rattle.std.proofs.Common.{Bool, true, false, leb, [], ◌∷◌, codes, refl, le-leb}
use Rattle.parser.specs.Pi.{pi, pi_step, pi_due, after_question}
use Rattle.parser.specs.declared.pi.PiParser.{PiParser}
use Rattle.parser.proofs.Firsts.{pi-first}
use Rattle.grammar.specs.Lang.{Word, ◌⨾◌, Opt}
use Rattle.grammar.specs.Xml.{S, Name, PITarget, Without, PI}
use Rattle.grammar.specs.Ends.{Ends}
use Rattle.grammar.proofs.Walks.{Machine}
use Rattle.grammar.proofs.Leads.{Leads, leads_seq, leads_star}
use Rattle.grammar.proofs.Finishes.{Finishes, finishes_seq, finishes_any, finishes_word, reaches_seq, reaches_opt, ends_opened}
use Rattle.grammar.proofs.Classes.{off_class, Past, leads_past}
use Rattle.grammar.proofs.Content.{Uniform, reaches_without}

abbrev pub Instructions : Machine
Instructions = record { State = PiParser; step = pi_step; due = pi_due }

-- a byte that is neither `>` nor `?`
other : (p : Bool) → Past Instructions (62 ∷ 63 ∷ []) (after_question p) (after_question false)
other true b o = rw (o.0, o.1.0)
other false b o = rw o.1.0

uniform : Uniform Instructions
uniform s = (after_question false, λ b le. let o = off_class (leb 128) (62 ∷ 63 ∷ []) b refl (le-leb 128 b le) in (other s.0 b o, other false b o))

name : (p : Bool) → Leads Instructions (after_question p) (after_question false) Name
name p = leads_seq (leads_past (62 ∷ 63 ∷ []) refl (other p) (other false) refl) (leads_star (leads_past (62 ∷ 63 ∷ []) refl (other false) (other false) refl))

space : Leads Instructions (after_question false) (after_question false) S
space = leads_seq (leads_past (62 ∷ 63 ∷ []) refl (other false) (other false) refl) (leads_star (leads_past (62 ∷ 63 ∷ []) refl (other false) (other false) refl))

closing : (p : Bool) → Finishes Instructions (after_question p) (Word (codes "?>"))
closing true = finishes_word (after_question true) (codes "?") 62 refl refl refl
closing false = finishes_word (after_question true) (codes "?") 62 refl refl refl

pub pi_rest : (p : Bool) → Finishes Instructions (after_question p) (PITarget ⨾ Opt (S ⨾ Without (codes "?>")) ⨾ Word (codes "?>"))
pi_rest p =
    finishes_seq {t = after_question false} (record { walks = λ xs t. (name p).walks xs t.0 })
    (finishes_any (reaches_opt (reaches_seq space (reaches_without (codes "?") uniform pi-first))) (λ t. closing t.0))

pub pi_ends : Ends (pi (after_question false)) 2 PI
pi_ends = ends_opened {M = Instructions} (after_question false) (after_question false) (codes "<?") [] refl refl (pi_rest false)

-- the same, fed from the `?` of the opening
pub pi_ends_whole : Ends (pi (after_question false)) 1 PI
pi_ends_whole = ends_opened {M = Instructions} (after_question false) (after_question true) (codes "<") (codes "?") refl refl (pi_rest true)
