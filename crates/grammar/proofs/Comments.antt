-- A comment ends at its last byte. Assumes nothing.
use Rattle.std.proofs.Common.{[], ◌∷◌, codes, refl, ap}
use Rattle.parser.specs.Bytes.{Move, halt, goes}
use Rattle.bang.specs.Comment.{bang_comment_step, bang_comment_due}
use Rattle.bang.specs.Bang.{bang}
use Rattle.parser.specs.Comment.{comment, comment_due}
use Rattle.parser.specs.Doubled.{doubled_step}
use Rattle.bang.specs.declared.comment.BangCommentParser.{BangCommentParser}
use Rattle.bang.specs.declared.comment.BangCommentParser.TheVariants.{Opening0, Text}
use Rattle.bang.specs.declared.bang.BangType.TheVariants.{Comment as BangAsComment}
use Rattle.parser.specs.declared.doubled.DoubledParser.{DoubledParser}
use Rattle.parser.specs.declared.doubled.DoubledParser.TheVariants.{Seen0, Seen1, Seen2}
use Rattle.grammar.specs.Lang.{Word, One, ◌⨾◌, ◌∣◌, Star}
use Rattle.grammar.specs.Xml.{not_dash, Comment}
use Rattle.grammar.specs.Ends.{Ends}
use Rattle.grammar.proofs.Walks.{Machine}
use Rattle.grammar.proofs.Leads.{leads_word, leads_seq, leads_or, leads_star}
use Rattle.grammar.proofs.Finishes.{Finishes, finishes_seq, finishes_word, ends_opened}
use Rattle.grammar.proofs.Classes.{Past, leads_past}
use Rattle.grammar.proofs.Nested.{finishes_nested}

abbrev pub Comments : Machine
Comments = record { State = DoubledParser 45; step = doubled_step; due = comment_due }

none_seen : Past Comments (45 ∷ []) Seen0 Seen0
none_seen b o = rw o.0

one_seen : Past Comments (45 ∷ []) Seen1 Seen0
one_seen b o = rw o.0

pub comment_rest : Finishes Comments Seen0 (Star (One not_dash ∣ Word (codes "-") ⨾ One not_dash) ⨾ Word (codes "-->"))
comment_rest =
    finishes_seq
    (leads_star (leads_or (leads_past (45 ∷ []) refl none_seen none_seen refl) (leads_seq (leads_word {t = Seen1} (codes "-") refl refl) (leads_past (45 ∷ []) refl one_seen none_seen refl))))
    (finishes_word Seen2 (codes "--") 62 refl refl refl)

pub comment_ends : Ends (comment Seen0) 4 Comment
comment_ends = ends_opened {M = Comments} Seen0 Seen0 (codes "<!--") [] refl refl comment_rest

-- the same, fed from the dashes of the opening
abbrev BangComments : Machine
BangComments = record { State = BangCommentParser; step = bang_comment_step; due = bang_comment_due }

abbrev lifted : Move (DoubledParser 45) → Move BangCommentParser
lifted m = elim m [ halt ↦ halt | goes t ↦ goes (Text t) ]

pub bang_comment_ends : Ends (bang (BangAsComment Opening0)) 2 Comment
bang_comment_ends =
    ends_opened {M = BangComments} Opening0 (Text Seen0) (codes "<!") (codes "--") refl refl
    (finishes_nested {M = Comments} {N = BangComments} Text (λ s t b e. ap lifted e) (λ t b e. ap lifted e) comment_rest)
