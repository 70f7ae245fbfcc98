-- A comment's scanner, fed from the byte after `<!`: it stops at the first `>` right after two `-` that are none of the opening's. Assumes nothing.
use Rattle.std.specs.Prelude.{ℕ, ◌&&◌, List, length, codes, nat_le}
use Rattle.parser.specs.Scan.{Meaning}
use Rattle.parser.specs.Bytes.{Move, halt, goes, machine}
use Rattle.parser.specs.Doubled.{doubled_step}
use Rattle.parser.specs.First.{Ending, ends_after}
use Rattle.parser.specs.declared.doubled.DoubledParser.TheVariants.{Seen0}
use Rattle.parser.specs.declared.errors.SyntaxError.{SyntaxError}
use Rattle.parser.specs.declared.errors.SyntaxError.TheVariants.{UnclosedComment}
use Rattle.bang.specs.declared.comment.BangCommentParser.{BangCommentParser}
use Rattle.bang.specs.declared.comment.BangCommentParser.TheVariants.{Opening0, Opening1, Text}

-- a comment's first two bytes are the dashes of its opening; neither is one of the two that end it
abbrev pub bang_comment_step : BangCommentParser → ℕ → Move BangCommentParser
bang_comment_step Opening0 b = goes Opening1
bang_comment_step Opening1 b = goes (Text Seen0)
bang_comment_step (Text s) b = elim (doubled_step s b) [ halt ↦ halt | goes t ↦ goes (Text t) ]

abbrev pub bang_comment_due : BangCommentParser → List ℕ → SyntaxError
bang_comment_due s content = UnclosedComment

abbrev pub bang_comment : BangCommentParser → Meaning
bang_comment = machine bang_comment_step bang_comment_due

-- `>` right after `--`, at place 4 or later
abbrev pub ends_bang_comment : Ending
ends_bang_comment before b = nat_le 4 (length before) && ends_after (codes "--") before b
