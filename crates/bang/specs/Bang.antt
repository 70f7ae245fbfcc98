-- The scanners of what begins with `<!`, fed from the byte after it. Assumes nothing.
use Rattle.std.specs.Prelude.{ℕ, cond, ◌||◌, Some, None, Option, ◌==◌}
use Rattle.parser.specs.Scan.{Meaning, Prefix}
use Rattle.parser.specs.Machines.{prefix}
use Rattle.parser.specs.Doubled.{doubled_step}
use Rattle.parser.specs.CData.{cdata, cdata_due}
use Rattle.bang.specs.Comment.{bang_comment, bang_comment_step, bang_comment_due}
use Rattle.bang.specs.Dtd.{dtd, dtd_step, dtd_due}
use Rattle.bang.specs.declared.bang.BangType.{BangType}
use Rattle.bang.specs.declared.bang.BangType.TheVariants.{CData, Comment, DocType}
use Rattle.parser.specs.declared.doubled.DoubledParser.TheVariants.{Seen0}
use Rattle.bang.specs.declared.comment.BangCommentParser.TheVariants.{Opening0}
use Rattle.bang.specs.declared.dtd.DtdParser.TheVariants.{Before}

abbrev pub bang : BangType → Meaning
bang (CData s) = cdata s
bang (Comment s) = bang_comment s
bang (DocType s) = dtd s

-- the law that every implementation of Parser owes
pub bang-prefix : (b : BangType) → Prefix (bang b)
bang-prefix (CData s) = prefix doubled_step cdata_due s
bang-prefix (Comment s) = prefix bang_comment_step bang_comment_due s
bang-prefix (DocType s) = prefix dtd_step dtd_due s

-- the scanner that the byte after `<!` calls for: `[` is 91, `-` is 45, `D` is 68, `d` is 100
abbrev pub bang_type : ℕ → Option BangType
bang_type b =
    cond (b == 91) (Some (CData Seen0))
    (cond (b == 45) (Some (Comment Opening0))
    (cond (b == 68 || b == 100) (Some (DocType Before)) None))
