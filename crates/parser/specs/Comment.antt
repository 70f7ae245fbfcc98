-- A comment's scanner: it stops at the first `>` right after two `-`, which is 45. Assumes nothing.
use Rattle.std.specs.Prelude.{ℕ, List}
use Rattle.parser.specs.Scan.{Meaning}
use Rattle.parser.specs.Bytes.{machine}
use Rattle.parser.specs.Doubled.{doubled_step}
use Rattle.parser.specs.declared.doubled.DoubledParser.{DoubledParser}
use Rattle.parser.specs.declared.errors.SyntaxError.{SyntaxError}
use Rattle.parser.specs.declared.errors.SyntaxError.TheVariants.{UnclosedComment}

abbrev pub comment_due : DoubledParser 45 → List ℕ → SyntaxError
comment_due s content = UnclosedComment

abbrev pub comment : DoubledParser 45 → Meaning
comment = machine doubled_step comment_due
