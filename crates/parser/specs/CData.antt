-- A CDATA section's scanner: it stops at the first `>` right after two `]`, which is 93. Assumes nothing.
use Rattle.std.specs.Prelude.{ℕ, List}
use Rattle.parser.specs.Scan.{Meaning}
use Rattle.parser.specs.Bytes.{machine}
use Rattle.parser.specs.Doubled.{doubled_step}
use Rattle.parser.specs.declared.doubled.DoubledParser.{DoubledParser}
use Rattle.parser.specs.declared.errors.SyntaxError.{SyntaxError}
use Rattle.parser.specs.declared.errors.SyntaxError.TheVariants.{UnclosedCData}

abbrev pub cdata_due : DoubledParser 93 → List ℕ → SyntaxError
cdata_due s content = UnclosedCData

abbrev pub cdata : DoubledParser 93 → Meaning
cdata = machine doubled_step cdata_due
