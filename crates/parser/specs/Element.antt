-- A tag's scanner: it stops at the first `>` outside quotes. Assumes nothing.
use Rattle.std.specs.Prelude.{ℕ, cond, List, ◌==◌}
use Rattle.parser.specs.Scan.{Meaning}
use Rattle.parser.specs.Bytes.{Move, halt, goes, machine}
use Rattle.parser.specs.declared.element.ElementParser.{ElementParser}
use Rattle.parser.specs.declared.element.ElementParser.TheVariants.{Outside, SingleQ, DoubleQ}
use Rattle.parser.specs.declared.errors.SyntaxError.{SyntaxError}
use Rattle.parser.specs.declared.errors.SyntaxError.TheVariants.{UnclosedTag, UnclosedSingleQuotedAttributeValue, UnclosedDoubleQuotedAttributeValue}

-- `>` is 62, `'` is 39, `"` is 34; only the quote that opened a value closes it
abbrev pub element_step : ElementParser → ℕ → Move ElementParser
element_step Outside b = cond (b == 62) halt (cond (b == 39) (goes SingleQ) (cond (b == 34) (goes DoubleQ) (goes Outside)))
element_step SingleQ b = cond (b == 39) (goes Outside) (goes SingleQ)
element_step DoubleQ b = cond (b == 34) (goes Outside) (goes DoubleQ)

abbrev pub element_due : ElementParser → List ℕ → SyntaxError
element_due Outside content = UnclosedTag
element_due SingleQ content = UnclosedSingleQuotedAttributeValue
element_due DoubleQ content = UnclosedDoubleQuotedAttributeValue

abbrev pub element : ElementParser → Meaning
element = machine element_step element_due
