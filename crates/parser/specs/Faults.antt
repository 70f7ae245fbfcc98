-- The number under which each fault is reported. Assumes nothing.
use Rattle.std.specs.Prelude.{ℕ}
use Rattle.parser.specs.declared.errors.SyntaxError.{SyntaxError}
use Rattle.parser.specs.declared.errors.SyntaxError.TheVariants.{InvalidBangMarkup, UnclosedPI, UnclosedXmlDecl, UnclosedComment, UnclosedDoctype, UnclosedCData, UnclosedTag, UnclosedSingleQuotedAttributeValue, UnclosedDoubleQuotedAttributeValue}

abbrev pub number : SyntaxError → ℕ
number InvalidBangMarkup = 9
number UnclosedPI = 11
number UnclosedXmlDecl = 12
number UnclosedComment = 13
number UnclosedDoctype = 14
number UnclosedCData = 15
number UnclosedTag = 16
number UnclosedSingleQuotedAttributeValue = 17
number UnclosedDoubleQuotedAttributeValue = 18
