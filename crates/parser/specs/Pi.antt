-- A processing instruction's scanner: it stops at the first `>` right after a `?`. Assumes nothing.
use Rattle.std.specs.Prelude.{ℕ, Bool, true, cond, ◌&&◌, ◌||◌, List, [], ◌∷◌, drop, codes, ◌==◌}
use Rattle.parser.specs.Words.{begins}
use Rattle.parser.specs.Scan.{Meaning}
use Rattle.parser.specs.Bytes.{Move, halt, goes, machine}
use Rattle.parser.specs.declared.pi.PiParser.{PiParser}
use Rattle.parser.specs.declared.errors.SyntaxError.{SyntaxError}
use Rattle.parser.specs.declared.errors.SyntaxError.TheVariants.{UnclosedPI, UnclosedXmlDecl}

-- whether the byte before was `?`
abbrev pub after_question : Bool → PiParser
after_question b = record { 0 = b }

-- `>` is 62, `?` is 63
abbrev pub pi_step : PiParser → ℕ → Move PiParser
pi_step p b = cond (p.0 && b == 62) halt (goes (after_question (b == 63)))

-- a space, a carriage return, a line feed or a tab
abbrev pub blank : ℕ → Bool
blank b = b == 32 || (b == 13 || (b == 10 || b == 9))

-- the target's name ends here
abbrev pub name_ends : List ℕ → Bool
name_ends [] = true
name_ends (b ∷ bs) = blank b || b == 63

-- the piece has the target `xml`, so it is an XML declaration
abbrev pub declares : List ℕ → Bool
declares content = begins (codes "<?xml") content && name_ends (drop 5 content)

abbrev pub pi_due : PiParser → List ℕ → SyntaxError
pi_due p content = cond (declares content) UnclosedXmlDecl UnclosedPI

abbrev pub pi : PiParser → Meaning
pi = machine pi_step pi_due
