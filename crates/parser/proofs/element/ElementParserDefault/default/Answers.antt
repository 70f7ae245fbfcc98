use Rattle.parser.proofs.Firsts.{element-first}
use Rattle.parser.proofs.element.ElementParserDefault.default.Goals as goal

pub returns-clause-first : goal.returns-clause-first
returns-clause-first c = element-first
