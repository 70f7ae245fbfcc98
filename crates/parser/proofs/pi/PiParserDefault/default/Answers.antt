use Rattle.parser.proofs.Firsts.{pi-first}
use Rattle.parser.proofs.pi.PiParserDefault.default.Goals as goal

pub returns-clause-first : goal.returns-clause-first
returns-clause-first c = pi-first
