use Rattle.parser.proofs.Firsts.{doubled-first}
use Rattle.parser.proofs.doubled.DoubledParserDefault.default.Goals as goal

pub returns-clause-first : goal.returns-clause-first
returns-clause-first g c = doubled-first g.row.MARK
