use Rattle.std.proofs.Common.{refl}
use Rattle.bang.proofs.dtd.DtdParserDefault.default.Goals as goal

pub returns-clause-examples : goal.returns-clause-examples
returns-clause-examples c = record { comment = refl; comment_cut = λ content. refl; unknown = refl; cut = refl }
