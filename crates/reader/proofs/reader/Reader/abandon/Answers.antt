use Rattle.std.proofs.Common.{[], ap}
use Rattle.model.specs.History.{answering, abandon}
use Rattle.model.specs.declared.answer.Answer.TheVariants.{Abandon}
use Rattle.laws.proofs.Reports.{continues}
use Rattle.reader.specs.State.{the_token}
use Rattle.reader.proofs.reader.Reader.abandon.Goals as goal

pub returns-clause-report : goal.returns-clause-report
returns-clause-report g c = continues the_token _ (abandon c.args.token) (Abandon _) _ [] (ap (answering Abandon) c.abandon_inner.ensures)
