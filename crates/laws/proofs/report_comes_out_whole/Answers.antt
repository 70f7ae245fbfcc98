use Rattle.laws.proofs.Reports.{report_whole}
use Rattle.laws.proofs.report_comes_out_whole.Goals as goal

pub returns : goal.returns
returns g c = report_whole c.args._token.now
