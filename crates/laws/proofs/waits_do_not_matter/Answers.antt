use Rattle.laws.proofs.Agrees.{waits_apart}
use Rattle.laws.proofs.waits_do_not_matter.Goals as goal

pub returns : goal.returns
returns g c = waits_apart c.args._token.now
