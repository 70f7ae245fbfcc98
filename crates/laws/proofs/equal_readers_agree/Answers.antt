use Rattle.laws.proofs.Agrees.{equal_agree}
use Rattle.laws.proofs.equal_readers_agree.Goals as goal

pub returns : goal.returns
returns g c = equal_agree c.args._token.now
