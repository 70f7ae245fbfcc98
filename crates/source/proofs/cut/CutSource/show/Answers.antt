use Rattle.std.proofs.Common.{sym}
use Rattle.source.proofs.Cuts.{front_bytes}
use Rattle.source.proofs.cut.CutSource.show.Goals as goal

pub returns-clause-value : goal.returns-clause-value
returns-clause-value c = sym (front_bytes _ _)
