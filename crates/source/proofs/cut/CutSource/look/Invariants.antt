use Rattle.std.proofs.Common.{length}
use Rattle.source.proofs.Cuts.{Left}
use Rattle.source.proofs.cut.CutSource.look.Given as goal

abbrev pub invariant-loop-self : goal.invariant-loop-self
invariant-loop-self l = Left l.initial.self l.self

abbrev pub decreases-loop-self : goal.decreases-loop-self
decreases-loop-self l = length l.self.entries.now
