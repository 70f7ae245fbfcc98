use Rattle.utf8.proofs.Loop.{Turn}
use Rattle.utf8.proofs.check.Given as goal

abbrev pub invariant-loop-i : goal.invariant-loop-i
invariant-loop-i l = Turn l.bytes l.i l.valid_up_to l.need
