use Rattle.std.proofs.Common.{vec_items}
use Rattle.cases.proofs.Filled.{FewTurn}
use Rattle.cases.proofs.Parts.{left_in}
use Rattle.cases.proofs.case.fields_up_to.Given as goal

abbrev pub invariant-loop-left : goal.invariant-loop-left
invariant-loop-left l = FewTurn l.line l.most l.left (vec_items l.fields)

abbrev pub decreases-loop-left : goal.decreases-loop-left
decreases-loop-left l = left_in l.left
