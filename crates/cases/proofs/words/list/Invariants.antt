use Rattle.std.proofs.Common.{vec_items}
use Rattle.cases.proofs.Lists.{ListTurn}
use Rattle.cases.proofs.Parts.{left_in}
use Rattle.cases.proofs.words.list.Given as goal

abbrev pub invariant-loop-left : goal.invariant-loop-left
invariant-loop-left g l = ListTurn 44 g.W.Word.view g.W.Word.meaning l.text l.left (vec_items l.all)

abbrev pub decreases-loop-left : goal.decreases-loop-left
decreases-loop-left g l = left_in l.left
