use Rattle.std.proofs.Common.{length, vec_items}
use Rattle.cases.proofs.Lists.{PairTurn}
use Rattle.cases.proofs.words.pairs.Given as goal

abbrev pub invariant-loop-digits : goal.invariant-loop-digits
invariant-loop-digits l = PairTurn l.text l.digits (vec_items l.bytes)

abbrev pub decreases-loop-digits : goal.decreases-loop-digits
decreases-loop-digits l = length l.digits
