use Rattle.cases.proofs.Numbers.{Turn}
use Rattle.cases.proofs.words.decimal.Given as goal

abbrev pub invariant-loop-digit : goal.invariant-loop-digit
invariant-loop-digit l = Turn l.most l.digits l.digit-index l.number
