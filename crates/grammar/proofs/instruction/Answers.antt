use Rattle.grammar.proofs.Instructions.{pi_ends, pi_ends_whole}
use Rattle.grammar.proofs.instruction.Goals as goal

pub returns-clause-from_question : goal.returns-clause-from_question
returns-clause-from_question c = rw c.default.ensures.fresh pi_ends_whole

pub returns-clause-past_question : goal.returns-clause-past_question
returns-clause-past_question c = rw c.default.ensures.fresh pi_ends
