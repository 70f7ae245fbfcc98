use Rattle.grammar.proofs.Comments.{comment_ends}
use Rattle.grammar.proofs.comment.Goals as goal

pub returns-clause-ends : goal.returns-clause-ends
returns-clause-ends c = rw c.default.ensures.fresh comment_ends
