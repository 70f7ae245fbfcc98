use Rattle.grammar.proofs.Tags.{stag_ends, etag_ends, empty_ends}
use Rattle.grammar.proofs.tag.Goals as goal

pub returns-clause-start : goal.returns-clause-start
returns-clause-start c = rw c.default.ensures.fresh stag_ends

pub returns-clause-end : goal.returns-clause-end
returns-clause-end c = rw c.default.ensures.fresh etag_ends

pub returns-clause-empty : goal.returns-clause-empty
returns-clause-empty c = rw c.default.ensures.fresh empty_ends
