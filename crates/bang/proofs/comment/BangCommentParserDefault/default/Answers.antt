use Rattle.bang.proofs.Firsts.{bang_comment-first}
use Rattle.bang.proofs.comment.BangCommentParserDefault.default.Goals as goal

pub returns-clause-first : goal.returns-clause-first
returns-clause-first c = bang_comment-first
