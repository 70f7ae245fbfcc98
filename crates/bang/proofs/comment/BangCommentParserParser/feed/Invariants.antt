use Rattle.bang.specs.Comment.{bang_comment_due}
use Rattle.bang.proofs.comment.BangCommentParserParser.feed.Given as goal

abbrev pub ghost-feed_machine : goal.ghost-feed_machine
ghost-feed_machine a = bang_comment_due
