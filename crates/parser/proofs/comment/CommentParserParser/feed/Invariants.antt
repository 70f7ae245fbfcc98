use Rattle.parser.specs.Comment.{comment_due}
use Rattle.parser.proofs.comment.CommentParserParser.feed.Given as goal

abbrev pub ghost-feed_machine : goal.ghost-feed_machine
ghost-feed_machine a = comment_due
