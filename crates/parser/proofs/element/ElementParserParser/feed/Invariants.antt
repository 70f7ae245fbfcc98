use Rattle.parser.specs.Element.{element_due}
use Rattle.parser.proofs.element.ElementParserParser.feed.Given as goal

abbrev pub ghost-feed_machine : goal.ghost-feed_machine
ghost-feed_machine a = element_due
