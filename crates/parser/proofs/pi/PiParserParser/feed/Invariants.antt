use Rattle.parser.specs.Pi.{pi_due}
use Rattle.parser.proofs.pi.PiParserParser.feed.Given as goal

abbrev pub ghost-feed_machine : goal.ghost-feed_machine
ghost-feed_machine a = pi_due
