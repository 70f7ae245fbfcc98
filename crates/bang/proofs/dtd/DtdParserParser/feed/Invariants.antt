use Rattle.bang.specs.Dtd.{dtd_due}
use Rattle.bang.proofs.dtd.DtdParserParser.feed.Given as goal

abbrev pub ghost-feed_machine : goal.ghost-feed_machine
ghost-feed_machine a = dtd_due
