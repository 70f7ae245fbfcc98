use Rattle.parser.specs.CData.{cdata_due}
use Rattle.parser.proofs.cdata.CDataParserParser.feed.Given as goal

abbrev pub ghost-feed_machine : goal.ghost-feed_machine
ghost-feed_machine a = cdata_due
