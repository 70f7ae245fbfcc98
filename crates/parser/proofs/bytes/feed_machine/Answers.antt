use Rattle.parser.proofs.bytes.feed_machine.Goals as goal

pub returns : goal.returns
returns g c = c.feed_bytes.ensures g.due
