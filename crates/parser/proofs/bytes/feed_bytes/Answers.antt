use Rattle.parser.proofs.Reached.{reached_more}
use Rattle.parser.proofs.bytes.feed_bytes.Goals as goal

pub loop-i-preserved : goal.loop-i-preserved
loop-i-preserved g c = reached_more g.P.ByteParser.next _ _ _ _ _ _ c.loop-i.invariant c.loop-i-test.true c.step.ensures c.if-step.false
