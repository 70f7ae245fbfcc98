use Rattle.parser.proofs.Reached.{Reached}
use Rattle.parser.proofs.bytes.feed_bytes.Given as goal

abbrev pub invariant-loop-i : goal.invariant-loop-i
invariant-loop-i g l = Reached g.P.ByteParser.next l.initial.parser l.parser l.bytes l.i
