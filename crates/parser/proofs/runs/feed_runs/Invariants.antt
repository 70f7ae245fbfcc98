use Rattle.std.proofs.Common.{vec_items}
use Rattle.parser.proofs.Feeds.{Sofar, held}
use Rattle.parser.proofs.runs.feed_runs.Given as goal

abbrev pub invariant-loop-run : goal.invariant-loop-run
invariant-loop-run g l = Sofar (g.P.Parser.scan l.initial.parser) (g.P.Parser.scan l.parser) l.content (held l.runs) l.run-index (vec_items l.given)
