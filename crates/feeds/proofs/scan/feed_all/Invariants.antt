use Rattle.std.proofs.Common.{vec_items}
use Rattle.feeds.proofs.Turns.{Turn}
use Rattle.feeds.proofs.scan.feed_all.Given as goal

abbrev pub invariant-loop-run : goal.invariant-loop-run
invariant-loop-run g l = Turn vec_items (g.P.Parser.scan l.initial.parser) l.content l.runs (g.P.Parser.scan l.parser) l.run-index (vec_items l.places)
