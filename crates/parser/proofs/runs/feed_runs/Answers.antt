use Rattle.std.proofs.Common.{is_ok, vec_items, sym, ap, ◌∙◌, subst}
use Rattle.std.proofs.ResultArms.{chosen}
use Rattle.parser.proofs.Feeds.{Sofar, held, turn_stop, turn_open}
use Rattle.parser.proofs.runs.feed_runs.Goals as goal

pub returns-in-Some : goal.returns-in-Some
returns-in-Some g c =
    chosen _ _ _ _ c.push.ensures.items (ap is_ok c.in_ok-push-in-Some.was)
    ∙ turn_stop (g.P.Parser.scan c.args.parser) (g.P.Parser.scan c.loop-run.parser) (g.P.Parser.scan c.feed.new.self) c.args.content.now c.args.runs.now c.loop-run.run-index (vec_items c.loop-run.given) c.loop-run.invariant c.loop-run-test.true _ c.in-Some.place c.in-Some.ensures

pub loop-run-preserved : goal.loop-run-preserved
loop-run-preserved g c =
    subst
    (Sofar (g.P.Parser.scan c.args.parser) (g.P.Parser.scan c.feed.new.self) c.args.content.now (held c.args.runs.now) _)
    (sym (chosen _ _ _ _ c.push-in-None.ensures.items (ap is_ok c.in_ok-push-in-None.was)))
    (turn_open (g.P.Parser.scan c.args.parser) (g.P.Parser.scan c.loop-run.parser) (g.P.Parser.scan c.feed.new.self) c.args.content.now c.args.runs.now c.loop-run.run-index (vec_items c.loop-run.given) c.loop-run.invariant c.loop-run-test.true _ c.eof_error.result c.in-None.ensures c.eof_error.ensures)
