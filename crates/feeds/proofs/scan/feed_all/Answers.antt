use Rattle.std.proofs.Common.{is_ok, Some, None, vec_items, sym, ap, ◌∙◌, subst}
use Rattle.std.proofs.ResultArms.{chosen}
use Rattle.parser.specs.Scan.{Fed}
use Rattle.feeds.proofs.Turns.{Turn, next, stop_here, no_fault, all_places, last_fault}
use Rattle.feeds.proofs.scan.feed_all.Goals as goal

pub returns-in-Some : goal.returns-in-Some
returns-in-Some g c =
    let old = g.P.Parser.scan c.args.parser in
    let m = g.P.Parser.scan c.loop-run.parser in
    let new = g.P.Parser.scan c.feed.new.self in
    let fed = subst (λ l. Fed m new l (Some c.in-Some.place)) c.as_slice.ensures.value c.in-Some.ensures in
    record {
      places =
          chosen _ _ _ _ c.push.ensures.items (ap is_ok c.in_ok-push-in-Some.was)
          ∙ stop_here vec_items old c.args.content.now c.args.runs.now m c.loop-run.run-index (vec_items c.loop-run.places) c.loop-run.invariant c.loop-run-test.true c.run-item.result c.run-item.is new c.in-Some.place fed;
      fault = no_fault vec_items old c.args.content.now c.args.runs.now m c.loop-run.run-index (vec_items c.loop-run.places) c.loop-run.invariant c.loop-run-test.true c.run-item.result c.run-item.is new c.in-Some.place fed;
    }

pub loop-run-preserved : goal.loop-run-preserved
loop-run-preserved g c =
    let old = g.P.Parser.scan c.args.parser in
    let m = g.P.Parser.scan c.loop-run.parser in
    let new = g.P.Parser.scan c.feed.new.self in
    let fed = subst (λ l. Fed m new l None) c.as_slice.ensures.value c.in-None.ensures in
    subst (Turn vec_items old c.args.content.now c.args.runs.now new _) (sym (chosen _ _ _ _ c.push-in-None.ensures.items (ap is_ok c.in_ok-push-in-None.was)))
    (next vec_items old c.args.content.now c.args.runs.now m c.loop-run.run-index (vec_items c.loop-run.places) c.loop-run.invariant c.loop-run-test.true c.run-item.result c.run-item.is new fed)

pub returns : goal.returns
returns g c =
    let old = g.P.Parser.scan c.args.parser in
    let m = g.P.Parser.scan c.loop-run.parser in
    record {
      places = all_places vec_items old c.args.content.now c.args.runs.now m c.loop-run.run-index (vec_items c.loop-run.places) c.loop-run.invariant c.loop-run-test.false;
      fault = last_fault vec_items old c.args.content.now c.args.runs.now m c.loop-run.run-index (vec_items c.loop-run.places) c.loop-run.invariant c.loop-run-test.false c.eof_error.result c.eof_error.ensures;
    }
