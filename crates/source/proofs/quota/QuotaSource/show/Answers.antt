use Rattle.std.proofs.Common.{◌≤◌, min, sym, ◌∙◌, arith}
use Rattle.source.specs.Stream.{lead}
use Rattle.source.proofs.Streams.{take_within}
use Rattle.source.proofs.quota.QuotaSource.show.Goals as goal

pub returns-clause-value : goal.returns-clause-value
returns-clause-value g c =
    let low = c.args.self.now.source in
    let left = c.args.self.now.left in
    let is = (g.S.Source.stream low).items in
    let bounded : g.S.Source.ready low ≤ lead is = g.S.Source.bounded low in
    c.show_at_most.ensures.value ∙ sym (take_within (min left (g.S.Source.ready low)) left is (omega arith) (omega arith))
