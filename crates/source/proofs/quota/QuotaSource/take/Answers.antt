use Rattle.std.proofs.Common.{◌≤◌, min, sym, arith}
use Rattle.std.proofs.lemmas.Bool.{leb-true}
use Rattle.source.specs.Stream.{lead}
use Rattle.source.specs.declared.fault.Fault.TheVariants.{Quota}
use Rattle.source.proofs.Streams.{limited-without}
use Rattle.source.proofs.quota.QuotaSource.take.Goals as goal

pub returns-then-took-clause-after : goal.returns-then-took-clause-after
returns-then-took-clause-after g c =
    let me = c.args.self.now in
    let n = c.args.n in
    let ready = g.S.Source.ready me.source in
    let s = g.S.Source.stream me.source in
    let bounded : ready ≤ lead s.items = g.S.Source.bounded me.source in
    let within : n ≤ min me.left ready = leb-true n (min me.left ready) (sym c.if-took.ensures.answer) in
    rw c.if-took.true
    (limited-without (Quota me.quota) n me.left s (g.S.Source.stream c.take_at_most-took.new.source) (omega arith) (omega arith) c.if-took.ensures.after)
