use Rattle.std.proofs.Common.{◌++◌, map, ap}
use Rattle.source.specs.Cuts.{pieces, ending}
use Rattle.source.specs.Stream.{byte}
use Rattle.source.proofs.Cuts.{drop-front}
use Rattle.source.proofs.Streams.{IsSplitAt-without}
use Rattle.source.proofs.cut.CutSource.take.Goals as goal

pub returns-clause-after : goal.returns-clause-after
returns-clause-after c =
    let me = c.args.self.now in
    let later = pieces me.entries.now me.rest.now in
    IsSplitAt-without (λ x. x.now) (λ xs. record { items = map byte xs ++ later; tail = ending me.code }) c.args.n me.shown.now _ c.split_off.result
    (λ h. ap (λ is. record { items = is; tail = ending me.code }) (drop-front c.args.n me.shown.now later h)) c.split_off.ensures.cases c.is_some.ensures
