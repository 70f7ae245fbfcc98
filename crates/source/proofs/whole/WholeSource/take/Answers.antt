use Rattle.source.specs.Stream.{plain}
use Rattle.source.proofs.Streams.{without-plain, IsSplitAt-without}
use Rattle.source.proofs.whole.WholeSource.take.Goals as goal

pub returns-clause-after : goal.returns-clause-after
returns-clause-after c =
    let xs = c.args.self.now.rest.now in
    IsSplitAt-without (λ x. x.now) plain c.args.n xs _ c.split_off.result (λ _. without-plain c.args.n xs) c.split_off.ensures.cases c.is_some.ensures
