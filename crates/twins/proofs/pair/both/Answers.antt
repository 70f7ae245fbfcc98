use Rattle.twins.proofs.Twins.{equal_outcomes, alike_outcomes}
use Rattle.twins.proofs.pair.both.Goals as goal

pub returns-clause-equal : goal.returns-clause-equal
returns-clause-equal g c =
    equal_outcomes g.P.Parser.scan g.Q.Parser.scan c.args.call c.args.same _ _ _ _ _ _ c.perform_each.ensures.one c.perform_each.ensures.other

pub returns-clause-waits : goal.returns-clause-waits
returns-clause-waits g c =
    alike_outcomes g.P.Parser.scan g.Q.Parser.scan c.args.call c.args.same _ _ _ _ _ _ c.perform_each.ensures.one c.perform_each.ensures.other
