use Rattle.std.proofs.Common.{sym, ◌∙◌}
use Rattle.std.proofs.lemmas.Bool.{both_ways}
use Rattle.utf8.proofs.Loop.{start, next-lead, next-due}
use Rattle.utf8.proofs.check.Goals as goal
use Rattle.utf8.proofs.check.Goals.{in-Lead, in_default, then-matches, else-matches}

pub loop-i-init : goal.loop-i-init
loop-i-init c = start _

pub loop-i-preserved : goal.loop-i-preserved
loop-i-preserved c =
    let took = sym c.in_ok-need.ensures.ok_part ∙ c.next.ensures in
    elim c.match-matches.branch [
      | in-Lead v ↦ elim c.if-matches.branch [
        | then-matches w ↦ next-lead c.loop-i.invariant _ _ c.loop-i-test.true took v.in-Lead.is w.valid_up_to-is
        | else-matches w ↦ absurd (both_ways _ w.if-matches.false v.matches-is)
      ]
      | in_default v ↦ elim c.if-matches.branch [
        | then-matches w ↦ absurd (both_ways _ v.matches-is w.if-matches.true)
        | else-matches w ↦ next-due c.loop-i.invariant _ _ c.loop-i-test.true took v.in_default.not-Lead w.valid_up_to-is
      ]
    ]
