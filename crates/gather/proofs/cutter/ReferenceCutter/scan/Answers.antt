use Rattle.std.proofs.Common.{rules}
use Rattle.model.specs.Cut.{ref_from}
use Rattle.model.specs.declared.ending.RefEnd.TheVariants.{Semicolon, Markup, Ref, NotRef}
use Rattle.gather.proofs.Cuts.{seen_keep, seen-before, seen_through, seen_end}
use Rattle.gather.proofs.cutter.ReferenceCutter.scan.Goals as goal

pub returns-in-true-eq59 : goal.returns-in-true-eq59
returns-in-true-eq59 c = seen_through c.loop-i.invariant c.loop-i-test.true (ref_from c.loop-i.self.begun) Semicolon (λ zs. search rules)

pub returns-in-true-eq38 : goal.returns-in-true-eq38
returns-in-true-eq38 c = seen-before c.loop-i.invariant c.loop-i-test.true (ref_from c.loop-i.self.begun) Ref (λ zs. search rules)

pub returns-in-true-eq60 : goal.returns-in-true-eq60
returns-in-true-eq60 c = seen-before c.loop-i.invariant c.loop-i-test.true (ref_from c.loop-i.self.begun) Markup (λ zs. search rules)

pub returns-in-false-default : goal.returns-in-false-default
returns-in-false-default c = seen-before c.loop-i.invariant c.loop-i-test.true (ref_from c.loop-i.self.begun) NotRef (λ zs. search rules)

pub loop-i-preserved : goal.loop-i-preserved
loop-i-preserved c = seen_keep c.loop-i.invariant c.loop-i-test.true (ref_from c.if-self.self.begun) (λ zs. search rules)

pub returns : goal.returns
returns c = seen_end c.loop-i.invariant c.loop-i-test.false (search rules)
