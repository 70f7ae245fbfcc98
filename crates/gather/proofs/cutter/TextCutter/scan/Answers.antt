use Rattle.std.proofs.Common.{rules}
use Rattle.model.specs.Cut.{text_cut}
use Rattle.model.specs.declared.ending.TextEnd.TheVariants.{Markup, Ref}
use Rattle.gather.proofs.Cuts.{seen_keep, seen-before, seen_end}
use Rattle.gather.proofs.cutter.TextCutter.scan.Goals as goal

pub returns-in-60 : goal.returns-in-60
returns-in-60 c = seen-before c.loop-i.invariant c.loop-i-test.true text_cut Markup (λ zs. search rules)

pub returns-in-38 : goal.returns-in-38
returns-in-38 c = seen-before c.loop-i.invariant c.loop-i-test.true text_cut Ref (λ zs. search rules)

pub loop-i-preserved : goal.loop-i-preserved
loop-i-preserved c = seen_keep c.loop-i.invariant c.loop-i-test.true text_cut (λ zs. search rules)

pub returns : goal.returns
returns c = seen_end c.loop-i.invariant c.loop-i-test.false (search rules)
