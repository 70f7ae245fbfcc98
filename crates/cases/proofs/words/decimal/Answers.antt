use Rattle.std.proofs.Common.{sym, ◌∙◌, arith}
use Rattle.std.proofs.lemmas.Bool.{eqb-false}
use Rattle.cases.proofs.Numbers.{start, next, refused, whole}
use Rattle.cases.proofs.words.decimal.Goals as goal

pub loop-digit-init : goal.loop-digit-init
loop-digit-init c = start _ _

pub loop-digit-preserved : goal.loop-digit-preserved
loop-digit-preserved c =
    next _ _ _ _ c.loop-digit.invariant c.loop-digit-test.true _ (sym c.in_ok-number.was ∙ c.appended.ensures)

pub returns-in_err-number-clause-value : goal.returns-in_err-number-clause-value
returns-in_err-number-clause-value c =
    c.from_residual.ensures
    ∙ refused _ _ _ _ c.loop-digit.invariant c.loop-digit-test.true (sym c.in_err-number.was ∙ c.appended.ensures)

pub returns-clause-value : goal.returns-clause-value
returns-clause-value c = whole _ _ _ _ (let some = eqb-false _ _ (sym c.if-is_empty.ensures) in omega arith) c.loop-digit.invariant c.loop-digit-test.false
