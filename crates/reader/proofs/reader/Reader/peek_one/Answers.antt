use Rattle.std.proofs.Common.{[], sym, ap, subst}
use Rattle.model.specs.History.{answering, peek_one}
use Rattle.model.specs.declared.answer.Answer.TheVariants.{Peek}
use Rattle.laws.proofs.Reports.{continues}
use Rattle.quick.specs.Answers.{AsQuickXmlPeek}
use Rattle.quick.proofs.Answers.{peek_as}
use Rattle.split.specs.Awaits.{PeekCall}
use Rattle.split.proofs.Awaits.{peeks-first}
use Rattle.reader.specs.State.{the_token}
use Rattle.reader.proofs.reader.Reader.peek_one.Goals as goal

pub returns-clause-report : goal.returns-clause-report
returns-clause-report g c = continues the_token _ (peek_one c.args.patience) (Peek _) _ [] (ap (answering Peek) c.peek_one_inner.ensures)

pub returns-clause-piece : goal.returns-clause-piece
returns-clause-piece g c = subst (PeekCall _ _ _) (sym c.peek_one_inner.ensures) (peeks-first _ _ _)

pub returns-clause-quick : goal.returns-clause-quick
returns-clause-quick g c = subst (AsQuickXmlPeek c.args.self.now c.args.patience) (sym c.peek_one_inner.ensures) (peek_as the_token c.args.self.now c.args.patience)
