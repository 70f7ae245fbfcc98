use Rattle.std.proofs.Common.{sym, ap, subst}
use Rattle.model.specs.History.{answering, read_bang_element}
use Rattle.model.specs.declared.answer.Answer.TheVariants.{Bang}
use Rattle.laws.proofs.Reports.{continues}
use Rattle.quick.specs.Answers.{AsQuickXmlBang}
use Rattle.quick.proofs.Answers.{bang_as}
use Rattle.split.specs.Awaits.{BangCall}
use Rattle.split.proofs.Awaits.{bangs_one_piece}
use Rattle.reader.specs.State.{the_token}
use Rattle.reader.proofs.reader.Reader.read_bang_element.Goals as goal

pub returns-clause-report : goal.returns-clause-report
returns-clause-report g c = continues the_token _ (read_bang_element c.args.token c.args.buf.now c.args.patience) (Bang _) _ _ (ap (answering Bang) c.read_bang_element_inner.ensures)

pub returns-clause-piece : goal.returns-clause-piece
returns-clause-piece g c = subst (BangCall _ _ _ _) (sym c.read_bang_element_inner.ensures) (bangs_one_piece _ _ _ _)

pub returns-clause-quick : goal.returns-clause-quick
returns-clause-quick g c = subst (AsQuickXmlBang c.args.self.now c.args.buf.now c.args.patience) (sym c.read_bang_element_inner.ensures) (bang_as c.args.token c.args.self.now c.args.buf.now c.args.patience)
