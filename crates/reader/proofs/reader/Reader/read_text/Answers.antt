use Rattle.std.proofs.Common.{sym, ap, subst}
use Rattle.model.specs.History.{answering, read_text}
use Rattle.model.specs.declared.answer.Answer.TheVariants.{Text}
use Rattle.laws.proofs.Reports.{continues}
use Rattle.quick.specs.Answers.{AsQuickXmlText}
use Rattle.quick.proofs.Answers.{text_as}
use Rattle.model.specs.Call.{text_reading}
use Rattle.split.specs.Reads.{PieceCall}
use Rattle.split.proofs.Calls.{texts_one_piece}
use Rattle.reader.specs.State.{the_token}
use Rattle.reader.proofs.reader.Reader.read_text.Goals as goal

pub returns-clause-report : goal.returns-clause-report
returns-clause-report g c = continues the_token _ (read_text c.args.buf.now c.args.patience) (Text _) _ _ (ap (answering Text) c.read_text_inner.ensures)

pub returns-clause-piece : goal.returns-clause-piece
returns-clause-piece g c = subst (PieceCall text_reading _ _ _) (sym c.read_text_inner.ensures) (texts_one_piece _ _ _)

pub returns-clause-quick : goal.returns-clause-quick
returns-clause-quick g c = subst (AsQuickXmlText c.args.self.now c.args.buf.now c.args.patience) (sym c.read_text_inner.ensures) (text_as c.args.self.now c.args.buf.now c.args.patience)
