use Rattle.std.proofs.Common.{sym, ap, subst}
use Rattle.model.specs.History.{answering, read_ref}
use Rattle.model.specs.declared.answer.Answer.TheVariants.{Ref}
use Rattle.laws.proofs.Reports.{continues}
use Rattle.quick.specs.Answers.{AsQuickXmlRef}
use Rattle.quick.proofs.Answers.{ref_as}
use Rattle.model.specs.Call.{ref_reading}
use Rattle.split.specs.Reads.{PieceCall}
use Rattle.split.proofs.Calls.{refs_one_piece}
use Rattle.reader.specs.State.{the_token}
use Rattle.reader.proofs.reader.Reader.read_ref.Goals as goal

pub returns-clause-report : goal.returns-clause-report
returns-clause-report g c = continues the_token _ (read_ref c.args.buf.now c.args.patience) (Ref _) _ _ (ap (answering Ref) c.read_ref_inner.ensures)

pub returns-clause-piece : goal.returns-clause-piece
returns-clause-piece g c = subst (PieceCall ref_reading _ _ _) (sym c.read_ref_inner.ensures) (refs_one_piece _ _ _)

pub returns-clause-quick : goal.returns-clause-quick
returns-clause-quick g c = subst (AsQuickXmlRef c.args.self.now c.args.buf.now c.args.patience) (sym c.read_ref_inner.ensures) (ref_as c.args.self.now c.args.buf.now c.args.patience)
