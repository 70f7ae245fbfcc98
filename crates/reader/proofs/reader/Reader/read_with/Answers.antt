use Rattle.std.proofs.Common.{sym, ap, subst}
use Rattle.model.specs.History.{answering, read_with}
use Rattle.model.specs.declared.answer.Answer.TheVariants.{With}
use Rattle.laws.proofs.Reports.{continues}
use Rattle.quick.specs.Answers.{AsQuickXmlWith}
use Rattle.quick.proofs.Answers.{with_as}
use Rattle.model.specs.Call.{with_reading}
use Rattle.split.specs.Reads.{PieceCall}
use Rattle.split.proofs.Calls.{scans_one_piece}
use Rattle.reader.specs.State.{the_token}
use Rattle.reader.proofs.reader.Reader.read_with.Goals as goal

pub returns-clause-report : goal.returns-clause-report
returns-clause-report g c = continues the_token _ (read_with c.args.token (g.P.Parser.scan c.args.parser) c.args.buf.now c.args.patience) (With _) _ _ (ap (answering With) c.read_with_inner.ensures)

pub returns-clause-piece : goal.returns-clause-piece
returns-clause-piece g c = subst (PieceCall (with_reading _ _) _ _ _) (sym c.read_with_inner.ensures) (scans_one_piece _ _ (g.met.P.Parser.prefix c.args.parser) _ _ _)

pub returns-clause-quick : goal.returns-clause-quick
returns-clause-quick g c = subst (AsQuickXmlWith (g.P.Parser.scan c.args.parser) c.args.self.now c.args.buf.now c.args.patience) (sym c.read_with_inner.ensures) (with_as c.args.token (g.P.Parser.scan c.args.parser) (g.met.P.Parser.prefix c.args.parser) c.args.self.now c.args.buf.now c.args.patience)
