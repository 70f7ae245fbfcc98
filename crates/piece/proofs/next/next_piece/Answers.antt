use Rattle.piece.proofs.Calls.{piece_continues}
use Rattle.piece.proofs.next.next_piece.Goals as goal

pub returns-clause-report : goal.returns-clause-report
returns-clause-report g c = piece_continues c.args.reader.now c.args.buf.now c.args.patience _ c.next_piece_inner.ensures
