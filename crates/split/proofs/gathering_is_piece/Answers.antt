use Rattle.split.proofs.Pieces.{gather_is_piece}
use Rattle.split.proofs.gathering_is_piece.Goals as goal

pub returns : goal.returns
returns g c = gather_is_piece _
