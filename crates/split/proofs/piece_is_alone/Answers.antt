use Rattle.split.proofs.Pieces.{piece_alone}
use Rattle.split.proofs.piece_is_alone.Goals as goal

pub returns : goal.returns
returns g c = piece_alone _
