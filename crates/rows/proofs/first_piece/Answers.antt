use Rattle.std.proofs.Common.{refl}
use Rattle.rows.proofs.first_piece.Goals as goal

pub returns-clause-rows : goal.returns-clause-rows
returns-clause-rows c = record {
  question = refl;
  declaration = refl;
  three_dashes = refl;
  four_dashes = refl;
  bang = refl;
  opening = refl;
  unknown = refl;
  commented = refl;
  broken = refl;
}
