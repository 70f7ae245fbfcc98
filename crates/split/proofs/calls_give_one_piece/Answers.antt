use Rattle.split.proofs.Calls.{texts_one_piece, refs_one_piece, scans_one_piece}
use Rattle.split.proofs.Awaits.{peeks-first, bangs_one_piece}
use Rattle.split.proofs.calls_give_one_piece.Goals as goal

pub returns : goal.returns
returns g c = record {
  texts = texts_one_piece;
  refs = refs_one_piece;
  scans = scans_one_piece _;
  peeks = peeks-first _;
  bangs = bangs_one_piece _;
}
