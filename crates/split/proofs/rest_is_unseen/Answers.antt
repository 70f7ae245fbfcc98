use Rattle.model.specs.Cut.{text_cut, ref_cut, scan_cut}
use Rattle.split.proofs.Cuts.{text_lawful, ref_lawful, scan_lawful}
use Rattle.split.proofs.Unseen.{unseen}
use Rattle.split.proofs.rest_is_unseen.Goals as goal

pub returns : goal.returns
returns c = record {
  texts = unseen text_cut text_lawful;
  refs = unseen ref_cut ref_lawful;
  scans = λ m law. unseen (scan_cut m) (scan_lawful m law);
}
