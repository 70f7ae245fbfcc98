use Rattle.model.specs.Cut.{text_cut}
use Rattle.gather.proofs.Cuts.{Seen}
use Rattle.gather.proofs.cutter.TextCutter.scan.Given as goal

abbrev pub invariant-loop-i : goal.invariant-loop-i
invariant-loop-i l = Seen text_cut l.run l.i text_cut
