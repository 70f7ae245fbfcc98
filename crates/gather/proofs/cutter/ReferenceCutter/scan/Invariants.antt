use Rattle.model.specs.Cut.{ref_from}
use Rattle.gather.proofs.Cuts.{Seen}
use Rattle.gather.proofs.cutter.ReferenceCutter.scan.Given as goal

abbrev pub invariant-loop-i : goal.invariant-loop-i
invariant-loop-i l = Seen (ref_from l.initial.self.begun) l.run l.i (ref_from l.self.begun)
