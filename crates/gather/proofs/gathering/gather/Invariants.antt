use Rattle.std.proofs.Common.{◌≡◌, ◌≤◌, length, take, drop}
use Rattle.source.specs.Stream.{bytes_of}
use Rattle.model.specs.Gather.{gather}
use Rattle.gather.proofs.gathering.gather.Given as goal

-- what is gathered from here on is what is gathered from the start
abbrev pub invariant-loop-fewer : goal.invariant-loop-fewer
invariant-loop-fewer g l =
    let now = g.S.Source.stream l.source in
    let start = g.S.Source.stream l.initial.source in
    (gather (g.C.Cutter.cuts l.initial.cutter (bytes_of start)) (length l.initial.buf) (take l.at l.initial.buf) l.patience start.items start.tail
    ≡ gather (g.C.Cutter.cuts l.cutter (bytes_of now)) (length l.initial.buf) (take l.written l.buf) l.left now.items start.tail)
    × (now.tail ≡ start.tail)
    × (l.written ≤ length l.initial.buf)
    × (drop l.written l.buf ≡ drop l.written l.initial.buf)
    × (l.at ≤ length l.initial.buf → l.at ≤ l.written)

abbrev pub decreases-loop-fewer : goal.decreases-loop-fewer
decreases-loop-fewer g l = length (g.S.Source.stream l.source).items
