use Rattle.std.proofs.Common.{◌≡◌, length}
use Rattle.model.specs.Peek.{await}
use Rattle.gather.proofs.gathering.await_byte.Given as goal

-- what is awaited from here on is what is awaited from the start
abbrev pub invariant-loop-fewer : goal.invariant-loop-fewer
invariant-loop-fewer g l =
    let now = g.S.Source.stream l.source in
    let start = g.S.Source.stream l.initial.source in
    (await l.patience start.items start.tail ≡ await l.left now.items start.tail) × (now.tail ≡ start.tail)

abbrev pub decreases-loop-fewer : goal.decreases-loop-fewer
decreases-loop-fewer g l = length (g.S.Source.stream l.source).items
