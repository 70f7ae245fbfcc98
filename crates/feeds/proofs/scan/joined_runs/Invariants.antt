use Rattle.std.proofs.Common.{◌≡◌, ◌++◌, take, vec_items}
use Rattle.std.specs.List.{flat_map}
use Rattle.feeds.proofs.scan.joined_runs.Given as goal

abbrev pub invariant-loop-run : goal.invariant-loop-run
invariant-loop-run l = vec_items l.bytes ≡ l.opening ++ flat_map vec_items (take l.run-index l.runs)
