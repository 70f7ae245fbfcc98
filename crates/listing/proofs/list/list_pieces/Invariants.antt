use Rattle.std.proofs.Common.{◌≡◌, ◌-◌, ◌++◌, vec_items}
use Rattle.listing.specs.Listed.{listed}
use Rattle.listing.proofs.list.list_pieces.Given as goal

-- the lines so far, and those to come
abbrev pub invariant-loop : goal.invariant-loop
invariant-loop g l =
    vec_items l.lines ++ listed (l.most - l.counter) l.reader l.buf l.patience ≡ listed l.most l.initial.reader l.initial.buf l.patience
