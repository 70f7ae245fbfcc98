use Rattle.std.proofs.Common.{◌<◌, length, sym, arith}
use Rattle.std.proofs.lemmas.Bool.{eqb-false}
use Rattle.source.proofs.Streams.{seen_some, passed-plain}
use Rattle.source.proofs.whole.WholeSource.look.Goals as goal

pub returns-else-is_empty : goal.returns-else-is_empty
returns-else-is_empty c =
    let xs = c.args.self.now.rest.now in
    let none = eqb-false (length xs) 0 (sym c.if-is_empty.ensures) in
    let some : 0 < length xs = omega arith in
    record { answer = sym (seen_some xs some); after = sym (passed-plain xs); some = λ _. some }
