use Rattle.std.proofs.Common.{◌≡◌, ℕ, ◌+◌, ◌-◌, ◌≤◌, true, List, ◌++◌, map, length, take, drop, sym, ap, ◌∙◌, arith, length-take}
use borrow.Rule.Slice.PartMut.{put_mid}
use Rattle.std.proofs.lemmas.Bool.{le-leb, cond-true}
use Rattle.std.proofs.lemmas.List.{drop-append-le, drop-map, length-map}
use Rattle.std.proofs.lemmas.Slice.{take-put_mid, drop-put_mid}
use Rattle.source.specs.Stream.{byte, bytes_in, without}
use Rattle.source.proofs.Streams.{split-lead}
use Rattle.model.specs.Gather.{gather}
use Rattle.gather.specs.Resume.{resumed}
use Rattle.gather.proofs.Runs.{bytes_in_run, ran, onward}
use Rattle.gather.proofs.gathering.copy_run.Goals as goal

pub returns-clause-goes : goal.returns-clause-goes
returns-clause-goes g c p =
    let src = g.S.Source.stream c.args.source.now in
    let ready = g.S.Source.ready c.args.source.now in
    let f = g.C.Cutter.cuts c.args.cutter.now in
    let F = g.C.Cutter.cuts c.scan.new.self in
    let run : List ℕ = c.show-run.result.now in
    let q = c.fit-n.result in
    let n = c.fit-n.result.0 in
    let at = c.args.written in
    let buf : List ℕ = c.args.buf.now in
    let size = length buf in
    let ys : List ℕ = c.copy_from_slice.new.self in
    let rest = drop ready src.items in
    let bounded = g.S.Source.bounded c.args.source.now in
    let long : length run ≡ ready = c.show-run.ensures.len in
    let split : src.items ≡ map byte run ++ rest = rw c.show-run.ensures.value (split-lead ready src.items bounded) in
    let whole : length (map byte run) ≡ length run = length-map run byte in
    let n-run : n ≤ length run = c.fit-n.ensures.within in
    let n_room : n ≤ size - at = c.fit-n.ensures.room in
    let at_in : at ≤ size = c.requires.within in
    let copied : ys ≡ take n run = c.copy_from_slice.ensures.after ∙ ap (λ k. take k run) (omega arith) in
    let yes : c.take.result ≡ true = c.take.ensures.answer ∙ le-leb n ready (omega arith) in
    let taken = c.take.ensures.after ∙ cond-true c.take.result (without n src) src yes in
    let items : (g.S.Source.stream c.take.new.self).items ≡ map byte (drop n run) ++ rest =
    ap (λ s. s.items) taken ∙ ap (drop n) split ∙ drop-append-le n (map byte run) rest (omega arith)
    ∙ ap (λ x. x ++ rest) (drop-map byte n run) in
    let k = at + n - at in
    let front : take (at + n) (put_mid at k buf ys) ≡ take at buf ++ take n run =
    take-put_mid at k buf ys (at + n) (omega arith) at_in ∙ ap (λ y. take at buf ++ y) copied in
    let so_far : length (take at buf) ≡ at = length-take at buf ∙ omega arith in
    let bytes : bytes_in src.items ≡ run ++ bytes_in rest = ap bytes_in split ∙ bytes_in_run run rest in
    ap (λ bs. gather (f bs) size (take at buf) p src.items src.tail) bytes
    ∙ ap (λ is. gather (f (run ++ bytes_in rest)) size (take at buf) p is src.tail) split
    ∙ ran size p rest src.tail f F run (take at buf) (size - at) (omega arith) c.scan.result c.scan.ensures
    ∙ ap (onward size p rest src.tail F (take at buf) run) (sym c.fit-n.ensures.value)
    ∙ ap (λ x. resumed q.1 F size x p (map byte (drop n run) ++ rest) src.tail) (sym front)
    ∙ ap (λ is. resumed q.1 F size (take (at + n) (put_mid at k buf ys)) p is src.tail) (sym items)

pub returns-clause-rest : goal.returns-clause-rest
returns-clause-rest g c =
    let at = c.args.written in
    let n = c.fit-n.result.0 in
    let n_room : n ≤ length c.args.buf.now - at = c.fit-n.ensures.room in
    drop-put_mid at (at + n - at) c.args.buf.now c.copy_from_slice.new.self (at + n) (omega arith) c.requires.within (omega arith)
