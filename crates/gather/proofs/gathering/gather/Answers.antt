use Rattle.std.proofs.Common.{◌≡◌, length, ap, ◌∙◌, arith}
use Rattle.source.proofs.Streams.{passed_ready}
use Rattle.gather.proofs.Runs.{drop-further}
use Rattle.gather.proofs.gathering.gather.Goals as goal

pub returns-in-Some-ending-clause-rest : goal.returns-in-Some-ending-clause-rest
returns-in-Some-ending-clause-rest g c =
    let run = c.copy_run-end.ensures in
    run.rest ∙ drop-further c.loop-fewer.written c.copy_run-end.result.0 c.loop-fewer.buf c.args.buf.now run.grows c.loop-fewer.invariant.3

pub loop-fewer-preserved : goal.loop-fewer-preserved
loop-fewer-preserved g c =
    let inv = c.loop-fewer.invariant in
    let run = c.copy_run-end.ensures in
    let same = c.look.ensures.after ∙ passed_ready (g.S.Source.stream c.loop-fewer.source) c.in-Ready.ensures.answer in
    let tail = ap (λ s. s.tail) same ∙ inv.1 in
    let long : length c.loop-fewer.buf ≡ length c.args.buf.now = c.loop-fewer.auto.buf in
    let goes = rw (same, inv.1, long, c.in_default-ending.is) at (run.goes c.loop-fewer.left) in (
      inv.0 ∙ goes,
      run.tail ∙ tail,
      omega arith,
      run.rest ∙ drop-further c.loop-fewer.written c.copy_run-end.result.0 c.loop-fewer.buf c.args.buf.now run.grows inv.3,
      λ h. let before = inv.4 h in omega arith,
    )
