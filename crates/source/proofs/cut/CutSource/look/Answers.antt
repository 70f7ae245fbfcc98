use Rattle.std.proofs.Common.{◌<◌, [], length, sym, refl, arith}
use Rattle.std.proofs.lemmas.Bool.{eqb-false, ltb-true}
use Rattle.source.specs.Cuts.{pieces, ending, sizes}
use Rattle.source.specs.Sources.{cut_stream, frames}
use Rattle.source.proofs.Cuts.{left_rests, sees_front}
use Rattle.source.proofs.cut.CutSource.look.Goals as goal

pub returns-then-not-is_empty : goal.returns-then-not-is_empty
returns-then-not-is_empty c =
    let me = c.args.self.now in
    let xs = me.shown.now in
    let not_None = eqb-false (length xs) 0 (sym c.if-not-is_empty.ensures) in
    let some : 0 < length xs = omega arith in
    let l = sees_front xs (pieces me.entries.now me.rest.now) (ending me.code) (cut_stream me)
    (sizes me.entries.now (length me.rest.now)) (frames me) some refl refl in
    record { answer = l.0; after = l.1; some = λ _. some; frames = refl; first = λ _. l.2 }

pub returns-then-not-is_empty-3 : goal.returns-then-not-is_empty-3
returns-then-not-is_empty-3 c =
    let me = c.args.self.now in
    let b = c.loop-self.self in
    let s = left_rests me b c.loop-self.invariant (omega (arith, ltb-true)) in
    let not_None = eqb-false (length b.rest.now) 0 (sym c.if-not-is_empty-3.ensures) in
    let some : 0 < length b.rest.now = omega arith in
    let l = sees_front b.rest.now (pieces b.entries.now []) (ending b.code) (cut_stream me) (sizes b.entries.now 0) (frames me) some s.0 s.1 in
    record { answer = l.0; after = l.1; some = λ _. some; frames = s.1; first = λ _. l.2 }
