use Rattle.std.proofs.Common.{vec_items, ap, ◌∙◌}
use Rattle.listing.specs.Listed.{line}
use Rattle.listing.proofs.Lines.{closed, goes_on}
use Rattle.listing.proofs.list.list_pieces.Goals as goal

pub returns-then-closes : goal.returns-then-closes
returns-then-closes g c =
    let next = c.next_piece-answer in
    closed (vec_items c.loop.lines) _ c.args.most c.loop.counter c.loop.reader c.loop.buf c.args.patience c.loop.invariant c.loop-test.true
    next.result next.new.reader next.new.buf next.ensures.does
    c.line_of.result (c.line_of.ensures ∙ ap (λ n. line n next.result) c.position-before.ensures) _ c.in_ok-push.ensures.items c.if-closes.ensures

pub loop-preserved : goal.loop-preserved
loop-preserved g c =
    let next = c.next_piece-answer in
    goes_on (vec_items c.loop.lines) _ c.args.most c.loop.counter c.loop.reader c.loop.buf c.args.patience c.loop.invariant c.loop-test.true
    next.result next.new.reader next.new.buf next.ensures.does
    c.line_of.result (c.line_of.ensures ∙ ap (λ n. line n next.result) c.position-before.ensures) _ c.in_ok-push.ensures.items c.if-closes.ensures
