use Rattle.std.proofs.Common.{◌≡◌, Some, None, vec_items, sym, ap, ◌∙◌, subst, arith}
use Rattle.std.specs.Option.{option_map}
use Rattle.cases.proofs.Filled.{FewTurn, few_start, few_next, few_refused, few_over, few_whole}
use Rattle.cases.proofs.case.fields_up_to.Goals as goal

pub loop-left-init : goal.loop-left-init
loop-left-init c = subst (FewTurn c.args.line.now c.args.most (Some c.args.line)) (sym c.in_ok-fields.ensures.items) (few_start c.args.line c.args.most)

pub returns-then-len-most : goal.returns-then-len-most
returns-then-len-most c =
    let full = c.if-len-most.true in
    let len = c.len.ensures in
    few_over c.args.line.now c.args.most c.loop-left.left (vec_items c.loop-left.fields) c.loop-left.invariant (sym c.is_some.ensures ∙ c.loop-left-test.true) (omega arith)

pub returns-in_err-text : goal.returns-in_err-text
returns-in_err-text c =
    let none : c.field.result ≡ None = grind arith in
    let refused = few_refused c.args.line.now c.args.most c.loop-left.left (vec_items c.loop-left.fields) c.loop-left.invariant (sym c.is_some.ensures ∙ c.loop-left-test.true) (sym (ap (option_map (λ f. (f.0.now, option_map (λ x. x.now) f.1))) none) ∙ c.field.ensures) in
    grind arith

pub loop-left-preserved : goal.loop-left-preserved
loop-left-preserved c =
    let some : c.field.result ≡ Some (c.in_ok-text.text, c.in_ok-text.rest) = grind arith in
    subst (FewTurn c.args.line.now c.args.most c.in_ok-text.rest) (sym c.in_ok-push.ensures.items)
    (few_next c.args.line.now c.args.most c.loop-left.left (vec_items c.loop-left.fields) c.loop-left.invariant (let room = c.if-len-most.false in let len = c.len.ensures in let small = c.loop-left.invariant.small in omega arith) c.in_ok-text.text c.in_ok-text.rest (sym (ap (option_map (λ f. (f.0.now, option_map (λ x. x.now) f.1))) some) ∙ c.field.ensures))

pub returns : goal.returns
returns c = few_whole c.args.line.now c.args.most c.loop-left.left (vec_items c.loop-left.fields) c.loop-left.invariant (sym c.is_some.ensures ∙ c.loop-left-test.false)
