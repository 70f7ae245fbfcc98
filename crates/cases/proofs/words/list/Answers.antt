use Rattle.std.proofs.Common.{Some, vec_items, sym, refl, subst}
use Rattle.cases.proofs.Lists.{ListTurn, list_start, list_next, list_refused, list_whole, passed}
use Rattle.cases.proofs.words.list.Goals as goal

pub returns-in_err-read : goal.returns-in_err-read
returns-in_err-read g c =
    let t = subst (λ o. ListTurn 44 g.W.Word.view g.W.Word.meaning c.args.text.now o (vec_items c.loop-left.all)) c.in-Some.is c.loop-left.invariant in
    passed g.W.Word.view _ _ _ _ _ c.from_residual.ensures.1 c.in_err-read.ensures
    (list_refused 44 g.W.Word.view g.W.Word.meaning c.args.text.now c.in-Some.words _ t _ c.cut_at.ensures.front)

pub loop-left-init : goal.loop-left-init
loop-left-init g c =
    subst (ListTurn 44 g.W.Word.view g.W.Word.meaning c.args.text.now (Some c.args.text)) (sym c.new-all.ensures.items)
    (list_start 44 g.W.Word.view g.W.Word.meaning c.args.text.now c.args.text refl)

pub loop-left-preserved : goal.loop-left-preserved
loop-left-preserved g c =
    let t = subst (λ o. ListTurn 44 g.W.Word.view g.W.Word.meaning c.args.text.now o (vec_items c.loop-left.all)) c.in-Some.is c.loop-left.invariant in
    subst (ListTurn 44 g.W.Word.view g.W.Word.meaning c.args.text.now c.cut_at.result.1) (sym c.in_ok-push.ensures.items)
    (list_next 44 g.W.Word.view g.W.Word.meaning c.args.text.now c.in-Some.words _ t
    _ c.cut_at.ensures.front c.cut_at.result.1 c.cut_at.ensures.rest _ c.in_ok-read.ensures)

pub returns : goal.returns
returns g c = list_whole 44 g.W.Word.view g.W.Word.meaning c.args.text.now _ (subst (λ o. ListTurn 44 g.W.Word.view g.W.Word.meaning c.args.text.now o (vec_items c.loop-left.all)) c.in_default.is c.loop-left.invariant)
