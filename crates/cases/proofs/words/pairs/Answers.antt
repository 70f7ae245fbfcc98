use Rattle.std.proofs.Common.{◌≡◌, ℕ, ◌-◌, List, length, take, drop, Some, vec_items, sym, ◌∙◌, subst, arith}
use Rattle.cases.proofs.Lists.{PairTurn, pair_next}
use Rattle.cases.proofs.words.pairs.Goals as goal

pub loop-digits-preserved : goal.loop-digits-preserved
loop-digits-preserved c =
    let ds = c.loop-digits.digits.now in
    let byte : c.hex_byte.result ≡ Some c.in_ok-ok_or.field-0 = grind arith in
    subst (PairTurn c.args.text.now (take (length ds - 2) (drop 2 ds))) (sym {A = List ℕ} c.in_ok-push.ensures.items)
    (pair_next c.args.text.now ds (vec_items c.loop-digits.bytes) c.loop-digits.invariant c.in-len2-up.len_at_least c.in_ok-ok_or.field-0 (sym c.hex_byte.ensures ∙ byte))
