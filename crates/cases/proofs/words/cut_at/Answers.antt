use Rattle.std.proofs.Common.{◌+◌, ◌==◌, Some, length, ap, sym, ◌∙◌, rules, arith, length-drop, drop}
use borrow.Author.Tests.{tests}
use Rattle.std.specs.Option.{option_map}
use Rattle.std.proofs.lemmas.Iterator.{YieldsList-from_slice}
use Rattle.std.proofs.lemmas.Iterator.Search.{position_from_yields_List}
use Rattle.cases.proofs.Parts.{before_found, before_none, all_behind}
use Rattle.cases.proofs.words.cut_at.Goals as goal

pub returns-in-Some : goal.returns-in-Some
returns-in-Some c =
    let place = sym c.in-Some.is ∙ position_from_yields_List (λ b. b == c.args.separator) _ _ _ c.position.ensures.ran (YieldsList-from_slice c.args.text.now cc) (λ x b q k. search (rules, tests)) in
    let back = all_behind (c.in-Some.i + 1) c.args.text.now in
    record {
      front = sym (before_found _ _ _ (sym place));
      rest = ap (λ x. Some x) back ∙ ap (option_map (λ i. drop (i + 1) c.args.text.now)) place;
      shorter = omega (arith, ap length back, length-drop (c.in-Some.i + 1) c.args.text.now, ap length c.iter.ensures.rest, c.in-Some.ensures.bound);
    }

pub returns-in-None : goal.returns-in-None
returns-in-None c =
    let place = sym c.in-None.is ∙ position_from_yields_List (λ b. b == c.args.separator) _ _ _ c.position.ensures.ran (YieldsList-from_slice c.args.text.now cc) (λ x b q k. search (rules, tests)) in
    record {
      front = sym (before_none _ _ (sym place));
      rest = ap (option_map (λ i. drop (i + 1) c.args.text.now)) place;
      shorter = tt;
    }
