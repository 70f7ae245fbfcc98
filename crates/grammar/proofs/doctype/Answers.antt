use Rattle.std.proofs.Common.{◌≡◌, ℕ, List, [], map, IfOk, vec_items, Result, sym, subst}
use Rattle.std.proofs.lemmas.Result.{IfOk-weaker}
use Rattle.bang.specs.Dtd.{dtd}
use Rattle.parser.specs.Runs.{told}
use Rattle.bang.specs.declared.dtd.DtdParser.TheVariants.{Before}
use Rattle.parser.specs.declared.errors.SyntaxError.{SyntaxError}
use Rattle.grammar.specs.Cut.{CutAnywhere, CutInComment}
use Rattle.grammar.specs.Doctype.{Doctypedecl, Commented}
use Rattle.grammar.proofs.Commented.{cut_anywhere, cut_commented, cut_in_comment, commented}
use Rattle.grammar.proofs.doctype.Goals as goal

-- what holds of a list holds of a value that has it for its items
of_items : {V E : Type 0} (items : V → List (Result ℕ SyntaxError)) (r : Result V E) (l : List (Result ℕ SyntaxError)) (Q : List (Result ℕ SyntaxError) → Type 0) → IfOk r (λ v. items v ≡ l) → Q l → IfOk r (λ v. Q (items v))
of_items items r l Q given q = IfOk-weaker r (λ v. items v ≡ l) (λ v. Q (items v)) (λ v e. subst Q (sym e) q) given

pub returns : goal.returns
returns c =
    let content = c.args.content.now in
    let runs = map (λ x. x.now) c.args.runs.now in
    let given = subst (λ s. IfOk c.feed_runs.result (λ v. vec_items v ≡ told (dtd s) content [] runs)) c.default.ensures.fresh c.feed_runs.ensures in
    let so = of_items vec_items c.feed_runs.result (told (dtd Before) content [] runs) in
    record {
      given = given;
      anywhere = so (CutAnywhere Doctypedecl runs) given (cut_anywhere content runs);
      commented = so (CutAnywhere Commented runs) given (cut_commented content runs);
      in_comment = so (CutInComment runs) given (cut_in_comment content runs);
      holds = commented;
    }
