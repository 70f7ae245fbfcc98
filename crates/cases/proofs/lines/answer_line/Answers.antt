use Rattle.std.proofs.Common.{◌≡◌, ℕ, List, ◌++◌, Err, refl, ap, ◌∙◌}
use Rattle.cases.specs.Lines.{bad_line}
use Rattle.cases.specs.declared.bad.Bad.TheVariants.{NoCase, NoMemory}
use Rattle.cases.proofs.Written.{written_by, refused}
use Rattle.cases.proofs.lines.answer_line.Goals as goal

pub returns-in_err-write_bad-in-Err-NoCase-clause-answered : goal.returns-in_err-write_bad-in-Err-NoCase-clause-answered
returns-in_err-write_bad-in-Err-NoCase-clause-answered g c =
    let is : c.answer.result ≡ Err NoCase = cc in
    written_by g.F.FnMut _ _ _ _ _ _ _ _ _ _ c.in-Some.is c.case_line.ensures c.clear.ensures.items c.answer.ensures (rw is (refused _ _ c.from_residual.ensures.0))

pub returns-in-Ok-clause-answered : goal.returns-in-Ok-clause-answered
returns-in-Ok-clause-answered g c =
    written_by g.F.FnMut _ _ _ _ _ _ _ _ _ _ c.in-Some.is c.case_line.ensures c.clear.ensures.items c.answer.ensures (rw c.in-Ok.is (refl, refl))

pub returns-in_ok-write_bad-in-Err-NoCase-clause-answered : goal.returns-in_ok-write_bad-in-Err-NoCase-clause-answered
returns-in_ok-write_bad-in-Err-NoCase-clause-answered g c =
    let is : c.answer.result ≡ Err NoCase = cc in
    let bad = ◌∙◌ {A = List ℕ} c.in_ok-write_bad-in-Err-NoCase.ensures (ap (λ before. before ++ bad_line c.in-Some.line.now) c.clear-in-Err-NoCase.ensures.items) in
    written_by g.F.FnMut _ _ _ _ _ _ _ _ _ _ c.in-Some.is c.case_line.ensures c.clear.ensures.items c.answer.ensures (rw is bad)

pub returns-in-Err-NoMemory-clause-answered : goal.returns-in-Err-NoMemory-clause-answered
returns-in-Err-NoMemory-clause-answered g c =
    let is : c.answer.result ≡ Err NoMemory = cc in
    written_by g.F.FnMut _ _ _ _ _ _ _ _ _ _ c.in-Some.is c.case_line.ensures c.clear.ensures.items c.answer.ensures (rw is refl)
