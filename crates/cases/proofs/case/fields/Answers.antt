use Rattle.std.proofs.Common.{◌+◌, length, map, subst, arith}
use Rattle.cases.specs.Read.{Reads}
use Rattle.cases.proofs.Filled.{few_all}
use Rattle.cases.proofs.case.fields.Goals as goal

pub returns : goal.returns
returns c = subst (Reads (λ v. map (λ x. x.now) v.items) c.fields_up_to.result) (few_all c.args.line.now (length c.args.line.now + 1) (omega arith)) c.fields_up_to.ensures
