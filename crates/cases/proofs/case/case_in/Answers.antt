use Rattle.cases.proofs.Filled.{too_few}
use Rattle.cases.proofs.case.case_in.Goals as goal

pub returns-in_default : goal.returns-in_default
returns-in_default c = too_few c.args.fields.now c.in_default.len_below
