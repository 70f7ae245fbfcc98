use Rattle.std.proofs.Common.{◌≡◌, true, is_some, subst}
use Rattle.script.proofs.Keeps.{keeps, bang_keeps}
use Rattle.script.proofs.session.make_with.Goals as goal

pub returns-in-Bang : goal.returns-in-Bang
returns-in-Bang g c h =
    keeps c.args.reader.now _ c.read_bang_element.ensures.does (bang_keeps c.args.token c.args.reader.now c.args.buf.now c.args.patience)
    (subst (λ o. is_some o ≡ true) c.handed_back-in-Bang.ensures.token h)
