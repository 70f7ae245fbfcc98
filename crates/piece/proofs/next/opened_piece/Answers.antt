use Rattle.std.proofs.Common.{sym, ap, ◌∙◌}
use Rattle.std.proofs.lemmas.Result.{IfErr-at_err}
use Rattle.piece.specs.Next.{Spends}
use Rattle.piece.proofs.Spent.{bang_spends}
use Rattle.piece.proofs.next.opened_piece.Goals as goal

pub map_err-requires : goal.map_err-requires
map_err-requires g c e h =
    IfErr-at_err Spends (sym (ap (λ o. o.answer) c.read_bang_element-answer.ensures.does) ∙ h)
    (bang_spends c.args.token c.args.reader.now c.args.buf.now c.args.patience c.args.b c.requires c.in-33.is)
