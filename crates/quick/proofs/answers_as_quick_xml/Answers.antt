use Rattle.quick.proofs.Answers.{text_as, ref_as, peek_as, with_as, bang_as}
use Rattle.quick.proofs.answers_as_quick_xml.Goals as goal

pub returns : goal.returns
returns g c =
    let token = c.args.token.now in
    record { text = text_as; reference = ref_as; peek = peek_as token; with = with_as token; bang = bang_as token }
