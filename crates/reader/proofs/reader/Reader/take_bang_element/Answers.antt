use Rattle.std.proofs.lemmas.Result.{err_from_is_err_and}
use Rattle.std.proofs.Common.{◌≡◌, ℕ, ◌≤◌, List, length, take, Ok, None, arith, ap, ◌∙◌, rules}
use Rattle.bang.specs.Bang.{bang}
use Rattle.model.specs.Bang.{bang_prefix}
use Rattle.model.specs.Cut.{scan_cut}
use Rattle.model.specs.Call.{state}
use Rattle.model.specs.Peek.{await}
use Rattle.reader.specs.Peeked.{peeked_taken}
use Rattle.reader.proofs.Pieces.{map_err-exit, bang_answered, prefixed, opening_set, bang-set, bang_none, bang-refused, bang_read}
use Rattle.reader.proofs.reader.Reader.take_bang_element.Goals as goal

pub returns-in_err-left : goal.returns-in_err-left
returns-in_err-left g c =
    let buf : List ℕ = c.args.buf.now in
    let one : 1 ≤ length buf = search rules in
    let exit = err_from_is_err_and c.from_residual.result c.from_residual.ensures.1 in
    let refused = map_err-exit _ c.take_peeked-taken.result c.map_err.result c.map_err.ensures.cases c.in_err-left.field-0.0 c.in_err-left.was in
    rw exit.1 (bang_none c.args.token c.args.self.now buf c.args.patience c.requires
    refused.0 (refused.1 ∙ c.take_peeked-taken.ensures.value) exit.0 (grind (arith, exit.2, refused.2))
    _ c.take_peeked-taken.ensures.after _ (opening_set buf one))

pub returns-in_err-bang : goal.returns-in_err-bang
returns-in_err-bang g c =
    let s = c.args.self.now in
    let buf : List ℕ = c.args.buf.now in
    let two : 2 ≤ length buf = search rules in
    let after = c.self.view_is ∙ c.take_peeked-taken.ensures.after in
    let source = g.S.Source.stream c.bang_type-named.new.source in
    let taken : Ok c.in_ok-left.left ≡ peeked_taken (await c.args.patience s.stream.items s.stream.tail) = search rules in
    let exit = err_from_is_err_and c.from_residual-in_err-bang.result c.from_residual-in_err-bang.ensures.1 in
    let refused = map_err-exit _ c.bang_type-named.result c.map_err-2.result c.map_err-2.ensures.cases c.in_err-bang.field-0.0 c.in_err-bang.was in
    rw exit.1 (bang-refused c.args.token s buf c.args.patience c.requires
    c.in_ok-left.left taken (g.S.Source.stream c.self.inside.source) source
    (ap (λ x. x.stream) after) c.bang_type-named.ensures.left c.bang_type-named.ensures.tail
    refused.0 (refused.1 ∙ c.bang_type-named.ensures.value) exit.0 (grind (arith, exit.2, refused.2))
    _ (ap (λ x. state source x.position x.opening) after) _ (bang-set buf two))

pub returns : goal.returns
returns g c =
    let buf : List ℕ = c.args.buf.now in
    let two : 2 ≤ length buf = search rules in
    let after = c.self.view_is ∙ c.take_peeked-taken.ensures.after in
    let source = g.S.Source.stream c.bang_type-named.new.source in
    let s = c.args.self.now in
    let got = c.gather_piece-written in
    let b = c.in_ok-bang.bang in
    let n = c.in_ok-bang.left in
    let taken : Ok c.in_ok-left.left ≡ peeked_taken (await c.args.patience s.stream.items s.stream.tail) = search rules in
    bang_read c.args.token s buf c.args.patience c.requires
    c.in_ok-left.left taken (g.S.Source.stream c.self.inside.source) source
    (ap (λ x. x.stream) after) c.bang_type-named.ensures.left c.bang_type-named.ensures.tail
    b n (search rules)
    (prefixed (state source s.position None) buf bang_prefix (scan_cut (bang b)) n two
    (rw (ap (λ x. x.position) after, ap (λ x. x.opening) after, bang-set buf two) at got.ensures.leaves))
    c.bang_answer.result (c.bang_answer.ensures ∙ ap (λ k. bang_answered k (take got.result.0 got.new.buf) got.result.1) c.from-kind.ensures)
