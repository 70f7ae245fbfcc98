use Rattle.std.proofs.Common.{◌≤◌, length, rules}
use Rattle.model.specs.Bang.{opening_prefix}
use Rattle.model.specs.Cut.{scan_cut}
use Rattle.reader.proofs.Pieces.{prefixed, opening_set}
use Rattle.reader.proofs.reader.Reader.read_with_inner.Goals as goal

pub returns : goal.returns
returns g c =
    let got = c.gather_piece-written in
    let s = c.args.self.now in
    let one : 1 ≤ length c.args.buf.now = search rules in
    let all = prefixed s c.args.buf.now opening_prefix (scan_cut (g.P.Parser.scan c.args.parser)) c.args.patience one
    (rw (opening_set c.args.buf.now one) at got.ensures.leaves) in
    search rules
