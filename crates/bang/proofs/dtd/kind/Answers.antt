use Rattle.std.proofs.Common.{◌≡◌, codes, refl, rules, arith}
use Rattle.std.proofs.lemmas.Slice.Eq.{text_from_reads}
use Rattle.bang.proofs.dtd.kind.Goals as goal

pub returns-in-33-2 : goal.returns-in-33-2
returns-in-33-2 c =
    let is : c.args.held.now ≡ codes "!ELEMENT" = text_from_reads c.args.held.now (codes "!ELEMENT") (omega arith) (search rules) in
    rw is refl

pub returns-in-33-3 : goal.returns-in-33-3
returns-in-33-3 c =
    let entity = text_from_reads c.args.held.now (codes "!ENTITY") in
    let attlist = text_from_reads c.args.held.now (codes "!ATTLIST") in
    let notation = text_from_reads c.args.held.now (codes "!NOTATION") in
    grind (arith, rules, entity, attlist, notation, c.default-in-33-3.ensures.fresh)
