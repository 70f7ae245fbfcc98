use Rattle.std.proofs.Common.{codes, rules, arith}
use Rattle.std.proofs.lemmas.Slice.Eq.{text_from_reads}
use Rattle.feeds.proofs.case.scanner_named.Goals as goal

pub returns-in_ok-new-in-98 : goal.returns-in_ok-new-in-98
returns-in_ok-new-in-98 c = rw (text_from_reads c.args.name.now (codes "bang-C") (omega arith) (search rules)) (search rules)

pub returns-in_ok-new-in-98-2 : goal.returns-in_ok-new-in-98-2
returns-in_ok-new-in-98-2 c = rw (text_from_reads c.args.name.now (codes "bang-D") (omega arith) (search rules)) (search rules)

pub returns-in_ok-new-in-98-3 : goal.returns-in_ok-new-in-98-3
returns-in_ok-new-in-98-3 c = rw (text_from_reads c.args.name.now (codes "bang-d") (omega arith) (search rules)) (search rules)

pub returns-in_ok-new-in-98-4 : goal.returns-in_ok-new-in-98-4
returns-in_ok-new-in-98-4 c = rw (text_from_reads c.args.name.now (codes "bang-[") (omega arith) (search rules)) (search rules)
