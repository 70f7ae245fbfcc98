use Rattle.gather.proofs.Cuts.{scan_stop, scan_open}
use Rattle.gather.proofs.cutter.ScannerCutter.scan.Goals as goal

pub returns : goal.returns
returns g c =
    scan_stop (g.P.Parser.scan c.args.self.now.0) (g.P.Parser.scan c.feed.new.self) c.args.run.now
    (g.met.P.Parser.prefix c.args.self.now.0) c.in_ok-i.i c.in_ok-i.ensures

pub returns-in_err-i : goal.returns-in_err-i
returns-in_err-i g c =
    rw c.from_residual.ensures
    (scan_open (g.P.Parser.scan c.args.self.now.0) (g.P.Parser.scan c.feed.new.self) c.args.run.now
    (g.met.P.Parser.prefix c.args.self.now.0) c.in_err-i.ensures)
