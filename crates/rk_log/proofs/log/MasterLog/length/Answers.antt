use Rattle.std.proofs.Common.{length, arith}
use Rattle.rk_log.specs.Parts.{parts_of}
use Rattle.rk_log.proofs.Views.{entries_count}
use Rattle.rk_log.proofs.log.MasterLog.length.Goals as goal

pub returns : goal.returns
returns c =
    omega (arith, c.len.ensures, c.self.inside.ends.ok.0, entries_count (parts_of c.self.inside) c.args.self.now c.self.invariant.consistent c.self.view_is)
