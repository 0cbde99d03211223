use Rattle.std.proofs.Common.{◌-◌, arith}
use Rattle.rk_log.specs.Parts.{parts_of}
use Rattle.rk_log.proofs.Behind.{start_is}
use Rattle.rk_log.proofs.Views.{entries_count}
use Rattle.rk_log.proofs.log.MasterLog.start_of.Goals as goal

pub index-requires : goal.index-requires
index-requires c =
    omega (arith, c.requires, c.self.inside.ends.ok.0, entries_count (parts_of c.self.inside) c.args.self.now c.self.invariant.consistent c.self.view_is)

pub returns : goal.returns
returns c =
    start_is (parts_of c.self.inside) c.args.self.now c.args.place c.index.result.now c.self.invariant.consistent c.self.view_is c.requires (omega arith) c.index.ensures
