use Rattle.std.proofs.Common.{arith}
use Rattle.rk_shared.proofs.Powers.{power_fits}
use Rattle.rk_shared_lanes.proofs.sharing.power_of_nine.Goals as goal

pub pow-requires : goal.pow-requires
pow-requires c = let small = power_fits c.args.number c.requires in omega (arith, small)
