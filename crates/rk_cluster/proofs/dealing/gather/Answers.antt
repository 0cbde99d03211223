use Rattle.std.proofs.Common.{◌%◌, arith}
use Rattle.rk_cluster.proofs.Worlds.{there_read}
use Rattle.rk_cluster.proofs.Gathers.{gathering_all, gathering_count, gathering_one}
use Rattle.rk_cluster.proofs.dealing.gather.Goals as goal

pub loop-place-preserved : goal.loop-place-preserved
loop-place-preserved g c =
    gathering_one c.args.hands.now.items c.loop-place.hands.items c.loop-place.things.items c.loop-place.place c.index_mut.result.now c.requires c.loop-place.invariant
    (there_read c.loop-place.hands.items (c.loop-place.place % 8) c.index_mut.result.now (omega (arith, c.loop-place.invariant.eight)) c.index_mut.ensures.value)
    c.pass_first.new.hand c.pass_first.new.things.items c.in_ok-pass_first.ensures.left c.in_ok-pass_first.ensures.passed

pub returns-clause-dealt : goal.returns-clause-dealt
returns-clause-dealt g c =
    gathering_all c.args.hands.now.items c.loop-place.hands.items c.loop-place.things.items c.loop-place.place c.args.most c.requires
    (omega (arith, c.loop-place-test.false)) c.loop-place.invariant

pub returns-clause-count : goal.returns-clause-count
returns-clause-count g c =
    gathering_count c.args.hands.now.items c.loop-place.hands.items c.loop-place.things.items c.loop-place.place c.args.most
    (omega (arith, c.loop-place-test.false)) c.loop-place.invariant
