use Rattle.rk_side_log.proofs.Words.{length, ap, arith, side_replayed}
use Rattle.std.specs.Vec.Iter.{into_iter_items}
use Rattle.rk_side_log.proofs.Replaying.{goes_some, goes_none, next_room}
use Rattle.rk_side_log.proofs.replay.replay_all.Goals as goal

pub replay_one-requires-clause-room : goal.replay_one-requires-clause-room
replay_one-requires-clause-room g c =
    next_room (side_replayed (g.T.RecordTable.items c.args.table.now) c.args.side.now.items c.args.items.items) c.args.side.now (g.T.RecordTable.items c.loop-item.table)
    c.loop-item.side c.loop-item.tally c.in-Some.item (into_iter_items c.loop-item.item-iterator) (into_iter_items c.next.new.self) c.loop-item.invariant.0 c.in-Some.ensures.steps.0

pub loop-item-preserved-in-Some-replay_one : goal.loop-item-preserved-in-Some-replay_one
loop-item-preserved-in-Some-replay_one g c = (
  goes_some (side_replayed (g.T.RecordTable.items c.args.table.now) c.args.side.now.items c.args.items.items) c.args.side.now (g.T.RecordTable.items c.loop-item.table)
      (g.T.RecordTable.items c.replay_one.new.table) c.loop-item.side c.replay_one.new.side c.loop-item.tally c.in-Some.item (into_iter_items c.loop-item.item-iterator)
      (into_iter_items c.next.new.self) c.replay_one.result c.in-Some-replay_one.bytes c.loop-item.invariant.0 c.in-Some.ensures.steps.0
      c.replay_one.ensures.records c.replay_one.ensures.side c.replay_one.ensures.bytes c.in-Some-replay_one.is,
  omega (arith, c.replay_one.ensures.spare, ap length c.in-Some.ensures.steps.0, c.loop-item.invariant.1),
  omega (arith, c.replay_one.ensures.spelling, c.loop-item.invariant.2),
)

pub loop-item-preserved : goal.loop-item-preserved
loop-item-preserved g c = (
  goes_none (side_replayed (g.T.RecordTable.items c.args.table.now) c.args.side.now.items c.args.items.items) c.args.side.now (g.T.RecordTable.items c.loop-item.table)
      (g.T.RecordTable.items c.replay_one.new.table) c.loop-item.side c.replay_one.new.side c.loop-item.tally c.in-Some.item (into_iter_items c.loop-item.item-iterator)
      (into_iter_items c.next.new.self) c.replay_one.result c.loop-item.invariant.0 c.in-Some.ensures.steps.0
      c.replay_one.ensures.records c.replay_one.ensures.side c.replay_one.ensures.bytes c.in_default.not-Some,
  omega (arith, c.replay_one.ensures.spare, ap length c.in-Some.ensures.steps.0, c.loop-item.invariant.1),
  omega (arith, c.replay_one.ensures.spelling, c.loop-item.invariant.2),
)
