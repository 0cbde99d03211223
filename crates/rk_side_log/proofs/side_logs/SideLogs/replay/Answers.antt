use Rattle.rk_side_log.proofs.Words.{◌∙◌, ◌<◌, length, sym, ap, arith, unsealed_in}
use Rattle.rk_side_log.proofs.Sides.{count_set, made_same, replayed_set, unsealed_more}
use Rattle.rk_side_log.proofs.side_logs.SideLogs.replay.Goals as goal

pub overflow_add-self : goal.overflow_add-self
overflow_add-self g c = record { fits = omega (arith, c.replay_all-tally.ensures.small, c.self.invariant.bytes_are, ap unsealed_in c.self.view_is, c.requires.room) }

-- there is such a worker
within : (g : _) (c : goal.After-self-2-1 g) → c.args.worker < length c.make_room.new.sides
within g c = omega (arith, c.requires.worker, c.make_room.auto.sides)

pub invariant_of-self-2 : goal.invariant_of-self-2
invariant_of-self-2 g c = record {
  bytes_are =
      unsealed_more c.make_room.new.sides c.args.worker c.self.inside.bytes c.replay_all-tally.result.bytes c.index-self-worker.result c.replay_all-tally.new.side
      (within g c) (c.self.invariant.bytes_are ∙ ap unsealed_in (sym c.make_room.ensures.items)) c.replay_all-tally.ensures.bytes;
  none_sealed = c.make_room.ensures.none_sealed;
  room =
      omega (
        arith,
        made_same c.make_room.new.sides c.args.worker c.index-self-worker.result c.replay_all-tally.new.side (within g c) c.replay_all-tally.ensures.made,
        c.make_room.ensures.made,
      );
}

pub returns-clause-items : goal.returns-clause-items
returns-clause-items g c =
    replayed_set c.args.self.now c.make_room.new.sides c.args.worker c.index-self-worker.result c.replay_all-tally.new.side (g.T.RecordTable.items c.reserve.new.self)
    (g.T.RecordTable.items c.args.table.now) c.args.items.items (within g c) (c.make_room.ensures.items ∙ c.self.view_is) c.reserve.ensures.same c.replay_all-tally.ensures.items

pub returns-clause-count : goal.returns-clause-count
returns-clause-count g c =
    count_set c.args.self.now c.make_room.new.sides c.args.worker c.replay_all-tally.result.items c.index-self-worker.result c.replay_all-tally.new.side
    (within g c) (c.make_room.ensures.items ∙ c.self.view_is) c.replay_all-tally.ensures.count
