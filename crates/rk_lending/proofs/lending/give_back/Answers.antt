-- Each lane has as many, so they come in the order in which they were lent.
use Rattle.std.proofs.Common.{◌∙◌, ℕ, All, List, length, map, ap, subst, arith, length-append}
use Rattle.rk_lane.specs.LaneState.{LaneState, replicas_of}
use Rattle.rk_cluster.specs.Masters.{HasBackups}
use Rattle.rk_cluster.proofs.Gathers.{gathered_of, hands_many}
use Rattle.rk_lending.proofs.lending.give_back.Goals as goal

pub put_behind-requires : goal.put_behind-requires
put_behind-requires g c =
    let same = c.hands_of-hands.ensures ∙ ap (λ (lanes : List (LaneState g.row.R.Denot)). map (λ (lane : LaneState g.row.R.Denot). replicas_of lane.backups) lanes) c.into_lanes.ensures in
    let many = hands_many c.args.kept.backups c.hands_of-hands.result.items c.args.cluster.lanes same
    (subst (λ (backups : ℕ). All (HasBackups backups) c.args.cluster.lanes) (c.backups-backups.ensures.count ∙ c.requires.backups) c.backups-backups.ensures.each) in
    omega (arith, c.gather.ensures.count c.args.kept.backups c.requires.room.few many, c.gather.ensures.room, c.requires.room.all, c.requires.room.room_is.room)

pub returns : goal.returns
returns g c =
    let same = c.hands_of-hands.ensures ∙ ap (λ (lanes : List (LaneState g.row.R.Denot)). map (λ (lane : LaneState g.row.R.Denot). replicas_of lane.backups) lanes) c.into_lanes.ensures in
    let many = hands_many c.args.kept.backups c.hands_of-hands.result.items c.args.cluster.lanes same
    (subst (λ (backups : ℕ). All (HasBackups backups) c.args.cluster.lanes) (c.backups-backups.ensures.count ∙ c.requires.backups) c.backups-backups.ensures.each) in
    record {
      its = c.gather.new.things.items;
      whole = c.put_behind.ensures;
      eight = c.masters-masters.ensures.eight;
      count =
          omega (
            arith,
            c.gather.ensures.count c.args.kept.backups c.requires.room.few many,
            c.requires.room.all,
            ap (λ list. length list) c.put_behind.ensures,
            length-append c.gather.new.things.items c.args.kept.others.items,
          );
      each =
          gathered_of c.hands_of-hands.result.items c.args.cluster.lanes c.gather.new.things.items same
          (c.gather.ensures.dealt c.args.kept.backups c.requires.room.few many);
    }
