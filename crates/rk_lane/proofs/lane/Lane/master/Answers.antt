use Rattle.rk_lane.proofs.Words.{◌≡◌, ◌-◌, [], Some, IfSome, subst, sym, ap, ◌∙◌, get_or_from_slice_get, Master, IsMaster, master_at}
use Rattle.rk_lane.proofs.Words.{LaneState, world_with, lane_of, running_of}
use Rattle.rk_lane.proofs.Lanes.{unless_spent}
use Rattle.rk_lane.proofs.MasterWork.{StandsAt, master_is, stands_at}
use Rattle.rk_lane.proofs.lane.Lane.master.Goals as goal

pub returns : goal.returns
returns g c =
    let there = subst (λ (lane : LaneState g.row.R.Denot). IsMaster lane.masters c.args.number) (sym c.self.view_is) (record { first = c.requires.first; last = c.requires.last }) in
    subst (λ (lane : LaneState g.row.R.Denot). IfSome lane.running (λ running. c.index.result.now ≡ Some (master_at (world_with lane running []) c.args.number))) c.self.view_is
    (unless_spent (λ running. c.index.result.now ≡ Some (master_at (world_with (lane_of c.self.inside) running []) c.args.number)) c.self.inside.spent (running_of c.self.inside.parts)
    (λ living.
    let parts = c.self.inside.parts in
    let stands : StandsAt parts.masters.items c.args.number = stands_at parts.masters.items c.args.number (c.self.invariant.kept living).present there in
    c.index.ensures
    ∙ get_or_from_slice_get parts.masters.items (c.args.number - 1) (Some stands.it) c.index.result.now stands.at
    ∙ ap (λ (it : Master). Some it) (sym (master_is parts [] c.args.number stands.it there stands.at))))
