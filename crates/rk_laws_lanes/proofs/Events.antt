-- A new lane is good, and a good lane stays good at each event.
use Rattle.std.proofs.Common.{◌≡◌, ℕ, ◌≤◌, None}
use Rattle.rk_inv_base.proofs.Words.{MOST_BACKUPS, Called, MOST_MASTERS, MayHappen, refusal, happened, World, new_world, Event}
use Rattle.rk_world.specs.Premises.{MayCome}
use Rattle.rk_world.specs.Replicas.{IsTold}
use Rattle.rk_world.specs.Runs.{IsCalmEvent}
use Rattle.rk_inv_wellformed.proofs.lanes.New.{new_has_room, new_is_well_formed}
use Rattle.rk_inv_base.proofs.views.Empty.{empty_is_sound}
use Rattle.rk_runs.proofs.Below.{kept_new}
use Rattle.rk_runs.proofs.Below.{all_new}
use Rattle.rk_runs.proofs.Below.{sealed_new, tell_new}
use Rattle.rk_runs.proofs.history.Lanes.{event_good}
use Rattle.rk_runs.proofs.history.Runs.{events_keep}
use Rattle.rk_laws_lanes.specs.GoodLane.{IsGoodLane}
use Rattle.rk_laws_lanes.proofs.OfRuns.{by_itself, in_runs}

pub good_new : (masters backups number : ℕ) → masters ≤ MOST_MASTERS → 1 ≤ backups → backups ≤ MOST_BACKUPS → IsGoodLane masters number (new_world number masters backups)
good_new masters backups number few backed few_backups =
    search (empty_is_sound, new_is_well_formed, new_has_room, kept_new, tell_new, sealed_new, all_new)

-- an event that may happen in a good lane, and is not refused
pub good_event : (masters number : ℕ) (w : World) (event : Event) (called : Called) → IsGoodLane masters number w → MayHappen w event
    → MayCome called → IsTold w event called → IsCalmEvent w event → refusal w event ≡ None
    → IsGoodLane masters number (happened w event called).world
good_event masters number w event called good may come told calm none =
    by_itself (event_good (in_runs good) events_keep event called may come told calm none)
