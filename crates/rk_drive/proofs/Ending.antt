-- A drive whose lanes and sessions were gathered ends as they are concluded.
use Rattle.std.proofs.Common.{arith, ◌≡◌, ℕ, ◌*◌, List, Option, Some, sym, subst, take}
use Rattle.std.specs.Prelude.{drop}
use Rattle.std.proofs.lemmas.List.Elements.{All-take}
use Rattle.rk_types.specs.declared.hashing.TheConstants.{LANES}
use Rattle.rk_types.specs.declared.status.Status.{Status}
use Rattle.rk_types.specs.declared.status.Status.TheVariants as statuses
use Rattle.rk_outside.specs.Segments.{Segments}
use Rattle.rk_world.specs.Backup.{no_segments}
use Rattle.rk_world.specs.Client.{Session}
use Rattle.rk_world.specs.Cluster.{Cluster}
use Rattle.rk_lane.specs.LaneState.{LaneState}
use Rattle.rk_cluster.specs.Fresh.{AreEmpty}
use Rattle.rk_cluster.specs.State.{IsOf}
use Rattle.rk_cluster.specs.Steps.{state_of}
use Rattle.rk_conclude.specs.Concluded.{Concludes}
use Rattle.rk_conclude.specs.Results.{by_client}
use Rattle.rk_drive.specs.Driven.{AreDriven}
use Rattle.rk_drive.specs.Outcomes.{EndsDone, IsConcluded}
use Rattle.rk_drive.specs.declared.plan.Plan.{Plan}
use Rattle.rk_drive.specs.declared.start.TheConstants.{BACKUPS}
use Rattle.rk_drive.proofs.Done.{ends_done}
use Rattle.rk_drive.proofs.Starting.{driven, stands, start}

module _ {R : Type 0} (segments : R → Option Segments) (plan : Plan) (old new : Option (List ℕ)) (before after its others : List R) (lanes : List (LaneState R))
    (sessions : List Session) (status : Status) (its_are : its ≡ take (LANES * BACKUPS) before) (others_are : others ≡ drop (LANES * BACKUPS) before)
    (it : AreDriven segments (AreEmpty segments its) plan lanes sessions)
    (concludes : (cluster : Cluster) → IsOf segments (state_of lanes (by_client sessions)) cluster → Concludes segments cluster plan.history old new others after status) where
  pub concluded : AreEmpty segments before → IsConcluded segments plan old new before after status
  concluded empty =
      let told : AreEmpty segments its =
      subst (AreEmpty segments) (sym its_are) (All-take (λ (replica : R). segments replica ≡ Some no_segments) (LANES * BACKUPS) before empty) in
      let cluster = start segments (AreEmpty segments its) plan lanes sessions it told in
      record {
        start = cluster;
        driven = driven segments (AreEmpty segments its) plan lanes sessions it told;
        concludes = grind (arith, stands, plan.history);
      }

  pub done : AreEmpty segments before → status ≡ statuses.Done → EndsDone segments plan old new before after
  done empty is = ends_done segments plan old new before after (subst (IsConcluded segments plan old new before after) is (concluded empty))
