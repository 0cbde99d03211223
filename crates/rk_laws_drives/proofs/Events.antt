-- A ready cluster stays ready at an event of a lane.
use Rattle.std.proofs.Common.{◌≡◌, ℕ, ◌<◌, Option, Some, None, length, refl, sym, subst, ⊎_elim, get_or-set_other, get_or-set_same, length-set, arith}
use Rattle.std.proofs.lemmas.Bool.{cases_eq}
use Rattle.std.proofs.lemmas.List.Elements.{All-set}
use Rattle.std.proofs.lemmas.List.Sums.{sum_by-set}
use Rattle.rk_world.specs.Backup.{Called}
use Rattle.rk_world.specs.Cluster.{Cluster, cluster_stepped, lane_at, with_lane}
use Rattle.rk_world.specs.Premises.{MayCome, MayHappen}
use Rattle.rk_world.specs.Refusals.{refusal}
use Rattle.rk_world.specs.Replicas.{IsTold}
use Rattle.rk_world.specs.Runs.{IsCalmEvent}
use Rattle.rk_world.specs.Step.{happened, stepped_by}
use Rattle.rk_world.specs.World.{World, new_world}
use Rattle.rk_world.specs.declared.error.StepError.{StepError}
use Rattle.rk_world.specs.declared.event.Event.{Event}
use Rattle.rk_laws_lanes.specs.GoodLane.{IsGoodLane}
use Rattle.rk_laws_lanes.proofs.Events.{good_event}
use Rattle.rk_laws_lanes.proofs.Ledgers.{same_counts}
use Rattle.rk_laws_lanes.specs.gathered.Gathered.{AreCounted}
use Rattle.rk_laws_lanes.specs.gathered.OpenCalls.{HasCountedCalls}
use Rattle.rk_laws_lanes.proofs.gathered.Counting.{event_counted}
use Rattle.rk_laws_drives.specs.Ready.{AreReady, StaysReady}

-- a lane becomes another good lane that counted its calls, and was asked no other
module _ (masters : ℕ) (cluster : Cluster) (ready : AreReady masters cluster) (lane : ℕ) (inside : lane < length cluster.lanes) (new : World) where
  lanes_there : IsGoodLane masters lane new → (q : ℕ) → q < length (with_lane cluster lane new).lanes
      → IsGoodLane masters q (lane_at (with_lane cluster lane new) q)
  lanes_there good q within =
      ⊎_elim
      (λ (is : q ≡ lane).
      let Good : ℕ → Type 0 = λ number. IsGoodLane masters number (lane_at (with_lane cluster lane new) number) in
      subst Good (sym is) (subst (IsGoodLane masters lane) (sym (get_or-set_same cluster.lanes lane new (new_world lane 0 0) inside)) good))
      (λ (apart : q ≡ lane → ⊥).
      subst (IsGoodLane masters q) (sym (get_or-set_other cluster.lanes lane q new (new_world q 0 0) apart))
      (ready.lanes q (let long = length-set cluster.lanes lane new in omega (arith, within, long)))) (cases_eq q lane)

  counted_there : HasCountedCalls new.ledger → new.ledger.asked ≡ (lane_at cluster lane).ledger.asked → AreCounted (with_lane cluster lane new)
  counted_there counted asked =
      let moved = sum_by-set (λ (w : World). w.ledger.asked) cluster.lanes lane new (new_world lane 0 0) inside in
      let calls = ready.counted.calls in
      record {
        lanes = All-set (λ (w : World). HasCountedCalls w.ledger) cluster.lanes lane new counted ready.counted.lanes;
        calls = omega (arith, moved, asked, calls);
      }

  ready_there : IsGoodLane masters lane new → HasCountedCalls new.ledger → new.ledger.asked ≡ (lane_at cluster lane).ledger.asked
      → AreReady masters (with_lane cluster lane new)
  ready_there good counted asked = record {
    lanes = lanes_there good;
    order = ready.order;
    ended = ready.ended;
    counted = counted_there counted asked;
  }

module _ (masters : ℕ) (cluster : Cluster) (ready : AreReady masters cluster) (lane : ℕ) (inside : lane < length cluster.lanes) (event : Event) (called : Called) (may : MayHappen (lane_at cluster lane) event) (come : MayCome called) (told : IsTold (lane_at cluster lane) event called) (calm : IsCalmEvent (lane_at cluster lane) event) where
  abbrev w : World
  w = lane_at cluster lane

  happens : refusal w event ≡ None → AreReady masters (with_lane cluster lane (happened w event called).world)
  happens none =
      ready_there masters cluster ready lane inside (happened w event called).world
      (good_event masters lane w event called (ready.lanes lane inside) may come told calm none)
      (event_counted w event called (ready.counted.lanes lane (new_world lane 0 0) inside))
      (same_counts w event called).asked

  pub event_keeps : (refused : Option StepError) → refusal w event ≡ refused
      → StaysReady masters cluster (cluster_stepped cluster lane (stepped_by w event called refused))
  event_keeps None none = record { ready = happens none; sessions = refl }
  event_keeps (Some error) is = record { ready = ready; sessions = refl }
