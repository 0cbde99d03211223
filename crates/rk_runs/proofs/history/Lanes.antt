-- A good lane stays good at an event, if events keep lanes sound, at a client's turn and at an answer.
use Rattle.std.proofs.Common.{ℕ, Result, Ok, IfSome, None, Option, Some, ap, refl, subst, ◌∙◌, ◌≡◌}
use Rattle.rk_inv_base.proofs.Words.{All-nil, Base, Body, Call, Called, Event, HasRoom, IsAfterStart, IsSound, IsWellFormed, MayAct}
use Rattle.rk_inv_base.proofs.Words.{MayHappen, Session, StepError, Visited, World, accept, ask, ask_by, ask_refusal, asking, happened}
use Rattle.rk_inv_base.proofs.Words.{no_base, refusal, taking, world_visited}
use Rattle.rk_inv_wellformed.proofs.lanes.Asks.{IsFormedVisit, formed_accept, formed_ask}
use Rattle.rk_inv_wellformed.proofs.lanes.Whole.{formed_event}
use Rattle.rk_inv_wellformed.proofs.room.Rooms.{room_accept, room_asking}
use Rattle.rk_inv_lanes.proofs.Below.{sound_accepts, sound_asks}
use Rattle.rk_inv_lanes.proofs.lanes.Visits.{asking_covered}
use Rattle.rk_world.specs.Premises.{MayCome}
use Rattle.rk_world.specs.Replicas.{IsTold}
use Rattle.rk_world.specs.Runs.{IsCalmEvent}
use Rattle.rk_runs.proofs.history.Clusters.{IsGoodLane}
use Rattle.rk_runs.proofs.history.GoesOn.{event_goes_on}

-- what an event is to keep of a lane
abbrev pub EventsKeep : (World → Type 0) → Type 0
EventsKeep Steady =
    (w : World) (event : Event) (called : Called) → IsSound w → IsWellFormed w → HasRoom w → Steady w → MayHappen w event → MayCome called
    → IsTold w event called → IsCalmEvent w event → refusal w event ≡ None
    → HasRoom (happened w event called).world × IsSound (happened w event called).world × Steady (happened w event called).world

-- and what clients are to keep of it
pub record ClientsKeep (Steady : World → Type 0) : Type 0 where
  pub asks : (w : World) (session : Session) → Steady w → Steady (world_visited w (ask w session))
  pub accepts : (w : World) (number : ℕ) (session : Session) → Steady w → Steady (world_visited w (accept w number session))

-- a lane's number, its start and its masters
record IsSameLane (before after : World) : Type 0 where
  lane_is : after.lane ≡ before.lane
  base_is : after.base ≡ before.base
  masters_are : after.coordinator.masters ≡ before.coordinator.masters

-- each call comes after the start of a history that starts from nothing
after_start : (base : Base) → base ≡ no_base → (out : Option Call) → IfSome out (IsAfterStart base)
after_start base is None = tt
after_start base is (Some call) = rw is (All-nil _)

-- a visit that leaves a good lane, and a session that may act there
pub record IsGoodVisit (Steady : World → Type 0) (masters lane : ℕ) (visited : Visited) : Type 0 where
  pub world : IsGoodLane Steady masters lane visited.world
  pub acts : MayAct masters visited.session

module _ {Steady : World → Type 0} {masters lane : ℕ} {w : World} (good : IsGoodLane Steady masters lane w) where
  pub event_good : EventsKeep Steady → (event : Event) (called : Called) → MayHappen w event → MayCome called → IsTold w event called
      → IsCalmEvent w event → refusal w event ≡ None → IsGoodLane Steady masters lane (happened w event called).world
  event_good keep event called may come told calm none =
      let kept = keep w event called good.sound good.formed good.room good.steady may come told calm none in
      let on = event_goes_on w event called in
      record {
        sound = kept.1;
        formed = formed_event w event called may come calm none good.room kept.0 good.formed;
        room = kept.0;
        steady = kept.2;
        lane_is = on.lane_is ∙ good.lane_is;
        base_is = on.base_is ∙ good.base_is;
        masters_are = on.masters_are ∙ good.masters_are;
      }

  module _ (clients : ClientsKeep Steady) (session : Session) (may : MayAct masters session) where
    acts : MayAct w.coordinator.masters session
    acts = rw good.masters_are may

    -- what is so of the lane once a visit is made, as it is defined, is so after this one
    made_so : (P : World → Type 0) {made : Result Visited StepError} {visited : Visited} → made ≡ Ok visited
        → P (world_visited w made) → P visited.world
    made_so P is holds = subst (λ (result : Result Visited StepError). P (world_visited w result)) is holds

    pub asking_good : (call : Call) → session.outstanding ≡ Some call → ask_refusal w session ≡ None
        → IsGoodVisit Steady masters lane (asking w session (Some call))
    asking_good call out none =
        let visited : Visited = asking w session (Some call) in
        let is : ask w session ≡ Ok visited = ap (ask_by w session) none ∙ ap (λ (o : Option Call). Ok (asking w session o)) out in
        let room : HasRoom visited.world =
        subst (λ (o : Option Call). HasRoom (asking w session o).world) out (room_asking w session none good.formed good.room) in
        let start = after_start w.base good.base_is session.outstanding in
        let formed : IsFormedVisit w visited = formed_ask w session visited is acts start room good.formed in
        let same : IsSameLane w visited.world =
        subst (λ (o : Option Call). IsSameLane w (asking w session o).world) out
        (asking_covered (λ visited. IsSameLane w visited.world) w session (record { lane_is = refl; base_is = refl; masters_are = refl })
        (λ call turned out fits turn. record { lane_is = refl; base_is = refl; masters_are = refl })) in
        record {
          world = record {
            sound = made_so IsSound is (sound_asks w session good.sound acts start);
            formed = formed.world;
            room = room;
            steady = made_so Steady is (clients.asks w session good.steady);
            lane_is = same.lane_is ∙ good.lane_is;
            base_is = same.base_is ∙ good.base_is;
            masters_are = same.masters_are ∙ good.masters_are;
          };
          acts = rw (← good.masters_are) formed.session;
        }

    pub taking_good : (number : ℕ) (body : Body) → accept w number session ≡ Ok (taking w session body)
        → IsGoodVisit Steady masters lane (taking w session body)
    taking_good number body is =
        let formed : IsFormedVisit w (taking w session body) = formed_accept w number session (taking w session body) is acts good.formed in
        record {
          world = record {
            sound = made_so IsSound is (sound_accepts w number session good.sound acts);
            formed = formed.world;
            room = room_accept w number session (taking w session body) is good.room;
            steady = made_so Steady is (clients.accepts w number session good.steady);
            lane_is = good.lane_is;
            base_is = good.base_is;
            masters_are = good.masters_are;
          };
          acts = rw (← good.masters_are) formed.session;
        }
