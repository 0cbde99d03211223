-- Lanes that rest: what is found of each master and of the coordinator says that no turn leaves anything.
use Rattle.std.proofs.Common.{◌≡◌, ◌<◌, ◌+◌, ℕ, Bool, true, false, not, cond, [], ◌∷◌, List, filter, length, All, Option, None, Some, refl, sym, ap, subst, ◌∙◌, arith}
use Rattle.std.specs.Prelude.{is_some, unwrap_or}
use Rattle.std.proofs.lemmas.Bool.{leb-false, leb-true}
use Rattle.std.proofs.lemmas.List.Elements.{All-cons, All-nil}
use Rattle.rk_types.specs.NumberMap.{NumberMap, numbers}
use Rattle.rk_types.specs.declared.node.Node.{Node}
use Rattle.rk_types.specs.declared.node.Node.TheVariants as nodes
use Rattle.rk_outside.specs.Segments.{Segments}
use Rattle.rk_world.specs.Backup.{Gave}
use Rattle.rk_world.specs.CoordinatorStep.{coordinator_turn}
use Rattle.rk_world.specs.Master.{Master, new_master}
use Rattle.rk_world.specs.Premises.{IsMaster}
use Rattle.rk_world.specs.Refusals.{worn}
use Rattle.rk_world.specs.Step.{with_sends}
use Rattle.rk_world.specs.World.{has_crashed}
use Rattle.rk_world.specs.declared.event.Event.TheVariants as events
use Rattle.rk_lane.specs.Made.{IsMade, IsReady}
use Rattle.rk_lane.specs.Parts.{IsKept, masters_from, world_of}
use Rattle.rk_lane.specs.Resting.{IsIdle, IsResting, SendsNothing}
use Rattle.rk_lane.specs.declared.parts.Parts.{Parts}
use Rattle.rk_lane.proofs.Idle.{rests_made}
use Rattle.rk_lane.proofs.MasterWork.{StandsAt, stands_at}
use Rattle.rk_lane.proofs.Quiet.{masters_counted, quiet_seen, stays_made}
use Rattle.rk_lane.proofs.Refusing.{refused_fresh}

-- what holds of the first masters and of the next one holds of one more
pub one_more : (P : ℕ → Type 0) (count : ℕ) → ((master : ℕ) → IsMaster count master → P master) → P (count + 1)
    → (master : ℕ) → IsMaster (count + 1) master → P master
one_more P count before here master there = grind (arith, leb-true, leb-false)

-- what is none
pub none_is : (it : Option ℕ) → is_some it ≡ false → it ≡ None
none_is None none = refl
none_is (Some number) none = absurd (cc none)

-- a turn of which nothing comes is an idle one
idle_by : (parts : Parts) (node : Node) (stored : NumberMap Segments) → IsReady parts (events.Turn node) → IsMade parts (events.Turn node) (Gave None) parts quiet_seen
    → IsIdle (world_of parts stored) node
idle_by parts node stored ready made = grind (arith, refused_fresh)

-- masters under numbers from this one on, each of which has a property unless it has crashed: so all that are left without those have it
live_each : (P : ℕ → Type 0) (crashed : ℕ → Bool) (first : ℕ) (masters : List (Option Master)) → ((place : ℕ) → place < length masters → crashed (first + place) ≡ false → P (first + place))
    → All P (numbers (filter (λ entry. not (crashed entry.0)) (masters_from first masters)))
live_each P crashed first [] each = All-nil P
live_each P crashed first (master ∷ others) each =
    by (crashed first) refl
    (live_each P crashed (first + 1) others
    (λ place within lives.
    let next : first + 1 + place ≡ first + (place + 1) = omega arith in
    subst P (sym next) (each (place + 1) (omega (arith, within)) (ap crashed (sym next) ∙ lives))))
  where
    later : NumberMap Master
    later = filter (λ entry. not (crashed entry.0)) (masters_from (first + 1) others)

    by : (is : Bool) → crashed first ≡ is → All P (numbers later) → All P (numbers (cond (not is) ((first, unwrap_or master (new_master first [])) ∷ later) later))
    by true is rest = rest
    by false is rest = let here : first + 0 ≡ first = omega arith in All-cons P first (numbers later) (subst P here (each 0 (omega arith) (ap crashed here ∙ is))) rest

-- a lane rests if it is not worn, its coordinator sends nothing, and each of its masters has crashed or sends nothing
pub rests_by : (parts : Parts) → IsKept parts → worn (world_of parts []) ≡ None → coordinator_turn parts.coordinator ≡ []
    → ((master : ℕ) → IsMaster (length parts.masters.items) master → has_crashed (world_of parts []) master ≡ false → SendsNothing parts.masters.items master)
    → (stored : NumberMap Segments) → IsResting (world_of parts stored)
rests_by parts kept fresh silent each stored = record {
  coordinator =
      let ready : IsReady parts (events.Turn nodes.Coordinator) = record { kept = kept; may = record { may = tt; calm = tt }; fresh = fresh } in
      idle_by parts nodes.Coordinator stored ready
      (stays_made parts (events.Turn nodes.Coordinator) quiet_seen ready refl (λ other. ap (with_sends (world_of parts other)) silent) refl);
  masters = live_each (λ master. IsIdle (world_of parts stored) (nodes.Master master)) (has_crashed (world_of parts [])) 1 parts.masters.items
      (λ place within lives. idle (1 + place) (record { first = omega arith; last = omega (arith, within) }) lives);
}
  where
    idle : (master : ℕ) → IsMaster (length parts.masters.items) master → has_crashed (world_of parts []) master ≡ false → IsIdle (world_of parts stored) (nodes.Master master)
    idle master there lives =
        let ready : IsReady parts (events.Turn (nodes.Master master)) = record {
          kept = kept;
          may = record { may = subst (λ (n : ℕ). IsMaster n master) (sym (masters_counted parts kept)) there; calm = tt };
          fresh = fresh;
        } in
        let stands : StandsAt parts.masters.items master = stands_at parts.masters.items master kept.present there in
        idle_by parts (nodes.Master master) stored ready
        (rests_made parts master stands.it quiet_seen ready lives there stands.at (each master there lives stands.it stands.at) refl)
