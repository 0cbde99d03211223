-- What the events with which a drive begins make of a lane.
use Rattle.std.proofs.Common.{[], ◌∷◌, ◌++◌, ◌≡◌, ℕ, ◌+◌, ◌==◌, ◌||◌, zero, suc, Bool, false, cond, eqb, List, arith, map, Option, Some, None, Ok, Err, refl, ap, subst, ◌∙◌, ⊎_elim, is_some}
use Rattle.std.specs.Prelude.{IfSome}
use Rattle.std.specs.List.{range_with_len}
use Rattle.std.proofs.lemmas.List.{map-append}
use Rattle.std.proofs.lemmas.List.Folds.{list_any-append}
use Rattle.std.proofs.lemmas.Bool.{cases_eq, cond-false, cond-true, eq-eqb, ne_eqb}
use Rattle.rk_types.specs.NumberMap.{get}
use Rattle.rk_types.proofs.NumberMaps.{get_insert}
use Rattle.rk_outside.specs.Segments.{Segments}
use Rattle.rk_world.specs.Backup.{Called}
use Rattle.rk_world.specs.Client.{new_session}
use Rattle.rk_world.specs.Ledger.{Ledger, asked_by, is_added, with_client}
use Rattle.rk_world.specs.Refusals.{comes_anyway}
use Rattle.rk_world.specs.Step.{happened}
use Rattle.rk_world.specs.World.{World}
use Rattle.rk_world.specs.declared.error.StepError.{StepError}
use Rattle.rk_world.specs.declared.error.StepError.TheVariants as errors
use Rattle.rk_world.specs.declared.event.Event.{Event}
use Rattle.rk_world.specs.declared.event.Event.TheVariants as events
use Rattle.rk_world.specs.declared.event.Seen.{Seen}
use Rattle.rk_lane.specs.Events.{IsStepOf}
use Rattle.rk_lane.specs.LaneState.{IsSameLane, LaneState, Running, world_with}
use Rattle.rk_shared_lanes.specs.Kept.{HasClients}
use Rattle.rk_shared_lanes.specs.Together.{IsOfRoster, IsUnasked}
use Rattle.rk_shared_lanes.proofs.Stepping.{taken_here}
use Rattle.rk_drive.specs.Beginning.{AddsClients, Begins, IsAskedAlike, IsFresh, KeepsUnasked}

-- ---- a client is added

looked_up : (ledger : Ledger) (client other : ℕ) → get (with_client ledger client).clients other ≡ cond (eqb other client) (Some None) (get ledger.clients other)
looked_up ledger client other = get_insert ledger.clients client None other

none_found : {X : Type 0} (found : Option X) → is_some found ≡ false → found ≡ None
none_found None is = refl
none_found (Some x) is = absurd (cc is)

-- a new client asked nothing, and all others what they asked
still_asked : (ledger : Ledger) (client other : ℕ) → is_added ledger client ≡ false → asked_by (with_client ledger client) other ≡ asked_by ledger other
still_asked ledger client other new = grind (arith, none_found, looked_up, cond-true, eqb, eq-eqb, cond-false, ne_eqb, cases_eq)

added_now : (ledger : Ledger) (client other : ℕ) → is_added (with_client ledger client) other ≡ (client == other || is_added ledger other)
added_now ledger client other = grind (arith, looked_up, cond-true, eqb, eq-eqb, cond-false, ne_eqb, cases_eq)

-- ---- what an event makes

keeps_asked : (w : World) (event : Event) (called : Called) → KeepsUnasked event w.ledger (happened w event called).world.ledger
keeps_asked w event called = grind (arith, still_asked)

adds_clients : (w : World) (event : Event) (called : Called) → AddsClients event w.ledger (happened w event called).world.ledger
adds_clients w event called = grind (arith, added_now, eq-eqb, ne_eqb, cases_eq)

-- ---- what a lane in code takes

begins_never : (event : Event) (Holds : Type 0) → (comes_anyway event ≡ false → ⊥) → Begins event Holds
begins_never event Holds never = grind arith

module _ {R : Type 0} (segments : R → Option Segments) (faults : R → ℕ) (event : Event) (old new : LaneState R) (same : IsSameLane old new) (seen : Seen) where
  pub took : (running : Option Running) → IfSome running (λ _. IsStepOf segments faults event old new seen)
      → (running ≡ None → comes_anyway event ≡ false → Ok seen ≡ Err errors.NoMemory) → KeepsUnasked event old.ledger new.ledger
  took None ok never = begins_never event (IsAskedAlike old.ledger new.ledger) (λ plain. cc (never refl plain))
  took (Some running) ok never =
      subst (λ (w : World). KeepsUnasked event old.ledger w.ledger) (taken_here segments faults old new event same seen ok).is
      (keeps_asked (world_with old ok.before []) event ok.called)

  pub took_clients : (running : Option Running) → IfSome running (λ _. IsStepOf segments faults event old new seen)
      → (running ≡ None → comes_anyway event ≡ false → Ok seen ≡ Err errors.NoMemory) → AddsClients event old.ledger new.ledger
  took_clients None ok never = grind (arith, begins_never)
  took_clients (Some running) ok never =
      subst (λ (w : World). AddsClients event old.ledger w.ledger) (taken_here segments faults old new event same seen ok).is
      (adds_clients (world_with old ok.before []) event ok.called)

-- ---- from event to event

pub still_unasked : {R : Type 0} (old new : LaneState R) → IsAskedAlike old.ledger new.ledger → IsUnasked old → IsUnasked new
still_unasked old new alike unasked =
    record { asked = alike.asked ∙ unasked.asked; journal = alike.journal ∙ unasked.journal; clients = λ client. alike.last client ∙ unasked.clients client }

-- a lane in which nothing has happened has no client, and nobody asked it anything
pub fresh_is : {R : Type 0} (masters backups : ℕ) (lane : LaneState R) → IsFresh masters backups lane → IsUnasked lane × HasClients [] lane.ledger
fresh_is masters backups lane fresh = grind (arith, fresh.ledger_is)

range_suc : (from count : ℕ) → range_with_len from (suc count) ≡ range_with_len from count ++ (from + count) ∷ []
range_suc from zero = ap (λ (n : ℕ). n ∷ []) (omega arith)
range_suc from (suc count) = grind (arith, (range_suc (from + 1) count))

range_more : (from count : ℕ) → range_with_len from (count + 1) ≡ range_with_len from count ++ (from + count) ∷ []
range_more from count = let more : count + 1 ≡ suc count = omega arith in ap (range_with_len from) more ∙ range_suc from count

-- a session more
pub one_more_session : (count : ℕ) → map new_session (range_with_len 1 (count + 1)) ≡ map new_session (range_with_len 1 count) ++ new_session (count + 1) ∷ []
one_more_session count = grind (arith, range_more, map-append)

swapped : (a b : Bool) → (a || b) ≡ (b || (a || false))
swapped a b = grind arith

-- a client more
pub one_more_client : (before after : Ledger) (count : ℕ) → ((client : ℕ) → is_added after client ≡ (count + 1 == client || is_added before client))
    → HasClients (range_with_len 1 count) before → HasClients (range_with_len 1 (count + 1)) after
one_more_client before after count adds has = grind (arith, swapped, list_any-append, range_more)

-- so many clients are of a lane that has what it had but for them
pub of_roster : {R : Type 0} (masters backups : ℕ) (clients : List ℕ) (old new : LaneState R) → IsFresh masters backups old → IsSameLane old new → HasClients clients new.ledger
    → IsOfRoster masters backups clients new
of_roster masters backups clients old new fresh same has =
    record { masters_are = same.masters ∙ fresh.masters_are; backups_are = same.backups ∙ fresh.backups_are; clients_are = has }

-- clients stay if an event adds none
pub same_roster : (clients : List ℕ) (before after : Ledger) → ((client : ℕ) → is_added after client ≡ (false || is_added before client)) → HasClients clients before → HasClients clients after
same_roster clients before after adds has = λ client. adds client ∙ has client
