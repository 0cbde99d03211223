-- Each backup of a lane reports what it stores, and what targets have sealed is there: in a new lane, after each event, and after a
-- client's turn or answer.
use Rattle.std.proofs.Common.{◌≡◌, ◌≤◌, ◌&&◌, ℕ, true, [], length, Option, None, Some, refl, ap, arith, is_some, nat_le, unwrap_or}
use Rattle.rk_inv_base.proofs.Words.{cases_eq, nat_tests, All-nil, get_other, get_same, IsInOrder, get, get_or, Range, Segments, Called}
use Rattle.rk_inv_base.proofs.Words.{no_segments, accept, ask, Session, IsWellFormed, Master, new_master, tablet_at, with_tablet}
use Rattle.rk_inv_base.proofs.Words.{master_step, master_turn, range_below, range_from, AllTell, world_visited, has_parts, with_half}
use Rattle.rk_inv_base.proofs.Words.{with_halves, with_split, happened, with_added, World, master_at, new_world, with_master, Event}
use Rattle.rk_inv_tablets.proofs.Words.{master_other, master_same}
use Rattle.rk_transfer.specs.declared.role.Role.TheVariants as roles
use Rattle.rk_inv_base.proofs.views.Fresh.{each_fresh, found_within}
use Rattle.rk_inv_tablets.proofs.steady.Sealed.{IsSealedAt, SealsThere, either_seals, sealed_at, seals_there}
use Rattle.rk_inv_tablets.proofs.steady.Sealed.{seals_with_tablet, there_from_each}
use Rattle.rk_inv_tablets.proofs.steady.Steps.{step_there}
use Rattle.rk_inv_tablets.proofs.steady.Turns.{turn_seals}
use Rattle.rk_inv_tablets.proofs.steady.Walks.{IsKept, Part, accept_keeps, ask_keeps, event_keeps}
use Rattle.rk_inv_tablets.specs.steady.Steady.{AllSealedThere}

-- ---- what backups report

-- each of so many backups reports what it stores
abbrev Tell : Part
Tell masters count backups = (backup : ℕ) → (nat_le 1 backup && nat_le backup count) ≡ true → is_some (get backups backup) ≡ true

tell_kept : (w : World) → AllTell w → IsKept Tell w
tell_kept w tell = grind (arith, get_same, get_other, cases_eq)

at_least_one : (backup last : ℕ) → (nat_le 1 backup && nat_le backup last) ≡ true → 1 ≤ backup
at_least_one backup last there = grind (arith, nat_tests)

at_most_last : (backup last : ℕ) → (nat_le 1 backup && nat_le backup last) ≡ true → backup ≤ last
at_most_last backup last there = grind (arith, nat_tests)

pub tell_new : (lane masters backups : ℕ) → AllTell (new_world lane masters backups)
tell_new lane masters backups backup there =
    ap (λ (o : Option Segments). is_some o)
    (found_within (λ number. no_segments) 1 backups backup
    (at_least_one backup backups there) (omega (arith, at_most_last backup backups there)))

pub tell_event : (w : World) (event : Event) (called : Called) → AllTell w → AllTell (happened w event called).world
tell_event w event called tell = event_keeps Tell w (tell_kept w tell) event called

pub tell_asked : (w : World) (session : Session) → AllTell w → AllTell (world_visited w (ask w session))
tell_asked w session tell = ask_keeps Tell w tell session

pub tell_accepted : (w : World) (number : ℕ) (session : Session) → AllTell w → AllTell (world_visited w (accept w number session))
tell_accepted w number session tell = accept_keeps Tell w tell number session

-- ---- what is sealed

-- what the targets of each master have sealed is there
abbrev Sealed : Part
Sealed masters count backups = (master : ℕ) → IsSealedAt (get_or (new_master master []) masters master)

module _ (master : Master) (there : SealsThere master) where
  added_there : (tablet : ℕ) (range : Range) → SealsThere (with_added master tablet range)
  added_there tablet range =
      let count = length master.log.sides in
      (seals_with_tablet count master tablet
      (record (tablet_at master tablet) {
        handover = record { role = roles.Serving; term = 1; range = range; counter = 1 };
      })
      (refl, there) (sealed_at count master tablet (refl, there))).1

  split_there : (number at new term : ℕ) → SealsThere (with_split master number at new term)
  split_there number at new term =
      let count = length master.log.sides in
      let tablet = tablet_at master number in
      let half = with_half tablet (range_below tablet.handover.range at) term in
      let other = with_half tablet (range_from tablet.handover.range at) term in
      seals_there count (with_split master number at new term)
      (either_seals count (has_parts tablet.handover.range at) (with_halves master number tablet at new term) master
      (seals_with_tablet count (with_tablet master number half) new other
      (seals_with_tablet count master number half (refl, there) (sealed_at count master number (refl, there)))
      (sealed_at count master number (refl, there)))
      (refl, there))

module _ (w : World) (sealed : AllSealedThere w) where
  put_sealed : (number : ℕ) (master : Master) → SealsThere master → AllSealedThere (with_master w number master)
  put_sealed number master there q = grind (arith, master_same, master_other, cases_eq, sealed_at)

  -- the tablets of a master of a well formed lane are in order
  order_at : IsWellFormed w → (number : ℕ) → IsInOrder (master_at w number).tablets
  order_at formed number = go (get w.masters number) refl
    where
      go : (found : Option Master) → get w.masters number ≡ found → IsInOrder (unwrap_or found (new_master number [])).tablets
      go None is = tt
      go (Some master) is = (formed.masters number master is).tablets_order

  there_at : IsWellFormed w → (number : ℕ) → SealsThere (master_at w number)
  there_at formed number = there_from_each (master_at w number) (order_at formed number) (sealed number)

  sealed_kept : IsWellFormed w → IsKept Sealed w
  sealed_kept formed = record {
    now = sealed;
    steps = λ master message.
        put_sealed master (master_step (master_at w master) message).master
        (step_there (length (master_at w master).log.sides) (master_at w master) (refl, there_at formed master) message);
    turns = λ master.
        put_sealed master (master_turn (master_at w master)).master
        (seals_there (length (master_at w master).log.sides) (master_turn (master_at w master)).master
        (turn_seals (length (master_at w master).log.sides) (master_at w master) (refl, there_at formed master)));
    adds = λ master tablet range.
        put_sealed master (with_added (master_at w master) tablet range)
        (added_there (master_at w master) (there_at formed master) tablet range);
    splits = λ master tablet at new term.
        put_sealed master (with_split (master_at w master) tablet at new term)
        (split_there (master_at w master) (there_at formed master) tablet at new term);
    stores = λ number segments. sealed;
  }

pub sealed_new : (lane masters backups : ℕ) → AllSealedThere (new_world lane masters backups)
sealed_new lane masters backups master =
    let fresh = each_fresh lane masters backups master in
    rw fresh.is_new (λ tablet. All-nil _)

pub sealed_event : (w : World) (event : Event) (called : Called) → IsWellFormed w → AllSealedThere w → AllSealedThere (happened w event called).world
sealed_event w event called formed sealed = event_keeps Sealed w (sealed_kept w sealed formed) event called

pub sealed_asked : (w : World) (session : Session) → AllSealedThere w → AllSealedThere (world_visited w (ask w session))
sealed_asked w session sealed = ask_keeps Sealed w sealed session

pub sealed_accepted : (w : World) (number : ℕ) (session : Session) → AllSealedThere w → AllSealedThere (world_visited w (accept w number session))
sealed_accepted w number session sealed = accept_keeps Sealed w sealed number session
