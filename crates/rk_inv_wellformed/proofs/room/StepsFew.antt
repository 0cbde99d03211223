-- How far one step may raise the numbers: a master that takes a message raises counters by one, and it, the coordinator and a backup send
-- few messages, serve few calls and report few ends.
use Rattle.std.proofs.Common.{◌≤◌, ◌<◌, ◌+◌, ◌^◌, ◌&&◌, ◌%◌, ℕ, All, List, length, length-append, Option, None, Some, arith, IfSome, inl}
use Rattle.std.proofs.Common.{[], ◌∷◌, fold}
use Rattle.rk_inv_wellformed.proofs.Words.{All-from_recursion, cond_both, Node, Phase, Opening, Row, overreach, Body, Rebuilt, Called}
use Rattle.rk_inv_wellformed.proofs.Words.{backup_step, Coordinator, coordinator_turn, IsFormedCoordinator, IsFormedMaster, IsTabletMap}
use Rattle.rk_inv_wellformed.proofs.Words.{MOST_BASE_CLIENTS, IsFormedHeld, Limits, Master, tablet_at, MOST_CLIENTS, Worked, row_duty}
use Rattle.rk_inv_wellformed.proofs.Words.{Precedes, Message, Served, Stored, Overreach, apply_entries, newly_held, stored_taken}
use Rattle.rk_inv_wellformed.proofs.Words.{with_known, IsLawfulToken, Pulled, items_of, pulled_taken, batch_taken, changed, is_receiving_at}
use Rattle.rk_inv_wellformed.proofs.Words.{is_token, replay, token_passed, end, IsMaster, IsFormedMessage, master_step, All-map, Held}
use Rattle.rk_inv_wellformed.proofs.Words.{NumberMap, with_side_segment, with_tablet, sealed_sides, Tablet, no_tablet, all_going_on}
use Rattle.rk_inv_wellformed.proofs.Words.{going_on_in, joining_by, pulled_all, sealing, counters_of}
use Rattle.rk_inv_wellformed.proofs.bytes.Sizes.{entries_few}
use Rattle.rk_inv_wellformed.proofs.coordinator.Coordinators.{IsTaken}
use Rattle.rk_inv_wellformed.proofs.lanes.More.{more_raised, raised}
use Rattle.rk_inv_wellformed.proofs.maps.{either_way, few_rising, once_few, one_of_each, all_before, All_insert, All_pairs}
use Rattle.rk_inv_wellformed.proofs.maps.{each_from_pairs, each_or, fold_keeps, fold_keeps_all}
use Rattle.rk_inv_wellformed.proofs.masters.Commits.{formed_newly_applied}
use Rattle.rk_inv_wellformed.proofs.masters.Turns.{told_is}
use Rattle.rk_inv_wellformed.proofs.masters.Sealing.{first_holds, formed_batch}
use Rattle.rk_inv_wellformed.proofs.masters.Work.{AreLimits, HasLogRoom, IsFormedWork, MOST_AT_ONCE, formed_changed}
use Rattle.rk_inv_wellformed.proofs.room.Rises.{ends_in}
use Rattle.rk_inv_wellformed.proofs.masters.Changes.{closing_is, going_on_in_is, joining_is}

-- no counter of a tablet is greater
abbrev pub CountsWithin : ℕ → NumberMap Tablet → Type 0
CountsWithin most tablets = All (λ entry. entry.1.handover.counter ≤ most) tablets

-- no counter of a master's tablets is greater
abbrev pub CountersWithin : ℕ → Master → Type 0
CountersWithin most master = All (λ counter. counter ≤ most) (counters_of master)

-- it is said of the tablets, and of their counters
pub counts_from_counters : (most : ℕ) (master : Master) → CountersWithin most master → CountsWithin most master.tablets
counts_from_counters most master each =
    all_before (λ counter. counter ≤ most) (λ entry. entry.1.handover.counter) master.tablets each

-- and the other way round
counters_from_counts : (most : ℕ) (master : Master) → CountsWithin most master.tablets → CountersWithin most master
counters_from_counts most master each =
    All-map (λ counter. counter ≤ most) (λ entry. entry.1.handover.counter) master.tablets each

-- those of a well formed master keep to the greatest number
pub formed_counters : {limits : Limits} {number : ℕ} {master : Master} → IsFormedMaster limits number master → CountersWithin limits.top master
formed_counters {limits} {master = master} formed = counters_from_counts limits.top master
    (All_pairs (λ id tablet. tablet.handover.counter ≤ limits.top) master.tablets formed.tablets_order (λ id tablet is. (formed.tablets id tablet is).counter.last))

-- a greater bound holds too
pub counters_weaker : (most more : ℕ) (master : Master) → most ≤ more → CountersWithin most master → CountersWithin more master
counters_weaker most more master up each =
    λ place other within. omega (arith, each place other within)

-- one of its tablets is so
pub counters_with_tablet : (most : ℕ) (master : Master) (id : ℕ) (tablet : Tablet) → CountersWithin most master
    → tablet.handover.counter ≤ most → CountersWithin most (with_tablet master id tablet)
counters_with_tablet most master id tablet each new = counters_from_counts most (with_tablet master id tablet)
    (All_insert (λ entry. entry.1.handover.counter ≤ most) master.tablets id tablet (counts_from_counters most master each) new)

-- the counter of the tablet under a number; that of a tablet that is not there is 1
pub counter_within : (most : ℕ) (master : Master) (id : ℕ) → 1 ≤ most → CountersWithin most master → (tablet_at master id).handover.counter ≤ most
counter_within most master id some each =
    each_or (λ number tablet. tablet.handover.counter ≤ most) no_tablet master.tablets id some
    (each_from_pairs (λ number tablet. tablet.handover.counter ≤ most) master.tablets (counts_from_counters most master each))

-- what goes on keeps the counters
pub going_on_counters : (most : ℕ) (tablets : NumberMap Tablet) (master : Master) → CountersWithin most master → CountsWithin most tablets
    → CountersWithin most (all_going_on master tablets)
going_on_counters most tablets master each within =
    fold_keeps_all (CountersWithin most) (λ entry. entry.1.handover.counter ≤ most)
    (λ now entry. going_on_in now entry.0 entry.1 entry.1.handover.role) tablets master each within
    (λ now entry here few. going_on_in_is (CountersWithin most) now entry.0 entry.1 here entry.1.handover.role
    (λ r is. counters_with_tablet most now entry.0 _ here few) (λ joins r is. counters_with_tablet most now entry.0 _ here few))

-- and so does a target that has pulled all
pub pulled_all_counters : (most : ℕ) (master : Master) (id : ℕ) → 1 ≤ most → CountersWithin most master → CountersWithin most (pulled_all master id)
pulled_all_counters most master id some each = joins (tablet_at sealed id).pulling.sealed
  where
    sides : List (List Held)
    sides = sealed_sides (tablet_at master id).pulling.sides

    sealed : Master
    sealed = sealing master id (tablet_at master id)

    here : CountersWithin most sealed
    here = counters_with_tablet most (fold with_side_segment master sides) id _
        (fold_keeps (CountersWithin most) with_side_segment sides master each (λ now items here. here)) (counter_within most master id some each)

    joins : (numbers : List ℕ) → CountersWithin most (joining_by sealed id (tablet_at sealed id) numbers)
    joins [] = closing_is (CountersWithin most) sealed id (tablet_at sealed id) here (length sealed.log.entries)
        (λ r is. counters_with_tablet most sealed id _ here (counter_within most sealed id some here))
    joins (number ∷ numbers) = joining_is (CountersWithin most) sealed id (tablet_at sealed id) here
        (λ r is. counters_with_tablet most sealed id _ here (counter_within most sealed id some here))

-- ---- a master

-- what a master makes of something: no counter is greater then, and it sends and serves no more than a step may
pub record IsFewWork (most : ℕ) (worked : Worked) : Type 0 where
  pub counters : CountersWithin most worked.master
  pub sends : length worked.sends ≤ MOST_AT_ONCE
  pub served : length worked.served ≤ MOST_AT_ONCE

-- so it is with work that is well formed
pub few_work : {limits : Limits} {number : ℕ} {worked : Worked} → IsFormedWork limits number MOST_AT_ONCE worked → IsFewWork limits.top worked
few_work formed = record { counters = formed_counters formed.master; sends = formed.few; served = formed.served }

pub few_more : (most : ℕ) {worked : Worked} → IsFewWork most worked → IsFewWork (most + 1) worked
few_more most {worked} few =
    record { counters = counters_weaker most (most + 1) worked.master (omega arith) few.counters; sends = few.sends; served = few.served }

module _ (limits : Limits) (number : ℕ) (master : Master) (there : IsMaster limits.masters number) (formed : IsFormedMaster limits number master) (room : HasLogRoom master) where
  -- a Stored: what is applied is well formed, and what goes on keeps the counters
  stored_few : (backup : ℕ) (stored : Stored) (over : Option Overreach) → IsFewWork limits.top (stored_taken master backup stored over)
  stored_few backup stored (Some beyond) = few_work (formed_changed {number = number} formed)
  stored_few backup stored None =
      let known = with_known master backup stored.segment stored.length in
      let worked = apply_entries known (newly_held known) in
      let applied = formed_newly_applied backup stored there formed in
      let counters = formed_counters applied.master in
      record {
        counters = going_on_counters limits.top worked.master.tablets worked.master counters (counts_from_counters limits.top worked.master counters);
        sends = omega (arith, room.bytes, entries_few master, applied.few, length-append {A = Message});
        served = omega (arith, room.bytes, entries_few master, applied.served, length-append {A = Served});
      }

  -- a Pulled: the items are replayed, and a target that has all keeps the counters
  pulled_few : (pulled : Pulled) → IsLawfulToken pulled.next → All (IsFormedHeld limits) (items_of pulled.entries)
      → IsFewWork limits.top (pulled_taken master pulled)
  pulled_few pulled token items =
      let id = pulled.tenure.tablet in
      let it = tablet_at master id in
      cond_both (is_receiving_at it pulled.tenure.term && is_token pulled.token it.pulling.token) (changed (batch_taken master id pulled))
      (changed master) (IsFewWork limits.top)
      (λ is.
      let passed = formed_batch pulled (first_holds _ _ is) token items formed in
      let counters = formed_counters passed.master_is in
      let now = token_passed (replay master id (it.pulling.batches % 4) (items_of pulled.entries)) id pulled.next in
      record {
        counters = either_way (CountersWithin limits.top) (is_token pulled.next end)
            (pulled_all_counters limits.top now id (omega (arith, passed.tablet_is.term)) counters) counters;
        sends = omega arith;
        served = omega arith;
      })
      (λ other. few_work (formed_changed {number = number} formed))

  -- what a master makes of a well formed message
  pub step_few : {message : Message} → AreLimits (raised limits) → IsFormedMessage limits message
      → IsFewWork (limits.top + 1) (master_step master message)
  step_few {message} are told =
      told_is (IsFewWork (limits.top + 1)) limits (raised limits) number master (more_raised limits) are there formed room
      (λ worked works. few_work (works (inl (omega arith))))
      (λ backup stored. few_more limits.top (stored_few backup stored (overreach master.log stored.segment stored.length)))
      (λ pulled token items. few_more limits.top (pulled_few pulled token items))
      message.from message.body told.from told.lawful told.says

-- ---- the coordinator

-- a rebuild that it takes reports no more ends than there are clients
pub ends_few : {limits : Limits} (rebuilt : Option Rebuilt) → AreLimits limits → IfSome rebuilt (IsTaken limits) → ends_in rebuilt ≤ MOST_CLIENTS + MOST_BASE_CLIENTS
ends_few rebuilt are taken = grind (arith, once_few)

duty_one : (coordinator : Coordinator) (row : Row) (phase : Phase) → length (row_duty coordinator row phase) ≤ 1
duty_one coordinator row (Opening source sfrom target None) = omega arith
duty_one coordinator row _ = omega arith

-- the rows of a tablet map rise by number
few_rows : (most : ℕ) (rows : List Row) → IsTabletMap rows → All (λ row. row.tablet < most) rows → length rows ≤ most
few_rows most rows map high =
    omega (
      arith,
      few_rising (λ (row : Row). row.tablet) IsTabletMap
          (λ row rows is. (λ place other within. omega (arith, (All-from_recursion (Precedes row) rows is.0 place other within).smaller), is.1))
          0 most rows map (omega arith) (λ place other within. omega arith) high,
    )

-- on its turn it sends one for each row, whose number can be spelled
pub coordinator_turn_few : {limits : Limits} {coordinator : Coordinator} → IsFormedCoordinator limits coordinator → length (coordinator_turn coordinator) ≤ MOST_AT_ONCE
coordinator_turn_few {limits} {coordinator} formed =
    omega (
      arith,
      one_of_each (λ row. row_duty coordinator row row.phase) coordinator.rows (λ row. duty_one coordinator row row.phase),
      few_rows (2 ^ 32) coordinator.rows formed.map (λ place other within. omega (arith, (formed.rows place other within).number_is)),
    )

-- ---- a backup

-- a backup answers a message with one at most
pub backup_step_few : (backup : ℕ) (sender : Node) (body : Body) (log : ℕ → ℕ → List ℕ) (called : Called) → length (backup_step backup sender body log called).sends ≤ 1
backup_step_few backup sender body log called = grind arith
