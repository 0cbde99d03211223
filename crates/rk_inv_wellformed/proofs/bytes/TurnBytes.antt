-- How many bytes a master has after its turn: no more than before; and after what a backup reports: no more than before and the entries by
-- which tablets close that wait for their side segments.
use Rattle.std.proofs.Common.{not, map, List, ◌&&◌, ◌≡◌, ◌≤◌, ◌+◌, ◌*◌, ℕ, length, max, All, [], ◌∷◌, Option, None, Some, refl, sym, ap}
use Rattle.std.proofs.Common.{subst, ◌∙◌, ⊎_elim, arith, sum_by, slice_index_or}
use Rattle.rk_inv_wellformed.proofs.Words.{cases_eq, length-map, All-head, All-tail, sum-map, sum_by-cons, in_order_insert}
use Rattle.rk_inv_wellformed.proofs.Words.{in_order_changed, IsInOrder, NumberMap, get, Call, Ended, Held, spelled_count, spelled_all}
use Rattle.rk_inv_wellformed.proofs.Words.{kind_of, spelled, Entry, Role, Overreach, Stored, apply_entries, apply_entry, newly_held, noting}
use Rattle.rk_inv_wellformed.proofs.Words.{stored_taken, with_applied, with_ended, with_entry_item, with_noted, told_by, IsFormedMaster}
use Rattle.rk_inv_wellformed.proofs.Words.{IsFormedSide, side_waits, Limits, Master, log_bytes, tablet_at, unsealed_bytes, with_tablet}
use Rattle.rk_inv_wellformed.proofs.Words.{with_known, order, duties, master_turn, with_outstanding, as_entries, has_key, is_absent, Tablet}
use Rattle.rk_inv_wellformed.proofs.Words.{with_handover, all_going_on, going_on_in, joined_entry, side_waits_in, with_appended}
use Rattle.rk_types.specs.Held.{spelled_of}
use Rattle.rk_inv_wellformed.proofs.bytes.EntryBytes.{mark_few}
use Rattle.rk_inv_wellformed.proofs.bytes.LogBytes.{bytes_appended, bytes_put, bytes_changed}
use Rattle.rk_inv_wellformed.proofs.bytes.Sizes.{side_bytes}
use Rattle.rk_inv_wellformed.proofs.maps.{either_way, All_pairs}
use Rattle.rk_inv_wellformed.proofs.masters.Commits.{noted_waits}
use Rattle.rk_inv_wellformed.proofs.masters.Sealing.{items_spelled}
use Rattle.rk_inv_wellformed.proofs.masters.Turns.{duty_is}
use Rattle.rk_inv_wellformed.proofs.masters.Changes.{going_on_in_is}
use Rattle.rk_inv_wellformed.proofs.masters.Tablets.{tablet_found, tablet_with_other, tablet_with_same}

-- ---- a turn

-- during a turn: the tablets that are left are there as they were
record TurnKeeps (bytes : ℕ) (left : NumberMap Tablet) (master : Master) : Type 0 where
  order : IsInOrder master.tablets
  fits : log_bytes master ≤ bytes
  same : All (λ entry. unsealed_bytes entry.1 ≡ unsealed_bytes (tablet_at master entry.0)) left

module _ {bytes : ℕ} (id : ℕ) (tablet : Tablet) (others : NumberMap Tablet) {master : Master} (keeps : TurnKeeps bytes ((id, tablet) ∷ others) master) where
  turn_behind : TurnKeeps bytes others master
  turn_behind = assumption (All-tail (λ entry. unsealed_bytes entry.1 ≡ unsealed_bytes (tablet_at master entry.0)) (id, tablet) others keeps.same)

  -- one of them changes, and has the bytes that it had
  put_keeps : (new : Tablet) → unsealed_bytes new ≡ unsealed_bytes tablet → TurnKeeps bytes others (with_tablet master id new)
  put_keeps new equal = record {
    order = in_order_insert master.tablets id new keeps.order;
    fits = omega (arith, keeps.fits, here, equal, bytes_put master id new keeps.order);
    same = λ place other within.
        let entry = slice_index_or others place other in
        still entry.0 entry.1 (turn_behind.same place other within);
  }
    where
      here : unsealed_bytes tablet ≡ unsealed_bytes (tablet_at master id)
      here = All-head (λ (entry : ℕ × Tablet). unsealed_bytes entry.1 ≡ unsealed_bytes (tablet_at master entry.0)) (id, tablet) others keeps.same

      still : (q : ℕ) (other : Tablet) → unsealed_bytes other ≡ unsealed_bytes (tablet_at master q)
          → unsealed_bytes other ≡ unsealed_bytes (tablet_at (with_tablet master id new) q)
      still q other is = ⊎_elim
          (λ (same : q ≡ id).
          subst (λ (n : ℕ). unsealed_bytes other ≡ unsealed_bytes (tablet_at (with_tablet master id new) n)) (sym same)
          (subst (λ (n : ℕ). unsealed_bytes other ≡ unsealed_bytes (tablet_at master n)) same is ∙ sym here ∙ sym equal
          ∙ sym (ap unsealed_bytes (tablet_with_same master id new))))
          (λ (apart : q ≡ id → ⊥). is ∙ sym (ap unsealed_bytes (tablet_with_other master id new q apart))) (cases_eq q id)

duties_bytes : {bytes : ℕ} (tablets : NumberMap Tablet) {master : Master} → TurnKeeps bytes tablets master
    → log_bytes (duties master tablets).master ≤ bytes
duties_bytes [] keeps = keeps.fits
duties_bytes {bytes} ((id, tablet) ∷ others) {master} keeps = duties_bytes others
    (duty_is (TurnKeeps bytes others) master id tablet tablet.handover.role (turn_behind id tablet others keeps)
    (put_keeps id tablet others keeps (with_outstanding tablet) refl))

-- at the beginning each tablet is there
begins_so : (master : Master) → IsInOrder master.tablets → TurnKeeps (log_bytes master) master.tablets master
begins_so master order = record {
  order = order;
  fits = omega arith;
  same = All_pairs (λ q tablet. unsealed_bytes tablet ≡ unsealed_bytes (tablet_at master q)) master.tablets order
      (λ q tablet there. sym (ap unsealed_bytes (tablet_found master q tablet there)));
}

-- after its turn a master has no more bytes
pub turn_bytes : (master : Master) → IsInOrder master.tablets → log_bytes (master_turn master).master ≤ log_bytes master
turn_bytes master order = duties_bytes master.tablets (begins_so master order)

-- ---- what a backup reports

-- while entries are applied: the tablets wait for so many side segments
record ApplyKeeps (bytes count : ℕ) (master : Master) : Type 0 where
  order : IsInOrder master.tablets
  fits : log_bytes master ≤ bytes
  waited : side_waits master.tablets ≤ count

noted_keeps : {bytes count : ℕ} {master : Master} (call : Call) (end : Ended) → ApplyKeeps bytes count master
    → ApplyKeeps bytes count (with_noted master call end)
noted_keeps {master} call end keeps = record {
  order = in_order_changed (λ number tablet. noting call end tablet) master.tablets keeps.order;
  fits = omega (
    arith,
    keeps.fits,
    bytes_changed (λ number tablet. noting call end tablet)
        (λ number tablet. either_way (λ (now : Tablet). unsealed_bytes now ≤ unsealed_bytes tablet)
        (not (is_absent tablet.handover.role) && has_key tablet.handover.range call.table call.key) (omega arith) (omega arith)) master,
  );
  waited = omega (arith, keeps.waited, noted_waits call end master.tablets);
}

ended_keeps_bytes : {bytes count : ℕ} {master : Master} (place : ℕ) (call : Option Call) (ends : List Ended) → ApplyKeeps bytes count master
    → ApplyKeeps bytes count (with_ended master place call ends).master
ended_keeps_bytes place (Some call) (end ∷ ends) keeps = assumption (noted_keeps call end keeps)
ended_keeps_bytes place _ _ keeps = keeps

entry_keeps : {bytes count : ℕ} {master : Master} (entry : Entry) → ApplyKeeps bytes count master
    → ApplyKeeps bytes count (with_applied (with_entry_item master entry))
entry_keeps (Entry.Held held) keeps = assumption
entry_keeps _ keeps = assumption

applied_keeps : (bytes count : ℕ) (list : List Entry) (master : Master) → ApplyKeeps bytes count master
    → ApplyKeeps bytes count (apply_entries master list).master
applied_keeps bytes count [] master keeps = keeps
applied_keeps bytes count (entry ∷ list) master keeps =
    applied_keeps bytes count list (apply_entry master entry).master
    (ended_keeps_bytes master.applied (get master.calls master.applied) (told_by entry) (entry_keeps entry keeps))

-- the bytes that a closing entry has for each side segment that is waited for, at most
abbrev pub CLOSING_BYTES : ℕ
CLOSING_BYTES = 46

-- an entry that closes the role of a target has no more for each side segment that it names, and one at least
pub joined_short : (tablet : Tablet) → length (spelled (joined_entry tablet)) ≤ CLOSING_BYTES * max 1 (length tablet.pulling.sealed)
joined_short tablet = omega (arith, spelled_count (joined_entry tablet), mark_few (kind_of (joined_entry tablet)))

-- more bytes are no fewer
more_bytes : (bytes more : ℕ) {left : NumberMap Tablet} {master : Master} → bytes ≤ more → TurnKeeps bytes left master
    → TurnKeeps more left master
more_bytes bytes more no_fewer keeps = record { order = keeps.order; fits = omega (arith, no_fewer, keeps.fits); same = keeps.same }

-- what was waited for at a tablet goes on
going_on_keeps : {bytes : ℕ} (id : ℕ) (tablet : Tablet) (others : NumberMap Tablet) {master : Master} (role : Role)
    → TurnKeeps bytes ((id, tablet) ∷ others) master
    → TurnKeeps (bytes + CLOSING_BYTES * side_waits_in role tablet.pulling.sealed) others (going_on_in master id tablet role)
going_on_keeps {bytes} id tablet others {master} role keeps =
    let more = bytes + CLOSING_BYTES * side_waits_in role tablet.pulling.sealed in
    going_on_in_is (TurnKeeps more others) master id tablet (more_bytes bytes more (omega arith) (turn_behind id tablet others keeps)) role
    (λ r is. more_bytes bytes more (omega arith)
    (put_keeps id tablet others keeps (with_handover tablet (record tablet.handover { role = r })) refl))
    (λ joins r is.
    let put = put_keeps id tablet others keeps (with_handover tablet (record tablet.handover { role = r })) refl in
    let now = with_tablet master id (with_handover tablet (record tablet.handover { role = r })) in
    let waits = ap (λ (role : Role). side_waits_in role tablet.pulling.sealed) joins in
    let fits : log_bytes (with_appended now (joined_entry tablet)) ≤ more =
    omega (arith, put.fits, bytes_appended now (joined_entry tablet), joined_short tablet, waits) in
    assumption put)

-- at each of these tablets a closing entry has its bytes for what is waited for
going_on_bytes : (tablets : NumberMap Tablet) {bytes : ℕ} {master : Master} → TurnKeeps bytes tablets master
    → log_bytes (all_going_on master tablets) ≤ bytes + CLOSING_BYTES * side_waits tablets
going_on_bytes [] keeps = omega (arith, keeps.fits)
going_on_bytes ((id, tablet) ∷ others) keeps =
    omega (arith, going_on_bytes others (going_on_keeps id tablet others tablet.handover.role keeps), sum_by-cons {X = ℕ × Tablet})

-- after a backup's report a master has no more bytes than before, and the closing entries of its tablets that wait
stored_bytes : (master : Master) (backup : ℕ) (stored : Stored) (over : Option Overreach) → IsInOrder master.tablets
    → log_bytes (stored_taken master backup stored over).master ≤ log_bytes master + CLOSING_BYTES * side_waits master.tablets
stored_bytes master backup stored (Some beyond) order = omega arith
stored_bytes master backup stored None order =
    let known = with_known master backup stored.segment stored.length in
    let now = (apply_entries known (newly_held known)).master in
    let applied = applied_keeps (log_bytes master) (side_waits master.tablets) (newly_held known) known
    (record { order = order; fits = omega arith; waited = omega arith }) in
    omega (arith, applied.fits, applied.waited, going_on_bytes now.tablets (begins_so now applied.order))

-- ---- how long side segments are

-- an item has no fewer bytes than this
abbrev pub SHORTEST_ITEM : ℕ
SHORTEST_ITEM = 34

item_long : (item : Held) → SHORTEST_ITEM ≤ spelled_of item
unfolding spelled_of
item_long item = omega arith

-- items that have a byte have those of an item
items_long : (items : List Held) → 1 ≤ length (spelled_all (as_entries items)) → SHORTEST_ITEM ≤ length (spelled_all (as_entries items))
items_long [] some = omega (arith, some, items_spelled [], sum-map spelled_of [])
items_long (item ∷ items) some = omega (arith, items_spelled, item_long, sum-map {X = Held}, sum_by-cons {X = Held})

-- side segments that have bytes have those of an item each
sides_long : (sides : List (List Held)) → All IsFormedSide (map (λ items. spelled_all (as_entries items)) sides)
    → SHORTEST_ITEM * length sides ≤ sum_by (λ (b : List ℕ). length b) (map (λ items. spelled_all (as_entries items)) sides)
sides_long [] all = omega arith
sides_long (items ∷ sides) all =
    let rest = map (λ items. spelled_all (as_entries items)) sides in
    omega (
      arith,
      items_long items (All-head IsFormedSide (spelled_all (as_entries items)) rest all).some,
      sides_long sides (All-tail IsFormedSide (spelled_all (as_entries items)) rest all),
      sum_by-cons (λ (b : List ℕ). length b) (spelled_all (as_entries items)) rest,
    )

-- so a backup's report lets a well formed master have at most three times the bytes that it had
pub stored_thrice : {limits : Limits} {number : ℕ} {master : Master} (backup : ℕ) (stored : Stored) (over : Option Overreach)
    → IsFormedMaster limits number master
    → log_bytes (stored_taken master backup stored over).master ≤ 3 * log_bytes master
stored_thrice {master} backup stored over formed =
    grind (arith, stored_bytes, sides_long, spelled, side_bytes, length-map, spelled_all, as_entries, formed.waited, formed.tablets_order)
