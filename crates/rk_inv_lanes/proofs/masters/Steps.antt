-- What is so of a master stays so at each message that it takes, if what it replays fits and what it appends may be, and at its turn.
use Rattle.std.proofs.Common.{arith, All, List, None, Option, Some, [], cond, false, length, nat_lt, true, ℕ, ◌%◌, ◌&&◌, ◌∷◌, Bool, fold}
use Rattle.std.proofs.Common.{refl, ◌≡◌}
use Rattle.rk_inv_base.proofs.Words.{All-head, All-tail, Body, Call, CopySegment, Entry, Got, Handover, Held, Master, Member, Merged, Node}
use Rattle.rk_inv_base.proofs.Words.{NumberMap, Pulled, Range, Rebuild, Role, Stored, Tablet, Worked, as_entries, batch_taken, beginning}
use Rattle.rk_inv_base.proofs.Words.{begun_from, by_member, call_of, carried, carried_entry, changed, choice_of, cond_both, copy_taken}
use Rattle.rk_inv_base.proofs.Words.{duties, end, found, got_taken, granted, has_parts, hashes_resolved, is_batch, is_frozen_at, is_greater}
use Rattle.rk_inv_base.proofs.Words.{is_newer, is_receiving_at, is_token, items_of, joined, joining_at, joining_by, master_turn, merge}
use Rattle.rk_inv_base.proofs.Words.{merging, next_reading, next_sides, order, overreach, own_material, own_member, owned, peer_message}
use Rattle.rk_inv_base.proofs.Words.{pulled_all, pulled_taken, range_below, reading_duty, rebuild_begun, rebuild_goes_on, rebuild_taken}
use Rattle.rk_inv_base.proofs.Words.{rebuilding_on, rebuilt, rebuilt_entry, released, replay, replay_one, sealed_sides, sealing}
use Rattle.rk_inv_base.proofs.Words.{segment_gathered, stored_taken, tablet_at, tablet_duty, token_passed, told_master, with_all}
use Rattle.rk_inv_base.proofs.Words.{with_appended, with_begun, with_half, with_others_given_up, with_side_segment, with_split, with_tablet}
use Rattle.rk_inv_base.proofs.Words.{without_foreign, ⊤}
use Rattle.rk_world.specs.Master.{with_call, with_item}
use Rattle.rk_inv_wellformed.proofs.lanes.Ledgers.{kept_by_fold}
use Rattle.rk_inv_wellformed.proofs.maps.Lists.{by_found, either_way, fold_keeps_all}
use Rattle.rk_inv_lanes.specs.room.Replayed.{got_items, pulled_items, replayed_of}
use Rattle.rk_inv_lanes.proofs.masters.Changes.{About, AnyEntry, AnyTablet, Has, IsLasting, Lasts, MayLeave, closing_entry_has, chosen_has}
use Rattle.rk_inv_lanes.proofs.masters.Changes.{close_has, either_work, granting_has, owning_has, prepare_has, put_has, releasing_has}
use Rattle.rk_inv_events.specs.copies.Small.{awaits}

-- what a merge appends may be appended
abbrev pub MayMerge : (Entry → Type 0) → Master → ℕ → Type 0
MayMerge May master number =
    let tablet = tablet_at master number in
    let merged = merge (own_material master tablet) (by_member tablet.gather (own_material master tablet)) in
    All May (as_entries merged.copies) × May (rebuilt_entry tablet merged)

-- the side segments that a target seals behind its last batch are few
abbrev pub MaySeal : (Master → Type 0) → (List ℕ → List (List Held) → Type 0) → Master → Pulled → Type 0
MaySeal P Few master pulled =
    let number = pulled.tenure.tablet in
    let worker = (tablet_at master number).pulling.batches % 4 in
    let now = token_passed (replay master number worker (items_of pulled.entries)) number pulled.next in
    (is_receiving_at (tablet_at master number) pulled.tenure.term && is_token pulled.token (tablet_at master number).pulling.token) ≡ true
    → is_token pulled.next end ≡ true → P now
    → Few (next_sides now (length (sealed_sides (tablet_at now number).pulling.sides))) ([] ∷ [] ∷ [] ∷ [] ∷ [])

-- what a message makes a master append or seal may be
abbrev pub Makes : (Master → Type 0) → (Entry → Type 0) → (List ℕ → List (List Held) → Type 0) → Master → Node → Body → Type 0
Makes P May Few master (Node.Client client) (Body.Request request) =
    MayLeave May master (call_of client request) (choice_of master (call_of client request))
Makes P May Few master Node.Coordinator (Body.Grant grant) = (handover : Handover) → May (carried_entry handover grant)
Makes P May Few master Node.Coordinator (Body.Rebuild rebuild) = MayMerge May (rebuild_begun master rebuild) rebuild.tenure.tablet
Makes P May Few master (Node.Master other) (Body.Pulled pulled) = MaySeal P Few master pulled
Makes P May Few master (Node.Backup backup) (Body.Copy copy) =
    awaits master copy ≡ true → MayMerge May (segment_gathered master copy) copy.tenure.tablet
Makes P May Few master _ _ = ⊤

pub makes_any : {P : About} {Fits : Held → Type 0} → IsLasting P Fits → (master : Master) (sender : Node) (body : Body)
    → Makes (Has P) AnyEntry AnyTablet master sender body
makes_any lasting master sender body = grind (arith, call_of, choice_of, found)

module _ {P : Master → Type 0} {Fits : Held → Type 0} {May : Entry → Type 0} {Few : List ℕ → List (List Held) → Type 0} (lasts : Lasts P Fits May Few) where
  -- ---- items are replayed

  -- each goes into the records if it is newer
  replay_has : (master : Master) (number worker : ℕ) (items : List Held) → All Fits items → P master → P (replay master number worker items)
  replay_has master number worker items each has =
      fold_keeps_all P Fits (replay_one number worker) items master has each
      (λ now item kept fits. either_way P (is_newer item (found item.table item.key now.records))
      (lasts.tablet (with_item now item) number _
      (lasts.replayed (tablet_at now number).pulling.sealed (tablet_at now number).pulling.sides worker _ (lasts.few now number kept))
      (lasts.put now item fits kept)) kept)

  -- those of a Got are replayed if it is awaited
  got_has : (master : Master) (message : Got) → All Fits (got_items master message) → P master → P (got_taken master message).master
  got_has master message each has =
      grind (arith, tablet_at, replay, items_of, changed, hashes_resolved, is_receiving_at, is_batch, replay_has)

  -- ---- a target that has pulled all

  joining_at_has : (master : Master) (number : ℕ) (handover : Option Handover) → P master
      → P (joining_at master number (tablet_at master number) handover)
  joining_at_has master number None has = has
  joining_at_has master number (Some handover) has = put_has lasts master number handover has

  joining_has : (master : Master) (number : ℕ) (segments : List ℕ) → P master → P (joining_by master number (tablet_at master number) segments)
  joining_has master number [] has =
      let tablet = tablet_at master number in
      closing_entry_has lasts master number tablet (joined tablet.handover tablet.handover.term (Some (length master.log.entries)))
      (lasts.few master number has) has
  joining_has master number (segment ∷ more) has = grind (arith, tablet_at, joining_at_has, joined)

  all_pulled_has : (master : Master) (number : ℕ)
      → Few (next_sides master (length (sealed_sides (tablet_at master number).pulling.sides))) ([] ∷ [] ∷ [] ∷ [] ∷ [])
      → P master → P (pulled_all master number)
  all_pulled_has master number few has =
      let pieces = sealed_sides (tablet_at master number).pulling.sides in
      let now = sealing master number (tablet_at master number) in
      joining_has now number (tablet_at now number).pulling.sealed
      (lasts.tablet (fold with_side_segment master pieces) number _ few (kept_by_fold P with_side_segment lasts.sealed pieces master has))

  -- those of a Pulled are replayed if it is that of the token
  pulled_has : (master : Master) (pulled : Pulled) → MaySeal P Few master pulled → All Fits (pulled_items master pulled) → P master
      → P (pulled_taken master pulled).master
  pulled_has master pulled seals each has = go (is_receiving_at tablet pulled.tenure.term && is_token pulled.token tablet.pulling.token) refl each
    where
      number : ℕ
      number = pulled.tenure.tablet

      tablet : Tablet
      tablet = tablet_at master pulled.tenure.tablet

      replayed : Master
      replayed = replay master pulled.tenure.tablet ((tablet_at master pulled.tenure.tablet).pulling.batches % 4) (items_of pulled.entries)

      now : Master
      now = token_passed replayed number pulled.next

      passed : All Fits (items_of pulled.entries) → P now
      passed each =
          let kept = replay_has master number (tablet.pulling.batches % 4) (items_of pulled.entries) each has in
          lasts.tablet replayed number _ (lasts.few replayed number kept) kept

      go : (takes : Bool) → (is_receiving_at tablet pulled.tenure.term && is_token pulled.token tablet.pulling.token) ≡ takes
          → All Fits (cond takes (items_of pulled.entries) [])
          → P (cond takes (changed (batch_taken master number pulled)) (changed master)).master
      go true takes each = cond_both (is_token pulled.next end) (pulled_all now number) now P
          (λ last. all_pulled_has now number (seals takes last (passed each)) (passed each)) (λ more. passed each)
      go false other each = has

  -- ---- what was gathered is merged

  merging_has : (master : Master) (number : ℕ) (merged : Merged) (handover : Option Handover)
      → All May (as_entries merged.copies) × May (rebuilt_entry (tablet_at master number) merged) → P master
      → P (merging master number (tablet_at master number) merged handover).master
  merging_has master number merged None may has = has
  merging_has master number merged (Some handover) may has =
      let copied = with_all master (as_entries merged.copies) in
      lasts.tablet (with_appended copied (rebuilt_entry (tablet_at master number) merged)) number _ (lasts.few master number has)
      (lasts.appended copied (rebuilt_entry (tablet_at master number) merged) may.1
      (fold_keeps_all P May with_appended (as_entries merged.copies) master has may.0
      (λ now entry kept may. lasts.appended now entry may kept)))

  goes_on_has : (master : Master) (number : ℕ) → MayMerge May master number → P master → P (rebuild_goes_on master number).master
  goes_on_has master number may has =
      let tablet = tablet_at master number in
      let merged = merge (own_material master tablet) (by_member tablet.gather (own_material master tablet)) in
      by_found (λ reading. P (rebuilding_on master number reading).master) (next_reading tablet.gather)
      (λ none.
      merging_has master number merged
      (carried tablet.handover tablet.handover.term (length (with_all master (as_entries merged.copies)).log.entries) merged.floor) may has)
      (λ reading is. has)

  -- ---- a rebuild begins, and gathers

  foreign_has : (master : Master) (range : Range) (own : Option Member) → P master → P (without_foreign master range own)
  foreign_has master range (Some member) has = has
  foreign_has master range None has = lasts.dropped master range has

  with_begun_has : (master : Master) (rebuild : Rebuild) (handover : Option Handover) → P master → P (with_begun master rebuild handover)
  with_begun_has master rebuild None has = has
  with_begun_has master rebuild (Some handover) has = lasts.tablet master rebuild.tenure.tablet _ lasts.none has

  pub begun_has : (master : Master) (rebuild : Rebuild) → P master → P (rebuild_begun master rebuild)
  begun_has master rebuild has =
      let own = own_member rebuild.lineage master.number in
      let number = rebuild.tenure.tablet in
      let foreign = without_foreign master rebuild.range own in
      let now = with_others_given_up foreign number rebuild.range in
      with_begun_has now rebuild (rebuilt (tablet_at now number).handover rebuild.tenure.term rebuild.range (begun_from master own))
      (lasts.given_up foreign number rebuild.range (foreign_has master rebuild.range own has))

  rebuild_has : (master : Master) (rebuild : Rebuild) → MayMerge May (rebuild_begun master rebuild) rebuild.tenure.tablet → P master
      → P (rebuild_taken master rebuild).master
  rebuild_has master rebuild may has = grind (arith, either_work, is_greater, beginning, changed, goes_on_has, rebuild_begun, begun_has)

  pub copy_has : (master : Master) (copy : CopySegment) → (awaits master copy ≡ true → MayMerge May (segment_gathered master copy) copy.tenure.tablet)
      → P master → P (copy_taken master copy).master
  copy_has master copy may has =
      let number = copy.tenure.tablet in
      cond_both (awaits master copy) (rebuild_goes_on (segment_gathered master copy) number) (changed master)
      (λ (worked : Worked). P worked.master)
      (λ awaited. goes_on_has (segment_gathered master copy) number (may awaited) (lasts.tablet master number _ (lasts.few master number has) has))
      (λ other. has)

  -- ---- messages

  pub order_has : (master : Master) (body : Body) → Makes P May Few master Node.Coordinator body → P master → P (order master body).master
  order_has master (Body.Prepare prepare) may has = prepare_has lasts master prepare has
  order_has master (Body.Close tenure) may has = close_has lasts master tenure has
  order_has master (Body.Grant grant) may has =
      granting_has lasts master grant (granted (tablet_at master grant.tenure.tablet).handover grant.tenure.term grant.floor) may has
  order_has master (Body.Own tenure) may has = grind (arith, owning_has, owned, tablet_at, tenure.tablet, tenure.term, master.applied)
  order_has master (Body.Release tenure) may has =
      releasing_has lasts master tenure.tablet (released (tablet_at master tenure.tablet).handover tenure.term) has
  order_has master (Body.Rebuild rebuild) may has = rebuild_has master rebuild may has
  order_has master _ may has = has

  -- if what is replayed fits
  pub peer_has : (master : Master) (other : ℕ) (body : Body) → Makes P May Few master (Node.Master other) body
      → All Fits (replayed_of master body) → P master → P (peer_message master (Node.Master other) body).master
  peer_has master other body may each has = grind (arith, either_work, is_frozen_at, tablet_at, changed, pulled_has, got_has)

  -- a message, if it stays so once a call waits and at what a backup reports
  pub told_has : (master : Master) (sender : Node) (body : Body) → Makes P May Few master sender body → ((call : Call) → P (with_call master call))
      → ((backup : ℕ) (stored : Stored) → P (stored_taken master backup stored (overreach master.log stored.segment stored.length)).master)
      → All Fits (replayed_of master body) → P master → P (told_master master sender body).master
  told_has master (Node.Client client) (Body.Request request) may called told each has =
      let call = call_of client request in
      chosen_has lasts master request.tablet call (choice_of master call) may (called call) has
  told_has master (Node.Client client) _ may called told each has = has
  told_has master Node.Coordinator body may called told each has = order_has master body may has
  told_has master (Node.Master other) body may called told each has = peer_has master other body may each has
  told_has master (Node.Backup backup) (Body.Stored stored) may called told each has = told backup stored
  told_has master (Node.Backup backup) (Body.Copy copy) may called told each has = copy_has master copy may has
  told_has master (Node.Backup backup) _ may called told each has = has

  -- ---- turns

  duty_has : (master : Master) (number : ℕ) (tablet : Tablet) (role : Role) → Few tablet.pulling.sealed tablet.pulling.sides → P master
      → P (tablet_duty master number tablet role).master
  duty_has master number tablet role few has = grind (arith, either_work, nat_lt, changed, by_found, reading_duty, next_reading)

  duties_have : (tablets : NumberMap Tablet) (master : Master) → All (λ entry. Few entry.1.pulling.sealed entry.1.pulling.sides) tablets → P master
      → P (duties master tablets).master
  duties_have [] master all has = has
  duties_have (entry ∷ others) master all has =
      let AreFew : ℕ × Tablet → Type 0 = λ entry. Few entry.1.pulling.sealed entry.1.pulling.sides in
      duties_have others (tablet_duty master entry.0 entry.1 entry.1.handover.role).master (All-tail AreFew entry others all)
      (duty_has master entry.0 entry.1 entry.1.handover.role (All-head AreFew entry others all) has)

  -- a turn
  pub turn_has : (master : Master) → P master → P (master_turn master).master
  turn_has master has = duties_have master.tablets master (lasts.all master has) has

  -- a tablet that is split
  pub split_has : (master : Master) (number at new term : ℕ) → P master → P (with_split master number at new term)
  split_has master number at new term has =
      let tablet = tablet_at master number in
      let lower = with_half tablet (range_below tablet.handover.range at) term in
      either_way P (has_parts tablet.handover.range at) (lasts.tablet (with_tablet master number lower) new _ (lasts.few master number has)
      (lasts.tablet master number lower (lasts.few master number has) has)) has
