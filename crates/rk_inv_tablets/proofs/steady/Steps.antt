-- What targets have sealed is there once a master took a message, whatever it says.
use Rattle.std.proofs.Common.{◌<◌, ◌+◌, ℕ, All, List, [], ◌∷◌, length, fold, arith, ◌%◌, Option, None, Some}
use Rattle.rk_inv_base.proofs.Words.{range_with_len, Held, Token, Node, FIRST_SIDE_SEGMENT, end, got, Got, Pull, Pulled, Want, items_of}
use Rattle.rk_inv_base.proofs.Words.{Master, tablet_at, with_side_segment, batch_taken, got_taken, hashes_resolved, is_token, joining_by}
use Rattle.rk_inv_base.proofs.Words.{next_sides, pull_taken, pulled_all, pulled_taken, replay, replay_one, sealing, token_passed}
use Rattle.rk_inv_base.proofs.Words.{want_taken, with_pulling, is_frozen_at, is_receiving_at, sealed_sides, Tablet, with_handover, changed}
use Rattle.rk_inv_base.proofs.Words.{All-nil, Member, Range, carried, Handover, CopySegment, Rebuild, by_member, next_reading, is_greater}
use Rattle.rk_inv_base.proofs.Words.{with_all, with_appended, as_entries, merge, beginning, copy_taken, merging, own_material}
use Rattle.rk_inv_base.proofs.Words.{rebuild_begun, rebuild_goes_on, rebuild_taken, rebuilding_on, rebuilt_entry, with_begun, with_merged}
use Rattle.rk_inv_base.proofs.Words.{without_foreign, pulling_from, Merged, Reading, Call, Ended, Entry, noted, joined, Overreach, Stored}
use Rattle.rk_inv_base.proofs.Words.{apply_entries, apply_entry, newly_held, noting, stored_taken, told_length, with_applied, with_ended}
use Rattle.rk_inv_base.proofs.Words.{with_entry_item, told_by, with_known, has_key, is_absent, all_going_on, going_on_in, hash_of, Request}
use Rattle.rk_inv_base.proofs.Words.{call_of, choice_of, chosen, counted_up, item_of, request_taken, with_staged, Choice, Wants, Writes}
use Rattle.rk_inv_base.proofs.Words.{overreach, Body, Message, backup_message, client_message, master_step, order, peer_message}
use Rattle.rk_inv_base.proofs.Words.{told_master, Worked}
use Rattle.rk_inv_tablets.proofs.Words.{kept_by_fold, gather_begun, fold_keeps_all}
use Rattle.rk_priority.specs.Hashes.{no_hashes}
use Rattle.rk_inv_wellformed.proofs.masters.Turns.{range_within}
use Rattle.rk_inv_tablets.proofs.steady.Sealed.{IsSealedUnder, Seals, SealsThere, either_seals, either_works, sealed_at, seals_there}
use Rattle.rk_inv_tablets.proofs.steady.Sealed.{seals_with_tablet, sides_added, seals_with_all, each_under}
use Rattle.rk_inv_wellformed.proofs.masters.Changes.{closing_is, joining_is, going_on_in_is}
use Rattle.rk_inv_wellformed.proofs.maps.Lists.{either_way, by_found}
use Rattle.rk_world.specs.Rebuilds.{merged_at}
use Rattle.rk_inv_tablets.proofs.steady.Handovers.{others_given_up_seal, close_seals, grant_seals, own_seals, prepare_seals, release_seals}
use Rattle.rk_message.specs.declared.message.Body.TheVariants as bodies

-- What targets have sealed is there when a target takes what it pulled, and also when it seals its side lists.

module _ (count : ℕ) where
  -- ---- a source

  pub pull_seals : (master : Master) (sender : Node) (pull : Pull) → Seals count master → Seals count (pull_taken master sender pull).master
  pull_seals master sender pull seals =
      either_works count (is_frozen_at (tablet_at master pull.tenure.tablet) pull.tenure.term) _ (changed master) seals seals

  pub want_seals : (master : Master) (sender : Node) (want : Want) → Seals count master → Seals count (want_taken master sender want).master
  want_seals master sender want seals =
      either_works count (is_frozen_at (tablet_at master want.tenure.tablet) want.tenure.term) _ (changed master) seals seals

  -- ---- items

  one_seals : (number worker : ℕ) (master : Master) (item : Held) → Seals count master → Seals count (replay_one number worker master item)
  one_seals number worker master item seals =
      search (either_seals, seals_with_tablet, sealed_at)

  replay_seals : (master : Master) (number worker : ℕ) (items : List Held) → Seals count master → Seals count (replay master number worker items)
  replay_seals master number worker items seals =
      kept_by_fold (Seals count) (replay_one number worker) (λ now item kept. one_seals number worker now item kept) items master seals

  token_seals : (master : Master) (number : ℕ) (next : Token) → Seals count master → Seals count (token_passed master number next)
  token_seals master number next seals = search (tablet_at, seals_with_tablet, with_pulling, sealed_at)

  resolved_seals : (master : Master) (number : ℕ) (hashes : List ℕ) → Seals count master → Seals count (hashes_resolved master number hashes)
  resolved_seals master number hashes seals = search (tablet_at, seals_with_tablet, with_pulling, got, sealed_at)

  pub got_seals : (master : Master) (message : Got) → Seals count master → Seals count (got_taken master message).master
  got_seals master message seals =
      search (either_works, resolved_seals, replay_seals)

  -- ---- side segments

  -- the numbers of side segments that come next are below the count with them
  next_under : (more : ℕ) → All (λ number. number < FIRST_SIDE_SEGMENT + (count + more)) (range_with_len (FIRST_SIDE_SEGMENT + count) more)
  next_under more = grind (arith, range_within)

  sealing_seals : (master : Master) (number : ℕ) (tablet : Tablet) → Seals count master
      → Seals (count + length (sealed_sides tablet.pulling.sides)) (sealing master number tablet)
  sealing_seals master number tablet seals =
      let sides = sealed_sides tablet.pulling.sides in
      seals_with_tablet (count + length sides) (fold with_side_segment master sides) number
      (with_pulling tablet (record tablet.pulling {
        hashes = no_hashes;
        sides = [] ∷ [] ∷ [] ∷ [] ∷ [];
        sealed = next_sides master (length sides);
      }))
      (sides_added sides count master seals)
      (rw seals.0 (next_under (length sides)))

  module _ (master : Master) (number : ℕ) (tablet : Tablet) (seals : Seals count master) (sealed : IsSealedUnder count tablet) where
    pub joining_seals : (segments : List ℕ) → Seals count (joining_by master number tablet segments)
    joining_seals [] =
        closing_is (Seals count) master number tablet seals (length master.log.entries)
        (λ r is. seals_with_tablet count master number (with_handover tablet (record tablet.handover { role = r })) seals sealed)
    joining_seals (segment ∷ more) =
        joining_is (Seals count) master number tablet seals
        (λ r is. seals_with_tablet count master number (with_handover tablet (record tablet.handover { role = r })) seals sealed)

-- ---- batches

module _ (count : ℕ) (master : Master) (seals : Seals count master) where
  all_there : (number : ℕ) → SealsThere (pulled_all master number)
  all_there number =
      let tablet = tablet_at master number in
      let more = count + length (sealed_sides tablet.pulling.sides) in
      let now = sealing master number tablet in
      let now_seals : Seals more now = sealing_seals count master number tablet seals in
      seals_there more (pulled_all master number)
      (joining_seals more now number (tablet_at now number) now_seals (sealed_at more now number now_seals) (tablet_at now number).pulling.sealed)

module _ (count : ℕ) (master : Master) (seals : Seals count master) where
  batch_there : (number : ℕ) (pulled : Pulled) → SealsThere (batch_taken master number pulled)
  batch_there number pulled =
      let worker = (tablet_at master number).pulling.batches % 4 in
      let replayed = replay master number worker (items_of pulled.entries) in
      let now = token_passed replayed number pulled.next in
      let now_seals : Seals count now =
      token_seals count replayed number pulled.next (replay_seals count master number worker (items_of pulled.entries) seals) in
      either_way SealsThere (is_token pulled.next end) (all_there count now now_seals number)
      (seals_there count now now_seals)

  pub pulled_there : (pulled : Pulled) → SealsThere (pulled_taken master pulled).master
  pulled_there pulled = grind (arith, tablet_at, is_receiving_at, is_token, changed, batch_taken, batch_there, seals_there)

-- What targets have sealed stays there when a master rebuilds a tablet.

module _ (count : ℕ) where
  -- ---- merging

  merged_seals : (master : Master) (number : ℕ) (tablet : Tablet) (merged : Merged) → Seals count master → IsSealedUnder count tablet
      → Seals count (merged_at master number tablet merged).master
  merged_seals master number tablet merged seals sealed =
      let grown = with_all master (as_entries merged.copies) in
      by_found (λ handover. Seals count (merging master number tablet merged handover).master)
      (carried tablet.handover tablet.handover.term (length grown.log.entries) merged.floor) (λ none. seals)
      (λ handover is.
      seals_with_tablet count (with_appended grown (rebuilt_entry tablet merged)) number (with_merged tablet merged handover)
      (seals_with_all count master (as_entries merged.copies) seals) sealed)

  rebuilding_seals : (master : Master) (number : ℕ) (reading : Option Reading) → Seals count master → Seals count (rebuilding_on master number reading).master
  rebuilding_seals master number (Some reading) seals = seals
  rebuilding_seals master number None seals = search (tablet_at, merged_seals, merge, own_material, by_member, sealed_at)

  goes_on_seals : (master : Master) (number : ℕ) → Seals count master → Seals count (rebuild_goes_on master number).master
  goes_on_seals master number seals = rebuilding_seals master number (next_reading (tablet_at master number).gather) seals

  -- ---- beginning

  foreign_seals : (master : Master) (range : Range) (own : Option Member) → Seals count master → Seals count (without_foreign master range own)
  foreign_seals master range (Some member) seals = seals
  foreign_seals master range None seals = seals

  with_begun_seals : (master : Master) (rebuild : Rebuild) (handover : Option Handover) → Seals count master → Seals count (with_begun master rebuild handover)
  with_begun_seals master rebuild None seals = seals
  with_begun_seals master rebuild (Some handover) seals =
      let tablet = tablet_at master rebuild.tenure.tablet in
      seals_with_tablet count master rebuild.tenure.tablet
      (record tablet {
        handover = handover;
        pulling = pulling_from tablet.pulling.source;
        gather = gather_begun rebuild.range rebuild.lineage master.number;
        merged_ends = [];
      })
      seals (All-nil _)

  begun_seals : (master : Master) (rebuild : Rebuild) → Seals count master → Seals count (rebuild_begun master rebuild)
  begun_seals master rebuild seals =
      search (with_begun_seals, others_given_up_seal, foreign_seals)

  pub rebuild_seals : (master : Master) (rebuild : Rebuild) → Seals count master → Seals count (rebuild_taken master rebuild).master
  rebuild_seals master rebuild seals =
      either_works count (is_greater master rebuild.tenure.tablet rebuild.tenure.term rebuild.range) (beginning master rebuild) (changed master)
      (goes_on_seals (rebuild_begun master rebuild) rebuild.tenure.tablet (begun_seals master rebuild seals)) seals

  -- ---- gathering

  pub copy_seals : (master : Master) (copy : CopySegment) → Seals count master → Seals count (copy_taken master copy).master
  copy_seals master copy seals =
      search (either_works, goes_on_seals, seals_with_tablet, sealed_at)

-- What targets have sealed stays there when a master applies entries, and when what waited goes on.

module _ (count : ℕ) where
  -- ---- entries

  entry_item_seals : (master : Master) (entry : Entry) → Seals count master → Seals count (with_entry_item master entry)
  entry_item_seals master entry seals = grind (arith, joined)

  noting_sealed : (call : Call) (end : Ended) (tablet : Tablet) → IsSealedUnder count tablet → IsSealedUnder count (noting call end tablet)
  noting_sealed call end tablet sealed = grind (arith, is_absent, has_key, noted)

  ended_seals : (master : Master) (place : ℕ) (call : Option Call) (ends : List Ended) → Seals count master → Seals count (with_ended master place call ends).master
  ended_seals master place (Some call) (end ∷ ends) seals = search (each_under, noting, noting_sealed, seals.0, master.tablets, seals.1)
  ended_seals master place _ _ seals = seals

  entry_seals : (master : Master) (entry : Entry) → Seals count master → Seals count (apply_entry master entry).master
  entry_seals master entry seals =
      search (ended_seals, with_applied, with_entry_item, told_by, entry_item_seals, master.applied, master.calls)

  entries_seal : (list : List Entry) (master : Master) → Seals count master → Seals count (apply_entries master list).master
  entries_seal [] master seals = seals
  entries_seal (entry ∷ list) master seals = entries_seal list (apply_entry master entry).master (entry_seals master entry seals)

  -- ---- what waited

  all_going_on_seals : (master : Master) → Seals count master → Seals count (all_going_on master master.tablets)
  all_going_on_seals master seals =
      fold_keeps_all (Seals count) (λ (entry : ℕ × Tablet). IsSealedUnder count entry.1)
      (λ now entry. going_on_in now entry.0 entry.1 entry.1.handover.role) master.tablets master seals seals.1
      (λ now entry kept sealed.
      going_on_in_is (Seals count) now entry.0 entry.1 kept entry.1.handover.role
      (λ r is. seals_with_tablet count now entry.0 (with_handover entry.1 (record entry.1.handover { role = r })) kept sealed)
      (λ joins r is. seals_with_tablet count now entry.0 (with_handover entry.1 (record entry.1.handover { role = r })) kept sealed))

  -- ---- what a backup reported

  told_seals : (master : Master) (backup : ℕ) (stored : Stored) → Seals count master → Seals count (told_length master backup stored).master
  told_seals master backup stored seals =
      search (with_known, all_going_on_seals, apply_entries, newly_held, entries_seal, stored.segment, stored.length)

  pub stored_seals : (master : Master) (backup : ℕ) (stored : Stored) (beyond : Option Overreach) → Seals count master → Seals count (stored_taken master backup stored beyond).master
  stored_seals master backup stored None seals = told_seals master backup stored seals
  stored_seals master backup stored (Some beyond) seals = seals

-- What targets have sealed stays there when a master takes a request.

module _ (count : ℕ) (master : Master) (seals : Seals count master) where
  chosen_seals : (asked : ℕ) (call : Call) (choice : Choice) → Seals count (chosen master asked call choice).master
  chosen_seals asked call (Wants number) = search (seals_with_tablet, tablet_at, hash_of, sealed_at, call.key)
  chosen_seals asked call (Writes number) = search (seals_with_tablet, with_staged, item_of, tablet_at, counted_up, sealed_at)
  chosen_seals asked call _ = seals

  pub request_seals : (client : ℕ) (request : Request) → Seals count (request_taken master client request).master
  request_seals client request = chosen_seals request.tablet (call_of client request) (choice_of master (call_of client request))

module _ (count : ℕ) (master : Master) (seals : Seals count master) where
  there : (worked : Worked) → Seals count worked.master → SealsThere worked.master
  there worked kept = seals_there count worked.master kept

  client_there : (client : ℕ) (body : Body) → SealsThere (client_message master client body).master
  client_there client (bodies.Request request) = search (there, client_message, request_seals, bodies.Request)
  client_there client _ = seals_there count master seals

  order_there : (body : Body) → SealsThere (order master body).master
  order_there (bodies.Prepare prepare) = there (order master (bodies.Prepare prepare)) (prepare_seals count master seals prepare)
  order_there (bodies.Close tenure) = there (order master (bodies.Close tenure)) (close_seals count master seals tenure)
  order_there (bodies.Grant grant) = there (order master (bodies.Grant grant)) (grant_seals count master seals grant)
  order_there (bodies.Own tenure) = there (order master (bodies.Own tenure)) (own_seals count master seals tenure)
  order_there (bodies.Release tenure) = there (order master (bodies.Release tenure)) (release_seals count master seals tenure)
  order_there (bodies.Rebuild rebuild) = there (order master (bodies.Rebuild rebuild)) (rebuild_seals count master rebuild seals)
  order_there _ = seals_there count master seals

  peer_there : (sender : Node) (body : Body) → SealsThere (peer_message master sender body).master
  peer_there sender (bodies.Pull pull) = there (peer_message master sender (bodies.Pull pull)) (pull_seals count master sender pull seals)
  peer_there sender (bodies.Pulled pulled) = pulled_there count master seals pulled
  peer_there sender (bodies.Want want) = there (peer_message master sender (bodies.Want want)) (want_seals count master sender want seals)
  peer_there sender (bodies.Got message) = there (peer_message master sender (bodies.Got message)) (got_seals count master message seals)
  peer_there sender _ = seals_there count master seals

  backup_there : (backup : ℕ) (body : Body) → SealsThere (backup_message master backup body).master
  backup_there backup (bodies.Stored stored) =
      there (backup_message master backup (bodies.Stored stored))
      (stored_seals count master backup stored (overreach master.log stored.segment stored.length) seals)
  backup_there backup (bodies.Copy copy) = there (backup_message master backup (bodies.Copy copy)) (copy_seals count master copy seals)
  backup_there backup _ = seals_there count master seals

  told_there : (sender : Node) (body : Body) → SealsThere (told_master master sender body).master
  told_there sender body = grind (arith, client_there, order_there, peer_there, backup_there)

  -- a message
  pub step_there : (message : Message) → SealsThere (master_step master message).master
  step_there message = told_there message.from message.body
