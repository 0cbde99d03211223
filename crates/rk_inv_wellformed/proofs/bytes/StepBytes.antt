-- How many bytes a master has after a message: for a request, a grant and a rebuild an entry more, what the message brings, and at most
-- as many again as before for each tablet that changes.
use Rattle.std.proofs.Common.{◌≤◌, ◌<◌, ◌+◌, ◌*◌, ◌==◌, ℕ, [], length, Option, None, Some, refl, ap, arith}
use Rattle.rk_inv_wellformed.proofs.Words.{cond_both, hash_of, IsInOrder, Call, Node, completions_from, closed, frozen, Handover, Role}
use Rattle.rk_inv_wellformed.proofs.Words.{overreach, Grant, Prepare, Tenure, Body, IsFormedMaster, IsFormedBody, IsFormedGrant, Limits}
use Rattle.rk_inv_wellformed.proofs.Words.{Master, is_settled, log_bytes, tablet_at, unsealed_bytes, with_tablet, without_items}
use Rattle.rk_inv_wellformed.proofs.Words.{backup_message, client_message, order, peer_message, told_master, IsLawfulCall, range_below}
use Rattle.rk_inv_wellformed.proofs.Words.{range_from, call_of, choice_of, chosen, with_wanted, is_frozen_at, MOST_BYTES, has_parts}
use Rattle.rk_inv_wellformed.proofs.Words.{with_half, with_halves, with_split, Tablet, pulling_from, with_handover, without_merged}
use Rattle.rk_inv_wellformed.proofs.Words.{freezing, Worked, Choice, Wants, Writes, Refuses, granted, owned, prepared, released, refusal_of}
use Rattle.rk_inv_wellformed.proofs.Words.{LONGEST_LEFT, brought_by, with_call, pull_taken, want_taken}
use Rattle.rk_world.specs.Handovers as handovers
use Rattle.rk_inv_wellformed.proofs.bytes.EntryBytes.{carried_fits, held_fits, refused_fits}
use Rattle.rk_inv_wellformed.proofs.bytes.LogBytes.{bytes_appended, bytes_given_up, bytes_with_tablet, pulls_none, unsealed_at_most}
use Rattle.rk_inv_wellformed.proofs.bytes.PullBytes.{got_bytes, pulled_bytes}
use Rattle.rk_inv_wellformed.proofs.bytes.RebuildBytes.{copy_bytes, rebuild_bytes}
use Rattle.rk_inv_wellformed.proofs.bytes.Sizes.{below_fits, entries_few}
use Rattle.rk_inv_wellformed.proofs.bytes.TurnBytes.{stored_thrice}
use Rattle.rk_inv_wellformed.proofs.maps.{either_way}
use Rattle.rk_inv_wellformed.proofs.masters.Requests.{written_lawful}
use Rattle.rk_inv_wellformed.proofs.masters.Tablets.{tablet_with_same}
use Rattle.rk_inv_wellformed.proofs.masters.Work.{AreLimits}
use Rattle.rk_inv_wellformed.proofs.masters.Handovers.{formed_ends_few}

same_unsealed : (master : Master) (id : ℕ) (tablet : Tablet) → unsealed_bytes tablet ≤ log_bytes master → log_bytes (with_tablet master id tablet) ≤ log_bytes master + log_bytes master
same_unsealed master id tablet few = omega (arith, few, bytes_with_tablet master id tablet)

-- a tablet freezes, or stays
freezing_bytes : (master : Master) (id : ℕ) (tablet : Tablet) (moved : Option Handover) → log_bytes (freezing master id tablet moved) ≤ log_bytes master + unsealed_bytes tablet
freezing_bytes master id tablet moved = grind (arith, either_way, log_bytes, unsealed_bytes, is_settled, bytes_with_tablet, with_handover)

module _ (master : Master) (below : log_bytes master < MOST_BYTES) where
  -- what a master may have after a step that brings nothing
  abbrev BytesFit : Master → Type 0
  BytesFit now = log_bytes now ≤ 3 * log_bytes master + LONGEST_LEFT

  abbrev WorkedFits : Worked → Type 0
  WorkedFits worked = BytesFit worked.master

  -- and after a message that brings its bytes
  risen : (body : Body) (now : Master) → BytesFit now → log_bytes now ≤ 3 * log_bytes master + LONGEST_LEFT + brought_by master body
  risen body now fits = omega (arith, fits)

  kept : BytesFit master
  kept = omega (arith, below)

  -- ---- a request

  chosen_fits : (asked : ℕ) {call : Call} (choice : Choice) → IsLawfulCall call → BytesFit (chosen master asked call choice).master
  chosen_fits asked {call} (Wants id) lawful =
      omega (arith, below, same_unsealed master id (with_wanted (tablet_at master id) (hash_of call.key)) (unsealed_at_most master id))
  chosen_fits asked {call} (Writes id) lawful =
      grind (arith, bytes_with_tablet, bytes_appended, held_fits, unsealed_at_most, written_lawful)
  chosen_fits asked {call} (Refuses found absent) lawful =
      grind (arith, bytes_appended, with_call, refusal_of, refused_fits, call.table, call.client, call.seq, call.key, lawful.key)
  chosen_fits asked _ lawful = kept

  -- ---- handovers

  moved_fits : (now : Master) (id : ℕ) (moved : Option Handover) → log_bytes now ≤ log_bytes master → BytesFit (handovers.with_move now id moved)
  moved_fits now id moved few = grind (arith, same_unsealed, without_merged, with_handover, tablet_at, unsealed_at_most)

  again_fits : (tenure : Tenure) (role : Role) (term : ℕ) → BytesFit (handovers.ready_again master tenure role term).master
  again_fits tenure (Role.Wanting from) term = either_way WorkedFits (term == tenure.term) kept kept
  again_fits tenure _ term = kept

  prepare_fits : (prepare : Prepare) → BytesFit (handovers.prepare_taken master prepare).master
  prepare_fits prepare =
      let id = prepare.tenure.tablet in
      let now = handovers.with_others_given_up (without_items master prepare.range) id prepare.range in
      either_way WorkedFits (handovers.is_greater master id prepare.tenure.term prepare.range)
      (moved_fits now id (prepared (tablet_at now id).handover prepare.tenure.term prepare.range (length master.log.entries))
      (bytes_given_up (without_items master prepare.range) id prepare.range))
      (again_fits prepare.tenure (tablet_at master id).handover.role (tablet_at master id).handover.term)

  closing_fits : (id : ℕ) (moved : Option Handover) → BytesFit (handovers.closing master id moved)
  closing_fits id None = kept
  closing_fits id (Some handover) =
      let closing : Tablet = without_merged (with_handover (tablet_at master id) handover) in
      let now = with_tablet master id closing in
      omega (
        arith,
        below,
        freezing_bytes now id (tablet_at now id) (frozen handover handover.term),
        same_unsealed master id closing (unsealed_at_most master id),
        ap unsealed_bytes (tablet_with_same master id closing),
        unsealed_at_most master id,
      )

  close_fits : (tenure : Tenure) → BytesFit (handovers.close_taken master tenure).master
  close_fits tenure = grind (arith, closed, tablet_at, closing_fits, either_way, is_frozen_at)

  granting_fits : {limits : Limits} {grant : Grant} (moved : Option Handover) → AreLimits limits → IsFormedGrant limits grant → BytesFit (handovers.granting master grant moved).master
  granting_fits None are told = kept
  granting_fits {limits} {grant} (Some handover) are told =
      omega (arith, below, are, bytes_with_tablet, pulls_none granted_tablet grant.source refl, bytes_appended, carried_fits (record { range = handover.range; term = handover.term; floor = grant.floor; ends = grant.ends }) (formed_ends_few grant.ends are told.told))
    where
      granted_tablet : Tablet
      granted_tablet = record (without_merged (tablet_at master grant.tenure.tablet)) {
        handover = handover;
        completions = completions_from [] grant.ends;
        pulling = pulling_from grant.source;
      }

  owning_fits : (id : ℕ) (moved : Option Handover) → BytesFit (handovers.owning master id moved).master
  owning_fits id None = kept
  owning_fits id (Some handover) =
      let tablet : Tablet = record (without_merged (tablet_at master id)) { handover = handover; pulling = pulling_from 0 } in
      omega (arith, below, bytes_with_tablet master id tablet, pulls_none tablet 0 refl)

  releasing_fits : (id : ℕ) (moved : Option Handover) → BytesFit (handovers.releasing master id moved).master
  releasing_fits id None = kept
  releasing_fits id (Some handover) = moved_fits (without_items master handover.range) id (Some handover) (omega arith)

  -- ---- what a master makes of a message

  client_fits : (limits : Limits) (client : ℕ) (body : Body) → IsFormedBody limits (Node.Client client) body → BytesFit (client_message master client body).master
  client_fits limits client (Body.Request request) says = chosen_fits request.tablet (choice_of master (call_of client request)) says.call
  client_fits limits client _ says = kept

  order_fits : {limits : Limits} {number : ℕ} (body : Body) → AreLimits limits → IsFormedMaster limits number master
      → IsFormedBody limits Node.Coordinator body → BytesFit (order master body).master
  order_fits (Body.Prepare prepare) are formed says = prepare_fits prepare
  order_fits (Body.Close tenure) are formed says = close_fits tenure
  order_fits (Body.Grant grant) are formed says =
      granting_fits (granted (tablet_at master grant.tenure.tablet).handover grant.tenure.term grant.floor) are says
  order_fits (Body.Own tenure) are formed says = grind (arith, owning_fits, owned, tablet_at, tenure.tablet, tenure.term)
  order_fits (Body.Release tenure) are formed says = grind (arith, releasing_fits, released, tablet_at, tenure.tablet, tenure.term)
  order_fits (Body.Rebuild rebuild) are formed says =
      omega (
        arith,
        below,
        rebuild_bytes are says
            (below_fits (length master.log.entries) (log_bytes master) (entries_few master) (omega (arith, below))) formed,
      )
  order_fits _ are formed says = kept

  peer_fits : (sender : ℕ) (body : Body) → IsInOrder master.tablets
      → log_bytes (peer_message master (Node.Master sender) body).master ≤ 3 * log_bytes master + LONGEST_LEFT + brought_by master body
  peer_fits sender body ordered =
      grind (arith, risen, pull_taken, either_way, is_frozen_at, tablet_at, kept, want_taken, pulled_bytes, got_bytes)

  backup_fits : {limits : Limits} {number : ℕ} (backup : ℕ) (body : Body) → AreLimits limits → IsFormedMaster limits number master
      → IsFormedBody limits (Node.Backup backup) body
      → log_bytes (backup_message master backup body).master ≤ 3 * log_bytes master + LONGEST_LEFT + brought_by master body
  backup_fits backup (Body.Stored stored) are formed says =
      omega (arith, stored_thrice backup stored (overreach master.log stored.segment stored.length) formed)
  backup_fits backup (Body.Copy copy) are formed says = omega (arith, copy_bytes are says formed)
  backup_fits backup other are formed says = risen other master kept

  -- a message: three times the bytes before it, an entry, and what it brings
  pub told_bytes : (limits : Limits) (number : ℕ) (sender : Node) (body : Body) → AreLimits limits → IsFormedMaster limits number master
      → IsFormedBody limits sender body
      → log_bytes (told_master master sender body).master ≤ 3 * log_bytes master + LONGEST_LEFT + brought_by master body
  told_bytes limits number (Node.Client client) body are formed says =
      risen body (client_message master client body).master (client_fits limits client body says)
  told_bytes limits number Node.Coordinator body are formed says =
      risen body (order master body).master (order_fits body are formed says)
  told_bytes limits number (Node.Master sender) body are formed says = peer_fits sender body formed.tablets_order
  told_bytes limits number (Node.Backup backup) body are formed says = backup_fits backup body are formed says

-- ---- a split

-- both parts of a tablet have its items
pub split_bytes : (master : Master) (tablet at new term : ℕ) → log_bytes (with_split master tablet at new term) ≤ 3 * log_bytes master
split_bytes master tablet at new term =
    let it = tablet_at master tablet in
    let lower = with_half it (range_below it.handover.range at) term in
    let upper = with_half it (range_from it.handover.range at) term in
    cond_both (has_parts it.handover.range at) (with_halves master tablet it at new term) master (λ (now : Master). log_bytes now ≤ 3 * log_bytes master)
    (λ parts.
    omega (
      arith,
      unsealed_at_most master tablet,
      bytes_with_tablet master tablet lower,
      bytes_with_tablet (with_tablet master tablet lower) new upper,
    ))
    (λ whole. omega arith)
