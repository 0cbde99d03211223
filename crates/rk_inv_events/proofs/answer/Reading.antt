-- A sound and well formed lane stays sound when a master answers a get: what it returns is what the journal leaves, and the read gets its
-- record at once.
use Rattle.std.proofs.Common.{List, None, Option, Some, [], ap, arith, eq-eqb, false, length, not, refl, slice_get, subst, sym, true, ℕ}
use Rattle.std.proofs.Common.{◌&&◌, ◌++◌, ◌||◌, ◌∙◌, ◌∷◌, ◌≡◌}
use Rattle.rk_model.proofs.Places.{slice_get_end}
use Rattle.rk_model.specs.History.{record_of as entry_record}
use Rattle.rk_model.specs.Machine.{Entry as MapEntry, gone, live as live_entry, read_of as machine_read}
use Rattle.rk_types.specs.declared.call.Answer.TheVariants as answers
use Rattle.rk_world.specs.Requests.{read_of}
use Rattle.rk_inv_base.proofs.Words.{Call, Held, IsMaster, IsSound, IsTruth, IsWellFormed, Ledger, Master, MaySend, Message, Outcome}
use Rattle.rk_inv_base.proofs.Words.{Placed, Reads, Request, RequestFits, Served, Tablet, View, World, answering, base_map, call_of}
use Rattle.rk_inv_base.proofs.Words.{choice_of, cond-false, cond-true, filled, found, hash_of, is_known, is_mutation, is_of_mutation}
use Rattle.rk_inv_base.proofs.Words.{items_of, lives, map_after, master_at, never, newest, next_record, place_of, record_of, staged}
use Rattle.rk_inv_base.proofs.Words.{state_of, tablet_in, truths, view, with_all_sent, with_all_served, with_ledger, with_marks}
use Rattle.rk_inv_base.proofs.Words.{with_master, with_mutation, with_record, Row}
use Rattle.rk_inv_base.proofs.Headlines.{sound_recorded}
use Rattle.rk_inv_events.proofs.Words.{MayRead, length_push, row_true, sound_sent, was_read}
use Rattle.rk_inv_events.proofs.answer.FoundItems.{has_arrived}
use Rattle.rk_inv_events.proofs.answer.RecordFound.{Knows, record_found}
use Rattle.rk_inv_events.proofs.events.Working.{marks_same, sound_unchanged, view_unchanged}
use Rattle.rk_inv_events.proofs.request.Answering.{done_as}
use Rattle.rk_inv_events.proofs.request.Choices.{IsFresh, IsRead, fresh, reads}
use Rattle.rk_inv_events.proofs.request.Served.{IsServedAt, served_at}
use Rattle.rk_inv_events.proofs.stored.StoredTaken.{may_tell_at, reply_to}

-- ---- what a read returns

-- what a read returns for an entry of the map is what it returns for the record that this leaves
reads_entry : (entry : MapEntry) → read_of (entry_record entry) ≡ machine_read entry
reads_entry never = refl
reads_entry (live_entry version value) = refl
reads_entry (gone version) = refl

-- ---- its record and its reply

-- a master may report the outcome of a read that has got the last record
module _ (v : View) (old : List Placed) (master seen : ℕ) (call : Call) (outcome : Outcome) (is_get : is_mutation call.op ≡ false) (journal_is : v.journal ≡ old ++ next_record old call outcome seen ∷ []) where
  abbrev served : List Served
  served = (record { call = call; outcome = outcome }) ∷ []

  abbrev new : Placed
  new = next_record old call outcome seen

  read_there : was_read served call.client call.seq ≡ true
  read_there i = (not (is_get i) && (eq-eqb call.client call.client refl i) && (eq-eqb call.seq call.seq refl i)) || false

  place_is : place_of v.journal served call.client call.seq ≡ Some (length old)
  place_is = grind (arith, cond-true, was_read, is_of_mutation, read_there, length_push)

  stands : slice_get v.journal (length old) ≡ Some new
  stands = ap (λ (list : List Placed). slice_get list (length old)) journal_is ∙ slice_get_end old new

  may_tell_read : MaySend v (filled v.journal served (reply_to master (record { call = call; outcome = outcome })))
  may_tell_read = may_tell_at v master served (record { call = call; outcome = outcome }) (length old) new place_is stands refl refl refl

-- ---- a master that reads

module _ (w : World) (master client : ℕ) (request : Request) (outcome : Outcome) (sound : IsSound w) (formed : IsWellFormed w) (there : IsMaster w.coordinator.masters master)
    (asked : RequestFits (view w).asked (view w).journal client request) (chose : choice_of (master_at w master) (call_of client request) ≡ Reads outcome) (alive : lives w master ≡ true) where
  abbrev v : View
  v = view w

  abbrev own : Master
  own = master_at w master

  abbrev call : Call
  call = call_of client request

  is_fresh : IsFresh (master_at w master) (call_of client request) (Reads outcome)
  is_fresh = fresh (master_at w master) (call_of client request) (Reads outcome) tt chose

  is_read : IsRead is_fresh.number is_fresh.tablet (call_of client request) (state_of (master_at w master) (call_of client request)) outcome
  is_read = reads is_fresh.number is_fresh.tablet (call_of client request) (state_of (master_at w master) (call_of client request)) outcome
      is_fresh.choice_is

  is_get : is_mutation request.op ≡ false
  is_get = ap is_mutation is_read.op_is

  -- calls for the key are answered here
  at : IsServedAt w master request.table request.key is_fresh.number is_fresh.tablet
  at = served_at w master request.table request.key is_fresh.number is_fresh.tablet sound formed there alive is_fresh.serves

  abbrev row : Row
  row = at.served.row

  -- what is found is what the truth leaves
  finds : state_of (master_at w master) (call_of client request) ≡ found request.table request.key (v.records master)
  finds = grind (arith, newest, items_of, staged, found, is_get)

  knows : Knows (view w) sound at.served.row master at.served.has_row alive at.served.serves request.table request.key at.served.in_row
  knows none =
      has_arrived (tablet_in w master row.tablet) request.table request.key
      (subst (λ (t : Tablet). is_known t (hash_of request.key) None ≡ true) (sym at.tablet_is)
      (subst (λ (o : Option Held). is_known is_fresh.tablet (hash_of request.key) o ≡ true) (finds ∙ none) is_read.known))

  truth : IsTruth v.base at.served.row.range (truths v at.served.row) v.journal
  truth = row_true v sound row at.served.has_row

  abbrev entry : MapEntry
  entry = map_after (base_map w.base) w.ledger.journal request.table request.key

  tells : outcome ≡ machine_read (map_after (base_map w.base) w.ledger.journal request.table request.key)
  tells = is_read.outcome_is ∙ ap (λ (o : Option Held). read_of (record_of o)) finds
      ∙ ap read_of (record_found (view w) sound row master at.served.has_row alive at.served.serves request.table request.key at.served.in_row knows)
      ∙ ap read_of (truth.live request.table request.key at.served.in_row) ∙ reads_entry entry

  may_read : MayRead (view w) master (call_of client request) request.seen outcome
  may_read = grind (arith, is_get, at, is_read, tells)

  -- the master as it was, and the ledger with the record
  abbrev same : World
  same = with_master w master (master_at w master)

  abbrev recorded : Ledger
  recorded = with_record w.ledger (call_of client request) outcome request.seen

  sound_recorded_there : IsSound (with_ledger (with_master w master (master_at w master)) recorded)
  sound_recorded_there = sound_recorded same master call request.seen outcome (sound_unchanged w master sound)
      (subst (λ (u : View). MayRead u master call request.seen outcome) (sym (view_unchanged w master)) may_read)

  ledger_is : with_marks (with_all_served request.seen w.ledger ((record { call = call_of client request; outcome = outcome }) ∷ [])) [] ≡ recorded
  ledger_is = grind (arith, with_marks, cond-false, is_mutation, with_mutation, is_get, marks_same)

  pub sound_read : IsSound (done_as w master client request (Reads outcome))
  sound_read =
      let one : List Served = (record { call = call; outcome = outcome }) ∷ [] in
      let message : Message = answering own call (answers.Done outcome) in
      subst (λ (l : Ledger). IsSound (with_all_sent (with_ledger same l) (filled l.journal one message ∷ []))) (sym ledger_is)
      (sound_sent (with_ledger same recorded) (filled recorded.journal one message) sound_recorded_there
      (may_tell_read (view (with_ledger same recorded)) w.ledger.journal own.number request.seen call outcome is_get refl))
