-- A master that chose to write, or to refuse, may stage the call: it answers calls for the key, the call is its client's last, has no
-- record and is not staged, and what truth and rest leave at its key allows the end.
use Rattle.std.proofs.Common.{Bool, List, None, Option, Some, ap, cond, subst, sym, true, ℕ, ◌∙◌, ◌≡◌}
use Rattle.rk_model.specs.History.{record_of as map_record_of}
use Rattle.rk_inv_base.proofs.Words.{Allowed, Call, Choice, HasSegmentLeft, Held, IsMaster, IsSound, IsWellFormed, Master, Outcome, Refuses}
use Rattle.rk_inv_base.proofs.Words.{Request, Tablet, View, WasAsked, World, Writes, call_of, end_of_item, found, get, hash_of, is_known}
use Rattle.rk_inv_base.proofs.Words.{is_mutation, items_of, lives, log_in, master_at, newest, option_or, outcome_of, record_of, refused_as}
use Rattle.rk_inv_base.proofs.Words.{staged, state_of, value_written, view}
use Rattle.rk_inv_base.proofs.Headlines.{sound_refused, sound_staged}
use Rattle.rk_inv_events.proofs.Words.{MayEndIn, next_version, refusal_staged_in, write_staged_in}
use Rattle.rk_inv_events.proofs.request.Choices.{IsFresh, fresh, staging_mutates}
use Rattle.rk_inv_events.proofs.request.Served.{IsServedAt, served_at}
use Rattle.rk_inv_events.proofs.write.Choosing.{FitsCall, fresh_fits}
use Rattle.rk_inv_events.proofs.write.Ending.{HasTablet, found_state, found_tells, left_at_key, may_end, version_above}
use Rattle.rk_inv_events.specs.request.Small.{choice_in, request_message}

module _ (w : World) (number master client : ℕ) (request : Request) (sound : IsSound w) (formed : IsWellFormed w) (alive : lives w master ≡ true)
    (there : get w.wire.messages number ≡ Some (request_message client master request)) where
  abbrev v : View
  v = view w

  abbrev own : Master
  own = master_at w master

  abbrev call : Call
  call = call_of client request

  here : IsMaster w.coordinator.masters master
  here = (formed.wire.each number (request_message client master request) there).to

  module _ (choice : Choice) (its : IsFresh (master_at w master) (call_of client request) choice) (mutates : is_mutation (call_of client request).op ≡ true) where
    -- calls for the key are answered here
    at : IsServedAt w master call.table call.key its.number its.tablet
    at = served_at w master call.table call.key its.number its.tablet sound formed here alive its.serves

    has_tablet : HasTablet v master at.served.row.tablet its.tablet
    has_tablet = record {
      handover = ap (λ (t : Tablet). t.handover) (sym at.tablet_is);
      pulling = ap (λ (t : Tablet). t.pulling) (sym at.tablet_is);
      completions = ap (λ (t : Tablet). t.completions) (sym at.tablet_is);
    }

    -- ---- the call

    was_asked : WasAsked (v.asked client) v.journal call
    was_asked = (sound.asked.sent number (request_message client master request) there).was_asked

    -- what it finds is the newest staged item, else that of the records
    state_is : state_of own call ≡ found_state v sound master call at.served
    state_is =
        ap
        (λ (b : Bool). option_or (cond b (newest (items_of (staged own)) call.table call.key) None) (found call.table call.key own.records)) mutates

    tells : is_known its.tablet (hash_of call.key) (state_of own call) ≡ true
        → record_of (state_of own call) ≡ map_record_of (left_at_key v sound master call at.served)
    tells known = ap record_of state_is
        ∙ found_tells v sound master call at.served its.tablet has_tablet
        (subst (λ (o : Option Held). is_known its.tablet (hash_of call.key) o ≡ true) state_is known)

    fits : FitsCall its.number (v.handovers master at.served.row.tablet).counter call (left_at_key v sound master call at.served) choice
    fits = subst (FitsCall its.number (v.handovers master at.served.row.tablet).counter call (left_at_key v sound master call at.served))
        its.choice_is
        (fresh_fits its.number (v.handovers master at.served.row.tablet).counter call its.tablet (state_of own call)
        (left_at_key v sound master call at.served) tells (version_above v sound master call at.served))

    ends : (outcome : Outcome) → Allowed (left_at_key v sound master call at.served) call.op outcome → MayEndIn v at.served.row call outcome
    ends = may_end v sound master call at.served its.tablet.completions has_tablet.completions at.order (its.new mutates) mutates
        (its.unstaged mutates) was_asked

  -- ---- what is staged

  module _ (room : HasSegmentLeft (log_in w master)) where
    pub sound_written : (tablet : ℕ) → choice_in w master client request ≡ Writes tablet
        → IsSound (write_staged_in w master tablet call (value_written call.op))
    sound_written tablet chose =
        let value : Option (List ℕ) = value_written call.op in
        let its = fresh own call (Writes tablet) tt chose in
        let mutates = staging_mutates its.number its.tablet call (state_of own call) (Writes tablet) its.choice_is (λ none. none) in
        let its_row = at (Writes tablet) its mutates in
        let fit = fits (Writes tablet) its mutates in
        subst (λ (n : ℕ). IsSound (write_staged_in w master n call value)) (its_row.number_is ∙ sym fit.number_is)
        (sound_staged w master call value sound
        (record {
          served = its_row.served;
          ends = ends (Writes tablet) its mutates (outcome_of (end_of_item (next_version v master its_row.served.row) value)) fit.allowed;
          room = room;
          leaves = fit.leaves;
        }))

    pub sound_refusal : (there : ℕ) (absent : Bool) → choice_in w master client request ≡ Refuses there absent → IsSound (refusal_staged_in w master call there absent)
    sound_refusal there absent chose =
        let its = fresh own call (Refuses there absent) tt chose in
        let mutates = staging_mutates its.number its.tablet call (state_of own call) (Refuses there absent) its.choice_is (λ none. none) in
        let fit = fits (Refuses there absent) its mutates in
        sound_refused w master call there absent sound
        (record {
          served = (at (Refuses there absent) its mutates).served;
          ends = ends (Refuses there absent) its mutates (refused_as there absent) fit.allowed;
          room = room;
          leaves = fit.leaves;
        })
