-- A sound and well formed lane stays sound when a master returns the outcome of a call that it knows to have ended.
use Rattle.std.proofs.Common.{arith}
use Rattle.std.proofs.lemmas.List.Folds.{find_at}
use Rattle.std.proofs.Common.{Bool, Contains, List, None, Some, [], ap, eq-eqb, eqb-true, find, length, lt-ltb, ltb, position, slice_get}
use Rattle.std.proofs.Common.{sym, true, ℕ, ◌∙◌, ◌≡◌}
use Rattle.rk_message.specs.declared.message.Body.TheVariants as bodies
use Rattle.rk_types.specs.declared.call.Answer.TheVariants as answers
use Rattle.rk_types.specs.declared.node.Node.TheVariants as nodes
use Rattle.rk_inv_base.proofs.Words.{Call, End, IsMaster, IsSound, IsWellFormed, MaySend, Repeats, Request, SoundView, Tablet, View}
use Rattle.rk_inv_base.proofs.Words.{WasAsked, World, and_from, and_parts, answering, call_of, choice_of, cond-true, false≢true, filled}
use Rattle.rk_inv_base.proofs.Words.{is_mutation, is_of_mutation, lives, look, master_at, outcome_of, slice_get-get_or, view, with_master}
use Rattle.rk_inv_base.proofs.Words.{slice_get_within}
use Rattle.rk_inv_events.proofs.Words.{position_or_len, none_of, find_passes, by_found}
use Rattle.rk_inv_events.proofs.answer.Ended.{HasRecord, has_record}
use Rattle.rk_inv_events.proofs.events.Working.{sound_sending, sound_unchanged}
use Rattle.rk_inv_events.proofs.request.Answering.{done_as}
use Rattle.rk_inv_events.proofs.request.Choices.{IsRepeated, repeats}
use Rattle.rk_inv_events.proofs.request.Served.{served_at}
use Rattle.rk_inv_events.proofs.stored.StoredTaken.{may_tell_at}

-- ---- the place of the first thing in a list that passes a test, if one does

record IsFirst {X : Type 0} (p : X → Bool) (xs : List X) : Type 0 where
  place : ℕ
  first : X
  place_is : position p xs ≡ Some place
  stands : slice_get xs place ≡ Some first
  passes : p first ≡ true

first_one : {X : Type 0} (p : X → Bool) (xs : List X) (x : X) → Contains xs x → p x ≡ true → IsFirst p xs
first_one {X} p xs x at passes =
    by_found (λ found. IsFirst p xs) (find p xs) (λ none. absurd (false≢true (sym (none_of p xs none x at) ∙ passes)))
    (λ first is.
    let place : ℕ = position_or_len p xs in
    let stands : slice_get xs place ≡ Some first = sym (find_at p xs) ∙ is in
    record {
      place = place;
      first = first;
      place_is = cond-true (ltb place (length xs)) (Some place) None (lt-ltb place (length xs) (slice_get_within xs place first stands));
      stands = stands;
      passes = find_passes p xs first is;
    })

-- ---- the outcome

-- a master may report the outcome of a mutation of which the journal has the record
module _ (v : View) (sound : SoundView v) (master : ℕ) (call : Call) (end : End) (has : HasRecord v.journal call end) where
  first : IsFirst (is_of_mutation call.client call.seq) v.journal
  first = search (first_one, is_of_mutation, and_from, is_mutation, eq-eqb)

  -- the first record of the mutation is the only one
  one_record : (first.first.call.client ≡ call.client) × (first.first.call.seq ≡ call.seq) × (first.first ≡ has.placed)
  one_record = grind (arith, and_parts, is_mutation, first, eqb-true, slice_get-get_or)

  may_tell : MaySend v
      (filled v.journal [] (record {
        from = nodes.Master master;
        to = nodes.Client call.client;
        body = bodies.Reply
            (record { seq = call.seq; stamp = 0; place = 0; answer = answers.Done (outcome_of end) });
      }))
  may_tell = grind (arith, may_tell_at, outcome_of, first, one_record)

module _ (w : World) (master client : ℕ) (request : Request) (end : End) (sound : IsSound w) (formed : IsWellFormed w) (there : IsMaster w.coordinator.masters master)
    (was_asked : WasAsked ((view w).asked client) (view w).journal (call_of client request)) (chose : choice_of (master_at w master) (call_of client request) ≡ Repeats end) (alive : lives w master ≡ true) where
  abbrev v : View
  v = view w

  abbrev call : Call
  call = call_of client request

  is_repeated : IsRepeated (master_at w master) (call_of client request) end
  is_repeated = repeats (master_at w master) (call_of client request) end chose

  in_journal : HasRecord w.ledger.journal (call_of client request) end
  in_journal =
      let found = is_repeated in
      let at = served_at w master request.table request.key found.number found.tablet sound formed there alive found.serves in
      has_record v sound at.served.row master call end at.served.has_row alive at.served.serves
      (ap (λ (t : Tablet). look t.completions client request.seq) at.tablet_is ∙ found.same) (rw at.tablet_is at.order)
      found.mutation at.served.in_row was_asked

  pub sound_repeated : IsSound (done_as w master client request (Repeats end))
  sound_repeated =
      let own = master_at w master in
      let now : IsSound (with_master w master own) = sound_unchanged w master sound in
      sound_sending w master request.seen own (answering own call (answers.Done (outcome_of end))) now
      (may_tell (view (with_master w master own)) now own.number call end in_journal)
