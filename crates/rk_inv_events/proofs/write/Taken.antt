-- A sound and well formed lane stays sound when a master takes a Request that is on the wire: when it stages nothing, and when it stages
-- its call. With room it does when any Request is delivered.
use Rattle.std.proofs.Common.{Bool, Option, Some, refl, subst, sym, ℕ, ◌≡◌}
use Rattle.rk_world.specs.Requests.{refusal_staged, value_written, write_staged}
use Rattle.rk_world.specs.declared.event.Event.TheVariants as events
use Rattle.rk_inv_base.proofs.Words.{Called, Choice, End, HasRoom, HasSegmentLeft, Ignores, IsMaster, IsSound, IsWellFormed, Message}
use Rattle.rk_inv_base.proofs.Words.{Outcome, Reads, Redirects, Refuses, Repeats, Request, RequestFits, Wants, World, Writes, call_of}
use Rattle.rk_inv_base.proofs.Words.{delivered, get, happened, log_in, master_at, to_master, view}
use Rattle.rk_inv_events.proofs.answer.Reading.{sound_read}
use Rattle.rk_inv_events.proofs.answer.Repeating.{sound_repeated}
use Rattle.rk_inv_events.proofs.events.Crashing.{segments_left}
use Rattle.rk_inv_events.proofs.events.Working.{sound_changed}
use Rattle.rk_inv_events.proofs.request.Answering.{sound_chosen, sound_ignored, sound_put_off, sound_redirected}
use Rattle.rk_inv_events.proofs.write.Staging.{sound_refusal, sound_written}
use Rattle.rk_inv_events.specs.answer.Small.{StagesNothing}
use Rattle.rk_inv_events.specs.request.Small.{choice_in, request_message}

module _ (w : World) (number master client : ℕ) (request : Request) (sound : IsSound w) (formed : IsWellFormed w)
    (there : get w.wire.messages number ≡ Some (request_message client master request)) where
  abbrev After : Type 0
  After = IsSound (to_master w master (request_message client master request)).world

  here : IsMaster w.coordinator.masters master
  here = (formed.wire.each number (request_message client master request) there).to

  asked : RequestFits (view w).asked (view w).journal client request
  asked = sound.asked.sent number (request_message client master request) there

  pub sound_told : (end : End) → choice_in w master client request ≡ Repeats end → IsSound (to_master w master (request_message client master request)).world
  sound_told end is = sound_chosen w master client request (Repeats end) sound is
      (λ alive. sound_repeated w master client request end sound formed here asked.was_asked is alive)

  pub sound_got : (outcome : Outcome) → choice_in w master client request ≡ Reads outcome → IsSound (to_master w master (request_message client master request)).world
  sound_got outcome is = sound_chosen w master client request (Reads outcome) sound is
      (λ alive. sound_read w master client request outcome sound formed here asked is alive)

  by_choice : (choice : Choice) → choice_in w master client request ≡ choice → StagesNothing choice → After
  by_choice Redirects is none = search (sound_chosen, sound_redirected)
  by_choice (Repeats end) is none = sound_told end is
  by_choice Ignores is none = sound_chosen w master client request Ignores sound is (λ alive. sound_ignored w master client request sound)
  by_choice (Wants tablet) is none = search (sound_chosen, sound_put_off)
  by_choice (Reads outcome) is none = sound_got outcome is
  by_choice _ is none = absurd none

  pub sound_answered : (called : Called) → StagesNothing (choice_in w master client request) → IsSound (delivered w (get w.wire.messages number) called).world
  sound_answered called none = subst (λ (o : Option Message). IsSound (delivered w o called).world) (sym there)
      (by_choice (choice_in w master client request) refl none)

  -- ---- its call is staged

  module _ (room : HasSegmentLeft (log_in w master)) where
    pub sound_write : (tablet : ℕ) → choice_in w master client request ≡ Writes tablet
        → IsSound (to_master w master (request_message client master request)).world
    sound_write tablet chose =
        let call = call_of client request in
        sound_chosen w master client request (Writes tablet) sound chose (λ alive.
        sound_changed w master request.seen (write_staged (master_at w master) tablet call (value_written call.op))
        (sound_written w number master client request sound formed alive there room tablet chose))

    pub sound_refuse : (found : ℕ) (absent : Bool) → choice_in w master client request ≡ Refuses found absent
        → IsSound (to_master w master (request_message client master request)).world
    sound_refuse found absent chose =
        sound_chosen w master client request (Refuses found absent) sound chose (λ alive.
        sound_changed w master request.seen (refusal_staged (master_at w master) (call_of client request) found absent)
        (sound_refusal w number master client request sound formed alive there room found absent chose))

  -- so it stays sound when any Request is delivered: a lane with room has a segment left
  pub sound_delivered : (called : Called) → HasRoom w → IsSound (happened w (events.Deliver number) called).world
  sound_delivered called room = by (choice_in w master client request) refl
    where
      delivers : IsSound (to_master w master (request_message client master request)).world → IsSound (happened w (events.Deliver number) called).world
      delivers = subst (λ (message : Option Message). IsSound (delivered w message called).world) (sym there)

      answers : StagesNothing (choice_in w master client request) → IsSound (happened w (events.Deliver number) called).world
      answers = sound_answered called

      by : (choice : Choice) → choice_in w master client request ≡ choice → IsSound (happened w (events.Deliver number) called).world
      by (Writes tablet) is = delivers (sound_write (segments_left w formed room master) tablet is)
      by (Refuses found absent) is = delivers (sound_refuse (segments_left w formed room master) found absent is)
      by _ is = answers (rw is tt)
