-- A sound lane stays sound when a master takes a Request, if it does so with what the master chooses at each living master. So it does
-- when a master answers and serves no call: it ignores the Request, redirects the client, or asks it to come again, once what the master
-- lacks of the key is wanted.
use Rattle.std.proofs.Common.{ap, not, subst, sym, true, ℕ, ◌≡◌}
use Rattle.rk_inv_base.proofs.Words.{Choice, Ignores, IsSound, Redirects, Request, Wants, World, answering, call_of, chosen, hash_of, lives}
use Rattle.rk_inv_base.proofs.Words.{master_at, to_master, view, with_master, worked_at}
use Rattle.rk_inv_base.proofs.Headlines.{sound_wanted}
use Rattle.rk_inv_events.proofs.events.Sending.{may_reply}
use Rattle.rk_inv_events.proofs.events.Working.{reached_or_lost, sound_changed, sound_sending, sound_unchanged}
use Rattle.rk_inv_events.specs.request.Small.{choice_in, request_message}

-- the world once a master did what this choice says with a Request
abbrev pub done_as : World → ℕ → ℕ → Request → Choice → World
done_as w master client request choice =
    (worked_at w master request.seen (chosen (master_at w master) request.tablet (call_of client request) choice)).world

pub sound_chosen : (w : World) (master client : ℕ) (request : Request) (choice : Choice) → IsSound w
    → choice_in w master client request ≡ choice
    → (lives w master ≡ true → IsSound (done_as w master client request choice))
    → IsSound (to_master w master (request_message client master request)).world
sound_chosen w master client request choice sound is done =
    reached_or_lost w master request.seen
    (chosen (master_at w master) request.tablet (call_of client request) (choice_in w master client request)) sound
    (λ alive. subst (λ (c : Choice). IsSound (done_as w master client request c)) (sym is) (done (ap not alive)))

-- ---- it serves no call

module _ (w : World) (master client : ℕ) (request : Request) (sound : IsSound w) where
  pub sound_ignored : IsSound (done_as w master client request Ignores)
  sound_ignored = sound_changed w master request.seen (master_at w master) (sound_unchanged w master sound)

  pub sound_redirected : IsSound (done_as w master client request Redirects)
  sound_redirected = search (master_at, sound_sending, answering, call_of, sound_unchanged, may_reply, view, with_master)

  pub sound_put_off : (number : ℕ) → IsSound (done_as w master client request (Wants number))
  sound_put_off number = search (master_at, hash_of, sound_sending, answering, call_of, sound_wanted, may_reply, view, with_master)
