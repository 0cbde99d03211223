-- A good lane stays good when a client takes its turn there, and when it takes an answer.
use Rattle.std.proofs.Common.{◌≡◌, ℕ, Bool, true, false, cond, Option, Some, None, Ok, refl, ap, ◌∙◌}
use Rattle.rk_inv_base.proofs.Words.{get, Call, Message, accept, accept_by, accepting, ask, ask_by, asking, is_asked_here, taking}
use Rattle.rk_inv_base.proofs.Words.{untouched, Session, MayAct, accept_refusal, ask_refusal, world_visited, World, StepError}
use Rattle.rk_world.specs.declared.event.Taken.{Taken}
use Rattle.rk_runs.proofs.history.Lanes.{asking_good, taking_good}
use Rattle.rk_runs.proofs.history.Runs.{clients_keep}
use Rattle.rk_laws_lanes.specs.GoodLane.{IsGoodLane}
use Rattle.rk_laws_lanes.proofs.OfRuns.{by_itself, in_runs}

module _ (masters number : ℕ) (w : World) (session : Session) (good : IsGoodLane masters number w) (may : MayAct masters session) where
  pub good_asks : IsGoodLane masters number (world_visited w (ask w session))
  good_asks = by_refusal (ask_refusal w session) refl
    where
      asked : ask_refusal w session ≡ None → (out : Option Call) → session.outstanding ≡ out → IsGoodLane masters number (asking w session out).world
      asked none None is = good
      asked none (Some call) is = by_itself (asking_good (in_runs good) clients_keep session may call is none).world

      by_refusal : (refused : Option StepError) → ask_refusal w session ≡ refused → IsGoodLane masters number (world_visited w (ask_by w session refused))
      by_refusal (Some error) is = good
      by_refusal None is = asked is session.outstanding refl

  module _ (message : ℕ) where
    pub good_accepts : IsGoodLane masters number (world_visited w (accept w message session))
    good_accepts = by_refusal (accept_refusal w message session.client (get w.wire.messages message)) refl
      where
        took : (found : Message) (here : Bool)
            → accept w message session ≡ Ok (cond here (taking w session found.body) (untouched w session (Some Taken.Ignored)))
            → IsGoodLane masters number (cond here (taking w session found.body) (untouched w session (Some Taken.Ignored))).world
        took found true is = by_itself (taking_good (in_runs good) clients_keep session may message found.body is).world
        took found false is = good

        accepted : accept_refusal w message session.client (get w.wire.messages message) ≡ None
            → (found : Option Message) → get w.wire.messages message ≡ found → IsGoodLane masters number (accepting w session found).world
        accepted none None is = good
        accepted none (Some found) is = took found (is_asked_here w session)
            (ap (accept_by w message session) none ∙ ap (λ (o : Option Message). Ok (accepting w session o)) is)

        by_refusal : (refused : Option StepError) → accept_refusal w message session.client (get w.wire.messages message) ≡ refused
            → IsGoodLane masters number (world_visited w (accept_by w message session refused))
        by_refusal (Some error) is = good
        by_refusal None is = accepted is (get w.wire.messages message) refl
