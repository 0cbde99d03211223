-- What a client's turn and an answer may come to in a lane, case by case: what is so after each of these is so after the visit.
use Rattle.std.proofs.Common.{arith, None, Option, Some, true, ℕ, ◌≡◌}
use Rattle.rk_inv_base.proofs.Words.{Body, Call, ClientTurn, Message, Session, Visited, World, accept, accept_by, accept_refusal, accepting}
use Rattle.rk_inv_base.proofs.Words.{ask, ask_by, ask_refusal, asking, asking_by, cond_both, fits_with, get, is_asked_here, session_turn}
use Rattle.rk_inv_base.proofs.Words.{taking, untouched, world_visited}
use Rattle.rk_world.specs.declared.event.Taken.{Taken}
use Rattle.rk_inv_wellformed.proofs.maps.Lists.{by_found}

module _ (V : Visited → Type 0) (w : World) (session : Session) where
  -- a turn changes nothing, or the outstanding call of a session that fits is asked
  pub asking_covered : V (untouched w session None)
      → ((call : Call) (turned : ClientTurn) → session.outstanding ≡ Some call → fits_with w session call ≡ true
      → session_turn session ≡ Some turned → V (asking_by w session call (Some turned)))
      → V (asking w session session.outstanding)
  asking_covered still asks = grind (arith, by_found, asking, cond_both, fits_with, asking_by, session_turn, untouched)

  -- a message changes nothing, or a client whose call was asked here takes it
  pub accepting_covered : (number : ℕ) → ((taken : Option Taken) → V (untouched w session taken))
      → ((message : Message) → get w.wire.messages number ≡ Some message → is_asked_here w session ≡ true → V (taking w session message.body))
      → V (accepting w session (get w.wire.messages number))
  accepting_covered number still takes = grind (arith, by_found, accepting, cond_both, is_asked_here, taking, untouched)

module _ (R : World → Type 0) (w : World) (session : Session) (now : R w) where
  -- so it is with the lane, also if the turn or the answer is refused
  pub ask_covered : ((call : Call) (turned : ClientTurn) → session.outstanding ≡ Some call → R (asking_by w session call (Some turned)).world)
      → R (world_visited w (ask w session))
  ask_covered asks = grind (arith, by_found, world_visited, ask_by, ask_refusal, asking_covered)

  pub accept_covered : (number : ℕ) → ((body : Body) → R (taking w session body).world) → R (world_visited w (accept w number session))
  accept_covered number takes = grind (arith, by_found, world_visited, accept_by, accept_refusal, accepting_covered)
