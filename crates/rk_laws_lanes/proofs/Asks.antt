-- What a client's turn counts: its call, if that was not asked in the lane before.
use Rattle.std.proofs.Common.{arith, ◌≡◌, ◌+◌, true, cond, Option, Some, ap}
use Rattle.rk_inv_base.proofs.Words.{cases_eq, get_other, get_same, Call, Located, Body, Message, asking, asking_by, fits_with, is_asked}
use Rattle.rk_inv_base.proofs.Words.{ledger_asked, ledger_requested, ClientTurn, Session, session_turn, turn_of, Ledger, is_added}
use Rattle.rk_inv_base.proofs.Words.{with_asked, World}
use Rattle.rk_world.specs.Client.{range_of, turn_by}
use Rattle.rk_laws_lanes.specs.Counts.{HasSameClients, IsAskedOnce, accepted_count}

-- what a turn leaves of a session
pub record IsSameAsking (session now : Session) : Type 0 where
  pub receipts : now.receipts ≡ session.receipts
  pub outstanding : now.outstanding ≡ session.outstanding
  pub seen : now.seen ≡ session.seen
  pub client : now.client ≡ session.client

pub turned_same : (session : Session) (call : Call) (found : Option Located) → IsSameAsking session (turn_by session call found).session
turned_same session call found = grind arith

-- what a call that is asked makes of a ledger
record IsAskedIn (ledger : Ledger) (session : Session) (call : Call) (now : Ledger) : Type 0 where
  pub accepted : accepted_count now ≡ accepted_count ledger
  pub asked : now.asked ≡ cond (is_asked ledger session call) ledger.asked (ledger.asked + 1)
  pub clients : HasSameClients ledger now

noted : (ledger : Ledger) (session : Session) (call : Call) → is_added ledger session.client ≡ true → IsAskedIn ledger session call (ledger_asked ledger session call)
noted ledger session call added = grind (arith, is_asked, with_asked, get_same, is_added, get_other, cases_eq)

-- a request that is saved changes none of these
saved : (ledger now : Ledger) (session : Session) (call : Call) (message : Message) (body : Body) → IsAskedIn ledger session call now
    → IsAskedIn ledger session call (ledger_requested now session.client message body)
saved ledger now session call message (Body.Request request) asked = record { accepted = asked.accepted; asked = asked.asked; clients = asked.clients }
saved ledger now session call message body asked = asked

module _ (w : World) (session : Session) (call : Call) (out : session.outstanding ≡ Some call) (added : is_added w.ledger session.client ≡ true) where
  turn_is : session_turn session ≡ Some (turn_by session call (range_of session call))
  turn_is = ap (turn_of session) out

  by_turn : (turned : ClientTurn) → IsSameAsking session turned.session → IsAskedOnce w session call (asking_by w session call (Some turned))
  by_turn turned same = grind (arith, saved, ledger_asked, noted)

  pub asked_once : fits_with w session call ≡ true → IsAskedOnce w session call (asking w session (Some call))
  asked_once holds = grind (arith, session_turn, turn_is, fits_with, by_turn, turned_same)
