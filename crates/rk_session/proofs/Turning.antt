-- The turn of a session with an outstanding call, by the address that a request of it goes to.
use Rattle.std.proofs.Common.{arith, ◌≡◌, ℕ, eqb, Option, Some, None}
use Rattle.rk_types.specs.declared.call.Call.{Call}
use Rattle.rk_message.specs.declared.calls.Located.{Located}
use Rattle.rk_world.specs.Client.{Session, looking_up, range_of, requesting, session_turn, turn_by}
use Rattle.rk_session.specs.Turns.{address_of}

-- without an address the key is looked up
looks : (session : Session) (call : Call) (found : Option Located) → address_of session.requests found ≡ None → turn_by session call found ≡ looking_up session call
looks session call found is = grind (arith, eqb)

-- at an address a request is sent there
requests : (session : Session) (call : Call) (found : Option Located) (tablet master : ℕ) → address_of session.requests found ≡ Some (tablet, master)
    → turn_by session call found ≡ requesting session call tablet master
requests session call None tablet master is = cc
requests session call (Some located) tablet master is = grind (arith, eqb, session.requests, located.owner, located.tablet)

-- the turn, by the range that was found
turned : (before now : Session) (call : Call) (found : Option Located) → before ≡ now → before.outstanding ≡ Some call → found ≡ range_of before call
    → session_turn now ≡ Some (turn_by before call found)
turned before now call found same asked is = grind arith

-- the turn, if the key is looked up
pub turn_looks : (before now : Session) (call : Call) (found : Option Located) (address : Option (ℕ × ℕ)) → before ≡ now → before.outstanding ≡ Some call
    → found ≡ range_of before call → address ≡ address_of before.requests found → address ≡ None → session_turn now ≡ Some (looking_up before call)
turn_looks before now call found address same asked is addressed none = grind (arith, turned, looks)

-- the turn, if a request is sent
pub turn_requests : (before now : Session) (call : Call) (found : Option Located) (address : Option (ℕ × ℕ)) (tablet master : ℕ) → before ≡ now → before.outstanding ≡ Some call
    → found ≡ range_of before call → address ≡ address_of before.requests found → address ≡ Some (tablet, master) → session_turn now ≡ Some (requesting before call tablet master)
turn_requests before now call found address tablet master same asked is addressed there = grind (arith, turned, requests)
