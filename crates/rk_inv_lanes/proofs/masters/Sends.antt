-- What a master sends when it takes a message, other than a Request and a Stored: one message of a kind that fits at most.
use Rattle.std.proofs.Common.{arith, ℕ, Bool, List, [], cond, false, true, ◌∷◌}
use Rattle.rk_inv_base.proofs.Words.{Body, CopySegment, Got, Master, Message, Node, Prepare, Pull, Pulled, Tablet, Tenure, Want, Worked}
use Rattle.rk_inv_base.proofs.Words.{changed, copy_taken, from_master, is_frozen_at, order, peer_message, ready, sending, tablet_at}
use Rattle.rk_inv_base.proofs.Words.{transfer}

-- something of a message that is taken and of what is sent: it is so if nothing is sent, and if one of these messages is
pub record IsSaid (S : Body → List Message → Type 0) : Type 0 where
  pub silent : (body : Body) → S body []
  pub says_ready : (master : Master) (prepare : Prepare) (from : ℕ) → S (Body.Prepare prepare) (ready master prepare.tenure from ∷ [])
  pub says_transfer : (master : Master) (tenure : Tenure) (tablet : Tablet) → S (Body.Close tenure) (transfer master tenure tablet ∷ [])
  pub says_pulled : (master : Master) (sender : Node) (pull : Pull) (pulled : Pulled)
      → S (Body.Pull pull) (from_master master sender (Body.Pulled pulled) ∷ [])
  pub says_got : (master : Master) (sender : Node) (want : Want) (message : Got)
      → S (Body.Want want) (from_master master sender (Body.Got message) ∷ [])

module _ {S : Body → List Message → Type 0} (said : IsSaid S) where
  either_sends : (body : Body) (test : Bool) (one other : Worked) → S body one.sends → S body other.sends → S body (cond test one other).sends
  either_sends body true one other first second = first
  either_sends body false one other first second = second

  -- ---- the coordinator

  pub order_sends : (master : Master) (body : Body) → S body (order master body).sends
  order_sends master body =
      grind arith

  -- ---- other masters, and backups

  pub peer_sends : (master : Master) (sender : Node) (body : Body) → S body (peer_message master sender body).sends
  peer_sends master sender (Body.Pull pull) =
      grind (arith, either_sends, is_frozen_at, tablet_at, sending, changed, pull.tenure.tablet, pull.tenure.term)
  peer_sends master sender (Body.Want want) =
      grind (arith, either_sends, is_frozen_at, tablet_at, sending, changed, want.tenure.tablet, want.tenure.term)
  peer_sends master sender (Body.Pulled pulled) =
      grind arith
  peer_sends master sender (Body.Got message) =
      grind arith
  peer_sends master sender body = said.silent body

  pub copy_sends : (master : Master) (copy : CopySegment) → S (Body.Copy copy) (copy_taken master copy).sends
  copy_sends master copy =
      grind arith
