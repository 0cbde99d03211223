-- What the coordinator makes of a message, case by case: what is so of each of these is so of all that it makes of messages.
use Rattle.std.proofs.Common.{arith, Option, Some, [], false, ℕ, ◌∷◌, ◌≡◌}
use Rattle.rk_inv_base.proofs.Words.{Body, Coordinated, Coordinator, Node, Ready, Rebuilt, Row, Tenure, Transfer, about, answered, at_term}
use Rattle.rk_inv_base.proofs.Words.{is_noticed, joined_in, located, own_to, place_noted, ready_in, rebuilt_in, release_to, row_moved}
use Rattle.rk_inv_base.proofs.Words.{row_of, row_owned, row_with, told_coordinator, transfer_in, unanswered, cond_both}
use Rattle.rk_message.specs.declared.calls.Lookup.{Lookup}
use Rattle.rk_inv_wellformed.proofs.maps.Lists.{by_found}

-- something of a message and of what the coordinator makes of it
pub record IsMade (C : Body → Coordinated → Type 0) (coordinator : Coordinator) : Type 0 where
  pub silent : (body : Body) → C body (unanswered coordinator)
  pub locates : (lookup : Lookup) (sender : Node) (row : Option Row) → C (Body.Lookup lookup) (answered coordinator (located sender row))
  pub notes : (message : Ready) (row : Row) (source sfrom target : ℕ)
      → C (Body.Ready message) (unanswered (place_noted coordinator row source sfrom target message.place))
  pub moves : (message : Transfer) (row : Row) (source sfrom target dfrom : ℕ)
      → C (Body.Transfer message)
      (unanswered (row_moved coordinator row source sfrom target dfrom (record { floor = message.floor; ends = message.ends })))
  pub joins : (tenure : Tenure) (row : Row) (source target dfrom : ℕ) → is_noticed coordinator target ≡ false
      → C (Body.Joined tenure) (answered (row_owned coordinator row target dfrom) (own_to target row ∷ release_to source row ∷ []))
  pub joins_again : (tenure : Tenure) (row : Row) (master : ℕ) → C (Body.Joined tenure) (answered coordinator (own_to master row ∷ []))
  pub rebuilds : (message : Rebuilt) (row : Row) (to : ℕ) → is_noticed coordinator to ≡ false
      → C (Body.Rebuilt message)
      (record { coordinator = row_owned coordinator row to message.place; sends = own_to to row ∷ []; rebuilt = Some message })
  pub rebuilds_again : (message : Rebuilt) (row : Row) (master : ℕ) → C (Body.Rebuilt message) (answered coordinator (own_to master row ∷ []))

module _ {C : Body → Coordinated → Type 0} {coordinator : Coordinator} (made : IsMade C coordinator) where
  pub told_made : (sender : Node) (body : Body) → C body (told_coordinator coordinator sender body)
  told_made sender body =
      grind (arith, row_with, ready_in, transfer_in, joined_in, rebuilt_in, about, at_term, row_of, cond_both, is_noticed, by_found)
