-- Justified refusals: when a call may be answered Moved or NotYet.
use Rattle.std.specs.Prelude.{◌≡◌, ◌≤◌, ℕ, true, false, None, All}
use Rattle.rk_types.specs.Hashing.{hash_of, bucket_of}
use Rattle.rk_types.specs.declared.call.Call.{Call}
use Rattle.rk_table.specs.Items.{found}
use Rattle.rk_transfer.specs.declared.role.Role.TheVariants as roles
use Rattle.rk_priority.specs.Hashes.{contains}
use Rattle.rk_world.specs.Ranges.{has_key}
use Rattle.rk_world.specs.Master.{Master, tablet_at, serves_key}
use Rattle.rk_world.specs.Requests.{needs_state, state_of}

-- Moved may be answered only if no tablet that is served here has the key
abbrev pub MayAnswerMoved : Master → Call → Type 0
MayAnswerMoved master call = All (λ entry. serves_key call.table call.key entry.1 ≡ false) master.tablets

-- NotYet may be answered only for a record that may not have arrived: the tablet pulls, the call needs to know what is
-- there, neither the records nor a staged item shows it, and neither its hash nor its bucket has come whole
pub record MayAnswerNotYet (master : Master) (call : Call) (number : ℕ) : Type 0 where
  pub receiving : (tablet_at master number).handover.role ≡ roles.Receiving
  pub key_here : has_key (tablet_at master number).handover.range call.table call.key ≡ true
  pub needs : needs_state call.op ≡ true
  pub absent : found call.table call.key master.records ≡ None
  pub undecided : state_of master call ≡ None
  pub unresolved : contains (tablet_at master number).pulling.hashes.resolved (hash_of call.key) ≡ false
  pub not_passed : (tablet_at master number).pulling.token.bucket ≤ bucket_of (hash_of call.key)
