-- How a fresh mutation ends, by what its master chose: the record at its key allows it.
use Rattle.std.proofs.Common.{arith, ◌≡◌, ℕ, ◌<◌, Bool, true, List, Option, Some, None}
use Rattle.rk_inv_base.proofs.Words.{cond_both, ⊤, hash_of, Call, Op, Held, Allowed, change_of, last_version, record_of, map_entry_of}
use Rattle.rk_inv_base.proofs.Words.{end_of_item, outcome_of, fresh_choice, is_known, item_of, needs_state, operation, version_of, Tablet}
use Rattle.rk_inv_base.proofs.Words.{Choice, Writes, Refuses, refused_as, value_written}
use Rattle.rk_model.specs.History.{record_of as map_record_of}
use Rattle.rk_model.specs.Machine.{Entry as MapEntry}
use Rattle.rk_inv_events.proofs.Words.{not-false}

-- a call may write this value, for the tablet of a number, if the map has this entry at its key: it takes this version
pub record MayWrite (number version : ℕ) (call : Call) (entry : MapEntry) (other : ℕ) (value : Option (List ℕ)) : Type 0 where
  pub number_is : other ≡ number
  pub allowed : Allowed entry call.op (outcome_of (end_of_item version value))
  pub leaves : change_of call.op (outcome_of (end_of_item version value)) ≡ Some (map_entry_of (item_of call version value) value)

-- a call may be refused so, and leaves the map as it was
pub record MayFail (call : Call) (entry : MapEntry) (found : ℕ) (absent : Bool) : Type 0 where
  pub allowed : Allowed entry call.op (refused_as found absent)
  pub leaves : change_of call.op (refused_as found absent) ≡ None

-- what is staged by a choice is what the call may end with
abbrev pub FitsCall : ℕ → ℕ → Call → MapEntry → Choice → Type 0
FitsCall number version call entry (Writes other) = MayWrite number version call entry other (value_written call.op)
FitsCall number version call entry (Refuses found absent) = MayFail call entry found absent
FitsCall number version call entry _ = ⊤

module _ (number version : ℕ) (call : Call) where
  -- any operation, by the record that is found, which an operation that needs it has right
  operation_fits : (entry : MapEntry) (found : Option (ℕ × List ℕ)) (op : Op) → call.op ≡ op → (needs_state op ≡ true → found ≡ map_record_of entry)
      → last_version entry < version → FitsCall number version call entry (operation number op found)
  operation_fits entry found op is tells low = grind (arith, change_of, cond_both, version_of)

  -- what is done with a call that has not ended
  pub fresh_fits : (tablet : Tablet) (state : Option Held) (entry : MapEntry) → (is_known tablet (hash_of call.key) state ≡ true → record_of state ≡ map_record_of entry)
      → last_version entry < version → FitsCall number version call entry (fresh_choice number tablet call state)
  fresh_fits tablet state entry tells low =
      grind (arith, cond_both, needs_state, is_known, hash_of, operation, record_of, operation_fits, not-false)
