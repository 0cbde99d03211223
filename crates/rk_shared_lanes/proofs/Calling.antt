-- A pass stays so when its client asks its next call.
use Rattle.rk_shared_lanes.proofs.Words.{◌≡◌, ℕ, Bool, true, false, List, None, Result, Ok, Err, arith, false≢true, Call, Op, Session}
use Rattle.rk_shared_lanes.proofs.Words.{next_call, with_next_call, IsLawfulCall, waiting, IsPass}
use Rattle.std.proofs.Common.{OnOk, OnErr}
use Rattle.rk_session.specs.declared.error.AskError.{AskError}
use Rattle.rk_laws_lanes.proofs.gathered.Orderly.{next_orderly}
use Rattle.rk_shared_lanes.proofs.Making.{next_makes}

module _ (tells : Type 0) (masters : ℕ) (makes : Call → Type 0) (session : Session) (counted : Bool) (got made : ℕ × ℕ)
    (it : IsPass tells masters makes (record { session = session; counted = counted }) got made) where
  -- if no call is outstanding, none is counted
  none_counted : session.outstanding ≡ None → counted ≡ false
  none_counted free = grind (arith, false≢true)

  with_call : (table : ℕ) (key : List ℕ) (op : Op) → IsLawfulCall (next_call session table key op) → (tells → makes (next_call session table key op)) → session.outstanding ≡ None
      → IsPass tells masters makes (record { session = with_next_call session table key op; counted = counted }) got made
  with_call table key op lawful its free = grind (arith, waiting, next_makes, next_orderly)

  pub pass_calling : (table : ℕ) (key : List ℕ) (op : Op) (now : Session) (answer : Result ℕ AskError) → IsLawfulCall (next_call session table key op)
      → (tells → makes (next_call session table key op))
      → OnOk answer (now ≡ with_next_call session table key op) → OnOk answer (session.outstanding ≡ None) → OnErr answer (now ≡ session)
      → IsPass tells masters makes (record { session = now; counted = counted }) got made
  pass_calling table key op now answer lawful its ok free err = grind (arith, with_call)

  pub calling_uncounted : (answer : Result ℕ AskError) → OnOk answer (session.outstanding ≡ None) → OnOk answer (counted ≡ false)
  calling_uncounted (Ok seq) free = none_counted free
  calling_uncounted (Err error) free = tt
