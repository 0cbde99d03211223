-- What a master makes of a message that comes late: it stays as it is, and at most says again what it said before.
use Rattle.std.proofs.Common.{◌≡◌, ◌<◌, ℕ, false, [], refl, sym, subst, arith, ◌⊎◌, eq-eqb, ne_eqb, nat_lt, le-ltb}
use Rattle.rk_inv_base.proofs.Words.{Node, Role, Prepare, Tenure, Body, and_left, and_right, close_taken, prepare_taken, ready, ready_again}
use Rattle.rk_inv_base.proofs.Words.{transfer, transferring, Master, tablet_at, told_master, is_frozen, is_frozen_at, Worked, changed}
use Rattle.rk_inv_base.proofs.Words.{sending, cond-false, cond-true}
use Rattle.rk_inv_lanes.specs.late.Late.{IsOfOtherTerm, IsOlder, IsPassedOver, kept_term, says_again}
use Rattle.rk_inv_events.proofs.Words.{is_above}
use Rattle.std.proofs.lemmas.List.Folds.{list_all_at}

-- ---- what stays

-- a master stays as it is, serves no call and marks no piece of its log
pub record Stays (master : Master) (worked : Worked) : Type 0 where
  pub same : worked.master ≡ master
  pub served : worked.served ≡ []
  pub marked : worked.marked ≡ []

pub stays_quiet : (master : Master) (worked : Worked) → worked ≡ changed master → Stays master worked
stays_quiet master worked quiet = subst (Stays master) (sym quiet) (record { same = refl; served = refl; marked = refl })

module _ (master : Master) where
  -- ---- what is said again

  -- what a master says again of an order that it passes over
  abbrev again : Body → Worked
  again (Body.Prepare prepare) =
      ready_again master prepare.tenure (tablet_at master prepare.tenure.tablet).handover.role (kept_term master prepare.tenure.tablet)
  again (Body.Close tenure) = transferring master tenure
  again _ = changed master

  ready_stays : (tenure : Tenure) (role : Role) (term : ℕ) → Stays master (ready_again master tenure role term)
  ready_stays tenure role term = grind (arith, ready, stays_quiet, changed)

  -- ---- what is passed over

  -- a message is passed over, or of a smaller term
  abbrev Skips : Body → Type 0
  Skips body = IsPassedOver master body ⊎ IsOlder master body

  -- it is of another term then
  is_other : (tenure : Tenure) → (IsOfOtherTerm master tenure ⊎ ⊥) ⊎ (tenure.term < kept_term master tenure.tablet) → IsOfOtherTerm master tenure
  is_other tenure holds = grind arith

  frozen_late : (tenure : Tenure) → (IsOfOtherTerm master tenure ⊎ ⊥) ⊎ (tenure.term < kept_term master tenure.tablet)
      → is_frozen_at (tablet_at master tenure.tablet) tenure.term ≡ false
  frozen_late tenure late = and_right _ _ (ne_eqb (kept_term master tenure.tablet) tenure.term (is_other tenure late))

  never : (⊥ ⊎ ⊥) ⊎ ⊥ → ⊥
  never holds = grind arith

  -- at most what was said is said again
  abbrev AtMost : Node → Body → Type 0
  AtMost sender body = (told_master master sender body ≡ changed master) ⊎ (told_master master sender body ≡ again body)

  at_most : (sender : Node) (body : Body) → Skips body → AtMost sender body
  at_most sender body skips =
      grind (arith, never, cond-false, changed, ne_eqb, is_other, frozen_late, and_left, and_right, nat_lt, is_above, le-ltb, list_all_at)

  pub passed_stays : (sender : Node) (body : Body) → IsPassedOver master body → Stays master (told_master master sender body)
  passed_stays sender body passed =
      grind (arith, told_master, changed, stays_quiet, at_most, ready_stays, tablet_at, is_frozen_at, transfer)

  pub passed_quiet : (sender : Node) (body : Body) → IsPassedOver master body → says_again master body ≡ false
      → told_master master sender body ≡ changed master
  passed_quiet sender body passed = grind (arith, told_master, changed, at_most, tablet_at, cond-false)

  pub older_quiet : (sender : Node) (body : Body) → IsOlder master body → told_master master sender body ≡ changed master
  older_quiet sender body older =
      grind (arith, and_right, ne_eqb, is_other, frozen_late, told_master, changed, at_most, tablet_at, cond-false)

  -- ---- orders that were followed before

  -- a target that waits for its grant says again that it is ready
  pub says_ready : (prepare : Prepare) (from : ℕ) → kept_term master prepare.tenure.tablet ≡ prepare.tenure.term
      → (tablet_at master prepare.tenure.tablet).handover.role ≡ Role.Wanting from
      → prepare_taken master prepare ≡ sending master (ready master prepare.tenure from)
  says_ready prepare from same wanting =
      grind (arith, ready_again, cond-true, eq-eqb, and_left, nat_lt, is_above, le-ltb, and_right, list_all_at)

  -- a source that is frozen hands its tablet over again
  pub says_transfer : (tenure : Tenure) → kept_term master tenure.tablet ≡ tenure.term
      → (tablet_at master tenure.tablet).handover.role ≡ Role.Frozen
      → close_taken master tenure ≡ sending master (transfer master tenure (tablet_at master tenure.tablet))
  says_transfer tenure same freeze =
      grind (arith, cond-true, is_frozen_at, tablet_at, is_frozen, eq-eqb, and_left, nat_lt, is_above, le-ltb, and_right, list_all_at)
