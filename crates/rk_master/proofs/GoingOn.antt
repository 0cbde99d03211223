-- What was waited for goes on, at one tablet after the other.
use Rattle.rk_master.proofs.Words.{arith, ◌≡◌, ℕ, ◌+◌, true, false, List, length, drop, slice_get, Option, Some, None, is_some, refl, sym}
use Rattle.rk_master.proofs.Words.{append-nil, cond-true, cond-false, false≢true, joined, Handover, Role, Tablet, with_handover, Master}
use Rattle.rk_master.proofs.Words.{with_tablet, Worked, changed, all_going_on, Work, marks_of, tablet_of, tablets_of, worked_of, Row}
use Rattle.rk_transfer.specs.declared.role.Role.TheVariants as roles
use Rattle.rk_world.specs.Master.{is_settled}
use Rattle.rk_world.specs.Worked.{then_works}
use Rattle.rk_world.specs.Waiting.{freezing, closing_entry, closing_appended, is_sealed_stored, going_on_in}
use Rattle.rk_staged.proofs.Keeping.{from_place}

-- a tablet of which nothing is staged freezes
pub frozen_so : (master : Master) (number : ℕ) (tablet : Tablet) (handover : Handover) (moved : Option Handover) → moved ≡ Some handover
    → is_settled master tablet.handover.range ≡ true → freezing master number tablet moved ≡ with_tablet master number (with_handover tablet handover)
frozen_so master number tablet handover moved is settled = grind (arith, cond-true)

-- a target whose side segments are stored appends its closing entry
pub closed_so : (master : Master) (number : ℕ) (tablet : Tablet) (handover : Handover) → is_sealed_stored master tablet ≡ true
    → joined tablet.handover tablet.handover.term (Some (length master.log.entries)) ≡ Some handover
    → going_on_in master number tablet (roles.Joining None) ≡ closing_appended master number tablet handover
closed_so master number tablet handover stored is = grind (arith, cond-true, joined)

-- and one whose side segments are not waits
pub still_waits : (master : Master) (number : ℕ) (tablet : Tablet) → is_sealed_stored master tablet ≡ false → going_on_in master number tablet (roles.Joining None) ≡ master
still_waits master number tablet not_stored =
    cond-false (is_sealed_stored master tablet) (closing_entry master number tablet (joined tablet.handover tablet.handover.term (Some (length master.log.entries)))) master not_stored

-- nothing is waited for in another role
pub waits_not : (master : Master) (number : ℕ) (tablet : Tablet) (role : Role) → (role ≡ roles.Closing → ⊥) → ((entry : Option ℕ) → role ≡ roles.Joining entry → ⊥)
    → master ≡ going_on_in master number tablet role
waits_not master number tablet role not_closing not_joining = grind arith

-- what is not there
pub not_there : (entry : Option ℕ) → is_some entry ≡ false → entry ≡ None
not_there None none = refl
not_there (Some place) none = absurd (false≢true (sym none))

-- ---- one tablet after the other

-- what was waited for went on at one more tablet
pub gone_on : (master after : Master) (rows : List Row) (at : ℕ) (row : Row) → slice_get rows at ≡ Some row
    → after ≡ going_on_in master row.0 (tablet_of row.1) row.1.handover.role
    → all_going_on after (tablets_of (drop (at + 1) rows)) ≡ all_going_on master (tablets_of (drop at rows))
gone_on master after rows at row there is = grind (arith, all_going_on, tablets_of, from_place)

-- what was waited for went on behind other work
pub went_on : (work : Work) (master after : Master) (worked : Worked) → worked_of master work ≡ worked → after ≡ all_going_on master master.tablets
    → worked_of after work ≡ then_works worked (λ now. changed (all_going_on now now.tablets))
went_on work master after worked made is = grind (arith, append-nil, marks_of, changed, all_going_on)
