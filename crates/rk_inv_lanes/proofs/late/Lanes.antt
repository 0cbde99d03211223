-- A lane in which a message comes late: nothing has changed but what is on the wire.
use Rattle.std.proofs.Common.{arith, ◌≡◌, ℕ, true, false, cond, [], ◌∷◌, Some, None, ◌==◌, eq-eqb, eqb-true, append-nil, refl}
use Rattle.rk_inv_base.proofs.Words.{row_of, Phase, Owned, Row, Tenure, Body, Coordinator, is_noticed, Coordinated, about, answered}
use Rattle.rk_inv_base.proofs.Words.{at_term, joined_in, own_to, report, row_for, unanswered, tenure_in, cond-false, cond-true, cond_both}
use Rattle.rk_inv_base.proofs.Words.{get, Node, with_message, Prepare, Message, Called, ready, transfer, Ledger, with_all_served}
use Rattle.rk_inv_base.proofs.Words.{with_marks, with_rebuilt, Master, master_step, Stepped, delivered_to, happened, ledger_after, losing}
use Rattle.rk_inv_base.proofs.Words.{seen_in, to_master, with_sends, worked_at, Worked, changed, World, has_crashed, master_at, tablet_in}
use Rattle.rk_inv_base.proofs.Words.{with_coordinator, with_ledger, Role, Event}
use Rattle.rk_inv_lanes.specs.late.Late.{IsLateReport, is_told_again, is_waited_for}
use Rattle.rk_inv_base.proofs.views.Masters.{same_of_each}
use Rattle.rk_inv_lanes.specs.late.Sent.{IsToldToOwn, order_to, report_of}
use Rattle.rk_inv_lanes.specs.late.Unchanged.{IsUnchanged, IsUntouched}
use Rattle.rk_inv_lanes.proofs.late.Orders.{Stays, says_ready, says_transfer, stays_quiet}
use Rattle.rk_inv_wellformed.proofs.maps.Lists.{either_way}

-- What the coordinator makes of a report that is late, or that no row waits for: it stays as it is, and at most sends an owner Own again.

-- ---- the row that a report speaks of

-- a report that comes late speaks of no row
no_row : (coordinator : Coordinator) (sender : ℕ) (tenure : Tenure) → IsLateReport coordinator sender tenure
    → row_for coordinator sender tenure ≡ None
no_row coordinator sender tenure holds = grind (arith, cond-true, is_noticed, at_term, row_of, cond_both)

-- a report speaks of the row that has its tablet and its term
row_is : (coordinator : Coordinator) (sender : ℕ) (tenure : Tenure) (row : Row) → is_noticed coordinator sender ≡ false
    → row_of coordinator.rows tenure.tablet ≡ Some row → row.term ≡ tenure.term → row_for coordinator sender tenure ≡ Some row
row_is coordinator sender tenure row heard found same = grind (arith, at_term, row_of, eq-eqb)

module _ (coordinator : Coordinator) (sender : ℕ) where
  -- ---- reports that come late

  pub report_late : (body : Body) (tenure : Tenure) → tenure_in body ≡ Some tenure → IsLateReport coordinator sender tenure
      → report coordinator sender body ≡ unanswered coordinator
  report_late body tenure says late = grind (arith, no_row, about, row_for)

  -- ---- reports that no row waits for

  about_row : (taken : Row → Coordinated) (stated tenure : Tenure) (row : Row) → Some stated ≡ Some tenure
      → row_of coordinator.rows tenure.tablet ≡ Some row → taken row ≡ unanswered coordinator
      → about coordinator taken (row_for coordinator sender stated) ≡ unanswered coordinator
  about_row taken stated tenure row says found quiet = grind (arith, row_of, is_noticed, about, unanswered)

  pub report_unawaited : (body : Body) (tenure : Tenure) (row : Row) → tenure_in body ≡ Some tenure
      → row_of coordinator.rows tenure.tablet ≡ Some row
      → is_waited_for row.phase sender body ≡ false → is_told_again row.phase sender body ≡ false
      → report coordinator sender body ≡ unanswered coordinator
  report_unawaited body tenure row says found other untold = grind (arith, about_row, cond-false)

  -- ---- an owner to which Own is sent again

  own_again : (row : Row) (master : ℕ) → (sender == master) ≡ true
      → cond (sender == master) (answered coordinator (own_to master row ∷ [])) (unanswered coordinator)
      ≡ answered coordinator (own_to sender row ∷ [])
  own_again row master here = grind (arith, cond-true, answered, own_to, unanswered, eqb-true)

  joined_again : (tenure : Tenure) (row : Row) (phase : Phase) → is_told_again phase sender (Body.Joined tenure) ≡ true
      → joined_in coordinator sender row phase ≡ answered coordinator (own_to sender row ∷ [])
  joined_again tenure row (Owned master from) here = own_again row master here
  joined_again tenure row _ here = absurd (cc here)

  pub report_told_again : (body : Body) (tenure : Tenure) (row : Row) → tenure_in body ≡ Some tenure
      → is_noticed coordinator sender ≡ false → row_of coordinator.rows tenure.tablet ≡ Some row → row.term ≡ tenure.term
      → is_told_again row.phase sender body ≡ true
      → report coordinator sender body ≡ answered coordinator (own_to sender row ∷ [])
  report_told_again body tenure row says heard found same again =
      grind (arith, row_for, row_is, tenure_in, report, answered, own_to, joined_again, own_again, about)

-- ---- a message that is delivered

-- what is so once its receiver has taken a message is so once that is delivered
pub comes : (P : World → Type 0) (w : World) (number : ℕ) (message : Message) (called : Called)
    → get w.wire.messages number ≡ Some message → P (delivered_to w message message.to called).world
    → P (happened w (Event.Deliver number) called).world
comes P w number message called there holds = rw there holds

pub comes_to : (P : World → Type 0) (w : World) (number master : ℕ) (message : Message) (called : Called)
    → get w.wire.messages number ≡ Some message → message.to ≡ Node.Master master → P (to_master w master message).world
    → P (happened w (Event.Deliver number) called).world
comes_to P w number master message called there its holds = comes P w number message called there (rw its holds)

-- what is so if the master has crashed, and once it has taken the message, is so once that has reached it
pub reaches : (P : World → Type 0) (w : World) (master : ℕ) (message : Message) → P (losing w).world
    → P (worked_at w master (seen_in message.body) (master_step (master_at w master) message)).world
    → P (to_master w master message).world
reaches P w master message lost taken = either_way (λ (stepped : Stepped). P stepped.world) (has_crashed w master) lost taken

-- ---- a master that stays as it is

-- without calls that were served and pieces that are marked the ledger stays as it is
ledger_same : (ledger : Ledger) (master seen : ℕ) (worked : Worked) → worked.served ≡ [] → worked.marked ≡ []
    → ledger_after ledger master seen worked ≡ ledger
ledger_same ledger master seen worked served marked = grind (arith, with_marks, with_all_served, append-nil)

module _ (w : World) (master : ℕ) where
  abbrev own : Master
  own = master_at w master

  pub unchanged : (seen : ℕ) (worked : Worked) → Stays own worked → IsUnchanged w (worked_at w master seen worked).world
  unchanged seen worked stays = record {
    masters = same_of_each (λ q m. m) w master worked.master stays.same;
    coordinator = refl;
    ledger = ledger_same w.ledger master seen worked stays.served stays.marked;
    backups = refl;
    crashed = refl;
  }

  pub untouched : (seen : ℕ) (worked : Worked) → worked ≡ changed own → IsUntouched w (worked_at w master seen worked).world
  untouched seen worked quiet = search (unchanged, stays_quiet, worked_at)

-- a message that is lost
pub lost : (w : World) → IsUntouched w (losing w).world
lost w = grind (arith, unchanged)

-- ---- messages to a master

module _ (w : World) (number master : ℕ) where
  -- what a living master makes of an order
  sends_as : (body : Body) (called : Called) (message : Message) → get w.wire.messages number ≡ Some (order_to master body)
      → has_crashed w master ≡ false
      → (worked_at w master (seen_in body) (master_step (master_at w master) (order_to master body))).world.wire ≡ with_message message w.wire
      → (happened w (Event.Deliver number) called).world.wire ≡ with_message message w.wire
  sends_as body called message there lives makes =
      grind (arith, comes_to, with_message, cond-false, has_crashed, losing, worked_at, seen_in, master_step, master_at)

  pub ready_again_sent : (prepare : Prepare) (from : ℕ) (called : Called)
      → get w.wire.messages number ≡ Some (order_to master (Body.Prepare prepare)) → has_crashed w master ≡ false
      → (tablet_in w master prepare.tenure.tablet).handover.term ≡ prepare.tenure.term
      → (tablet_in w master prepare.tenure.tablet).handover.role ≡ Role.Wanting from
      → (happened w (Event.Deliver number) called).world.wire ≡ with_message (ready (master_at w master) prepare.tenure from) w.wire
  ready_again_sent prepare from called there lives same wanting = grind (arith, sends_as, ready, master_at, worked_at, says_ready)

  pub transfer_sent : (tenure : Tenure) (called : Called)
      → get w.wire.messages number ≡ Some (order_to master (Body.Close tenure)) → has_crashed w master ≡ false
      → (tablet_in w master tenure.tablet).handover.term ≡ tenure.term
      → (tablet_in w master tenure.tablet).handover.role ≡ Role.Frozen
      → (happened w (Event.Deliver number) called).world.wire
      ≡ with_message (transfer (master_at w master) tenure (tablet_in w master tenure.tablet)) w.wire
  transfer_sent tenure called there lives same freeze = grind (arith, sends_as, transfer, master_at, tablet_in, worked_at, says_transfer)

-- ---- reports to the coordinator

-- the lane once the coordinator has made this of a message
abbrev coordinated : World → Coordinated → World
coordinated w taken = (with_sends (with_ledger (with_coordinator w taken.coordinator) (with_rebuilt w.ledger taken.rebuilt)) taken.sends).world

module _ (w : World) (number sender : ℕ) (body : Body) (tenure : Tenure) (called : Called) (there : get w.wire.messages number ≡ Some (report_of sender body)) (speaks : tenure_in body ≡ Some tenure) where
  made_as : (P : World → Type 0) (taken : Coordinated) → report w.coordinator sender body ≡ taken → P (coordinated w taken)
      → P (happened w (Event.Deliver number) called).world
  made_as P taken is holds = comes P w number (report_of sender body) called there (rw is holds)

  quiet : report w.coordinator sender body ≡ unanswered w.coordinator → IsUntouched w (happened w (Event.Deliver number) called).world
  quiet is = grind (arith, made_as, unanswered, unchanged)

  pub late_report_changes_nothing : IsLateReport w.coordinator sender tenure → IsUntouched w (happened w (Event.Deliver number) called).world
  late_report_changes_nothing late = quiet (report_late w.coordinator sender body tenure speaks late)

  module _ (row : Row) where
    pub unawaited_changes_nothing : row_of w.coordinator.rows tenure.tablet ≡ Some row
        → is_waited_for row.phase sender body ≡ false → is_told_again row.phase sender body ≡ false
        → IsUntouched w (happened w (Event.Deliver number) called).world
    unawaited_changes_nothing found other untold =
        quiet (report_unawaited w.coordinator sender body tenure row speaks found other untold)

    pub owner_told_again : is_noticed w.coordinator sender ≡ false
        → row_of w.coordinator.rows tenure.tablet ≡ Some row → row.term ≡ tenure.term
        → is_told_again row.phase sender body ≡ true
        → IsToldToOwn w sender row (happened w (Event.Deliver number) called).world
    owner_told_again heard found same again =
        made_as (IsToldToOwn w sender row) (answered w.coordinator (own_to sender row ∷ []))
        (report_told_again w.coordinator sender body tenure row speaks heard found same again)
        (record {
          unchanged = record { masters = λ q. refl; coordinator = refl; ledger = refl; backups = refl; crashed = refl };
          told = refl;
        })
