-- No event gives a row to a master that was noticed dead.
use Rattle.std.proofs.Common.{arith, ◌≡◌, ◌==◌, ℕ, true, false, List, [], ◌∷◌, ◌++◌, fold, Option, Some, None, refl, sym, ap, ◌∙◌, All}
use Rattle.std.proofs.Common.{option_map, ne_eqb}
use Rattle.rk_inv_base.proofs.Words.{cases_Bool, false≢true, All-contains, All-map, All-nil, All-weaker, list_any-append, list_any_none}
use Rattle.rk_inv_base.proofs.Words.{Range, add_fault, changed_rows, divided, lower_part, replaced, row_of, upper_part, Phase, Row, Called}
use Rattle.rk_inv_base.proofs.Words.{accept, ask, Session, Coordinator, is_noticed, new_row, migrating, notice_one, notice_order}
use Rattle.rk_inv_base.proofs.Words.{phase_noticed, row_noticed, refusal, where_true, world_stepped, world_visited, rows_split_of, step}
use Rattle.rk_inv_base.proofs.Words.{stepped_by, World, crashed_masters, has_crashed, new_world, StepError, Event}
use Rattle.std.proofs.lemmas.Bool.{eqb-false}
use Rattle.rk_tablet_map.specs.Rows.{split_rows}
use Rattle.rk_inv_wellformed.proofs.lanes.Events.{does_not_hold, has_no_fault, no_first}
use Rattle.rk_inv_wellformed.proofs.coordinator.Rows.{all_found, all_placed, all_replaced}
use Rattle.rk_inv_base.proofs.views.Lists.{all_by}
use Rattle.rk_runs.specs.duties.Owners.{IsNotOwnedBy, NoDeadOwner}
use Rattle.rk_runs.proofs.duties.Reports.{AreNotOwnedBy, changed_free, told_free}
use Rattle.rk_runs.proofs.duties.Walks.{EventKeeps, IsKept, Part, accept_keeps, ask_keeps, event_keeps}

-- ---- a crash is noticed

module _ (coordinator : Coordinator) (dead : ℕ) where
  abbrev marked : Coordinator
  marked = record coordinator { noticed = coordinator.noticed ++ dead ∷ [] }

  -- each row is rebuilt, or stays as it is
  row_free : (row : Row) (phase : Phase) → row.phase ≡ phase → IsNotOwnedBy coordinator.noticed phase → IsNotOwnedBy marked.noticed (row_noticed row (phase_noticed marked dead phase)).phase
  row_free row phase is heard = grind (arith, cases_Bool, ne_eqb, eqb-false, list_any-append)

  notice_free : NoDeadOwner coordinator → NoDeadOwner (notice_one coordinator dead)
  notice_free free =
      All-map (λ (row : Row). IsNotOwnedBy marked.noticed row.phase) (λ (row : Row). row_noticed row (phase_noticed marked dead row.phase)) coordinator.rows
      (all_by (λ (row : Row). IsNotOwnedBy marked.noticed (row_noticed row (phase_noticed marked dead row.phase)).phase) coordinator.rows
      (λ row stands.
      row_free row row.phase refl (All-contains (λ (r : Row). IsNotOwnedBy coordinator.noticed r.phase) coordinator.rows row free stands)))

notices_free : (order : List ℕ) (coordinator : Coordinator) → NoDeadOwner coordinator → NoDeadOwner (fold notice_one coordinator order)
notices_free [] coordinator free = free
notices_free (dead ∷ order) coordinator free = notices_free order (notice_one coordinator dead) (notice_free coordinator dead free)

-- ---- a tablet moves, or is split

module _ (coordinator : Coordinator) (free : NoDeadOwner coordinator) where
  abbrev HasNone : Row → Type 0
  HasNone row = IsNotOwnedBy coordinator.noticed row.phase

  divided_free : (tablet at new : ℕ) (found : Option Row) → row_of coordinator.rows tablet ≡ found → AreNotOwnedBy coordinator.noticed (divided found coordinator.rows tablet at new)
  divided_free tablet at new None is = free
  divided_free tablet at new (Some row) is =
      let none : HasNone row = all_found HasNone row tablet coordinator.rows is free in
      all_placed HasNone (upper_part row at new) (replaced tablet (lower_part row at) coordinator.rows) none
      (all_replaced HasNone (lower_part row at) tablet coordinator.rows none free)

  split_free : (tablet at new : ℕ) (found : Option Row) → row_of coordinator.rows tablet ≡ found → NoDeadOwner (rows_split_of coordinator found at new)
  split_free tablet at new None is = free
  split_free tablet at new (Some row) is =
      let none : HasNone row = all_found HasNone row tablet coordinator.rows is free in
      let parts = divided_free row.tablet at new (row_of coordinator.rows row.tablet) refl in
      changed_free coordinator.noticed (changed_rows (split_rows coordinator.rows row.tablet at new) row.tablet _ row.phase) new _ row.phase none
      (changed_free coordinator.noticed (split_rows coordinator.rows row.tablet at new) row.tablet _ row.phase none parts)

-- ---- lanes

-- no row of a lane is owned by a master that was noticed dead
abbrev pub IsFree : World → Type 0
IsFree w = NoDeadOwner w.coordinator

abbrev HasFreeRows : Part
HasFreeRows crashed coordinator = NoDeadOwner coordinator

module _ (w : World) (free : IsFree w) where
  kept : IsKept HasFreeRows w
  kept = grind (arith, told_free, row_of, split_free, notices_free, notice_order, is_noticed, crashed_masters, migrating, changed_free)

  -- a client's turn
  pub asked_free : (session : Session) → IsFree (world_visited w (ask w session))
  asked_free session = ask_keeps HasFreeRows w free session

  -- an answer
  pub accepted_free : (number : ℕ) (session : Session) → IsFree (world_visited w (accept w number session))
  accepted_free number session = accept_keeps HasFreeRows w free number session

  module _ (gone : All (λ dead. has_crashed w dead ≡ true) w.coordinator.noticed) where
    -- a master that lives was not noticed, if each master that was noticed has crashed
    lives_heard : (master : ℕ) → has_crashed w master ≡ false → is_noticed w.coordinator master ≡ false
    lives_heard master lives =
        list_any_none (λ (noticed : ℕ). noticed == master) w.coordinator.noticed
        (All-weaker (λ (dead : ℕ). has_crashed w dead ≡ true) (λ (noticed : ℕ). (noticed == master) ≡ false)
        (λ noticed crashed. ne_eqb noticed master (λ same. false≢true (sym lives ∙ ap (has_crashed w) (sym same) ∙ crashed)))
        w.coordinator.noticed gone)

    added_heard : (tablet : ℕ) (range : Range) (master : ℕ) → refusal w (Event.AddTablet tablet range master) ≡ None → is_noticed w.coordinator master ≡ false
    added_heard tablet range master none =
        lives_heard master
        (does_not_hold (has_crashed w master) (StepError.Dead master)
        (no_first (where_true (has_crashed w master) (StepError.Dead master)) (option_map StepError.Map (add_fault w.coordinator.rows (new_row tablet range master)))
        (has_no_fault w (Event.AddTablet tablet range master) none)))

    -- so a new tablet is that of a master that was not noticed
    comes : (event : Event) → refusal w event ≡ None → EventKeeps HasFreeRows w event
    comes (Event.AddTablet tablet range master) none =
        all_placed (λ (row : Row). IsNotOwnedBy w.coordinator.noticed row.phase) (new_row tablet range master) w.coordinator.rows
        (added_heard tablet range master none) free
    comes (Event.Crash master) none = free
    comes _ none = tt

    -- an event
    pub stepped_free : (event : Event) (called : Called) → IsFree (world_stepped w (step w event called))
    stepped_free event called = go (refusal w event) refl
      where
        go : (refused : Option StepError) → refusal w event ≡ refused → IsFree (world_stepped w (stepped_by w event called refused))
        go None none = event_keeps HasFreeRows w kept event called (comes event none)
        go (Some error) none = free

-- a lane in which nothing happened has no rows
pub new_free : (lane masters backups : ℕ) → IsFree (new_world lane masters backups)
new_free lane masters backups = All-nil _
