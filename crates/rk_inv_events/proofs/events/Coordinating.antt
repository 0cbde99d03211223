-- A sound and well formed lane stays sound when a tablet is added, when one begins to move or is split, and when crashes are noticed.
use Rattle.std.proofs.Common.{All, Bool, Contains, List, None, Option, Some, [], ap, arith, eq-eqb, filter, fold, map, not, refl, subst}
use Rattle.std.proofs.Common.{suc, true, unwrap_or, zero, ℕ, ◌&&◌, ◌++◌, ◌+◌, ◌==◌, ◌∷◌, ◌≡◌, ◌≤◌, sym, ◌∙◌}
use Rattle.rk_world.specs.Migrations.{migrate_fault_by, migrate_fault_of}
use Rattle.rk_world.specs.Notices.{is_named}
use Rattle.rk_world.specs.Splits.{tablet_split, tablet_split_fault_by, tablet_split_fault_of}
use Rattle.rk_world.specs.declared.error.MoveError.TheVariants as moves
use Rattle.rk_world.specs.declared.error.StepError.TheVariants as errors
use Rattle.rk_world.specs.declared.event.Event.TheVariants as events
use Rattle.rk_inv_base.proofs.Words.{All-append, All-cons, All-contains, All-filter, All-head, All-map, All-nil, All-tail, All-weaker}
use Rattle.rk_inv_base.proofs.Words.{Coordinator, HasSome, IsFormedMaster, IsFormedRow, IsMaster, IsSound, IsWellFormed, Master, MayHappen}
use Rattle.rk_inv_base.proofs.Words.{Owned, Phase, Range, Row, Tablet, World, coordinator_notice, crashed_masters, get, has_crashed}
use Rattle.rk_inv_base.proofs.Words.{is_noticed, limits_of, master_at, migrating, new_master, new_row, no_tablet, notice_one, notice_order}
use Rattle.rk_inv_base.proofs.Words.{number_of, phase_noticed, range_with_len, refusal, row_migrated, row_noticed, row_of, tablet_at}
use Rattle.rk_inv_base.proofs.Words.{tablet_in, tablet_migrated, view, where_true, with_coordinator, IsInOrder, cond-true}
use Rattle.rk_inv_base.proofs.Headlines.{sound_crash_noticed, sound_migrated, sound_added}
use Rattle.rk_inv_wellformed.proofs.lanes.Events.{has_no_fault, no_inner, no_second}
use Rattle.rk_inv_rows.proofs.Headlines.{sound_split}
use Rattle.rk_inv_events.proofs.Words.{MayAdd, MayNotice, all_by, crash_noticed_in, filter_from, found_stands, kept_passes, tablet_added}
use Rattle.rk_inv_events.proofs.Words.{by_found}

-- ---- ranges of a well formed lane are not empty

module _ (w : World) (formed : IsWellFormed w) where
  -- what a new master has, and each that is well formed, each master of the lane has
  pub of_master : (P : Master → Type 0) (q : ℕ) → P (new_master q [])
      → ((m : Master) → get w.masters q ≡ Some m → IsFormedMaster (limits_of w) q m → P m) → P (master_at w q)
  of_master P q new each = by_found (λ found. P (unwrap_or found (new_master q []))) (get w.masters q) (λ none. new)
      (λ m is. each m is (formed.masters q m is))

  -- their tablets are in order
  pub tablets_order : (q : ℕ) → IsInOrder (master_at w q).tablets
  tablets_order q = of_master (λ m. IsInOrder m.tablets) q tt (λ m is its. its.tablets_order)

  -- so it is of their tablets
  pub of_tablet : (P : Tablet → Type 0) (q number : ℕ) → P no_tablet
      → ((m : Master) → IsFormedMaster (limits_of w) q m → (t : Tablet) → get m.tablets number ≡ Some t → P t) → P (tablet_in w q number)
  of_tablet P q number none each = of_master (λ m. P (tablet_at m number)) q none
      (λ m is its. by_found (λ found. P (unwrap_or found no_tablet)) (get m.tablets number) (λ absent. none) (each m its))

  -- the ranges of its rows are not empty
  pub rows_some : All (λ row. row.range.first ≤ row.range.last) w.coordinator.rows
  rows_some = All-weaker (IsFormedRow (limits_of w)) (λ row. row.range.first ≤ row.range.last) (λ row it. it.range.last.least_is)
      w.coordinator.rows formed.coordinator.rows

  tablets_some : (q tablet : ℕ) → 1 ≤ (tablet_in w q tablet).handover.term → HasSome (tablet_in w q tablet).handover.range
  tablets_some q tablet = of_tablet (λ t. 1 ≤ t.handover.term → HasSome t.handover.range) q tablet (λ begun. absurd (omega (arith, begun)))
      (λ m its t is begun. (its.tablets tablet t is).range.last.least_is)

-- ---- a tablet is added

module _ (w : World) (tablet : ℕ) (range : Range) (master : ℕ) (sound : IsSound w) (formed : IsWellFormed w) (may : MayHappen w (events.AddTablet tablet range master)) (none : refusal w (events.AddTablet tablet range master) ≡ None) where
  may_add : MayAdd (view w) (new_row tablet range master) master
  may_add =
      grind (arith, tablets_some)

  pub sound_tablet_added : IsSound (tablet_added w tablet range master)
  sound_tablet_added = sound_added w tablet range master sound may_add

-- ---- a tablet begins to move

module _ (w : World) (tablet to : ℕ) (sound : IsSound w) (may : MayHappen w (events.Migrate tablet to)) (none : refusal w (events.Migrate tablet to) ≡ None) where
  no_fault : migrate_fault_of w.coordinator (row_of w.coordinator.rows tablet) to ≡ None
  no_fault = no_inner errors.Move (migrate_fault_of w.coordinator (row_of w.coordinator.rows tablet) to)
      (no_second (where_true (has_crashed w to) (errors.Dead to)) _ (has_no_fault w (events.Migrate tablet to) none))

  begins : (row : Row) → Contains w.coordinator.rows row → (phase : Phase) → row.phase ≡ phase → migrate_fault_by w.coordinator row phase to ≡ None
      → IsSound (with_coordinator w (migrating w.coordinator row phase to))
  begins row stands (Owned owner from) is fits = sound_migrated w row to sound
      (record {
        has_row = stands;
        there = may;
        owner = owner;
        from = from;
        phase_is = is;
        another = λ same. absurd (cc (sym (cond-true (owner == to) (Some (moves.SameMaster to)) _ (eq-eqb owner to same)) ∙ fits));
      })
  begins row stands _ is fits = absurd (cc fits)

  pub sound_tablet_migrated : IsSound (with_coordinator w (tablet_migrated w.coordinator tablet to))
  sound_tablet_migrated =
      by_found (λ found. migrate_fault_of w.coordinator found to ≡ None → IsSound (with_coordinator w (row_migrated w.coordinator found to)))
      (row_of w.coordinator.rows tablet) (λ none fits. sound)
      (λ row is fits. begins row (found_stands w.coordinator.rows tablet row is) row.phase refl fits) no_fault

-- ---- a tablet is split

module _ (w : World) (tablet at new : ℕ) (sound : IsSound w) (none : refusal w (events.Split tablet at new) ≡ None) where
  no_split_fault : tablet_split_fault_of w.coordinator (row_of w.coordinator.rows tablet) at new ≡ None
  no_split_fault = no_inner errors.Move (tablet_split_fault_of w.coordinator (row_of w.coordinator.rows tablet) at new)
      (has_no_fault w (events.Split tablet at new) none)

  -- a row that may be split is owned
  halves : (row : Row) → Contains w.coordinator.rows row → (phase : Phase) → row.phase ≡ phase
      → tablet_split_fault_by w.coordinator row phase at new ≡ None → IsSound (tablet_split w row.tablet at new)
  halves row stands (Owned owner from) is fits = search (sound_split, no_inner, row.tablet)
  halves row stands _ is fits = absurd (cc fits)

  pub sound_event_split : IsSound (tablet_split w tablet at new)
  sound_event_split =
      by_found (λ found. tablet_split_fault_of w.coordinator found at new ≡ None → IsSound (tablet_split w tablet at new))
      (row_of w.coordinator.rows tablet) (λ none fits. absurd (cc fits))
      (λ row is fits.
      subst (λ (number : ℕ). IsSound (tablet_split w number at new)) (number_of w.coordinator.rows tablet row is)
      (halves row (found_stands w.coordinator.rows tablet row is) row.phase refl fits)) no_split_fault

-- ---- crashes are noticed

-- what holds of the view of a lane whose coordinator noticed crashes: who is noticed has crashed and is there, and the ranges stay
record MayAllBeNoticed (w : World) (dead : List ℕ) : Type 0 where
  each : All (λ master. IsMaster w.coordinator.masters master × (has_crashed w master ≡ true)) dead
  ranges : All (λ row. row.range.first ≤ row.range.last) w.coordinator.rows

may_notice : (w : World) (master : ℕ) → IsMaster w.coordinator.masters master × (has_crashed w master ≡ true)
    → All (λ row. row.range.first ≤ row.range.last) w.coordinator.rows → MayNotice (view w) master
may_notice w master (there, dead) ranges = record { there = there; crashed = ap not dead; ranges = ranges }

-- a row that is noticed keeps its range
range_stays : (row : Row) (phase : Option Phase) → row.range.first ≤ row.range.last → (row_noticed row phase).range.first ≤ (row_noticed row phase).range.last
range_stays row None some = some
range_stays row (Some phase) some = some

ranges_stay : (w : World) (dead : ℕ) → All (λ row. row.range.first ≤ row.range.last) w.coordinator.rows
    → All (λ row. row.range.first ≤ row.range.last) (notice_one w.coordinator dead).rows
ranges_stay w dead ranges =
    All-map (λ (row : Row). row.range.first ≤ row.range.last) (λ row. row_noticed row (phase_noticed (marked w) dead row.phase)) w.coordinator.rows
    (All-weaker (λ (row : Row). row.range.first ≤ row.range.last) _ (λ row some. range_stays row (phase_noticed (marked w) dead row.phase) some) w.coordinator.rows ranges)
  where
    marked : World → Coordinator
    marked it = record it.coordinator { noticed = it.coordinator.noticed ++ dead ∷ [] }

sound_all_noticed : (w : World) (dead : List ℕ) → IsSound w → MayAllBeNoticed w dead → IsSound (with_coordinator w (fold notice_one w.coordinator dead))
sound_all_noticed w [] sound may = sound
sound_all_noticed w (master ∷ dead) sound may =
    let Fits : ℕ → Type 0 = λ m. IsMaster w.coordinator.masters m × (has_crashed w m ≡ true) in
    sound_all_noticed (crash_noticed_in w master) dead
    (sound_crash_noticed w master sound (may_notice w master (All-head Fits master dead may.each) may.ranges))
    (record { each = All-tail Fits master dead may.each; ranges = ranges_stay w master may.ranges })

-- those of a list that a test finds
pub tested : {X : Type 0} (P : X → Type 0) (test : X → Bool) (list : List X) → All P list → All (λ x. P x × (test x ≡ true)) (filter test list)
tested P test list all = all_by (λ x. P x × (test x ≡ true)) (filter test list)
    (λ x stands. (All-contains P list x all (filter_from test list x stands), kept_passes test list x stands))

-- the masters from one on are those of their count
pub masters_from : (start count most : ℕ) → 1 ≤ start → start + count ≤ most + 1 → All (IsMaster most) (range_with_len start count)
masters_from start zero most first last = All-nil _
masters_from start (suc count) most first last =
    All-cons (IsMaster most) start (range_with_len (start + 1) count) (record { first = first; last = omega (arith, last) })
    (masters_from (start + 1) count most (omega (arith, first)) (omega (arith, last)))

module _ (w : World) (master : ℕ) (sound : IsSound w) (formed : IsWellFormed w) where
  -- who crashed is there
  crashed_there : All (λ m. IsMaster w.coordinator.masters m × (has_crashed w m ≡ true)) (crashed_masters w)
  crashed_there = tested (IsMaster w.coordinator.masters) (has_crashed w) (map (λ entry. entry.0) w.masters)
      (rw formed.masters_are (masters_from 1 w.coordinator.masters w.coordinator.masters (omega arith) (omega arith)))

  abbrev unnoticed : List ℕ
  unnoticed = filter (λ m. not (is_noticed w.coordinator m)) (crashed_masters w)

  in_order : All (λ m. IsMaster w.coordinator.masters m × (has_crashed w m ≡ true)) (notice_order w.coordinator.rows master unnoticed)
  in_order =
      let Fits : ℕ → Type 0 = λ m. IsMaster w.coordinator.masters m × (has_crashed w m ≡ true) in
      let each : All Fits unnoticed = All-filter (λ m. not (is_noticed w.coordinator m)) Fits (crashed_masters w) crashed_there in
      All-append Fits _ _ (All-filter (λ m. not (is_named w.coordinator.rows m)) Fits unnoticed each)
      (All-append Fits _ _ (All-filter (λ m. is_named w.coordinator.rows m && not (m == master)) Fits unnoticed each)
      (All-filter (λ m. is_named w.coordinator.rows m && (m == master)) Fits unnoticed each))

  pub sound_noticed : IsSound (with_coordinator w (coordinator_notice w.coordinator master (crashed_masters w)))
  sound_noticed = search (sound_all_noticed, notice_order, in_order, rows_some)
