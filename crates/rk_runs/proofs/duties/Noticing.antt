-- Once one crash is noticed, each master that has crashed was noticed, until the next one crashes.
use Rattle.std.proofs.Common.{◌≡◌, ◌==◌, ◌≤◌, ◌<◌, ◌+◌, ℕ, zero, suc, Bool, true, false, List, [], ◌∷◌, ◌++◌, fold, refl, sym, ap, subst}
use Rattle.std.proofs.Common.{◌∙◌, ⊎_elim, append-nil, append_assoc, arith, filter, not, eq-eqb, eqb-true, Contains}
use Rattle.rk_inv_base.proofs.Words.{and_from, cases_eq, or_left, or_right, All-contains, Any-from_list_any, list_any-append, list_any}
use Rattle.rk_inv_base.proofs.Words.{range_with_len, row_of, Row, Called, Coordinator, is_noticed, told_coordinator, IsWellFormed}
use Rattle.rk_inv_base.proofs.Words.{migrating, tablet_migrated, coordinator_notice, notice_one, notice_order, IsMaster, rows_split}
use Rattle.rk_inv_base.proofs.Words.{happened, World, crashed_masters, has_crashed, Event, list_any_at}
use Rattle.rk_inv_base.proofs.pulls.Joining.{stands_kept}
use Rattle.rk_types.specs.NumberMap.{numbers}
use Rattle.rk_runs.specs.duties.Owners.{AllNoticed, is_crash}
use Rattle.rk_runs.proofs.duties.Reports.{told_same}
use Rattle.rk_runs.proofs.duties.Walks.{EventKeeps, IsKept, Part}

-- ---- lists of masters

-- whether a master is among these
abbrev is_in : List ℕ → ℕ → Bool
is_in list master = list_any (λ other. other == master) list

in_right : (xs ys : List ℕ) (master : ℕ) → is_in ys master ≡ true → is_in (xs ++ ys) master ≡ true
in_right xs ys master inside = list_any-append (λ (other : ℕ). other == master) xs ys ∙ or_right (is_in xs master) (is_in ys master) inside

-- so it is in the list
in_there : (list : List ℕ) (master : ℕ) → is_in list master ≡ true → Contains list master
in_there list master inside =
    let found = Any-from_list_any (λ (other : ℕ). other == master) list inside in
    subst (Contains list) (eqb-true found.1 master found.4) (found.0, found.2, found.3)

-- it is among those that pass a test that it passes
in_filter : (test : ℕ → Bool) (list : List ℕ) (master : ℕ) → test master ≡ true → is_in list master ≡ true → is_in (filter test list) master ≡ true
in_filter test list master passes inside =
    let there = stands_kept test list master (in_there list master inside) passes in
    list_any_at (λ (other : ℕ). other == master) (filter test list) there.0 master there.1
    (ap (λ (other : ℕ). other == master) there.2 ∙ eq-eqb master master refl)

in_range : (start count master : ℕ) → start ≤ master → master < start + count → is_in (range_with_len start count) master ≡ true
in_range start zero master from to = absurd (omega (arith, from, to))
in_range start (suc count) master from to =
    ⊎_elim
    (λ (is : start ≡ master). or_left (start == master) (is_in (range_with_len (start + 1) count) master) (eq-eqb start master is))
    (λ (apart : start ≡ master → ⊥).
    or_right (start == master) (is_in (range_with_len (start + 1) count) master)
    (in_range (start + 1) count master (omega (arith, from, apart)) (omega (arith, to)))) (cases_eq start master)

-- ---- notices

-- all that are noticed in some order are added to those that were
noticed_after : (coordinator : Coordinator) (order : List ℕ) → (fold notice_one coordinator order).noticed ≡ coordinator.noticed ++ order
noticed_after coordinator [] = sym (append-nil coordinator.noticed)
noticed_after coordinator (dead ∷ order) =
    noticed_after (notice_one coordinator dead) order ∙ append_assoc coordinator.noticed (dead ∷ []) order

-- the order of the notices leaves nobody out
in_order : (rows : List Row) (dead : ℕ) (crashed : List ℕ) (master : ℕ) → is_in crashed master ≡ true → is_in (notice_order rows dead crashed) master ≡ true
in_order rows dead crashed master inside = grind (arith, in_filter, in_right, and_from, list_any-append, or_left)

module _ (w : World) where
  abbrev order : ℕ → List ℕ
  order dead = notice_order w.coordinator.rows dead (filter (λ other. not (is_noticed w.coordinator other)) (crashed_masters w))

  -- who was noticed before is noticed then
  noticed_still : (dead master : ℕ) → is_noticed w.coordinator master ≡ true → is_noticed (coordinator_notice w.coordinator dead (crashed_masters w)) master ≡ true
  noticed_still dead master was = grind (arith, noticed_after, list_any-append, or_left)

  module _ (formed : IsWellFormed w) where
    -- a master that has crashed is one of the lane's
    crashed_there : (master : ℕ) → has_crashed w master ≡ true → is_in (crashed_masters w) master ≡ true
    crashed_there master crashed =
        let there : IsMaster w.coordinator.masters master = All-contains (IsMaster w.coordinator.masters) w.crashed master formed.crashed (in_there w.crashed master crashed) in
        in_filter (has_crashed w) (numbers w.masters) master crashed
        (subst (λ (list : List ℕ). is_in list master ≡ true) (sym formed.masters_are)
        (in_range 1 w.coordinator.masters master there.first (omega (arith, there.last))))

    -- so each of them is noticed then
    pub all_noticed : (dead : ℕ) (called : Called) → AllNoticed (happened w (Event.Notice dead) called).world
    all_noticed dead called master crashed = go (is_noticed w.coordinator master) refl
      where
        go : (b : Bool) → is_noticed w.coordinator master ≡ b → is_noticed (coordinator_notice w.coordinator dead (crashed_masters w)) master ≡ true
        go true was = noticed_still dead master was
        go false was =
            subst (λ (list : List ℕ). is_in list master ≡ true) (sym (noticed_after w.coordinator (order dead)))
            (in_right w.coordinator.noticed (order dead) master
            (in_order w.coordinator.rows dead (filter (λ other. not (is_noticed w.coordinator other)) (crashed_masters w)) master
            (in_filter (λ other. not (is_noticed w.coordinator other)) (crashed_masters w) master (ap not was) (crashed_there master crashed))))

-- ---- until the next crash

-- each of these was noticed
abbrev pub AreNoticed : Part
AreNoticed crashed coordinator = (master : ℕ) → is_in crashed master ≡ true → is_noticed coordinator master ≡ true

module _ (w : World) (all : AllNoticed w) where
  same : (coordinator : Coordinator) → coordinator.noticed ≡ w.coordinator.noticed → AreNoticed w.crashed coordinator
  same coordinator is master crashed = ap (λ (list : List ℕ). is_in list master) is ∙ all master crashed

  pub kept : IsKept AreNoticed w
  kept = grind (arith, same, told_coordinator, told_same, tablet_migrated, row_of, rows_split, noticed_still, migrating)

  pub comes : (event : Event) → is_crash event ≡ false → EventKeeps AreNoticed w event
  comes event calm = grind arith
