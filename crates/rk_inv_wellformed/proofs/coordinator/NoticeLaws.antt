-- The notice of a crash: the coordinator stays well formed, if one of the masters lives. Each row that has lost a master gets a master that
-- is there, so all that it covered is covered.
use Rattle.std.proofs.Common.{◌≡◌, ◌≤◌, ◌<◌, ◌+◌, ℕ, zero, suc, Bool, true, false, not, cond, ◌==◌, ◌&&◌, ◌||◌, List, [], ◌∷◌, ◌++◌, All}
use Rattle.std.proofs.Common.{IfSome, length, filter, find, get_or, fold, map, Option, None, Some, refl, sym, ap, subst, ◌∙◌, arith}
use Rattle.std.proofs.Common.{unwrap_or, length-append, ne_eqb}
use Rattle.rk_inv_wellformed.proofs.Words.{All-append, All-filter, All-head, All-map, All-push, All-tail, length-range_with_len}
use Rattle.rk_inv_wellformed.proofs.Words.{AllByRecursion, range_with_len, numbers, has, Member, IsTabletMap, is_covered, Phase, Moving}
use Rattle.rk_inv_wellformed.proofs.Words.{Opening, Owned, Rebuilding, Row, Coordinator, IsFormedCoordinator, IsFormedRow, IsWellFormed}
use Rattle.rk_inv_wellformed.proofs.Words.{IsFormedMember, Limits, coordinator_notice, IsMaster, World, crashed_masters, has_crashed}
use Rattle.rk_inv_wellformed.proofs.Words.{member, Precedes, is_noticed, SomeLives, cond_both, filter_passes, list_any_none, lowest_left}
use Rattle.rk_inv_wellformed.proofs.Words.{is_named, next_rebuilder, notice_one, notice_order, phase_noticed, row_noticed}
use Rattle.rk_inv_wellformed.proofs.coordinator.Rows.{AreTermsUpTo, Cover, IsFormedPhase, formed_at_phase, one_named, phase_of_formed}
use Rattle.rk_inv_wellformed.proofs.coordinator.Rows.{terms_below, two_named}
use Rattle.rk_inv_wellformed.proofs.maps.{by_found, filter_few, range_within, found_has}

-- ---- the lowest master that is left

-- a number within a range
record IsBetween (start count number : ℕ) : Type 0 where
  first : start ≤ number
  before : number < start + count

-- a number that passes is not a number that fails
passes_apart : (test : ℕ → Bool) (number other : ℕ) → test number ≡ true → test other ≡ false → number ≡ other → ⊥
passes_apart test number other passes fails same = absurd (cc (passes, ap test same, fails))

-- the first number of a range that passes, if some number there passes, is within it
first_between : (test : ℕ → Bool) (start count number : ℕ) → IsBetween start count number → test number ≡ true → IsBetween start count (unwrap_or (find test (range_with_len start count)) 0)
first_between test start zero number within passes = absurd (omega (arith, within))
first_between test start (suc count) number within passes = cond_both _ _ _ (λ (found : Option ℕ). IsBetween start (suc count) (unwrap_or found 0))
    (λ is. omega arith)
    (λ fails.
    let apart = passes_apart test number start passes fails in
    omega (arith, first_between test (start + 1) count number (omega (arith, apart, within)) passes))

-- what all have, and another one, what is found among them or else that other one has
found_or : {X : Type 0} (P : X → Type 0) (test : X → Bool) (list : List X) (other : X) → All P list → P other → P (unwrap_or (find test list) other)
found_or {X} P test list other all it =
    by_found (λ found. IfSome found P → P (unwrap_or found other)) (find test list) (λ none has. it) (λ x some has. has) (found_has P test list all)

-- who rebuilds next is there
next_is_there : (limits : Limits) (coordinator : Coordinator) (lineage : List Member) → All (IsFormedMember limits) lineage → IsMaster limits.masters (lowest_left coordinator) → IsMaster limits.masters (next_rebuilder coordinator lineage)
next_is_there limits coordinator lineage members lowest =
    found_or (IsMaster limits.masters) (λ master. not (is_noticed coordinator master)) (map (λ m. m.master) lineage) (lowest_left coordinator)
    (All-map (IsMaster limits.masters) (λ m. m.master) lineage (λ k d within. (members k d within).master)) lowest

-- ---- the phase of a row

-- by a test: what has a property, or else another thing that has it, if there is one
some_where : {X : Type 0} (P : X → Type 0) (test : Bool) (x : X) (other : Option X) → P x → IfSome other P → IfSome (cond test (Some x) other) P
some_where P true x other it has = it
some_where P false x other it has = has

-- the phase of a row, if it changes
phase_is_formed : (limits : Limits) (coordinator : Coordinator) (dead : ℕ) (phase : Phase) → IsMaster limits.masters dead → IsMaster limits.masters (lowest_left coordinator) → IsFormedPhase limits phase → IfSome (phase_noticed coordinator dead phase) (IsFormedPhase limits)
phase_is_formed limits coordinator dead (Owned master from) gone lowest there =
    grind (arith, some_where, member, lowest_left, one_named, there.from)
phase_is_formed limits coordinator dead (Opening source sfrom target dfrom) gone lowest there =
    grind (arith, some_where, member, lowest_left, one_named, there.0.from, there.0, there.0.master)
phase_is_formed limits coordinator dead (Moving source sfrom target dfrom) gone lowest there =
    grind (arith, some_where, member, two_named, there.0.from, there.1, there.1.master, there.0, there.1.from, there.0.master)
phase_is_formed limits coordinator dead (Rebuilding lineage to) gone lowest there =
    some_where (IsFormedPhase limits) (to == dead) (Rebuilding lineage (next_rebuilder coordinator lineage)) None
    (there.0, next_is_there limits coordinator lineage there.0 lowest, there.2) tt

-- ---- rows

-- a row whose phase may change
row_is_formed : {limits : Limits} {row : Row} (changed : Option Phase) → IfSome changed (IsFormedPhase limits) → IsFormedRow limits row → IsFormedRow limits (row_noticed row changed)
row_is_formed None there formed = formed
row_is_formed {row} (Some phase) there formed = formed_at_phase (omega arith) there formed

-- what leaves rows at their place: their numbers and their ranges stay
record Stays (change : Row → Row) : Type 0 where
  tablet : (row : Row) → (change row).tablet ≡ row.tablet
  range : (row : Row) → (change row).range ≡ row.range

-- what precedes others precedes them then
precedes_changed : (change : Row → Row) (row : Row) (rows : List Row) → Stays change → AllByRecursion (Precedes row) rows → AllByRecursion (Precedes (change row)) (map change rows)
precedes_changed change row [] stays all = tt
precedes_changed change row (first ∷ rest) stays all =
    grind (arith, stays.tablet, all.0.smaller, stays.range, all.0.apart, all.1, (precedes_changed change row rest stays all.1))

-- a map stays one
map_changed : (change : Row → Row) (rows : List Row) → Stays change → IsTabletMap rows → IsTabletMap (map change rows)
map_changed change [] stays map_is = tt
map_changed change (first ∷ rest) stays map_is =
    (precedes_changed change first rest stays map_is.0, map_changed change rest stays map_is.1)

-- and covers what it covered
covered_each : (change : Row → Row) (rows : List Row) (table hash : ℕ) → Stays change → is_covered (map change rows) table hash ≡ is_covered rows table hash
covered_each change [] table hash stays = refl
covered_each change (first ∷ rest) table hash stays =
    rw (stays.range first) (ap (λ b. has first.range table hash || b) (covered_each change rest table hash stays))

-- ---- one notice

-- a master is marked as dead
abbrev marked : Coordinator → ℕ → Coordinator
marked coordinator dead = record coordinator { noticed = coordinator.noticed ++ dead ∷ [] }

-- a row then
abbrev after_notice : Coordinator → ℕ → Row → Row
after_notice coordinator dead row = row_noticed row (phase_noticed (marked coordinator dead) dead row.phase)

notice_stays : (coordinator : Coordinator) (dead : ℕ) → Stays (after_notice coordinator dead)
notice_stays coordinator dead = grind (arith, by_found, row_noticed)

-- a term rises by one at most
term_rises : (row : Row) (changed : Option Phase) (most : ℕ) → row.term ≤ most → (row_noticed row changed).term ≤ most + 1
term_rises row changed most below =
    by_found (λ noticed. (row_noticed row noticed).term ≤ most + 1) changed (λ none. omega arith) (λ phase is. omega arith)

-- a coordinator of a lane after notices: it is well formed, counts its masters, noticed only who has crashed, covers what it covered, and
-- each term rose by so much at most
pub record IsNoticed (limits : Limits) (w : World) (most_rise : ℕ) (before after : Coordinator) : Type 0 where
  pub formed : IsFormedCoordinator limits after
  pub masters : after.masters ≡ before.masters
  pub noticed : All (λ master. has_crashed w master ≡ true) after.noticed
  pub covers : Cover after.rows before.rows
  pub terms : (most : ℕ) → AreTermsUpTo most before.rows → AreTermsUpTo (most + most_rise) after.rows

-- a master that is there has crashed
record IsGone (limits : Limits) (w : World) (dead : ℕ) : Type 0 where
  there : IsMaster limits.masters dead
  crashed : has_crashed w dead ≡ true

-- in a lane with a living master
module _ (limits : Limits) (w : World) (living : ℕ) (there : IsMaster limits.masters living) (lives : has_crashed w living ≡ false) where
  -- the lowest master that was not noticed is there, if only masters that have crashed were noticed
  lowest_is_there : (coordinator : Coordinator) → coordinator.masters ≡ limits.masters → All (λ master. has_crashed w master ≡ true) coordinator.noticed
      → IsMaster limits.masters (lowest_left coordinator)
  lowest_is_there coordinator same noticed =
      let unnoticed : is_noticed coordinator living ≡ false = list_any_none (λ master. master == living) coordinator.noticed
      (λ place other within. ne_eqb _ living (passes_apart (has_crashed w) _ living (noticed place other within) lives)) in
      omega (
        arith,
        same,
        first_between (λ master. not (is_noticed coordinator master)) 1 coordinator.masters living (omega (arith, there, same)) (ap not unnoticed),
      )

  -- one is noticed dead
  notice_one_is_formed : {coordinator : Coordinator} {dead : ℕ} → coordinator.masters ≡ limits.masters → IsGone limits w dead
      → All (λ master. has_crashed w master ≡ true) coordinator.noticed → IsFormedCoordinator limits coordinator
      → IsNoticed limits w 1 coordinator (notice_one coordinator dead)
  notice_one_is_formed {coordinator} {dead} same gone noticed formed =
      let after = marked coordinator dead in
      let crashed = All-push (λ master. has_crashed w master ≡ true) coordinator.noticed dead noticed gone.crashed in
      let lowest = lowest_is_there after same crashed in
      record {
        formed = record {
          map = map_changed (after_notice coordinator dead) coordinator.rows (notice_stays coordinator dead) formed.map;
          rows = All-map (IsFormedRow limits) (after_notice coordinator dead) coordinator.rows
              (λ place other within.
              let old = formed.rows place other within in
              row_is_formed _ (phase_is_formed limits after dead _ gone.there lowest (phase_of_formed old)) old);
          noticed = All-push (IsMaster limits.masters) coordinator.noticed dead formed.noticed gone.there;
          handed_order = formed.handed_order;
          handed = formed.handed;
        };
        masters = refl;
        noticed = crashed;
        covers = λ table hash covered.
            covered_each (after_notice coordinator dead) coordinator.rows table hash (notice_stays coordinator dead) ∙ covered;
        terms = λ most all.
            All-map (λ row. row.term ≤ most + 1) (after_notice coordinator dead) coordinator.rows
            (λ place other within. term_rises _ _ most (all place other within));
      }

  -- and so are others, one after the other
  notices_are_formed : (order : List ℕ) {coordinator : Coordinator} → coordinator.masters ≡ limits.masters → All (IsGone limits w) order
      → All (λ master. has_crashed w master ≡ true) coordinator.noticed → IsFormedCoordinator limits coordinator
      → IsNoticed limits w (length order) coordinator (fold notice_one coordinator order)
  notices_are_formed [] {coordinator} same all noticed formed = grind (arith, terms_below, coordinator.rows)
  notices_are_formed (dead ∷ rest) {coordinator} same all noticed formed =
      let first = notice_one_is_formed same (All-head (IsGone limits w) dead rest all) noticed formed in
      let later = notices_are_formed rest same (All-tail (IsGone limits w) dead rest all) first.noticed first.formed in
      assumption (
        later,
        λ (table hash : ℕ) (covered : is_covered coordinator.rows table hash ≡ true). later.covers table hash (first.covers table hash covered),
        λ (most : ℕ) (below : AreTermsUpTo most coordinator.rows).
            terms_below (most + 1 + length rest) (most + length (dead ∷ rest)) (fold notice_one (notice_one coordinator dead) rest).rows
            (omega arith) (later.terms (most + 1) (first.terms most below)),
      )

-- ---- the order of notices

-- a master that rows name, but for that whose crash is noticed
abbrev is_other : List Row → ℕ → ℕ → Bool
is_other rows dead master = is_named rows master && not (master == dead)

-- that master, if rows name it
abbrev is_itself : List Row → ℕ → ℕ → Bool
is_itself rows dead master = is_named rows master && (master == dead)

-- the order of the notices has what all have that are noticed
order_has : (P : ℕ → Type 0) (rows : List Row) (dead : ℕ) (list : List ℕ) → All P list → All P (notice_order rows dead list)
order_has P rows dead list all =
    All-append P (filter (λ master. not (is_named rows master)) list) (filter (is_other rows dead) list ++ filter (is_itself rows dead) list)
    (All-filter (λ master. not (is_named rows master)) P list all)
    (All-append P (filter (is_other rows dead) list) (filter (is_itself rows dead) list) (All-filter (is_other rows dead) P list all)
    (All-filter (is_itself rows dead) P list all))

-- the parts of a list by two tests have no more elements than it
parts_shorter : (a b : ℕ → Bool) (list : List ℕ) → length (filter (λ n. not (a n)) list) + (length (filter (λ n. a n && not (b n)) list) + length (filter (λ n. a n && b n) list)) ≤ length list
parts_shorter a b [] = omega arith
parts_shorter a b (first ∷ rest) = grind (arith, (parts_shorter a b rest))

-- the order has no more masters than are noticed
order_shorter : (rows : List Row) (dead : ℕ) (list : List ℕ) → length (notice_order rows dead list) ≤ length list
order_shorter rows dead list =
    omega (arith, length-append {A = ℕ}, parts_shorter (is_named rows) (λ master. master == dead) list)

-- ---- in a lane

-- the masters of a lane that have crashed are there
crashed_are_there : (w : World) → numbers w.masters ≡ range_with_len 1 w.coordinator.masters → All (IsMaster w.coordinator.masters) (crashed_masters w)
crashed_are_there w are = All-filter (has_crashed w) (IsMaster w.coordinator.masters) (numbers w.masters)
    (subst (All (IsMaster w.coordinator.masters)) (sym are)
    (λ place other within. omega (arith, range_within 1 w.coordinator.masters place other within)))

-- they are no more than all
crashed_are_few : (w : World) → numbers w.masters ≡ range_with_len 1 w.coordinator.masters → length (crashed_masters w) ≤ w.coordinator.masters
crashed_are_few w are =
    omega (arith, filter_few (has_crashed w) (numbers w.masters), ap length are, length-range_with_len 1 w.coordinator.masters)

-- so the coordinator of a well formed lane stays well formed
pub formed_noticed : (limits : Limits) (w : World) (dead : ℕ) → has_crashed w dead ≡ true → w.coordinator.masters ≡ limits.masters → IsFormedCoordinator limits w.coordinator → IsWellFormed w
    → IsNoticed limits w w.coordinator.masters w.coordinator (coordinator_notice w.coordinator dead (crashed_masters w))
formed_noticed limits w dead crashed are coordinator formed = assumption (
  done,
  λ (most : ℕ) (below : AreTermsUpTo most w.coordinator.rows).
      terms_below (most + length order) (most + w.coordinator.masters) (fold notice_one w.coordinator order).rows
      (omega (
        arith,
        order_shorter w.coordinator.rows dead fresh,
        filter_few (λ master. not (is_noticed w.coordinator master)) (crashed_masters w),
        crashed_are_few w formed.masters_are,
      ))
      (done.terms most below),
)
  where
    some : SomeLives w
    some = formed.left dead crashed

    fresh : List ℕ
    fresh = filter (λ master. not (is_noticed w.coordinator master)) (crashed_masters w)

    order : List ℕ
    order = notice_order w.coordinator.rows dead fresh

    there : (master : ℕ) → IsMaster w.coordinator.masters master → IsMaster limits.masters master
    there master it = subst (λ (count : ℕ). IsMaster count master) are it

    gone : All (IsGone limits w) (crashed_masters w)
    gone k d within = record {
      there = there (get_or (crashed_masters w) k d) (crashed_are_there w formed.masters_are k d within);
      crashed = filter_passes (has_crashed w) (numbers w.masters) k d within;
    }

    done : IsNoticed limits w (length order) w.coordinator (fold notice_one w.coordinator order)
    done = notices_are_formed limits w some.master (there some.master some.there) some.lives order are
        (order_has (IsGone limits w) w.coordinator.rows dead fresh
        (All-filter (λ master. not (is_noticed w.coordinator master)) (IsGone limits w) (crashed_masters w) gone))
        formed.noticed coordinator
