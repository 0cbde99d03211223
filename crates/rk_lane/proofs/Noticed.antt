-- A crash is noticed: the order in which masters are marked, how far terms rise by it, and what the event makes.
use Rattle.rk_lane.proofs.Words.{◌≡◌, ◌≤◌, ◌<◌, ◌+◌, ◌^◌, ◌&&◌, ◌++◌, ℕ, suc, max, Bool, true, false, cond, not, List, [], ◌∷◌, length}
use Rattle.rk_lane.proofs.Words.{filter, fold, take, Option, None, Some, refl, sym, ap, subst, ◌∙◌, arith, range_with_len, length-append}
use Rattle.rk_lane.proofs.Words.{All-map, All-weaker, length-range_with_len, numbers, Phase, Row, Gave, Coordinator, notice_one, greatest}
use Rattle.rk_lane.proofs.Words.{has_crashed, Seen, MayRise, keeps_to_top, terms_of, IsMade, IsReady, MayRiseBy, is_of, is_unnoticed}
use Rattle.rk_lane.proofs.Words.{unnoticed, IsKept, world_of, Parts}
use Rattle.std.proofs.Common.{◌*◌}
use Rattle.std.proofs.lemmas.List.{append_assoc, length-take}
use Rattle.rk_world.specs.Coordinator.{is_noticed}
use Rattle.rk_world.specs.Notices.{coordinator_notice, notice_order, phase_noticed, row_noticed}
use Rattle.rk_world.specs.World.{crashed_masters}
use Rattle.rk_world.specs.declared.error.StepError.TheVariants as errors
use Rattle.rk_world.specs.declared.event.Event.TheVariants as events
use Rattle.rk_session.proofs.Filters.{length-filter_le}
use Rattle.rk_lane.specs.declared.notices.Group.TheVariants as groups
use Rattle.rk_lane.proofs.Moved.{made_by_change}
use Rattle.rk_lane.proofs.Numbering.{numbers_from}
use Rattle.rk_lane.proofs.Quiet.{alive, masters_counted, quiet_seen}

-- ---- lists

first_kept : {X : Type 0} (b : Bool) (x : X) (rest : List X) → cond b (x ∷ []) [] ++ rest ≡ cond b (x ∷ rest) rest
first_kept true x rest = refl
first_kept false x rest = refl

-- of the numbers from a first one on, those that pass a test: the first one, if it does, and those of the rest
pub filter_next : (p : ℕ → Bool) (first count rest : ℕ) (items : List ℕ) → count ≡ suc rest
    → (items ++ cond (p first) (first ∷ []) []) ++ filter p (range_with_len (first + 1) rest) ≡ items ++ filter p (range_with_len first count)
filter_next p first count rest items more = grind (arith, append_assoc, first_kept)

and_step : {X : Type 0} (b : Bool) (q : X → Bool) (x : X) (kept rest : List X) → kept ≡ filter q rest → cond (b && q x) (x ∷ kept) kept ≡ filter q (cond b (x ∷ rest) rest)
and_step {X} true q x kept rest is = ap (λ (list : List X). cond (q x) (x ∷ list) list) is
and_step {X} false q x kept rest is = is

-- one filter after the other
filter_and : {X : Type 0} (p q : X → Bool) (list : List X) → filter (λ x. p x && q x) list ≡ filter q (filter p list)
filter_and p q [] = refl
filter_and p q (x ∷ rest) = and_step (p x) q x (filter (λ y. p y && q y) rest) (filter p rest) (filter_and p q rest)

-- ---- who is marked

-- those that have crashed and were not noticed, among the numbers of all masters
pub unnoticed_is : (parts : Parts) → IsKept parts → filter (is_unnoticed parts) (range_with_len 1 parts.coordinator.masters) ≡ unnoticed parts
unnoticed_is parts kept =
    search (filter_and, has_crashed, world_of, parts.coordinator, parts.coordinator.masters, kept.formed.formed.masters_are)

-- the three groups, one after the other
pub groups_are : (rows : List Row) (dead : ℕ) (masters a b c : List ℕ) → a ≡ [] ++ filter (is_of rows dead groups.Unnamed) masters
    → b ≡ a ++ filter (is_of rows dead groups.Named) masters → c ≡ b ++ filter (is_of rows dead groups.Last) masters
    → c ≡ notice_order rows dead masters
groups_are rows dead masters a b c first second third = grind (arith, is_of, append_assoc)

-- they are no more than three times those that have crashed
pub order_is_short : (rows : List Row) (dead : ℕ) (masters : List ℕ) → length (notice_order rows dead masters) ≤ 3 * length masters
order_is_short rows dead masters = grind (arith, is_of, length-filter_le, length-append)

-- ---- terms

row_may_rise : (row : Row) (phase : Option Phase) (count : ℕ) → row.term + suc count < 2 ^ 63 → (row_noticed row phase).term + count < 2 ^ 63
row_may_rise row None count low = omega (arith, low)
row_may_rise row (Some phase) count low = omega (arith, low)

-- a notice raises each term by one at most
one_rises : (coordinator : Coordinator) (dead count : ℕ) → MayRiseBy (suc count) coordinator → MayRiseBy count (notice_one coordinator dead)
one_rises coordinator dead count may =
    let marked : Coordinator = record coordinator { noticed = coordinator.noticed ++ dead ∷ [] } in
    All-map (λ (row : Row). row.term + count < 2 ^ 63) (λ row. row_noticed row (phase_noticed marked dead row.phase)) coordinator.rows
    (All-weaker (λ row. row.term + suc count < 2 ^ 63) (λ row. (row_noticed row (phase_noticed marked dead row.phase)).term + count < 2 ^ 63)
    (λ row low. row_may_rise row (phase_noticed marked dead row.phase) count low) coordinator.rows may)

-- so many notices raise each by so much at most
all_rise : (list : List ℕ) (coordinator : Coordinator) (count : ℕ) → MayRiseBy (length list + count) coordinator → MayRiseBy count (fold notice_one coordinator list)
all_rise [] coordinator count may = grind arith
all_rise (dead ∷ more) coordinator count may =
    let same : length (dead ∷ more) + count ≡ suc (length more + count) = omega arith in
    all_rise more (notice_one coordinator dead) count
    (one_rises coordinator dead (length more + count) (subst (λ (n : ℕ). MayRiseBy n coordinator) same may))

-- after some first ones each term may rise still
pub rises_within : (order : List ℕ) (place : ℕ) (coordinator : Coordinator) → place < length order → MayRiseBy (length order) coordinator
    → MayRise (fold notice_one coordinator (take place order))
rises_within order place coordinator within may =
    All-weaker (λ row. row.term + 1 < 2 ^ 63) (λ row. row.term < 2 ^ 63) (λ (row : Row) low. omega (arith, low)) _
    (all_rise (take place order) coordinator 1
    (All-weaker (λ row. row.term + length order < 2 ^ 63) (λ row. row.term + (length (take place order) + 1) < 2 ^ 63)
    (λ (row : Row) low. omega (arith, low, within, length-take place order)) coordinator.rows may))

-- at a notice there is room for all of them
pub order_may_rise : (parts : Parts) (order : List ℕ) (dead : ℕ) → IsKept parts → order ≡ notice_order parts.coordinator.rows dead (unnoticed parts)
    → MayRiseBy (length order) parts.coordinator
order_may_rise parts order dead kept is =
    let w = world_of parts [] in
    let fewer : length (unnoticed parts) ≤ length (crashed_masters w) =
    length-filter_le (λ master. not (is_noticed parts.coordinator master)) (crashed_masters w) in
    let few : length (crashed_masters w) ≤ length (numbers w.masters) = length-filter_le (has_crashed w) (numbers w.masters) in
    let count : length (numbers w.masters) ≡ length parts.masters.items =
    ap (λ (list : List ℕ). length list) (numbers_from 1 parts.masters.items) ∙ length-range_with_len 1 (length parts.masters.items) in
    let most : length parts.masters.items ≤ 8 = subst (λ (n : ℕ). n ≤ 8) (masters_counted parts kept) kept.formed.formed.few_masters in
    let short : length order ≤ 3 * length (unnoticed parts) =
    subst (λ (list : List ℕ). length list ≤ 3 * length (unnoticed parts)) (sym is) (order_is_short parts.coordinator.rows dead (unnoticed parts)) in
    let long : length order ≤ 24 = omega (arith, fewer, few, count, most, short) in
    All-weaker (λ row. row.term ≤ parts.top) (λ row. row.term + length order < 2 ^ 63)
    (λ (row : Row) low. omega (arith, low, kept.formed.room.number, long)) parts.coordinator.rows
    (keeps_to_top w kept.formed.formed).terms

-- ---- the event

-- a crash is noticed
pub noticed : (old new : Parts) (master : ℕ) (order : List ℕ) (seen : Seen) → IsReady old (events.Notice master) → not (has_crashed (world_of old []) master) ≡ false
    → order ≡ notice_order old.coordinator.rows master (unnoticed old)
    → new ≡ record old {
      coordinator = fold notice_one old.coordinator order;
      top = max old.top (greatest (terms_of (fold notice_one old.coordinator order).rows));
    }
    → seen ≡ quiet_seen → IsMade old (events.Notice master) (Gave None) new seen
noticed old new master order seen ready dead is made quiet =
    let after : List ℕ → Parts = λ list. record old {
      coordinator = fold notice_one old.coordinator list;
      top = max old.top (greatest (terms_of (fold notice_one old.coordinator list).rows));
    } in
    subst (λ (parts : Parts). IsMade old (events.Notice master) (Gave None) parts seen) (sym (made ∙ ap after is))
    (made_by_change old (events.Notice master) (coordinator_notice old.coordinator master (crashed_masters (world_of old []))) seen ready
    (alive (not (has_crashed (world_of old []) master)) (errors.Alive master) dead) (λ stored. refl) quiet)
