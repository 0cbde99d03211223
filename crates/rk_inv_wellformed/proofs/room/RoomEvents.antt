-- The numbers of a lane fit by themselves: an event that is not refused comes in a lane that is not worn, and raises the greatest number so
-- little that it stays below the limit. So in a run only the bytes of logs and the records of masters are left to say.
use Rattle.std.proofs.Common.{◌∷◌, ◌≡◌, ◌≤◌, ◌<◌, ◌+◌, ℕ, true, false, List, [], length, Option, None, refl, arith, w32}
use Rattle.rk_inv_wellformed.proofs.Words.{cond_both, All-nil, Node, Range, IsNumber, row_of, Row, Body, Message, Backed, Called}
use Rattle.rk_inv_wellformed.proofs.Words.{backup_step, new_row, with_row, coordinator_step, coordinator_turn, IsWellFormed, IsFormedBody}
use Rattle.rk_inv_wellformed.proofs.Words.{IsFormedMessage, limits_of, Master, new_master, tablet_at, with_tablet, told_master}
use Rattle.rk_inv_wellformed.proofs.Words.{tablet_migrated, coordinator_notice, IsMaster, MayCome, MayHappen, MayTurn, range_below}
use Rattle.rk_inv_wellformed.proofs.Words.{range_from, WORN_NUMBER, comes_anyway, refusal, HasRoom, MOST_NUMBER, IsCalmEvent, has_parts}
use Rattle.rk_inv_wellformed.proofs.Words.{row_split, rows_split, with_half, with_halves, with_split, Stepped, backed_at, happened}
use Rattle.rk_inv_wellformed.proofs.Words.{log_bytes_of, losing, quietly, seen_in, tablet_added, turned, with_added, with_sends, worked_at}
use Rattle.rk_inv_wellformed.proofs.Words.{Worked, World, crashed_masters, has_crashed, master_at, with_coordinator, with_top, Event}
use Rattle.rk_inv_wellformed.proofs.Words.{tablet_split, is_added, with_client, seen_of, LastCall, with_wire, without_message, get}
use Rattle.rk_inv_wellformed.proofs.Words.{sent_again, with_crash, Accepts, Asks, Happens, MayOccur, after, Happening, IsCalmHappening}
use Rattle.rk_inv_wellformed.proofs.Words.{world_stepped, stepped_by, to_coordinator}
use Rattle.rk_inv_wellformed.specs.Fitting.{AllLogsFit, LogsFit}
use Rattle.rk_inv_wellformed.proofs.coordinator.Coordinators.{IsFormedChange, formed_coordinator_step, formed_tablet_migrated}
use Rattle.rk_inv_wellformed.proofs.coordinator.Coordinators.{formed_with_row, rows_have_room, added_allowed, formed_rows_split}
use Rattle.rk_inv_wellformed.proofs.coordinator.Coordinators.{split_allowed}
use Rattle.rk_inv_wellformed.proofs.coordinator.NoticeLaws.{formed_noticed}
use Rattle.rk_inv_wellformed.proofs.coordinator.Rows.{formed_new_row, terms_below}
use Rattle.rk_inv_wellformed.proofs.lanes.Events.{comes_fresh, crash_came}
use Rattle.rk_inv_wellformed.proofs.lanes.Works.{after_work, formed_with_backups, delivered_is, split_is}
use Rattle.rk_inv_wellformed.proofs.lanes.Worlds.{counters_within, formed_limits, log_room_at, master_of}
use Rattle.rk_inv_wellformed.proofs.lanes.More.{raised}
use Rattle.rk_inv_wellformed.proofs.maps.{by_found, each_or, either_way}
use Rattle.rk_inv_wellformed.proofs.masters.Turns.{formed_turn}
use Rattle.rk_inv_wellformed.proofs.masters.Work.{AreLimits, MOST_AT_ONCE}
use Rattle.rk_inv_wellformed.proofs.room.StepsFew.{CountersWithin, counter_within, counters_weaker, counters_with_tablet, IsFewWork}
use Rattle.rk_inv_wellformed.proofs.room.StepsFew.{backup_step_few, coordinator_turn_few, ends_few, few_more, few_work, step_few}
use Rattle.rk_inv_wellformed.proofs.room.Rises.{KeepsTo, all_inserted, ends_in, keeps_to_more, keeps_to_top, keeps_with_coordinator}
use Rattle.rk_inv_wellformed.proofs.room.Rises.{keeps_with_ledger, keeps_with_master, top_after_coordinator, top_after_sends}
use Rattle.rk_inv_wellformed.proofs.room.Rises.{top_after_work, top_with_coordinator, top_within}
use Rattle.rk_inv_wellformed.proofs.lanes.Happenings.{formed_accepts, formed_asks}

-- if the numbers of a world keep to the greatest one before, their greatest still fits
top_stays : (w : World) {after : World} → KeepsTo w.top after → HasRoom w → (with_top after).top < MOST_NUMBER
top_stays w {after} keeps room = omega (arith, top_within w.top after keeps, room.number)

-- ---- a master works

-- the counters of a master, whether it is there or not
counters_at : {w : World} (number : ℕ) → IsWellFormed w → CountersWithin w.top (master_at w number)
counters_at {w} number formed = each_or (λ id master. CountersWithin w.top master) (new_master number []) w.masters number (All-nil _)
    (λ id master is. counters_within w w.top formed.standing id master is)

-- a well formed lane with room whose greatest number is not worn
record IsLow (w : World) : Type 0 where
  formed : IsWellFormed w
  room : HasRoom w
  top : w.top < WORN_NUMBER

-- limits whose greatest number is one more are limits that a lane may have
raised_limits : {w : World} → IsLow w → AreLimits (raised (limits_of w))
raised_limits {w} low = grind (arith, formed_limits)

-- so much may a step add
most_fits : (top after seen served sends : ℕ) → top < WORN_NUMBER → seen ≤ 2 → served ≤ MOST_AT_ONCE → sends ≤ MOST_AT_ONCE → after ≤ top + seen + served + sends → after < MOST_NUMBER
most_fits top after seen served sends low a b c within = omega arith

work_fits : {w : World} (low : IsLow w) (number seen : ℕ) {worked : Worked} → seen ≤ w.top + 1 → IsFewWork (w.top + 1) worked → (after_work w number seen worked).top < MOST_NUMBER
work_fits {w} low number seen {worked} within few =
    most_fits w.top (after_work w number seen worked).top 1 (length worked.served) (length worked.sends) low.top (omega arith) few.served few.sends
    (top_after_work w low.formed 1 number seen worked within few.counters)

-- what a request has seen is at most the greatest number; and if no client sends it, nothing is served
told_fits : {w : World} (low : IsLow w) (number : ℕ) (sender : Node) (body : Body) → IsFormedBody (limits_of w) sender body
    → IsFewWork (w.top + 1) (told_master (master_at w number) sender body) → (worked_at w number (seen_in body) (told_master (master_at w number) sender body)).world.top < MOST_NUMBER
told_fits low number (Node.Client client) (Body.Request request) says few = work_fits low number request.seen (omega (arith, says.seen)) few
told_fits low number _ (Body.Request request) says few = work_fits low number 0 (omega arith) few
told_fits low number sender _ says few = work_fits low number 0 (omega arith) few

losing_fits : {w : World} → IsLow w → (losing w).world.top < MOST_NUMBER
losing_fits {w} low = top_stays w (keeps_to_top w low.formed) low.room

-- ---- the coordinator and a backup work

coordinator_fits : {w : World} (low : IsLow w) {message : Message} → IsFormedMessage (limits_of w) message → (to_coordinator w message).world.top < MOST_NUMBER
coordinator_fits {w} low {message} told =
    let taken = coordinator_step w.coordinator message in
    let limits = formed_limits w low.formed low.room in
    let answers = formed_coordinator_step limits low.formed.coordinator (rows_have_room low.formed) told in
    let ends = ends_few taken.rebuilt limits answers.rebuilt in
    most_fits w.top (to_coordinator w message).world.top 1 (ends_in taken.rebuilt) (length taken.sends) low.top (omega arith) (omega arith) (omega (arith, answers.few))
    (top_after_coordinator w low.formed 1 taken.coordinator taken.rebuilt taken.sends
    (terms_below w.top (w.top + 1) taken.coordinator.rows (omega arith) answers.room.terms))

sends_fit : {w : World} (messages : List Message) → IsWellFormed w → w.top < WORN_NUMBER → length messages ≤ MOST_AT_ONCE → (with_sends w messages).world.top < MOST_NUMBER
sends_fit {w} messages formed low few = grind (arith, most_fits, with_sends, top_after_sends)

backed_fits : {w : World} (backed : Backed) → IsWellFormed w → w.top < WORN_NUMBER → length backed.sends ≤ 1 → (backed_at w backed).world.top < MOST_NUMBER
backed_fits {w} backed formed low few = either_way (λ (stepped : Stepped). stepped.world.top < MOST_NUMBER) backed.lost
    (omega (arith, low, top_within w.top w (keeps_to_top w formed))) (sends_fit backed.sends formed low (omega (arith, few)))

-- ---- a message is delivered, and a node takes its turn

delivered_fits : {w : World} (low : IsLow w) (number : ℕ) (called : Called) → (happened w (Event.Deliver number) called).world.top < MOST_NUMBER
delivered_fits {w} low number called = delivered_is w called low.formed (λ bytes now. now.top < MOST_NUMBER) (λ bytes. losing_fits low)
    (λ message master there told. told_fits low master message.from message.body told.says
    (step_few (limits_of w) master (master_at w master) there (master_of w master there low.formed)
    (log_room_at there low.formed low.room) (raised_limits low) told))
    (λ message told. coordinator_fits low told)
    (λ message backup backups there told. backed_fits (backup_step backup message.from message.body (log_bytes_of w) called)
    (formed_with_backups backups low.formed) low.top (backup_step_few backup message.from message.body (log_bytes_of w) called))
    number

turned_fits : {w : World} (low : IsLow w) (node : Node) → MayTurn w.coordinator.masters node → (turned w node).world.top < MOST_NUMBER
turned_fits {w} low Node.Coordinator there =
    sends_fit (coordinator_turn w.coordinator) low.formed low.top (coordinator_turn_few low.formed.coordinator)
turned_fits {w} low (Node.Master master) there = work_fits low master 0 (omega arith) (few_more w.top (few_work
    (formed_turn (formed_limits w low.formed low.room) there (master_of w master there low.formed) (log_room_at there low.formed low.room))))
turned_fits low _ there = losing_fits low

-- ---- rows change

-- a world whose numbers keep to little more
kept_fits : (w : World) {after : World} → w.top < WORN_NUMBER → KeepsTo (w.top + 1) after → (with_top after).top < MOST_NUMBER
kept_fits w {after} low keeps = omega (arith, low, top_within (w.top + 1) after keeps)

risen : {w : World} → IsWellFormed w → KeepsTo (w.top + 1) w
risen {w} formed = keeps_to_more w.top (w.top + 1) w (omega arith) (keeps_to_top w formed)

added_fits : {w : World} (low : IsLow w) (tablet : ℕ) (range : Range) (master : ℕ) → MayHappen w (Event.AddTablet tablet range master) → refusal w (Event.AddTablet tablet range master) ≡ None → (quietly (tablet_added w tablet range master)).world.top < MOST_NUMBER
added_fits {w} low tablet range master (number, lawful, there) none = kept_fits w low.top
    (keeps_with_coordinator (with_row w.coordinator row) (change.terms w.top (rows_have_room low.formed).terms)
    (keeps_with_master master served (counters_with_tablet (w.top + 1) (master_at w master) tablet _
    (counters_weaker w.top (w.top + 1) (master_at w master) (omega arith) (counters_at master low.formed)) (omega arith))
    (risen low.formed)))
  where
    row : Row
    row = new_row tablet range master

    served : Master
    served = with_added (master_at w master) tablet range

    change : IsFormedChange (limits_of w) w.coordinator (with_row w.coordinator (new_row tablet range master))
    change =
        formed_with_row (limits_of w) w.coordinator low.formed.coordinator (added_allowed w tablet range master none)
        (formed_new_row (limits_of w) number lawful there) refl

migrated_fits : {w : World} (low : IsLow w) (tablet : ℕ) {to : ℕ} → IsMaster w.coordinator.masters to → (quietly (with_coordinator w (tablet_migrated w.coordinator tablet to))).world.top < MOST_NUMBER
migrated_fits {w} low tablet {to} there =
    let moved = tablet_migrated w.coordinator tablet to in
    let change = formed_tablet_migrated (limits_of w) w.coordinator low.formed.coordinator tablet there in
    kept_fits w low.top (keeps_with_coordinator moved (change.terms w.top (rows_have_room low.formed).terms) (risen low.formed))

noticed_fits : {w : World} (low : IsLow w) (dead : ℕ) → has_crashed w dead ≡ true → (quietly (with_coordinator w (coordinator_notice w.coordinator dead (crashed_masters w)))).world.top < MOST_NUMBER
noticed_fits {w} low dead crashed =
    let told = coordinator_notice w.coordinator dead (crashed_masters w) in
    let change = formed_noticed (limits_of w) w dead crashed refl low.formed.coordinator low.formed in
    omega (
      arith,
      low.top,
      low.formed.few_masters,
      top_with_coordinator w low.formed w.coordinator.masters told
          (change.terms w.top (rows_have_room low.formed).terms),
    )

-- both parts of a tablet have its counter
split_counters : (most : ℕ) (master : Master) (tablet at new term : ℕ) → 1 ≤ most → CountersWithin most master → CountersWithin most (with_split master tablet at new term)
split_counters most master tablet at new term some each =
    let it = tablet_at master tablet in
    let counter = counter_within most master tablet some each in
    cond_both (has_parts it.handover.range at) (with_halves master tablet it at new term) master (CountersWithin most)
    (λ parts. counters_with_tablet most (with_tablet master tablet (with_half it (range_below it.handover.range at) term)) new
    (with_half it (range_from it.handover.range at) term)
    (counters_with_tablet most master tablet (with_half it (range_below it.handover.range at) term) each counter) counter)
    (λ whole. each)

split_keeps : (w : World) (found : Option Row) (at new : ℕ) → IsWellFormed w → KeepsTo (w.top + 1) (row_split w found at new)
split_keeps w found at new formed = split_is (KeepsTo (w.top + 1)) w found at new (risen formed)
    (λ row master from there is. keeps_with_master master (with_split (master_at w master) row.tablet at new (row.term + 1))
    (split_counters (w.top + 1) (master_at w master) row.tablet at new (row.term + 1) (omega arith)
    (counters_weaker w.top (w.top + 1) (master_at w master) (omega arith) (counters_at master formed)))
    (risen formed))

split_fits : {w : World} (low : IsLow w) (tablet at new : ℕ) → IsNumber w32 1 new → refusal w (Event.Split tablet at new) ≡ None → (quietly (tablet_split w tablet at new)).world.top < MOST_NUMBER
split_fits {w} low tablet at new number none =
    let found = row_of w.coordinator.rows tablet in
    let change = formed_rows_split (limits_of w) w.coordinator low.formed.coordinator tablet at new (split_allowed w tablet at new none) number in
    kept_fits w low.top (keeps_with_coordinator (rows_split w.coordinator tablet at new)
    (change.terms w.top (rows_have_room low.formed).terms) (split_keeps w found at new low.formed))

-- ---- every event

-- after an event that is not refused each number that grows fits
pub room_event : (w : World) (event : Event) (called : Called) → MayHappen w event → MayCome called → IsCalmEvent w event → refusal w event ≡ None → IsWellFormed w → HasRoom w → (happened w event called).world.top < MOST_NUMBER
room_event w event called may come calm none formed room = go event may none
  where
    low : (event : Event) → comes_anyway event ≡ false → refusal w event ≡ None → IsLow w
    low event careful none = record { formed = formed; room = room; top = (comes_fresh w event careful none).number }

    kept : KeepsTo w.top w
    kept = keeps_to_top w formed

    go : (event : Event) → MayHappen w event → refusal w event ≡ None → (happened w event called).world.top < MOST_NUMBER
    go (Event.AddTablet tablet range master) may none =
        added_fits (low (Event.AddTablet tablet range master) refl none) tablet range master may none
    go (Event.AddClient client) may none = either_way (λ (after : World). (with_top after).top < MOST_NUMBER) (is_added w.ledger client)
        (top_stays w kept room)
        (top_stays w (keeps_with_ledger (with_client w.ledger client) kept.stamp
        (all_inserted (λ (last : Option LastCall). seen_of last ≤ w.top) w.ledger.clients client None (omega arith) kept.seen) kept) room)
    go (Event.Deliver number) may none = delivered_fits (low (Event.Deliver number) refl none) number called
    go (Event.Forget number) may none =
        let keeps : KeepsTo w.top (with_wire w (without_message number w.wire)) = assumption kept in
        top_stays w keeps room
    go (Event.Turn node) may none = turned_fits (low (Event.Turn node) refl none) node may
    go (Event.Again client) may none = by_found (λ request. (sent_again w request).world.top < MOST_NUMBER) (get w.ledger.requests client)
        (λ nothing. top_stays w kept room)
        (λ message is. sends_fit (message ∷ []) formed (low (Event.Again client) refl none).top (omega arith))
    go (Event.Migrate tablet to) may none = migrated_fits (low (Event.Migrate tablet to) refl none) tablet may
    go (Event.Split tablet at new) may none = split_fits (low (Event.Split tablet at new) refl none) tablet at new may none
    go (Event.Crash master) may none =
        let keeps : KeepsTo w.top (with_crash w master) = assumption kept in
        top_stays w keeps room
    go (Event.Notice master) may none = noticed_fits (low (Event.Notice master) refl none) master (crash_came w master none)

pub first_logs_fit : (w : World) (list : List Happening) → AllLogsFit w list → LogsFit w
first_logs_fit w [] fits = fits
first_logs_fit w (happening ∷ later) fits = fits.0

pub with_number : {w : World} → w.top < MOST_NUMBER → LogsFit w → HasRoom w
with_number number fits = assumption

-- whatever happens, the numbers of a lane fit after it
pub number_after : {w : World} (happening : Happening) → MayOccur w happening → IsCalmHappening w happening → IsWellFormed w → HasRoom w → (after w happening).top < MOST_NUMBER
number_after {w} (Happens event called) may calm formed room =
    grind (arith, by_found, world_stepped, stepped_by, refusal, room_event, may.0, may.1, room.number)
number_after {w} (Asks session) may calm formed room = (formed_asks w session may (record { formed = formed; room = room })).room.number
number_after {w} (Accepts number session) may calm formed room = grind (arith, formed_accepts)
