-- Well formed lanes stay well formed: every event, every turn and answer of a client, and so every run, as long as the numbers fit.
use Rattle.std.proofs.Common.{arith, ◌≡◌, ◌+◌, ℕ, w32, true, List, [], ◌∷◌, All, None, refl, subst, sym}
use Rattle.rk_inv_wellformed.proofs.Words.{All-head, Node, Range, IsNumber, row_of, Called, Coordinator, new_row, with_row}
use Rattle.rk_inv_wellformed.proofs.Words.{coordinator_step, IsFormedRow, IsWellFormed, named_in, IsFormedMember, limits_of}
use Rattle.rk_inv_wellformed.proofs.Words.{tablet_migrated, coordinator_notice, IsMaster, MayCome, MayHappen, refusal, HasRoom, Accepts}
use Rattle.rk_inv_wellformed.proofs.Words.{Asks, Happens, IsCalmEvent, MayOccur, after, rows_split, with_split, happened, quietly}
use Rattle.rk_inv_wellformed.proofs.Words.{tablet_added, with_added, World, crashed_masters, has_crashed, master_at, with_coordinator}
use Rattle.rk_inv_wellformed.proofs.Words.{Event, AllHaveRoom, Happening, IsCalmHappening, tablet_split, IsFormedCoordinator, Limits}
use Rattle.rk_inv_wellformed.proofs.Words.{MayTurn, backup_step, coordinator_turn, log_bytes_of, master_step, master_turn, seen_in, turned}
use Rattle.rk_inv_wellformed.proofs.coordinator.Coordinators.{IsFormedChange, formed_coordinator_step, formed_coordinator_turn}
use Rattle.rk_inv_wellformed.proofs.coordinator.Coordinators.{formed_tablet_migrated, formed_with_row, rows_have_room, added_allowed}
use Rattle.rk_inv_wellformed.proofs.coordinator.Coordinators.{formed_rows_split, formed_with_added, formed_with_split, one_has_stood}
use Rattle.rk_inv_wellformed.proofs.coordinator.Coordinators.{split_allowed, split_term_stood}
use Rattle.rk_inv_wellformed.proofs.coordinator.NoticeLaws.{formed_noticed}
use Rattle.rk_inv_wellformed.proofs.coordinator.Rows.{all_found, formed_new_row}
use Rattle.rk_inv_wellformed.proofs.lanes.Backups.{formed_backup_step, segment_spells}
use Rattle.rk_inv_wellformed.proofs.lanes.Events.{crash_came, formed_again, formed_come, formed_crashed, formed_forgotten}
use Rattle.rk_inv_wellformed.proofs.lanes.Happenings.{formed_accepts, formed_after_event, formed_asks}
use Rattle.rk_inv_wellformed.proofs.lanes.More.{IsMore, more_coordinator, more_master, more_master_number, more_message}
use Rattle.rk_inv_wellformed.proofs.lanes.Works.{delivered_is, split_is, formed_by_both, formed_by_rows, formed_losing, after_work}
use Rattle.rk_inv_wellformed.proofs.lanes.Works.{formed_backed, formed_coordinated_old, formed_sending_old, formed_with_backups}
use Rattle.rk_inv_wellformed.proofs.lanes.Works.{formed_worked, more_worked}
use Rattle.rk_inv_wellformed.proofs.lanes.Worlds.{MayCoordinate, formed_limits, base_covered, log_room_at, master_of, may_coordinate}
use Rattle.rk_inv_wellformed.proofs.masters.Turns.{formed_step, formed_turn}

-- ---- messages and turns

-- a message is delivered
formed_delivered : {w : World} (number : ℕ) (called : Called) → MayCome called → HasRoom w → IsWellFormed w
    → HasRoom (happened w (Event.Deliver number) called).world → IsWellFormed (happened w (Event.Deliver number) called).world
formed_delivered {w} number called come room formed = delivered_is w called formed (λ bytes now. HasRoom now → IsWellFormed now)
    (λ bytes left. formed_losing formed)
    (λ message master there told left.
    let worked = master_step (master_at w master) message in
    let limits = limits_of (after_work w master (seen_in message.body) worked) in
    formed_worked w master (seen_in message.body) worked there
    (λ are it fits. formed_step limits master (master_at w master) are there it (log_room_at there formed room)
    (more_message (limits_of w) limits (more_worked w master (seen_in message.body) worked) message told) fits)
    left formed)
    (λ message told left.
    let taken = coordinator_step w.coordinator message in
    let answers = formed_coordinator_step (formed_limits w formed room) formed.coordinator (rows_have_room formed) told in
    formed_coordinated_old w taken.coordinator taken.rebuilt taken.sends
    (may_coordinate (limits_of w) w taken.coordinator answers.coordinator
    (sym answers.keeps.masters) answers.keeps.noticed answers.keeps.covers formed)
    answers.sends formed)
    (λ message backup backups there told left. formed_backed (backup_step backup message.from message.body (log_bytes_of w) called)
    (formed_backup_step (limits_of w) backup (formed_limits w formed room) there message.from message.body _ called told.from told.says
    told.lawful come (λ master segment there. segment_spells segment (master_of w master there formed)))
    (formed_with_backups backups formed))
    number

-- a node takes its turn
formed_turned : {w : World} (node : Node) → MayTurn w.coordinator.masters node → HasRoom w → IsWellFormed w
    → HasRoom (turned w node).world → IsWellFormed (turned w node).world
formed_turned {w} Node.Coordinator there room formed left =
    formed_sending_old (coordinator_turn w.coordinator)
    (formed_coordinator_turn (formed_limits w formed room) formed.coordinator (rows_have_room formed)) formed
formed_turned {w} (Node.Master master) there room formed left = formed_worked w master 0 (master_turn (master_at w master)) there
    (λ are it fits. formed_turn are there it (log_room_at there formed room)) left formed
formed_turned _ there room formed left = formed_losing formed

-- ---- a row changes

-- a coordinator after a change, within all wider limits, may be in the lane
by_change : {w : World} (coordinator : Coordinator) → IsWellFormed w
    → ((limits : Limits) → IsMore (limits_of w) limits → IsFormedCoordinator limits w.coordinator → IsFormedChange limits w.coordinator coordinator)
    → (limits : Limits) → IsMore (limits_of w) limits → MayCoordinate limits w coordinator
by_change {w} coordinator formed change limits more =
    let it = change limits more (more_coordinator (limits_of w) limits more formed.coordinator) in
    may_coordinate limits w coordinator it.formed (sym it.keeps.masters) it.keeps.noticed it.keeps.covers formed

-- a tablet begins to move
formed_migrated : {w : World} (tablet : ℕ) {to : ℕ} → IsMaster w.coordinator.masters to → IsWellFormed w → IsWellFormed (quietly (with_coordinator w (tablet_migrated w.coordinator tablet to))).world
formed_migrated {w} tablet {to} there formed =
    let moved = tablet_migrated w.coordinator tablet to in
    formed_by_rows w moved formed (by_change moved formed
    (λ limits more old. formed_tablet_migrated limits w.coordinator old tablet (more_master_number (limits_of w) limits more to there)))

-- a crash is noticed
formed_notice : {w : World} (dead : ℕ) → has_crashed w dead ≡ true → IsWellFormed w → IsWellFormed (quietly (with_coordinator w (coordinator_notice w.coordinator dead (crashed_masters w)))).world
formed_notice {w} dead crashed formed =
    let told = coordinator_notice w.coordinator dead (crashed_masters w) in
    formed_by_rows w told formed
    (λ limits more.
    let new = formed_noticed limits w dead crashed more.masters (more_coordinator (limits_of w) limits more formed.coordinator) formed in
    record { formed = new.formed; masters = sym new.masters; noticed = new.noticed; base = base_covered told.rows new.covers formed })

-- a tablet is added that is not refused
formed_added : {w : World} (tablet : ℕ) (range : Range) (master : ℕ) → MayHappen w (Event.AddTablet tablet range master) → refusal w (Event.AddTablet tablet range master) ≡ None → IsWellFormed w → IsWellFormed (quietly (tablet_added w tablet range master)).world
formed_added {w} tablet range master (number, lawful, there) none formed =
    let row = new_row tablet range master in
    let coordinator = with_row w.coordinator row in
    formed_by_both w coordinator formed (by_change coordinator formed
    (λ limits more old. formed_with_row limits w.coordinator old (added_allowed w tablet range master none)
    (formed_new_row limits number lawful (more_master_number (limits_of w) limits more master there)) refl))
    master (with_added (master_at w master) tablet range) there
    (λ limits more terms. formed_with_added (one_has_stood limits w.coordinator row refl (record { terms = terms })) number lawful
    (more_master (limits_of w) limits more (master_of w master there formed)))

-- ---- a tablet is split

formed_split : (w : World) (tablet at new : ℕ) → IsNumber w32 1 new → refusal w (Event.Split tablet at new) ≡ None → IsWellFormed w → IsWellFormed (quietly (tablet_split w tablet at new)).world
formed_split w tablet at new number none formed =
    let coordinator = rows_split w.coordinator tablet at new in
    let may = by_change coordinator formed
    (λ limits more old. formed_rows_split limits w.coordinator old tablet at new (split_allowed w tablet at new none) number) in
    split_is (λ now. IsWellFormed (quietly (with_coordinator now coordinator)).world) w (row_of w.coordinator.rows tablet) at new
    (formed_by_rows w coordinator formed may)
    (λ row owner from found is.
    let row_formed = all_found (IsFormedRow (limits_of w)) row tablet w.coordinator.rows found formed.coordinator.rows in
    let named = subst (λ phase. All (IsFormedMember (limits_of w)) (named_in phase)) is row_formed.named in
    let there = (All-head (IsFormedMember (limits_of w)) _ [] named).master in
    formed_by_both w coordinator formed may owner (with_split (master_at w owner) row.tablet at new (row.term + 1)) there
    (λ limits more terms. formed_with_split limits owner (master_at w owner) (more_master (limits_of w) limits more (master_of w owner there formed))
    row.tablet at new (row.term + 1) number (split_term_stood limits w.coordinator tablet at new row found (record { terms = terms }))))

-- ---- every event

-- a lane stays well formed at each event that is not refused, if its numbers fit then
pub formed_event : (w : World) (event : Event) (called : Called) → MayHappen w event → MayCome called → IsCalmEvent w event → refusal w event ≡ None → HasRoom w → HasRoom (happened w event called).world → IsWellFormed w → IsWellFormed (happened w event called).world
formed_event w (Event.AddTablet tablet range master) called may come calm none room after_room formed =
    formed_added tablet range master may none formed
formed_event w (Event.AddClient client) called may come calm none room after_room formed =
    formed_come client called may none formed
formed_event w (Event.Deliver number) called may come calm none room after_room formed = formed_delivered number called come room formed after_room
formed_event w (Event.Forget number) called may come calm none room after_room formed = formed_forgotten number called formed
formed_event w (Event.Turn node) called may come calm none room after_room formed = formed_turned node may room formed after_room
formed_event w (Event.Again client) called may come calm none room after_room formed = formed_again client called formed
formed_event w (Event.Migrate tablet to) called may come calm none room after_room formed = formed_migrated tablet may formed
formed_event w (Event.Split tablet at new) called may come calm none room after_room formed = grind (arith, formed_split)
formed_event w (Event.Crash master) called may come calm none room after_room formed = formed_crashed master called may calm formed
formed_event w (Event.Notice master) called may come calm none room after_room formed =
    formed_notice master (crash_came w master none) formed

-- ---- every run

-- a lane stays well formed in whatever happens there
pub formed_after : {w : World} (happening : Happening) → MayOccur w happening → IsCalmHappening w happening → HasRoom w → HasRoom (after w happening) → IsWellFormed w → IsWellFormed (after w happening)
formed_after {w} (Happens event called) may calm room after_room formed = formed_after_event w event called
    (λ none fits. formed_event w event called may.0 may.1 calm none room fits formed) after_room formed
formed_after {w} (Asks session) may calm room after_room formed = grind (arith, formed_asks)
formed_after {w} (Accepts number session) may calm room after_room formed = grind (arith, formed_accepts)

-- the first world of a run has room if each has
pub first_has_room : (w : World) (list : List Happening) → AllHaveRoom w list → HasRoom w
first_has_room w [] room = room
first_has_room w (happening ∷ later) room = room.0
