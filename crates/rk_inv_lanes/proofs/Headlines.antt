-- The headline laws of one lane: nothing outgrows its limit, what comes late changes nothing, the stored logs of a quiet lane give the map,
-- a wire from which messages are delivered is empty in the end, and what is held is applied.
use Rattle.std.proofs.Common.{nat_cmp}
use Rattle.std.specs.Cmp.{nat_cmp_total}
use Rattle.std.specs.FinMap.Entries.{is_sorted-put}
use Rattle.rk_inv_base.proofs.Words.{ℕ, new_world, ◌≡◌, None, Event, Called, IsWellFormed, MayHappen, refusal, HasRoom, happened, World}
use Rattle.rk_inv_base.proofs.Words.{IsSound, ask, Session, world_visited, accept, Some, get, Node, Message, master_step, seen_in}
use Rattle.rk_inv_base.proofs.Words.{master_at, false, with_message, Prepare, ready, has_crashed, tablet_in, Tenure, transfer, Body}
use Rattle.rk_inv_base.proofs.Words.{tenure_in, row_of, Row, true, is_noticed, Call, MayAnswerMoved, Master, choice_of, Redirects}
use Rattle.rk_inv_base.proofs.Words.{IsInOrder, Wants, Reply, Request, call_of, List, view, FIRST_SIDE_SEGMENT, cut, log_in, length, ◌<◌}
use Rattle.rk_inv_base.proofs.Words.{arith, no_segments, range_with_len, ◌∙◌, each_insert, All, subst, sym, Segments, ◌≤◌, ap, refl, ◌-◌}
use Rattle.rk_inv_base.proofs.Words.{Known, known_length, MOST_BYTES, bytes_of_logs, committed, ◌≢◌, [], staged, master_turn, length-map}
use Rattle.rk_inv_base.proofs.Words.{filled, ledger_after}
use Rattle.rk_types.specs.NumberMap.{numbers}
use Rattle.rk_message.specs.Wire.{number_at}
use Rattle.rk_world.specs.Justified.{MayAnswerNotYet}
use Rattle.rk_world.specs.Premises.{MayCome}
use Rattle.rk_world.specs.Quiet.{IsQuiet}
use Rattle.rk_world.specs.Runs.{IsCalmEvent, Happening, after}
use Rattle.rk_world.specs.Stands.{Stands}
use Rattle.rk_world.specs.World.{live_masters}
use Rattle.rk_inv_wellformed.proofs.maps.Lists.{all_before}
use Rattle.rk_inv_wellformed.proofs.maps.Maps.{each_from_pairs}
use Rattle.rk_inv_wellformed.proofs.maps.Numbered.{numbers_are, numbers_kept, numbered_order}
use Rattle.rk_inv_base.proofs.views.Fresh.{each_fresh}
use Rattle.rk_inv_events.proofs.Below.{ask_keeps, accept_keeps}
use Rattle.rk_inv_events.proofs.events.Coordinating.{of_master}
use Rattle.rk_inv_events.proofs.events.Crashing.{segments_left}
use Rattle.rk_inv_lanes.specs.applied.CaughtUp.{AllCaughtUp, IsCaughtUp}
use Rattle.rk_inv_lanes.specs.late.Late.{IsOlder, IsPassedOver, says_again, IsLateReport, is_told_again, is_waited_for}
use Rattle.rk_inv_lanes.specs.late.Refused.{IsPutOff, HasPlainRequests, WasRefused}
use Rattle.rk_inv_lanes.specs.late.Sent.{order_to, report_of, IsToldToOwn, IsMade}
use Rattle.rk_inv_lanes.specs.late.Unchanged.{IsUntouched, IsUnchanged}
use Rattle.rk_inv_lanes.specs.room.Kept.{IsKept}
use Rattle.rk_inv_lanes.specs.stands.Backups.{HasOwnBackups, AllBackupsTell, AreBackups, IsNumbered}
use Rattle.rk_inv_lanes.specs.wires.Emptied.{Arrival, deliveries_left, emptied, taken_off}
use Rattle.rk_inv_lanes.proofs.applied.Lanes.{AreCaughtUp, few_of}
use Rattle.rk_inv_lanes.proofs.applied.Sends.{sends_one, sent_counted}
use Rattle.rk_inv_lanes.proofs.late.Lanes.{comes_to, reaches, untouched, lost, unchanged}
use Rattle.rk_inv_lanes.proofs.late.Orders.{older_quiet, passed_stays, passed_quiet}
use Rattle.rk_inv_lanes.proofs.late.Sources.{request_plain}
use Rattle.rk_inv_lanes.proofs.room.Events.{logged_new, logged_asked, logged_accepted}
use Rattle.rk_inv_lanes.proofs.room.FittingLanes.{fits_new, fits_asked, fits_accepted}
use Rattle.rk_inv_lanes.proofs.stands.Telling.{goes_on, range_numbered}
use Rattle.rk_inv_lanes.proofs.wires.Emptied.{silent_after}
use Rattle.rk_types.specs.declared.call.Answer.TheVariants as answers
use Rattle.rk_transfer.specs.declared.role.Role.TheVariants as roles
use Rattle.rk_message.specs.declared.message.Body.TheVariants as bodies
use Rattle.rk_world.specs.declared.event.Event.TheVariants as events

-- ---- room

-- In a lane where nothing has happened records are logged, and entries fit a segment.
pub kept_new : (lane masters backups : ℕ) → IsKept (new_world lane masters backups)
kept_new lane masters backups = record { logged = logged_new lane masters backups; fits = fits_new lane masters backups }

-- In a sound and well formed lane with room, if that is so, it is so after each event that is not refused (`kept_event`), and the lane
-- has room then (`room_left`): no number is too great, its logs have few bytes, its masters few records, and each entry fits a segment. So
-- what must not be exceeded is refused before, when the lane is worn, and no event that is not refused goes too far.
pub kept_event : (w : World) (event : Event) (called : Called) → IsSound w → IsWellFormed w → HasRoom w → IsKept w → MayHappen w event
    → refusal w event ≡ None → IsKept (happened w event called).world
kept_event = Rattle.rk_inv_lanes.proofs.room.Events.kept_event

pub room_left : (w : World) (event : Event) (called : Called) → IsSound w → IsWellFormed w → HasRoom w → IsKept w → MayHappen w event
    → MayCome called → IsCalmEvent w event → refusal w event ≡ None → HasRoom (happened w event called).world
room_left w event called sound formed room kept may come calm none =
    Rattle.rk_inv_lanes.proofs.room.Events.room_left w event called sound formed room kept may none come calm

-- It stays so when a client takes its turn, and when it takes an answer.
pub kept_asked : (w : World) (session : Session) → IsKept w → IsKept (world_visited w (ask w session))
kept_asked w session kept = record { logged = logged_asked w session kept.logged; fits = fits_asked w session kept.fits }

pub kept_accepted : (w : World) (number : ℕ) (session : Session) → IsKept w → IsKept (world_visited w (accept w number session))
kept_accepted w number session kept = search (logged_accepted, fits_accepted, kept.logged, kept.fits)

-- ---- what comes late

-- Whatever lane it is: an order, a pull or a report of an older term, whenever it comes, changes no role, no table and no row.
-- A message to a master of a smaller term than the master keeps for the tablet does nothing at all (`older_changes_nothing`). A message
-- that it passes over, since it comes late or asks for a move that the tablet does not make, changes nothing (`passed_changes_nothing`),
-- and but for two cases sends nothing (`passed_is_silent`): a target that waits for its grant since that very Prepare reports again that it
-- is ready (`ready_again_sent`), and a source that is frozen since that very Close hands its tablet over again (`transfer_sent`).
module _ (w : World) (number master : ℕ) where
  pub older_changes_nothing : (message : Message) (called : Called) → get w.wire.messages number ≡ Some message
      → message.to ≡ Node.Master master → IsOlder (master_at w master) message.body
      → IsUntouched w (happened w (Event.Deliver number) called).world
  older_changes_nothing message called there its older =
      comes_to (IsUntouched w) w number master message called there its
      (reaches (IsUntouched w) w master message (lost w) (untouched w master (seen_in message.body)
      (master_step (master_at w master) message) (older_quiet (master_at w master) message.from message.body older)))

  pub passed_changes_nothing : (message : Message) (called : Called) → get w.wire.messages number ≡ Some message
      → message.to ≡ Node.Master master → IsPassedOver (master_at w master) message.body
      → IsUnchanged w (happened w (Event.Deliver number) called).world
  passed_changes_nothing message called there its passed =
      comes_to (IsUnchanged w) w number master message called there its
      (reaches (IsUnchanged w) w master message (lost w).unchanged (unchanged w master (seen_in message.body)
      (master_step (master_at w master) message) (passed_stays (master_at w master) message.from message.body passed)))

  pub passed_is_silent : (message : Message) (called : Called) → get w.wire.messages number ≡ Some message → message.to ≡ Node.Master master
      → IsPassedOver (master_at w master) message.body → says_again (master_at w master) message.body ≡ false
      → IsUntouched w (happened w (Event.Deliver number) called).world
  passed_is_silent message called there its passed untold =
      comes_to (IsUntouched w) w number master message called there its
      (reaches (IsUntouched w) w master message (lost w) (untouched w master (seen_in message.body)
      (master_step (master_at w master) message) (passed_quiet (master_at w master) message.from message.body passed untold)))

pub ready_again_sent : (w : World) (number master : ℕ) (prepare : Prepare) (from : ℕ) (called : Called)
    → get w.wire.messages number ≡ Some (order_to master (bodies.Prepare prepare)) → has_crashed w master ≡ false
    → (tablet_in w master prepare.tenure.tablet).handover.term ≡ prepare.tenure.term
    → (tablet_in w master prepare.tenure.tablet).handover.role ≡ roles.Wanting from
    → (happened w (events.Deliver number) called).world.wire ≡ with_message (ready (master_at w master) prepare.tenure from) w.wire
ready_again_sent = Rattle.rk_inv_lanes.proofs.late.Lanes.ready_again_sent

pub transfer_sent : (w : World) (number master : ℕ) (tenure : Tenure) (called : Called)
    → get w.wire.messages number ≡ Some (order_to master (bodies.Close tenure)) → has_crashed w master ≡ false
    → (tablet_in w master tenure.tablet).handover.term ≡ tenure.term → (tablet_in w master tenure.tablet).handover.role ≡ roles.Frozen
    → (happened w (events.Deliver number) called).world.wire
    ≡ with_message (transfer (master_at w master) tenure (tablet_in w master tenure.tablet)) w.wire
transfer_sent = Rattle.rk_inv_lanes.proofs.late.Lanes.transfer_sent

-- A report about a tablet without a row or of another term than the row's, or of a master that was noticed dead, does nothing at all
-- (`late_report_changes_nothing`): the coordinator, the journal and the wire stay as they are. A report that the row does not wait for does
-- nothing either (`unawaited_changes_nothing`), but that the owner is sent its Own again if it reports that it has ended
-- its work (`owner_told_again`).
pub late_report_changes_nothing : (w : World) (number sender : ℕ) (body : Body) (tenure : Tenure) (called : Called)
    → get w.wire.messages number ≡ Some (report_of sender body) → tenure_in body ≡ Some tenure → IsLateReport w.coordinator sender tenure
    → IsUntouched w (happened w (events.Deliver number) called).world
late_report_changes_nothing w number sender body tenure called there speaks late =
    Rattle.rk_inv_lanes.proofs.late.Lanes.late_report_changes_nothing w number sender body tenure called there speaks late

pub unawaited_changes_nothing : (w : World) (number sender : ℕ) (body : Body) (tenure : Tenure) (row : Row) (called : Called)
    → get w.wire.messages number ≡ Some (report_of sender body) → tenure_in body ≡ Some tenure
    → row_of w.coordinator.rows tenure.tablet ≡ Some row → is_waited_for row.phase sender body ≡ false
    → is_told_again row.phase sender body ≡ false → IsUntouched w (happened w (events.Deliver number) called).world
unawaited_changes_nothing w number sender body tenure row called there speaks found other untold =
    Rattle.rk_inv_lanes.proofs.late.Lanes.unawaited_changes_nothing w number sender body tenure called there speaks row found other untold

pub owner_told_again : (w : World) (number sender : ℕ) (body : Body) (tenure : Tenure) (row : Row) (called : Called)
    → get w.wire.messages number ≡ Some (report_of sender body) → tenure_in body ≡ Some tenure → is_noticed w.coordinator sender ≡ false
    → row_of w.coordinator.rows tenure.tablet ≡ Some row → row.term ≡ tenure.term → is_told_again row.phase sender body ≡ true
    → IsToldToOwn w sender row (happened w (events.Deliver number) called).world
owner_told_again w number sender body tenure row called there speaks heard found same again =
    Rattle.rk_inv_lanes.proofs.late.Lanes.owner_told_again w number sender body tenure called there speaks row heard found same again

-- A master refuses a call only when it may: it answers Moved only if no tablet that it serves has the key, and NotYet only if the
-- record may not have arrived. It is so of what each master chooses, if its tablets are ordered by number, and of each such Reply that is
-- on the wire once a Request is delivered and was not before.
pub moved_justified : (master : Master) (call : Call) → choice_of master call ≡ Redirects → MayAnswerMoved master call
moved_justified = Rattle.rk_inv_lanes.proofs.late.Refusals.moved_justified

pub not_yet_justified : (master : Master) (call : Call) (tablet : ℕ) → IsInOrder master.tablets → choice_of master call ≡ Wants tablet
    → MayAnswerNotYet master call tablet
not_yet_justified = Rattle.rk_inv_lanes.proofs.late.Refusals.not_yet_justified

pub told_moved : (w : World) (number new master client tablet : ℕ) (request : Request) (message : Message) (reply : Reply) (called : Called)
    → IsMade w number new master client request message called → message.body ≡ bodies.Reply reply → reply.answer ≡ answers.Moved tablet
    → MayAnswerMoved (master_at w master) (call_of client request)
told_moved w number new master client tablet request message reply called made replies is =
    Rattle.rk_inv_lanes.proofs.late.Answered.told_moved w number new master client request message called made reply replies tablet is

pub told_not_yet : (w : World) (number new master client : ℕ) (request : Request) (message : Message) (reply : Reply) (key : List ℕ)
    (called : Called)
    → IsWellFormed w → IsMade w number new master client request message called → message.body ≡ bodies.Reply reply
    → reply.answer ≡ answers.NotYet key → IsPutOff (master_at w master) (call_of client request)
told_not_yet w number new master client request message reply key called formed made replies is =
    Rattle.rk_inv_lanes.proofs.late.Answered.told_not_yet w number new master client request message called made reply replies key formed is

-- Whatever happens in a lane, each Moved or NotYet that comes on the wire by it is the answer to a Request that was delivered just then to
-- a master that may answer so (`each_moved`, `each_not_yet`). The lane has no refusal among the requests that its clients may send again; a
-- sound lane has none (`sound_requests`).
pub each_moved : (w : World) (event : Event) (new tablet : ℕ) (message : Message) (reply : Reply) (called : Called) → HasPlainRequests w
    → get w.wire.messages new ≡ None → get (happened w event called).world.wire.messages new ≡ Some message
    → message.body ≡ bodies.Reply reply → reply.answer ≡ answers.Moved tablet → WasRefused w event MayAnswerMoved
each_moved w event new tablet message reply called requests free made replies is =
    Rattle.rk_inv_lanes.proofs.late.Sources.each_moved w event new message reply called requests free made replies tablet is

pub each_not_yet : (w : World) (event : Event) (new : ℕ) (message : Message) (reply : Reply) (key : List ℕ) (called : Called)
    → HasPlainRequests w → IsWellFormed w → get w.wire.messages new ≡ None
    → get (happened w event called).world.wire.messages new ≡ Some message → message.body ≡ bodies.Reply reply
    → reply.answer ≡ answers.NotYet key → WasRefused w event IsPutOff
each_not_yet w event new message reply key called requests formed free made replies is =
    Rattle.rk_inv_lanes.proofs.late.Sources.each_not_yet w event new message reply called requests free made replies key formed is

pub sound_requests : (w : World) → IsSound w → HasPlainRequests w
sound_requests w sound client request there =
    request_plain (view w).asked (view w).journal client request.from request.body (sound.asked.again client request there)

-- ---- what backups store of a quiet lane

-- In a sound and well formed lane that is quiet, whatever its history starts from, what each reporting backup stores of a row has just the
-- records of the history: its main segments are read back, up to a segment that was never written, and the side segments that these name.
-- It holds if no log has more main segments than there are numbers for them, as in a lane with room.
pub quiet_stands : (w : World) (sessions : List Session) → IsSound w → IsWellFormed w → HasOwnBackups w
    → IsQuiet w.coordinator.rows w.crashed (live_masters w) sessions
    → ((master : ℕ) → length (cut (log_in w master).entries) < FIRST_SIDE_SEGMENT) → Stands w
quiet_stands = Rattle.rk_inv_lanes.proofs.stands.Standing.quiet_stands

-- so they do with room
pub quiet_stands_in_room : (w : World) (sessions : List Session) → IsSound w → IsWellFormed w → HasRoom w → HasOwnBackups w
    → IsQuiet w.coordinator.rows w.crashed (live_masters w) sessions → Stands w
quiet_stands_in_room w sessions sound formed room told quiet =
    quiet_stands w sessions sound formed told quiet (λ q. let left = segments_left w formed room q in omega (arith, left))

-- The backups of a lane that report what they store are its own, whatever happens; and in a lane that began with nothing all of them do.

-- in a lane where nothing has happened all backups report
pub all_new : (lane masters backups : ℕ) → AllBackupsTell (new_world lane masters backups)
all_new lane masters backups = numbers_are (λ number. no_segments) (range_with_len 1 backups)

pub all_after : (w : World) (happening : Happening) → AllBackupsTell w → AllBackupsTell (after w happening)
all_after w happening all = goes_on (λ count backups. numbers backups ≡ range_with_len 1 count)
    (λ count backups backup segments there are.
    numbers_kept backups count backup segments are (record { first = there.first; last = there.last }) ∙ are)
    w all happening

pub own_after : (w : World) (happening : Happening) → HasOwnBackups w → HasOwnBackups (after w happening)
own_after w happening own = goes_on AreBackups
    (λ count backups backup segments there own. record {
      order = is_sorted-put nat_cmp nat_cmp_total backup segments backups own.order;
      numbered = each_insert (λ backup segments. IsNumbered count backup) backups backup segments own.numbered there;
    })
    w own happening

-- if all of so many report what they store, those that report are they
pub own_where_all_tell : (w : World) → AllBackupsTell w → HasOwnBackups w
own_where_all_tell w are = record {
  order = numbered_order w.backups w.backup_count are;
  numbered = each_from_pairs (λ backup segments. IsNumbered w.backup_count backup) w.backups
      (all_before (IsNumbered w.backup_count) (λ (pair : ℕ × Segments). pair.0) w.backups
      (subst (All (IsNumbered w.backup_count)) (sym are) (range_numbered w.backup_count 1 w.backup_count (omega arith) (omega arith))));
}

-- ---- wires that empty

-- A wire empties. When its oldest message arrives and is forgotten, again and again, nothing is on it after as many messages as
-- `deliveries_left` counts in the lane at the start (`empties`): however each of them arrives, whatever the calls of replicas come to,
-- whatever is lost, and whatever the nodes know. It takes no more if the lane is worn: a delivery is refused then, but the message is
-- forgotten.
-- Each message that is taken off leaves fewer deliveries, whichever it is (`taken_off_fewer`). The masters have to be in their order, as
-- they are in each lane that is well formed (`masters_in_order`), and they stay so (`taken_off_order`).
pub empties : (w : World) (arrivals : List Arrival) → IsInOrder w.masters → deliveries_left w ≤ length arrivals
    → number_at 1 (emptied w arrivals).wire ≡ None
empties w arrivals order few = silent_after arrivals w order few

pub taken_off_fewer : (w : World) (number : ℕ) (message : Message) (arrival : Arrival) → IsInOrder w.masters
    → get w.wire.messages number ≡ Some message → deliveries_left (taken_off w number arrival) < deliveries_left w
taken_off_fewer = Rattle.rk_inv_lanes.proofs.wires.Emptied.taken_off_fewer

pub taken_off_order : (w : World) (number : ℕ) (message : Message) (arrival : Arrival) → IsInOrder w.masters
    → get w.wire.messages number ≡ Some message → IsInOrder (taken_off w number arrival).masters
taken_off_order = Rattle.rk_inv_lanes.proofs.wires.Emptied.taken_off_order

-- as they do in each lane that is well formed
pub masters_in_order : (w : World) → IsWellFormed w → IsInOrder w.masters
masters_in_order w formed = numbered_order w.masters w.coordinator.masters formed.masters_are

-- ---- what masters have applied

-- In a lane where nothing has happened each master is caught up.
pub caught_new : (lane masters backups : ℕ) → AllCaughtUp (new_world lane masters backups)
caught_new lane masters backups master =
    let fresh = each_fresh lane masters backups master in
    subst IsCaughtUp (sym fresh.is_new) (record {
      known = λ backup segment main. omega (arith, ap (λ (known : Known). known_length known segment) (fresh.nothing_known (backup - 1)));
      count_is = λ some few. refl;
    })

-- They stay so at each event, whatever is sent: what is appended no backup is known to hold, and when a backup reports that it holds more,
-- what all of them hold by then is applied at once. The lane need not be well formed.
pub events_keep_masters_caught_up : (w : World) (event : Event) (called : Called) → AllCaughtUp w
    → AllCaughtUp (happened w event called).world
events_keep_masters_caught_up = Rattle.rk_inv_lanes.proofs.applied.Lanes.caught_event

-- And so they do when a client takes its turn, and when it takes an answer.
pub caught_asked : (w : World) (session : Session) → AllCaughtUp w → AllCaughtUp (world_visited w (ask w session))
caught_asked w session caught = ask_keeps AreCaughtUp w caught session

pub caught_accepted : (w : World) (number : ℕ) (session : Session) → AllCaughtUp w → AllCaughtUp (world_visited w (accept w number session))
caught_accepted w number session caught = accept_keeps AreCaughtUp w caught number session

-- In a well formed lane whose logs fit, a master that is caught up has applied just the entries that every backup is known to hold.
pub all_applied : (w : World) (master : ℕ) → IsWellFormed w → bytes_of_logs w < MOST_BYTES → AllCaughtUp w
    → (master_at w master).applied ≡ committed (log_in w master)
all_applied w master formed room caught = of_master w formed (λ m. IsCaughtUp m → m.applied ≡ committed m.log) master (λ now. refl)
    (λ m is its now. let has = few_of w master m formed room is in now.count_is has.backed has.few) (caught master)

-- So a master with staged entries sends something on its turn: the bytes that some backup lacks (`sends_some`). As an event, its turn
-- raises the number of messages that were sent (`wire_counts`).
pub sends_some : (w : World) (master : ℕ) → IsWellFormed w → bytes_of_logs w < MOST_BYTES → AllCaughtUp w → staged (master_at w master) ≢ []
    → (master_turn (master_at w master)).sends ≢ []
sends_some w master formed room caught some none =
    omega (arith, sends_one master formed room caught some, ap (λ (list : List Message). length list) none)

pub wire_counts : (w : World) (master : ℕ) (called : Called) → IsWellFormed w → bytes_of_logs w < MOST_BYTES → AllCaughtUp w
    → staged (master_at w master) ≢ [] → w.wire.sent < (happened w (Event.Turn (Node.Master master)) called).world.wire.sent
wire_counts w master called formed room caught some =
    grind (arith, master_turn, master_at, filled, ledger_after, sends_one, sent_counted, length-map)
