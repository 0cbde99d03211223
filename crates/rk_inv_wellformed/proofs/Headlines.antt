-- The headline laws of well formed lanes: what keeps a lane well formed, how far it may raise numbers and logs, and what sessions may do.
use Rattle.std.proofs.Common.{◌≡◌, ◌<◌, ◌≤◌, ◌∷◌, ℕ, All, IfSome, List, [], None, Ok, w32}
use Rattle.rk_inv_wellformed.proofs.Words.{Op, Node, IsLawfulEntry, IsNumber, MOST_BACKUPS, Grant, Body, CopySegment, Rebuild, Called}
use Rattle.rk_inv_wellformed.proofs.Words.{Visited, accept, ask, Session, busy, new_session, next_call, session_calling, IsWellFormed}
use Rattle.rk_inv_wellformed.proofs.Words.{IsLawfulCall, MOST_MASTERS, MayAct, MayCome, MayHappen, IsAfterStart, refusal, HasRoom}
use Rattle.rk_inv_wellformed.proofs.Words.{MOST_BYTES, MOST_NUMBER, Accepts, AllHaveRoom, Asks, Happening, IsCalm, IsCalmEvent, MayAllOccur}
use Rattle.rk_inv_wellformed.proofs.Words.{MayOccur, after, run, IsFormedWithRoom, happened, World, bytes_of_logs, master_at, new_world}
use Rattle.rk_inv_wellformed.proofs.Words.{Event, MOST_BROUGHT, brought}
use Rattle.rk_inv_wellformed.specs.Appended.{GrantSpells, StandsOn}
use Rattle.rk_inv_wellformed.specs.Brought.{most_after}
use Rattle.rk_inv_wellformed.specs.Fitting.{AllLogsFit}
use Rattle.rk_world.specs.Rebuilds.{copy_taken, rebuild_taken}
use Rattle.rk_inv_wellformed.proofs.bytes.ByteEvents.{bytes_event, bytes_rise}
use Rattle.rk_inv_wellformed.proofs.bytes.Spelled.{copies_spell, grants_spell, rebuilds_spell}
use Rattle.rk_inv_wellformed.proofs.lanes.Asks.{formed_accept, formed_ask}
use Rattle.rk_inv_wellformed.proofs.lanes.Happenings.{formed_accepts, formed_asks}
use Rattle.rk_inv_wellformed.proofs.lanes.New.{may_act_calling, new_is_well_formed, new_may_act}
use Rattle.rk_inv_wellformed.proofs.lanes.Whole.{first_has_room, formed_after, formed_event}
use Rattle.rk_inv_wellformed.proofs.room.RoomEvents.{first_logs_fit, number_after, room_event, with_number}

-- A lane where nothing has happened is well formed, with at most eight masters and one to four backups.
pub new_lanes_are_well_formed : (lane masters backups : ℕ)
    → masters ≤ MOST_MASTERS → 1 ≤ backups → backups ≤ MOST_BACKUPS → IsWellFormed (new_world lane masters backups)
new_lanes_are_well_formed = new_is_well_formed

-- ---- events

-- A well formed lane stays so at each event that may happen there, is not refused and leaves another master alive, if the lane has
-- room before and after it.
pub events_keep_lanes_well_formed : (w : World) (event : Event) (called : Called)
    → MayHappen w event → MayCome called → IsCalmEvent w event → refusal w event ≡ None
    → HasRoom w → HasRoom (happened w event called).world
    → IsWellFormed w → IsWellFormed (happened w event called).world
events_keep_lanes_well_formed = formed_event

-- The greatest number fits by itself after such an event.
pub numbers_fit : (w : World) (event : Event) (called : Called)
    → MayHappen w event → MayCome called → IsCalmEvent w event
    → refusal w event ≡ None → IsWellFormed w → HasRoom w → (happened w event called).world.top < MOST_NUMBER
numbers_fit = room_event

-- The bytes of all logs rise at most threefold, by an entry, and by what the event brings from elsewhere: what a target pulled, or a
-- rebuild read.
pub bytes_rise_at_most : (w : World) (event : Event) (called : Called)
    → MayHappen w event → refusal w event ≡ None
    → IsWellFormed w → HasRoom w → bytes_of_logs (happened w event called).world ≤ most_after w event
bytes_rise_at_most = bytes_rise

-- So they fit if it brings few.
pub bytes_fit : (w : World) (event : Event) (called : Called)
    → MayHappen w event → refusal w event ≡ None → brought w event ≤ MOST_BROUGHT
    → IsWellFormed w → HasRoom w → bytes_of_logs (happened w event called).world < MOST_BYTES
bytes_fit = bytes_event

-- ---- clients

-- A well formed lane with room stays both when a client takes its turn there.
pub turns_keep_lanes_well_formed : (w : World) (session : Session)
    → MayOccur w (Asks session) → IsFormedWithRoom w → IsFormedWithRoom (after w (Asks session))
turns_keep_lanes_well_formed = formed_asks

-- It stays both when a client takes an answer.
pub answers_keep_lanes_well_formed : (w : World) (number : ℕ) (session : Session)
    → MayOccur w (Accepts number session) → IsFormedWithRoom w → IsFormedWithRoom (after w (Accepts number session))
answers_keep_lanes_well_formed = formed_accepts

-- A new session may act.
pub new_sessions_may_act : (count client : ℕ) → IsNumber w32 1 client → MayAct count (new_session client)
new_sessions_may_act = new_may_act

-- A session that may act still may after it asked a lawful call,
pub sessions_may_call : (count : ℕ) (session : Session) (table : ℕ) (key : List ℕ) (op : Op)
    → IsLawfulCall (next_call session table key op) → MayAct count session
    → MayAct count (session_calling session table key op (busy session))
sessions_may_call = may_act_calling

-- after its turn in a well formed lane,
pub sessions_may_go_on : (w : World) (session : Session) (visited : Visited)
    → ask w session ≡ Ok visited → MayAct w.coordinator.masters session → IfSome session.outstanding (IsAfterStart w.base)
    → HasRoom visited.world → IsWellFormed w → MayAct w.coordinator.masters visited.session
sessions_may_go_on w session visited asked may start room formed = (formed_ask w session visited asked may start room formed).session

-- and after an answer there.
pub answered_sessions_may_go_on : (w : World) (number : ℕ) (session : Session) (visited : Visited)
    → accept w number session ≡ Ok visited → MayAct w.coordinator.masters session
    → IsWellFormed w → MayAct w.coordinator.masters visited.session
answered_sessions_may_go_on w number session visited taken may formed = (formed_accept w number session visited taken may formed).session

-- ---- runs

-- A well formed lane stays so in every calm run that has room.
pub runs_keep_lanes_well_formed : (w : World) (list : List Happening)
    → MayAllOccur w list → IsCalm w list → AllHaveRoom w list → IsWellFormed w → IsWellFormed (run w list)
runs_keep_lanes_well_formed w [] may calm room formed = formed
runs_keep_lanes_well_formed w (happening ∷ later) may calm room formed =
    runs_keep_lanes_well_formed (after w happening) later may.1 calm.1 room.1
    (formed_after happening may.0 calm.0 room.0 (first_has_room (after w happening) later room.1) formed)

-- It has room wherever its logs fit, and what each master has, once its numbers fit at the start.
pub runs_have_room : (w : World) (list : List Happening)
    → MayAllOccur w list → IsCalm w list → IsWellFormed w → w.top < MOST_NUMBER → AllLogsFit w list → AllHaveRoom w list
runs_have_room w [] may calm formed number fits = with_number number fits
runs_have_room w (happening ∷ later) may calm formed number fits =
    let room = with_number number fits.0 in
    let number_left = number_after happening may.0 calm.0 formed room in
    let room_left = with_number number_left (first_logs_fit (after w happening) later fits.1) in
    let formed_left = formed_after happening may.0 calm.0 room room_left formed in
    (room, runs_have_room (after w happening) later may.1 calm.1 formed_left number_left fits.1)

-- ---- what masters append

-- What a master of a well formed lane with room appends when it takes a message from the wire can be spelled, also when its log turns
-- out to have no room for it: the entry that begins what it was granted,
pub grants_can_be_spelled : (w : World) (master number : ℕ) (from to : Node) (grant : Grant)
    → StandsOn w master number from to (Body.Grant grant) → GrantSpells (master_at w master) grant
grants_can_be_spelled = grants_spell

-- and the copies and the entry that end a rebuild, at a Rebuild,
pub rebuilds_can_be_spelled : (w : World) (master number : ℕ) (from to : Node) (rebuild : Rebuild)
    → StandsOn w master number from to (Body.Rebuild rebuild)
    → All IsLawfulEntry (rebuild_taken (master_at w master) rebuild).master.log.entries
rebuilds_can_be_spelled = rebuilds_spell

-- and at a Copy.
pub copies_can_be_spelled : (w : World) (master number : ℕ) (from to : Node) (copy : CopySegment)
    → StandsOn w master number from to (Body.Copy copy)
    → All IsLawfulEntry (copy_taken (master_at w master) copy).master.log.entries
copies_can_be_spelled = copies_spell
