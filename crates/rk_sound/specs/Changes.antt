-- Changes: the conditions of the small changes of calls, logs and messages, over views. A change is made if its condition holds, and then
-- each part is kept; that a step meets the conditions of its changes is another matter, shown by what it tests and by the parts.
use Rattle.std.specs.Prelude.{◌≡◌, ◌≢◌, ◌≤◌, ◌<◌, ℕ, ◌+◌, Bool, true, false, if◌then◌else◌, List, [], ◌∷◌, ◌++◌, Option, Some, None, Contains, IfSome, All, length, slice_get, is_some}
use Rattle.rk_types.specs.declared.call.Call.{Call}
use Rattle.rk_types.specs.declared.call.End.TheVariants as ends
use Rattle.rk_types.specs.declared.call.Outcome.{Outcome}
use Rattle.rk_types.specs.declared.history.Placed.{Placed}
use Rattle.rk_types.specs.declared.lineage.Member.{Member}
use Rattle.rk_model.specs.History.{map_after}
use Rattle.rk_model.specs.Machine.{Allowed, change_of}
use Rattle.rk_model.specs.Merged.{is_mutation}
use Rattle.rk_entry.specs.declared.entry.Entry.{Entry}
use Rattle.rk_entry.specs.declared.lists.TheConstants.{FIRST_SIDE_SEGMENT}
use Rattle.rk_log.specs.Cut.{cut}
use Rattle.rk_log.specs.Log.{Log, bytes_of, committed, IsBackup, known_of}
use Rattle.rk_transfer.specs.Handover.{is_serving}
use Rattle.rk_transfer.specs.declared.handover.Handover.{Handover}
use Rattle.rk_tablet_map.specs.Phase.{lineage_of}
use Rattle.rk_tablet_map.specs.Rows.{row_of}
use Rattle.rk_tablet_map.specs.declared.row.Row.{Row}
use Rattle.rk_message.specs.declared.message.Message.{Message}
use Rattle.rk_world.specs.Ranges.{has_key}
use Rattle.rk_world.specs.Ends.{end_of_item, items_in, outcome_of}
use Rattle.rk_world.specs.Lineage.{last_of}
use Rattle.rk_world.specs.Base.{Base, base_map, map_entry_of}
use Rattle.rk_world.specs.Requests.{item_of}
use Rattle.rk_world.specs.Client.{call_lane}
use Rattle.rk_world.specs.Premises.{IsAfterStart}
use Rattle.rk_world.specs.declared.ledger.LastCall.{LastCall}
use Rattle.rk_sound.specs.View.{View, truths, rests}
use Rattle.rk_sound.specs.Terms.{SentFits, tenure_in, range_in}
use Rattle.rk_sound.specs.Cover.{IsWithinRows}
use Rattle.rk_sound.specs.Logs.{LogSays, IsFirstPart, IsKnownBefore, stored_of}
use Rattle.rk_sound.specs.Handing.{handed_by}
use Rattle.rk_sound.specs.Calls.{AreHandedOver}
use Rattle.rk_sound.specs.Counters.{IsNext}
use Rattle.rk_sound.specs.Rest.{IsEntryOf, IsLast, IsLastAsked, IsRest, call_ends, records_of}
use Rattle.rk_sound.specs.Messages.{SaysOf, Says}
use Rattle.rk_sound.specs.Asked.{RequestSays, IsAccepted, IsRequest, WasAsked, HasSeen}

-- ---- the wire

-- a message may be sent if it says what the parts ask of it; a message may always be forgotten
pub record MaySend (v : View) (message : Message) : Type 0 where
  pub terms : All (λ row. SentFits row message.body) v.rows
  pub logs : LogSays v.logs v.stored message.from message.to message.body
  pub counters :
      All (λ row. IfSome (handed_by row v.handovers message.body) (λ h. IsNext (truths v row ++ rests v row) h.floor)) v.rows
  pub calls :
      All (λ row. IfSome (handed_by row v.handovers message.body) (λ h. AreHandedOver v.base row.range v.journal h.ends)) v.rows
  pub cover :
      IfSome (tenure_in message.body) (λ tenure. is_some (row_of v.rows tenure.tablet) ≡ true)
      × IfSome (range_in message.body) (IsWithinRows v.rows)
  pub messages :
      All (λ row. SaysOf row v.logs v.written v.stored v.handovers v.completions v.merged v.live v.handed message.from message.to
      message.body) v.rows
  pub replies : Says v.journal message.to message.body
  pub asked : RequestSays v.asked v.journal message.from message.body

-- ---- what clients ask and accept

-- a client may come that has asked nothing
pub record MayCome (v : View) (client : ℕ) : Type 0 where
  pub new : v.asked client ≡ None

-- a message may be saved, to be sent again, that is a Request of its client
pub record MaySave (v : View) (client : ℕ) (message : Message) : Type 0 where
  pub request : IsRequest v.asked v.journal client message.from message.body

-- a client may ask a call when its last one, if any, is older and accepted, the key lies in this lane, and the call comes after all
-- that the start records of the client
pub record MayAsk (v : View) (client : ℕ) (last : LastCall) : Type 0 where
  pub own : last.call.client ≡ client
  pub here : call_lane last.call ≡ v.lane
  pub after : IsAfterStart v.base last.call
  pub accepted : IfSome (v.asked client) (λ old. (old.call.seq < last.call.seq) × IsAccepted v.journal old.call)

-- a record may be accepted when it is that of its client's last call, if the client is there, and that call has no accepted one
pub record MayAccept (v : View) (place : ℕ) : Type 0 where
  pub placed : Placed
  pub stands : slice_get v.journal place ≡ Some placed
  pub last : IfSome (v.asked placed.call.client) (λ last. last.call ≡ placed.call)
  pub first : IsAccepted v.journal placed.call → ⊥

-- ---- backups

-- a backup of the lane may take bytes of a master's log that continue what it stores, once the segments before are known to be
-- stored whole
pub record MayStore (v : View) (master backup segment : ℕ) (bytes : List ℕ) : Type 0 where
  pub there : IsBackup (v.logs master) backup
  pub goes_on : IsFirstPart (stored_of v.stored master backup segment ++ bytes) (bytes_of (v.logs master) segment)
  pub in_order : bytes ≢ [] → IsKnownBefore (v.logs master) (known_of (v.logs master) backup) segment

-- a living master may believe that a backup of the lane stores so many bytes if it does
pub record MayTell (v : View) (master backup segment size : ℕ) : Type 0 where
  pub lives : v.live master ≡ true
  pub there : IsBackup (v.logs master) backup
  pub is_stored : size ≤ length (stored_of v.stored master backup segment)

-- ---- calls

-- a row whose lineage ends with a master that answers calls for a key
pub record IsServed (rows : List Row) (handovers : ℕ → Handover) (live : Bool) (master table : ℕ) (key : List ℕ) : Type 0 where
  pub lives : live ≡ true
  pub row : Row
  pub has_row : Contains rows row
  pub in_row : has_key row.range table key ≡ true
  pub last : Member
  pub is_last : last_of (lineage_of row.phase) ≡ Some last
  pub here : last.master ≡ master
  pub serves : is_serving (handovers row.tablet).role ≡ true

-- a master answers calls for the key of a call
abbrev pub IsServedIn : View → ℕ → Call → Type 0
IsServedIn v master call = IsServed v.rows (v.handovers master) (v.live master) master call.table call.key

-- a call is the last that its client asked, is not staged, and may end so behind all that is staged
pub record MayEnd (base : Base) (rest : List Entry) (journal : List Placed) (asked : ℕ → Option LastCall) (call : Call) (outcome : Outcome) : Type 0 where
  pub last : IsLastAsked asked journal call.client call.seq call.table call.key
  pub same_call : last.last.call ≡ call
  pub unstaged : All (λ end. end.client ≢ call.client) (call_ends rest)
  pub allowed :
      Allowed
      (map_after (base_map base) (journal ++ records_of asked (call_ends rest)) call.table call.key)
      call.op outcome

-- a call may end so behind what is staged of a row
abbrev pub MayEndIn : View → Row → Call → Outcome → Type 0
MayEndIn v row call outcome = MayEnd v.base (rests v row) v.journal v.asked call outcome

-- a log has room for one more main segment
abbrev pub HasSegmentLeft : Log → Type 0
HasSegmentLeft log = length (cut log.entries) + 1 < FIRST_SIDE_SEGMENT

-- the entry of a call may be appended to the log of a master that answers calls for the key, if the log has room; the tablet has
-- this counter then. Each item of the entry is above all that counts for the row, and the counter above that and the entry. The call
-- is the last that its client asked, and with its entry what is staged of the row goes on lawfully
pub record MayAppend (v : View) (master : ℕ) (call : Call) (entry : Entry) (counter : ℕ) : Type 0 where
  pub served : IsServedIn v master call
  pub room : HasSegmentLeft (v.logs master)
  pub own : IsEntryOf call entry
  pub above : All (λ item. IsNext (truths v served.row ++ rests v served.row) item.version) (items_in entry)
  pub next : IsNext (truths v served.row ++ (rests v served.row ++ entry ∷ [])) counter
  pub last : IsLast (v.asked call.client) call
  pub goes_on : IsRest v.base served.row.range (truths v served.row) (rests v served.row ++ entry ∷ []) v.journal v.asked

-- the version that a master gives next to a key of a row
abbrev pub next_version : View → ℕ → Row → ℕ
next_version v master row = (v.handovers master row.tablet).counter

-- a write or a removal may be staged if its master answers calls for the key: it takes the tablet's counter as its
-- version, and leaves what the call says
pub record MayStage (v : View) (master : ℕ) (call : Call) (value : Option (List ℕ)) : Type 0 where
  pub served : IsServedIn v master call
  pub ends : MayEndIn v served.row call (outcome_of (end_of_item (next_version v master served.row) value))
  pub room : HasSegmentLeft (v.logs master)
  pub leaves :
      change_of call.op (outcome_of (end_of_item (next_version v master served.row) value))
      ≡ Some (map_entry_of (item_of call (next_version v master served.row) value) value)

-- how a refused call ends: what it found is absent, or has this version
abbrev pub refused_as : ℕ → Bool → Outcome
refused_as found absent = outcome_of (if absent then ends.Absent else ends.Mismatch found)

-- a refusal may be staged if its master answers calls for the key
pub record MayRefuse (v : View) (master : ℕ) (call : Call) (outcome : Outcome) : Type 0 where
  pub served : IsServedIn v master call
  pub ends : MayEndIn v served.row call outcome
  pub room : HasSegmentLeft (v.logs master)
  pub leaves : change_of call.op outcome ≡ None

-- a read may get its record if it returns what the journal leaves, and was asked, by a client that had seen this stamp
pub record MayRead (v : View) (master : ℕ) (call : Call) (seen : ℕ) (outcome : Outcome) : Type 0 where
  pub read : is_mutation call.op ≡ false
  pub served : IsServedIn v master call
  pub was_asked : WasAsked (v.asked call.client) v.journal call
  pub has_seen : HasSeen (v.asked call.client) call seen
  pub allowed : Allowed (map_after (base_map v.base) v.journal call.table call.key) call.op outcome

-- the next entry of a living master's log may be applied if every backup is known to hold it
pub record MayApply (v : View) (master : ℕ) : Type 0 where
  pub lives : v.live master ≡ true
  pub held : (v.written master).applied < committed (v.logs master)
