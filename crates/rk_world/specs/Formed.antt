-- Well formed: what the code of a lane needs of its world, below soundness. Maps are in order, what is named is there, no number is
-- greater than the greatest so far, and what is in logs, messages and sessions can be spelled. Nothing here reads
-- what a backup stores.
use Rattle.std.specs.Prelude.{◌≡◌, ◌≤◌, ◌<◌, ℕ, true, false, List, [], ◌∷◌, ◌++◌, length, map, max, All, IfSome, None, unwrap_or}
use Rattle.std.specs.Int.{w32, w64}
use Rattle.std.specs.List.{IsDistinct, flat_map, range_with_len, sum_by}
use Rattle.std.specs.Prelude.{nat_eq}
use Rattle.rk_types.specs.Hashing.{hash_of}
use Rattle.rk_types.specs.NumberMap.{EachIn, IsInOrder, NumberMap, numbers}
use Rattle.rk_types.specs.declared.call.Call.{Call}
use Rattle.rk_types.specs.declared.lineage.Member.{Member}
use Rattle.rk_entry.specs.Ends.{IsLawfulRange}
use Rattle.rk_entry.specs.Entries.{spelled_all}
use Rattle.rk_entry.specs.Numbers.{IsNumber}
use Rattle.rk_entry.specs.declared.lists.TheConstants.{FIRST_SIDE_SEGMENT}
use Rattle.rk_log.specs.declared.copied.TheConstants.{MOST_BACKUPS}
use Rattle.rk_types.specs.declared.held.TheConstants.{SEGMENT_BYTES}
use Rattle.rk_table.specs.Order.{IsInScanOrder}
use Rattle.rk_done.specs.Completions.{ends_of}
use Rattle.rk_tablet_map.specs.Phase.{lineage_of, member}
use Rattle.rk_tablet_map.specs.Rows.{IsTabletMap, is_covered}
use Rattle.rk_tablet_map.specs.declared.phase.Phase.{Phase}
use Rattle.rk_tablet_map.specs.declared.phase.Phase.TheVariants.{Owned, Opening, Moving, Rebuilding}
use Rattle.rk_tablet_map.specs.declared.row.Row.{Row}
use Rattle.rk_transfer.specs.declared.role.Role.{Role}
use Rattle.rk_transfer.specs.declared.role.Role.TheVariants as roles
use Rattle.rk_message.specs.Fields.{IsLawfulToken}
use Rattle.rk_message.specs.Wire.{HasSentNumbers, Traffic}
use Rattle.rk_world.specs.Material.{as_entries}
use Rattle.rk_world.specs.Base.{Base}
use Rattle.rk_world.specs.Gather.{Gathered, LAST_MAIN_SEGMENT}
use Rattle.rk_world.specs.Tablet.{Pulling, Tablet}
use Rattle.rk_world.specs.RoleTests.{is_receiving}
use Rattle.rk_world.specs.Master.{Master}
use Rattle.rk_world.specs.Coordinator.{Coordinator, Handed}
use Rattle.rk_world.specs.Client.{call_lane}
use Rattle.rk_world.specs.Journal.{last_stamp}
use Rattle.rk_world.specs.declared.ledger.LastCall.{LastCall}
use Rattle.rk_world.specs.Ledger.{Ledger}
use Rattle.rk_world.specs.World.{World, has_crashed, standing}
use Rattle.rk_world.specs.Refusals.{MOST_CLIENTS}
use Rattle.rk_world.specs.Premises.{MOST_MASTERS, IsMaster, IsLawfulCall, IsAfterStart}
use Rattle.rk_world.specs.Limits.{AreOfDistinctClients, IsClient, IsFormedEnd, IsFormedEnds, IsFormedEntry, IsFormedNumber, IsFormedHeld, IsFormedMember, IsFormedMessage, Limits, base_clients, limits_of}

-- ---- masters

-- what a rebuild read of a member
pub record IsFormedGathered (limits : Limits) (gathered : Gathered) : Type 0 where
  pub member_is : IsMaster limits.masters gathered.member.master
  pub main : All (All (IsFormedEntry limits)) gathered.main
  -- no more main segments are read than there can be; while they are read, another one may follow
  pub few : length gathered.main ≤ LAST_MAIN_SEGMENT
  pub more : gathered.main_read ≡ false → length gathered.main < LAST_MAIN_SEGMENT
  pub sides : EachIn (λ segment entries. All (IsFormedEntry limits) entries) gathered.sides

-- the numbers of side segments, each once
pub record AreSideSegments (segments : List ℕ) : Type 0 where
  pub each : All (IsNumber w32 FIRST_SIDE_SEGMENT) segments
  pub distinct : IsDistinct nat_eq segments

-- the place that a role knows of the master's log, 0 if it knows none
abbrev pub place_in : Role → ℕ
place_in (roles.Wanting from) = from
place_in (roles.Rebuilding from entry) = from
place_in role = 0

-- how many side segments a target waits for that sealed these: one at least
abbrev pub side_waits_in : Role → List ℕ → ℕ
side_waits_in (roles.Joining None) sealed = max 1 (length sealed)
side_waits_in role sealed = 0

-- how many side segments a tablet waits for
abbrev pub side_waits_of : Tablet → ℕ
side_waits_of tablet = side_waits_in tablet.handover.role tablet.pulling.sealed

-- how many side segments tablets wait for
abbrev pub side_waits : NumberMap Tablet → ℕ
side_waits tablets = sum_by (λ entry. side_waits_of entry.1) tablets

-- what a target has while it pulls: its token and its hashes can be spelled, and it has a list of items for each of four workers
pub record IsFormedPulling (limits : Limits) (pulling : Pulling) : Type 0 where
  pub token : IsLawfulToken pulling.token
  pub wanted : All (IsNumber w64 0) pulling.hashes.wanted
  pub outstanding : All (IsNumber w64 0) pulling.hashes.outstanding
  pub workers : length pulling.sides ≡ 4
  pub items : All (IsFormedHeld limits) (flat_map (λ items. items) pulling.sides)
  pub sealed : AreSideSegments pulling.sealed

-- a tablet at a master: its number, its term and its counter count from 1, its range is not empty, its completions are in order,
-- and the master that it pulls from is there
pub record IsFormedTablet (limits : Limits) (number : ℕ) (tablet : Tablet) : Type 0 where
  pub number_is : IsNumber w32 1 number
  pub term : IsFormedNumber limits tablet.handover.term
  pub place : IsNumber w64 0 (place_in tablet.handover.role)
  pub range : IsLawfulRange tablet.handover.range
  pub counter : IsFormedNumber limits tablet.handover.counter
  pub order : IsInOrder tablet.completions
  pub ended : All (IsFormedEnd limits) (ends_of tablet.completions)
  pub source : is_receiving tablet.handover.role ≡ true → IsMaster limits.masters tablet.pulling.source
  pub pulled : IsFormedPulling limits tablet.pulling
  pub gathered : All (IsFormedGathered limits) tablet.gather.members
  pub merged : All (IsFormedEnd limits) tablet.merged_ends
  pub merged_once : AreOfDistinctClients tablet.merged_ends

-- a call that waits for the entry at a place of a log of so many entries
pub record IsFormedCall (limits : Limits) (count place : ℕ) (call : Call) : Type 0 where
  pub within : place < count
  pub lawful : IsLawfulCall call
  pub client : IsClient limits call.client

-- a side segment has bytes, and no more than a segment may have
pub record IsFormedSide (bytes : List ℕ) : Type 0 where
  pub some : 1 ≤ length bytes
  pub few : length bytes ≤ SEGMENT_BYTES

-- a master: it has its number and knows of each backup; its maps are in order; its entries, items and calls are well formed; and its
-- tablets wait for no more side segments than it has
pub record IsFormedMaster (limits : Limits) (number : ℕ) (master : Master) : Type 0 where
  pub number_is : master.number ≡ number
  pub known : length master.log.known ≡ limits.backups
  pub lengths : All IsInOrder master.log.known
  pub written : All (IsFormedEntry limits) master.log.entries
  pub spelled : master.log.sides ≡ map (λ items. spelled_all (as_entries items)) master.sides
  pub sides : All IsFormedSide master.log.sides
  pub items : All (IsFormedHeld limits) (flat_map (λ items. items) master.sides)
  pub records : All (IsFormedHeld limits) master.records
  pub scanned : IsInScanOrder master.records
  pub applied : master.applied ≤ length master.log.entries
  pub calls_order : IsInOrder master.calls
  pub calls : EachIn (IsFormedCall limits (length master.log.entries)) master.calls
  pub tablets_order : IsInOrder master.tablets
  pub tablets : EachIn (IsFormedTablet limits) master.tablets
  pub waited : side_waits master.tablets ≤ length master.log.sides

-- ---- the coordinator

-- the masters that a phase names, with the places that it knows of their logs
abbrev pub named_in : Phase → List Member
named_in (Owned master from) = member master from ∷ []
named_in (Opening source sfrom target dfrom) = member source sfrom ∷ member target (unwrap_or dfrom 0) ∷ []
named_in (Moving source sfrom target dfrom) = member source sfrom ∷ member target dfrom ∷ []
named_in (Rebuilding lineage to) = lineage ++ member to 0 ∷ []

-- a row: its number and its term count from 1, its range is not empty, and the masters that it names are there
pub record IsFormedRow (limits : Limits) (row : Row) : Type 0 where
  pub number_is : IsNumber w32 1 row.tablet
  pub term : 1 ≤ row.term
  pub range : IsLawfulRange row.range
  pub named : All (IsFormedMember limits) (named_in row.phase)
  pub few : length (lineage_of row.phase) ≤ 2

-- what a source handed over
pub record IsFormedHanded (limits : Limits) (handed : Handed) : Type 0 where
  pub floor : IsFormedNumber limits handed.floor
  pub told : IsFormedEnds limits handed.ends

-- the coordinator: its rows are a tablet map
pub record IsFormedCoordinator (limits : Limits) (coordinator : Coordinator) : Type 0 where
  pub map : IsTabletMap coordinator.rows
  pub rows : All (IsFormedRow limits) coordinator.rows
  pub noticed : All (IsMaster limits.masters) coordinator.noticed
  pub handed_order : IsInOrder coordinator.handed
  pub handed : EachIn (λ tablet handed. IsFormedHanded limits handed) coordinator.handed

-- ---- beside the nodes

-- the last call of a client in a lane is lawful and its own, comes after the start of the history, and its key lies there
pub record IsFormedLast (base : Base) (lane client : ℕ) (last : LastCall) : Type 0 where
  pub lawful : IsLawfulCall last.call
  pub own : last.call.client ≡ client
  pub here : call_lane last.call ≡ lane
  pub after : IsAfterStart base last.call

-- the ledger: its maps are in order, what it has of clients is lawful, and the last stamp is the greatest and counts the records
pub record IsFormedLedger (limits : Limits) (base : Base) (lane : ℕ) (ledger : Ledger) : Type 0 where
  pub clients_order : IsInOrder ledger.clients
  pub clients : EachIn (λ client last. IsNumber w32 1 client × IfSome last (IsFormedLast base lane client)) ledger.clients
  pub few : length ledger.clients ≤ MOST_CLIENTS
  pub requests_order : IsInOrder ledger.requests
  pub requests : EachIn (λ client message. IsFormedMessage limits message) ledger.requests
  pub stamps : All (λ placed. placed.stamp ≤ last_stamp ledger.journal) ledger.journal
  pub records : length ledger.journal ≤ last_stamp ledger.journal

-- the wire: its numbers were given to messages that were sent, and each message is well formed
pub record IsFormedWire (limits : Limits) (wire : Traffic) : Type 0 where
  pub order : IsInOrder wire.messages
  pub numbered : HasSentNumbers wire
  pub each : EachIn (λ number message. IsFormedMessage limits message) wire.messages

-- how many clients a history's start may name
abbrev pub MOST_BASE_CLIENTS : ℕ
MOST_BASE_CLIENTS = 2000

-- a master that has not crashed
pub record SomeLives (w : World) : Type 0 where
  pub master : ℕ
  pub there : IsMaster w.coordinator.masters master
  pub lives : has_crashed w master ≡ false

-- a lane is well formed
pub record IsWellFormed (w : World) : Type 0 where
  -- the masters are those from 1 to their count, at most eight; and so are the backups, at most four
  pub masters_are : numbers w.masters ≡ range_with_len 1 w.coordinator.masters
  pub few_masters : w.coordinator.masters ≤ MOST_MASTERS
  pub backed : 1 ≤ w.backup_count
  pub few_backups : w.backup_count ≤ MOST_BACKUPS
  pub masters : EachIn (IsFormedMaster (limits_of w)) w.masters
  pub coordinator : IsFormedCoordinator (limits_of w) w.coordinator
  pub ledger : IsFormedLedger (limits_of w) w.base w.lane w.ledger
  pub wire : IsFormedWire (limits_of w) w.wire
  -- if one has crashed, another one is left; who was noticed dead has crashed
  pub crashed : All (IsMaster w.coordinator.masters) w.crashed
  pub left : (master : ℕ) → has_crashed w master ≡ true → SomeLives w
  pub noticed : All (λ master. has_crashed w master ≡ true) w.coordinator.noticed
  -- what the history starts from lies in rows, and names few clients
  pub base : All (λ item. is_covered w.coordinator.rows item.table (hash_of item.key) ≡ true) w.base.items
  pub few_base_clients : length (base_clients w.base) ≤ MOST_BASE_CLIENTS
  -- no number that may grow is greater than the greatest so far
  pub standing : All (λ number. number ≤ w.top) (standing w)
