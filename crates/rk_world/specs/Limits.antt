-- Limits: what there is in a lane, and what keeps to it. Ends, items, entries and messages are lawful, carry no number that is
-- greater than the greatest so far, and name only masters, backups and clients that are there.
use Rattle.std.specs.Prelude.{◌≡◌, ◌≤◌, ◌+◌, ℕ, true, List, [], ◌++◌, length, map, nat_eq, All, IfSome, ⊤}
use Rattle.std.specs.List.{IsDistinct}
use Rattle.std.specs.Int.{w32, w64}
use Rattle.rk_types.specs.NumberMap.{numbers}
use Rattle.rk_types.specs.declared.call.End.{End}
use Rattle.rk_types.specs.declared.call.End.TheVariants as ends
use Rattle.rk_types.specs.declared.call.Ended.{Ended}
use Rattle.rk_types.specs.declared.held.Held.{Held}
use Rattle.rk_types.specs.declared.lineage.Member.{Member}
use Rattle.rk_types.specs.declared.node.Node.{Node}
use Rattle.rk_types.specs.declared.node.Node.TheVariants as nodes
use Rattle.rk_outside.specs.Segments.{bytes_of}
use Rattle.rk_entry.specs.Ends.{IsLawfulEnd, IsLawfulRange, RiseAbove}
use Rattle.rk_entry.specs.Entries.{entries_of}
use Rattle.rk_entry.specs.Lawful.{IsLawfulCarried, IsLawfulHeld, IsLawfulJoined, IsLawfulRefused}
use Rattle.rk_entry.specs.Lists.{is_among}
use Rattle.rk_entry.specs.Numbers.{IsNumber}
use Rattle.rk_entry.specs.declared.entry.Carried.{Carried}
use Rattle.rk_entry.specs.declared.entry.Entry.{Entry}
use Rattle.rk_entry.specs.declared.entry.Entry.TheVariants as entries
use Rattle.rk_entry.specs.declared.entry.Joined.{Joined}
use Rattle.rk_entry.specs.declared.entry.Refused.{Refused}
use Rattle.rk_types.specs.declared.held.TheConstants.{SEGMENT_BYTES}
use Rattle.rk_done.specs.Completions.{completions_from}
use Rattle.rk_message.specs.Frames.{IsLawfulBody}
use Rattle.rk_message.specs.declared.calls.Located.{Located}
use Rattle.rk_message.specs.declared.calls.Request.{Request}
use Rattle.rk_message.specs.declared.handover.Tenure.{Tenure}
use Rattle.rk_message.specs.declared.handover.Grant.{Grant}
use Rattle.rk_message.specs.declared.handover.Transfer.{Transfer}
use Rattle.rk_message.specs.declared.message.Body.{Body}
use Rattle.rk_message.specs.declared.message.Body.TheVariants as bodies
use Rattle.rk_message.specs.declared.message.Message.{Message}
use Rattle.rk_message.specs.declared.rebuilding.CopySegment.{CopySegment}
use Rattle.rk_message.specs.declared.rebuilding.Rebuild.{Rebuild}
use Rattle.rk_world.specs.Base.{Base, ends_told}
use Rattle.rk_world.specs.Ends.{items_of}
use Rattle.rk_world.specs.Requests.{call_of}
use Rattle.rk_world.specs.Premises.{IsLawfulCall, IsMaster}
use Rattle.rk_world.specs.World.{World}

-- the limits of a lane: how many masters and backups it has, the greatest number in it so far, and its clients
pub record Limits : Type 0 where
  pub masters : ℕ
  pub backups : ℕ
  pub top : ℕ
  pub clients : List ℕ

-- the clients of what a history starts from
abbrev pub base_clients : Base → List ℕ
base_clients base = numbers (completions_from [] (ends_told base))

-- the limits of a lane with this greatest number: its clients are those that were added, and those that its history's start
-- names
abbrev pub limits_at : World → ℕ → Limits
limits_at w top = record {
  masters = w.coordinator.masters;
  backups = w.backup_count;
  top = top;
  clients = numbers w.ledger.clients ++ base_clients w.base;
}

-- the limits of a lane
abbrev pub limits_of : World → Limits
limits_of w = limits_at w w.top

-- a client is one of the lane's
abbrev pub IsClient : Limits → ℕ → Type 0
IsClient limits client = is_among client limits.clients ≡ true

-- a node is there
abbrev pub IsThere : Limits → Node → Type 0
IsThere limits (nodes.Client client) = IsNumber w32 1 client
IsThere limits nodes.Coordinator = ⊤
IsThere limits (nodes.Master master) = IsMaster limits.masters master
IsThere limits (nodes.Backup backup) = (1 ≤ backup) × (backup ≤ limits.backups)

-- ---- ends and entries

-- the version that an end gives, 0 if it gives none
abbrev pub version_told : End → ℕ
version_told (ends.Written version) = version
version_told (ends.Deleted version) = version
version_told ends.Absent = 0
version_told (ends.Mismatch version) = version

-- an end of a call of one of the clients
pub record IsFormedEnd (limits : Limits) (end : Ended) : Type 0 where
  pub lawful : IsLawfulEnd end
  pub version : version_told end.end ≤ limits.top
  pub client : IsClient limits end.client

-- the last ends of clients, each client once, by rising number
pub record IsFormedEnds (limits : Limits) (list : List Ended) : Type 0 where
  pub each : All (IsFormedEnd limits) list
  pub rising : RiseAbove 0 list

-- no two ends are of one client
abbrev pub AreOfDistinctClients : List Ended → Type 0
AreOfDistinctClients list = IsDistinct nat_eq (map (λ end. end.client) list)

-- an item that one of the clients left
pub record IsFormedHeld (limits : Limits) (held : Held) : Type 0 where
  pub lawful : IsLawfulHeld held
  pub version : held.version ≤ limits.top
  pub client : IsClient limits held.client

-- a refusal of a call of one of the clients
pub record IsFormedRefused (limits : Limits) (refused : Refused) : Type 0 where
  pub lawful : IsLawfulRefused refused
  pub found : refused.found ≤ limits.top
  pub client : IsClient limits refused.client

-- the floor and the ends that came with a tablet
pub record IsFormedCarried (limits : Limits) (carried : Carried) : Type 0 where
  pub lawful : IsLawfulCarried carried
  pub term : carried.term ≤ limits.top
  pub floor : carried.floor ≤ limits.top
  pub each : All (IsFormedEnd limits) carried.ends

-- the side segments that became part of a log
pub record IsFormedJoined (limits : Limits) (joined : Joined) : Type 0 where
  pub lawful : IsLawfulJoined joined
  pub term : joined.term ≤ limits.top

-- an entry of a log
abbrev pub IsFormedEntry : Limits → Entry → Type 0
IsFormedEntry limits (entries.Held held) = IsFormedHeld limits held
IsFormedEntry limits (entries.Refused refused) = IsFormedRefused limits refused
IsFormedEntry limits (entries.Carried carried) = IsFormedCarried limits carried
IsFormedEntry limits (entries.Joined joined) = IsFormedJoined limits joined

-- ---- messages

-- a number that counts from 1, as a term, a counter or a floor does
pub record IsFormedNumber (limits : Limits) (number : ℕ) : Type 0 where
  pub first : 1 ≤ number
  pub last : number ≤ limits.top

-- a tablet, from 1 on, at a term, from 1 on
pub record IsFormedTenure (limits : Limits) (tenure : Tenure) : Type 0 where
  pub tablet : IsNumber w32 1 tenure.tablet
  pub term : IsFormedNumber limits tenure.term

-- a member of a lineage
pub record IsFormedMember (limits : Limits) (member : Member) : Type 0 where
  pub master : IsMaster limits.masters member.master
  pub from : IsNumber w64 0 member.from

-- a request of a client
pub record IsFormedRequest (limits : Limits) (client : ℕ) (request : Request) : Type 0 where
  pub call : IsLawfulCall (call_of client request)
  pub seen : request.seen ≤ limits.top
  pub client_is : IsClient limits client

-- a request, by its sender; if that is no client, nothing is said
abbrev pub IsFormedRequestOf : Limits → Node → Request → Type 0
IsFormedRequestOf limits (nodes.Client client) request = IsFormedRequest limits client request
IsFormedRequestOf limits _ request = ⊤

-- a range with its owner
pub record IsFormedLocated (limits : Limits) (located : Located) : Type 0 where
  pub range : IsLawfulRange located.range
  pub owner : IfSome located.owner (IsMaster limits.masters)

-- what a source hands over
pub record IsFormedTransfer (limits : Limits) (transfer : Transfer) : Type 0 where
  pub tenure : IsFormedTenure limits transfer.tenure
  pub floor : IsFormedNumber limits transfer.floor
  pub told : IsFormedEnds limits transfer.ends

-- what is granted
pub record IsFormedGrant (limits : Limits) (grant : Grant) : Type 0 where
  pub tenure : IsFormedTenure limits grant.tenure
  pub source : IsMaster limits.masters grant.source
  pub floor : IsFormedNumber limits grant.floor
  pub told : IsFormedEnds limits grant.ends

-- what is to be rebuilt
pub record IsFormedRebuild (limits : Limits) (rebuild : Rebuild) : Type 0 where
  pub tenure : IsFormedTenure limits rebuild.tenure
  pub range : IsLawfulRange rebuild.range
  pub members : All (IsFormedMember limits) rebuild.lineage
  pub few : length rebuild.lineage ≤ 2

-- a copy of a segment: the entries that it spells are those of a log
pub record IsFormedCopy (limits : Limits) (copy : CopySegment) : Type 0 where
  pub tenure : IsFormedTenure limits copy.tenure
  pub master : IsMaster limits.masters copy.master
  pub spelled : All (IsFormedEntry limits) (entries_of (bytes_of copy.bytes))

-- what a body says, by its sender
abbrev pub IsFormedBody : Limits → Node → Body → Type 0
IsFormedBody limits from (bodies.Request request) = IsFormedRequestOf limits from request
IsFormedBody limits from (bodies.Reply reply) = ⊤
IsFormedBody limits from (bodies.Lookup lookup) = ⊤
IsFormedBody limits from (bodies.Located located) = IsFormedLocated limits located
IsFormedBody limits from (bodies.Append append) = append.at + length append.bytes ≤ SEGMENT_BYTES
IsFormedBody limits from (bodies.Stored stored) = ⊤
IsFormedBody limits from (bodies.Prepare prepare) = IsFormedTenure limits prepare.tenure × IsLawfulRange prepare.range
IsFormedBody limits from (bodies.Ready ready) = IsFormedTenure limits ready.tenure
IsFormedBody limits from (bodies.Close tenure) = IsFormedTenure limits tenure
IsFormedBody limits from (bodies.Transfer transfer) = IsFormedTransfer limits transfer
IsFormedBody limits from (bodies.Grant grant) = IsFormedGrant limits grant
IsFormedBody limits from (bodies.Pull pull) = IsFormedTenure limits pull.tenure
IsFormedBody limits from (bodies.Pulled pulled) = IsFormedTenure limits pulled.tenure × All (IsFormedHeld limits) (items_of pulled.entries)
IsFormedBody limits from (bodies.Want want) = IsFormedTenure limits want.tenure
IsFormedBody limits from (bodies.Got message) = IsFormedTenure limits message.tenure × All (IsFormedHeld limits) (items_of message.entries)
IsFormedBody limits from (bodies.Joined tenure) = IsFormedTenure limits tenure
IsFormedBody limits from (bodies.Own tenure) = IsFormedTenure limits tenure
IsFormedBody limits from (bodies.Release tenure) = IsFormedTenure limits tenure
IsFormedBody limits from (bodies.Rebuild rebuild) = IsFormedRebuild limits rebuild
IsFormedBody limits from (bodies.Read wanted) = IsFormedTenure limits wanted.tenure × IsMaster limits.masters wanted.master
IsFormedBody limits from (bodies.Copy copy) = IsFormedCopy limits copy
IsFormedBody limits from (bodies.Rebuilt rebuilt) =
    IsFormedTenure limits rebuilt.tenure × All (IsFormedEnd limits) rebuilt.ends × AreOfDistinctClients rebuilt.ends

-- a message: its nodes are there, its fields can be spelled, and what it says keeps to the limits
pub record IsFormedMessage (limits : Limits) (message : Message) : Type 0 where
  pub from : IsThere limits message.from
  pub to : IsThere limits message.to
  pub lawful : IsLawfulBody message.body
  pub says : IsFormedBody limits message.from message.body
