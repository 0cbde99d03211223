-- Messages: what a message says that may still change something agrees with its sender, however late it comes and how often.
-- A message is judged by its row's term and phase, or by what its receiver keeps, and a Pull or a Want by what its sender keeps;
-- each step that takes one needs it.
use Rattle.std.specs.Prelude.{◌≡◌, ◌≢◌, ◌<◌, ℕ, Bool, true, false, List, [], ◌∷◌, Some, None, All, slice_get, ⊤, ◌⊎◌, ◌≤◌, Option}
use Rattle.std.specs.List.{flat_map}
use Rattle.rk_types.specs.NumberMap.{NumberMap, EachIn, get}
use Rattle.rk_types.specs.Range.{meets}
use Rattle.rk_types.specs.declared.call.Answer.{Answer}
use Rattle.rk_types.specs.declared.call.Answer.TheVariants as answers
use Rattle.rk_types.specs.declared.call.Ended.{Ended}
use Rattle.rk_types.specs.declared.call.Outcome.{Outcome}
use Rattle.rk_types.specs.declared.history.Placed.{Placed}
use Rattle.rk_types.specs.declared.lineage.Member.{Member}
use Rattle.rk_types.specs.declared.node.Node.{Node}
use Rattle.rk_types.specs.declared.node.Node.TheVariants as nodes
use Rattle.rk_outside.specs.Segments.{Segments, bytes_of as copied_bytes}
use Rattle.rk_entry.specs.declared.entry.Entry.{Entry}
use Rattle.rk_log.specs.Log.{Log, known_of}
use Rattle.rk_table.specs.Items.{at_hash}
use Rattle.rk_table.specs.Scans.{batch_at, next_token}
use Rattle.rk_done.specs.Completions.{Completions, ends_of}
use Rattle.rk_transfer.specs.declared.handover.Handover.{Handover}
use Rattle.rk_transfer.specs.declared.role.Role.{Role}
use Rattle.rk_transfer.specs.declared.role.Role.TheVariants as roles
use Rattle.rk_tablet_map.specs.Phase.{lineage_of}
use Rattle.rk_tablet_map.specs.declared.phase.Phase.{Phase}
use Rattle.rk_tablet_map.specs.declared.phase.Phase.TheVariants.{Owned, Opening, Moving, Rebuilding}
use Rattle.rk_tablet_map.specs.declared.row.Row.{Row}
use Rattle.rk_pull.specs.declared.batches.TheConstants.{BATCH_BYTES}
use Rattle.rk_message.specs.declared.calls.Reply.{Reply}
use Rattle.rk_message.specs.declared.handover.Grant.{Grant}
use Rattle.rk_message.specs.declared.handover.Prepare.{Prepare}
use Rattle.rk_message.specs.declared.handover.Tenure.{Tenure}
use Rattle.rk_message.specs.declared.handover.Transfer.{Transfer}
use Rattle.rk_message.specs.declared.message.Body.{Body}
use Rattle.rk_message.specs.declared.message.Body.TheVariants as bodies
use Rattle.rk_message.specs.declared.message.Message.{Message}
use Rattle.rk_message.specs.declared.pulling.Got.{Got}
use Rattle.rk_message.specs.declared.pulling.Pulled.{Pulled}
use Rattle.rk_message.specs.declared.rebuilding.CopySegment.{CopySegment}
use Rattle.rk_message.specs.declared.rebuilding.ReadSegment.{ReadSegment}
use Rattle.rk_message.specs.declared.rebuilding.Rebuild.{Rebuild}
use Rattle.rk_message.specs.declared.rebuilding.Rebuilt.{Rebuilt}
use Rattle.rk_world.specs.Material.{as_entries}
use Rattle.rk_world.specs.Lineage.{is_member}
use Rattle.rk_world.specs.Coordinator.{Handed}
use Rattle.rk_world.specs.Written.{Written, member_truth}
use Rattle.rk_sound.specs.Posts.{InvitedTarget, post_of, Post, Owner, OpeningSource, OnlyRebuilder}
use Rattle.rk_sound.specs.Logs.{stored_of}
use Rattle.rk_sound.specs.Handing.{is_wanting}
use Rattle.rk_sound.specs.Receives.{scan_items}
use Rattle.rk_sound.specs.Rebuilds.{READ_BACKUP, IsReadPart, NeededOf}

-- a message speaks of this row, at its term
pub record IsOf (row : Row) (tenure : Tenure) : Type 0 where
  pub tablet : tenure.tablet ≡ row.tablet
  pub term : tenure.term ≡ row.term

-- the node is a master for which this holds; of other nodes nothing is said
abbrev pub IfMaster : Node → (ℕ → Type 0) → Type 0
IfMaster (nodes.Master master) Fits = Fits master
IfMaster node Fits = ⊤

-- the node is a master, and this holds for it
abbrev pub ByMaster : Node → (ℕ → Type 0) → Type 0
ByMaster (nodes.Master master) Fits = Fits master
ByMaster node Fits = ⊥

-- ---- orders of the coordinator: one of the row's term that its receiver would follow is what the row asks for now; of a smaller
-- term it would follow only what does no harm

-- a Prepare asks for a row: it is of its tablet, or its range meets the row's
abbrev pub AsksFor : Prepare → Row → Type 0
AsksFor prepare row = (prepare.tenure.tablet ≡ row.tablet) ⊎ (meets row.range prepare.range ≡ true)

-- a Prepare, beside each row: its members keep as great a term, if the row is asked for
pub record PrepareFits (row : Row) (handover : Handover) (live : Bool) (master : ℕ) (prepare : Prepare) : Type 0 where
  pub range : IsOf row prepare.tenure → prepare.range ≡ row.range
  pub invited : IsOf row prepare.tenure → live ≡ true → handover.term < row.term → post_of row.phase master ≡ InvitedTarget
  pub members :
      AsksFor prepare row → live ≡ true → is_member (lineage_of row.phase) master ≡ true → prepare.tenure.term ≤ handover.term

-- a source is asked to close
abbrev pub IsClosing : Phase → ℕ → Type 0
IsClosing (Opening source sfrom target (Some dfrom)) master = source ≡ master
IsClosing phase master = ⊥

-- a master is to rebuild a tablet that was its own alone
abbrev pub IsOnlyRebuilder : Post → Type 0
IsOnlyRebuilder (OnlyRebuilder place) = ⊤
IsOnlyRebuilder _ = ⊥

-- a Close may be followed now: the row asks for it, or its source is to rebuild the tablet at a greater term
abbrev pub MayFollowClose : Row → ℕ → ℕ → Type 0
MayFollowClose row master term =
    ((term ≡ row.term) × IsClosing row.phase master) ⊎ ((term < row.term) × IsOnlyRebuilder (post_of row.phase master))

-- a tablet that opens or moves has this source
abbrev pub HasSource : Phase → ℕ → Type 0
HasSource (Opening source sfrom target dfrom) master = source ≡ master
HasSource (Moving source sfrom target dfrom) master = source ≡ master
HasSource phase master = ⊤

-- a Close; if its living receiver would follow it, it may be followed now
pub record CloseFits (row : Row) (handover : Handover) (live : Bool) (master : ℕ) (tenure : Tenure) : Type 0 where
  pub source : IsOf row tenure → HasSource row.phase master
  pub may_follow :
      tenure.tablet ≡ row.tablet → live ≡ true → handover.term < tenure.term → MayFollowClose row master tenure.term

-- a tablet is rebuilt by a master
abbrev pub IsRebuiltBy : Phase → ℕ → Type 0
IsRebuiltBy (Rebuilding lineage to) master = to ≡ master
IsRebuiltBy phase master = ⊥

-- a tablet that is rebuilt has this lineage
abbrev pub HasLineage : Phase → List Member → Type 0
HasLineage (Rebuilding lineage to) other = lineage ≡ other
HasLineage phase other = ⊤

-- a Rebuild; one of a smaller term is followed by no living master
pub record RebuildFits (row : Row) (handover : Handover) (live : Bool) (master : ℕ) (rebuild : Rebuild) : Type 0 where
  pub range : IsOf row rebuild.tenure → rebuild.range ≡ row.range
  pub lineage : IsOf row rebuild.tenure → HasLineage row.phase rebuild.lineage
  pub ordered :
      rebuild.tenure.tablet ≡ row.tablet → live ≡ true → handover.term < rebuild.tenure.term
      → (rebuild.tenure.term ≡ row.term) × IsRebuiltBy row.phase master

-- a tablet is owned by a master
abbrev pub IsOwnedBy : Phase → ℕ → Type 0
IsOwnedBy (Owned owner from) master = owner ≡ master
IsOwnedBy phase master = ⊥

-- a tablet is owned by another master than this
abbrev pub IsOwnedByOther : Phase → ℕ → Type 0
IsOwnedByOther (Owned owner from) master = owner ≢ master
IsOwnedByOther phase master = ⊥

-- a master owns a tablet, or owned it at its own term
abbrev pub IsOwner : Post → ℕ → ℕ → Type 0
IsOwner (Owner place) own term = ⊤
IsOwner OpeningSource own term = ⊤
IsOwner (OnlyRebuilder place) own term = own < term
IsOwner _ own term = ⊥

-- an Own; a living receiver keeps as great a term, and if it keeps that very term, it owns the tablet, or did
pub record OwnFits (row : Row) (handover : Handover) (live : Bool) (master : ℕ) (tenure : Tenure) : Type 0 where
  pub owned : IsOf row tenure → IsOwnedBy row.phase master
  pub reached : tenure.tablet ≡ row.tablet → live ≡ true → tenure.term ≤ handover.term
  pub owner :
      tenure.tablet ≡ row.tablet → live ≡ true → handover.term ≡ tenure.term
      → IsOwner (post_of row.phase master) handover.term row.term

-- a Release; a master that keeps no greater term is not of the lineage
pub record ReleaseFits (row : Row) (handover : Handover) (live : Bool) (master : ℕ) (tenure : Tenure) : Type 0 where
  pub owned : IsOf row tenure → IsOwnedByOther row.phase master
  pub outside :
      tenure.tablet ≡ row.tablet → live ≡ true → handover.term ≤ tenure.term
      → is_member (lineage_of row.phase) master ≡ false

-- ---- reports to the coordinator: one of the row's term that it would take agrees with what its sender keeps

-- a Ready reports the place of a target that waits
abbrev pub ReadyIn : Phase → Handover → ℕ → ℕ → ℕ → Type 0
ReadyIn (Opening source sfrom target None) handover term master place =
    (target ≡ master) × (handover.role ≡ roles.Wanting place) × (handover.term ≡ term)
ReadyIn phase handover term master place = ⊤

-- a frozen source reports its counter and its ends
pub record IsFrozenSource (handover : Handover) (completions : Completions) (term : ℕ) (transfer : Transfer) : Type 0 where
  pub role_is : handover.role ≡ roles.Frozen
  pub term_is : handover.term ≡ term
  pub floor_is : transfer.floor ≡ handover.counter
  pub ends_are : transfer.ends ≡ ends_of completions

-- a Transfer of a row that opens is of its source, which is frozen
abbrev pub TransferIn : Phase → Handover → Completions → ℕ → ℕ → Transfer → Type 0
TransferIn (Opening source sfrom target dfrom) handover completions term master transfer =
    (source ≡ master) × IsFrozenSource handover completions term transfer
TransferIn phase handover completions term master transfer = ⊤

-- a target that joins has its closing entry applied
abbrev pub HasJoined : Role → ℕ → Type 0
HasJoined (roles.Joining (Some entry)) applied = entry < applied
HasJoined role applied = ⊥

-- a Joined is from the target, which has joined, if the row moves, and from the owner, if it is owned
abbrev pub JoinedIn : Phase → Handover → ℕ → ℕ → ℕ → Type 0
JoinedIn (Moving source sfrom target dfrom) handover applied term master =
    (target ≡ master) × (handover.term ≡ term) × HasJoined handover.role applied
JoinedIn (Owned owner from) handover applied term master = owner ≡ master
JoinedIn phase handover applied term master = ⊥

-- a master that rebuilds has its closing entry applied, and its own entries begin at this place
abbrev pub HasRebuilt : Role → ℕ → ℕ → Type 0
HasRebuilt (roles.Rebuilding from (Some entry)) applied place = (entry < applied) × (from ≡ place)
HasRebuilt role applied place = ⊥

-- a Rebuilt reports the place, and the ends of what its sender merged in their order
abbrev pub RebuiltIn : Phase → Handover → List Ended → ℕ → ℕ → ℕ → Rebuilt → Type 0
RebuiltIn (Rebuilding lineage to) handover merged applied term master rebuilt =
    (to ≡ master) × (handover.term ≡ term) × HasRebuilt handover.role applied rebuilt.place × (rebuilt.ends ≡ merged)
RebuiltIn (Owned owner from) handover merged applied term master rebuilt = (owner ≡ master) × (from ≡ rebuilt.place)
RebuiltIn phase handover merged applied term master rebuilt = ⊥

-- ---- between source and target: no message of the row's term is on the wire before the row has moved; what a target would take is
-- what its source has

-- a row moves, or is owned
abbrev pub IsMovingOrOwned : Phase → Type 0
IsMovingOrOwned (Moving source sfrom target dfrom) = ⊤
IsMovingOrOwned (Owned owner from) = ⊤
IsMovingOrOwned phase = ⊥

-- no message of the row's term is on the wire while the row opens or is rebuilt
abbrev pub AfterMove : Row → Tenure → Type 0
AfterMove row tenure = IsOf row tenure → IsMovingOrOwned row.phase

-- a message is of the tablet at the term that a target keeps
pub record IsOfTarget (row : Row) (handover : Handover) (tenure : Tenure) : Type 0 where
  pub tablet : tenure.tablet ≡ row.tablet
  pub term : tenure.term ≡ handover.term

-- a Grant that its receiver would take is for the second of two members, from the first, with what the first handed over
abbrev pub GrantIn : List Member → Option Handed → ℕ → Grant → Type 0
GrantIn (source ∷ target ∷ []) handed master grant =
    (target.master ≡ master) × (grant.source ≡ source.master)
    × (handed ≡ Some (record { floor = grant.floor; ends = grant.ends }))
GrantIn lineage handed master grant = ⊥

-- a Grant; a living receiver keeps as great a term, and if it waits at that very term, it is the target
pub record GrantAgrees (row : Row) (handover : Handover) (live : Bool) (handed : Option Handed) (master : ℕ) (grant : Grant) : Type 0 where
  pub reached : grant.tenure.tablet ≡ row.tablet → live ≡ true → grant.tenure.term ≤ handover.term
  pub told :
      grant.tenure.tablet ≡ row.tablet → live ≡ true → grant.tenure.term ≡ handover.term → is_wanting handover.role ≡ true
      → GrantIn (lineage_of row.phase) handed master grant

-- a Pull or a Want of a target goes to its source
abbrev pub AskAgrees : Row → (ℕ → ℕ → Handover) → List Member → ℕ → Node → Tenure → Type 0
AskAgrees row handovers (source ∷ target ∷ []) master to tenure =
    target.master ≡ master → IsOfTarget row (handovers master row.tablet) tenure → to ≡ nodes.Master source.master
AskAgrees row handovers lineage master to tenure = ⊤

-- what a target that pulls would replay
pub record IsFromSource (source : Member) (from : Node) (items : List Entry) (entries : List Entry) : Type 0 where
  pub sender : from ≡ nodes.Master source.master
  pub items_are : entries ≡ items

-- a Pulled of the term that a target keeps has the next items of its source
abbrev pub PulledAgrees : Row → (ℕ → Written) → (ℕ → ℕ → Handover) → (ℕ → Bool) → List Member → Node → ℕ → Pulled → Type 0
PulledAgrees row written handovers live (source ∷ target ∷ []) from master pulled =
    target.master ≡ master → live master ≡ true → IsOfTarget row (handovers master row.tablet) pulled.tenure
    → IsFromSource source from
    (as_entries (batch_at pulled.token BATCH_BYTES (scan_items (member_truth written row.range source)))) pulled.entries
    × (pulled.next ≡ next_token pulled.token BATCH_BYTES (scan_items (member_truth written row.range source)))
PulledAgrees row written handovers live lineage from master pulled = ⊤

-- a Got of the term that a target keeps has the items of its source with these hashes
abbrev pub GotAgrees : Row → (ℕ → Written) → (ℕ → ℕ → Handover) → (ℕ → Bool) → List Member → Node → ℕ → Got → Type 0
GotAgrees row written handovers live (source ∷ target ∷ []) from master got =
    target.master ≡ master → live master ≡ true → IsOfTarget row (handovers master row.tablet) got.tenure
    → IsFromSource source from
    (as_entries (flat_map (λ hash. at_hash hash (scan_items (member_truth written row.range source))) got.hashes)) got.entries
GotAgrees row written handovers live lineage from master got = ⊤

-- ---- between a rebuilding master and backup 1, by the row's term and phase

-- a Read of a row that is rebuilt goes to backup 1, and is of the log of a dead master
abbrev pub ReadIn : Phase → (ℕ → Bool) → Node → ReadSegment → Type 0
ReadIn (Rebuilding lineage to) live receiver read =
    (receiver ≡ nodes.Backup READ_BACKUP) × (live read.master ≡ false)
ReadIn phase live receiver read = ⊤

-- a Copy for a row that is rebuilt is of the log of a dead master, and holds what that knew to be stored, and what is needed
abbrev pub CopyIn : Row → Phase → (ℕ → Log) → (ℕ → Written) → (ℕ → Segments) → (ℕ → Bool) → CopySegment → Type 0
CopyIn row (Rebuilding lineage to) logs written stored live copy =
    (live copy.master ≡ false)
    × IsReadPart (NeededOf row written lineage copy.master) (known_of (logs copy.master) READ_BACKUP) (stored_of stored copy.master READ_BACKUP) copy.segment
    (copied_bytes copy.bytes)
CopyIn row phase logs written stored live copy = ⊤

-- ---- to clients

-- a record of a client's call is at the place that a Reply names, with its stamp and outcome
pub record IsRecordAt (journal : List Placed) (client : ℕ) (reply : Reply) (outcome : Outcome) : Type 0 where
  pub placed : Placed
  pub stands : slice_get journal reply.place ≡ Some placed
  pub client_is : placed.call.client ≡ client
  pub seq_is : placed.call.seq ≡ reply.seq
  pub outcome_is : placed.outcome ≡ outcome
  pub stamp_is : placed.stamp ≡ reply.stamp

-- what an answer says to a client
abbrev pub AnswerFits : List Placed → ℕ → Reply → Answer → Type 0
AnswerFits journal client reply (answers.Done outcome) = IsRecordAt journal client reply outcome
AnswerFits journal client reply answer = ⊤

-- a Reply
abbrev pub ReplyFits : List Placed → Node → Reply → Type 0
ReplyFits journal (nodes.Client client) reply = AnswerFits journal client reply reply.answer
ReplyFits journal node reply = ⊤

-- ---- all kinds

-- what a message says of a row
abbrev pub SaysOf : Row → (ℕ → Log) → (ℕ → Written) → (ℕ → Segments) → (ℕ → ℕ → Handover) → (ℕ → ℕ → Completions) → (ℕ → ℕ → List Ended) → (ℕ → Bool) → NumberMap Handed → Node → Node → Body → Type 0
SaysOf row logs written stored handovers completions merged live handed from to (bodies.Prepare prepare) =
    IfMaster to (λ master. PrepareFits row (handovers master row.tablet) (live master) master prepare)
SaysOf row logs written stored handovers completions merged live handed from to (bodies.Ready ready) =
    ByMaster from (λ master. IsOf row ready.tenure
    → ReadyIn row.phase (handovers master row.tablet) row.term master ready.place)
SaysOf row logs written stored handovers completions merged live handed from to (bodies.Close tenure) =
    IfMaster to (λ master. CloseFits row (handovers master row.tablet) (live master) master tenure)
SaysOf row logs written stored handovers completions merged live handed from to (bodies.Transfer transfer) =
    ByMaster from (λ master. IsOf row transfer.tenure
    → TransferIn row.phase (handovers master row.tablet) (completions master row.tablet) row.term master transfer)
SaysOf row logs written stored handovers completions merged live handed from to (bodies.Grant grant) =
    AfterMove row grant.tenure
    × IfMaster to (λ master. GrantAgrees row (handovers master row.tablet) (live master) (get handed row.tablet) master grant)
SaysOf row logs written stored handovers completions merged live handed from to (bodies.Pull pull) =
    AfterMove row pull.tenure × ByMaster from (λ master. AskAgrees row handovers (lineage_of row.phase) master to pull.tenure)
SaysOf row logs written stored handovers completions merged live handed from to (bodies.Pulled pulled) =
    AfterMove row pulled.tenure
    × IfMaster to (λ master. PulledAgrees row written handovers live (lineage_of row.phase) from master pulled)
SaysOf row logs written stored handovers completions merged live handed from to (bodies.Want want) =
    AfterMove row want.tenure × ByMaster from (λ master. AskAgrees row handovers (lineage_of row.phase) master to want.tenure)
SaysOf row logs written stored handovers completions merged live handed from to (bodies.Got got) =
    AfterMove row got.tenure
    × IfMaster to (λ master. GotAgrees row written handovers live (lineage_of row.phase) from master got)
SaysOf row logs written stored handovers completions merged live handed from to (bodies.Joined tenure) =
    ByMaster from (λ master. IsOf row tenure
    → JoinedIn row.phase (handovers master row.tablet) (written master).applied row.term master)
SaysOf row logs written stored handovers completions merged live handed from to (bodies.Own tenure) =
    IfMaster to (λ master. OwnFits row (handovers master row.tablet) (live master) master tenure)
SaysOf row logs written stored handovers completions merged live handed from to (bodies.Release tenure) =
    IfMaster to (λ master. ReleaseFits row (handovers master row.tablet) (live master) master tenure)
SaysOf row logs written stored handovers completions merged live handed from to (bodies.Rebuild rebuild) =
    IfMaster to (λ master. RebuildFits row (handovers master row.tablet) (live master) master rebuild)
SaysOf row logs written stored handovers completions merged live handed from to (bodies.Read read) =
    IsOf row read.tenure → ReadIn row.phase live to read
SaysOf row logs written stored handovers completions merged live handed from to (bodies.Copy copy) =
    IsOf row copy.tenure → CopyIn row row.phase logs written stored live copy
SaysOf row logs written stored handovers completions merged live handed from to (bodies.Rebuilt rebuilt) =
    ByMaster from (λ master. IsOf row rebuilt.tenure
    → RebuiltIn row.phase (handovers master row.tablet) (merged master row.tablet) (written master).applied row.term master rebuilt)
SaysOf row logs written stored handovers completions merged live handed from to body = ⊤

-- what a message says that no row is needed for: a Reply
abbrev pub Says : List Placed → Node → Body → Type 0
Says journal to (bodies.Reply reply) = ReplyFits journal to reply
Says journal to body = ⊤

pub record Messages (rows : List Row) (logs : ℕ → Log) (written : ℕ → Written) (stored : ℕ → Segments) (handovers : ℕ → ℕ → Handover) (completions : ℕ → ℕ → Completions) (merged : ℕ → ℕ → List Ended) (live : ℕ → Bool) (handed : NumberMap Handed) (journal : List Placed) (wire : NumberMap Message) : Type 0 where
  pub of_rows :
      EachIn (λ number message.
      All (λ row. SaysOf row logs written stored handovers completions merged live handed message.from message.to message.body) rows) wire
  pub others : EachIn (λ number message. Says journal message.to message.body) wire
