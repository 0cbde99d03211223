-- Premises: what may be asked of a lane. The promises are about runs in which each event, and each client's turn or answer, meets
-- these; nothing tests them.
use Rattle.std.specs.Prelude.{◌≡◌, ◌≤◌, ◌<◌, ℕ, None, IfSome, All, ⊤}
use Rattle.std.specs.Int.{w32, w64}
use Rattle.rk_types.specs.Text.{key_fault}
use Rattle.rk_types.specs.declared.call.Call.{Call}
use Rattle.rk_types.specs.declared.node.Node.{Node}
use Rattle.rk_types.specs.declared.node.Node.TheVariants as nodes
use Rattle.rk_entry.specs.Ends.{IsLawfulRange}
use Rattle.rk_entry.specs.Numbers.{IsNumber}
use Rattle.rk_message.specs.Calls.{IsLawfulOp}
use Rattle.rk_message.specs.declared.calls.Located.{Located}
use Rattle.rk_world.specs.declared.event.Event.{Event}
use Rattle.rk_world.specs.declared.event.Event.TheVariants as events
use Rattle.rk_types.specs.declared.held.TheConstants.{SEGMENT_BYTES}
use Rattle.rk_world.specs.Base.{Base, ends_told}
use Rattle.rk_world.specs.Backup.{Called, Appended, Gave, Failed}
use Rattle.rk_world.specs.Client.{Session}
use Rattle.rk_world.specs.World.{World}

-- how many masters a lane may have
abbrev pub MOST_MASTERS : ℕ
MOST_MASTERS = 8

-- the masters of a lane are numbered from 1
pub record IsMaster (count number : ℕ) : Type 0 where
  pub first : 1 ≤ number
  pub last : number ≤ count

-- a call that a client may ask: its numbers count from 1, and its key and its value are within their limits
pub record IsLawfulCall (call : Call) : Type 0 where
  pub client : IsNumber w32 1 call.client
  pub seq : IsNumber w64 1 call.seq
  pub table : IsNumber w64 1 call.table
  pub key : key_fault call.key ≡ None
  pub op : IsLawfulOp call.op

-- a node that may take a turn, in a lane of so many masters
abbrev pub MayTurn : ℕ → Node → Type 0
MayTurn count (nodes.Master master) = IsMaster count master
MayTurn count node = ⊤

-- what an event may name: masters that are there, tablets and clients from 1 on, and a range that is not empty
abbrev pub MayHappen : World → Event → Type 0
MayHappen w (events.AddTablet tablet range master) =
    IsNumber w32 1 tablet × IsLawfulRange range × IsMaster w.coordinator.masters master
MayHappen w (events.AddClient client) = IsNumber w32 1 client
MayHappen w (events.Deliver number) = ⊤
MayHappen w (events.Forget number) = ⊤
MayHappen w (events.Turn node) = MayTurn w.coordinator.masters node
MayHappen w (events.Again client) = ⊤
MayHappen w (events.Migrate tablet to) = IsMaster w.coordinator.masters to
MayHappen w (events.Split tablet at new) = IsNumber w32 1 new
MayHappen w (events.Crash master) = IsMaster w.coordinator.masters master
MayHappen w (events.Notice master) = IsMaster w.coordinator.masters master

-- what the call of a replica may come to: a segment that an append left has no more bytes than a segment may have
abbrev pub MayCome : Called → Type 0
MayCome (Appended length) = length ≤ SEGMENT_BYTES
MayCome (Gave bytes) = ⊤
MayCome (Failed stored) = ⊤

-- a range that a client has cached: its tablet has a number, it is not empty, and its owner is a master that is there
pub record IsCached (count : ℕ) (located : Located) : Type 0 where
  pub tablet : IsNumber w32 0 located.tablet
  pub range : IsLawfulRange located.range
  pub owner : IfSome located.owner (IsMaster count)

-- a session that may act in lanes with so many masters: its outstanding call is lawful and its own last one, it has seen the stamps
-- of its receipts, and what it has cached is lawful
pub record MayAct (count : ℕ) (session : Session) : Type 0 where
  pub client : IsNumber w32 1 session.client
  pub call : IfSome session.outstanding IsLawfulCall
  pub own : IfSome session.outstanding (λ call. (call.client ≡ session.client) × (call.seq ≡ session.last))
  pub seen : All (λ receipt. receipt.stamp ≤ session.seen) session.receipts
  pub cached : All (All (IsCached count)) session.ranges

-- the call of a client comes after all that the history's start records of this client
abbrev pub IsAfterStart : Base → Call → Type 0
IsAfterStart base call = All (λ end. end.client ≡ call.client → end.seq < call.seq) (ends_told base)
