-- The lanes with which a drive begins, and what its first events make of their ledgers.
use Rattle.std.specs.Prelude.{◌≡◌, ◌==◌, ◌||◌, ℕ, Bool, false, List, [], Some, length, slice_get, ⊤}
use Rattle.rk_types.specs.declared.hashing.TheConstants.{LANES}
use Rattle.rk_cluster.specs.Dealt.{IsEighth}
use Rattle.rk_cluster.specs.Faults.{LanesGoOn}
use Rattle.rk_lane.specs.LaneState.{LaneState, replicas_of}
use Rattle.rk_world.specs.Ledger.{Ledger, asked_by, is_added, new_ledger}
use Rattle.rk_world.specs.declared.event.Event.{Event}
use Rattle.rk_world.specs.declared.event.Event.TheVariants as events

-- a lane in which nothing has happened, with so many masters and backups
pub record IsFresh {R : Type 0} (masters backups : ℕ) (lane : LaneState R) : Type 0 where
  pub masters_are : lane.masters ≡ masters
  pub backups_are : length lane.backups ≡ backups
  pub ledger_is : lane.ledger ≡ new_ledger

-- no count of faults of replicas has fallen since lanes were made of them, each with its eighth
pub record NoneFellSince {R : Type 0} (faults : R → ℕ) (replicas : List R) (now : List (LaneState R)) : Type 0 where
  -- these lanes
  pub made : List (LaneState R)
  pub count : length made ≡ LANES
  pub each : (number : ℕ) (lane : LaneState R) → slice_get made number ≡ Some lane → IsEighth replicas number (replicas_of lane.backups)
  pub counts : LanesGoOn faults [] made now

-- an event with which a drive begins: a tablet or a client is added, or a migration begins
abbrev pub Begins : Event → Type 0 → Type 0
Begins (events.AddTablet tablet range master) Holds = Holds
Begins (events.AddClient client) Holds = Holds
Begins (events.Migrate tablet to) Holds = Holds
Begins event Holds = ⊤

-- ledgers of which nobody asked more than before
pub record IsAskedAlike (before after : Ledger) : Type 0 where
  pub asked : after.asked ≡ before.asked
  pub journal : after.journal ≡ before.journal
  pub last : (client : ℕ) → asked_by after client ≡ asked_by before client

-- such an event asks nothing
abbrev pub KeepsUnasked : Event → Ledger → Ledger → Type 0
KeepsUnasked event before after = Begins event (IsAskedAlike before after)

-- whether an event adds this client
abbrev pub is_new : Event → ℕ → Bool
is_new (events.AddClient client) other = client == other
is_new event other = false

-- a ledger has the client that an event adds, and the clients that it had
abbrev pub AddsClients : Event → Ledger → Ledger → Type 0
AddsClients event before after = Begins event ((client : ℕ) → is_added after client ≡ (is_new event client || is_added before client))
