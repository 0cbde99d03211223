-- Clients that have sessions, and their turns.
use Rattle.std.specs.Prelude.{◌≡◌, ◌⊎◌, ℕ, List, map, true, is_some, None, Option}
use Rattle.rk_types.specs.NumberMap.{NumberMap, get}
use Rattle.rk_world.specs.Client.{Session}
use Rattle.rk_types.specs.declared.node.Said.{Said}
use Rattle.rk_outside.specs.Segments.{Segments}
use Rattle.rk_world.specs.Cluster.{Accepts, Asks, Occurrence}
use Rattle.rk_cluster.specs.Effects.{ActsOne}
use Rattle.rk_cluster.specs.Spending.{IsShortOf}
use Rattle.rk_cluster.specs.State.{ClusterState}

-- a client has a session
abbrev pub HasSession : NumberMap Session → ℕ → Type 0
HasSession sessions client = is_some (get sessions client) ≡ true

-- clients take their turns in a lane
abbrev pub all_ask : ℕ → List ℕ → List Occurrence
all_ask lane clients = map (Asks lane) clients

-- memory was wanting before a client took a message, or once it had taken it
abbrev pub AcceptsShort : {R : Type 0} → (R → Option Segments) → ClusterState R → ClusterState R → ℕ → ℕ → ℕ → Type 0
AcceptsShort segments old new lane number client =
    IsShortOf old new ⊎ ((told : List Said) × ActsOne segments old new (Accepts lane number client) told None)
