-- Added: who has a session may act in each lane.
use Rattle.std.specs.Prelude.{◌≡◌, ◌<◌, ℕ, length, None, true, ⊤}
use Rattle.rk_types.specs.NumberMap.{EachIn, get}
use Rattle.rk_world.specs.Cluster.{Accepts, Asks, Cluster, Joins, Occurrence, lane_at}
use Rattle.rk_world.specs.Ledger.{is_added}

-- a client was added in each lane
abbrev pub IsAddedInAll : Cluster → ℕ → Type 0
IsAddedInAll cluster client =
    (lane : ℕ) → lane < length cluster.lanes → is_added (lane_at cluster lane).ledger client ≡ true

-- each client with a session was added in each lane
abbrev pub AreAdded : Cluster → Type 0
AreAdded cluster = EachIn (λ client session. IsAddedInAll cluster client) cluster.sessions

-- a client without a session was added in each lane
abbrev pub MayGetSession : Cluster → ℕ → Type 0
MayGetSession cluster client = get cluster.sessions client ≡ None → IsAddedInAll cluster client

-- a client that joins, takes its turn or takes an answer has a session, or was added in each lane
abbrev pub ActsAdded : Cluster → Occurrence → Type 0
ActsAdded cluster (Joins client) = MayGetSession cluster client
ActsAdded cluster (Asks lane client) = MayGetSession cluster client
ActsAdded cluster (Accepts lane number client) = MayGetSession cluster client
ActsAdded cluster occurrence = ⊤
