-- Open calls: those that a lane was asked last by its clients, of which no record is accepted so far.
use Rattle.std.specs.Prelude.{◌≡◌, ◌≢◌, ◌≤◌, ℕ, ◌+◌, Bool, true, false, not, All, List, length, Option, Some, None}
use Rattle.std.specs.List.{AllPairs}
use Rattle.rk_types.specs.declared.history.Placed.{Placed}
use Rattle.rk_world.specs.Journal.{is_accepted}
use Rattle.rk_world.specs.Ledger.{Ledger, asked_by}
use Rattle.rk_world.specs.declared.ledger.LastCall.{LastCall}
use Rattle.rk_laws_lanes.specs.Counts.{accepted_count}

-- whether the last call of a client, if there is one, has no accepted record
abbrev pub is_open : List Placed → Option LastCall → Bool
is_open journal None = false
is_open journal (Some last) = not (is_accepted journal last.call.client last.call.seq)

-- a client has an open call in a lane
abbrev pub HasOpenCall : Ledger → ℕ → Type 0
HasOpenCall ledger client = is_open ledger.journal (asked_by ledger client) ≡ true

-- a lane has counted its calls: accepted records and clients with an open call are together at most as many as the calls that were asked
abbrev pub HasCountedCalls : Ledger → Type 0
HasCountedCalls ledger =
    (clients : List ℕ) → AllPairs (λ a b. a ≢ b) clients → All (HasOpenCall ledger) clients
    → accepted_count ledger + length clients ≤ ledger.asked
