-- What a lane counts, and what becomes of that: accepted records, calls that were asked, and clients.
use Rattle.std.specs.Prelude.{◌≡◌, ◌<◌, ◌+◌, ◌++◌, ℕ, [], ◌∷◌, length, None, Option, Some, ⊤, if◌then◌else◌}
use Rattle.std.specs.List.{count_by}
use Rattle.rk_types.specs.declared.call.Call.{Call}
use Rattle.rk_types.specs.declared.history.Receipt.{Receipt}
use Rattle.rk_world.specs.Calls.{Visited, is_asked}
use Rattle.rk_world.specs.Client.{Session}
use Rattle.rk_world.specs.Ledger.{Ledger, is_added}
use Rattle.rk_world.specs.World.{World}
use Rattle.rk_world.specs.declared.event.Event.{Event}
use Rattle.rk_world.specs.declared.event.Event.TheVariants as events
use Rattle.rk_world.specs.declared.event.Taken.{Taken}
use Rattle.rk_world.specs.declared.event.Taken.TheVariants as takes

-- how many records of a ledger are accepted
abbrev pub accepted_count : Ledger → ℕ
accepted_count ledger = count_by (λ placed. placed.accepted) ledger.journal

-- ledgers that have the same clients
abbrev pub HasSameClients : Ledger → Ledger → Type 0
HasSameClients before after = (client : ℕ) → is_added after client ≡ is_added before client

-- an event that adds no client
abbrev pub AddsNoClient : Event → Type 0
AddsNoClient (events.AddClient client) = ⊥
AddsNoClient event = ⊤

-- ledgers with as many accepted records and as many asked calls
pub record HasSameCounts (before after : Ledger) : Type 0 where
  pub accepted : accepted_count after ≡ accepted_count before
  pub asked : after.asked ≡ before.asked

-- a client took its turn for this call in a lane: the call was asked there, now if it was not before; no record was accepted, and the
-- session has its call and its receipts still
pub record IsAskedOnce (w : World) (session : Session) (call : Call) (visited : Visited) : Type 0 where
  pub accepted : accepted_count visited.world.ledger ≡ accepted_count w.ledger
  pub asked : visited.world.ledger.asked ≡ (if is_asked w.ledger session call then w.ledger.asked else w.ledger.asked + 1)
  pub clients : HasSameClients w.ledger visited.world.ledger
  pub receipts : visited.session.receipts ≡ session.receipts
  pub outstanding : visited.session.outstanding ≡ session.outstanding
  pub seen : visited.session.seen ≡ session.seen
  pub client : visited.session.client ≡ session.client

-- an answer was taken: one record more is accepted, and the session has one receipt more, with a stamp above all that it had seen
pub record IsOneMore (before after : Ledger) (session now : Session) : Type 0 where
  pub accepted : accepted_count after ≡ accepted_count before + 1
  pub receipt : Receipt
  pub receipts : now.receipts ≡ session.receipts ++ receipt ∷ []
  pub later : session.seen < receipt.stamp

-- what becomes of the accepted records of a lane, by what a session took there
abbrev pub IsCounted : Ledger → Ledger → Session → Session → Option Taken → Type 0
IsCounted before after session now (Some takes.Done) = IsOneMore before after session now
IsCounted before after session now taken = accepted_count after ≡ accepted_count before

-- what becomes of a session, by what it took: an answer gives it one receipt and leaves it no call, and all else leaves both
abbrev pub HasReceipts : Session → Session → Option Taken → Type 0
HasReceipts session now (Some takes.Done) = (length now.receipts ≡ length session.receipts + 1) × (now.outstanding ≡ None)
HasReceipts session now taken = (now.receipts ≡ session.receipts) × (now.outstanding ≡ session.outstanding)
