-- Agreement: what the session of a client and the ledgers of the lanes have of each other.
use Rattle.std.specs.Prelude.{◌≡◌, ◌≤◌, ◌<◌, ℕ, ◌+◌, List, [], ◌∷◌, length, true, Option, Some, None, IfSome, All, Contains, slice_get, ⊤, ◌⊎◌}
use Rattle.rk_types.specs.declared.call.Call.{Call}
use Rattle.rk_types.specs.declared.history.Placed.{Placed}
use Rattle.rk_types.specs.declared.history.Receipt.{Receipt}
use Rattle.rk_model.specs.Ordered.{IsNumberedFrom, answer_of, told_by}
use Rattle.rk_world.specs.Client.{Session}
use Rattle.rk_world.specs.Ledger.{Ledger, asked_by}
use Rattle.rk_world.specs.declared.ledger.LastCall.{LastCall}
use Rattle.rk_sound.specs.Asked.{IsAccepted}

-- the record at a receipt's lane and place is accepted, and has its call, outcome and stamp
abbrev pub IsRecordedIn : (ℕ → Ledger) → Receipt → Type 0
IsRecordedIn ledgers receipt =
    slice_get (ledgers receipt.lane).journal receipt.place
    ≡ Some (record { call = receipt.call; outcome = receipt.outcome; stamp = receipt.stamp; accepted = true })

-- one of these receipts gives a record of a lane
pub record IsToldBy (receipts : List Receipt) (lane : ℕ) (placed : Placed) : Type 0 where
  pub receipt : Receipt
  pub stands : Contains receipts receipt
  pub tells : told_by receipt ≡ answer_of (record { lane = lane; placed = placed })

-- each accepted record of a client is given by one of its receipts
abbrev pub AreTold : List Receipt → ℕ → ℕ → List Placed → Type 0
AreTold receipts client lane journal =
    All (λ placed. placed.accepted ≡ true → placed.call.client ≡ client → IsToldBy receipts lane placed) journal

-- the stamps of receipts rise
abbrev pub AreRisingAbove : ℕ → List Receipt → Type 0
AreRisingAbove stamp [] = ⊤
AreRisingAbove stamp (receipt ∷ receipts) = (stamp < receipt.stamp) × AreRisingAbove receipt.stamp receipts

-- a call is the outstanding one of a session, which asked it with what it has seen
pub record IsOutstanding (session : Session) (last : LastCall) : Type 0 where
  pub call_is : session.outstanding ≡ Some last.call
  pub seen_is : last.seen ≡ session.seen

-- the last call that a client asked in a lane is accepted there, or outstanding
abbrev pub IsLastKnown : List Placed → Session → Option LastCall → Type 0
IsLastKnown journal session None = ⊤
IsLastKnown journal session (Some last) = IsAccepted journal last.call ⊎ IsOutstanding session last

-- how many calls are outstanding
abbrev pub waiting : Option Call → ℕ
waiting None = 0
waiting (Some call) = 1

-- the session of a client and the ledgers of the lanes agree
pub record Agrees (ledgers : ℕ → Ledger) (client : ℕ) (session : Session) : Type 0 where
  pub own : session.client ≡ client
  -- its calls have the seqs 1, 2, 3 and so on: those of its receipts, and then the outstanding one
  pub numbered : IsNumberedFrom 1 session.receipts
  pub own_calls : All (λ receipt. receipt.call.client ≡ client) session.receipts
  pub last : session.last ≡ length session.receipts + waiting session.outstanding
  pub outstanding : IfSome session.outstanding (λ call. (call.client ≡ client) × (call.seq ≡ session.last))
  -- the stamps of its receipts rise, and it has seen them
  pub rising : AreRisingAbove 0 session.receipts
  pub seen : All (λ receipt. receipt.stamp ≤ session.seen) session.receipts
  -- its receipts and the accepted records of its calls correspond to each other
  pub recorded : All (IsRecordedIn ledgers) session.receipts
  pub told : (lane : ℕ) → AreTold session.receipts client lane (ledgers lane).journal
  -- what it asked last in a lane is accepted there, or outstanding
  pub asked : (lane : ℕ) → IsLastKnown (ledgers lane).journal session (asked_by (ledgers lane) client)
