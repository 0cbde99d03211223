-- What a merged history owes to the callers: each acknowledged call is in it once, in its caller's order.
use Rattle.std.specs.Prelude.{◌≡◌, ℕ, ◌+◌, ◌<◌, ◌==◌, List, [], ◌∷◌, ◌++◌, length, ⊤, true, false, ◌&&◌, Option, Some, None, map, filter, slice_get, All}
use Rattle.rk_types.specs.declared.call.Call.{Call}
use Rattle.rk_types.specs.declared.call.Outcome.{Outcome}
use Rattle.rk_types.specs.declared.history.Placed.{Placed}
use Rattle.rk_types.specs.declared.history.Receipt.{Receipt}
use Rattle.rk_model.specs.declared.line.Line.{Line}
use Rattle.rk_model.specs.Merged.{is_mutation, journal_of, merged, IsLatest}

-- what a caller keeps: its receipts, in the order in which it got them, and its outstanding call
pub record Caller : Type 0 where
  pub receipts : List Receipt
  pub outstanding : Option Call

-- an answer that was accepted: which call, where and when, and how it ended
pub record Answered : Type 0 where
  pub lane : ℕ
  pub call : Call
  pub outcome : Outcome
  pub stamp : ℕ

-- the answer that a receipt records
abbrev pub told_by : Receipt → Answered
told_by receipt =
    record { lane = receipt.lane; call = receipt.call; outcome = receipt.outcome; stamp = receipt.stamp }

-- the answer that a line of the history records
abbrev pub answer_of : Line → Answered
answer_of line =
    record { lane = line.lane; call = line.placed.call; outcome = line.placed.outcome; stamp = line.placed.stamp }

-- the accepted lines of a client
abbrev pub accepted_by : ℕ → List Line → List Line
accepted_by client history =
    filter (λ line. line.placed.accepted && line.placed.call.client == client) history

-- the receipts have the seqs from this one on
abbrev pub IsNumberedFrom : ℕ → List Receipt → Type 0
IsNumberedFrom seq [] = ⊤
IsNumberedFrom seq (receipt ∷ receipts) = (receipt.call.seq ≡ seq) × IsNumberedFrom (seq + 1) receipts

-- the record at a receipt's lane and place is accepted, and has its call, outcome and stamp
abbrev pub IsRecorded : List (List Placed) → Receipt → Type 0
IsRecorded journals receipt =
    slice_get (journal_of journals receipt.lane) receipt.place
    ≡ Some (record { call = receipt.call; outcome = receipt.outcome; stamp = receipt.stamp; accepted = true })

-- two calls are one mutation
pub record AreOneMutation (a b : Call) : Type 0 where
  pub mutation : is_mutation a.op ≡ true
  pub client : a.client ≡ b.client
  pub seq : a.seq ≡ b.seq

-- the history is ordered with what the callers keep; a number that is no client's has kept nothing
pub record IsOrdered (journals : List (List Placed)) (history : List Line) (callers : ℕ → Caller) : Type 0 where
  -- the receipts of each caller have the seqs 1, 2, 3 and so on
  pub numbered : (client : ℕ) → IsNumberedFrom 1 (callers client).receipts
  -- each receipt is that of an accepted record at its lane and place
  pub recorded : (client : ℕ) → All (IsRecorded journals) (callers client).receipts
  -- the accepted records of a caller, in the order of the history, are its receipts in order of seq
  pub answered : (client : ℕ) → map answer_of (accepted_by client history) ≡ map told_by (callers client).receipts
  -- no mutation is in the history twice
  pub once :
      (i j : ℕ) (a b : Line) → slice_get history i ≡ Some a → slice_get history j ≡ Some b
      → AreOneMutation a.placed.call b.placed.call → i ≡ j
  -- a record that was not accepted is the outstanding call of its caller
  pub asked :
      (i : ℕ) (line : Line) → slice_get history i ≡ Some line → line.placed.accepted ≡ false
      → (callers line.placed.call.client).outstanding ≡ Some line.placed.call

-- each record that a history has of a client is accepted
abbrev pub IsSettled : ℕ → List Line → Type 0
IsSettled client history = All (λ line. line.placed.call.client ≡ client → line.placed.accepted ≡ true) history

-- one caller keeps this now, and each other what it kept
pub record KeepsNow (before after : ℕ → Caller) (client : ℕ) (caller : Caller) : Type 0 where
  pub own : after client ≡ caller
  pub others : (other : ℕ) → (other ≡ client → ⊥) → after other ≡ before other

-- a caller's next call, recorded last in its lane and accepted, gave that caller one more receipt and the others nothing
pub record IsAnswered (journals : List (List Placed)) (before after : ℕ → Caller) (lane : ℕ) (placed : Placed) (receipt : Receipt) : Type 0 where
  -- the record goes to a lane that there is, with a stamp above all others, and is accepted
  pub in_range : lane < length journals
  pub latest : IsLatest placed.stamp journals
  pub accepted : placed.accepted ≡ true
  -- all that was recorded of its caller is accepted, and this is its next call
  pub settled : IsSettled placed.call.client (merged journals)
  pub next : placed.call.seq ≡ length (before placed.call.client).receipts + 1
  -- the receipt gives the record and its place
  pub told : told_by receipt ≡ answer_of (record { lane = lane; placed = placed })
  pub place : receipt.place ≡ length (journal_of journals lane)
  -- the caller keeps that receipt too, and has no call outstanding
  pub kept :
      KeepsNow before after placed.call.client
      (record { receipts = (before placed.call.client).receipts ++ receipt ∷ []; outstanding = None })
