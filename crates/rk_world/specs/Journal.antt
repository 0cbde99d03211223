-- The journal of a lane: the records of the calls that were carried out, oldest first.
use Rattle.std.specs.Prelude.{ℕ, ◌+◌, ◌==◌, ◌&&◌, Bool, true, false, max, List, [], ◌∷◌, slice_set, Option, Some, None}
use Rattle.std.specs.List.{list_any}
use Rattle.rk_types.specs.declared.call.Call.{Call}
use Rattle.rk_types.specs.declared.call.Outcome.{Outcome}
use Rattle.rk_types.specs.declared.history.Placed.{Placed}
use Rattle.rk_model.specs.Merged.{is_mutation}

-- the stamp of the last record, or this one if there is none
abbrev pub last_stamp_from : ℕ → List Placed → ℕ
last_stamp_from stamp [] = stamp
last_stamp_from stamp (placed ∷ later) = last_stamp_from placed.stamp later

-- the stamp of the last record of a journal, 0 if there is none
abbrev pub last_stamp : List Placed → ℕ
last_stamp journal = last_stamp_from 0 journal

-- the record of a call, for a client that had seen this stamp: its stamp is above that and above all others
abbrev pub next_record : List Placed → Call → Outcome → ℕ → Placed
next_record journal call outcome seen =
    record { call = call; outcome = outcome; stamp = max (last_stamp journal) seen + 1; accepted = false }

-- whether a record is of the call of a client with a seq
abbrev pub is_of_call : ℕ → ℕ → Placed → Bool
is_of_call client seq placed = placed.call.client == client && (placed.call.seq == seq)

-- whether a record is of the mutation of a client with a seq
abbrev pub is_of_mutation : ℕ → ℕ → Placed → Bool
is_of_mutation client seq placed = is_mutation placed.call.op && is_of_call client seq placed

-- whether the mutation of a client with a seq has its record
abbrev pub has_record : List Placed → ℕ → ℕ → Bool
has_record journal client seq = list_any (is_of_mutation client seq) journal

-- whether the call of a client with a seq has an accepted record
abbrev pub is_accepted : List Placed → ℕ → ℕ → Bool
is_accepted journal client seq = list_any (λ placed. placed.accepted && is_of_call client seq placed) journal

-- a record is accepted
abbrev pub as_accepted : Placed → Placed
as_accepted placed = record placed { accepted = true }

-- the journal with the record at a place accepted, if there is one
abbrev pub accepted_at : List Placed → ℕ → Option Placed → List Placed
accepted_at journal place None = journal
accepted_at journal place (Some placed) = slice_set journal place (as_accepted placed)
