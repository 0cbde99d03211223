-- What is kept beside the records of a journal, so that they are found by client and seq.
use Rattle.std.specs.Prelude.{◌≡◌, ℕ, ◌+◌, ◌-◌, ◌==◌, Bool, true, false, ◌&&◌, if◌then◌else◌, List, All, Option, Some, None, is_some, unwrap_or, position}
use Rattle.std.specs.List.{count_by}
use Rattle.std.specs.HashMap.{get}
use Rattle.rk_types.specs.declared.history.Placed.{Placed}
use Rattle.rk_model.specs.Merged.{IsRisingAbove, is_mutation}
use Rattle.rk_world.specs.Journal.{is_of_call, is_of_mutation}
use Rattle.rk_ledger.specs.declared.call_index.CallIndex.{CallIndex}
use Rattle.rk_ledger.specs.declared.call_index.Noted.{Noted}
use Rattle.rk_ledger.specs.declared.call_index.OfCall.{OfCall}
use Rattle.rk_ledger.specs.Values.{value_bytes}

-- whether two clients with a seq are one
abbrev pub is_same_name : ℕ × ℕ → ℕ × ℕ → Bool
is_same_name a b = (a.0 == b.0) && (a.1 == b.1)

-- what the map of the index has of a client and a seq
abbrev pub stored_in : CallIndex → ℕ → ℕ → Option Noted
stored_in index client seq = get is_same_name index.notes (client, seq)

-- whether what is noted is that of a client and a seq
abbrev pub is_of_name : OfCall → ℕ → ℕ → Bool
is_of_name last client seq = (last.client == client) && (last.seq == seq)

-- whether a client and a seq were noted last
abbrev pub is_last_name : Option OfCall → ℕ → ℕ → Bool
is_last_name None client seq = false
is_last_name (Some last) client seq = is_of_name last client seq

-- what was noted last, if it is of a client and a seq, and else what is stored of them
abbrev pub last_or : Option OfCall → ℕ → ℕ → Option Noted → Option Noted
last_or None client seq stored = stored
last_or (Some last) client seq stored = if is_of_name last client seq then Some last.noted else stored

-- what the index has of a client and a seq
abbrev pub found_in : CallIndex → ℕ → ℕ → Option Noted
found_in index client seq = last_or index.last client seq (stored_in index client seq)

-- no record of the call
abbrev pub nothing : Noted
nothing = record { place = None; accepted = 0 }

-- whether the index has a note of a client and a seq
abbrev pub has_note : CallIndex → ℕ → ℕ → Bool
has_note index client seq = is_some (found_in index client seq)

-- what the index notes of a client and a seq
abbrev pub noted_in : CallIndex → ℕ → ℕ → Noted
noted_in index client seq = unwrap_or (found_in index client seq) nothing

-- an index once this was noted of a client and a seq
pub record IsNoted (before after : CallIndex) (client seq : ℕ) (note : Noted) : Type 0 where
  pub noted_is :
      (other asked : ℕ) → noted_in after other asked ≡ (if client == other && (seq == asked) then note else noted_in before other asked)
  pub there :
      (other asked : ℕ) → has_note after other asked ≡ (if client == other && (seq == asked) then true else has_note before other asked)

-- an index that notes what another one does
pub record NotesTheSame (before after : CallIndex) : Type 0 where
  pub noted_is : (client seq : ℕ) → noted_in after client seq ≡ noted_in before client seq
  pub there : (client seq : ℕ) → has_note after client seq ≡ has_note before client seq

-- whether a record is an accepted one of the call of a client with a seq
abbrev pub is_accepted_of : ℕ → ℕ → Placed → Bool
is_accepted_of client seq placed = placed.accepted && is_of_call client seq placed

-- what is to be noted of a client and a seq: the place of the mutation's first record, and how many records are accepted
abbrev pub noted : List Placed → ℕ → ℕ → Noted
noted records client seq = record {
  place = position (is_of_mutation client seq) records;
  accepted = count_by (is_accepted_of client seq) records;
}

-- a place, or else another one if a test holds
abbrev pub known_or : Option ℕ → Bool → ℕ → Option ℕ
known_or (Some known) holds place = Some known
known_or None holds place = if holds then Some place else None

-- what is noted of a call once one more record of it is at this place
abbrev pub with_record : Noted → Placed → ℕ → Noted
with_record noted placed place = record {
  place = known_or noted.place (is_mutation placed.call.op) place;
  accepted = noted.accepted + (if placed.accepted then 1 else 0);
}

-- a place, unless it is this one
abbrev pub unless_at : Option ℕ → ℕ → Option ℕ
unless_at None place = None
unless_at (Some known) place = if known == place then None else Some known

-- what was noted of a call before its last record was put at this place
abbrev pub without_record : Noted → Placed → ℕ → Noted
without_record noted placed place = record {
  place = unless_at noted.place place;
  accepted = noted.accepted - (if placed.accepted then 1 else 0);
}

-- what is noted of a call once one more of its records is accepted
abbrev pub with_accepted : Noted → Noted
with_accepted noted = record noted { accepted = noted.accepted + 1 }

-- how many records are accepted
abbrev pub accepted_count : List Placed → ℕ
accepted_count records = count_by (λ placed. placed.accepted) records

-- the index notes just that of each client and seq, and has a note of the call of each record
pub record IsIndex (index : CallIndex) (records : List Placed) : Type 0 where
  pub noted_is : (client seq : ℕ) → noted_in index client seq ≡ noted records client seq
  pub there : All (λ placed. has_note index placed.call.client placed.call.seq ≡ true) records

-- the index is that of these records, and so many of them are accepted
pub record IsCounted (index : CallIndex) (accepted : ℕ) (records : List Placed) : Type 0 where
  pub index_is : IsIndex index records
  pub accepted_is : accepted ≡ accepted_count records

-- what is kept beside the records of a journal, whose stamps rise: their index, how many are accepted, and the bytes of their values
pub record IsKept (index : CallIndex) (accepted bytes : ℕ) (records : List Placed) : Type 0 where
  pub counted : IsCounted index accepted records
  pub bytes_are : bytes ≡ value_bytes records
  pub rising : IsRisingAbove 0 records
