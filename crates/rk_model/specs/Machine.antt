-- The map machine: one map from keys to records, and what it answers to each operation.
use Rattle.std.specs.Prelude.{◌≡◌, ℕ, ◌<◌, ◌==◌, List, Option, Some, None, MatchBool}
use Rattle.rk_types.specs.declared.call.Op.{Op}
use Rattle.rk_types.specs.declared.call.Op.TheVariants.{Get, Put, CondPut, Delete}
use Rattle.rk_types.specs.declared.call.Outcome.{Outcome}
use Rattle.rk_types.specs.declared.call.Outcome.TheVariants.{Found, Absent, Written, Deleted, Mismatch}

-- what the map has at a key: nothing so far, a record with its version and value, or the version of its removal
pub data Entry : Type 0 where
  never : Entry
  live : ℕ → List ℕ → Entry
  gone : ℕ → Entry

-- the version that was given last, 0 if none was
abbrev pub last_version : Entry → ℕ
last_version never = 0
last_version (live version value) = version
last_version (gone version) = version

-- the version of the record that is there, 0 if none is
abbrev pub live_version : Entry → ℕ
live_version never = 0
live_version (live version value) = version
live_version (gone version) = 0

-- what a read returns
abbrev pub read_of : Entry → Outcome
read_of never = Absent
read_of (live version value) = Found version value
read_of (gone version) = Absent

-- written, with a version above this one
abbrev pub IsWrittenAbove : ℕ → Outcome → Type 0
IsWrittenAbove last (Written version) = last < version
IsWrittenAbove last _ = ⊥

-- deleted, with a version above this one
abbrev pub IsDeletedAbove : ℕ → Outcome → Type 0
IsDeletedAbove last (Deleted version) = last < version
IsDeletedAbove last _ = ⊥

-- the outcomes that an operation may have at an entry; a write may take any version above the last
abbrev pub Allowed : Entry → Op → Outcome → Type 0
Allowed entry Get outcome = outcome ≡ read_of entry
Allowed entry (Put value) outcome = IsWrittenAbove (last_version entry) outcome
Allowed entry (CondPut expected value) outcome =
    MatchBool (expected == live_version entry)
    (IsWrittenAbove (last_version entry) outcome)
    (outcome ≡ Mismatch (live_version entry))
Allowed never Delete outcome = outcome ≡ Absent
Allowed (live version value) Delete outcome = IsDeletedAbove version outcome
Allowed (gone version) Delete outcome = outcome ≡ Absent

-- the entry that an operation with this outcome leaves; none if the entry stays
abbrev pub change_of : Op → Outcome → Option Entry
change_of (Put value) (Written version) = Some (live version value)
change_of (CondPut expected value) (Written version) = Some (live version value)
change_of Delete (Deleted version) = Some (gone version)
change_of _ _ = None
