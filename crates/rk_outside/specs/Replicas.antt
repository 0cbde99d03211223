-- What contracts see of a replica in memory. Its appends and reads are counted together, from 1, but for those that
-- find no memory, and a list names the calls that fail.
use Rattle.std.specs.Prelude.{ℕ, ◌≡◌, Bool, true, false, List, [], ◌∷◌, ◌++◌, take, None, Result, Ok, Err, ⊤, refl}
use Rattle.std.specs.BTreeMap.{BTreeMap}
use Rattle.std.specs.FinMap.{FinMap, empty, get, insert, from_entries, code}
use Rattle.std.specs.Coded.{Coded, code_by, coded×, coded_list, coded_ℕ}
use Rattle.std.specs.declared.cmp.Ordering.{Ordering}
use Rattle.std.specs.Ordering.{nat_cmp, ordering_then}
use Rattle.rk_outside.specs.Faults.{one_more}
use Rattle.rk_outside.specs.Memory.{is_listed}
use Rattle.rk_outside.specs.Segments.{Segments, bytes_of}
use Rattle.rk_outside.specs.declared.replica.Lost.{Lost}
use Rattle.rk_outside.specs.declared.replica.Lost.TheVariants.{Failed, NoMemory}

-- the order of places: by master, then by segment
abbrev pub place_cmp : ℕ × ℕ → ℕ × ℕ → Ordering
place_cmp a b = ordering_then (nat_cmp a.0 b.0) (nat_cmp a.1 b.1)

-- the bytes of each segment that was ever written, by its place: the number of its master and its own
abbrev pub SegmentMap : Type 0
SegmentMap = FinMap place_cmp (List ℕ)

-- its code
abbrev pub segment_map_code : Coded SegmentMap
segment_map_code = code (coded× coded_ℕ coded_ℕ) (coded_list coded_ℕ)

-- the segments of a tree by places
abbrev pub segments_in : BTreeMap (ℕ × ℕ) (List ℕ) → SegmentMap
segments_in tree = from_entries tree.entries

-- the segments that were written, the calls so far, the calls that fail, how many bytes a failing append keeps at most,
-- and the faults
pub record ReplicaState : Type 0 where
  pub written : SegmentMap
  pub calls : ℕ
  pub failing : List ℕ
  pub kept : ℕ
  pub faults : ℕ

-- it is stored as nested pairs of its fields
abbrev pub replica_state_code : Coded ReplicaState
replica_state_code =
    code_by (SegmentMap × (ℕ × (List ℕ × (ℕ × ℕ)))) (coded× segment_map_code (coded× coded_ℕ (coded× (coded_list coded_ℕ) (coded× coded_ℕ coded_ℕ))))
    (λ r. (r.written, (r.calls, (r.failing, (r.kept, r.faults)))))
    (λ p. record { written = p.0; calls = p.1.0; failing = p.1.1.0; kept = p.1.1.1.0; faults = p.1.1.1.1 })
    (λ _. refl)

-- a replica to which nothing was written, before its first call
abbrev pub new_replica : ReplicaState
new_replica = record { written = empty; calls = 0; failing = []; kept = 0; faults = 0 }

-- each segment, by the number of a master and of a segment
abbrev pub by_number : SegmentMap → Segments
by_number written master segment = get written (master, segment)

-- the segments of a replica
abbrev pub segments_of : ReplicaState → Segments
segments_of replica = by_number replica.written

-- no segment was ever written
abbrev pub IsUnwritten : Segments → Type 0
IsUnwritten segments = (master segment : ℕ) → segments master segment ≡ None

-- whether its next call fails
abbrev pub fails_next : ReplicaState → Bool
fails_next replica = is_listed replica.failing (one_more replica.calls)

-- a call fails exactly when it is to fail; want of memory may come in place of either answer
abbrev pub FailsWhere : {T : Type 0} → Bool → Result T Lost → Type 0
FailsWhere fails (Ok _) = fails ≡ false
FailsWhere fails (Err Failed) = fails ≡ true
FailsWhere fails (Err NoMemory) = ⊤

-- segments with these bytes at the end of one, which is written from then on
abbrev pub with_appended : SegmentMap → ℕ → ℕ → List ℕ → SegmentMap
with_appended written master segment bytes =
    insert written (master, segment) (bytes_of (get written (master, segment)) ++ bytes)

-- segments with what a failed append kept of its bytes; if it kept none, they are as they were
abbrev pub with_kept : SegmentMap → ℕ → ℕ → List ℕ → SegmentMap
with_kept written master segment [] = written
with_kept written master segment (byte ∷ bytes) = with_appended written master segment (byte ∷ bytes)

-- a replica after an append, by its answer: all bytes are added, or as many as a failing append keeps, or none
abbrev pub after_append : Result (Unit {0}) Lost → ℕ → ℕ → List ℕ → ReplicaState → ReplicaState
after_append (Ok _) master segment bytes replica = record replica {
  written = with_appended replica.written master segment bytes;
  calls = one_more replica.calls;
}
after_append (Err Failed) master segment bytes replica = record replica {
  written = with_kept replica.written master segment (take replica.kept bytes);
  calls = one_more replica.calls;
  faults = one_more replica.faults;
}
after_append (Err NoMemory) master segment bytes replica = replica

-- a replica after a read, by its answer
abbrev pub after_read : {T : Type 0} → Result T Lost → ReplicaState → ReplicaState
after_read (Ok _) replica = record replica { calls = one_more replica.calls }
after_read (Err Failed) replica = record replica { calls = one_more replica.calls; faults = one_more replica.faults }
after_read (Err NoMemory) replica = replica
