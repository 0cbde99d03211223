-- The merged history: the records of several journals in one order.
use Rattle.std.specs.Prelude.{◌≡◌, ℕ, ◌+◌, ◌<◌, ◌==◌, List, [], ◌∷◌, ◌++◌, ⊤, Bool, true, false, ◌&&◌, ◌||◌, nat_lt, slice_set, map, filter, if◌then◌else◌, All}
use Rattle.std.specs.List.{slice_index_or}
use Rattle.rk_types.specs.Hashing.{hash_of, lane_of}
use Rattle.rk_types.specs.declared.call.Op.{Op}
use Rattle.rk_types.specs.declared.call.Op.TheVariants.{Get, Put, CondPut, Delete}
use Rattle.rk_types.specs.declared.history.Placed.{Placed}
use Rattle.rk_model.specs.declared.line.Line.{Line}

-- whether an operation may change the map
abbrev pub is_mutation : Op → Bool
is_mutation Get = false
is_mutation (Put value) = true
is_mutation (CondPut expected value) = true
is_mutation Delete = true

-- whether a record is in the merged history: a read that nobody accepted is not
abbrev pub is_kept : Placed → Bool
is_kept placed = placed.accepted || is_mutation placed.call.op

-- whether a line comes before another: by stamp, and at one stamp by lane
abbrev pub is_before : Line → Line → Bool
is_before a b =
    nat_lt a.placed.stamp b.placed.stamp || (a.placed.stamp == b.placed.stamp && nat_lt a.lane b.lane)

-- the lines of one lane's journal
abbrev pub lines_of : ℕ → List Placed → List Line
lines_of lane journal = map (λ placed. record { lane = lane; placed = placed }) (filter is_kept journal)

-- the lines of journals of which the first is of this lane, and each later one of the next
abbrev pub lines_from : ℕ → List (List Placed) → List Line
lines_from lane [] = []
lines_from lane (journal ∷ journals) = lines_of lane journal ++ lines_from (lane + 1) journals

-- lines in order, with one more at its place
abbrev pub put_in_order : Line → List Line → List Line
put_in_order line [] = line ∷ []
put_in_order line (first ∷ lines) =
    if is_before line first then line ∷ first ∷ lines else first ∷ put_in_order line lines

-- the same lines, in order
abbrev pub in_order : List Line → List Line
in_order [] = []
in_order (line ∷ lines) = put_in_order line (in_order lines)

-- the merged history of journals, of which the first is of lane 0
abbrev pub merged : List (List Placed) → List Line
merged journals = in_order (lines_from 0 journals)

-- the journal of a lane, which is empty for a lane that has none
abbrev pub journal_of : List (List Placed) → ℕ → List Placed
journal_of journals lane = slice_index_or journals lane []

-- the records of a history
abbrev pub records_of : List Line → List Placed
records_of history = map (λ line. line.placed) history

-- the records that a history has of one lane
abbrev pub records_in : ℕ → List Line → List Placed
records_in lane history = records_of (filter (λ line. line.lane == lane) history)

-- each line comes before all that follow it
abbrev pub IsInOrder : List Line → Type 0
IsInOrder [] = ⊤
IsInOrder (line ∷ lines) = All (λ later. is_before line later ≡ true) lines × IsInOrder lines

-- what pins the merged history: it is in order, and of each lane it has the journal's records but those reads
pub record IsMergedFrom (journals : List (List Placed)) (history : List Line) : Type 0 where
  pub ordered : IsInOrder history
  pub complete : (lane : ℕ) → records_in lane history ≡ filter is_kept (journal_of journals lane)

-- the stamps of a journal rise strictly
abbrev pub IsRisingAbove : ℕ → List Placed → Type 0
IsRisingAbove stamp [] = ⊤
IsRisingAbove stamp (placed ∷ journal) = (stamp < placed.stamp) × IsRisingAbove placed.stamp journal

-- this stamp is above all stamps of the journals
abbrev pub IsLatest : ℕ → List (List Placed) → Type 0
IsLatest stamp journals = (lane : ℕ) → All (λ placed. placed.stamp < stamp) (journal_of journals lane)

-- the journals with one more record at the end of a lane's
abbrev pub appended : List (List Placed) → ℕ → Placed → List (List Placed)
appended journals lane placed = slice_set journals lane (journal_of journals lane ++ placed ∷ [])

-- the lane of a key
abbrev pub lane_of_key : List ℕ → ℕ
lane_of_key key = lane_of (hash_of key)

-- the records of a journal are of keys of this lane
abbrev pub HasOwnKeys : ℕ → List Placed → Type 0
HasOwnKeys lane journal = All (λ placed. lane_of_key placed.call.key ≡ lane) journal
