-- The hashes that a tablet asks for before all others: those that are wanted, that were asked for, and that have come.
use Rattle.std.specs.Prelude.{◌≢◌, ℕ, ◌≤◌, Bool, false, not, ◌||◌, List, [], ◌∷◌, ◌++◌, length, take, drop, if◌then◌else◌, bytes_eq, ◌==◌, AllPairs}
use Rattle.std.specs.List.{list_any}
use Rattle.rk_priority.specs.declared.wanted.TheConstants.{BATCH_HASHES}

-- the hashes whose records have come, those of the batch that is asked for, and those that are still wanted, the oldest first
pub record Hashes : Type 0 where
  pub resolved : List ℕ
  pub outstanding : List ℕ
  pub wanted : List ℕ

-- no hashes
abbrev pub no_hashes : Hashes
no_hashes = record { resolved = []; outstanding = []; wanted = [] }

-- all of them, each once
abbrev pub all_hashes : Hashes → List ℕ
all_hashes hashes = hashes.resolved ++ (hashes.outstanding ++ hashes.wanted)

-- a batch is small, and no hash is in two parts, or twice in one
pub record AreApart (hashes : Hashes) : Type 0 where
  pub few : length hashes.outstanding ≤ BATCH_HASHES
  pub distinct : AllPairs (λ a b. a ≢ b) (all_hashes hashes)

-- whether a list has the hash
abbrev pub contains : List ℕ → ℕ → Bool
contains hashes hash = list_any (λ h. h == hash) hashes

-- whether the hash is wanted, outstanding or resolved
abbrev pub is_known : Hashes → ℕ → Bool
is_known hashes hash = contains (all_hashes hashes) hash

-- whether a batch is asked for and has not come, or there is one to ask for
abbrev pub is_waiting : Hashes → Bool
is_waiting hashes = not (length hashes.outstanding == 0) || not (length hashes.wanted == 0)

-- after a hash is wanted: a known one changes nothing
abbrev pub wanting : Hashes → ℕ → Hashes
wanting hashes hash = if is_known hashes hash then hashes else record hashes { wanted = hashes.wanted ++ hash ∷ [] }

-- after a batch is asked for, by the batch that is outstanding: if there is none, the oldest wanted hashes become it
abbrev pub batched_by : Hashes → List ℕ → Hashes
batched_by hashes [] = record { resolved = hashes.resolved; outstanding = take BATCH_HASHES hashes.wanted; wanted = drop BATCH_HASHES hashes.wanted }
batched_by hashes (hash ∷ more) = hashes

abbrev pub batched : Hashes → Hashes
batched hashes = batched_by hashes hashes.outstanding

-- whether these hashes are the outstanding batch, in its order, and there are some
abbrev pub is_batch : List ℕ → List ℕ → Bool
is_batch [] given = false
is_batch (hash ∷ more) given = bytes_eq (hash ∷ more) given

-- after the hashes came
abbrev pub got : Hashes → List ℕ → Hashes
got hashes given =
    if is_batch hashes.outstanding given
    then record { resolved = hashes.resolved ++ hashes.outstanding; outstanding = []; wanted = hashes.wanted }
    else hashes
