-- The tasks of `settle`. Their type has no name outside of the crate of settling commands, so each is given by the list that contains it.
use Rattle.std.proofs.Common.{ℕ, List, [], slice_index_or, Some}
use Rattle.rk_scripts.proofs.Words.{empty_by, lane_tasks, notice_by, settle, forgets, round_of}

-- the type of something
abbrev TypeOf : {A : Type 0} → A → Type 0
TypeOf {A} a = A

-- the type of tasks
abbrev pub Task : Type 0
Task = TypeOf (forgets 0 0)

-- the task at a place of a list
abbrev pub task_at : List Task → ℕ → Task
task_at list place = slice_index_or list place (forgets 0 0)

-- the crashed masters of a lane are noticed
abbrev pub notices : ℕ → Task
notices lane = task_at (notice_by lane (Some 0)) 1

-- one of them is
abbrev pub notice : ℕ → ℕ → Task
notice lane master = task_at (notice_by lane (Some master)) 0

-- rounds run until the cluster is at rest
abbrev pub settles : Task
settles = task_at (settle (record { lanes = []; sessions = [] })) 0

-- a round begins, and ends
abbrev pub begins : Task
begins = task_at (round_of []) 0

abbrev pub ends : Task
ends = task_at (round_of []) 1

-- the nodes of a lane take their turns
abbrev pub turns : ℕ → Task
turns lane = task_at (lane_tasks lane) 0

-- the wire of a lane is emptied
abbrev pub empties : ℕ → Task
empties lane = task_at (lane_tasks lane) 1

-- a message is delivered
abbrev pub delivers : ℕ → ℕ → Task
delivers lane number = task_at (empty_by lane (Some number)) 0
