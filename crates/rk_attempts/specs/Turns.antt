-- What a turn does in a lane: its nodes take theirs, and what they send is delivered, but for pulled records.
use Rattle.std.specs.Prelude.{ℕ, List, fold, if◌then◌else◌, None, Option, Some, slice_get}
use Rattle.std.specs.List.{range_with_len}
use Rattle.rk_types.specs.declared.node.Node.TheVariants as nodes
use Rattle.rk_world.specs.Backup.{Called, Gave}
use Rattle.rk_world.specs.World.{World, has_crashed}
use Rattle.rk_world.specs.declared.event.Event.TheVariants as events
use Rattle.rk_attempts.specs.Progress.{Progress, came, handed, started}
use Rattle.rk_attempts.specs.Wires.{has_records, is_for_turn, numbers_with}

-- a master that lives takes its turn
abbrev pub master_turned : Progress → ℕ → Progress
master_turned progress master =
    if has_crashed progress.world master then progress else came progress (events.Turn (nodes.Master master)) (Gave None)

-- so do the coordinator, and then the masters by rising number, of which there are so many
abbrev pub nodes_turned : World → ℕ → Progress
nodes_turned w masters =
    fold master_turned (came (started w) (events.Turn nodes.Coordinator) (Gave None)) (range_with_len 1 masters)

-- the oldest message that a turn delivers
abbrev pub next_message : World → Option ℕ
next_message w = slice_get (numbers_with is_for_turn w.wire.messages) 0

-- this message is delivered and forgotten, if there is one
abbrev pub handed_next : Progress → Called → Option ℕ → Progress
handed_next progress called None = progress
handed_next progress called (Some number) = handed progress number called

-- the oldest message that a turn delivers is delivered and forgotten, with what the call of a replica came to
abbrev pub handed_oldest : Progress → Called → Progress
handed_oldest progress called = handed_next progress called (next_message progress.world)

-- a turn of a lane, with what the call of a replica came to in each delivery: as many messages are delivered
abbrev pub turn_on : World → List Called → Progress
turn_on w calls = fold handed_oldest (nodes_turned w w.coordinator.masters) calls

-- what a turn leaves to replays: the numbers of the messages with pulled records, oldest first
abbrev pub left_to_replays : World → List ℕ
left_to_replays w = numbers_with has_records w.wire.messages
