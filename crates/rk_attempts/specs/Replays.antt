-- What a replay does in a lane: one message is delivered and forgotten, if it is there and for a node.
use Rattle.std.specs.Prelude.{ℕ, Bool, if◌then◌else◌}
use Rattle.rk_types.specs.NumberMap.{get}
use Rattle.rk_world.specs.Backup.{Called}
use Rattle.rk_world.specs.World.{World}
use Rattle.rk_attempts.specs.Progress.{Progress, handed, started}
use Rattle.rk_attempts.specs.Wires.{is_for_node, is_there_with}

-- whether the message of a number is there to be replayed
abbrev pub is_replayed : World → ℕ → Bool
is_replayed w number = is_there_with is_for_node (get w.wire.messages number)

-- a replay, with what the call of a replica came to
abbrev pub replay_on : World → ℕ → Called → Progress
replay_on w number called = if is_replayed w number then handed (started w) number called else started w
