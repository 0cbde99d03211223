-- Worked examples of what is done in one lane.
use Rattle.std.proofs.Common.{◌≡◌, [], None, Ok, refl}
use Rattle.rk_world.specs.Backup.{Gave}
use Rattle.rk_world.specs.Client.{new_session}
use Rattle.rk_world.specs.World.{new_world}
use Rattle.rk_attempts.specs.Attempts.{attempt_on}
use Rattle.rk_attempts.specs.Progress.{started}
use Rattle.rk_attempts.specs.Replays.{replay_on}
use Rattle.rk_attempts.specs.Turns.{left_to_replays, next_message, turn_on}
use Rattle.rk_attempts.specs.declared.attempt.Attempt.TheVariants as attempts

-- in a lane in which nothing has happened a replay finds no message
pub replay_on-new : replay_on (new_world 0 1 1) 1 (Gave None) ≡ started (new_world 0 1 1)
replay_on-new = refl

-- a turn of its nodes sends nothing
pub turn_on-new : turn_on (new_world 0 1 1) [] ≡ started (new_world 0 1 1)
turn_on-new = refl

pub left_to_replays-new : left_to_replays (new_world 0 1 1) ≡ []
left_to_replays-new = refl

-- nothing is there for a client, and nothing that a turn delivers
pub next_message-new : next_message (new_world 0 1 1) ≡ None
next_message-new = refl

-- the attempt of a client that was not added is passed over: it goes on waiting
pub attempt_on-stranger : (attempt_on (new_world 0 1 1) (new_session 1) (Gave None)).answer ≡ Ok attempts.Waiting
attempt_on-stranger = refl
