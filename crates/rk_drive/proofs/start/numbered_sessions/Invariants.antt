use Rattle.std.proofs.Common.{◌≡◌, map}
use Rattle.std.specs.List.{range_with_len}
use Rattle.rk_world.specs.Client.{new_session}
use Rattle.rk_drive.proofs.start.numbered_sessions.Given as goal

abbrev pub invariant-loop-index : goal.invariant-loop-index
invariant-loop-index l = l.sessions.items ≡ map new_session (range_with_len 1 l.index)
