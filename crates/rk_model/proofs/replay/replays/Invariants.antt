use Rattle.std.proofs.Common.{take}
use Rattle.rk_model.specs.History.{IsLegal, empty_map, map_after}
use Rattle.rk_model.specs.Standing.{StandsFor}
use Rattle.rk_model.proofs.replay.replays.Given as goal

-- the records so far are legal, and the standings represent the map after them
abbrev pub invariant-loop-place : goal.invariant-loop-place
invariant-loop-place l = record {
  legal : IsLegal empty_map (take l.place l.history);
  standing : StandsFor l.standings (map_after empty_map (take l.place l.history));
}
