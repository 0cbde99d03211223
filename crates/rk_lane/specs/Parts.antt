-- The parts of a lane in code, without its backups: which world they make, and what is kept of them.
use Rattle.std.specs.Prelude.{◌≡◌, ◌≤◌, ℕ, ◌+◌, List, [], ◌∷◌, length, Option, unwrap_or, vec_capacity, eqb, IsSome, All}
use Rattle.std.specs.List.{IsDistinct}
use Rattle.rk_types.specs.NumberMap.{NumberMap}
use Rattle.rk_outside.specs.Segments.{Segments}
use Rattle.rk_world.specs.Base.{no_base}
use Rattle.rk_world.specs.Master.{Master, new_master}
use Rattle.rk_world.specs.Runs.{IsFormedWithRoom}
use Rattle.rk_world.specs.World.{World, bytes_of_logs}
use Rattle.rk_lane.specs.LaneState.{Running}
use Rattle.rk_lane.specs.Requests.{AreForMasters}
use Rattle.rk_lane.specs.declared.parts.Parts.{Parts}

-- masters under their numbers, which count from this one on
abbrev pub masters_from : ℕ → List (Option Master) → NumberMap Master
masters_from number [] = []
masters_from number (master ∷ later) =
    (number, unwrap_or master (new_master number [])) ∷ masters_from (number + 1) later

-- what runs in a lane with these parts
abbrev pub running_of : Parts → Running
running_of parts = record {
  masters = masters_from 1 parts.masters.items;
  coordinator = parts.coordinator;
  wire = parts.wire;
  crashed = parts.crashed.items;
  top = parts.top;
}

-- the world of a lane with these parts, whose backups store this
abbrev pub world_of : Parts → NumberMap Segments → World
world_of parts backups = record {
  lane = parts.number;
  masters = masters_from 1 parts.masters.items;
  backup_count = parts.backups;
  backups = backups;
  coordinator = parts.coordinator;
  wire = parts.wire;
  ledger = parts.ledger;
  crashed = parts.crashed.items;
  top = parts.top;
  base = no_base;
}

-- what is kept of a lane that is not spent: no master is spent, its world is well formed and has room, the bytes of all logs are
-- counted, there is room for each crash, and requests are for masters; none of it reads what backups store
pub record IsKept (parts : Parts) : Type 0 where
  pub present : All IsSome parts.masters.items
  pub formed : IsFormedWithRoom (world_of parts [])
  pub counted : parts.log_bytes ≡ bytes_of_logs (world_of parts [])
  pub distinct : IsDistinct eqb parts.crashed.items
  pub reserved : length parts.masters.items ≤ vec_capacity parts.crashed
  pub requests : AreForMasters parts.ledger.requests
