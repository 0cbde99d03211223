-- Room: how great the numbers of a lane may get. An event is refused if one of them is too great already (`worn`), so long before that
-- no event which is not refused exceeds what is said here.
use Rattle.std.specs.Prelude.{◌≤◌, ◌<◌, ◌^◌, ℕ, All, length}
use Rattle.rk_types.specs.NumberMap.{EachIn}
use Rattle.rk_entry.specs.Spelling.{spelled}
use Rattle.rk_types.specs.declared.held.TheConstants.{SEGMENT_BYTES}
use Rattle.rk_world.specs.Master.{Master}
use Rattle.rk_world.specs.World.{World, bytes_of_logs}

-- each number that grows stays below this
abbrev pub MOST_NUMBER : ℕ
MOST_NUMBER = 2 ^ 60

-- the bytes of all logs of a lane stay below this
abbrev pub MOST_BYTES : ℕ
MOST_BYTES = 2 ^ 30

-- a master has fewer records than this
abbrev pub MOST_RECORDS : ℕ
MOST_RECORDS = 2 ^ 30

-- what a master has fits: its records can be counted, and each entry of its log fits a segment
pub record HasRoomIn (master : Master) : Type 0 where
  pub records : length master.records < MOST_RECORDS
  pub fits : All (λ entry. length (spelled entry) ≤ SEGMENT_BYTES) master.log.entries

-- the numbers of a lane fit
pub record HasRoom (w : World) : Type 0 where
  pub number : w.top < MOST_NUMBER
  pub bytes : bytes_of_logs w < MOST_BYTES
  pub masters : EachIn (λ number master. HasRoomIn master) w.masters
