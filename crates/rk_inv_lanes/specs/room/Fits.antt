-- Each entry of a log fits a segment: also the entry that names the side segments of a target, since these are few.
use Rattle.std.specs.Prelude.{ℕ, ◌≤◌, All, length}
use Rattle.rk_types.specs.NumberMap.{EachIn}
use Rattle.rk_types.specs.declared.held.TheConstants.{SEGMENT_BYTES}
use Rattle.rk_entry.specs.Spelling.{spelled}
use Rattle.rk_world.specs.Master.{Master}
use Rattle.rk_world.specs.World.{World, master_at}

-- a target seals no more side segments than this
abbrev pub MOST_SEALED : ℕ
MOST_SEALED = 16388

-- each entry of a master's log fits a segment, and each of its tablets has sealed few side segments
pub record IsFitting (master : Master) : Type 0 where
  pub entries : All (λ entry. length (spelled entry) ≤ SEGMENT_BYTES) master.log.entries
  pub sealed : EachIn (λ number tablet. length tablet.pulling.sealed ≤ MOST_SEALED) master.tablets

-- so does each master of a lane, crashed ones too
abbrev pub AllFit : World → Type 0
AllFit w = (master : ℕ) → IsFitting (master_at w master)
