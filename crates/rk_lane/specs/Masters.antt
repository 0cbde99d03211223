-- One master among those of a lane in code.
use Rattle.std.specs.Prelude.{◌≡◌, ◌≤◌, ◌-◌, ℕ, List, All, length, Option, Some, slice_get, slice_set}
use Rattle.rk_types.specs.declared.held.TheConstants.{SEGMENT_BYTES}
use Rattle.rk_entry.specs.Spelling.{spelled}
use Rattle.rk_message.specs.declared.message.Message.{Message}
use Rattle.rk_world.specs.Master.{Master}
use Rattle.rk_world.specs.Worked.{Worked}
use Rattle.rk_master.specs.Parts.{marks_of}
use Rattle.rk_master.specs.Taking.{CanTake}
use Rattle.rk_master.specs.declared.work.Worked.{Worked as Work}

-- this is the master of a number, counted from 1
abbrev pub IsAt : List (Option Master) → ℕ → Master → Type 0
IsAt masters number master = slice_get masters (number - 1) ≡ Some (Some master)

-- the master of a number can take a message
abbrev pub CanTakeThere : Message → List (Option Master) → ℕ → Type 0
CanTakeThere message masters master =
    (it : Master) → IsAt masters master it → CanTake it message

-- each entry of a master's log fits a segment
abbrev pub EachEntryFits : Master → Type 0
EachEntryFits master = All (λ entry. length (spelled entry) ≤ SEGMENT_BYTES) master.log.entries

-- the master of a number has worked so, for a client that has seen this stamp; the others are as they were
pub record IsWorkAt (old : List (Option Master)) (number : ℕ) (worked : Worked) (stamp : ℕ) (new : List (Option Master)) (work : Work) (seen : ℕ) : Type 0 where
  pub masters : new ≡ slice_set old (number - 1) (Some worked.master)
  pub sends : work.sends.items ≡ worked.sends
  pub served : work.served.items ≡ worked.served
  pub marked : marks_of work.marked ≡ worked.marked
  pub seen_is : seen ≡ stamp
