-- What a master's work in code leaves beside it.
use Rattle.std.specs.Prelude.{◌≡◌, ◌<◌, ◌+◌, ◌==◌, ◌&&◌, Bool, not, ℕ, List, length, is_some, map, max}
use Rattle.rk_message.specs.declared.message.Message.{Message}
use Rattle.rk_world.specs.Journal.{last_stamp}
use Rattle.rk_world.specs.Ledger.{Ledger, with_all_served, with_marks}
use Rattle.rk_world.specs.Master.{Master, log_bytes}
use Rattle.rk_world.specs.Replies.{filled}
use Rattle.rk_world.specs.Room.{HasRoomIn, MOST_BYTES}
use Rattle.rk_world.specs.World.{counters_of, greatest}
use Rattle.rk_world.specs.declared.error.StepError.{StepError}
use Rattle.rk_world.specs.declared.error.StepError.TheVariants as errors
use Rattle.rk_world.specs.declared.event.Seen.{Seen}
use Rattle.rk_world.specs.declared.work.Mark.{Mark}
use Rattle.rk_world.specs.declared.work.Served.{Served}
use Rattle.rk_master.specs.Parts.{marks_of}
use Rattle.rk_master.specs.declared.work.Worked.{Worked as Work}
use Rattle.rk_lane.specs.Finished.{IsFinished}
use Rattle.rk_lane.specs.Made.{IsSameParts, KeepsLedger}
use Rattle.rk_lane.specs.Masters.{IsAt}
use Rattle.rk_lane.specs.declared.parts.Parts.{Parts}

-- the bytes of all logs, of which a master's had so many before, are counted, and have room with what that master has
pub record IsWeighed (parts : Parts) (number before now : ℕ) : Type 0 where
  pub bytes : (it : Master) → IsAt parts.masters.items number it → now + before ≡ parts.log_bytes + log_bytes it
  pub few : now < MOST_BYTES
  pub room : (it : Master) → IsAt parts.masters.items number it → HasRoomIn it

-- the ledger once calls were served and pieces marked
abbrev pub ledger_noted : Ledger → ℕ → List Served → List Mark → Ledger
ledger_noted ledger seen served marks = with_marks (with_all_served seen ledger served) marks

-- the ledger once a master's work is noted
abbrev pub ledger_worked : Ledger → ℕ → Work → Ledger
ledger_worked ledger seen work = ledger_noted ledger seen work.served.items (marks_of work.marked)

-- what a master's work sends, with the stamps and places of its records
abbrev pub sends_worked : Ledger → ℕ → Work → List Message
sends_worked ledger seen work = map (filled (ledger_worked ledger seen work).journal work.served.items) work.sends.items

-- nothing is sent, no call was served, and nothing is marked
abbrev pub is_nothing : Work → Bool
is_nothing work = (length work.sends.items == 0) && ((length work.served.items == 0) && not (is_some work.marked))

-- the greatest number rose to the last stamp and to the greatest counter of a master
pub record IsRaised (old : Parts) (number : ℕ) (new : Parts) : Type 0 where
  pub counter : ℕ
  pub counter_is : (it : Master) → IsAt old.masters.items number it → counter ≡ greatest (counters_of it)
  pub parts : new ≡ record old { top = max (max old.top (last_stamp old.ledger.journal)) counter }

-- a master's work is noted and sent, and the greatest number rose to the last stamp and to the greatest counter of the master
pub record IsSettled (old : Parts) (number seen : ℕ) (work : Work) (new : Parts) (shown : Seen) : Type 0 where
  pub top : ℕ
  pub top_is : (it : Master) → IsAt old.masters.items number it
      → top ≡ max (max old.top (last_stamp (ledger_worked old.ledger seen work).journal)) (greatest (counters_of it))
  pub finished : IsFinished (record old { ledger = ledger_worked old.ledger seen work; top = top }) (sends_worked old.ledger seen work) new shown

-- there was no memory for it
pub record IsUnsettled (old new : Parts) (error : StepError) : Type 0 where
  pub memory : error ≡ errors.NoMemory
  pub ledger : KeepsLedger old.ledger new.ledger
  pub lane : IsSameParts old new
