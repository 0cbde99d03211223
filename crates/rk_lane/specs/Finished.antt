-- Parts of a lane at the end of an event: what was sent is on the wire.
use Rattle.std.specs.Prelude.{◌≡◌, ◌≤◌, ℕ, false, List, fold, length, max, None, take}
use Rattle.rk_ledger.specs.Growing.{with_journal}
use Rattle.rk_message.specs.Wire.{with_message}
use Rattle.rk_message.specs.declared.message.Message.{Message}
use Rattle.rk_world.specs.Step.{first_number}
use Rattle.rk_world.specs.declared.error.StepError.{StepError}
use Rattle.rk_world.specs.declared.error.StepError.TheVariants as errors
use Rattle.rk_world.specs.declared.event.Seen.{Seen}
use Rattle.rk_lane.specs.declared.parts.Parts.{Parts}

-- these messages were sent, and the greatest number rose to that of the last one
pub record IsFinished (old : Parts) (sends : List Message) (new : Parts) (seen : Seen) : Type 0 where
  pub parts : new ≡ record old { wire = new.wire; top = new.top }
  pub wire : new.wire ≡ fold (λ wire message. with_message message wire) old.wire sends
  pub seen_is : seen ≡ record { first = first_number old.wire sends; sent = length sends; lost = false; taken = None }
  pub low : old.top ≤ new.top
  pub reached : new.wire.sent ≤ max old.wire.sent new.top
  pub given : new.top ≤ max old.top new.wire.sent

-- there was no memory for what is sent: the records of the journal from a place on are taken away
pub record IsCutBack (old : Parts) (length : ℕ) (new : Parts) (error : StepError) : Type 0 where
  pub parts : new ≡ record old { wire = new.wire; ledger = with_journal old.ledger (take length old.ledger.journal) }
  pub memory : error ≡ errors.NoMemory
