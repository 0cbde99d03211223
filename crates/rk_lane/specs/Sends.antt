-- Messages that a lane in code has sent.
use Rattle.std.specs.Prelude.{◌≡◌, ◌≤◌, ◌<◌, ◌+◌, ◌^◌, List, All, fold, length, max}
use Rattle.rk_message.specs.Fields.{IsLawfulNode}
use Rattle.rk_message.specs.Frames.{IsLawfulBody}
use Rattle.rk_message.specs.Wire.{Traffic, with_message}
use Rattle.rk_message.specs.declared.message.Message.{Message}
use Rattle.rk_world.specs.Step.{first_number}
use Rattle.rk_lane.specs.declared.sends.Sent.{Sent}

-- these messages were sent, one after the other: the wire has them, and this states the number of the first one, how many there are, and a
-- number up to which numbers were given
pub record IsSent (old : Traffic) (sends : List Message) (new : Traffic) (sent : Sent) : Type 0 where
  pub wire : new ≡ fold (λ wire message. with_message message wire) old sends
  pub first : sent.first ≡ first_number old sends
  pub count : sent.count ≡ length sends
  pub reached : new.sent ≤ max old.sent sent.last
  pub given : sent.last ≤ new.sent

-- a message between nodes that there may be, with lawful fields
pub record IsSendable (message : Message) : Type 0 where
  pub from : IsLawfulNode message.from
  pub to : IsLawfulNode message.to
  pub body : IsLawfulBody message.body

-- messages that a wire takes
pub record IsFitToSend (wire : Traffic) (sends : List Message) : Type 0 where
  pub lawful : All IsSendable sends
  pub room : wire.sent + length sends < 2 ^ 60
