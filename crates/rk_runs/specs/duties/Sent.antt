-- Sent: what was sent stays counted, and on the wire until it is forgotten.
use Rattle.std.specs.Prelude.{◌≤◌, ◌<◌, ◌≢◌, Bool, true, false, None}
use Rattle.rk_message.specs.Wire.{Traffic, number_at}
use Rattle.rk_world.specs.declared.event.Event.{Event}
use Rattle.rk_world.specs.declared.event.Event.TheVariants as events

-- a message is on a wire
abbrev pub HasMessage : Traffic → Type 0
HasMessage wire = number_at 1 wire ≢ None

-- a wire later: no fewer messages were sent on it, and if more were, one is on it
pub record SendsNoFewer (before after : Traffic) : Type 0 where
  pub sent : before.sent ≤ after.sent
  pub there : before.sent < after.sent → HasMessage after

-- whether an event takes a message off the wire
abbrev pub is_forget : Event → Bool
is_forget (events.Forget number) = true
is_forget event = false
