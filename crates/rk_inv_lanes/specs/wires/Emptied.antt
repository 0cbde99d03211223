-- How the wire of a lane is emptied, from its oldest message on, and how many deliveries that takes at most.
use Rattle.std.specs.Prelude.{ℕ, ◌+◌, List, fold, length, sum_by, Option, Some, None}
use Rattle.rk_message.specs.Wire.{number_at}
use Rattle.rk_message.specs.declared.message.Body.{Body}
use Rattle.rk_message.specs.declared.message.Body.TheVariants as bodies
use Rattle.rk_world.specs.Backup.{Called, Gave}
use Rattle.rk_world.specs.Calls.{accept}
use Rattle.rk_world.specs.Client.{Session}
use Rattle.rk_world.specs.Runs.{world_stepped, world_visited}
use Rattle.rk_world.specs.Step.{step}
use Rattle.rk_world.specs.World.{World}
use Rattle.rk_world.specs.declared.event.Event.TheVariants as events

-- ---- how the wire is emptied

-- what comes of a message of the wire
pub data Arrival : Type 0 where
  -- it is delivered to its receiver, unless that is refused; `called` gives what the call of a replica comes to, if one is called
  Delivers : (called : Called) → Arrival
  -- the client of a session takes it, unless that is refused
  Accepts : (session : Session) → Arrival
  -- it is lost
  Loses : Arrival

-- the lane once the message of a number has arrived so
abbrev pub arrived : World → ℕ → Arrival → World
arrived w number (Delivers called) = world_stepped w (step w (events.Deliver number) called)
arrived w number (Accepts session) = world_visited w (accept w number session)
arrived w number Loses = w

-- the message of a number is forgotten, if it is there
abbrev pub forgotten : World → ℕ → World
forgotten w number = world_stepped w (step w (events.Forget number) (Gave None))

-- the message of a number is taken off the wire: it arrives, and is forgotten
abbrev pub taken_off : World → ℕ → Arrival → World
taken_off w number arrival = forgotten (arrived w number arrival) number

-- the message of this number, if there is one, is taken off
abbrev pub emptied_by : World → Arrival → Option ℕ → World
emptied_by w arrival None = w
emptied_by w arrival (Some number) = taken_off w number arrival

-- the oldest message is taken off
abbrev pub emptied_once : World → Arrival → World
emptied_once w arrival = emptied_by w arrival (number_at 1 w.wire)

-- and so on, once for each of these
abbrev pub emptied : World → List Arrival → World
emptied w arrivals = fold emptied_once w arrivals

-- ---- how many deliveries that takes

-- how many deliveries a message brings at most: its own, and those of what is sent in answer to it. A Stored may be answered by replies
-- to many clients: those are counted with the calls that wait for them
abbrev pub deliveries_of : Body → ℕ
deliveries_of (bodies.Request request) = 2
deliveries_of (bodies.Lookup lookup) = 2
deliveries_of (bodies.Append append) = 2
deliveries_of (bodies.Prepare prepare) = 2
deliveries_of (bodies.Close tenure) = 2
deliveries_of (bodies.Pull pull) = 2
deliveries_of (bodies.Want want) = 2
deliveries_of (bodies.Read read) = 2
deliveries_of (bodies.Rebuilt rebuilt) = 2
deliveries_of (bodies.Joined tenure) = 3
deliveries_of body = 1

-- how many deliveries are left in a lane at most until its wire is empty: those that the messages on it bring, and one for each call
-- that waits at a master, since its reply may be sent on the way
abbrev pub deliveries_left : World → ℕ
deliveries_left w =
    sum_by (λ entry. deliveries_of entry.1.body) w.wire.messages + sum_by (λ entry. length entry.1.calls) w.masters
