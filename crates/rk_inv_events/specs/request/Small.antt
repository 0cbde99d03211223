-- A Request that a client sent to a master, and what the master chooses to do with it.
use Rattle.std.specs.Prelude.{ℕ}
use Rattle.rk_types.specs.declared.node.Node.TheVariants as nodes
use Rattle.rk_message.specs.declared.calls.Request.{Request}
use Rattle.rk_message.specs.declared.message.Body.TheVariants as bodies
use Rattle.rk_message.specs.declared.message.Message.{Message}
use Rattle.rk_world.specs.declared.choice.Choice.{Choice}
use Rattle.rk_world.specs.Requests.{call_of, choice_of}
use Rattle.rk_world.specs.World.{World, master_at}

-- a Request that a client sent to a master
abbrev pub request_message : ℕ → ℕ → Request → Message
request_message client master request =
    record { from = nodes.Client client; to = nodes.Master master; body = bodies.Request request }

-- what a master chooses to do with the Request of a client
abbrev pub choice_in : World → ℕ → ℕ → Request → Choice
choice_in w master client request = choice_of (master_at w master) (call_of client request)
