-- The items that a master replays when an event happens: those that come with a Pulled or a Got that it takes.
use Rattle.std.specs.Prelude.{◌&&◌, if◌then◌else◌, List, [], Option, None, Some}
use Rattle.rk_types.specs.NumberMap.{get}
use Rattle.rk_types.specs.declared.held.Held.{Held}
use Rattle.rk_types.specs.declared.node.Node.{Node}
use Rattle.rk_types.specs.declared.node.Node.TheVariants as nodes
use Rattle.rk_priority.specs.Hashes.{is_batch}
use Rattle.rk_message.specs.declared.message.Body.{Body}
use Rattle.rk_message.specs.declared.message.Body.TheVariants as bodies
use Rattle.rk_message.specs.declared.message.Message.{Message}
use Rattle.rk_message.specs.declared.pulling.Got.{Got}
use Rattle.rk_message.specs.declared.pulling.Pulled.{Pulled}
use Rattle.rk_world.specs.declared.event.Event.{Event}
use Rattle.rk_world.specs.declared.event.Event.TheVariants as events
use Rattle.rk_world.specs.Ends.{items_of}
use Rattle.rk_world.specs.Master.{Master, tablet_at}
use Rattle.rk_world.specs.Pulls.{is_token}
use Rattle.rk_world.specs.RoleTests.{is_receiving_at}
use Rattle.rk_world.specs.World.{World, has_crashed, master_at}

-- the items of a Pulled, if it is that of the token of a tablet that pulls
abbrev pub pulled_items : Master → Pulled → List Held
pulled_items master pulled =
    let tablet = tablet_at master pulled.tenure.tablet in
    if is_receiving_at tablet pulled.tenure.term && is_token pulled.token tablet.pulling.token then items_of pulled.entries else []

-- the items of a Got, if its hashes are those that a tablet that pulls waits for
abbrev pub got_items : Master → Got → List Held
got_items master message =
    let tablet = tablet_at master message.tenure.tablet in
    if is_receiving_at tablet message.tenure.term && is_batch tablet.pulling.hashes.outstanding message.hashes
    then items_of message.entries else []

-- the items that a master replays of a message
abbrev pub replayed_of : Master → Body → List Held
replayed_of master (bodies.Pulled pulled) = pulled_items master pulled
replayed_of master (bodies.Got message) = got_items master message
replayed_of master body = []

-- the items that its receiver replays; a master that has crashed replays none
abbrev pub replayed_to : World → Node → Body → List Held
replayed_to w (nodes.Master master) body = if has_crashed w master then [] else replayed_of (master_at w master) body
replayed_to w to body = []

-- the items of a message that are replayed, if there is one
abbrev pub replayed_in : World → Option Message → List Held
replayed_in w None = []
replayed_in w (Some message) = replayed_to w message.to message.body

-- the items that are replayed when an event happens
abbrev pub replayed_at : World → Event → List Held
replayed_at w (events.Deliver number) = replayed_in w (get w.wire.messages number)
replayed_at w event = []
