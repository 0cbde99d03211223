-- How many bytes an event brings to the logs of a lane from elsewhere: items that a target pulled, and copies of what a rebuild read.
use Rattle.std.specs.Prelude.{ℕ, ◌+◌, ◌*◌, ◌^◌, length, Option, None, Some}
use Rattle.std.specs.List.{sum_by}
use Rattle.rk_types.specs.NumberMap.{get}
use Rattle.rk_types.specs.declared.node.Node.{Node}
use Rattle.rk_types.specs.declared.node.Node.TheVariants as nodes
use Rattle.rk_entry.specs.Entries.{spelled_all}
use Rattle.rk_message.specs.declared.message.Body.{Body}
use Rattle.rk_message.specs.declared.message.Body.TheVariants as bodies
use Rattle.rk_message.specs.declared.message.Message.{Message}
use Rattle.rk_world.specs.declared.event.Event.{Event}
use Rattle.rk_world.specs.declared.event.Event.TheVariants as events
use Rattle.rk_world.specs.Gather.{Gather, counted, gathering}
use Rattle.rk_world.specs.Master.{Master, tablet_at}
use Rattle.rk_world.specs.World.{World, bytes_of_logs, master_at}

-- if an event brings no more bytes than this, the logs of a lane that is not worn fit after it
abbrev pub MOST_BROUGHT : ℕ
MOST_BROUGHT = 2 ^ 27

-- an entry that a master leaves of its own is no longer than this
abbrev pub LONGEST_LEFT : ℕ
LONGEST_LEFT = 2 ^ 20

-- how many bytes a rebuild copies at most: those of what it read and counts, once for each member of the lineage
abbrev pub copied_bytes : Gather → ℕ
copied_bytes gather = sum_by (λ member. length (spelled_all (counted gather))) gather.lineage

-- how many bytes a message brings to a master: the items that come with it, or what a rebuild read once it has this segment
abbrev pub brought_by : Master → Body → ℕ
brought_by master (bodies.Pulled pulled) = length (spelled_all pulled.entries)
brought_by master (bodies.Got message) = length (spelled_all message.entries)
brought_by master (bodies.Copy copy) =
    copied_bytes (gathering (tablet_at master copy.tenure.tablet).gather copy.master copy.segment copy.bytes)
brought_by master body = 0

-- how many bytes a message brings to its receiver
abbrev pub brought_to : World → Node → Body → ℕ
brought_to w (nodes.Master master) body = brought_by (master_at w master) body
brought_to w to body = 0

-- how many bytes a message brings, if there is one
abbrev pub brought_in : World → Option Message → ℕ
brought_in w None = 0
brought_in w (Some message) = brought_to w message.to message.body

-- how many bytes an event brings
abbrev pub brought : World → Event → ℕ
brought w (events.Deliver number) = brought_in w (get w.wire.messages number)
brought w event = 0

-- how many bytes the logs of a lane have at most after an event: three times those before it, an entry, and what the event brings
abbrev pub most_after : World → Event → ℕ
most_after w event = 3 * bytes_of_logs w + LONGEST_LEFT + brought w event
