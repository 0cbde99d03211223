-- What each call of a user makes: a list of events in lanes and of what sessions do there, one after the other. `fate` is what becomes of
-- the call of a replica, if a message for a backup is delivered.
use Rattle.std.specs.Prelude.{ℕ, ◌+◌, ◌==◌, Bool, true, if◌then◌else◌, List, [], ◌∷◌, ◌++◌, length, map, Option, Some, None}
use Rattle.std.specs.List.{flat_map}
use Rattle.rk_types.specs.NumberMap.{get}
use Rattle.rk_types.specs.declared.call.Call.{Call}
use Rattle.rk_types.specs.declared.call.Op.{Op}
use Rattle.rk_types.specs.declared.node.Node.{Node}
use Rattle.rk_types.specs.declared.node.Node.TheVariants as nodes
use Rattle.rk_types.specs.declared.range.Range.{Range}
use Rattle.rk_message.specs.Wire.{number_at}
use Rattle.rk_message.specs.declared.message.Message.{Message}
use Rattle.rk_world.specs.declared.event.Event.{Event}
use Rattle.rk_world.specs.declared.event.Event.TheVariants as events
use Rattle.rk_world.specs.Backup.{Gave}
use Rattle.rk_world.specs.Client.{Session, call_lane}
use Rattle.rk_world.specs.Cluster.{Accepts, Asks, Calls, Cluster, Happens, Joins, Occurrence, lane_at, session_at}
use Rattle.rk_world.specs.World.{live_masters}
use Rattle.rk_cluster.specs.Looks.{all_lanes, is_client, lanes_without, rows_of}
use Rattle.rk_cluster.specs.Replicas.{Fate, happening}

-- an event of a lane that calls no replica
abbrev pub in_lane : ℕ → Event → Occurrence
in_lane lane event = Happens lane event (Gave None)

-- the same event in each of these lanes
abbrev pub in_lanes : List ℕ → Event → List Occurrence
in_lanes lanes event = map (λ lane. in_lane lane event) lanes

-- all hashes of a table
abbrev pub whole_table : ℕ → Range
whole_table table = record { table = table; first = 0; last = 18446744073709551615 }

-- the number of the next tablet
abbrev pub next_tablet : Cluster → ℕ
next_tablet cluster = length (rows_of cluster) + 1

-- a table is made with one tablet
abbrev pub table_makes : Cluster → ℕ → ℕ → List Occurrence
table_makes cluster table master =
    in_lanes (all_lanes cluster) (events.AddTablet (next_tablet cluster) (whole_table table) master)

-- a client gets a session, and may act in each lane
abbrev pub client_makes : Cluster → ℕ → List Occurrence
client_makes cluster client = in_lanes (all_lanes cluster) (events.AddClient client) ++ Joins client ∷ []

-- a client asks its next call; nothing is sent yet
abbrev pub call_makes : ℕ → ℕ → List ℕ → Op → List Occurrence
call_makes client table key op = Calls client table key op ∷ []

-- a tablet begins to move to a master, in each lane where another master owns it
abbrev pub migrate_makes : Cluster → ℕ → ℕ → List Occurrence
migrate_makes cluster tablet to = in_lanes (lanes_without cluster tablet to) (events.Migrate tablet to)

-- a tablet is split
abbrev pub split_makes : Cluster → ℕ → ℕ → List Occurrence
split_makes cluster tablet at = in_lanes (all_lanes cluster) (events.Split tablet at (next_tablet cluster))

-- a master crashes
abbrev pub crash_makes : Cluster → ℕ → List Occurrence
crash_makes cluster master = in_lanes (all_lanes cluster) (events.Crash master)

-- the coordinators learn that a master has crashed
abbrev pub notice_makes : Cluster → ℕ → List Occurrence
notice_makes cluster master = in_lanes (all_lanes cluster) (events.Notice master)

-- whether somebody takes a message for this node: a client without a session takes nothing
abbrev pub has_receiver : Cluster → Node → Bool
has_receiver cluster (nodes.Client client) = is_client cluster client
has_receiver cluster to = true

-- a message reaches its receiver: a client takes it itself
abbrev pub delivery : Cluster → ℕ → ℕ → Fate → Node → Occurrence
delivery cluster lane number fate (nodes.Client client) = Accepts lane number client
delivery cluster lane number fate to = happening cluster lane (events.Deliver number) fate

-- a message, if it is there and somebody takes it, is delivered
abbrev pub delivery_of : Cluster → ℕ → ℕ → Fate → Option Message → List Occurrence
delivery_of cluster lane number fate None = []
delivery_of cluster lane number fate (Some message) =
    if has_receiver cluster message.to then delivery cluster lane number fate message.to ∷ [] else []

-- the message of a number, if it is on a lane's wire, is delivered
abbrev pub deliver_in_makes : Cluster → ℕ → ℕ → Fate → List Occurrence
deliver_in_makes cluster lane number fate =
    delivery_of cluster lane number fate (get (lane_at cluster lane).wire.messages number)

-- the message at a place of a wire, if there is one, is delivered
abbrev pub deliver_by : Cluster → ℕ → Fate → Option ℕ → List Occurrence
deliver_by cluster lane fate None = []
deliver_by cluster lane fate (Some number) = deliver_in_makes cluster lane number fate

-- the message at a place of a lane's wire is delivered; it stays there
abbrev pub deliver_makes : Cluster → ℕ → ℕ → Fate → List Occurrence
deliver_makes cluster lane place fate = deliver_by cluster lane fate (number_at place (lane_at cluster lane).wire)

-- a message, if there is one, is forgotten
abbrev pub forget_by : ℕ → Option ℕ → List Occurrence
forget_by lane None = []
forget_by lane (Some number) = in_lane lane (events.Forget number) ∷ []

-- the message at a place of a lane's wire is forgotten
abbrev pub forget_makes : Cluster → ℕ → ℕ → List Occurrence
forget_makes cluster lane place = forget_by lane (number_at place (lane_at cluster lane).wire)

-- a client asks in a lane, if this is its outstanding call and belongs there
abbrev pub asks_by : ℕ → ℕ → Option Call → List Occurrence
asks_by lane client None = []
asks_by lane client (Some call) = if call_lane call == lane then Asks lane client ∷ [] else []

-- a client asks in a lane, if it has an outstanding call there
abbrev pub asks_in : ℕ → ℕ → Session → List Occurrence
asks_in lane client session = asks_by lane client session.outstanding

-- the nodes of a lane take their turns: clients with an outstanding call there, the coordinator, and the masters that live
abbrev pub turn_makes : Cluster → ℕ → List Occurrence
turn_makes cluster lane =
    flat_map (λ entry. asks_in lane entry.0 entry.1) cluster.sessions
    ++ in_lane lane (events.Turn nodes.Coordinator)
    ∷ map (λ entry. in_lane lane (events.Turn (nodes.Master entry.0))) (live_masters (lane_at cluster lane))

-- a request is sent again in its lane, delivered and forgotten
abbrev pub again_in : Cluster → ℕ → ℕ → List Occurrence
again_in cluster client lane =
    let number = (lane_at cluster lane).wire.sent + 1 in
    in_lane lane (events.Again client) ∷ in_lane lane (events.Deliver number) ∷ in_lane lane (events.Forget number) ∷ []

-- the last request of a client is sent again in the lane that it was sent in, if there was one
abbrev pub again_by : Cluster → ℕ → Option ℕ → List Occurrence
again_by cluster client None = []
again_by cluster client (Some lane) = again_in cluster client lane

-- a client sends its last request again
abbrev pub again_makes : Cluster → ℕ → List Occurrence
again_makes cluster client = again_by cluster client (session_at cluster client).sent_in
