-- A scene for worked examples: the world of a lane and its clients, and what is done with them, act by act.
use Rattle.std.specs.Prelude.{ℕ, List, [], ◌∷◌, fold, map, Option, Some, None, Result, Ok, Err}
use Rattle.rk_types.specs.NumberMap.{NumberMap, get, get_or, insert}
use Rattle.rk_types.specs.declared.call.Op.{Op}
use Rattle.rk_types.specs.declared.call.Outcome.{Outcome}
use Rattle.rk_types.specs.declared.node.Node.{Node}
use Rattle.rk_types.specs.declared.node.Node.TheVariants as nodes
use Rattle.rk_types.specs.declared.range.Range.{Range}
use Rattle.rk_transfer.specs.declared.role.Role.{Role}
use Rattle.rk_tablet_map.specs.declared.phase.Phase.{Phase}
use Rattle.rk_message.specs.declared.message.Message.{Message}
use Rattle.rk_world.specs.declared.error.StepError.{StepError}
use Rattle.rk_world.specs.declared.event.Event.{Event}
use Rattle.rk_world.specs.declared.event.Event.TheVariants as events
use Rattle.rk_world.specs.Master.{tablet_at}
use Rattle.rk_world.specs.Client.{Session, new_session, with_next_call}
use Rattle.rk_world.specs.World.{World, new_world, master_at}
use Rattle.rk_world.specs.Step.{Stepped, step, told_by_replica}
use Rattle.rk_world.specs.Calls.{Visited, ask, accept}

-- the world of a lane, and the session of each client
pub record Scene : Type 0 where
  pub world : World
  pub sessions : NumberMap Session

-- what is done: an event; one whose replica fails after so many bytes; a call that a client asks; a client's turn; a
-- message that a client takes; and a message that is delivered to whoever it is for, and forgotten
pub data Act : Type 0 where
  Does : (event : Event) → Act
  Fails : (event : Event) (count : ℕ) → Act
  Calls : (client : ℕ) (key : List ℕ) (op : Op) → Act
  Asks : (client : ℕ) → Act
  Takes : (client number : ℕ) → Act
  Delivers : (number : ℕ) → Act

-- the session of a client
abbrev pub session_of : Scene → ℕ → Session
session_of scene client = get_or (new_session client) scene.sessions client

-- the scene after an event; an event that is refused changes nothing
abbrev pub stepped_in : Scene → Result Stepped StepError → Scene
stepped_in scene (Ok stepped) = record scene { world = stepped.world }
stepped_in scene (Err error) = scene

-- the scene after a client's turn or answer
abbrev pub visited_in : Scene → ℕ → Result Visited StepError → Scene
visited_in scene client (Ok visited) =
    record { world = visited.world; sessions = insert scene.sessions client visited.session }
visited_in scene client (Err error) = scene

-- an event happens, at replicas that report their segments; `fault` says whether the replica that is called fails
abbrev pub does : Scene → Event → Option ℕ → Scene
does scene event fault = stepped_in scene (step scene.world event (told_by_replica scene.world event fault))

-- a client takes a message
abbrev pub takes : Scene → ℕ → ℕ → Scene
takes scene client number = visited_in scene client (accept scene.world number (session_of scene client))

-- a message is delivered to its receiver, and forgotten
abbrev pub delivers : Scene → ℕ → Node → Scene
delivers scene number (nodes.Client client) = does (takes scene client number) (events.Forget number) None
delivers scene number node = does (does scene (events.Deliver number) None) (events.Forget number) None

-- the message of a number is delivered, if it is on the wire
abbrev pub delivers_if : Scene → ℕ → Option Message → Scene
delivers_if scene number None = scene
delivers_if scene number (Some message) = delivers scene number message.to

-- the scene after an act
abbrev pub acted : Scene → Act → Scene
acted scene (Does event) = does scene event None
acted scene (Fails event count) = does scene event (Some count)
acted scene (Calls client key op) =
    record scene { sessions = insert scene.sessions client (with_next_call (session_of scene client) 1 key op) }
acted scene (Asks client) = visited_in scene client (ask scene.world (session_of scene client))
acted scene (Takes client number) = takes scene client number
acted scene (Delivers number) = delivers_if scene number (get scene.world.wire.messages number)

-- the scene after acts, one after the other
abbrev pub played : Scene → List Act → Scene
played scene acts = fold acted scene acts

-- all hashes of table 1
abbrev pub whole : Range
whole = record { table = 1; first = 0; last = 18446744073709551615 }

-- lane 4, where the keys a, i, q and y lie, with so many masters and two backups, and tablet 1 at master 1
abbrev pub start : ℕ → Scene
start masters =
    played (record { world = new_world 4 masters 2; sessions = [] })
    (Does (events.AddTablet 1 whole 1) ∷ Does (events.AddClient 1) ∷ Does (events.AddClient 2) ∷ [])

-- some of these keys, and values of one byte
abbrev pub a : List ℕ
a = 97 ∷ []

abbrev pub i : List ℕ
i = 105 ∷ []

abbrev pub x : List ℕ
x = 120 ∷ []

abbrev pub y : List ℕ
y = 121 ∷ []

-- how the calls of a client were answered
abbrev pub answers_of : Scene → ℕ → List Outcome
answers_of scene client = map (λ receipt. receipt.outcome) (session_of scene client).receipts

-- where the rows are
abbrev pub phases_of : Scene → List Phase
phases_of scene = map (λ row. row.phase) scene.world.coordinator.rows

-- the role of tablet 1 at a master
abbrev pub role_at : Scene → ℕ → Role
role_at scene master = (tablet_at (master_at scene.world master) 1).handover.role

-- the outcomes of the journal
abbrev pub recorded_in : Scene → List Outcome
recorded_in scene = map (λ placed. placed.outcome) scene.world.ledger.journal

-- how many first entries of a master are applied
abbrev pub applied_at : Scene → ℕ → ℕ
applied_at scene master = (master_at scene.world master).applied
