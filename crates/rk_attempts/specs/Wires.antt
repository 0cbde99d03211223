-- Which messages of a wire clients, turns and replays take.
use Rattle.std.specs.Prelude.{ℕ, ◌&&◌, Bool, false, true, not, List, filter, Option, None, Some}
use Rattle.rk_types.specs.NumberMap.{NumberMap, get, numbers}
use Rattle.rk_types.specs.declared.node.Node.{Node}
use Rattle.rk_types.specs.declared.node.Node.TheVariants as nodes
use Rattle.rk_message.specs.declared.message.Body.{Body}
use Rattle.rk_message.specs.declared.message.Body.TheVariants as bodies
use Rattle.rk_message.specs.declared.message.Message.{Message}
use Rattle.rk_world.specs.Refusals.{is_for}

-- whether this is so of a message, if it is there
abbrev pub is_there_with : (Message → Bool) → Option Message → Bool
is_there_with test None = false
is_there_with test (Some message) = test message

-- the numbers of the messages of which this is so, oldest first
abbrev pub numbers_with : (Message → Bool) → NumberMap Message → List ℕ
numbers_with test messages = filter (λ number. is_there_with test (get messages number)) (numbers messages)

-- whether a message is for this client
abbrev pub is_to_client : ℕ → Message → Bool
is_to_client client message = is_for client message.to

-- whether a node is a client
abbrev pub is_any_client : Node → Bool
is_any_client (nodes.Client client) = true
is_any_client node = false

-- whether a message may be replayed: it is for a node that does not take it itself
abbrev pub is_for_node : Message → Bool
is_for_node message = not (is_any_client message.to)

-- whether what a message says is pulled records
abbrev pub is_pulled : Body → Bool
is_pulled (bodies.Pulled pulled) = true
is_pulled body = false

-- whether a message has pulled records, whoever it is for
abbrev pub has_records : Message → Bool
has_records message = is_pulled message.body

-- whether a turn delivers a message: it is for a node, and pulled records are left to replays
abbrev pub is_for_turn : Message → Bool
is_for_turn message = is_for_node message && not (has_records message)
