-- An exchange: something occurs in a lane, and of what is sent from then on the messages on a topic are delivered, each at once and in
-- the order sent, and with them what comes as answers to these. Each is forgotten once it is delivered; what is not on the topic is
-- forgotten at once.
use Rattle.std.specs.Prelude.{ℕ, ◌+◌, ◌-◌, Bool, false, not, is_some, List, [], ◌∷◌, ◌++◌, filter, find, map, Option, Some, None}
use Rattle.std.specs.List.{range_with_len}
use Rattle.rk_types.specs.NumberMap.{get}
use Rattle.rk_message.specs.Wire.{Traffic}
use Rattle.rk_message.specs.declared.message.Message.{Message}
use Rattle.rk_settle.specs.declared.task.Act.{Act}
use Rattle.rk_settle.specs.declared.task.Task.{Task}
use Rattle.rk_settle.specs.declared.task.Task.TheVariants as tasks
use Rattle.rk_settle.specs.declared.topic.Topic.{Topic}
use Rattle.rk_settle.specs.Tasks.{forgets}
use Rattle.rk_settle.specs.Topics.{is_on}

-- the numbers of the messages that were sent after this one, oldest first
abbrev pub sent_after : Traffic → ℕ → List ℕ
sent_after wire last = range_with_len (last + 1) (wire.sent - last)

-- whether a message, if it is there, is off a topic
abbrev pub is_message_off : Topic → Option Message → Bool
is_message_off topic None = false
is_message_off topic (Some message) = not (is_on topic message.body)

-- whether the message of a number, if it is on the wire, is off a topic
abbrev pub is_number_off : Traffic → Topic → ℕ → Bool
is_number_off wire topic number = is_message_off topic (get wire.messages number)

-- whether the message of a number is on the wire
abbrev pub is_there : Traffic → ℕ → Bool
is_there wire number = is_some (get wire.messages number)

-- the oldest message on the wire that was sent after this number, if there is one
abbrev pub oldest_after : Traffic → ℕ → Option ℕ
oldest_after wire from = find (is_there wire) (sent_after wire from)

-- an exchange begins: what is sent from now on is sorted
abbrev pub exchange_tasks : Traffic → ℕ → Topic → Act → List Task
exchange_tasks wire lane topic act = tasks.Occurs lane act ∷ tasks.Sorts lane topic wire.sent wire.sent ∷ []

-- what was sent after `last` and is not on the topic is forgotten
abbrev pub sort_tasks : Traffic → ℕ → Topic → ℕ → ℕ → List Task
sort_tasks wire lane topic from last =
    map (forgets lane) (filter (is_number_off wire topic) (sent_after wire last)) ++ tasks.Hands lane topic from ∷ []

-- a message, if there is one, is delivered and forgotten, what it makes its receiver send is sorted, and what is behind it follows
abbrev pub hand_by : Traffic → ℕ → Topic → Option ℕ → List Task
hand_by wire lane topic None = []
hand_by wire lane topic (Some number) =
    tasks.Delivers lane number ∷ forgets lane number ∷ tasks.Sorts lane topic number wire.sent ∷ []

-- the oldest message after a number is delivered
abbrev pub hand_tasks : Traffic → ℕ → Topic → ℕ → List Task
hand_tasks wire lane topic from = hand_by wire lane topic (oldest_after wire from)
