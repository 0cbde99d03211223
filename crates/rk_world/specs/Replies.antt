-- A reply to a call that was carried out gives stamp and place of its record. `served` has the calls that were served in the same
-- step.
use Rattle.std.specs.Prelude.{ℕ, ◌-◌, List, length, position, slice_get, Option, Some, None, Bool, ◌==◌, ◌&&◌, not, if◌then◌else◌}
use Rattle.std.specs.List.{list_any}
use Rattle.rk_types.specs.declared.call.Answer.{Answer}
use Rattle.rk_types.specs.declared.call.Answer.TheVariants as answers
use Rattle.rk_types.specs.declared.history.Placed.{Placed}
use Rattle.rk_types.specs.declared.node.Node.{Node}
use Rattle.rk_types.specs.declared.node.Node.TheVariants as nodes
use Rattle.rk_model.specs.Merged.{is_mutation}
use Rattle.rk_message.specs.declared.calls.Reply.{Reply}
use Rattle.rk_message.specs.declared.message.Body.{Body}
use Rattle.rk_message.specs.declared.message.Body.TheVariants as bodies
use Rattle.rk_message.specs.declared.message.Message.{Message}
use Rattle.rk_world.specs.declared.work.Served.{Served}
use Rattle.rk_world.specs.Journal.{is_of_mutation}

-- whether a read of a client with a seq is among these calls
abbrev pub was_read : List Served → ℕ → ℕ → Bool
was_read served client seq =
    list_any (λ one. not (is_mutation one.call.op) && (one.call.client == client) && (one.call.seq == seq)) served

-- the place of the record of a client's call with a seq: of a read that was served just now the last one, else that of the
-- mutation, if it has one
abbrev pub place_of : List Placed → List Served → ℕ → ℕ → Option ℕ
place_of journal served client seq =
    if was_read served client seq then Some (length journal - 1) else position (is_of_mutation client seq) journal

-- a reply with stamp and place of a record, if there is one at the place
abbrev pub reply_with : Reply → ℕ → Option Placed → Reply
reply_with reply place None = reply
reply_with reply place (Some placed) = record reply { stamp = placed.stamp; place = place }

-- a reply with stamp and place of the record at a place, if the call has one
abbrev pub reply_at : List Placed → Reply → Option ℕ → Reply
reply_at journal reply None = reply
reply_at journal reply (Some place) = reply_with reply place (slice_get journal place)

-- a reply to a client with stamp and place filled in, if the call was carried out
abbrev pub filled_reply : List Placed → List Served → ℕ → Reply → Answer → Reply
filled_reply journal served client reply (answers.Done outcome) =
    reply_at journal reply (place_of journal served client reply.seq)
filled_reply journal served client reply (answers.Moved tablet) = reply
filled_reply journal served client reply (answers.NotYet key) = reply

-- a body to a node with stamp and place filled in
abbrev pub filled_body : List Placed → List Served → Node → Body → Body
filled_body journal served (nodes.Client client) (bodies.Reply reply) =
    bodies.Reply (filled_reply journal served client reply reply.answer)
filled_body journal served to body = body

-- a message with stamp and place filled in
abbrev pub filled : List Placed → List Served → Message → Message
filled journal served message = record message { body = filled_body journal served message.to message.body }
