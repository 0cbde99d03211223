-- What a lane that is well formed after an event has sent in it can be put on the wire.
use Rattle.rk_lane.proofs.Words.{◌≡◌, ◌≤◌, ◌+◌, ℕ, List, [], ◌∷◌, fold, All, Some, refl, ◌∙◌, arith, All-cons, All-nil, get_other, get_same}
use Rattle.rk_lane.proofs.Words.{get, MOST_BACKUPS, Traffic, with_message, Message, Limits, limits_of, MOST_MASTERS, IsFormedWithRoom}
use Rattle.rk_lane.proofs.Words.{with_sends, World, keeps_to_top, IsFitToSend, IsSendable}
use Rattle.rk_world.specs.Formed.{IsFormedWire}
use Rattle.rk_world.specs.Limits.{IsFormedMessage}
use Rattle.rk_inv_wellformed.proofs.room.Rises.{sent_all}

sendable : (limits : Limits) (message : Message) → limits.masters ≤ MOST_MASTERS → limits.backups ≤ MOST_BACKUPS → IsFormedMessage limits message → IsSendable message
sendable limits message masters backups formed = grind arith

-- the wire after messages
abbrev wire_after : Traffic → List Message → Traffic
wire_after wire sends = fold (λ now message. with_message message now) wire sends

-- a message that is there stays when others are sent
stays_there : (wire : Traffic) (sends : List Message) (number : ℕ) (message : Message) → number ≤ wire.sent → get wire.messages number ≡ Some message
    → get (wire_after wire sends).messages number ≡ Some message
stays_there wire [] number message old there = there
stays_there wire (first ∷ rest) number message old there =
    stays_there (with_message first wire) rest number message (omega arith)
    (get_other wire.messages (wire.sent + 1) first number (λ (is : number ≡ wire.sent + 1). absurd (omega arith)) ∙ there)

all_sendable : (limits : Limits) (wire : Traffic) (sends : List Message) → limits.masters ≤ MOST_MASTERS → limits.backups ≤ MOST_BACKUPS
    → IsFormedWire limits (wire_after wire sends) → All IsSendable sends
all_sendable limits wire [] masters backups formed = All-nil _
all_sendable limits wire (first ∷ rest) masters backups formed =
    All-cons IsSendable first rest
    (sendable limits first masters backups
    (formed.each (wire.sent + 1) first
    (stays_there (with_message first wire) rest (wire.sent + 1) first (omega arith) (get_same wire.messages (wire.sent + 1) first (wire.sent + 1) refl))))
    (all_sendable limits (with_message first wire) rest masters backups formed)

-- so are those that a lane sent which is well formed with room then
pub fit_to_send : (w : World) (sends : List Message) → IsFormedWithRoom (with_sends w sends).world → IsFitToSend w.wire sends
fit_to_send w sends now =
    let after : World = (with_sends w sends).world in
    let keeps = keeps_to_top after now.formed in
    let sent = keeps.sent in
    let room = now.room.number in
    let count = sent_all w.wire sends in
    record {
      lawful = all_sendable (limits_of after) w.wire sends now.formed.few_masters now.formed.few_backups now.formed.wire;
      room = omega arith;
    }
