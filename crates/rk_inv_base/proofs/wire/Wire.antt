-- The law of the wire: what the invariant says of messages, it says of each alone, as the condition under which one may be sent. So a view
-- stays sound with any wire whose messages might be sent.
use Rattle.rk_inv_base.proofs.Words.{◌≡◌, ℕ, Some, EachIn, NumberMap, get, Message, IsRequest, MaySend, View, SoundView}

-- each message on the wire of a sound view might be sent
pub each_may_be_sent : (v : View) → SoundView v → EachIn (λ number message. MaySend v message) v.wire
each_may_be_sent v sound n m there = record {
  terms = sound.terms.sent n m there;
  logs = sound.logs.sent n m there;
  counters = sound.counters.sent n m there;
  calls = sound.calls.sent n m there;
  cover = (sound.cover.sent n m there, sound.cover.ordered n m there);
  messages = sound.messages.of_rows n m there;
  replies = sound.messages.others n m there;
  asked = sound.asked.sent n m there;
}

-- a view stays sound with another wire, each message of which might be sent, and with others that may be sent again
pub view_with_messages : (v : View) (wire requests : NumberMap Message) → SoundView v → EachIn (λ number message. MaySend v message) wire → EachIn (λ client message. IsRequest v.asked v.journal client message.from message.body) requests → SoundView (record v { wire = wire; requests = requests })
view_with_messages v wire requests sound each again =
    let terms = λ (n : ℕ) (m : Message) (there : get wire n ≡ Some m). (each n m there).terms in
    let logs = λ (n : ℕ) (m : Message) (there : get wire n ≡ Some m). (each n m there).logs in
    let floors = λ (n : ℕ) (m : Message) (there : get wire n ≡ Some m). (each n m there).counters in
    let ends = λ (n : ℕ) (m : Message) (there : get wire n ≡ Some m). (each n m there).calls in
    let known = λ (n : ℕ) (m : Message) (there : get wire n ≡ Some m). (each n m there).cover.0 in
    let ordered = λ (n : ℕ) (m : Message) (there : get wire n ≡ Some m). (each n m there).cover.1 in
    let of_rows = λ (n : ℕ) (m : Message) (there : get wire n ≡ Some m). (each n m there).messages in
    let others = λ (n : ℕ) (m : Message) (there : get wire n ≡ Some m). (each n m there).replies in
    let says = λ (n : ℕ) (m : Message) (there : get wire n ≡ Some m). (each n m there).asked in
    assumption

pub view_with_wire : (v : View) (wire : NumberMap Message) → SoundView v → EachIn (λ number message. MaySend v message) wire → SoundView (record v { wire = wire })
view_with_wire v wire sound each = view_with_messages v wire v.requests sound each sound.asked.again
