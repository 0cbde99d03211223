-- What lies on a wire beyond a number: nothing that is on a topic, or one message alone. And what an arrival leaves of what lay there.
use Rattle.std.proofs.Common.{◌≡◌, ◌<◌, ◌≤◌, ◌+◌, ℕ, true, false, List, [], ◌∷◌, ◌++◌, eqb, fold, All, None, Some, refl, sym, ◌∙◌, arith}
use Rattle.std.proofs.Common.{ne_eqb}
use Rattle.rk_scripts.proofs.Words.{cases_eq, cond-false, false≢true, All-head, All-tail, get_other, get_same, get, HasSentNumbers, Traffic}
use Rattle.rk_scripts.proofs.Words.{with_message, without_message, Message, Called, world_stepped, step, stepped_by, World, with_top}
use Rattle.rk_scripts.proofs.Words.{with_wire, is_on, Arrival, arrived, forgotten, Event}
use Rattle.rk_types.proofs.NumberMaps.{get_remove, get_removed, remove_less}
use Rattle.rk_scripts.proofs.settle.ExchangeTasks.{Topic}
use Rattle.rk_inv_lanes.proofs.lanes.Visits.{accept_covered}

-- ---- beyond a number

module _ (topic : Topic) where
  -- nothing beyond a number is on the topic
  abbrev pub OnlyOff : ℕ → Traffic → Type 0
  OnlyOff from wire = (n : ℕ) (message : Message) → from < n → get wire.messages n ≡ Some message → is_on topic message.body ≡ false

  -- what is on it, beyond a number, has this one
  abbrev pub OnlyAt : ℕ → ℕ → Traffic → Type 0
  OnlyAt from number wire = (n : ℕ) (message : Message) → from < n → get wire.messages n ≡ Some message → is_on topic message.body ≡ true → n ≡ number

  -- a message is the only one on the topic beyond a number
  pub record IsPending (from : ℕ) (ours : Message) (wire : Traffic) : Type 0 where
    pub number : ℕ
    pub after : from < number
    pub within : number ≤ wire.sent
    pub found : get wire.messages number ≡ Some ours
    pub only : OnlyAt from number wire

  pub nothing_after : (wire : Traffic) → HasSentNumbers wire → OnlyOff wire.sent wire
  nothing_after wire sent n message after found = absurd (omega (arith, (sent n message found).1, after))

  -- one more message
  newer : (P : ℕ → Message → Type 0) (wire : Traffic) (message : Message) → P (wire.sent + 1) message
      → ((n : ℕ) (it : Message) → get wire.messages n ≡ Some it → P n it) → (n : ℕ) (it : Message) → get (with_message message wire).messages n ≡ Some it → P n it
  newer P wire message new old n it found = grind (arith, get_same, get_other, cases_eq)

  off_more : (from : ℕ) (wire : Traffic) (message : Message) → is_on topic message.body ≡ false → OnlyOff from wire → OnlyOff from (with_message message wire)
  off_more from wire message is off n it after found =
      newer (λ (k : ℕ) (m : Message). from < k → is_on topic m.body ≡ false) wire message (λ later. is) (λ k m there later. off k m later there) n it found after

  at_new : (from : ℕ) (wire : Traffic) (message : Message) → OnlyOff from wire → OnlyAt from (wire.sent + 1) (with_message message wire)
  at_new from wire message off n it after found on =
      newer (λ (k : ℕ) (m : Message). from < k → is_on topic m.body ≡ true → k ≡ wire.sent + 1) wire message (λ later is. refl)
      (λ k m there later is. absurd (false≢true (sym (off k m later there) ∙ is))) n it found after on

  at_more : (from number : ℕ) (wire : Traffic) (message : Message) → is_on topic message.body ≡ false → OnlyAt from number wire → OnlyAt from number (with_message message wire)
  at_more from number wire message is at n it after found on =
      newer (λ (k : ℕ) (m : Message). from < k → is_on topic m.body ≡ true → k ≡ number) wire message
      (λ later on_topic. absurd (false≢true (sym is ∙ on_topic))) (λ k m there later on_topic. at k m later there on_topic) n it found after on

  there_more : (number : ℕ) (wire : Traffic) (message ours : Message) → number ≤ wire.sent → get wire.messages number ≡ Some ours
      → get (with_message message wire).messages number ≡ Some ours
  there_more number wire message ours within found =
      get_other wire.messages (wire.sent + 1) message number (λ is. omega (arith, within, is)) ∙ found

  pending_more : (from : ℕ) (ours : Message) (wire : Traffic) (message : Message) → is_on topic message.body ≡ false → IsPending from ours wire
      → IsPending from ours (with_message message wire)
  pending_more from ours wire message is pending = record {
    number = pending.number;
    after = pending.after;
    within = omega (arith, pending.within);
    found = there_more pending.number wire message ours pending.within pending.found;
    only = at_more from pending.number wire message is pending.only;
  }

  -- messages are sent of which none is on the topic
  abbrev pub AreOff : List Message → Type 0
  AreOff list = All (λ (message : Message). is_on topic message.body ≡ false) list

  pub sent_off : (from : ℕ) (list : List Message) (wire : Traffic) → AreOff list → OnlyOff from wire → OnlyOff from (fold (λ it message. with_message message it) wire list)
  sent_off from [] wire all off = off
  sent_off from (message ∷ list) wire all off =
      sent_off from list (with_message message wire) (All-tail (λ (m : Message). is_on topic m.body ≡ false) message list all)
      (off_more from wire message (All-head (λ (m : Message). is_on topic m.body ≡ false) message list all) off)

  sent_behind : (from : ℕ) (ours : Message) (list : List Message) (wire : Traffic) → AreOff list → IsPending from ours wire
      → IsPending from ours (fold (λ it message. with_message message it) wire list)
  sent_behind from ours [] wire all pending = pending
  sent_behind from ours (message ∷ list) wire all pending =
      sent_behind from ours list (with_message message wire) (All-tail (λ (m : Message). is_on topic m.body ≡ false) message list all)
      (pending_more from ours wire message (All-head (λ (m : Message). is_on topic m.body ≡ false) message list all) pending)

  -- one is among them
  pub record HasOne (ours : Message) (list : List Message) : Type 0 where
    pub before : List Message
    pub behind : List Message
    pub is : list ≡ before ++ ours ∷ behind
    pub off_before : AreOff before
    pub off_behind : AreOff behind

  one_sent : (from : ℕ) (ours : Message) (before behind : List Message) (wire : Traffic) → AreOff before → AreOff behind → from ≤ wire.sent → OnlyOff from wire
      → IsPending from ours (fold (λ it message. with_message message it) wire (before ++ ours ∷ behind))
  one_sent from ours [] behind wire all rest within off =
      sent_behind from ours behind (with_message ours wire) rest
      (record {
        number = wire.sent + 1;
        after = omega (arith, within);
        within = omega arith;
        found = get_same wire.messages (wire.sent + 1) ours (wire.sent + 1) refl;
        only = at_new from wire ours off;
      })
  one_sent from ours (message ∷ before) behind wire all rest within off =
      one_sent from ours before behind (with_message message wire) (All-tail (λ (m : Message). is_on topic m.body ≡ false) message before all) rest
      (omega (arith, within))
      (off_more from wire message (All-head (λ (m : Message). is_on topic m.body ≡ false) message before all) off)

  pub sent_pending : (from : ℕ) (ours : Message) (list : List Message) (wire : Traffic) → HasOne ours list → from ≤ wire.sent → OnlyOff from wire
      → IsPending from ours (fold (λ it message. with_message message it) wire list)
  sent_pending from ours list wire has within off = grind (arith, with_message, one_sent)

  -- ---- forgotten

  pub off_without : (from number : ℕ) (wire : Traffic) → OnlyOff from wire → OnlyOff from (without_message number wire)
  off_without from number wire off n message after found = off n message after (remove_less wire.messages number n message found)

  pub pending_without : (from number : ℕ) (ours : Message) (wire : Traffic) (pending : IsPending from ours wire) → (pending.number ≡ number → ⊥)
      → IsPending from ours (without_message number wire)
  pending_without from number ours wire pending apart = grind (arith, remove_less, get_remove, cond-false, eqb, ne_eqb)

-- ---- an event that forgets

pub forgotten_cases : (P : World → Type 0) (w : World) (number : ℕ) → P w → P (with_top (with_wire w (without_message number w.wire))) → P (forgotten w number)
forgotten_cases P w number same without = grind (arith, world_stepped, stepped_by)

-- no more is there
pub forgotten_less : (w : World) (number n : ℕ) (message : Message) → get (forgotten w number).wire.messages n ≡ Some message → get w.wire.messages n ≡ Some message
forgotten_less w number n message = grind (arith, forgotten_cases, remove_less)

-- and not the message that is forgotten
pub forgotten_gone : (w : World) (number : ℕ) → get (forgotten w number).wire.messages number ≡ None
forgotten_gone w number = grind (arith, world_stepped, stepped_by, get_removed)

-- ---- an arrival leaves what was sent before

-- what lies there under numbers that were sent before is as it was
abbrev KeepsOld : World → World → Type 0
KeepsOld w now = (n : ℕ) → n ≤ w.wire.sent → get now.wire.messages n ≡ get w.wire.messages n

sent_old : (wire : Traffic) (list : List Message) (n : ℕ) → n ≤ wire.sent → get (fold (λ it message. with_message message it) wire list).messages n ≡ get wire.messages n
sent_old wire [] n within = refl
sent_old wire (message ∷ list) n within = sent_old (with_message message wire) list n (omega (arith, within))
    ∙ get_other wire.messages (wire.sent + 1) message n (λ is. omega (arith, within, is))

module _ (w : World) where
  stepped_old : (number : ℕ) (called : Called) → KeepsOld w (world_stepped w (step w (Event.Deliver number) called))
  stepped_old number called =
      grind (arith, sent_old)

  pub arrived_old : (number : ℕ) (arrival : Arrival) → KeepsOld w (arrived w number arrival)
  arrived_old number arrival n within = grind (arith, stepped_old, accept_covered)
