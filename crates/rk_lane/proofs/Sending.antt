-- How messages are sent one after the other.
use Rattle.rk_lane.proofs.Words.{◌≡◌, ◌≤◌, ◌<◌, ◌+◌, ◌==◌, ◌^◌, ℕ, suc, if◌then◌else◌, List, [], ◌∷◌, ◌++◌, length, fold, All, sym, ap}
use Rattle.rk_lane.proofs.Words.{subst, ◌∙◌, append_assoc, append-nil, arith, length-append, All-tail, Traffic, with_message, Message}
use Rattle.rk_lane.proofs.Words.{false, max, Option, None, Some, refl, IsSendable, Parts, Seen, Sent}
use Rattle.std.specs.Option.{option_to_list}
use Rattle.rk_lane.specs.Finished.{IsFinished}
use Rattle.std.proofs.lemmas.List.Sums.{fold-append}
use Rattle.std.proofs.lemmas.Bool.Decides.{nat_tests}
use Rattle.rk_world.specs.Step.{first_number}
use Rattle.rk_lane.specs.Sends.{IsSent}

-- of the messages that are to be sent these are left
pub record IsSending (old : Traffic) (sends left : List Message) (wire : Traffic) (sent : Sent) : Type 0 where
  pub done : List Message
  pub parts : done ++ left ≡ sends
  pub is : IsSent old done wire sent
  pub within : sent.count ≤ wire.sent
  pub lawful : All IsSendable left
  pub room : wire.sent + length left < 2 ^ 60

-- none is sent
pub none_sent : (old : Traffic) (sends : List Message) (sent : Sent) → sent ≡ record { first = 0; count = 0; last = 0 } → All IsSendable sends
    → old.sent + length sends < 2 ^ 60 → IsSending old sends sends old sent
none_sent old sends sent is lawful room = grind arith

-- the number of the first message stays, if one was sent
first_stays : (old wire : Traffic) (done : List Message) (message : Message) (count first number : ℕ) → wire ≡ fold (λ now m. with_message m now) old done
    → count ≡ length done → first ≡ first_number old done → number ≡ wire.sent + 1
    → (if count == 0 then number else first) ≡ first_number old (done ++ message ∷ [])
first_stays old wire done message count first number wire_is none is next = grind (arith, nat_tests)

-- one more is sent
pub one_sent : (old : Traffic) (sends left rest : List Message) (message : Message) (wire now : Traffic) (sent more : Sent) (number : ℕ)
    → left ≡ message ∷ rest → number ≡ wire.sent + 1 → now ≡ with_message message wire
    → more ≡ record { first = if sent.count == 0 then number else sent.first; count = sent.count + 1; last = number }
    → IsSending old sends left wire sent → IsSending old sends rest now more
one_sent old sends left rest message wire now sent more number is next sends_it counts before =
    let whole : before.done ++ message ∷ rest ≡ sends = ap (λ (list : List Message). before.done ++ list) (sym is) ∙ before.parts in
    let longer : length left ≡ suc (length rest) = ap (λ (list : List Message). length list) is in
    let reached : now.sent ≡ wire.sent + 1 = ap (λ (w : Traffic). w.sent) sends_it in
    let count : more.count ≡ sent.count + 1 = ap (λ (s : Sent). s.count) counts in
    let last : more.last ≡ number = ap (λ (s : Sent). s.last) counts in
    let inner = before.is in
    let within = before.within in
    let room = before.room in
    record {
      done = before.done ++ message ∷ [];
      parts = append_assoc before.done (message ∷ []) rest ∙ whole;
      is = record {
        wire = sends_it ∙ ap (with_message message) inner.wire ∙ sym (fold-append (λ w m. with_message m w) old before.done (message ∷ []));
        first = grind (arith, first_stays, before.done, sent.count, sent.first, inner.wire, inner.count, inner.first);
        count = count ∙ ap (λ (n : ℕ). n + 1) inner.count ∙ sym (length-append before.done (message ∷ []));
        reached = omega arith;
        given = omega arith;
      };
      within = omega arith;
      lawful = All-tail IsSendable message rest (subst (All IsSendable) is before.lawful);
      room = omega arith;
    }

-- all are sent
pub all_sent : (old : Traffic) (sends : List Message) (wire : Traffic) (sent : Sent) → IsSending old sends [] wire sent → IsSent old sends wire sent
all_sent old sends wire sent before =
    subst (λ (list : List Message). IsSent old list wire sent) (sym (append-nil before.done) ∙ before.parts) before.is

-- ---- one message, if there is one

-- there is none
pub nothing_sent : (wire : Traffic) (send : Option Message) (sent : Sent) → send ≡ None → sent ≡ record { first = 0; count = 0; last = 0 }
    → IsSent wire (option_to_list send) wire sent
nothing_sent wire send sent none is =
    let last : sent.last ≡ 0 = ap (λ (s : Sent). s.last) is in
    rw (none) (record {
      wire = refl;
      first = ap (λ (s : Sent). s.first) is;
      count = ap (λ (s : Sent). s.count) is;
      reached = omega arith;
      given = omega (arith, last);
    })

-- there is one
pub only_sent : (old : Traffic) (send : Option Message) (message : Message) (now : Traffic) (nothing sent : Sent) (number : ℕ) → send ≡ Some message
    → nothing ≡ record { first = 0; count = 0; last = 0 } → number ≡ old.sent + 1 → now ≡ with_message message old
    → sent ≡ record { first = if nothing.count == 0 then number else nothing.first; count = nothing.count + 1; last = number }
    → All IsSendable (option_to_list send) → old.sent + length (option_to_list send) < 2 ^ 60 → IsSent old (option_to_list send) now sent
only_sent old send message now nothing sent number one none next is counts lawful room =
    let list : option_to_list send ≡ message ∷ [] = ap option_to_list one in
    let first = none_sent old (message ∷ []) nothing none (subst (All IsSendable) list lawful) (subst (λ (sends : List Message). old.sent + length sends < 2 ^ 60) list room) in
    subst (λ (sends : List Message). IsSent old sends now sent) (sym list)
    (all_sent old (message ∷ []) now sent (one_sent old (message ∷ []) (message ∷ []) [] message old now nothing sent number refl next is counts first))

-- ---- the end of an event

-- the greatest number rises to that of the last one
pub closed : (old : Parts) (wire : Traffic) (new : Parts) (sends : List Message) (sent : Sent) (seen : Seen) → new ≡ record old { wire = wire; top = max old.top sent.last }
    → IsSent old.wire sends wire sent → seen ≡ record { first = sent.first; sent = sent.count; lost = false; taken = None } → IsFinished old sends new seen
closed old wire new sends sent seen new_is it seen_is =
    let wire_is : new.wire ≡ wire = ap (λ (p : Parts). p.wire) new_is in
    let top_is : new.top ≡ max old.top sent.last = ap (λ (p : Parts). p.top) new_is in
    let count : new.wire.sent ≡ wire.sent = ap (λ (w : Traffic). w.sent) wire_is in
    record {
      parts = new_is ∙ (λ i. record old { wire = sym wire_is i; top = sym top_is i });
      wire = wire_is ∙ it.wire;
      seen_is = seen_is ∙ (λ i. record { first = it.first i; sent = it.count i; lost = false; taken = None });
      low = omega (arith, top_is);
      reached = omega (arith, top_is, count, it.reached);
      given = omega (arith, top_is, count, it.given);
    }
