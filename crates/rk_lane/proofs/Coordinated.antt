-- What the coordinator of a lane makes of a message and of its turn.
use Rattle.rk_lane.proofs.Words.{◌≡◌, ◌≤◌, ◌<◌, ℕ, max, List, [], length, All, Option, Some, None, refl, sym, ap, subst, ◌∙◌, arith, EachIn}
use Rattle.rk_lane.proofs.Words.{NumberMap, get, HasRoomIn, MOST_BYTES, Node, Segments, Message, Called, Gave}
use Rattle.rk_lane.proofs.Words.{Coordinator, coordinator_step, last_stamp, Ledger, seen_of, fault_of, Stepped, delivered, delivered_to}
use Rattle.rk_lane.proofs.Words.{happened, with_sends, World, bytes_of_logs, greatest, StepError, Event, Seen, All-map, All-weaker}
use Rattle.rk_lane.proofs.Words.{below_greatest, greatest_within, all_before, KeepsTo, keeps_to_more, keeps_to_top, IsCoordinated, terms_of}
use Rattle.rk_lane.proofs.Words.{IsCutBack, IsFinished, IsFault, IsMade, IsReady, masters_from, world_of, Parts, IsFitToSend}
use Rattle.rk_types.specs.declared.node.Node.TheVariants as nodes
use Rattle.rk_world.specs.Refusals.{delivery_fault}
use Rattle.rk_world.specs.declared.event.Event.TheVariants as events
use Rattle.rk_inv_wellformed.proofs.lanes.Ledgers.{clients_rebuilt}
use Rattle.rk_lane.proofs.AtEnd.{IsReached, sends_made}
use Rattle.rk_lane.proofs.Journals.{cut_to, grown_by_none, grown_by_rebuilt}
use Rattle.rk_lane.proofs.Keeping.{Fits, formed_after, kept_still}
use Rattle.rk_lane.proofs.Refusing.{refused_fresh}
use Rattle.rk_lane.proofs.Sendable.{fit_to_send}

-- ---- a message that is delivered

-- what its receiver makes of a message that is there
pub delivered_is : (w : World) (number : ℕ) (message : Message) (to : Node) (called : Called) → get w.wire.messages number ≡ Some message → message.to ≡ to
    → happened w (events.Deliver number) called ≡ delivered_to w message to called
delivered_is w number message to called there is =
    ap (λ (found : Option Message). delivered w found called) there ∙ ap (λ (node : Node). delivered_to w message node called) is

-- it is not refused, unless it is for a client
pub delivery_allowed : (number : ℕ) (found : Option Message) (message : Message) (to : Node) → found ≡ Some message → message.to ≡ to
    → delivery_fault number (Some (record message { to = to })) ≡ None → delivery_fault number found ≡ None
delivery_allowed number found message to there is none =
    ap (delivery_fault number) (there ∙ ap (λ (node : Node). Some (record message { to = node })) is) ∙ none

-- ---- events that send and leave masters and crashes as they were

-- the parts before messages were sent, and after it
pub kept_of_sending : (old parts new : Parts) (event : Event) (sends : List Message) (seen : Seen) → IsReady old event → fault_of (world_of old []) event ≡ None
    → parts.masters ≡ old.masters → parts.crashed ≡ old.crashed → parts.log_bytes ≡ old.log_bytes → parts.number ≡ old.number → parts.backups ≡ old.backups
    → IsFinished parts sends new seen
    → ((stored : NumberMap Segments) → happened (world_of old stored) event (Gave None) ≡ record { world = world_of new stored; seen = seen })
    → IsMade old event (Gave None) new seen
kept_of_sending old parts new event sends seen ready none masters crashed bytes number backups finished made =
    let masters_are = ap (λ (p : Parts). p.masters) finished.parts ∙ masters in
    record {
      allowed = none;
      made = made;
      kept =
          kept_still old new event (Gave None) seen ready.kept ready.may tt (refused_fresh (world_of old []) event ready.fresh ∙ none) (made [])
          masters_are (ap (λ (p : Parts). p.crashed) finished.parts ∙ crashed) (ap (λ (p : Parts). p.log_bytes) finished.parts ∙ bytes);
      lane = record {
        number = ap (λ (p : Parts). p.number) finished.parts ∙ number;
        backups = ap (λ (p : Parts). p.backups) finished.parts ∙ backups;
        masters = ap (λ masters. length masters.items) masters_are;
      };
    }

-- logs fit if others do that are the same
fits_same : (w after : World) → w.masters ≡ after.masters → Fits w → Fits after
fits_same w after same fits = record {
  bytes = subst (λ masters. bytes_of_logs (record after { masters = masters }) < MOST_BYTES) same fits.bytes;
  masters = subst (EachIn (λ number master. HasRoomIn master)) same fits.masters;
}

-- the world after an event that leaves masters as they were is well formed with room
pub formed_sending : (old : Parts) (event : Event) (w : World) (sends : List Message) → IsReady old event → fault_of (world_of old []) event ≡ None
    → happened (world_of old []) event (Gave None) ≡ with_sends w sends → w.masters ≡ masters_from 1 old.masters.items → IsFitToSend w.wire sends
formed_sending old event w sends ready none is masters =
    fit_to_send w sends
    (formed_after (world_of old []) (with_sends w sends).world event (Gave None) ready.may tt (refused_fresh (world_of old []) event ready.fresh ∙ none)
    ready.kept.formed (ap (λ (stepped : Stepped). stepped.world) is)
    (fits_same (world_of old []) (with_sends w sends).world (sym masters)
    (record { bytes = ready.kept.formed.room.bytes; masters = ready.kept.formed.room.masters })))

-- ---- events that only send

module _ (old : Parts) (event : Event) (sends : List Message) (ready : IsReady old event) (none : fault_of (world_of old []) event ≡ None)
    (is : (stored : NumberMap Segments) → happened (world_of old stored) event (Gave None) ≡ with_sends (world_of old stored) sends) where
  -- what is sent fits the wire
  pub fits_by_sending : IsFitToSend old.wire sends
  fits_by_sending = formed_sending old event (world_of old []) sends ready none (is []) refl

  -- the event is made once it is sent
  pub made_by_sending : (new : Parts) (seen : Seen) → IsFinished old sends new seen → IsMade old event (Gave None) new seen
  made_by_sending new seen finished =
      kept_of_sending old old new event sends seen ready none refl refl refl refl refl finished
      (λ stored. is stored
      ∙ sends_made old new old.top sends seen finished (keeps_to_top (world_of old []) ready.kept.formed.formed) (omega arith) (λ limit low within. low) stored)

  pub faulty_by_sending : (new : Parts) (error : StepError) → IsCutBack old (length old.ledger.journal) new error → IsFault old event new error
  faulty_by_sending new error cut = grind (arith, grown_by_none, cut_to)

-- ---- the coordinator takes a message

module _ (old : Parts) (number : ℕ) (message : Message) (ready : IsReady old (events.Deliver number)) (there : get old.wire.messages number ≡ Some message)
    (to : message.to ≡ nodes.Coordinator) (coordinator : Coordinator) (ledger : Ledger) (sends : List Message)
    (handled : IsCoordinated old.coordinator old.ledger message coordinator ledger sends) where
  -- the parts before messages are sent
  abbrev pub parts_told : Parts
  parts_told = record old {
    coordinator = coordinator;
    ledger = ledger;
    top = max (max old.top (last_stamp ledger.journal)) (greatest (terms_of coordinator.rows));
  }

  told_allowed : fault_of (world_of old []) (events.Deliver number) ≡ None
  told_allowed = delivery_allowed number (get old.wire.messages number) message nodes.Coordinator there to refl

  -- the world then, with the greatest number as it was
  told_world : NumberMap Segments → World
  told_world stored = record (world_of parts_told stored) { top = old.top }

  told_happened : (stored : NumberMap Segments) → happened (world_of old stored) (events.Deliver number) (Gave None) ≡ with_sends (told_world stored) sends
  unfolding told_world
  told_happened stored =
      delivered_is (world_of old stored) number message nodes.Coordinator (Gave None) there to
      ∙ (λ i. with_sends (record (world_of old stored) { coordinator = sym handled.coordinator_is i; ledger = sym handled.ledger_is i }) (sym handled.sends_are i))

  -- what is sent fits the wire
  pub told_fits : IsFitToSend old.wire sends
  unfolding told_world
  told_fits = formed_sending old (events.Deliver number) (told_world []) sends ready told_allowed (told_happened []) refl

  told_clients : ledger.clients ≡ old.ledger.clients
  told_clients = grind (arith, clients_rebuilt, coordinator_step)

  below : (n stamp term top : ℕ) → n ≤ term → n ≤ max (max top stamp) term
  below n stamp term top low = omega arith

  told_keeps : KeepsTo parts_told.top (world_of parts_told [])
  told_keeps =
      let more = keeps_to_more old.top parts_told.top (world_of old []) (omega arith) (keeps_to_top (world_of old []) ready.kept.formed.formed) in
      record {
        top = omega arith;
        sent = more.sent;
        stamp = omega arith;
        seen = subst (λ clients. All (λ entry. seen_of entry.1 ≤ parts_told.top) clients) (sym told_clients) more.seen;
        terms =
            all_before (λ (n : ℕ). n ≤ parts_told.top) (λ row. row.term) coordinator.rows
            (All-weaker (λ n. n ≤ greatest (terms_of coordinator.rows)) (λ n. n ≤ parts_told.top)
            (λ n low. below n (last_stamp ledger.journal) (greatest (terms_of coordinator.rows)) old.top low)
            (terms_of coordinator.rows) (below_greatest (terms_of coordinator.rows)));
        counters = more.counters;
      }

  told_reached : IsReached old.top parts_told
  told_reached limit low within =
      let stamp = within.stamp in
      let terms = greatest_within limit (terms_of coordinator.rows) (All-map (λ (n : ℕ). n ≤ limit) (λ row. row.term) coordinator.rows within.terms) in
      omega arith

  -- the event is made once they are sent
  pub told_made : (new : Parts) (seen : Seen) → IsFinished parts_told sends new seen → IsMade old (events.Deliver number) (Gave None) new seen
  unfolding told_world
  told_made new seen finished =
      kept_of_sending old parts_told new (events.Deliver number) sends seen ready told_allowed refl refl refl refl refl finished
      (λ stored. told_happened stored
      ∙ sends_made parts_told new old.top sends seen finished told_keeps (omega arith) told_reached stored)

  pub told_faulty : (new : Parts) (error : StepError) → IsCutBack parts_told (length old.ledger.journal) new error → IsFault old (events.Deliver number) new error
  told_faulty new error cut = grind (arith, grown_by_rebuilt, coordinator_step, cut_to)
