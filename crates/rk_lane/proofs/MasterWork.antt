-- A master of a lane has worked.
use Rattle.rk_lane.proofs.Words.{◌≡◌, ◌≤◌, ◌<◌, ◌+◌, ◌-◌, ◌^◌, ℕ, zero, suc, Bool, true, false, cond, max, min, List, [], ◌∷◌, length, map}
use Rattle.rk_lane.proofs.Words.{set, slice_get, All, Option, Some, None, IsSome, refl, sym, ap, subst, ◌∙◌, arith, unwrap_or, IsDistinct}
use Rattle.rk_lane.proofs.Words.{sum_by, length-set, All-head, All-set, All-tail, All-weaker, sum-map, each_insert, EachIn, NumberMap, get}
use Rattle.rk_lane.proofs.Words.{insert, Segments, Message, Gave, last_stamp, seen_of, Master, log_bytes, new_master, IsMaster, fault_of}
use Rattle.rk_lane.proofs.Words.{filled, HasRoomIn, MOST_BYTES, master_step, master_turn, Stepped, happened, losing, seen_in, with_sends}
use Rattle.rk_lane.proofs.Words.{worked_at, Worked, World, bytes_of_logs, counters_of, greatest, has_crashed, master_at, StepError, Event}
use Rattle.rk_lane.proofs.Words.{Seen, limits_of, Work, all_in_map, below_greatest, greatest_within, size_found, sum_inserted}
use Rattle.rk_lane.proofs.Words.{numbered_order, KeepsTo, all_inserted, keeps_to_more, keeps_to_top, IsFinished, IsFault, IsMade, IsReady}
use Rattle.rk_lane.proofs.Words.{IsAt, IsKept, masters_from, world_of, IsFitToSend, IsSettled, IsUnsettled, IsWeighed, ledger_worked}
use Rattle.rk_lane.proofs.Words.{sends_worked, Parts}
use Rattle.std.specs.Prelude.{eqb, vec_capacity}
use Rattle.rk_types.specs.declared.node.Node.TheVariants as nodes
use Rattle.rk_world.specs.declared.event.Event.TheVariants as events
use Rattle.rk_world.specs.Step.{ledger_after}
use Rattle.rk_master.specs.Taking.{CanTake}
use Rattle.rk_inv_wellformed.proofs.maps.Bounds.{within_sum_of}
use Rattle.rk_inv_wellformed.proofs.lanes.Events.{not_worn}
use Rattle.rk_inv_wellformed.proofs.lanes.Ledgers.{clients_served}
use Rattle.rk_lane.specs.Masters.{IsWorkAt}
use Rattle.rk_lane.proofs.Requests.{still_for_masters}
use Rattle.rk_lane.proofs.AtEnd.{IsReached, sends_made}
use Rattle.rk_lane.proofs.Coordinated.{delivered_is, delivery_allowed}
use Rattle.rk_lane.proofs.Quiet.{masters_counted}
use Rattle.rk_lane.proofs.Topped.{still_topped}
use Rattle.rk_lane.proofs.Keeping.{Fits, formed_after, formed_then}
use Rattle.rk_lane.proofs.Numbering.{found_from, insert_from}
use Rattle.rk_lane.proofs.Refusing.{refused_fresh}
use Rattle.rk_lane.proofs.Sendable.{fit_to_send}
use Rattle.rk_lane.proofs.Takings.{takes_of}

-- ---- one of the masters is replaced

set_there : {X : Type 0} (list : List X) (place : ℕ) (x : X) → place < length list → slice_get (set list place x) place ≡ Some x
set_there [] place x within = absurd (omega arith)
set_there (first ∷ rest) zero x within = refl
set_there (first ∷ rest) (suc place) x within = set_there rest place x (omega arith)

module _ (masters : List (Option Master)) (number : ℕ) (there : IsMaster (length masters) number) where
  next : 1 + (number - 1) ≡ number
  next = grind arith

  within : number - 1 < length masters
  within = grind arith

  -- the map of masters with another one under a number
  pub inserted : (it : Master) → insert (masters_from 1 masters) number it ≡ masters_from 1 (set masters (number - 1) (Some it))
  inserted it = grind (arith, insert, masters_from, next, insert_from, within)

  -- what is found under the number of a master
  pub found_at : (it : Master) → IsAt masters number it → get (masters_from 1 masters) number ≡ Some it
  found_at it at = subst (λ (n : ℕ). get (masters_from 1 masters) n ≡ Some it) next (found_from 1 (number - 1) masters (Some it) at)

  pub set_at_number : (it : Master) → IsAt (set masters (number - 1) (Some it)) number it
  set_at_number it = set_there masters (number - 1) (Some it) within

-- ---- a master that is there

-- a master of a list under its number
pub record StandsAt (masters : List (Option Master)) (number : ℕ) : Type 0 where
  pub it : Master
  pub at : IsAt masters number it

some_at : (masters : List (Option Master)) (place : ℕ) (whole : List (Option Master)) (number : ℕ) → All IsSome masters → place < length masters
    → slice_get whole (number - 1) ≡ slice_get masters place → StandsAt whole number
some_at [] place whole number present within same = absurd (omega arith)
some_at (None ∷ rest) zero whole number present within same = absurd (cc (All-head IsSome None rest present))
some_at (Some it ∷ rest) zero whole number present within same = record { it = it; at = same }
some_at (first ∷ rest) (suc place) whole number present within same =
    some_at rest place whole number (All-tail IsSome first rest present) (omega arith) same

-- there is one if none is spent
pub stands_at : (masters : List (Option Master)) (number : ℕ) → All IsSome masters → IsMaster (length masters) number → StandsAt masters number
stands_at masters number present there = some_at masters (number - 1) masters number present (within masters number there) refl

-- its world has it
pub master_is : (parts : Parts) (stored : NumberMap Segments) (number : ℕ) (it : Master) → IsMaster (length parts.masters.items) number → IsAt parts.masters.items number it
    → master_at (world_of parts stored) number ≡ it
master_is parts stored number it there at =
    ap (λ (found : Option Master). unwrap_or found (new_master number [])) (found_at parts.masters.items number there it at)

-- its log has no more bytes than all
pub weight_within : (parts : Parts) (number : ℕ) (it : Master) → IsKept parts → IsMaster (length parts.masters.items) number → IsAt parts.masters.items number it
    → log_bytes it ≤ parts.log_bytes
weight_within parts number it kept there at =
    omega (arith, kept.counted, within_sum_of log_bytes (masters_from 1 parts.masters.items) number it (found_at parts.masters.items number there it at))

-- counted in 64 bits it is what it is
pub weight_is : (parts : Parts) (number before : ℕ) (it : Master) → IsKept parts → IsMaster (length parts.masters.items) number → IsAt parts.masters.items number it
    → before ≡ min (log_bytes it) (2 ^ 64 - 1) → before ≡ log_bytes it
weight_is parts number before it kept there at is =
    omega (arith, is, weight_within parts number it kept there at, kept.counted, kept.formed.room.bytes)

-- what the master's turn makes
pub turn_is : (parts : Parts) (number : ℕ) (it : Master) → IsMaster (length parts.masters.items) number → IsAt parts.masters.items number it
    → (stored : NumberMap Segments) → happened (world_of parts stored) (events.Turn (nodes.Master number)) (Gave None) ≡ worked_at (world_of parts stored) number 0 (master_turn it)
turn_is parts number it there at stored =
    ap (λ (m : Master). worked_at (world_of parts stored) number 0 (master_turn m)) (master_is parts stored number it there at)

-- what a message to a master that lives makes
pub step_is : (parts : Parts) (number : ℕ) (message : Message) (master : ℕ) (it : Master) → IsMaster (length parts.masters.items) master → IsAt parts.masters.items master it
    → get parts.wire.messages number ≡ Some message → message.to ≡ nodes.Master master → has_crashed (world_of parts []) master ≡ false
    → (stored : NumberMap Segments)
    → happened (world_of parts stored) (events.Deliver number) (Gave None) ≡ worked_at (world_of parts stored) master (seen_in message.body) (master_step it message)
step_is parts number message master it there at on to lives stored =
    delivered_is (world_of parts stored) number message (nodes.Master master) (Gave None) on to
    ∙ ap
    (λ (b : Bool). cond b (losing (world_of parts stored))
    (worked_at (world_of parts stored) master (seen_in message.body) (master_step (master_at (world_of parts stored) master) message)))
    lives
    ∙ ap (λ (m : Master). worked_at (world_of parts stored) master (seen_in message.body) (master_step m message)) (master_is parts stored master it there at)

-- the master to which a message is addressed is there
pub addressed : (parts : Parts) (number : ℕ) (message : Message) (master : ℕ) → IsKept parts → get parts.wire.messages number ≡ Some message
    → message.to ≡ nodes.Master master → IsMaster (length parts.masters.items) master
addressed parts number message master kept on to = grind (arith, masters_counted, limits_of, world_of)

-- it can take the message
pub can_take : (parts : Parts) (number : ℕ) (message : Message) (master : ℕ) (it : Master) → IsReady parts (events.Deliver number)
    → IsMaster (length parts.masters.items) master → get parts.wire.messages number ≡ Some message → IsAt parts.masters.items master it → CanTake it message
can_take parts number message master it ready there on at =
    subst (λ (m : Master). CanTake m message) (master_is parts [] master it there at)
    (takes_of (world_of parts []) master number message.to message.from message.body
    (record {
      formed = ready.kept.formed.formed;
      room = ready.kept.formed.room;
      low = omega (arith, (not_worn (world_of parts []) ready.fresh).number);
      there = subst (λ (n : ℕ). IsMaster n master) (sym (masters_counted parts ready.kept)) there;
      found = on;
    }))

-- a master that has crashed loses it
pub losing_made : (old : Parts) (number : ℕ) (message : Message) (master : ℕ) (seen : Seen) → IsReady old (events.Deliver number)
    → get old.wire.messages number ≡ Some message → message.to ≡ nodes.Master master → has_crashed (world_of old []) master ≡ true
    → seen ≡ record { first = 0; sent = 0; lost = true; taken = None } → IsMade old (events.Deliver number) (Gave None) old seen
losing_made old number message master seen ready on to dead is = record {
  allowed = none;
  made = made;
  kept = ready.kept;
  lane = record { number = refl; backups = refl; masters = refl };
}
  where
    none : fault_of (world_of old []) (events.Deliver number) ≡ None
    none = delivery_allowed number (get old.wire.messages number) message (nodes.Master master) on to refl

    made : (stored : NumberMap Segments) → happened (world_of old stored) (events.Deliver number) (Gave None) ≡ record { world = world_of old stored; seen = seen }
    made stored =
        let before = keeps_to_top (world_of old []) ready.kept.formed.formed in
        delivered_is (world_of old stored) number message (nodes.Master master) (Gave None) on to
        ∙ ap
        (λ (b : Bool). cond b (losing (world_of old stored))
        (worked_at (world_of old stored) master (seen_in message.body) (master_step (master_at (world_of old stored) master) message)))
        dead
        ∙ (λ i. record {
          world =
              still_topped (world_of old stored)
              (record { top = before.top; sent = before.sent; stamp = before.stamp; seen = before.seen; terms = before.terms; counters = before.counters }) i;
          seen = sym is i;
        })

-- what is weighed of parts is weighed of others with the same masters and bytes
pub weighed_same : (parts other : Parts) (number before now : ℕ) → parts.masters ≡ other.masters → parts.log_bytes ≡ other.log_bytes
    → IsWeighed parts number before now → IsWeighed other number before now
weighed_same parts other number before now masters bytes weighed = record {
  bytes = λ it at.
      weighed.bytes it (subst (λ list. IsAt list.items number it) (sym masters) at)
      ∙ ap (λ (n : ℕ). n + log_bytes it) bytes;
  few = weighed.few;
  room = λ it at. weighed.room it (subst (λ list. IsAt list.items number it) (sym masters) at);
}

-- ---- the event

module _ (old : Parts) (event : Event) (number : ℕ) (it : Master) (worked : Worked) (stamp : ℕ) (p2 : Parts) (work : Work) (seen before : ℕ)
    (ready : IsReady old event) (none : fault_of (world_of old []) event ≡ None) (there : IsMaster (length old.masters.items) number)
    (at : IsAt old.masters.items number it) (before_is : before ≡ log_bytes it)
    (is : (stored : NumberMap Segments) → happened (world_of old stored) event (Gave None) ≡ worked_at (world_of old stored) number stamp worked)
    (did : IsWorkAt old.masters.items number worked stamp p2.masters.items work seen)
    (p2_is : p2 ≡ record old { masters = p2.masters; log_bytes = p2.log_bytes })
    (weighed : IsWeighed (record old { masters = p2.masters }) number before p2.log_bytes) where
  -- the masters then
  masters_are : insert (masters_from 1 old.masters.items) number worked.master ≡ masters_from 1 p2.masters.items
  masters_are = inserted old.masters.items number there worked.master ∙ ap (masters_from 1) (sym did.masters)

  at_then : IsAt p2.masters.items number worked.master
  at_then = subst (λ (list : List (Option Master)). IsAt list number worked.master) (sym did.masters) (set_at_number old.masters.items number there worked.master)

  -- the ledger then
  ledger_is : ledger_after old.ledger number stamp worked ≡ ledger_worked old.ledger seen work
  ledger_is = λ i. ledger_after old.ledger number (sym did.seen_is i) (record worked { served = sym did.served i; marked = sym did.marked i })

  sends_are : map (filled (ledger_after old.ledger number stamp worked).journal worked.served) worked.sends ≡ sends_worked old.ledger seen work
  sends_are = λ i. map (filled (ledger_is i).journal (sym did.served i)) (sym did.sends i)

  -- the world before messages are sent, with the greatest number as it was
  worked_world : NumberMap Segments → World
  worked_world stored = record (world_of old stored) { masters = masters_from 1 p2.masters.items; ledger = ledger_worked old.ledger seen work }

  worked_happened : (stored : NumberMap Segments) → happened (world_of old stored) event (Gave None) ≡ with_sends (worked_world stored) (sends_worked old.ledger seen work)
  unfolding worked_world
  worked_happened stored =
      is stored
      ∙ (λ i. with_sends (record (world_of old stored) { masters = masters_are i; ledger = ledger_is i }) (sends_are i))

  -- the bytes then
  sizes : bytes_of_logs (worked_world []) ≡ p2.log_bytes
  unfolding worked_world
  sizes =
      let order = numbered_order (masters_from 1 old.masters.items) old.coordinator.masters ready.kept.formed.formed.masters_are in
      let moved = sum_inserted log_bytes (masters_from 1 old.masters.items) number worked.master order in
      let size : size_found log_bytes (get (masters_from 1 old.masters.items) number) ≡ log_bytes it =
      ap (size_found log_bytes) (found_at old.masters.items number there it at) in
      let later : sum_by (λ (entry : ℕ × Master). log_bytes entry.1) (insert (masters_from 1 old.masters.items) number worked.master) ≡ bytes_of_logs (worked_world []) =
      ap (λ (masters : NumberMap Master). sum_by (λ (entry : ℕ × Master). log_bytes entry.1) masters) masters_are
      ∙ sym (sum-map (λ (entry : ℕ × Master). log_bytes entry.1) (masters_from 1 p2.masters.items)) in
      let was : bytes_of_logs (world_of old []) ≡ sum_by (λ (entry : ℕ × Master). log_bytes entry.1) (masters_from 1 old.masters.items) =
      sum-map (λ (entry : ℕ × Master). log_bytes entry.1) (masters_from 1 old.masters.items) in
      let counted = ready.kept.counted in
      let weight = weighed.bytes worked.master at_then in
      omega (arith, moved, size, later, was, counted, weight, before_is)

  fits_then : Fits (worked_world [])
  unfolding worked_world
  fits_then = record {
    bytes = subst (λ (bytes : ℕ). bytes < MOST_BYTES) (sym sizes) weighed.few;
    masters =
        subst (EachIn (λ (n : ℕ) master. HasRoomIn master)) masters_are
        (each_insert (λ (n : ℕ) master. HasRoomIn master) (masters_from 1 old.masters.items) number worked.master ready.kept.formed.room.masters
        (weighed.room worked.master at_then));
  }

  -- what is sent fits the wire
  pub work_fits : IsFitToSend old.wire (sends_worked old.ledger seen work)
  unfolding worked_world
  work_fits =
      fit_to_send (worked_world []) (sends_worked old.ledger seen work)
      (formed_after (world_of old []) (with_sends (worked_world []) (sends_worked old.ledger seen work)).world event (Gave None) ready.may tt
      (refused_fresh (world_of old []) event ready.fresh ∙ none) ready.kept.formed (ap (λ (stepped : Stepped). stepped.world) (worked_happened []))
      (record { bytes = fits_then.bytes; masters = fits_then.masters }))

  module _ (new : Parts) (shown : Seen) (settled : IsSettled p2 number seen work new shown) where
    -- the parts before messages are sent
    mid : Parts
    mid = record old { masters = p2.masters; log_bytes = p2.log_bytes; ledger = ledger_worked old.ledger seen work; top = settled.top }

    top_is : settled.top ≡ max (max old.top (last_stamp (ledger_worked old.ledger seen work).journal)) (greatest (counters_of worked.master))
    top_is =
        settled.top_is worked.master at_then
        ∙ ap (λ (p : Parts). max (max p.top (last_stamp (ledger_worked p.ledger seen work).journal)) (greatest (counters_of worked.master))) p2_is

    finished : IsFinished mid (sends_worked old.ledger seen work) new shown
    unfolding mid
    finished =
        subst (λ (p : Parts). IsFinished (record p { ledger = ledger_worked p.ledger seen work; top = settled.top }) (sends_worked p.ledger seen work) new shown) p2_is settled.finished

    low : old.top ≤ settled.top
    low = omega (arith, top_is)

    below : (n : ℕ) → n ≤ greatest (counters_of worked.master) → n ≤ settled.top
    below n under = omega (arith, top_is, under)

    mid_keeps : KeepsTo settled.top (world_of mid [])
    unfolding mid
    mid_keeps =
        let more = keeps_to_more old.top settled.top (world_of old []) low (keeps_to_top (world_of old []) ready.kept.formed.formed) in
        record {
          top = omega arith;
          sent = more.sent;
          stamp = omega (arith, top_is);
          seen =
              subst (λ clients. All (λ entry. seen_of entry.1 ≤ settled.top) clients) (sym (clients_served old.ledger seen work.served.items)) more.seen;
          terms = more.terms;
          counters =
              subst (λ (masters : NumberMap Master). All (λ entry. All (λ n. n ≤ settled.top) (counters_of entry.1)) masters) masters_are
              (all_inserted (λ (one : Master). All (λ n. n ≤ settled.top) (counters_of one)) (masters_from 1 old.masters.items) number worked.master
              (All-weaker (λ n. n ≤ greatest (counters_of worked.master)) (λ n. n ≤ settled.top) below (counters_of worked.master) (below_greatest (counters_of worked.master)))
              more.counters);
        }

    mid_reached : IsReached old.top mid
    unfolding mid
    mid_reached limit above within =
        let stamp = within.stamp in
        let counters =
        greatest_within limit (counters_of worked.master)
        (all_in_map (λ (one : Master). All (λ n. n ≤ limit) (counters_of one)) (masters_from 1 p2.masters.items) number worked.master
        (found_at p2.masters.items number
        (subst (λ (list : List (Option Master)). IsMaster (length list) number) (sym did.masters) (subst (λ (n : ℕ). IsMaster n number) (sym (length-set old.masters.items (number - 1) (Some worked.master))) there))
        worked.master at_then)
        within.counters) in
        omega (arith, top_is, stamp, counters, above)

    work_made_in : (stored : NumberMap Segments) → happened (world_of old stored) event (Gave None) ≡ record { world = world_of new stored; seen = shown }
    unfolding mid worked_world
    work_made_in stored =
        worked_happened stored
        ∙ sends_made mid new old.top (sends_worked old.ledger seen work) shown finished mid_keeps low mid_reached stored

    new_masters : new.masters ≡ p2.masters
    unfolding mid
    new_masters = ap (λ (p : Parts). p.masters) finished.parts

    new_bytes : new.log_bytes ≡ p2.log_bytes
    unfolding mid
    new_bytes = ap (λ (p : Parts). p.log_bytes) finished.parts

    new_crashed : new.crashed ≡ old.crashed
    unfolding mid
    new_crashed = ap (λ (p : Parts). p.crashed) finished.parts

    same_count : length p2.masters.items ≡ length old.masters.items
    same_count = ap (λ (list : List (Option Master)). length list) did.masters ∙ length-set old.masters.items (number - 1) (Some worked.master)

    -- the event is made once the work is settled
    pub work_made : IsMade old event (Gave None) new shown
    unfolding mid worked_world
    work_made = record {
      allowed = none;
      made = work_made_in;
      kept = record {
        present =
            subst (λ masters. All IsSome masters.items) (sym new_masters)
            (subst (All IsSome) (sym did.masters) (All-set IsSome old.masters.items (number - 1) (Some worked.master) refl ready.kept.present));
        formed =
            formed_then old new event (Gave None) shown ready.kept ready.may tt (refused_fresh (world_of old []) event ready.fresh ∙ none) (work_made_in [])
            (record {
              bytes = subst (λ masters. bytes_of_logs (record (world_of new []) { masters = masters_from 1 masters.items }) < MOST_BYTES) (sym new_masters) fits_then.bytes;
              masters = subst (λ masters. EachIn (λ (n : ℕ) master. HasRoomIn master) (masters_from 1 masters.items)) (sym new_masters) fits_then.masters;
            });
        counted =
            new_bytes ∙ sym sizes
            ∙ ap (λ masters. bytes_of_logs (record (world_of new []) { masters = masters_from 1 masters.items })) (sym new_masters);
        distinct = subst (λ crashed. IsDistinct eqb crashed.items) (sym new_crashed) ready.kept.distinct;
        reserved =
            omega (
              arith,
              ready.kept.reserved,
              same_count,
              ap (λ masters. length masters.items) new_masters,
              ap (λ crashed. vec_capacity crashed) new_crashed,
            );
        requests = still_for_masters old new event (Gave None) shown (work_made_in []) ready.kept.requests;
      };
      lane = record {
        number = ap (λ (p : Parts). p.number) finished.parts;
        backups = ap (λ (p : Parts). p.backups) finished.parts;
        masters = ap (λ masters. length masters.items) new_masters ∙ same_count;
      };
    }

  -- if there is no memory for it, what a spent lane keeps is as it was
  pub work_faulty : (new : Parts) (error : StepError) → IsUnsettled p2 new error → IsFault old event new error
  work_faulty new error lost = grind (arith, length-set)
