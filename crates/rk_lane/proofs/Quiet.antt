-- Events that send nothing and leave all that grows as it was.
use Rattle.rk_lane.proofs.Words.{◌≡◌, ◌≤◌, ◌<◌, ◌&&◌, ℕ, Bool, true, false, eqb, cond, List, [], ◌∷◌, ◌++◌, length, Option, None, Some}
use Rattle.rk_lane.proofs.Words.{refl, sym, ap, subst, ◌∙◌, arith, nat_le, IsDistinct, length-range_with_len, NumberMap, Segments, Message}
use Rattle.rk_lane.proofs.Words.{get, Gave, fault_of, happened, quietly, World, has_crashed, with_ledger, is_added, seen_of, with_client}
use Rattle.rk_lane.proofs.Words.{IsMaster, where_true, LastCall, StepError, Event, Seen, KeepsTo, all_inserted, keeps_to_top, MayStep}
use Rattle.rk_lane.proofs.Words.{IsReady, IsMade, IsKept, world_of, Parts}
use Rattle.std.specs.Prelude.{vec_capacity, not}
use Rattle.rk_message.specs.Wire.{missing, missing_in, without_message}
use Rattle.rk_world.specs.Refusals.{wire_fault}
use Rattle.rk_world.specs.World.{with_crash}
use Rattle.rk_world.specs.Refusals.{MOST_CLIENTS}
use Rattle.rk_world.specs.declared.error.StepError.TheVariants as errors
use Rattle.rk_world.specs.declared.event.Event.TheVariants as events
use Rattle.rk_lane.proofs.Crashes.{crash_fits, distinct_push}
use Rattle.rk_lane.proofs.Numbering.{numbers_from}
use Rattle.rk_lane.proofs.Refusing.{refused_fresh}
use Rattle.rk_lane.proofs.Keeping.{formed_then, kept_still}
use Rattle.rk_lane.proofs.Topped.{still_topped}

-- what is seen if nothing was sent and nothing lost
abbrev pub quiet_seen : Seen
quiet_seen = record { first = 0; sent = 0; lost = false; taken = None }

-- a world becomes another one quietly, if all that is in that one keeps to the greatest number
pub quietly_is : (w : World) (seen : Seen) → KeepsTo w.top w → seen ≡ quiet_seen → quietly w ≡ record { world = w; seen = seen }
quietly_is w seen keeps is = λ i. record { world = still_topped w keeps i; seen = sym is i }

-- ---- a message is forgotten

not_missing : (number : ℕ) (found : Option Message) → missing_in number found ≡ None → wire_fault number found ≡ None
not_missing number None there = absurd (cc there)
not_missing number (Some message) there = refl

pub forgotten : (old new : Parts) (number : ℕ) (seen : Seen) → IsKept old → missing number old.wire ≡ None
    → new ≡ record old { wire = without_message number old.wire } → seen ≡ quiet_seen → IsMade old (events.Forget number) (Gave None) new seen
forgotten old new number seen kept there is quiet =
    subst (λ (parts : Parts). IsMade old (events.Forget number) (Gave None) parts seen) (sym is)
    (record {
      allowed = none;
      made = made;
      kept =
          kept_still old after (events.Forget number) (Gave None) seen kept (record { may = tt; calm = tt }) tt none (made [])
          refl refl refl;
      lane = record { number = refl; backups = refl; masters = refl };
    })
  where
    after : Parts
    after = record old { wire = without_message number old.wire }

    none : fault_of (world_of old []) (events.Forget number) ≡ None
    none = not_missing number (get old.wire.messages number) there

    made : (stored : NumberMap Segments) → happened (world_of old stored) (events.Forget number) (Gave None) ≡ record { world = world_of after stored; seen = seen }
    made stored =
        let before = keeps_to_top (world_of old []) kept.formed.formed in
        quietly_is (world_of after stored) seen
        (record {
          top = before.top;
          sent = before.sent;
          stamp = before.stamp;
          seen = before.seen;
          terms = before.terms;
          counters = before.counters;
        })
        quiet

-- ---- a master crashes

-- the coordinator counts the masters
pub masters_counted : (parts : Parts) → IsKept parts → parts.coordinator.masters ≡ length parts.masters.items
masters_counted parts kept =
    sym (length-range_with_len 1 parts.coordinator.masters)
    ∙ ap (λ (list : List ℕ). length list) (sym kept.formed.formed.masters_are ∙ numbers_from 1 parts.masters.items)
    ∙ length-range_with_len 1 (length parts.masters.items)

-- there is room for another crash
pub has_room_for_crash : (parts : Parts) (master : ℕ) → IsKept parts → IsMaster parts.coordinator.masters master → has_crashed (world_of parts []) master ≡ false
    → length parts.crashed.items < vec_capacity parts.crashed
has_room_for_crash parts master kept there lives =
    let fits = crash_fits parts.coordinator.masters parts.crashed.items master kept.formed.formed.crashed kept.distinct there lives in
    let count = masters_counted parts kept in
    let room = kept.reserved in
    omega arith

-- who has not crashed is no cause
pub alive : (crashed : Bool) (error : StepError) → crashed ≡ false → where_true crashed error ≡ None
alive crashed error is = ap (λ (b : Bool). where_true b error) is

pub crashed : (old new : Parts) (master : ℕ) (seen : Seen) → IsKept old → MayStep (world_of old []) (events.Crash master) → has_crashed (world_of old []) master ≡ false
    → new ≡ record old { crashed = new.crashed } → new.crashed.items ≡ old.crashed.items ++ master ∷ [] → vec_capacity new.crashed ≡ vec_capacity old.crashed
    → seen ≡ quiet_seen → IsMade old (events.Crash master) (Gave None) new seen
crashed old new master seen kept may lives is pushed same quiet =
    subst (λ (parts : Parts). IsMade old (events.Crash master) (Gave None) parts seen) (sym is)
    (record {
      allowed = none;
      made = made;
      kept = record {
        present = kept.present;
        formed =
            formed_then old after (events.Crash master) (Gave None) seen kept may tt none (made [])
            (record { bytes = kept.formed.room.bytes; masters = kept.formed.room.masters });
        counted = kept.counted;
        distinct = subst (λ (list : List ℕ). IsDistinct eqb list) (sym pushed) (distinct_push old.crashed.items master kept.distinct lives);
        reserved = subst (λ (room : ℕ). length old.masters.items ≤ room) (sym same) kept.reserved;
        requests = kept.requests;
      };
      lane = record { number = refl; backups = refl; masters = refl };
    })
  where
    after : Parts
    after = record old { crashed = new.crashed }

    none : fault_of (world_of old []) (events.Crash master) ≡ None
    none = alive (has_crashed (world_of old []) master) (errors.Dead master) lives

    made : (stored : NumberMap Segments) → happened (world_of old stored) (events.Crash master) (Gave None) ≡ record { world = world_of after stored; seen = seen }
    made stored =
        let before = keeps_to_top (world_of old []) kept.formed.formed in
        quietly_is (with_crash (world_of old stored) master) seen
        (record {
          top = before.top;
          sent = before.sent;
          stamp = before.stamp;
          seen = before.seen;
          terms = before.terms;
          counters = before.counters;
        })
        quiet
        ∙ ap (λ (list : List ℕ). record { world = record (world_of old stored) { crashed = list }; seen = seen }) (sym pushed)

-- ---- a client comes

pub came : (old new : Parts) (client : ℕ) (seen : Seen) → IsReady old (events.AddClient client)
    → (not (is_added old.ledger client) && nat_le MOST_CLIENTS (length old.ledger.clients)) ≡ false
    → new ≡ record old { ledger = cond (is_added old.ledger client) old.ledger (with_client old.ledger client) }
    → seen ≡ quiet_seen → IsMade old (events.AddClient client) (Gave None) new seen
came old new client seen ready few is quiet =
    subst (λ (parts : Parts). IsMade old (events.AddClient client) (Gave None) parts seen) (sym is)
    (record {
      allowed = none;
      made = made;
      kept =
          kept_still old (after (is_added old.ledger client)) (events.AddClient client) (Gave None) seen ready.kept ready.may tt
          (refused_fresh (world_of old []) (events.AddClient client) ready.fresh ∙ none) (made [])
          refl refl refl;
      lane = record { number = refl; backups = refl; masters = refl };
    })
  where
    after : Bool → Parts
    after added = record old { ledger = cond added old.ledger (with_client old.ledger client) }

    none : fault_of (world_of old []) (events.AddClient client) ≡ None
    none = alive (not (is_added old.ledger client) && nat_le MOST_CLIENTS (length old.ledger.clients)) errors.TooMany few

    keeps : (stored : NumberMap Segments) (added : Bool) → KeepsTo old.top (world_of (after added) stored)
    keeps stored true =
        let before = keeps_to_top (world_of old []) ready.kept.formed.formed in
        record { top = before.top; sent = before.sent; stamp = before.stamp; seen = before.seen; terms = before.terms; counters = before.counters }
    keeps stored false =
        let before = keeps_to_top (world_of old []) ready.kept.formed.formed in
        record {
          top = before.top;
          sent = before.sent;
          stamp = before.stamp;
          seen = all_inserted (λ (last : Option LastCall). seen_of last ≤ old.top) old.ledger.clients client None (omega arith) before.seen;
          terms = before.terms;
          counters = before.counters;
        }

    by : (stored : NumberMap Segments) (added : Bool) → quietly (cond added (world_of old stored) (with_ledger (world_of old stored) (with_client old.ledger client)))
        ≡ record { world = world_of (after added) stored; seen = seen }
    by stored true = quietly_is (world_of (after true) stored) seen (keeps stored true) quiet
    by stored false = quietly_is (world_of (after false) stored) seen (keeps stored false) quiet

    made : (stored : NumberMap Segments) → happened (world_of old stored) (events.AddClient client) (Gave None) ≡ record { world = world_of (after (is_added old.ledger client)) stored; seen = seen }
    made stored = by stored (is_added old.ledger client)

-- ---- nothing comes of it

-- an event of which nothing comes
pub stays_made : (old : Parts) (event : Event) (seen : Seen) → IsReady old event → fault_of (world_of old []) event ≡ None
    → ((stored : NumberMap Segments) → happened (world_of old stored) event (Gave None) ≡ quietly (world_of old stored)) → seen ≡ quiet_seen
    → IsMade old event (Gave None) old seen
stays_made old event seen ready none is quiet =
    let before = keeps_to_top (world_of old []) ready.kept.formed.formed in
    record {
      allowed = none;
      made = λ stored.
          is stored
          ∙ quietly_is (world_of old stored) seen
          (record { top = before.top; sent = before.sent; stamp = before.stamp; seen = before.seen; terms = before.terms; counters = before.counters }) quiet;
      kept = ready.kept;
      lane = record { number = refl; backups = refl; masters = refl };
    }

-- who was added is no stranger
pub known : (added : Bool) (error : StepError) → added ≡ true → where_true (not added) error ≡ None
known added error is = ap (λ (b : Bool). where_true (not b) error) is
