-- A lane stays well formed when a message is forgotten, a client comes, a master crashes while another one is left, and when a request is
-- sent again.
use Rattle.std.proofs.Common.{◌≡◌, ◌<◌, ℕ, Bool, true, false, [], ◌∷◌, ◌++◌, length, Option, None, Some, refl, subst, arith, option_map}
use Rattle.std.proofs.Common.{nat_eq, nat_le, not, ◌&&◌, leb-false}
use Rattle.rk_inv_wellformed.proofs.Words.{and_parts, cases_eq, All-cons, All-nil, list_any-append, nat_eq_equiv}
use Rattle.rk_inv_wellformed.proofs.Words.{range_with_len, option_or, get_other, get_same, get, without_message, Called, IsWellFormed}
use Rattle.rk_inv_wellformed.proofs.Words.{is_added, with_client, IsFormedMessage, limits_of, MayHappen, MOST_CLIENTS, WORN_NUMBER}
use Rattle.rk_inv_wellformed.proofs.Words.{comes_anyway, refusal, where_true, worn, IsCalmEvent, happened, sent_again, World}
use Rattle.rk_inv_wellformed.proofs.Words.{bytes_of_logs, has_crashed, with_crash, with_ledger, with_top, with_wire, StepError, Event}
use Rattle.rk_inv_wellformed.proofs.Words.{too_great, cond_both, not-false, not-true, or_from, WORN_BYTES, fault_of, lives_another, lives}
use Rattle.rk_inv_wellformed.proofs.lanes.Ledgers.{formed_client}
use Rattle.rk_inv_wellformed.proofs.lanes.Worlds.{wire_forgotten, HasClientsOf, SomeIsLeft, kept_with_crash, kept_with_ledger}
use Rattle.rk_inv_wellformed.proofs.lanes.Worlds.{kept_with_wire, more_limits}
use Rattle.rk_inv_wellformed.proofs.lanes.Works.{formed_losing, formed_sending_old, top_rises, formed_after_change, more_topped}
use Rattle.rk_inv_wellformed.proofs.maps.{by_found, either_way, range_within}
use Rattle.std.proofs.lemmas.List.Folds.{Any-from_list_any}

-- ---- what is not refused

-- if there is neither of two causes, there is no first one
pub no_first : {X : Type 0} (first second : Option X) → option_or first second ≡ None → first ≡ None
no_first None second none = refl
no_first (Some x) second none = absurd (cc none)

-- and no second one
pub no_second : {X : Type 0} (first second : Option X) → option_or first second ≡ None → second ≡ None
no_second None second none = none
no_second (Some x) second none = absurd (cc none)

pub no_inner : {X Y : Type 0} (change : X → Y) (inner : Option X) → option_map change inner ≡ None → inner ≡ None
no_inner change None none = refl
no_inner change (Some x) none = absurd (cc none)

-- a cause that there is not is one whose test fails
pub does_not_hold : (test : Bool) (cause : StepError) → where_true test cause ≡ None → test ≡ false
does_not_hold true cause none = absurd (cc none)
does_not_hold false cause none = refl

-- an event that is not refused has no fault
pub has_no_fault : (w : World) (event : Event) → refusal w event ≡ None → fault_of w event ≡ None
has_no_fault w event none = either_way (λ (cause : Option StepError). cause ≡ None → fault_of w event ≡ None) (comes_anyway event) (λ it. it)
    (λ it. no_second (option_map StepError.Worn (worn w)) (fault_of w event) it) none

-- a crash whose notice is not refused has come
pub crash_came : (w : World) (master : ℕ) → refusal w (Event.Notice master) ≡ None → has_crashed w master ≡ true
crash_came w master none = not-false (has_crashed w master)
    (does_not_hold (not (has_crashed w master)) (StepError.Alive master) (has_no_fault w (Event.Notice master) none))

-- a number that is not too great is below the limit
pub not_too_great : (limit number : ℕ) → too_great limit number ≡ None → number < limit
not_too_great limit number none = cond_both (nat_le limit number) _ _ (λ (great : Option ℕ). great ≡ None → number < limit)
    (λ is it. absurd (cc it)) (λ is it. leb-false limit number is) none

-- a lane that is not worn
pub record IsFresh (w : World) : Type 0 where
  pub number : w.top < WORN_NUMBER
  pub bytes : bytes_of_logs w < WORN_BYTES

pub not_worn : (w : World) → worn w ≡ None → IsFresh w
not_worn w none = grind (arith, not_too_great, no_first, too_great, bytes_of_logs, no_second)

-- an event that is not refused comes in a lane that is not worn, unless it comes anyway
pub comes_fresh : (w : World) (event : Event) → comes_anyway event ≡ false → refusal w event ≡ None → IsFresh w
comes_fresh w event careful none = grind (arith, not_worn, no_inner, worn, no_first, fault_of)

-- ---- a message is forgotten

-- a lane stays well formed when a message is forgotten
pub formed_forgotten : {w : World} (number : ℕ) (called : Called) → IsWellFormed w → IsWellFormed (happened w (Event.Forget number) called).world
formed_forgotten {w} number called formed =
    let after = with_wire w (without_message number w.wire) in
    formed_after_change after (more_topped w (with_top after).top (top_rises after))
    (λ before. kept_with_wire _ w before (wire_forgotten _ number before.wire)) formed

-- ---- a client comes

-- who was added before a client came is added then
still_added : (w : World) (client : ℕ) → HasClientsOf (with_client w.ledger client) w.ledger
still_added w client other added = grind (arith, get_same, get_other, cases_eq)

-- it stays so when a client comes that is not refused
pub formed_come : {w : World} (client : ℕ) (called : Called) → MayHappen w (Event.AddClient client) → refusal w (Event.AddClient client) ≡ None → IsWellFormed w → IsWellFormed (happened w (Event.AddClient client) called).world
formed_come {w} client called number none formed =
    cond_both _ _ _ (λ (after : World). IsWellFormed (with_top after)) (λ added. formed_losing formed)
    (λ new. formed_after_change comes (more_limits w w.coordinator (with_client w.ledger client) (with_top comes).top refl (still_added w client) (top_rises comes))
    (λ before. kept_with_ledger _ w before (formed_client _ w.base w.lane number new (few new) before.ledger)) formed)
  where
    comes : World
    comes = with_ledger w (with_client w.ledger client)

    few : is_added w.ledger client ≡ false → length w.ledger.clients < MOST_CLIENTS
    few new = leb-false MOST_CLIENTS (length w.ledger.clients)
        (subst (λ b. (not b && nat_le MOST_CLIENTS (length w.ledger.clients)) ≡ false) new
        (does_not_hold (not (is_added w.ledger client) && nat_le MOST_CLIENTS (length w.ledger.clients)) StepError.TooMany
        (has_no_fault w (Event.AddClient client) none)))

-- ---- a master crashes

-- if another master lives, it is left once this one has crashed
left_after : (w : World) (master : ℕ) → lives_another w master ≡ true → SomeIsLeft w.coordinator.masters (w.crashed ++ master ∷ [])
left_after w master another =
    let numbers = range_with_len 1 w.coordinator.masters in
    let (place, other, within, is, passes) = Any-from_list_any (λ other. lives w other && not (nat_eq other master)) numbers another in
    let parts = and_parts (lives w other) (not (nat_eq other master)) passes in
    record {
      master = other;
      there = omega (arith, range_within 1 w.coordinator.masters place other within, is);
      lives = grind (arith, list_any-append, nat_eq, or_from, has_crashed, not-true, nat_eq_equiv, w.crashed, parts.0, parts.1);
    }

-- it stays so when a master crashes while another one lives
pub formed_crashed : {w : World} (master : ℕ) (called : Called) → MayHappen w (Event.Crash master) → IsCalmEvent w (Event.Crash master) → IsWellFormed w → IsWellFormed (happened w (Event.Crash master) called).world
formed_crashed {w} master called there calm formed =
    let after = with_crash w master in
    formed_after_change after (more_topped w (with_top after).top (top_rises after))
    (λ before. kept_with_crash _ w before there (left_after w master calm)) formed

-- ---- a request is sent again

-- it stays so when a client's last request is sent again
pub formed_again : {w : World} (client : ℕ) (called : Called) → IsWellFormed w → IsWellFormed (happened w (Event.Again client) called).world
formed_again {w} client called formed =
    by_found (λ request. IsWellFormed (sent_again w request).world) (get w.ledger.requests client) (λ none. formed_losing formed)
    (λ message found. formed_sending_old (message ∷ [])
    (All-cons (IsFormedMessage (limits_of w)) message [] (formed.ledger.requests client message found) (All-nil _)) formed)
