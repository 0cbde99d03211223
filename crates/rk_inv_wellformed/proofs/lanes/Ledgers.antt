-- The ledger stays well formed when served calls and ends get their records, when a record is accepted, and when a client comes,
-- asks or has a request saved.
use Rattle.std.proofs.Common.{◌≡◌, ◌≤◌, ◌<◌, ℕ, zero, suc, ◌+◌, true, false, cond, List, [], ◌∷◌, ◌++◌, length, fold, All, Option, None}
use Rattle.std.proofs.Common.{Some, is_some, refl, ap, ◌∙◌, arith, slice_get, slice_set, IfSome, not, ◌&&◌, ◌==◌, w32, nat_cmp, length-set}
use Rattle.std.proofs.Common.{Bool}
use Rattle.rk_inv_wellformed.proofs.Words.{length_push, All-push, All-set, each_insert, in_order_insert, NumberMap, IsInOrder, get}
use Rattle.rk_inv_wellformed.proofs.Words.{insert, Call, Ended, Outcome, IsNumber, Message, Rebuilt, outcome_of, IsFormedLedger}
use Rattle.rk_inv_wellformed.proofs.Words.{last_stamp, Ledger, asked_by, is_added, seen_of, with_client, with_rebuilt, IsFormedMessage}
use Rattle.rk_inv_wellformed.proofs.Words.{Limits, MOST_CLIENTS, LastCall, Served, Placed, is_mutation, Base, IsFormedLast, next_record}
use Rattle.rk_inv_wellformed.proofs.Words.{with_accepted, with_all_served, with_asked, with_end, with_ends, with_record, with_served}
use Rattle.rk_inv_wellformed.proofs.Words.{nat_cmp_total, length-put, accepted_at, as_accepted, has_record, last_stamp_from, with_end_of}
use Rattle.rk_inv_wellformed.proofs.Words.{with_marks, with_request, without_marks}
use Rattle.rk_world.specs.declared.work.Mark.{Mark}
use Rattle.rk_inv_wellformed.proofs.maps.{all_got, by_found, either_way, fold_keeps}

-- what each step keeps, a fold keeps
pub kept_by_fold : {X S : Type 0} (Keeps : S → Type 0) (step : S → X → S) → ((state : S) (x : X) → Keeps state → Keeps (step state x)) → (list : List X) (state : S) → Keeps state → Keeps (fold step state list)
kept_by_fold Keeps step each list state kept = fold_keeps Keeps step list state kept each

-- ---- the stamps of a journal

-- the last stamp is that of the last record
pub last_pushed : (stamp : ℕ) (journal : List Placed) (placed : Placed) → last_stamp_from stamp (journal ++ placed ∷ []) ≡ placed.stamp
last_pushed stamp [] placed = refl
last_pushed stamp (first ∷ rest) placed = last_pushed first.stamp rest placed

-- a journal counts no more records than its last stamp, and that is the greatest
pub record AreStamps (journal : List Placed) : Type 0 where
  pub stamps : All (λ placed. placed.stamp ≤ last_stamp journal) journal
  pub records : length journal ≤ last_stamp journal

-- so it is with another record whose stamp is greater
pub stamps_pushed : (journal : List Placed) (placed : Placed) → last_stamp journal < placed.stamp → AreStamps journal → AreStamps (journal ++ placed ∷ [])
stamps_pushed journal placed greater are =
    let last : last_stamp (journal ++ placed ∷ []) ≡ placed.stamp = last_pushed 0 journal placed in
    record {
      stamps = rw last (All-push (λ one. one.stamp ≤ placed.stamp) journal placed
          (λ place other within. not_above _ (last_stamp journal) placed.stamp (are.stamps place other within) greater)
          (omega arith));
      records = omega (arith, last, are.records, greater, length_push journal placed);
    }
  where
    not_above : (n last next : ℕ) → n ≤ last → last < next → n ≤ next
    not_above n last next below greater = omega arith

-- the last stamp stays when a record is accepted
last_accepted : (stamp : ℕ) (journal : List Placed) (place : ℕ) (placed : Placed) → slice_get journal place ≡ Some placed → last_stamp_from stamp (slice_set journal place (as_accepted placed)) ≡ last_stamp_from stamp journal
last_accepted stamp [] place placed found = absurd (cc found)
last_accepted stamp (first ∷ rest) zero placed found = grind (arith, last_stamp_from)
last_accepted stamp (first ∷ rest) (suc place) placed found = last_accepted first.stamp rest place placed found

pub last_stamp_accepted : (journal : List Placed) (place : ℕ) (found : Option Placed) → slice_get journal place ≡ found → last_stamp (accepted_at journal place found) ≡ last_stamp journal
last_stamp_accepted journal place None found = refl
last_stamp_accepted journal place (Some placed) found = last_accepted 0 journal place placed found

-- and so do the stamps
pub stamps_accepted : (journal : List Placed) (place : ℕ) (found : Option Placed) → slice_get journal place ≡ found → AreStamps journal → AreStamps (accepted_at journal place found)
stamps_accepted journal place None found are = are
stamps_accepted journal place (Some placed) found are =
    let last : last_stamp (slice_set journal place (as_accepted placed)) ≡ last_stamp journal = last_accepted 0 journal place placed found in
    record {
      stamps = rw last (All-set (λ one. one.stamp ≤ last_stamp journal) journal place (as_accepted placed)
          (all_got (λ one. one.stamp ≤ last_stamp journal) journal place placed found are.stamps) are.stamps);
      records = omega (arith, last, are.records, length-set journal place (as_accepted placed));
    }

-- ---- records of calls

-- a ledger stays or has the record, once a served call got its own
pub served_is : (P : Ledger → Type 0) (seen : ℕ) (ledger : Ledger) (served : Served) → P ledger → P (with_record ledger served.call served.outcome seen) → P (with_record ledger served.call served.outcome (seen_of (asked_by ledger served.call.client))) → P (with_served seen ledger served)
served_is P seen ledger served stays read applied = either_way P (is_mutation served.call.op)
    (either_way P (has_record ledger.journal served.call.client served.call.seq) stays applied) read

-- and once an end made a record
pub ended_is : (P : Ledger → Type 0) (ledger : Ledger) (end : Ended) → P ledger → ((asked : LastCall) → asked_by ledger end.client ≡ Some asked → P (with_record ledger asked.call (outcome_of end.end) asked.seen)) → P (with_end ledger end)
ended_is P ledger end stays told = by_found (λ found. P (with_end_of ledger end found)) (asked_by ledger end.client) (λ none. stays)
    (λ asked is. either_way P (asked.call.seq == end.seq && not (has_record ledger.journal end.client end.seq)) (told asked is) stays)

module _ (limits : Limits) (base : Base) (lane : ℕ) where
  -- a ledger with another journal is well formed if the journal's stamps are
  journaled : {ledger : Ledger} {journal : List Placed} → AreStamps journal → IsFormedLedger limits base lane ledger → IsFormedLedger limits base lane (record ledger { journal = journal })
  journaled are formed = assumption

  pub formed_recorded : {ledger : Ledger} (call : Call) (outcome : Outcome) (seen : ℕ) → IsFormedLedger limits base lane ledger → IsFormedLedger limits base lane (with_record ledger call outcome seen)
  formed_recorded {ledger} call outcome seen formed =
      journaled (stamps_pushed ledger.journal (next_record ledger.journal call outcome seen) (omega arith) (assumption formed)) formed

  pub formed_marked : {ledger : Ledger} (marks : List Mark) → IsFormedLedger limits base lane ledger → IsFormedLedger limits base lane (record ledger { marks = marks })
  formed_marked marks formed = assumption

  formed_served : (seen : ℕ) (ledger : Ledger) (served : Served) → IsFormedLedger limits base lane ledger → IsFormedLedger limits base lane (with_served seen ledger served)
  formed_served seen ledger served formed = served_is (IsFormedLedger limits base lane) seen ledger served formed
      (formed_recorded served.call served.outcome seen formed) (formed_recorded served.call served.outcome
      (seen_of (asked_by ledger served.call.client)) formed)

  -- the ledger after a master's work
  pub formed_ledger_after : {ledger : Ledger} (seen : ℕ) (served : List Served) (marks : List Mark) → IsFormedLedger limits base lane ledger → IsFormedLedger limits base lane (with_marks (with_all_served seen ledger served) marks)
  formed_ledger_after {ledger} seen served marks formed =
      let after = with_all_served seen ledger served in
      formed_marked (after.marks ++ marks)
      (kept_by_fold (IsFormedLedger limits base lane) (with_served seen) (formed_served seen) served ledger formed)

  formed_ended : (ledger : Ledger) (end : Ended) → IsFormedLedger limits base lane ledger → IsFormedLedger limits base lane (with_end ledger end)
  formed_ended ledger end formed = ended_is (IsFormedLedger limits base lane) ledger end formed
      (λ asked is. formed_recorded asked.call (outcome_of end.end) asked.seen formed)

  -- the ledger once a rebuild is taken
  pub formed_rebuilt : {ledger : Ledger} (rebuilt : Option Rebuilt) → IsFormedLedger limits base lane ledger → IsFormedLedger limits base lane (with_rebuilt ledger rebuilt)
  formed_rebuilt None formed = formed
  formed_rebuilt {ledger} (Some rebuilt) formed =
      let after = with_ends ledger rebuilt.ends in
      formed_marked (without_marks after rebuilt.tenure.tablet rebuilt.tenure.term).marks
      (kept_by_fold (IsFormedLedger limits base lane) with_end formed_ended rebuilt.ends ledger formed)

  -- the ledger once a record is accepted
  pub formed_accepted : {ledger : Ledger} (place : ℕ) → IsFormedLedger limits base lane ledger → IsFormedLedger limits base lane (with_accepted ledger place)
  formed_accepted {ledger} place formed =
      journaled (stamps_accepted ledger.journal place (slice_get ledger.journal place) refl (assumption formed)) formed

-- ---- the clients stay

served_keeps : (clients : NumberMap (Option LastCall)) (seen : ℕ) (ledger : Ledger) (served : Served) → ledger.clients ≡ clients → (with_served seen ledger served).clients ≡ clients
served_keeps clients seen ledger served same = served_is (λ now. now.clients ≡ clients) seen ledger served same same same

-- they do when served calls get their records
pub clients_served : (ledger : Ledger) (seen : ℕ) (served : List Served) → (with_all_served seen ledger served).clients ≡ ledger.clients
clients_served ledger seen served =
    kept_by_fold (λ now. now.clients ≡ ledger.clients) (with_served seen) (served_keeps ledger.clients seen) served ledger refl

pub ended_keeps : (clients : NumberMap (Option LastCall)) (ledger : Ledger) (end : Ended) → ledger.clients ≡ clients → (with_end ledger end).clients ≡ clients
ended_keeps clients ledger end same = ended_is (λ now. now.clients ≡ clients) ledger end same (λ asked is. same)

-- and when a rebuild is taken
pub clients_rebuilt : (ledger : Ledger) (rebuilt : Option Rebuilt) → (with_rebuilt ledger rebuilt).clients ≡ ledger.clients
clients_rebuilt ledger None = refl
clients_rebuilt ledger (Some rebuilt) =
    kept_by_fold (λ now. now.clients ≡ ledger.clients) with_end (ended_keeps ledger.clients) rebuilt.ends ledger refl

-- ---- clients that come and ask

-- a map has as many things with another one under a number that it had, and one more with a new one
length_put : {X : Type 0} (things : NumberMap X) (number : ℕ) (thing : X) (there : Bool) → IsInOrder things → is_some (get things number) ≡ there
    → length (insert things number thing) ≡ cond there (length things) (length things + 1)
length_put things number thing there order is =
    length-put nat_cmp nat_cmp_total number thing things order ∙ ap (λ b. cond b (length things) (length things + 1)) is

-- what is well formed of a client: its number, and its last call, if there is one
abbrev IsFormedClient : Base → ℕ → ℕ → Option LastCall → Type 0
IsFormedClient base lane client last = IsNumber w32 1 client × IfSome last (IsFormedLast base lane client)

module _ (limits : Limits) (base : Base) (lane : ℕ) where
  -- a client comes that was not added, if others are fewer than there may be
  pub formed_client : {ledger : Ledger} {client : ℕ} → IsNumber w32 1 client → is_added ledger client ≡ false → length ledger.clients < MOST_CLIENTS → IsFormedLedger limits base lane ledger → IsFormedLedger limits base lane (with_client ledger client)
  formed_client {ledger} {client} number new few formed =
      let fewer : length (insert ledger.clients client None) ≤ MOST_CLIENTS = omega (arith, few, length_put ledger.clients client None false formed.clients_order new) in
      assumption (
        in_order_insert ledger.clients client None formed.clients_order,
        each_insert (IsFormedClient base lane) ledger.clients client None formed.clients (number, tt),
      )

  -- a client that was added asks a call
  pub formed_asked : {ledger : Ledger} {client : ℕ} {asked : LastCall} → IsNumber w32 1 client → is_added ledger client ≡ true → IsFormedLast base lane client asked → IsFormedLedger limits base lane ledger → IsFormedLedger limits base lane (with_asked ledger client asked)
  formed_asked {ledger} {client} {asked} number there last formed =
      let few : length (insert ledger.clients client (Some asked)) ≤ MOST_CLIENTS =
      omega (arith, formed.few, length_put ledger.clients client (Some asked) true formed.clients_order there) in
      assumption (
        in_order_insert ledger.clients client (Some asked) formed.clients_order,
        each_insert (IsFormedClient base lane) ledger.clients client (Some asked) formed.clients (number, last),
      )

  -- a client's last request is saved
  pub formed_requested : {ledger : Ledger} (client : ℕ) {message : Message} → IsFormedMessage limits message → IsFormedLedger limits base lane ledger → IsFormedLedger limits base lane (with_request ledger client message)
  formed_requested {ledger} client {message} new formed =
      assumption (
        in_order_insert ledger.requests client message formed.requests_order,
        each_insert (λ client message. IsFormedMessage limits message) ledger.requests client message formed.requests new,
      )
