-- How far the greatest number of a lane rises: by the messages that are sent, by the calls that get records, and by what terms and
-- counters rise.
use Rattle.std.proofs.Common.{◌≡◌, ◌≤◌, ℕ, ◌+◌, List, [], ◌∷◌, ◌++◌, length, map, fold, All, Option, None, Some, refl, sym, subst, arith}
use Rattle.std.proofs.Common.{unwrap_or}
use Rattle.rk_inv_wellformed.proofs.Words.{length-map, All-append, All-cons, All-map, NumberMap, get, insert, Call, Ended, Outcome}
use Rattle.rk_inv_wellformed.proofs.Words.{Traffic, Message, Rebuilt, Coordinator, outcome_of, IsWellFormed, last_stamp, Ledger, asked_by}
use Rattle.rk_inv_wellformed.proofs.Words.{seen_of, with_rebuilt, Master, filled, quietly, with_sends, Worked, World, counters_of}
use Rattle.rk_inv_wellformed.proofs.Words.{standing, with_all_sent, with_coordinator, with_ledger, with_master, with_top, LastCall}
use Rattle.rk_inv_wellformed.proofs.Words.{Served, with_message, next_record, with_all_served, with_end, with_ends, with_record}
use Rattle.rk_inv_wellformed.proofs.Words.{with_served, ledger_after}
use Rattle.rk_inv_wellformed.proofs.lanes.Ledgers.{ended_is, ended_keeps, served_is, clients_rebuilt, clients_served, last_pushed}
use Rattle.rk_inv_wellformed.proofs.lanes.Works.{after_coordinated, after_work}
use Rattle.rk_inv_wellformed.proofs.lanes.Worlds.{counters_in, seen_within, sent_within, stamp_within, stamps_seen, terms_in, terms_within}
use Rattle.rk_inv_wellformed.proofs.maps.{all_in_map, greatest_within, all_back, all_flat, all_given, by_found, All_insert}

-- what holds of each thing of a map, and of another one, holds of each with that one too
pub all_inserted : {X : Type 0} (P : X → Type 0) (things : NumberMap X) (number : ℕ) (thing : X) → P thing → All (λ entry. P entry.1) things → All (λ entry. P entry.1) (insert things number thing)
all_inserted P things number thing new all = All_insert (λ entry. P entry.1) things number thing all new

-- ---- each kind of number

-- the numbers of a world keep to a limit, by their kinds
pub record KeepsTo (limit : ℕ) (w : World) : Type 0 where
  pub top : w.top ≤ limit
  pub sent : w.wire.sent ≤ limit
  pub stamp : last_stamp w.ledger.journal ≤ limit
  pub seen : All (λ entry. seen_of entry.1 ≤ limit) w.ledger.clients
  pub terms : All (λ row. row.term ≤ limit) w.coordinator.rows
  pub counters : All (λ entry. All (λ n. n ≤ limit) (counters_of entry.1)) w.masters

-- those of a well formed lane keep to the greatest
pub keeps_to_top : (w : World) → IsWellFormed w → KeepsTo w.top w
keeps_to_top w formed = record {
  top = omega arith;
  sent = sent_within w w.top formed.standing;
  stamp = stamp_within w w.top formed.standing;
  seen = seen_within w w.top formed.standing;
  terms = terms_within w w.top formed.standing;
  counters = all_given (λ (n : ℕ). n ≤ w.top) (λ (entry : ℕ × Master). counters_of entry.1) w.masters
      (all_back (λ (n : ℕ). n ≤ w.top) (w.wire.sent ∷ last_stamp w.ledger.journal ∷ (stamps_seen w ++ terms_in w)) (counters_in w) formed.standing);
}

-- if they keep to a limit, the greatest is not above it
pub top_within : (limit : ℕ) (w : World) → KeepsTo limit w → (with_top w).top ≤ limit
top_within limit w keeps =
    let all : All (λ n. n ≤ limit) (standing w) =
    All-cons (λ n. n ≤ limit) w.wire.sent (last_stamp w.ledger.journal ∷ ((stamps_seen w ++ terms_in w) ++ counters_in w)) keeps.sent
    (All-cons (λ n. n ≤ limit) (last_stamp w.ledger.journal) ((stamps_seen w ++ terms_in w) ++ counters_in w) keeps.stamp
    (All-append (λ n. n ≤ limit) (stamps_seen w ++ terms_in w) (counters_in w)
    (All-append (λ n. n ≤ limit) (stamps_seen w) (terms_in w)
    (All-map (λ n. n ≤ limit) (λ entry. seen_of entry.1) w.ledger.clients keeps.seen)
    (All-map (λ n. n ≤ limit) (λ row. row.term) w.coordinator.rows keeps.terms))
    (all_flat (λ n. n ≤ limit) (λ entry. counters_of entry.1) w.masters keeps.counters))) in
    omega (arith, keeps.top, greatest_within limit (standing w) all)

still_below : (limit more n : ℕ) → limit ≤ more → n ≤ limit → n ≤ more
still_below limit more n greater below = omega arith

-- and so do all of some numbers
pub all_still_below : {X : Type 0} (number : X → ℕ) (limit more : ℕ) (list : List X) → limit ≤ more → All (λ x. number x ≤ limit) list
    → All (λ x. number x ≤ more) list
all_still_below number limit more list greater all place other within = still_below limit more _ greater (all place other within)

-- what keeps to a limit keeps to greater ones
pub keeps_to_more : (limit more : ℕ) (w : World) → limit ≤ more → KeepsTo limit w → KeepsTo more w
keeps_to_more limit more w greater keeps = grind (arith, still_below, last_stamp, all_still_below, seen_of)

-- ---- changes

-- a master whose counters keep to the limit
pub keeps_with_master : {limit : ℕ} {w : World} (number : ℕ) (master : Master) → All (λ n. n ≤ limit) (counters_of master) → KeepsTo limit w → KeepsTo limit (with_master w number master)
keeps_with_master {limit} {w} number master new keeps =
    assumption
    (all_inserted (λ (one : Master). All (λ n. n ≤ limit) (counters_of one)) w.masters number master new keeps.counters)

-- a coordinator whose terms do
pub keeps_with_coordinator : {limit : ℕ} {w : World} (coordinator : Coordinator) → All (λ row. row.term ≤ limit) coordinator.rows → KeepsTo limit w → KeepsTo limit (with_coordinator w coordinator)
keeps_with_coordinator coordinator new keeps = assumption

-- a ledger whose last stamp does, and what clients had seen there
pub keeps_with_ledger : {limit : ℕ} {w : World} (ledger : Ledger) → last_stamp ledger.journal ≤ limit → All (λ entry. seen_of entry.1 ≤ limit) ledger.clients → KeepsTo limit w → KeepsTo limit (with_ledger w ledger)
keeps_with_ledger ledger stamp seen keeps = assumption

-- each message that is sent counts
pub sent_all : (wire : Traffic) (messages : List Message) → (fold (λ now message. with_message message now) wire messages).sent ≡ wire.sent + length messages
sent_all wire [] = omega arith
sent_all wire (first ∷ rest) = omega (arith, sent_all (with_message first wire) rest)

pub keeps_with_sent : {limit : ℕ} {w : World} (messages : List Message) → KeepsTo limit w → KeepsTo (limit + length messages) (with_all_sent w messages)
keeps_with_sent {limit} {w} messages keeps = grind (arith, keeps_to_more, with_all_sent, sent_all)

-- ---- records

-- what clients had seen when they asked keeps to a limit
abbrev pub HaveSeen : ℕ → Ledger → Type 0
HaveSeen limit ledger = All (λ entry. seen_of entry.1 ≤ limit) ledger.clients

-- it does with the same clients
seen_kept : (limit : ℕ) (ledger later : Ledger) → later.clients ≡ ledger.clients → HaveSeen limit ledger → HaveSeen limit later
seen_kept limit ledger later same all = subst (All (λ entry. seen_of entry.1 ≤ limit)) (sym same) all

-- so what a client had seen keeps to it
seen_of_asked : (limit : ℕ) (ledger : Ledger) (client : ℕ) → HaveSeen limit ledger → seen_of (asked_by ledger client) ≤ limit
seen_of_asked limit ledger client all =
    by_found (λ found. seen_of (unwrap_or found None) ≤ limit) (get ledger.clients client) (λ none. omega arith)
    (λ last is. all_in_map (λ (one : Option LastCall). seen_of one ≤ limit) ledger.clients client last is all)

-- a record's stamp is one above the greatest of those that it follows
stamp_recorded : (most : ℕ) (ledger : Ledger) (call : Call) (outcome : Outcome) (seen : ℕ) → last_stamp ledger.journal ≤ most → seen ≤ most → last_stamp (with_record ledger call outcome seen).journal ≤ most + 1
stamp_recorded most ledger call outcome seen last within =
    omega (arith, last_pushed 0 ledger.journal (next_record ledger.journal call outcome seen))

stamp_served_once : (limit most seen : ℕ) (ledger : Ledger) (served : Served) → limit ≤ most → seen ≤ limit → HaveSeen limit ledger → last_stamp ledger.journal ≤ most → last_stamp (with_served seen ledger served).journal ≤ most + 1
stamp_served_once limit most seen ledger served greater within all last =
    served_is (λ now. last_stamp now.journal ≤ most + 1) seen ledger served (omega arith)
    (stamp_recorded most ledger served.call served.outcome seen last (omega arith))
    (stamp_recorded most ledger served.call served.outcome (seen_of (asked_by ledger served.call.client)) last
    (omega (arith, seen_of_asked limit ledger served.call.client all)))

-- steps that leave the clients, and raise the last stamp by one each at most
stamp_folded : {X : Type 0} (step : Ledger → X → Ledger) (limit : ℕ) → ((ledger : Ledger) (x : X) → (step ledger x).clients ≡ ledger.clients)
    → ((most : ℕ) (ledger : Ledger) (x : X) → limit ≤ most → HaveSeen limit ledger → last_stamp ledger.journal ≤ most
    → last_stamp (step ledger x).journal ≤ most + 1)
    → (most : ℕ) (ledger : Ledger) (list : List X) → limit ≤ most → HaveSeen limit ledger → last_stamp ledger.journal ≤ most
    → last_stamp (fold step ledger list).journal ≤ most + length list
stamp_folded step limit same one most ledger [] greater all last = omega arith
stamp_folded step limit same one most ledger (first ∷ rest) greater all last =
    omega (
      arith,
      stamp_folded step limit same one (most + 1) (step ledger first) rest (omega arith) (seen_kept limit ledger (step ledger first) (same ledger first) all)
          (one most ledger first greater all last),
    )

-- served calls raise the last stamp by one each at most
pub stamp_served : (limit most seen : ℕ) (ledger : Ledger) (served : List Served) → limit ≤ most → seen ≤ limit → HaveSeen limit ledger → last_stamp ledger.journal ≤ most → last_stamp (with_all_served seen ledger served).journal ≤ most + length served
stamp_served limit most seen ledger served greater within all last = stamp_folded (with_served seen) limit
    (λ now one. clients_served now seen (one ∷ []))
    (λ more now one up seen_all below. stamp_served_once limit more seen now one up within seen_all below) most ledger served greater all last

stamp_ended_once : (limit most : ℕ) (ledger : Ledger) (end : Ended) → limit ≤ most → HaveSeen limit ledger → last_stamp ledger.journal ≤ most → last_stamp (with_end ledger end).journal ≤ most + 1
stamp_ended_once limit most ledger end greater all last =
    ended_is (λ now. last_stamp now.journal ≤ most + 1) ledger end (omega arith)
    (λ asked is.
    let seen = subst (λ o. seen_of o ≤ limit) is (seen_of_asked limit ledger end.client all) in
    stamp_recorded most ledger asked.call (outcome_of end.end) asked.seen last (still_below limit most asked.seen greater seen))

-- and so do ends
stamp_ended : (limit most : ℕ) (ledger : Ledger) (ends : List Ended) → limit ≤ most → HaveSeen limit ledger → last_stamp ledger.journal ≤ most → last_stamp (with_ends ledger ends).journal ≤ most + length ends
stamp_ended limit most ledger ends greater all last = stamp_folded with_end limit (λ now end. ended_keeps now.clients now end refl)
    (stamp_ended_once limit) most ledger ends greater all last

-- how many ends a rebuild reports, if there is one
abbrev pub ends_in : Option Rebuilt → ℕ
ends_in None = 0
ends_in (Some rebuilt) = length rebuilt.ends

pub stamp_rebuilt : (limit : ℕ) (ledger : Ledger) (rebuilt : Option Rebuilt) → HaveSeen limit ledger → last_stamp ledger.journal ≤ limit → last_stamp (with_rebuilt ledger rebuilt).journal ≤ limit + ends_in rebuilt
stamp_rebuilt limit ledger None all last = omega arith
stamp_rebuilt limit ledger (Some rebuilt) all last = stamp_ended limit limit ledger rebuilt.ends (omega arith) all last

-- ---- the greatest number after an event

module _ (w : World) (formed : IsWellFormed w) where
  -- it rises by the messages that are sent
  pub top_after_sends : (messages : List Message) → (with_sends w messages).world.top ≤ w.top + length messages
  top_after_sends messages =
      top_within (w.top + length messages) (with_all_sent w messages) (keeps_with_sent messages (keeps_to_top w formed))

  keeps_at : (limit : ℕ) → w.top ≤ limit → KeepsTo limit w
  keeps_at limit up = keeps_to_more w.top limit w up (keeps_to_top w formed)

  -- when a master has worked, by what its counters rise, by its served calls and by its messages
  pub top_after_work : (rise number seen : ℕ) (worked : Worked) → seen ≤ w.top + rise → All (λ n. n ≤ w.top + rise) (counters_of worked.master) → (after_work w number seen worked).top ≤ w.top + rise + length worked.served + length worked.sends
  top_after_work rise number seen worked within counters =
      let ledger = ledger_after w.ledger number seen worked in
      let sends = map (filled ledger.journal worked.served) worked.sends in
      let now = with_ledger (with_master w number worked.master) ledger in
      let most = w.top + rise + length worked.served in
      let risen = keeps_at (w.top + rise) (omega arith) in
      let more = keeps_at most (omega arith) in
      let keeps = keeps_with_ledger ledger
      (stamp_served (w.top + rise) (w.top + rise) seen w.ledger worked.served (omega arith) within risen.seen risen.stamp)
      (seen_kept most w.ledger ledger (clients_served w.ledger seen worked.served) more.seen)
      (keeps_with_master number worked.master
      (all_still_below (λ n. n) (w.top + rise) most (counters_of worked.master) (omega arith) counters) more) in
      omega (
        arith,
        length-map worked.sends (filled ledger.journal worked.served),
        top_within (most + length sends) (with_all_sent now sends) (keeps_with_sent sends keeps),
      )

  -- when the coordinator has worked, by what its terms rise, by the ends that it took and by its messages
  pub top_after_coordinator : (rise : ℕ) (coordinator : Coordinator) (rebuilt : Option Rebuilt) (sends : List Message) → All (λ row. row.term ≤ w.top + rise) coordinator.rows → (after_coordinated w coordinator rebuilt sends).top ≤ w.top + rise + ends_in rebuilt + length sends
  top_after_coordinator rise coordinator rebuilt sends terms =
      let ledger = with_rebuilt w.ledger rebuilt in
      let most = w.top + rise + ends_in rebuilt in
      let risen = keeps_at (w.top + rise) (omega arith) in
      let more = keeps_at most (omega arith) in
      top_within (most + length sends) (with_all_sent (with_ledger (with_coordinator w coordinator) ledger) sends) (keeps_with_sent sends
      (keeps_with_ledger ledger (stamp_rebuilt (w.top + rise) w.ledger rebuilt risen.seen risen.stamp)
      (seen_kept most w.ledger ledger (clients_rebuilt w.ledger rebuilt) more.seen)
      (keeps_with_coordinator coordinator
      (all_still_below (λ row. row.term) (w.top + rise) most coordinator.rows (omega arith) terms) more)))

  -- and by what terms rise if nothing is sent
  pub top_with_coordinator : (rise : ℕ) (coordinator : Coordinator) → All (λ row. row.term ≤ w.top + rise) coordinator.rows → (quietly (with_coordinator w coordinator)).world.top ≤ w.top + rise
  top_with_coordinator rise coordinator terms = top_within (w.top + rise) (with_coordinator w coordinator)
      (keeps_with_coordinator coordinator terms (keeps_at (w.top + rise) (omega arith)))
