-- How many bytes a target gets by a replay of items that are logged: it takes each of them once at most, so no more than all logs have.
use Rattle.std.proofs.Common.{◌≡◌, ◌≤◌, ◌+◌, ◌%◌, ◌&&◌, ℕ, Bool, true, false, cond, nat_lt, List, [], ◌∷◌, length, All, Some, refl, sym, ap}
use Rattle.std.proofs.Common.{◌∙◌, ⊎_elim, arith, Contains, sum_by, if◌then◌else◌}
use Rattle.rk_inv_base.proofs.Words.{cases_Bool, cond-false, cond-true, cond_both, nat_tests, All-head, All-tail, All-weaker, sum-map}
use Rattle.rk_inv_base.proofs.Words.{sum_by-cons, spelled_of, IsInOrder, Held, spelled_all, order_after, found, is_newer, with_newer}
use Rattle.rk_inv_base.proofs.Words.{IsInScanOrder, end, is_batch, is_of_parts, Got, Pulled, items_of, IsWellFormed, Master, log_bytes}
use Rattle.rk_inv_base.proofs.Words.{tablet_at, as_entries, got_taken, hashes_resolved, is_token, item_replayed, pulled_all, pulled_taken}
use Rattle.rk_inv_base.proofs.Words.{replay, replay_one, token_passed, is_receiving_at, Worked, changed, World, bytes_of_logs, master_at}
use Rattle.std.proofs.lemmas.List.Sums.{sum_by-le-sum_by}
use Rattle.rk_table.proofs.Changes.{found_after, found_newer}
use Rattle.rk_inv_wellformed.proofs.bytes.PullBytes.{got_bytes, pulled_bytes}
use Rattle.rk_inv_wellformed.proofs.bytes.TurnBytes.{CLOSING_BYTES}
use Rattle.rk_inv_wellformed.proofs.masters.Pulls.{items_again}
use Rattle.rk_inv_wellformed.proofs.masters.Sealing.{items_spelled}
use Rattle.rk_inv_lanes.specs.room.Logged.{IsLogged}
use Rattle.rk_inv_lanes.specs.room.Replayed.{got_items, pulled_items}
use Rattle.rk_inv_lanes.proofs.room.Sums.{all_logged, logged_bytes, logged_stands, sum_less, where_few}
use Rattle.std.specs.List.Sorted.{IsStrictlySortedBy}
use Rattle.rk_inv_events.proofs.events.Coordinating.{of_master}

-- ---- what records lack

-- the bytes of an item if it is newer than what records have of its key, and else 0
abbrev lacks : List Held → Held → ℕ
lacks records item = if is_newer item (found item.table item.key records) then spelled_of item else 0

-- so no more of it is lacked then
lacks_less : (item put : Held) (records : List Held) → IsInScanOrder records → is_newer put (found put.table put.key records) ≡ true
    → lacks (with_newer put records) item ≤ lacks records item
lacks_less item put records order newer =
    grind (arith, is_newer, found, with_newer, cond_both, spelled_of, is_of_parts, found_newer, found_after, cases_Bool, nat_lt, nat_tests)

-- the bytes of what records lack of a list
abbrev lacking : List Held → List Held → ℕ
lacking list records = sum_by (lacks records) list

-- no item is newer than itself
newer_itself : (item : Held) → is_newer item (Some item) ≡ false
newer_itself item = grind (arith, nat_tests)

-- an item of the list that is newer, once put, is lacked no more
put_less : (list : List Held) (put : Held) (records : List Held) → IsInScanOrder records → is_newer put (found put.table put.key records) ≡ true
    → Contains list put → lacking list (with_newer put records) + spelled_of put ≤ lacking list records
put_less list put records order newer stands =
    let gone : is_newer put (found put.table put.key (with_newer put records)) ≡ false =
    ap (is_newer put) (found_newer put records order newer) ∙ newer_itself put in
    sum_less (lacks (with_newer put records)) (lacks records) (spelled_of put) list put (λ item. lacks_less item put records order newer) stands
    (omega (
      arith,
      ap (λ (b : Bool). cond b (spelled_of put) 0) gone,
      ap (λ (b : Bool). cond b (spelled_of put) 0) newer,
    ))

-- ---- what is taken

-- the items that a replay takes: each, if it is newer than what the records have then
abbrev taken : List Held → List Held → List Held
taken records [] = []
taken records (item ∷ items) =
    if is_newer item (found item.table item.key records) then item ∷ taken (with_newer item records) items else taken records items

-- they have no more bytes than the records lack of a list that has all the items
taken_few : (list items records : List Held) → IsInScanOrder records → All (λ item. Contains list item) items
    → sum_by spelled_of (taken records items) ≤ lacking list records
taken_few list [] records order stand = omega arith
taken_few list (item ∷ items) records order stand =
    let later = All-tail (λ x. Contains list x) item items stand in
    cond_both (is_newer item (found item.table item.key records)) (item ∷ taken (with_newer item records) items) (taken records items)
    (λ (some : List Held). sum_by spelled_of some ≤ lacking list records)
    (λ newer.
    omega (
      arith,
      sum_by-cons spelled_of item (taken (with_newer item records) items),
      taken_few list items (with_newer item records) (order_after item records order) later,
      put_less list item records order newer (All-head (λ x. Contains list x) item items stand),
    ))
    (λ older. taken_few list items records order later)

-- a replay of these items alone makes the same master
replay_taken : (number worker : ℕ) (items : List Held) (master : Master)
    → replay master number worker items ≡ replay master number worker (taken master.records items)
replay_taken number worker [] master = refl
replay_taken number worker (item ∷ items) master =
    let newer : Bool = is_newer item (found item.table item.key master.records) in
    let put : Master = item_replayed number worker master item in
    ⊎_elim
    (λ (is : newer ≡ true).
    let one : replay_one number worker master item ≡ put = cond-true newer put master is in
    let some : taken master.records (item ∷ items) ≡ item ∷ taken put.records items =
    cond-true newer (item ∷ taken put.records items) (taken master.records items) is in
    ap (λ (it : Master). replay it number worker items) one ∙ replay_taken number worker items put
    ∙ sym (ap (λ (it : Master). replay it number worker (taken put.records items)) one)
    ∙ sym (ap (replay master number worker) some))
    (λ (is : newer ≡ false).
    let one : replay_one number worker master item ≡ master = cond-false newer put master is in
    let some : taken master.records (item ∷ items) ≡ taken master.records items =
    cond-false newer (item ∷ taken put.records items) (taken master.records items) is in
    ap (λ (it : Master). replay it number worker items) one ∙ replay_taken number worker items master
    ∙ sym (ap (replay master number worker) some))
    (cases_Bool newer)

-- ---- at a master of a lane

module _ (w : World) (number : ℕ) (formed : IsWellFormed w) where
  -- the tablets of a master are in order, and so are its records
  master_order : IsInOrder (master_at w number).tablets × IsInScanOrder (master_at w number).records
  unfolding IsStrictlySortedBy
  master_order = of_master w formed (λ m. IsInOrder m.tablets × IsInScanOrder m.records) number (tt, tt)
      (λ m is its. (its.tablets_order, its.scanned))

  -- what it takes of items that are logged has no more bytes than all logs
  taken_bytes : (items : List Held) → All (IsLogged w) items
      → length (spelled_all (as_entries (taken (master_at w number).records items))) ≤ bytes_of_logs w
  taken_bytes items logged =
      let records : List Held = (master_at w number).records in
      let some : List Held = taken records items in
      omega (
        arith,
        items_spelled some,
        sum-map spelled_of some,
        taken_few (all_logged w) items records master_order.1
            (All-weaker (IsLogged w) (λ item. Contains (all_logged w) item) (λ item is. logged_stands is) items logged),
        sum_by-le-sum_by (lacks records) spelled_of (all_logged w)
            (λ item. where_few (is_newer item (found item.table item.key records)) (spelled_of item)),
        logged_bytes formed,
      )

-- ---- what a target takes

-- what becomes of a replay if a test holds is the same if only the entries of what is taken are replayed
replay_where : (test : Bool) (after : Master → Worked) (number worker : ℕ) (items : List Held) (master : Master)
    → cond test (after (replay master number worker items)) (changed master)
    ≡ cond test (after (replay master number worker (items_of (as_entries (taken master.records (cond test items [])))))) (changed master)
replay_where test after number worker items master = grind (arith, replay_taken, replay, items_again)

-- a Pulled with these entries alone makes the same
pulled_same : (master : Master) (pulled : Pulled)
    → pulled_taken master pulled ≡ pulled_taken master (record pulled { entries = as_entries (taken master.records (pulled_items master pulled)) })
pulled_same master pulled =
    let id : ℕ = pulled.tenure.tablet in
    let it = tablet_at master id in
    let passed : Master → Master = λ replayed. token_passed replayed id pulled.next in
    replay_where (is_receiving_at it pulled.tenure.term && is_token pulled.token it.pulling.token)
    (λ replayed. changed (if is_token pulled.next end then pulled_all (passed replayed) id else passed replayed))
    id (it.pulling.batches % 4) (items_of pulled.entries) master

-- and so does a Got
got_same : (master : Master) (message : Got)
    → got_taken master message ≡ got_taken master (record message { entries = as_entries (taken master.records (got_items master message)) })
got_same master message =
    let id : ℕ = message.tenure.tablet in
    let it = tablet_at master id in
    replay_where (is_receiving_at it message.tenure.term && is_batch it.pulling.hashes.outstanding message.hashes)
    (λ replayed. changed (hashes_resolved replayed id message.hashes)) id 0 (items_of message.entries) master

-- a master that takes a Pulled whose items are logged has at most the bytes of all logs more, and those of a closing entry
pub pulled_within : {w : World} (number : ℕ) (pulled : Pulled) → IsWellFormed w → All (IsLogged w) (pulled_items (master_at w number) pulled)
    → log_bytes (pulled_taken (master_at w number) pulled).master ≤ log_bytes (master_at w number) + bytes_of_logs w + CLOSING_BYTES
pulled_within {w} number pulled formed logged =
    let master : Master = master_at w number in
    let items : List Held = pulled_items master pulled in
    rw (pulled_same master pulled)
    (omega (
      arith,
      pulled_bytes master (record pulled { entries = as_entries (taken master.records items) }) (master_order w number formed).0,
      taken_bytes w number formed items logged,
    ))

-- and a master that takes such a Got at most the bytes of all logs more
pub got_within : {w : World} (number : ℕ) (message : Got) → IsWellFormed w → All (IsLogged w) (got_items (master_at w number) message)
    → log_bytes (got_taken (master_at w number) message).master ≤ log_bytes (master_at w number) + bytes_of_logs w
got_within {w} number message formed logged =
    let master : Master = master_at w number in
    let items : List Held = got_items master message in
    rw (got_same master message)
    (omega (
      arith,
      got_bytes master (record message { entries = as_entries (taken master.records items) }) (master_order w number formed).0,
      taken_bytes w number formed items logged,
    ))
