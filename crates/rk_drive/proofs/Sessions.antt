-- Sessions of clients whose calls are all answered, each under its client.
use Rattle.std.proofs.Common.{◌≡◌, ℕ, ◌+◌, List, [], ◌∷◌, ◌++◌, length, map, refl, sym, ap, ◌∙◌, arith}
use Rattle.std.specs.List.{All, flat_map, range_with_len}
use Rattle.std.proofs.lemmas.List.{length-map, map-append}
use Rattle.std.proofs.lemmas.List.Concat.{flat_map-cons}
use Rattle.std.proofs.lemmas.List.Elements.{All-cons, All-head, All-nil, All-tail}
use Rattle.std.proofs.lemmas.List.FromFn.{length-range_with_len}
use Rattle.std.proofs.lemmas.List.Sums.{sum_by-cons}
use Rattle.rk_types.specs.NumberMap.{EachIn, IsInOrder, numbers}
use Rattle.rk_types.specs.declared.history.Receipt.{Receipt}
use Rattle.rk_world.specs.Client.{Session}
use Rattle.rk_laws_drives.specs.Below.{waiting}
use Rattle.rk_inv_wellformed.proofs.maps.Maps.{each_from_pairs}
use Rattle.rk_inv_wellformed.proofs.maps.Numbered.{numbered_order}
use Rattle.rk_laws_drives.specs.Below.{IsEnded, IsOrderly}
use Rattle.rk_laws_drives.specs.Below.{calls_in, receipts_in}
use Rattle.rk_shared_lanes.specs.Passes.{MakesOnly}
use Rattle.rk_shared_lanes.specs.Together.{AllOrderly, calls_of as calls_made}
use Rattle.rk_workload.specs.Workload.{calls_of, workload}
use Rattle.rk_drive.specs.Driven.{HasAnswers, IsOfWorkload}
use Rattle.rk_drive.proofs.Calls.{calls_from}
use Rattle.rk_drive.proofs.Entries.{entry_of, head_same, tail_same}

numbers_of_entries : (sessions : List Session) → numbers (map entry_of sessions) ≡ map (λ session. session.client) sessions
numbers_of_entries [] = refl
numbers_of_entries (session ∷ sessions) = ap (λ (rest : List ℕ). session.client ∷ rest) (numbers_of_entries sessions)

pub entries_in_order : (sessions : List Session) (count : ℕ) → map (λ session. session.client) sessions ≡ range_with_len 1 count → IsInOrder (map entry_of sessions)
entries_in_order sessions count are = numbered_order (map entry_of sessions) count (numbers_of_entries sessions ∙ are)

all_ended : (calls : ℕ) (sessions : List Session) → AllOrderly sessions → All (HasAnswers calls) sessions → All (λ entry. IsEnded entry.0 entry.1) (map entry_of sessions)
all_ended calls [] orderly answered = All-nil _
all_ended calls (session ∷ sessions) orderly answered =
    All-cons (λ (entry : ℕ × Session). IsEnded entry.0 entry.1) (entry_of session) (map entry_of sessions)
    (record {
      orderly = All-head (λ (s : Session). IsOrderly s.client s) session sessions orderly;
      answered = (All-head (HasAnswers calls) session sessions answered).answered;
    })
    (all_ended calls sessions (All-tail (λ (s : Session). IsOrderly s.client s) session sessions orderly) (All-tail (HasAnswers calls) session sessions answered))

pub entries_ended : (calls : ℕ) (sessions : List Session) → AllOrderly sessions → All (HasAnswers calls) sessions → EachIn IsEnded (map entry_of sessions)
entries_ended calls sessions orderly answered = each_from_pairs IsEnded (map entry_of sessions) (all_ended calls sessions orderly answered)

-- what orderly sessions made is what their numbers show
pub entries_called : (sessions : List Session) → AllOrderly sessions → calls_in (map entry_of sessions) ≡ calls_made sessions
entries_called [] orderly = refl
entries_called (session ∷ sessions) orderly =
    let head = (All-head (λ (s : Session). IsOrderly s.client s) session sessions orderly).last in
    let tail = entries_called sessions (All-tail (λ (s : Session). IsOrderly s.client s) session sessions orderly) in
    let one = sum_by-cons (λ (entry : ℕ × Session). entry.1.last) (entry_of session) (map entry_of sessions) in
    let other = sum_by-cons (λ (s : Session). length s.receipts + waiting s.outstanding) session sessions in
    omega (arith, head, tail, one, other)

-- ---- receipts

one_made : (calls keys from : ℕ) (session : Session) → session.client ≡ from → IsOrderly session.client session → HasAnswers calls session → MakesOnly (IsOfWorkload keys) session
    → map (λ receipt. receipt.call) session.receipts ≡ calls_of calls keys from
one_made calls keys from session client orderly answered made = grind (arith, calls_from)

all_made : (calls keys from : ℕ) (sessions : List Session) → map (λ session. session.client) sessions ≡ range_with_len from (length sessions)
    → AllOrderly sessions → All (HasAnswers calls) sessions → All (MakesOnly (IsOfWorkload keys)) sessions
    → map (λ receipt. receipt.call) (receipts_in (map entry_of sessions)) ≡ flat_map (calls_of calls keys) (range_with_len from (length sessions))
all_made calls keys from [] are orderly answered made = refl
all_made calls keys from (session ∷ sessions) are orderly answered made =
    let head =
    one_made calls keys from session (head_same are) (All-head (λ (s : Session). IsOrderly s.client s) session sessions orderly)
    (All-head (HasAnswers calls) session sessions answered) (All-head (MakesOnly (IsOfWorkload keys)) session sessions made) in
    let tail =
    all_made calls keys (from + 1) sessions (tail_same are) (All-tail (λ (s : Session). IsOrderly s.client s) session sessions orderly)
    (All-tail (HasAnswers calls) session sessions answered) (All-tail (MakesOnly (IsOfWorkload keys)) session sessions made) in
    ap (map (λ (receipt : Receipt). receipt.call)) (flat_map-cons (λ (entry : ℕ × Session). entry.1.receipts) (entry_of session) (map entry_of sessions))
    ∙ map-append (λ (receipt : Receipt). receipt.call) session.receipts (receipts_in (map entry_of sessions))
    ∙ (λ i. head i ++ tail i)
    ∙ sym (flat_map-cons (calls_of calls keys) from (range_with_len (from + 1) (length sessions)))

-- how many clients there are
pub count_is : (sessions : List Session) (count : ℕ) → map (λ session. session.client) sessions ≡ range_with_len 1 count → length sessions ≡ count
count_is sessions count are = sym (length-map sessions (λ (session : Session). session.client)) ∙ ap length are ∙ length-range_with_len 1 count

pub entries_made : (clients calls keys : ℕ) (sessions : List Session) → map (λ session. session.client) sessions ≡ range_with_len 1 clients
    → AllOrderly sessions → All (HasAnswers calls) sessions → All (MakesOnly (IsOfWorkload keys)) sessions
    → map (λ receipt. receipt.call) (receipts_in (map entry_of sessions)) ≡ workload clients calls keys
entries_made clients calls keys sessions are orderly answered made = grind (arith, entry_of, count_is, all_made)
