-- What a master makes of a client's request is well formed.
use Rattle.std.proofs.Common.{◌≡◌, ◌≤◌, ◌==◌, nat_lt, ℕ, not, ◌&&◌, All, List, [], ◌∷◌, ◌++◌, length, Option, None, Some}
use Rattle.std.proofs.Common.{refl, subst, arith, length-append, IfSome, IsTrue, w32, w64, ◌<◌}
use Rattle.rk_inv_wellformed.proofs.Words.{cond_both, All-cons, All-contains, All-head, All-tail, All-drop, All-nil, option_or, ⊤}
use Rattle.rk_inv_wellformed.proofs.Words.{get_same, hash_of, get, insert, value_fault, Call, Held, IsNumber, Entry, found, Completions}
use Rattle.rk_inv_wellformed.proofs.Words.{ended_of, ends_of, newest_is, Request, items_of, outcome_of, IsFormedMaster, IsFormedTablet}
use Rattle.rk_inv_wellformed.proofs.Words.{IsClient, IsFormedEnd, IsFormedEntry, IsFormedHeld, Limits, Master, tablet_at, with_tablet}
use Rattle.rk_inv_wellformed.proofs.Words.{IsLawfulCall, IsMaster, call_of, choice_of, chosen, counted_up, item_of, request_taken}
use Rattle.rk_inv_wellformed.proofs.Words.{with_staged, Tablet, counters_of, Choice, Redirects, Wants, Writes, Refuses, End, Op}
use Rattle.rk_inv_wellformed.proofs.Words.{is_mutation, IsLawfulOutcome, IsLawfulAnswer, refusal_of, Answer, IsFormedMessage, is_at, look}
use Rattle.rk_inv_wellformed.proofs.Words.{look_of, IsLawfulOp, IsFormedRequest, is_staged, serves_key, serving, staged, answering}
use Rattle.rk_inv_wellformed.proofs.Words.{choice_at, fresh_choice, mutation_choice, needs_state, operation, read_of, state_of}
use Rattle.rk_inv_wellformed.proofs.Words.{version_of, write_staged, value_written, Repeats, Ignores, Reads}
use Rattle.rk_done.specs.declared.completion.Look.{Look}
use Rattle.rk_overlay.specs.Live.{record_of}
use Rattle.rk_overlay.specs.Newest.{newest}
use Rattle.rk_world.specs.Requests.{is_known}
use Rattle.rk_inv_wellformed.proofs.lanes.More.{IsMore, more_master}
use Rattle.rk_inv_wellformed.proofs.masters.Work.{formed_answering, from_zero64, hash_fits, number_fits, AreLimits, IsFormedWork, Rises}
use Rattle.rk_inv_wellformed.proofs.masters.Work.{formed_changed, formed_sending, formed_told}
use Rattle.rk_inv_wellformed.proofs.maps.{pairs_from_ends, all_before, by_found, found_has, either_way, each_from_pairs, find_is_got}
use Rattle.rk_inv_wellformed.proofs.masters.Changes.{formed_with_staged, formed_with_tablet}
use Rattle.rk_inv_wellformed.proofs.masters.Tablets.{formed_counted_up, formed_found, formed_with_wanted}

-- ---- what a call finds

-- the items among well formed entries are well formed
pub items_formed : (limits : Limits) (entries : List Entry) → All (IsFormedEntry limits) entries → All (IsFormedHeld limits) (items_of entries)
items_formed limits [] each = All-nil (IsFormedHeld limits)
items_formed limits (Entry.Held held ∷ more) each =
    All-cons (IsFormedHeld limits) held (items_of more) (All-head (IsFormedEntry limits) (Entry.Held held) more each)
    (items_formed limits more (All-tail (IsFormedEntry limits) (Entry.Held held) more each))
items_formed limits (entry ∷ more) each = items_formed limits more (All-tail (IsFormedEntry limits) entry more each)

-- an item that is there is well formed
abbrev IsFormedState : Limits → Option Held → Type 0
IsFormedState limits state = IfSome state (IsFormedHeld limits)

newest_formed : (limits : Limits) (items : List Held) (table : ℕ) (key : List ℕ) → All (IsFormedHeld limits) items
    → IsFormedState limits (newest items table key)
newest_formed limits items table key each = by_found (IsFormedState limits) (newest items table key) (λ is. tt)
    (λ item is. All-contains (IsFormedHeld limits) items item each (newest_is items table key item is).stands)

-- what either of two may have, the first that there is has
pub either_formed : {X : Type 0} (P : X → Type 0) (first second : Option X) → IfSome first P → IfSome second P → IfSome (option_or first second) P
either_formed P None second a b = b
either_formed P (Some item) second a b = a

-- a record: its version keeps to the limits, and its value can be spelled
record IsFormedRecord (limits : Limits) (found : ℕ × List ℕ) : Type 0 where
  version : found.0 ≤ limits.top
  fits : IsNumber w64 1 found.0
  value : value_fault found.1 ≡ None

abbrev IsFormedLive : Limits → Option (ℕ × List ℕ) → Type 0
IsFormedLive limits live = IfSome live (IsFormedRecord limits)

record_formed : (limits : Limits) (state : Option Held) → IsFormedState limits state → IsFormedLive limits (record_of state)
record_formed limits state formed = grind (arith, by_found, value_fault)

-- ---- choices

-- a choice whose tablet is there, and whose answer or entry keeps to the limits
abbrev IsFormedChoice : Limits → Master → Choice → Type 0
IsFormedChoice limits master Redirects = ⊤
IsFormedChoice limits master (Repeats end) = IsLawfulOutcome end
IsFormedChoice limits master Ignores = ⊤
IsFormedChoice limits master (Wants number) = IsFormedTablet limits number (tablet_at master number)
IsFormedChoice limits master (Reads outcome) = IsLawfulAnswer (Answer.Done outcome)
IsFormedChoice limits master (Writes number) = IsFormedTablet limits number (tablet_at master number)
IsFormedChoice limits master (Refuses found absent) =
    IsNumber w64 0 found × (found ≤ limits.top) × (IsTrue absent → found ≡ 0)

-- what a read returns
read_formed : (limits : Limits) (live : Option (ℕ × List ℕ)) → IsFormedLive limits live → IsLawfulAnswer (Answer.Done (read_of live))
read_formed limits None formed = tt
read_formed limits (Some found) formed = (from_zero64 formed.fits, formed.value)

operation_formed : {limits : Limits} (master : Master) {number : ℕ} (op : Op) (live : Option (ℕ × List ℕ))
    → IsFormedTablet limits number (tablet_at master number) → IsFormedLive limits live
    → IsFormedChoice limits master (operation number op live)
operation_formed {limits} master op live there formed = grind (arith, read_formed, cond_both, version_of, from_zero64)

-- what a lawful operation writes is a value
pub written_lawful : (op : Op) → IsLawfulOp op → IfSome (value_written op) (λ value. value_fault value ≡ None)
written_lawful op lawful = grind arith

-- the end that is known of a call
look_formed : (limits : Limits) (completions : Completions) (client seq : ℕ) (end : End) → All (IsFormedEnd limits) (ends_of completions)
    → look completions client seq ≡ Look.Same end → IsLawfulOutcome end
look_formed limits completions client seq end each is =
    by_found (λ last. look_of last seq ≡ Look.Same end → IsLawfulOutcome end) (get completions client) (λ got e. absurd (cc e))
    (λ last got.
    let known : IsFormedEnd limits (ended_of (client, last)) =
    each_from_pairs (λ client completion. IsFormedEnd limits (ended_of (client, completion))) completions
    (pairs_from_ends (IsFormedEnd limits) completions each) client last got in
    let Ends : Look → Type 0 = λ look. look ≡ Look.Same end → IsLawfulOutcome end in
    cond_both (nat_lt last.seq seq) Look.New _ Ends (λ newer e. absurd (cc e))
    (λ older. cond_both (last.seq == seq) (Look.Same last.end) (Look.Old last.seq) Ends
    (λ same e. let is : last.end ≡ end = cc e in subst IsLawfulOutcome is known.lawful.outcome) (λ old e. absurd (cc e))))
    is

module _ (limits : Limits) (number : ℕ) (master : Master) (call : Call) (formed : IsFormedMaster limits number master) where
  -- the item that a call finds of its key
  state_formed : IsFormedState limits (state_of master call)
  state_formed =
      either_formed (IsFormedHeld limits) _ (found call.table call.key master.records)
      (either_way (IsFormedState limits) (is_mutation call.op)
      (newest_formed limits (items_of (staged master)) call.table call.key
      (items_formed limits (staged master) (All-drop (IsFormedEntry limits) master.applied master.log.entries formed.written)))
      tt)
      (found_has (IsFormedHeld limits) (is_at call.table call.key) master.records formed.records)

  module _ (id : ℕ) (tablet : Tablet) (there : IsFormedTablet limits id (tablet_at master id)) where
    fresh_formed : IsFormedChoice limits master (fresh_choice id tablet call (state_of master call))
    fresh_formed = either_way (IsFormedChoice limits master)
        (needs_state call.op && not (is_known tablet (hash_of call.key) (state_of master call))) there
        (operation_formed master call.op (record_of (state_of master call)) there
        (record_formed limits (state_of master call) state_formed))

    mutation_formed : All (IsFormedEnd limits) (ends_of tablet.completions) → (known : Look) → look tablet.completions call.client call.seq ≡ known
        → IsFormedChoice limits master (mutation_choice master id tablet call known)
    mutation_formed ended Look.New is = either_way (IsFormedChoice limits master) (is_staged master call.client call.seq) tt fresh_formed
    mutation_formed ended (Look.Same end) is = look_formed limits tablet.completions call.client call.seq end ended is
    mutation_formed ended (Look.Old seq) is = tt

-- what a master does with a call
choice_formed : (limits : Limits) (number : ℕ) (master : Master) (call : Call) → IsFormedMaster limits number master
    → IsFormedChoice limits master (choice_of master call)
choice_formed limits number master call formed = go (serving master call.table call.key) refl
  where
    go : (there : Option (ℕ × Tablet)) → serving master call.table call.key ≡ there → IsFormedChoice limits master (choice_at master call there)
    go None is = tt
    go (Some (id, tablet)) is =
        let got : get master.tablets id ≡ Some tablet = find_is_got (λ entry. serves_key call.table call.key entry.1) master.tablets (id, tablet) formed.tablets_order is in
        let here : IsFormedTablet limits id (tablet_at master id) = formed_found id tablet formed got in
        either_way (IsFormedChoice limits master) (is_mutation call.op)
        (mutation_formed limits number master call formed id tablet here (formed.tablets id tablet got).ended
        (look tablet.completions call.client call.seq) refl)
        (fresh_formed limits number master call formed id tablet here)

-- ---- what a choice changes

-- how a call ended, as it is answered
pub outcome_told : (end : End) → IsLawfulOutcome end → IsLawfulAnswer (Answer.Done (outcome_of end))
outcome_told end lawful = grind (arith, from_zero64)

-- the counter of a tablet that is so keeps to the limits if those of the master do
pub counter_with_tablet : (limits : Limits) (master : Master) (id : ℕ) (tablet : Tablet)
    → All (λ counter. counter ≤ limits.top) (counters_of (with_tablet master id tablet)) → tablet.handover.counter ≤ limits.top
counter_with_tablet limits master id tablet counters =
    each_from_pairs (λ number tablet. tablet.handover.counter ≤ limits.top) (insert master.tablets id tablet)
    (all_before (λ counter. counter ≤ limits.top) (λ entry. entry.1.handover.counter) (insert master.tablets id tablet) counters)
    id tablet (get_same master.tablets id tablet id refl)

-- if a choice writes, the counter of its tablet is not the greatest number
abbrev HasNext : Limits → Master → Choice → Type 0
HasNext limits master (Writes id) = (tablet_at master id).handover.counter < limits.top
HasNext limits master choice = ⊤

has_next : (small limits : Limits) (master : Master) (asked : ℕ) (call : Call) (choice : Choice) → IsFormedChoice small master choice
    → Rises small limits (chosen master asked call choice) → HasNext limits master choice
has_next small limits master asked call choice formed rises =
    grind (arith, counters_of, write_staged, item_of, tablet_at, counter_with_tablet, with_staged, counted_up)

module _ (limits : Limits) (number : ℕ) (master : Master) (call : Call) (are : AreLimits limits) (there : IsMaster limits.masters number)
    (formed : IsFormedMaster limits number master) (lawful : IsLawfulCall call) (client : IsClient limits call.client) where
  -- a call waits for the entry that is appended with it
  staged_formed : (entry : Entry) → IsFormedEntry limits entry → IsFormedMaster limits number (with_staged master call entry)
  staged_formed entry new =
      let within : length master.log.entries < length (master.log.entries ++ entry ∷ []) = omega (arith, length-append master.log.entries (entry ∷ [])) in
      formed_with_staged entry formed (assumption) new

  -- its client is answered
  answers : (answer : Answer) → IsLawfulAnswer answer → IsFormedMessage limits (answering master call answer)
  answers answer says = formed_answering limits master answer there formed.number_is lawful says

  -- what a choice makes
  chosen_formed : (asked : ℕ) (choice : Choice) → IsNumber w32 0 asked → IsFormedChoice limits master choice → HasNext limits master choice
      → IsFormedWork limits number 1 (chosen master asked call choice)
  chosen_formed asked Redirects fits choice next = formed_sending formed (answers (Answer.Moved asked) fits)
  chosen_formed asked (Repeats end) fits choice next = formed_sending formed (answers (Answer.Done (outcome_of end)) (outcome_told end choice))
  chosen_formed asked Ignores fits choice next = formed_changed formed
  chosen_formed asked (Wants id) fits choice next = formed_sending
      (formed_with_tablet formed (formed_with_wanted choice (hash_fits call.key)) (omega arith))
      (answers (Answer.NotYet call.key) lawful.key)
  chosen_formed asked (Reads outcome) fits choice next = formed_told formed (answers (Answer.Done outcome) choice) refl (omega arith)
  chosen_formed asked (Writes id) fits choice next =
      let counted = choice.counter in
      formed_changed (formed_with_tablet
      (staged_formed (Entry.Held (item_of call (tablet_at master id).handover.counter (value_written call.op))) (record {
        lawful = assumption (
          number_fits 1 (tablet_at master id).handover.counter are counted.first counted.last,
          written_lawful call.op lawful.op,
        );
        version = counted.last;
        client = client;
      }))
      (formed_counted_up choice next) (omega arith))
  chosen_formed asked (Refuses found absent) fits choice next = formed_changed
      (staged_formed (refusal_of call found absent) (record { lawful = assumption choice; found = choice.1; client = client }))

-- what a master makes of a client's request is well formed within limits as wide as those before; the tablet that the request names can
-- be spelled
pub formed_request : {small limits : Limits} {number : ℕ} {master : Master} {client : ℕ} {request : Request} → IsMore small limits
    → AreLimits limits → IsMaster limits.masters number → IsFormedMaster small number master → IsFormedRequest small client request
    → IsNumber w32 0 request.tablet → Rises small limits (request_taken master client request)
    → IsFormedWork limits number 1 (request_taken master client request)
formed_request {small} {limits} {number} {master} {client} {request} more are there formed asks fits rises =
    let call = call_of client request in
    let wide = more_master small limits more formed in
    chosen_formed limits number master call are there wide asks.call (more.clients client asks.client_is) request.tablet (choice_of master call) fits
    (choice_formed limits number master call wide)
    (has_next small limits master request.tablet call (choice_of master call) (choice_formed small number master call formed) rises)
