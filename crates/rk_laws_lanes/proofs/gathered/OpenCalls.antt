-- A ledger that has counted its calls goes on doing so: when records are added that are not accepted, when a client asks, and when it takes
-- the answer to its open call.
use Rattle.std.proofs.Common.{◌≡◌, ◌≢◌, ℕ, zero, suc, ◌+◌, ◌≤◌, Bool, true, false, ◌&&◌, ◌||◌, cond, List, [], ◌∷◌, ◌++◌, Option, Some}
use Rattle.std.proofs.Common.{None, length, refl, sym, ap, ◌∙◌, subst, ⊎_elim, arith, Contains, slice_get, unwrap_or, All, AllPairs, eq-eqb}
use Rattle.rk_inv_base.proofs.Words.{list_any, and_from, cases_eq, false≢true, All-contains, All-cons, All-contains_itself, All-weaker}
use Rattle.rk_inv_base.proofs.Words.{list_any-append, sum_by-cons, get_other, Placed, accepted_at, as_accepted, is_accepted, is_of_call}
use Rattle.rk_inv_base.proofs.Words.{Ledger, asked_by, with_asked, LastCall}
use Rattle.std.specs.List.{count_by}
use Rattle.std.proofs.lemmas.List.Kept.{AllPairs-cons}
use Rattle.rk_world.specs.Ledger.{new_ledger, with_accepted}
use Rattle.rk_laws_lanes.specs.Counts.{accepted_count}
use Rattle.rk_laws_lanes.specs.gathered.OpenCalls.{HasCountedCalls, HasOpenCall, is_open}
use Rattle.rk_laws_lanes.proofs.gathered.Pairs.{pairs_head, pairs_none, pairs_tail}
use Rattle.rk_laws_lanes.proofs.gathered.Pigeonhole.{first_in, in_cases, later_in}

-- ---- the test

open_before : (before after : List Placed) (last : Option LastCall)
    → ((client seq : ℕ) → is_accepted before client seq ≡ true → is_accepted after client seq ≡ true) → is_open after last ≡ true
    → is_open before last ≡ true
open_before before after last stay is = grind (arith, is_accepted, false≢true)

-- ---- a new lane

pub new_counted : HasCountedCalls new_ledger
new_counted holds apart opened = grind (arith, false≢true)

-- ---- more records

-- records are added that are not accepted
pub grown_counted : (before after : Ledger) (more : List Placed) → after.journal ≡ before.journal ++ more
    → ((client : ℕ) → asked_by after client ≡ asked_by before client)
    → accepted_count after ≡ accepted_count before → after.asked ≡ before.asked → HasCountedCalls before → HasCountedCalls after
grown_counted before after more journal_is clients accepted asked counted =
    grind (arith, is_accepted, is_of_call, list_any-append, open_before, asked_by)

-- ---- a call is asked

-- some numbers without one of them
record AreOthers (one : ℕ) (all : List ℕ) : Type 0 where
  pub list : List ℕ
  pub apart : AllPairs (λ a b. a ≢ b) list
  pub among : (n : ℕ) → Contains list n → Contains all n
  pub other : All (λ n. n ≢ one) list
  pub few : length all ≤ length list + 1

others : (one : ℕ) (all : List ℕ) → AllPairs (λ a b. a ≢ b) all → AreOthers one all
others one [] apart = grind (arith, pairs_none)
others one (first ∷ rest) apart =
    let R : ℕ → ℕ → Type 0 = λ a b. a ≢ b in
    let before : All (λ n. first ≢ n) rest = pairs_head R first rest apart in
    let later = others one rest (pairs_tail R first rest apart) in
    let few = later.few in
    ⊎_elim
    (λ (is : first ≡ one). record {
      list = rest;
      apart = pairs_tail R first rest apart;
      among = λ n stands. later_in first rest n stands;
      other = All-weaker (λ n. first ≢ n) (λ n. n ≢ one) (λ n differs same. differs (is ∙ sym same)) rest before;
      few = omega arith;
    })
    (λ (differs : first ≢ one). record {
      list = first ∷ later.list;
      apart =
          AllPairs-cons R first later.list
          (All-weaker (Contains later.list) (λ n. first ≢ n)
          (λ n stands. All-contains (λ n. first ≢ n) rest n before (later.among n stands)) later.list
          (All-contains_itself later.list))
          later.apart;
      among = λ n stands. in_cases first later.list n (Contains (first ∷ rest) n)
          (λ is. subst (Contains (first ∷ rest)) is (first_in first rest)) (λ there. later_in first rest n (later.among n there)) stands;
      other = All-cons (λ n. n ≢ one) first later.list differs later.other;
      few = omega (arith, few);
    })
    (cases_eq first one)

pub asked_counted : (ledger : Ledger) (client : ℕ) (last : LastCall) → HasCountedCalls ledger
    → HasCountedCalls (with_asked ledger client last)
asked_counted ledger client last counted clients apart opened =
    let without = others client clients apart in
    let few = without.few in
    let open_there : All (HasOpenCall ledger) without.list =
    All-weaker (λ n. Contains without.list n × (n ≢ client)) (HasOpenCall ledger)
    (λ n both.
    let now = All-contains (HasOpenCall (with_asked ledger client last)) clients n opened (without.among n both.0) in
    subst (λ (o : Option LastCall). is_open ledger.journal o ≡ true)
    (ap (λ (o : Option (Option LastCall)). unwrap_or o None) (get_other ledger.clients client (Some last) n both.1)) now)
    without.list (λ k d inside. (All-contains_itself without.list k d inside, without.other k d inside)) in
    let was = counted without.list without.apart open_there in
    omega (arith, was, few)

-- ---- an answer is taken

abbrev test_of : ℕ → ℕ → Placed → Bool
test_of client seq placed = placed.accepted && is_of_call client seq placed

-- what a test finds, it still finds once a record is accepted
still_found : (client seq : ℕ) (journal : List Placed) (place : ℕ) (placed : Placed) → slice_get journal place ≡ Some placed
    → is_accepted journal client seq ≡ true
    → is_accepted (accepted_at journal place (Some placed)) client seq ≡ true
still_found client seq [] place placed at is = is
still_found client seq (first ∷ rest) zero placed at is = grind (arith, is_of_call, first.accepted)
still_found client seq (first ∷ rest) (suc place) placed at is =
    later (test_of client seq first) (list_any (test_of client seq) rest) (is_accepted (accepted_at rest place (Some placed)) client seq)
    (still_found client seq rest place placed at) is
  where
    later : (first rest now : Bool) → (rest ≡ true → now ≡ true) → (first || rest) ≡ true → (first || now) ≡ true
    later true rest now stay is = refl
    later false rest now stay is = stay is

-- the record that is accepted is found
now_found : (client seq : ℕ) (journal : List Placed) (place : ℕ) (placed : Placed) → slice_get journal place ≡ Some placed
    → is_of_call client seq placed ≡ true
    → is_accepted (accepted_at journal place (Some placed)) client seq ≡ true
now_found client seq [] place placed at of = absurd (cc at)
now_found client seq (first ∷ rest) zero placed at of = ap (λ (b : Bool). b || list_any (test_of client seq) rest) of
now_found client seq (first ∷ rest) (suc place) placed at of =
    grind (arith, is_accepted, accepted_at, (now_found client seq rest place placed at of))

abbrev weight : Placed → ℕ
weight placed = cond {A = ℕ} placed.accepted 1 0

-- at most one record more is accepted
one_more : (journal : List Placed) (place : ℕ) (placed : Placed) → slice_get journal place ≡ Some placed
    → count_by (λ placed. placed.accepted) (accepted_at journal place (Some placed)) ≤ count_by (λ placed. placed.accepted) journal + 1
one_more [] place placed at = absurd (cc at)
one_more (first ∷ rest) zero placed at =
    let now = sum_by-cons weight (as_accepted placed) rest in
    let before = sum_by-cons weight first rest in
    omega (arith, now, before)
one_more (first ∷ rest) (suc place) placed at =
    let later = one_more rest place placed at in
    let now = sum_by-cons weight first (accepted_at rest place (Some placed)) in
    let before = sum_by-cons weight first rest in
    omega (arith, later, now, before)

-- a client takes the answer to its open call, whose record is at a place
module _ (ledger : Ledger) (client place : ℕ) (placed : Placed) (last : LastCall) (at : slice_get ledger.journal place ≡ Some placed) (client_is : placed.call.client ≡ last.call.client) (seq_is : placed.call.seq ≡ last.call.seq) (asked : asked_by ledger client ≡ Some last) (opened : is_open ledger.journal (Some last) ≡ true) where
  abbrev now : List Placed
  now = accepted_at ledger.journal place (Some placed)

  abbrev after : Ledger
  after = record ledger { journal = now }

  closed : is_open now (asked_by ledger client) ≡ false
  closed = grind (arith, is_of_call, and_from, eq-eqb, now_found)

  open_still : (n : ℕ) → HasOpenCall after n → HasOpenCall ledger n
  open_still n is =
      open_before ledger.journal now (asked_by ledger n) (λ c s found. still_found c s ledger.journal place placed at found) is

  not_it : (n : ℕ) → HasOpenCall after n → client ≢ n
  not_it n is same =
      false≢true (sym closed ∙ ap (λ (c : ℕ). is_open now (asked_by ledger c)) same ∙ is)

  counted_now : HasCountedCalls ledger → HasCountedCalls after
  counted_now counted clients apart open_now =
      let was =
      counted (client ∷ clients)
      (AllPairs-cons (λ a b. a ≢ b) client clients (All-weaker (HasOpenCall after) (λ n. client ≢ n) not_it clients open_now) apart)
      (All-cons (HasOpenCall ledger) client clients (ap (is_open ledger.journal) asked ∙ opened)
      (All-weaker (HasOpenCall after) (HasOpenCall ledger) open_still clients open_now)) in
      let few = one_more ledger.journal place placed at in
      omega (arith, was, few)

  pub accepted_counted : HasCountedCalls ledger → HasCountedCalls (with_accepted ledger place)
  accepted_counted counted = grind (arith, accepted_at, counted_now)
