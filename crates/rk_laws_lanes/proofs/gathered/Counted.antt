-- If lanes have counted their calls, and were asked at most as many as sessions made that ended, each call was answered.
use Rattle.std.proofs.Common.{◌≡◌, ℕ, ◌+◌, ◌≤◌, Bool, true, false, List, [], ◌∷◌, Option, Some, None, refl, sym, ap, ◌∙◌, subst}
use Rattle.std.proofs.Common.{arith, Contains, IfSome, map, not, All, sum_by}
use Rattle.rk_inv_base.proofs.Words.{All-cons, All-contains, All-head, All-nil, All-tail, sum_by-cons, Placed, Ledger, asked_by, is_accepted, World}
use Rattle.rk_inv_base.proofs.Words.{LastCall, IsAccepted, IsLastCall, WasAsked, IsSound}
use Rattle.std.specs.List.{count_by}
use Rattle.std.proofs.lemmas.List.Kept.{AllPairs-cons}
use Rattle.rk_runs.proofs.Below.{found_accepted}
use Rattle.rk_laws_lanes.specs.Counts.{accepted_count}
use Rattle.rk_laws_lanes.specs.gathered.OpenCalls.{HasCountedCalls, HasOpenCall, is_open}
use Rattle.rk_laws_lanes.proofs.gathered.Pairs.{pairs_none}
use Rattle.rk_laws_lanes.proofs.gathered.Pigeonhole.{in_cases}

-- ---- one lane

-- no more records are accepted than calls were asked
accepted_room : (ledger : Ledger) → HasCountedCalls ledger → accepted_count ledger ≤ ledger.asked
accepted_room ledger counted =
    let none = counted [] (pairs_none (λ a b. a ≡ b → ⊥)) (All-nil (HasOpenCall ledger)) in omega (arith, none)

-- and fewer, if a call is open
open_room : (ledger : Ledger) → HasCountedCalls ledger → (client : ℕ) → HasOpenCall ledger client → accepted_count ledger + 1 ≤ ledger.asked
open_room ledger counted client opened =
    let one =
    counted (client ∷ []) (AllPairs-cons (λ a b. a ≡ b → ⊥) client [] (All-nil (λ n. client ≡ n → ⊥)) (pairs_none (λ a b. a ≡ b → ⊥)))
    (All-cons (HasOpenCall ledger) client [] opened (All-nil (HasOpenCall ledger))) in
    omega (arith, one)

-- ---- all lanes

abbrev accepted_by_lanes : List World → ℕ
accepted_by_lanes lanes = sum_by (λ journal. count_by (λ placed. placed.accepted) journal) (map (λ w. w.ledger.journal) lanes)

abbrev asked_of_lanes : List World → ℕ
asked_of_lanes lanes = sum_by (λ w. w.ledger.asked) lanes

abbrev Counted : World → Type 0
Counted w = HasCountedCalls w.ledger

pub lanes_room : (lanes : List World) → All Counted lanes → accepted_by_lanes lanes ≤ asked_of_lanes lanes
lanes_room [] all = omega arith
lanes_room (w ∷ lanes) all =
    let own = accepted_room w.ledger (All-head Counted w lanes all) in
    let rest = lanes_room lanes (All-tail Counted w lanes all) in
    let accepted =
    sum_by-cons (λ (journal : List Placed). count_by (λ placed. placed.accepted) journal) w.ledger.journal
    (map (λ (w : World). w.ledger.journal) lanes) in
    let asked = sum_by-cons (λ (w : World). w.ledger.asked) w lanes in
    omega (arith, own, rest, accepted, asked)

pub open_lanes_room : (lanes : List World) → All Counted lanes → (v : World) → Contains lanes v → (client : ℕ) → HasOpenCall v.ledger client
    → accepted_by_lanes lanes + 1 ≤ asked_of_lanes lanes
open_lanes_room [] all v stands client opened = absurd (let inside = stands.1 in omega (arith, inside))
open_lanes_room (w ∷ lanes) all v stands client opened =
    let first = All-head Counted w lanes all in
    let later = All-tail Counted w lanes all in
    let accepted =
    sum_by-cons (λ (journal : List Placed). count_by (λ placed. placed.accepted) journal) w.ledger.journal
    (map (λ (w : World). w.ledger.journal) lanes) in
    let asked = sum_by-cons (λ (w : World). w.ledger.asked) w lanes in
    in_cases w lanes v (accepted_by_lanes (w ∷ lanes) + 1 ≤ asked_of_lanes (w ∷ lanes))
    (λ (is : w ≡ v).
    let own = open_room w.ledger first client (subst (λ (u : World). HasOpenCall u.ledger client) (sym is) opened) in
    let rest = lanes_room lanes later in
    omega (arith, own, rest, accepted, asked))
    (λ (there : Contains lanes v).
    let own = accepted_room w.ledger first in
    let rest = open_lanes_room lanes later v there client opened in
    omega (arith, own, rest, accepted, asked))
    stands

-- ---- a lane without open calls

-- in a sound lane a last call that is not open is accepted
pub last_accepted : (w : World) → IsSound w → (client : ℕ) → (HasOpenCall w.ledger client → ⊥)
    → IfSome (asked_by w.ledger client) (λ last. IsAccepted w.ledger.journal last.call)
last_accepted w sound client none = by_last (asked_by w.ledger client) refl
  where
    found : (last : LastCall) → asked_by w.ledger client ≡ Some last → last.call.client ≡ client
        → is_accepted w.ledger.journal last.call.client last.call.seq ≡ true → IsAccepted w.ledger.journal last.call
    found last is own accepted =
        let it = found_accepted w.ledger.journal last.call.client last.call.seq accepted in
        let was : WasAsked (Some last) w.ledger.journal it.placed.call =
        subst (λ (o : Option LastCall). WasAsked o w.ledger.journal it.placed.call) (ap (asked_by w.ledger) (it.client_is ∙ own) ∙ is)
        (All-contains (λ (placed : Placed). WasAsked
        (asked_by w.ledger placed.call.client) w.ledger.journal placed.call) w.ledger.journal it.placed sound.asked.recorded it.stands) in
        record {
          placed = it.placed;
          stands = it.stands;
          call_is = grind (arith, w.ledger.journal);
          accepted = it.accepted;
        }

    by_flag : (last : LastCall) → asked_by w.ledger client ≡ Some last → last.call.client ≡ client → (flag : Bool)
        → is_accepted w.ledger.journal last.call.client last.call.seq ≡ flag → IsAccepted w.ledger.journal last.call
    by_flag last is own true accepted = found last is own accepted
    by_flag last is own false accepted = absurd (none (ap (is_open w.ledger.journal) is ∙ ap not accepted))

    by_last : (last : Option LastCall) → asked_by w.ledger client ≡ last → IfSome last (λ last. IsAccepted w.ledger.journal last.call)
    by_last None is = tt
    by_last (Some last) is =
        let its : IsLastCall w.base w.lane client last =
        subst (λ (o : Option LastCall). IfSome o (IsLastCall w.base w.lane client)) is (sound.asked.last client) in
        by_flag last is its.own (is_accepted w.ledger.journal last.call.client last.call.seq) refl
