-- A client that gets a session is added in each lane first: each has room for it, since it has as many clients as there are sessions.
use Rattle.std.proofs.Common.{◌≡◌, ◌≤◌, ◌<◌, ◌+◌, ℕ, zero, suc, false, nat_le, List, [], ◌∷◌, ◌++◌, length, Option, Some, None, refl, sym}
use Rattle.std.proofs.Common.{subst, ◌∙◌, ⊎_elim, arith, Ok, Result, is_some, leb-false, leb-true, get_or-set_other, length-set}
use Rattle.rk_scripts.proofs.Words.{range_with_len, cases_lt, cond-false, IsInOrder, get, insert, numbers, in_order_insert, Gave, Session}
use Rattle.rk_scripts.proofs.Words.{new_session, Cluster, Joins, Occurrence, cluster_stepped, joined_by, lane_at, with_lane, is_added}
use Rattle.rk_scripts.proofs.Words.{where_true, worn, Stepped, quietly, step, stepped_by, World, new_world, with_ledger, with_top}
use Rattle.rk_scripts.proofs.Words.{StepError, Acted, all_acted, going_on, worn_in, code_where, first_code, is_client, client_makes}
use Rattle.rk_scripts.proofs.Words.{in_lane, in_lanes, Limit, lane_here, Event, client_code, MOST_CLIENTS}
use Rattle.rk_world.specs.Ledger.{with_client}
use Rattle.rk_cluster.specs.Acted.{acted_by}
use Rattle.rk_cluster.specs.declared.code.Code.TheVariants.{Taken}
use Rattle.rk_scripts.proofs.play.Tests.{passes}
use Rattle.rk_scripts.proofs.settle.Owning.{HasOwnClients}
use Rattle.rk_scripts.proofs.settle.SameNumbers.{as_many, found_alike, insert_alike}

-- ---- a client is added in a lane

module _ (w : World) (client : ℕ) (strange : is_added w.ledger client ≡ false) (few : length w.ledger.clients < MOST_CLIENTS) where
  -- so the client is added, unless the lane is worn
  comes : worn_in (step w (Event.AddClient client) (Gave None)) ≡ None
      → step w (Event.AddClient client) (Gave None) ≡ Ok (quietly (with_ledger w (with_client w.ledger client)))
  comes = grind (arith, worn, where_true, is_added, nat_le, worn_in, stepped_by, quietly, with_ledger, cond-false, leb-true)

-- ---- one lane after the other

-- nothing was worn if nothing is in the end
first_fresh : (first : Acted) (worn : Option ℕ) (next : Cluster → Acted) → first.worn ≡ worn → (going_on first worn next).worn ≡ None → worn ≡ None
first_fresh first None next is fresh = refl
first_fresh first (Some number) next is fresh = sym is ∙ fresh

-- what comes of the adding of a client in a lane, by what it makes
abbrev adding_by : ℕ → Cluster → ℕ → Result Stepped StepError → Acted
adding_by client cluster lane result = acted_by (in_lane lane (Event.AddClient client)) (cluster_stepped cluster lane result) [] result

module _ (client : ℕ) where
  -- in the lanes before one the client was added, and in the others not
  record IsAddedBefore (first : ℕ) (cluster : Cluster) : Type 0 where
    before : (lane : ℕ) → lane < first → numbers (lane_at cluster lane).ledger.clients ≡ numbers (insert cluster.sessions client (new_session client))
    after : (lane : ℕ) → first ≤ lane → lane < length cluster.lanes → numbers (lane_at cluster lane).ledger.clients ≡ numbers cluster.sessions

  -- in one more lane it is
  module _ (cluster : Cluster) (first : ℕ) (inside : first < length cluster.lanes) (is : IsAddedBefore first cluster) where
    abbrev now : World
    now = with_top (with_ledger (lane_at cluster first) (with_client (lane_at cluster first).ledger client))

    lane_same : (lane : ℕ) → (lane ≡ first → ⊥) → lane_at (with_lane cluster first now) lane ≡ lane_at cluster lane
    lane_same lane apart = get_or-set_other cluster.lanes first lane now (new_world lane 0 0) apart

    now_has : numbers now.ledger.clients ≡ numbers (insert cluster.sessions client (new_session client))
    now_has =
        insert_alike (lane_at cluster first).ledger.clients cluster.sessions (is.after first (omega arith) inside) client None (new_session client)

    one_more : IsAddedBefore (first + 1) (with_lane cluster first now)
    one_more = record {
      before = λ lane below.
          ⊎_elim
          (λ (earlier : lane < first).
          subst (λ (w : World). numbers w.ledger.clients ≡ numbers (insert cluster.sessions client (new_session client)))
          (sym (lane_same lane (λ same. absurd (omega (arith, same, earlier))))) (is.before lane earlier))
          (λ (later : first ≤ lane).
          let same : lane ≡ first = omega (arith, below, later) in
          subst (λ (l : ℕ). numbers (lane_at (with_lane cluster first now) l).ledger.clients ≡ numbers (insert cluster.sessions client (new_session client)))
          (sym same)
          (subst (λ (w : World). numbers w.ledger.clients ≡ numbers (insert cluster.sessions client (new_session client)))
          (sym (lane_here cluster first now inside)) now_has))
          (cases_lt lane first);
      after = λ lane above within.
          let there : lane < length cluster.lanes = omega (arith, within, length-set cluster.lanes first now) in
          let apart : lane ≡ first → ⊥ = λ same. absurd (omega (arith, same, above)) in
          subst (λ (w : World). numbers w.ledger.clients ≡ numbers cluster.sessions) (sym (lane_same lane apart))
          (is.after lane (omega (arith, above)) there);
    }

  -- at the end it joins
  joins : (cluster : Cluster) (found : Option Session) → get cluster.sessions client ≡ found → is_some found ≡ false → IsInOrder cluster.sessions
      → IsAddedBefore (length cluster.lanes) cluster → HasOwnClients (joined_by cluster client found)
  joins cluster found is strange order added = grind (arith, in_order_insert, new_session)

  adds : (count first : ℕ) (cluster : Cluster) → first + count ≡ length cluster.lanes → IsInOrder cluster.sessions → is_client cluster client ≡ false
      → length cluster.sessions < MOST_CLIENTS → IsAddedBefore first cluster
      → (all_acted cluster (in_lanes (range_with_len first count) (Event.AddClient client) ++ Joins client ∷ [])).worn ≡ None
      → HasOwnClients (all_acted cluster (in_lanes (range_with_len first count) (Event.AddClient client) ++ Joins client ∷ [])).cluster
  adds zero first cluster all order strange few added fresh = grind (arith, joins, cluster.lanes, cluster.sessions)
  adds (suc count) first cluster all order strange few added fresh =
      let w : World = lane_at cluster first in
      let result : Result Stepped StepError = step w (Event.AddClient client) (Gave None) in
      let later : List Occurrence = in_lanes (range_with_len (first + 1) count) (Event.AddClient client) ++ Joins client ∷ [] in
      let inside : first < length cluster.lanes = omega (arith, all) in
      let same : numbers w.ledger.clients ≡ numbers cluster.sessions = added.after first (omega arith) inside in
      let here : worn_in result ≡ None =
      first_fresh (adding_by client cluster first result) (worn_in result) (λ next. all_acted next later) refl fresh in
      let many = as_many w.ledger.clients cluster.sessions same in
      let is : result ≡ Ok (quietly (with_ledger w (with_client w.ledger client))) =
      comes w client (found_alike w.ledger.clients cluster.sessions same client ∙ strange) (omega (arith, few, many)) here in
      subst
      (λ (r : Result Stepped StepError). (going_on (adding_by client cluster first r) (worn_in r) (λ next. all_acted next later)).worn ≡ None
      → HasOwnClients (going_on (adding_by client cluster first r) (worn_in r) (λ next. all_acted next later)).cluster)
      (sym is)
      (λ more. adds count (first + 1) (with_lane cluster first (with_top (with_ledger w (with_client w.ledger client))))
      (omega (arith, all, length-set cluster.lanes first (with_top (with_ledger w (with_client w.ledger client))))) order strange few
      (one_more cluster first inside added) more)
      fresh

-- so the clients of each lane are those with sessions after it, if they were before and no code refuses it
pub client_own : (cluster : Cluster) (client : ℕ) → HasOwnClients cluster → client_code cluster client ≡ None → (all_acted cluster (client_makes cluster client)).worn ≡ None
    → HasOwnClients (all_acted cluster (client_makes cluster client)).cluster
client_own cluster client own none fresh =
    let first = passes (is_client cluster client) Taken (first_code (code_where (nat_le MOST_CLIENTS (length cluster.sessions)) Limit ∷ [])) none in
    let second = passes (nat_le MOST_CLIENTS (length cluster.sessions)) Limit None first.1 in
    adds client (length cluster.lanes) 0 cluster (omega arith) own.order first.0 (leb-false MOST_CLIENTS (length cluster.sessions) second.0)
    (record { before = λ lane below. absurd (omega (arith, below)); after = λ lane above inside. own.lanes lane inside }) fresh
