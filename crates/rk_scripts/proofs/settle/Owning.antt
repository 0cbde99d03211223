-- The clients that were added in each lane of a cluster are those that have a session. It stays so whatever occurs, unless a client is
-- added or joins.
use Rattle.std.proofs.Common.{arith, ◌≡◌, ◌<◌, ℕ, true, List, [], ◌∷◌, length, All, Option, None, Some, refl, sym, ap, subst, ◌∙◌, Err, Ok}
use Rattle.std.proofs.Common.{Result, is_some}
use Rattle.rk_scripts.proofs.Words.{All-head, All-tail, IsInOrder, numbers, in_order_insert, Visited, Session, Cluster, Happens, Joins}
use Rattle.rk_scripts.proofs.Words.{Occurrence, cluster_after, cluster_stepped, cluster_visited, lane_at, with_lane, with_session}
use Rattle.rk_scripts.proofs.Words.{world_stepped, world_visited, Stepped, World, StepError, Acted, acted, all_acted, going_on, is_client}
use Rattle.rk_scripts.proofs.Words.{AreAdded, EachLane, each_lane, get_or_past}
use Rattle.rk_settle.proofs.Occurred.{acted_is}
use Rattle.rk_scripts.proofs.settle.OwnClients.{AddsNobody, HasSameClients, same_stepped, same_turn}
use Rattle.rk_scripts.proofs.settle.SameNumbers.{found_alike, in_order_alike}
use Rattle.rk_inv_wellformed.proofs.maps.Numbered.{numbers_stay}

-- sessions are in order, and the clients of each lane are those that have one
pub record HasOwnClients (cluster : Cluster) : Type 0 where
  pub order : IsInOrder cluster.sessions
  pub lanes : EachLane (λ w. numbers w.ledger.clients ≡ numbers cluster.sessions) cluster

-- nobody is added by an occurrence
abbrev pub IsOfOwn : Occurrence → Type 0
IsOfOwn (Happens lane event called) = AddsNobody event
IsOfOwn (Joins client) = ⊥
IsOfOwn occurrence = Unit {0}

module _ (cluster : Cluster) (own : HasOwnClients cluster) where
  -- who has a session was added in each lane
  pub own_added : AreAdded cluster
  own_added client session found lane inside =
      found_alike (lane_at cluster lane).ledger.clients cluster.sessions (own.lanes lane inside) client ∙ ap is_some found

  -- a lane has the same clients as before
  lane_own : (lane : ℕ) (now : World) → (lane < length cluster.lanes → HasSameClients (lane_at cluster lane) now) → HasOwnClients (with_lane cluster lane now)
  lane_own lane now same = record {
    order = own.order;
    lanes = each_lane (λ (w : World). numbers w.ledger.clients ≡ numbers cluster.sessions) cluster lane now
        (λ there. same there ∙ own.lanes lane there) own.lanes;
  }

  -- a session is another
  session_own : (client : ℕ) (session : Session) → is_client cluster client ≡ true → HasOwnClients (with_session cluster client session)
  session_own client session known = grind (arith, in_order_insert, numbers_stay)

  stepped_own : (lane : ℕ) (result : Result Stepped StepError) → HasSameClients (lane_at cluster lane) (world_stepped (lane_at cluster lane) result)
      → HasOwnClients (cluster_stepped cluster lane result)
  stepped_own lane (Ok stepped) same = lane_own lane stepped.world (λ there. same)
  stepped_own lane (Err error) same = own

visited_own : (cluster : Cluster) → HasOwnClients cluster → (lane client : ℕ) (result : Result Visited StepError)
    → (lane < length cluster.lanes → HasSameClients (lane_at cluster lane) (world_visited (lane_at cluster lane) result))
    → ((visited : Visited) → result ≡ Ok visited → is_client cluster client ≡ true) → HasOwnClients (cluster_visited cluster lane client result)
visited_own cluster own lane client (Ok visited) same known =
    session_own (with_lane cluster lane visited.world) (lane_own cluster own lane visited.world same) client visited.session (known visited refl)
visited_own cluster own lane client (Err error) same known = own

-- ---- all that may occur, but for clients that are added and join

own_after : (cluster : Cluster) (occurrence : Occurrence) → HasOwnClients cluster → IsOfOwn occurrence → HasOwnClients (cluster_after cluster occurrence)
own_after cluster occurrence own nobody =
    grind (arith, stepped_own, same_stepped, visited_own, same_turn, in_order_alike, session_own, found_alike, get_or_past)

going_own : (first : Acted) (worn : Option ℕ) (next : Cluster → Acted) → HasOwnClients first.cluster → HasOwnClients (next first.cluster).cluster
    → HasOwnClients (going_on first worn next).cluster
going_own first None next own later = later
going_own first (Some number) next own later = own

-- some of these, one after the other
pub own_all : (cluster : Cluster) (occurrences : List Occurrence) → HasOwnClients cluster → All IsOfOwn occurrences → HasOwnClients (all_acted cluster occurrences).cluster
own_all cluster [] own nobody = own
own_all cluster (occurrence ∷ later) own nobody =
    let here : HasOwnClients (acted cluster occurrence).cluster =
    subst HasOwnClients (sym (acted_is cluster occurrence)) (own_after cluster occurrence own (All-head IsOfOwn occurrence later nobody)) in
    going_own (acted cluster occurrence) (acted cluster occurrence).worn (λ next. all_acted next later) here
    (own_all (acted cluster occurrence).cluster later here (All-tail IsOfOwn occurrence later nobody))
