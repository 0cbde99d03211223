-- A client's turn or answer in a lane is one in the cluster.
use Rattle.rk_cluster.proofs.Words.{Said, acted, ◌≡◌, ◌≢◌, ◌<◌, ℕ, List, [], ◌∷◌, length, Option, None, Some, Result, Ok, Err, IfErr, IfOk}
use Rattle.rk_cluster.proofs.Words.{IfSome, IsSomeAnd, OnErr, slice_get, slice_set, unwrap_or, refl, sym, ap, subst, ◌∙◌, inr}
use Rattle.rk_cluster.proofs.Words.{arith, cases_eq, All-nil, slice_get_within, NumberMap, get, insert, Call, get_same, Segments, Visited}
use Rattle.rk_cluster.proofs.Words.{accept, ask, Session, new_session, Accepts, Asks, Cluster, ClusterMay, KeepsCalm, Occurrence}
use Rattle.rk_cluster.proofs.Words.{cluster_after, lane_at, session_at, ReplicasTell, AllTell, world_visited, World, new_world, StepError}
use Rattle.rk_cluster.proofs.Words.{Seen, LaneState, Running, world_with, IsVisitOf, acted_by, came_in, worn_in, ActsOne, IsActedAs, RunsTo}
use Rattle.rk_cluster.proofs.Words.{said_then, IsOf, IsWorld, state_of, AcceptsShort, HasSession}
use Rattle.rk_types.specs.NumberMap.{IsInOrder}
use Rattle.rk_types.specs.declared.call.Ended.{Ended}
use Rattle.rk_types.proofs.NumberMaps.{get_other, in_order_insert, same_map}
use Rattle.rk_world.specs.Base.{Base, no_base}
use Rattle.rk_world.specs.Cluster.{cluster_visited}
use Rattle.rk_world.specs.Premises.{IsAfterStart}
use Rattle.rk_world.specs.Refusals.{accept_refusal, ask_refusal}
use Rattle.rk_world.specs.declared.error.StepError.TheVariants as causes
use Rattle.rk_lane.specs.Visits.{IsRefusedFor}
use Rattle.rk_cluster.specs.Acted.{said_by, said_in}
use Rattle.rk_inv_tablets.proofs.steady.Lanes.{tell_accepted, tell_asked}
use Rattle.rk_cluster.proofs.Leading.{leads_by, leads_nowhere}
use Rattle.rk_cluster.proofs.Tells.{all_visited}
use Rattle.rk_cluster.proofs.Worlds.{same_count, set_there, world_at, world_set}

-- what is put in the place of itself changes nothing
pub insert_there : {X : Type 0} (things : NumberMap X) (number : ℕ) (thing : X) → IsInOrder things → get things number ≡ Some thing → insert things number thing ≡ things
insert_there {X} things number thing order there = grind (arith, same_map, insert, in_order_insert, get_same, get_other, cases_eq)

-- each call comes after a start from nothing
pub after_nothing : (call : Option Call) → IfSome call (IsAfterStart no_base)
after_nothing None = tt
after_nothing (Some call) = All-nil (λ (end : Ended). end.client ≡ call.client → end.seq < call.seq)

module _ {R : Type 0} (segments : R → Option Segments) where
  -- what a visit makes of a world and of a session, and what it answers
  abbrev pub HasVisited : LaneState R → LaneState R → Session → Session → Result Seen StepError → Result Visited StepError → Type 0
  HasVisited old new session later (Ok seen) (Ok visited) = IsWorld segments new visited.world × (visited.session ≡ later) × (visited.seen ≡ seen)
  HasVisited old new session later (Err cause) (Err error) = (error ≡ cause) × (new ≡ old) × (later ≡ session)
  HasVisited old new session later answer visited = ⊥

  abbrev pub VisitsLane : (World → Result Visited StepError) → LaneState R → LaneState R → Session → Session → Result Seen StepError → Type 0
  VisitsLane visit old new session later answer = (w : World) → IsWorld segments old w → HasVisited old new session later answer (visit w)

  taken : (visit : World → Result Visited StepError) → ((v : World) → AllTell v → AllTell (world_visited v (visit v))) → (old new : LaneState R) (session later : Session) (seen : Seen)
      → IsVisitOf visit old new later seen → VisitsLane visit old new session later (Ok seen)
  taken visit keeps old new session later seen it w is = grind (arith, world_with, all_visited)

  -- why a visit is refused is the same in each world that a lane represents
  known_there : (refusal : World → Option StepError) (old : LaneState R) (error : StepError) → IsRefusedFor refusal old error → (running : Running) → old.running ≡ Some running
      → refusal (world_with old running []) ≡ Some error
  known_there refusal old error it running runs =
      subst (λ (o : Option Running). IsSomeAnd o (λ it. refusal (world_with old it []) ≡ Some error)) runs it

  pub asks_lane : (old new : LaneState R) (session later : Session) (answer : Result Seen StepError) → (answer ≡ Err causes.NoMemory → ⊥)
      → IfOk answer (λ seen. IsVisitOf (λ w. ask w session) old new later seen)
      → IfErr answer (λ e. e ≢ causes.NoMemory → IsRefusedFor (λ w. ask_refusal w session) old e)
      → OnErr answer (new ≡ old) → IfErr answer (λ e. e ≢ causes.NoMemory → later ≡ session)
      → VisitsLane (λ w. ask w session) old new session later answer
  asks_lane old new session later answer memory ok refused lane stays = grind (arith, taken, ask, tell_asked, known_there)

  pub accepts_lane : (number : ℕ) (old new : LaneState R) (session later : Session) (answer : Result Seen StepError) → (answer ≡ Err causes.NoMemory → ⊥)
      → IfOk answer (λ seen. IsVisitOf (λ w. accept w number session) old new later seen)
      → IfErr answer (λ e. e ≢ causes.NoMemory → IsRefusedFor (λ w. accept_refusal w number session.client (get w.wire.messages number)) old e)
      → OnErr answer (new ≡ old) → OnErr answer (later ≡ session)
      → VisitsLane (λ w. accept w number session) old new session later answer
  accepts_lane number old new session later answer memory ok refused lane stays = grind (arith, taken, accept, tell_accepted, known_there)

  -- ---- in a cluster

  module _ (cluster : Cluster) (lanes : List (LaneState R)) (sessions : NumberMap Session) (place client : ℕ) (old new : LaneState R) (session later : Session)
      (there : slice_get lanes place ≡ Some old) (found : get sessions client ≡ Some session) (order : IsInOrder sessions)
      (is : IsOf segments (state_of lanes sessions) cluster) where
    is_after : (answer : Result Seen StepError) (visited : Result Visited StepError) → HasVisited old new session later answer visited
        → IsOf segments (state_of (slice_set lanes place new) (insert sessions client later)) (cluster_visited cluster place client visited)
    is_after (Ok seen) (Ok visited) has = record {
      lanes = world_set segments lanes cluster.lanes place new visited.world is.lanes has.0;
      sessions = ap (λ (known : NumberMap Session). insert known client visited.session) is.sessions ∙ ap (insert sessions client) has.1;
    }
    is_after (Ok seen) (Err error) has = absurd has
    is_after (Err cause) (Ok visited) has = absurd has
    is_after (Err cause) (Err error) has =
        subst (λ (now : List (LaneState R)). IsOf segments (state_of now (insert sessions client later)) cluster)
        (sym (ap (slice_set lanes place) has.1 ∙ set_there lanes place old there))
        (record { lanes = is.lanes; sessions = is.sessions ∙ sym (ap (insert sessions client) has.2 ∙ insert_there sessions client session order found) })

    worn_after : (answer : Result Seen StepError) (visited : Result Visited StepError) → HasVisited old new session later answer visited → worn_in visited ≡ worn_in answer
    worn_after (Ok seen) (Ok visited) has = refl
    worn_after (Ok seen) (Err error) has = absurd has
    worn_after (Err cause) (Ok visited) has = absurd has
    worn_after (Err cause) (Err error) has = ap (λ (e : StepError). worn_in {T = Visited} (Err e)) has.0

    said_after : (answer : Result Seen StepError) (visited : Result Visited StepError) → HasVisited old new session later answer visited
        → said_in session visited ≡ said_then session.outstanding later.receipts answer
    said_after (Ok seen) (Ok visited) has =
        ap (λ (it : Session). said_by session.outstanding it.receipts visited.seen.taken) has.1
        ∙ ap (λ (it : Seen). said_by session.outstanding later.receipts it.taken) has.2
    said_after (Ok seen) (Err error) has = absurd has
    said_after (Err cause) (Ok visited) has = absurd has
    said_after (Err cause) (Err error) has = refl

    -- its session there
    session_is : session_at cluster client ≡ session
    session_is = ap (λ (known : NumberMap Session). unwrap_or (get known client) (new_session client)) is.sessions ∙ ap (λ (o : Option Session). unwrap_or o (new_session client)) found

    world_is : IsWorld segments old (lane_at cluster place)
    world_is = world_at segments lanes cluster.lanes place old (new_world place 0 0) is.lanes there

    within_cluster : place < length cluster.lanes
    within_cluster = omega (arith, slice_get_within lanes place old there, same_count segments lanes cluster.lanes is.lanes)

    -- a lane in code has a history that starts from nothing
    after_start : IfSome (session_at cluster client).outstanding (IsAfterStart (lane_at cluster place).base)
    after_start =
        subst (λ (base : Base). IfSome (session_at cluster client).outstanding (IsAfterStart base)) (sym (ap (λ (w : World). w.base) world_is.is))
        (after_nothing (session_at cluster client).outstanding)

    -- that came if the client is not refused, and else nothing did
    visit_leads : (occurrence : Occurrence) → ClusterMay cluster occurrence → KeepsCalm cluster occurrence → ReplicasTell cluster occurrence → (visited : Result Visited StepError)
        → cluster_after cluster occurrence ≡ cluster_visited cluster place client visited → RunsTo cluster (came_in occurrence visited) (cluster_visited cluster place client visited)
    visit_leads occurrence may calm tell (Ok visited) same = subst (RunsTo cluster (occurrence ∷ [])) same (leads_by cluster occurrence may calm tell)
    visit_leads occurrence may calm tell (Err error) same = leads_nowhere cluster

    -- what occurs then is given by the session as it is in the cluster
    acted_by_known : (occurrence : Occurrence) (visit : World → Session → Result Visited StepError) (said : Session → List Said) (told : List Said) (answer : Result Seen StepError)
        → VisitsLane (λ w. visit w session) old new session later answer
        → (HasVisited old new session later answer (visit (lane_at cluster place) session) → said session ≡ told) → (known : Session) → known ≡ session
        → RunsTo cluster (came_in occurrence (visit (lane_at cluster place) known)) (cluster_visited cluster place client (visit (lane_at cluster place) known))
        → IsActedAs segments cluster (state_of (slice_set lanes place new) (insert sessions client later)) told (worn_in answer)
        (acted_by occurrence (cluster_visited cluster place client (visit (lane_at cluster place) known)) (said known) (visit (lane_at cluster place) known))
    acted_by_known occurrence visit said told answer visits tells known known_is leads =
        let w = lane_at cluster place in
        let has = visits w world_is in
        record {
          cluster = rw known_is (is_after answer (visit w session) has);
          leads = leads;
          said = ap said known_is ∙ tells has;
          worn = ap (λ (it : Session). worn_in (visit w it)) known_is ∙ worn_after answer (visit w session) has;
        }

    asks_there : (answer : Result Seen StepError) → VisitsLane (λ w. ask w session) old new session later answer
        → IsActedAs segments cluster (state_of (slice_set lanes place new) (insert sessions client later)) [] (worn_in answer) (acted cluster (Asks place client))
    asks_there answer visits =
        acted_by_known (Asks place client) ask (λ it. []) [] answer visits (λ has. refl) (session_at cluster client) session_is
        (visit_leads (Asks place client) (within_cluster, after_start) tt tt (ask (lane_at cluster place) (session_at cluster client)) refl)

    accepts_there : (number : ℕ) (answer : Result Seen StepError) → VisitsLane (λ w. accept w number session) old new session later answer
        → IsActedAs segments cluster (state_of (slice_set lanes place new) (insert sessions client later)) (said_then session.outstanding later.receipts answer) (worn_in answer)
        (acted cluster (Accepts place number client))
    accepts_there number answer visits =
        let w = lane_at cluster place in
        acted_by_known (Accepts place number client) (λ v. accept v number) (λ it. said_in it (accept w number it)) (said_then session.outstanding later.receipts answer) answer
        visits (said_after answer (accept w number session)) (session_at cluster client) session_is
        (visit_leads (Accepts place number client) within_cluster tt tt (accept w number (session_at cluster client)) refl)

  pub asks : (lanes : List (LaneState R)) (sessions : NumberMap Session) (place client : ℕ) (old new : LaneState R) (session later : Session) (answer : Result Seen StepError)
      → slice_get lanes place ≡ Some old → get sessions client ≡ Some session → IsInOrder sessions → VisitsLane (λ w. ask w session) old new session later answer
      → ActsOne segments (state_of lanes sessions) (state_of (slice_set lanes place new) (insert sessions client later)) (Asks place client) [] (worn_in answer)
  asks lanes sessions place client old new session later answer there found order visits cluster is =
      asks_there cluster lanes sessions place client old new session later there found order is answer visits

  pub accepts : (lanes : List (LaneState R)) (sessions : NumberMap Session) (place number client : ℕ) (old new : LaneState R) (session later : Session) (answer : Result Seen StepError)
      → slice_get lanes place ≡ Some old → get sessions client ≡ Some session → IsInOrder sessions → VisitsLane (λ w. accept w number session) old new session later answer
      → ActsOne segments (state_of lanes sessions) (state_of (slice_set lanes place new) (insert sessions client later)) (Accepts place number client) (said_then session.outstanding later.receipts answer) (worn_in answer)
  accepts lanes sessions place number client old new session later answer there found order visits cluster is =
      accepts_there cluster lanes sessions place client old new session later there found order is number answer visits

  -- if memory was wanting, the client has taken nothing, or all
  pub accepts_short : (lanes : List (LaneState R)) (sessions : NumberMap Session) (place number client : ℕ) (old new : LaneState R) (session later : Session) (answer : Result Seen StepError)
      → slice_get lanes place ≡ Some old → get sessions client ≡ Some session → IsInOrder sessions
      → IfOk answer (λ seen. IsVisitOf (λ w. accept w number session) old new later seen)
      → IfErr answer (λ e. e ≢ causes.NoMemory → IsRefusedFor (λ w. accept_refusal w number session.client (get w.wire.messages number)) old e)
      → OnErr answer (new ≡ old) → OnErr answer (later ≡ session)
      → AcceptsShort segments (state_of lanes sessions) (state_of (slice_set lanes place new) (insert sessions client later)) place number client
  accepts_short lanes sessions place number client old new session later (Ok seen) there found order ok refused kept stays =
      inr (
        said_then session.outstanding later.receipts (Ok seen),
        accepts lanes sessions place number client old new session later (Ok seen) there found order
            (accepts_lane number old new session later (Ok seen) (λ never. absurd (cc never)) ok refused kept stays),
      )
  accepts_short lanes sessions place number client old new session later (Err error) there found order ok refused kept stays =
      grind (arith, slice_set, set_there, insert, insert_there)

-- who has a session keeps one
pub has_after : (sessions : NumberMap Session) (client : ℕ) (later : Session) (other : ℕ) → HasSession sessions other → HasSession (insert sessions client later) other
has_after sessions client later other has = grind (arith, get_same, get_other, cases_eq)
