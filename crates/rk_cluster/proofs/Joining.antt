-- How a client gets a session.
use Rattle.rk_cluster.proofs.Words.{◌≡◌, ◌≤◌, ◌<◌, ◌^◌, ℕ, Bool, true, false, List, [], ◌∷◌, ◌++◌, All, length, map, is_some, nat_le}
use Rattle.rk_cluster.proofs.Words.{Option, None, Some, refl, sym, ap, subst, ◌∙◌, inl, arith, nat_tests, range_with_len, NumberMap, get}
use Rattle.rk_cluster.proofs.Words.{insert, LANES, Segments, Session, new_session, Cluster, Joins, Occurrence, MayAct, MayHappen, new_world}
use Rattle.rk_cluster.proofs.Words.{Event, LaneState, acted_well, all_acted, client_code, code_where, first_code, ActsBy, ActsOne}
use Rattle.rk_cluster.proofs.Words.{CutShortBy, EndsIn, HasCode, IsActedAs, all_lanes, client_makes, in_lanes, ClusterState, IsOf}
use Rattle.rk_cluster.proofs.Words.{AreStepsCutShort, CarriesSteps, IsDeed, IsPlain, StepsEndWorn, WhereWorn, occurrences, state_of, Code}
use Rattle.rk_cluster.proofs.Words.{Limit, Taken, ClusterError, Deed}
use Rattle.std.specs.Int.{w32}
use Rattle.rk_entry.specs.Numbers.{IsNumber}
use Rattle.rk_world.specs.Refusals.{MOST_CLIENTS}
use Rattle.rk_world.specs.declared.event.Event.TheVariants as events
use Rattle.rk_cluster.specs.declared.error.ClusterError.TheVariants as errors
use Rattle.rk_cluster.proofs.Carrying.{only_acts}
use Rattle.rk_cluster.proofs.Leading.{leads_by}
use Rattle.rk_cluster.proofs.Shortage.{before_short, came_short, made_short}
use Rattle.rk_cluster.proofs.Worlds.{same_count}

-- ---- tests

pub absent_none : {X : Type 0} (found : Option X) → is_some found ≡ false → found ≡ None
absent_none None absent = refl
absent_none (Some x) absent = absurd (cc absent)

pub many : (count : ℕ) → MOST_CLIENTS ≤ count → nat_le MOST_CLIENTS count ≡ true
many count much = grind (arith, nat_tests, much)

pub few : (count : ℕ) → count < MOST_CLIENTS → nat_le MOST_CLIENTS count ≡ false
few count less = grind (arith, nat_tests, less)

-- the same event in each lane
abbrev pub deeds_in : Event → List Deed
deeds_in event = map (λ lane. record { lane = lane; event = event }) (range_with_len 0 LANES)

pub deeds_fit : (masters count : ℕ) (event : Event) → count ≡ LANES → IsPlain event → MayHappen (new_world 0 masters 0) event → All (IsDeed count masters) (deeds_in event)
deeds_fit masters count event is plain may = grind arith

-- a new session may act
pub new_acts : (masters client : ℕ) → 1 ≤ client → client < 2 ^ 32 → MayAct masters (new_session client)
new_acts masters client first fits = grind arith

module _ {R : Type 0} (segments : R → Option Segments) where
  -- ---- codes

  module _ (state : ClusterState R) (client : ℕ) where
    pub client_taken : is_some (get state.sessions client) ≡ true → HasCode segments state (λ cluster. client_code cluster client) (Some Taken)
    client_taken there cluster is =
        let here : is_some (get cluster.sessions client) ≡ true = ap (λ (known : NumberMap Session). is_some (get known client)) is.sessions ∙ there in
        ap (λ (b : Bool). first_code (code_where b Taken ∷ code_where (nat_le MOST_CLIENTS (length cluster.sessions)) Limit ∷ [])) here

    client_by_tests : (many : Bool) → is_some (get state.sessions client) ≡ false → nat_le MOST_CLIENTS (length state.sessions) ≡ many
        → HasCode segments state (λ cluster. client_code cluster client) (first_code (code_where false Taken ∷ code_where many Limit ∷ []))
    client_by_tests many absent full cluster is =
        let here : is_some (get cluster.sessions client) ≡ false = ap (λ (known : NumberMap Session). is_some (get known client)) is.sessions ∙ absent in
        let much : nat_le MOST_CLIENTS (length cluster.sessions) ≡ many = ap (λ (known : NumberMap Session). nat_le MOST_CLIENTS (length known)) is.sessions ∙ full in
        λ i. first_code (code_where (here i) Taken ∷ code_where (much i) Limit ∷ [])

    pub client_full : is_some (get state.sessions client) ≡ false → nat_le MOST_CLIENTS (length state.sessions) ≡ true → HasCode segments state (λ cluster. client_code cluster client) (Some Limit)
    client_full absent full = client_by_tests true absent full

    pub client_free : is_some (get state.sessions client) ≡ false → nat_le MOST_CLIENTS (length state.sessions) ≡ false → HasCode segments state (λ cluster. client_code cluster client) None
    client_free absent full = client_by_tests false absent full

  -- ---- what occurs

  joins : (lanes : List (LaneState R)) (sessions : NumberMap Session) (client : ℕ) → IsNumber w32 1 client → get sessions client ≡ None
      → ActsOne segments (state_of lanes sessions) (state_of lanes (insert sessions client (new_session client))) (Joins client) [] None
  joins lanes sessions client number absent cluster is = grind (arith, state_of, insert, new_session, acted_well, leads_by)

  -- there are eight lanes, so an event in all of them is as many deeds
  pub made_in_all : (lanes : List (LaneState R)) (sessions : NumberMap Session) (event : Event) → length lanes ≡ LANES → (cluster : Cluster)
      → IsOf segments (state_of lanes sessions) cluster → occurrences (deeds_in event) ≡ in_lanes (all_lanes cluster) event
  made_in_all lanes sessions event count cluster is = grind (arith, many, same_count, in_lanes)

  pub client_acts : (old new : List (LaneState R)) (sessions later : NumberMap Session) (client : ℕ) → IsNumber w32 1 client → length old ≡ LANES → get sessions client ≡ None
      → later ≡ insert sessions client (new_session client) → CarriesSteps segments old new (deeds_in (events.AddClient client)) []
      → ActsBy segments (state_of old sessions) (state_of new later) (λ cluster. client_makes cluster client) [] None
  client_acts old new sessions later client number count absent put carries cluster is =
      subst (λ (made : List Occurrence). IsActedAs segments cluster (state_of new later) [] None (all_acted cluster (made ++ Joins client ∷ [])))
      (made_in_all old sessions (events.AddClient client) count cluster is)
      (carries sessions (state_of new later) (Joins client ∷ []) [] None
      (only_acts segments (state_of new sessions) (state_of new later) (Joins client) []
      (subst (λ (known : NumberMap Session). ActsOne segments (state_of new sessions) (state_of new known) (Joins client) [] None) (sym put) (joins new sessions client number absent)))
      cluster is)

  -- an event in all lanes, with more behind it, ended since a lane is worn
  pub all_worn : (old new : List (LaneState R)) (sessions : NumberMap Session) (event : Event) (more : List Occurrence) (number : ℕ) → length old ≡ LANES
      → StepsEndWorn segments old new (deeds_in event) number
      → ActsBy segments (state_of old sessions) (state_of new sessions) (λ cluster. in_lanes (all_lanes cluster) event ++ more) [] (Some number)
  all_worn old new sessions event more number count worn cluster is =
      subst (λ (made : List Occurrence). IsActedAs segments cluster (state_of new sessions) [] (Some number) (all_acted cluster (made ++ more)))
      (made_in_all old sessions event count cluster is) (worn sessions more cluster is)

  pub all_short_before : (old new : List (LaneState R)) (sessions : NumberMap Session) (event : Event) (more : List Occurrence) → length old ≡ LANES
      → AreStepsCutShort segments old new (deeds_in event)
      → CutShortBy segments (state_of old sessions) (state_of new sessions) (λ cluster. in_lanes (all_lanes cluster) event ++ more)
  all_short_before old new sessions event more count short =
      made_short segments (state_of old sessions) (state_of new sessions) (λ cluster. in_lanes (all_lanes cluster) event ++ more) (occurrences (deeds_in event) ++ more)
      (λ cluster is. ap (λ (made : List Occurrence). made ++ more) (sym (made_in_all old sessions event count cluster is)))
      (before_short segments (state_of old sessions) (state_of new sessions) (occurrences (deeds_in event)) more (short sessions))

  -- it came in all lanes, and memory was wanting for the session
  pub joins_short : (old new : List (LaneState R)) (sessions later : NumberMap Session) (client : ℕ) → length old ≡ LANES → later ≡ sessions
      → CarriesSteps segments old new (deeds_in (events.AddClient client)) []
      → CutShortBy segments (state_of old sessions) (state_of new later) (λ cluster. client_makes cluster client)
  joins_short old new sessions later client count same carries =
      made_short segments (state_of old sessions) (state_of new later) (λ cluster. client_makes cluster client) (occurrences (deeds_in (events.AddClient client)) ++ Joins client ∷ [])
      (λ cluster is. ap (λ (made : List Occurrence). made ++ Joins client ∷ []) (sym (made_in_all old sessions (events.AddClient client) count cluster is)))
      (came_short segments (state_of old sessions) (state_of new sessions) (state_of new later) (occurrences (deeds_in (events.AddClient client))) (Joins client ∷ []) (carries sessions)
      (record { lanes = inl refl; sessions = inl same }))

  -- how a call ends in an error, if it has no code
  pub ends_in : (Holds : ℕ → Type 0) (old new : ClusterState R) (code_of : Cluster → Option Code) (makes : Cluster → List Occurrence) (e : ClusterError)
      → HasCode segments old code_of None → ((number : ℕ) → Holds number → ActsBy segments old new makes [] (Some number)) → WhereWorn Holds e
      → CutShortBy segments old new makes → EndsIn segments old new code_of makes e
  ends_in Holds old new code_of makes errors.NoMemory code gives worn short = short
  ends_in Holds old new code_of makes (errors.Code c) code gives worn short = absurd worn
  ends_in Holds old new code_of makes (errors.Worn number) code gives worn short = (code, gives number worn)
