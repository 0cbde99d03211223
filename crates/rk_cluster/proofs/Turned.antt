-- The turns of the nodes of a lane, one after the other.
use Rattle.rk_cluster.proofs.Words.{arith, ◌≡◌, ◌<◌, ◌+◌, ◌++◌, ℕ, List, [], ◌∷◌, All, length, map, slice_get, slice_index_or, Option, None}
use Rattle.rk_cluster.proofs.Words.{Some, IfSome, sym, ap, subst, ◌∙◌, append-nil, flat_map, NumberMap, Segments, Session, Asks, Cluster}
use Rattle.rk_cluster.proofs.Words.{Occurrence, lane_at, World, live_masters, new_world, LaneState, Running, world_with, all_acted, Acts}
use Rattle.rk_cluster.proofs.Words.{ActsBy, ActsOne, AreCutShort, Carries, CutShortBy, IsActedAs, CountsGoOn, asks_in, in_lane, turn_makes}
use Rattle.rk_cluster.proofs.Words.{backup_counts, ClusterState, IsOf, IsWorld, AreLanes, CarriesSteps, EndsWorn, MayAllAct, StepsEndWorn}
use Rattle.rk_cluster.proofs.Words.{occurrences, state_of, clients_in, live_in, turns_of, HasSession, all_ask, Deed}
use Rattle.rk_types.specs.declared.node.Node.TheVariants as nodes
use Rattle.rk_world.specs.declared.event.Event.TheVariants as events
use Rattle.rk_cluster.proofs.Carrying.{none_acts}
use Rattle.rk_cluster.proofs.Faults.{lanes_same, lanes_then}
use Rattle.rk_cluster.proofs.Shortage.{made_short}
use Rattle.rk_cluster.proofs.Takers.{all_ask_is, turns_are}
use Rattle.rk_cluster.proofs.Worlds.{world_at}
use Rattle.rk_cluster.proofs.Parts.{HaveCome, come_none, come_one}

-- what the coordinator and the masters that live make
abbrev nodes_make : ℕ → World → List Occurrence
nodes_make lane w = in_lane lane (events.Turn nodes.Coordinator) ∷ map (λ entry. in_lane lane (events.Turn (nodes.Master entry.0))) (live_masters w)

module _ {R : Type 0} (segments : R → Option Segments) where
  -- ---- clients, some of which have taken their turns

  pub record IsAsking (faults : R → ℕ) (start now : ClusterState R) (masters lane : ℕ) (clients : List ℕ) (index : ℕ) : Type 0 where
    pub came : HaveCome segments (Asks lane) clients start now index
    pub lanes : AreLanes masters 0 now.lanes
    pub count : length now.lanes ≡ length start.lanes
    pub backups : backup_counts now.lanes ≡ backup_counts start.lanes
    pub counts : CountsGoOn faults [] start now
    pub acts : MayAllAct masters now.sessions
    pub have : All (HasSession now.sessions) clients

  pub asking_none : (faults : R → ℕ) (start : ClusterState R) (masters lane : ℕ) (clients : List ℕ) → AreLanes masters 0 start.lanes → MayAllAct masters start.sessions
      → All (HasSession start.sessions) clients → IsAsking faults start start masters lane clients 0
  asking_none faults start masters lane clients are act has = grind (arith, come_none, lanes_same)

  pub asking_one : (faults : R → ℕ) (start now next : ClusterState R) (masters lane : ℕ) (clients : List ℕ) (index d : ℕ) → index < length clients
      → ActsOne segments now next (Asks lane (slice_index_or clients index d)) [] None → AreLanes masters 0 next.lanes → length next.lanes ≡ length now.lanes
      → backup_counts next.lanes ≡ backup_counts now.lanes → CountsGoOn faults [] now next → MayAllAct masters next.sessions
      → ((other : ℕ) → HasSession now.sessions other → HasSession next.sessions other)
      → IsAsking faults start now masters lane clients index → IsAsking faults start next masters lane clients (index + 1)
  asking_one faults start now next masters lane clients index d within one are same backed on act keeps before =
      search (come_one, lanes_then, before.have)

  -- ---- clients, and the nodes after them

  module _ (old mid new : List (LaneState R)) (sessions later : NumberMap Session) (asks : List Occurrence) (deeds : List Deed) where
    both_act : Carries segments (state_of old sessions) (state_of mid later) asks [] → CarriesSteps segments mid new deeds []
        → Acts segments (state_of old sessions) (state_of new later) (asks ++ occurrences deeds) [] None
    both_act asked done =
        asked (state_of new later) (occurrences deeds) [] None
        (subst (λ (made : List Occurrence). Acts segments (state_of mid later) (state_of new later) made [] None) (append-nil (occurrences deeds))
        (done later (state_of new later) [] [] None (none_acts segments (state_of new later))))

    nodes_stop : (number : ℕ) → Carries segments (state_of old sessions) (state_of mid later) asks [] → StepsEndWorn segments mid new deeds number
        → Acts segments (state_of old sessions) (state_of new later) (asks ++ occurrences deeds) [] (Some number)
    nodes_stop number asked worn =
        asked (state_of new later) (occurrences deeds) [] (Some number)
        (subst (λ (made : List Occurrence). Acts segments (state_of mid later) (state_of new later) made [] (Some number)) (append-nil (occurrences deeds)) (worn later []))

  -- ---- what a call makes

  module _ (lanes : List (LaneState R)) (sessions : NumberMap Session) (lane : ℕ) (at : LaneState R) (live : List ℕ) (there : slice_get lanes lane ≡ Some at)
      (known : IfSome at.running (λ running. live ≡ live_in at running)) where
    -- the turns of the clients that ask there and of the masters that live are those that a call makes
    makes_are : (cluster : Cluster) → IsOf segments (state_of lanes sessions) cluster
        → all_ask lane (clients_in lane sessions) ++ occurrences (turns_of lane live) ≡ turn_makes cluster lane
    makes_are cluster is =
        let it : IsWorld segments at (lane_at cluster lane) = world_at segments lanes cluster.lanes lane at (new_world lane 0 0) is.lanes there in
        let live_is : live ≡ live_in at it.running = subst (λ (o : Option Running). IfSome o (λ running. live ≡ live_in at running)) it.runs known in
        let asks : all_ask lane (clients_in lane sessions) ≡ flat_map (λ entry. asks_in lane entry.0 entry.1) cluster.sessions =
        all_ask_is lane sessions ∙ ap (flat_map (λ (entry : ℕ × Session). asks_in lane entry.0 entry.1)) (sym is.sessions) in
        let turns : occurrences (turns_of lane live) ≡ nodes_make lane (lane_at cluster lane) =
        ap (λ (list : List ℕ). occurrences (turns_of lane list)) live_is
        ∙ turns_are lane (live_masters (world_with at it.running it.stored))
        ∙ ap (nodes_make lane) (sym it.is) in
        λ i. asks i ++ turns i

    turn_acts : (new : ClusterState R) (broken : Option ℕ)
        → Acts segments (state_of lanes sessions) new (all_ask lane (clients_in lane sessions) ++ occurrences (turns_of lane live)) [] broken
        → ActsBy segments (state_of lanes sessions) new (λ cluster. turn_makes cluster lane) [] broken
    turn_acts new broken acts cluster is =
        subst (λ (made : List Occurrence). IsActedAs segments cluster new [] broken (all_acted cluster made)) (makes_are cluster is) (acts cluster is)

    -- the clients and the deeds that are collected in code are these
    module _ (mid new : List (LaneState R)) (later : NumberMap Session) (clients : List ℕ) (deeds : List Deed) (clients_are : clients ≡ clients_in lane sessions)
        (deeds_are : deeds ≡ turns_of lane live) where
      made_are : all_ask lane clients ++ occurrences deeds ≡ all_ask lane (clients_in lane sessions) ++ occurrences (turns_of lane live)
      made_are = λ i. all_ask lane (clients_are i) ++ occurrences (deeds_are i)

      made_acts : (state : ClusterState R) (broken : Option ℕ) → Acts segments (state_of lanes sessions) state (all_ask lane clients ++ occurrences deeds) [] broken
          → ActsBy segments (state_of lanes sessions) state (λ cluster. turn_makes cluster lane) [] broken
      made_acts state broken acts =
          turn_acts state broken (subst (λ (made : List Occurrence). Acts segments (state_of lanes sessions) state made [] broken) made_are acts)

      -- all took their turns
      pub turn_done : Carries segments (state_of lanes sessions) (state_of mid later) (all_ask lane clients) [] → CarriesSteps segments mid new deeds []
          → ActsBy segments (state_of lanes sessions) (state_of new later) (λ cluster. turn_makes cluster lane) [] None
      turn_done asked done = made_acts (state_of new later) None (both_act lanes mid new sessions later (all_ask lane clients) deeds asked done)

      -- a client found the lane worn
      pub asking_stops : (number : ℕ) → EndsWorn segments (state_of lanes sessions) (state_of mid later) (all_ask lane clients) number
          → ActsBy segments (state_of lanes sessions) (state_of mid later) (λ cluster. turn_makes cluster lane) [] (Some number)
      asking_stops number worn = made_acts (state_of mid later) (Some number) (worn (occurrences deeds))

      -- another node did
      pub turns_stop : (number : ℕ) → Carries segments (state_of lanes sessions) (state_of mid later) (all_ask lane clients) [] → StepsEndWorn segments mid new deeds number
          → ActsBy segments (state_of lanes sessions) (state_of new later) (λ cluster. turn_makes cluster lane) [] (Some number)
      turns_stop number asked worn = made_acts (state_of new later) (Some number) (nodes_stop lanes mid new sessions later (all_ask lane clients) deeds number asked worn)

      -- memory was wanting for a node
      pub turn_short : (state : ClusterState R) → AreCutShort segments (state_of lanes sessions) state (all_ask lane clients ++ occurrences deeds)
          → CutShortBy segments (state_of lanes sessions) state (λ cluster. turn_makes cluster lane)
      turn_short state it =
          made_short segments (state_of lanes sessions) state (λ cluster. turn_makes cluster lane) (all_ask lane clients ++ occurrences deeds)
          (λ cluster is. sym (made_are ∙ makes_are cluster is)) it
