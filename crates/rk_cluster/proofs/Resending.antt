-- How a client sends its last request again: it reaches a master.
use Rattle.rk_cluster.proofs.Words.{get_or-set_same, ◌≡◌, ◌<◌, ◌≤◌, ◌+◌, ℕ, Bool, true, false, not, List, [], ◌∷◌, length, slice_get}
use Rattle.rk_cluster.proofs.Words.{is_none, is_some, unwrap_or, Option, Some, None, IfSome, Result, Ok, Err, refl, sym, ap, subst, ◌∙◌}
use Rattle.rk_cluster.proofs.Words.{arith, slice_get_within, NumberMap, get, Segments, get_same, Traffic, Message, Called, Gave}
use Rattle.rk_cluster.proofs.Words.{refusal, IsFormedWithRoom, step, Stepped, told_for, World, new_world, StepError, Session, new_session}
use Rattle.rk_cluster.proofs.Words.{Cluster, Happens, Occurrence, cluster_stepped, lane_at, session_at, LaneState, Running, world_with}
use Rattle.rk_cluster.proofs.Words.{acted, all_acted, IsNextIn, IsSentAgain, again_code, code_where, first_code, Acts, ActsBy, ActsOne}
use Rattle.rk_cluster.proofs.Words.{CutShortBy, HasCode, IsActedAs, is_client, again_makes, in_lane, AreButOne, ClusterState, IsOf, IsWorld}
use Rattle.rk_cluster.proofs.Words.{IsHappening, state_of, Code, NothingSent, Unknown}
use Rattle.rk_message.specs.Wire.{HasSentNumbers}
use Rattle.rk_world.specs.Room.{MOST_NUMBER}
use Rattle.rk_world.specs.Runs.{world_stepped}
use Rattle.rk_world.specs.World.{standing}
use Rattle.rk_world.specs.declared.event.Event.TheVariants as events
use Rattle.rk_lane.specs.Requests.{AreForMasters, IsOfMaster}
use Rattle.rk_cluster.specs.Again.{IsAgainCutShort, again_at}
use Rattle.rk_cluster.specs.Makes.{again_by}
use Rattle.rk_cluster.proofs.Carrying.{gone_on, last_stays, only_acts, worn_acts, worn_stays}
use Rattle.rk_cluster.proofs.Deeds.{happens_plain}
use Rattle.rk_cluster.proofs.Shortage.{lanes_short, made_short, none_short}
use Rattle.rk_cluster.proofs.Worlds.{all_at, same_count, world_at}

-- ---- a message for a master calls no replica

told_none : (w : World) (found : Option Message) (fault : Option ℕ) → IfSome found (λ it. IsOfMaster it.to) → told_for w found fault ≡ Gave None
told_none w found fault is = grind arith

-- ---- what is sent again is for a master

none_next : (w : World) (found : Option Message) → get w.wire.messages (w.wire.sent + 1) ≡ found → HasSentNumbers w.wire → IfSome found (λ it. IsOfMaster it.to)
none_next w None is numbered = tt
none_next w (Some message) is numbered = absurd (omega (arith, (numbered (w.wire.sent + 1) message is).1))

module _ (w : World) (numbered : HasSentNumbers w.wire) where
  pub again_for_master : (client : ℕ) → IfSome (get w.ledger.requests client) (λ it. IsOfMaster it.to)
      → IfSome (get (world_stepped w (step w (events.Again client) (Gave None))).wire.messages (w.wire.sent + 1)) (λ it. IsOfMaster it.to)
  again_for_master client is = grind (arith, refusal, none_next, get_same)

-- ---- in a cluster

-- what an event makes of a lane
lane_after : (cluster : Cluster) (lane : ℕ) (stepped : Result Stepped StepError) → lane < length cluster.lanes
    → lane_at (cluster_stepped cluster lane stepped) lane ≡ world_stepped (lane_at cluster lane) stepped
lane_after cluster lane (Ok stepped) within = get_or-set_same cluster.lanes lane stepped.world (new_world lane 0 0) within
lane_after cluster lane (Err error) within = refl

found_for_master : (requests : NumberMap Message) (client : ℕ) (found : Option Message) → get requests client ≡ found → AreForMasters requests → IfSome found (λ it. IsOfMaster it.to)
found_for_master requests client None is for = tt
found_for_master requests client (Some request) is for = for client request is

only_code : (code : Option Code) → first_code (code ∷ []) ≡ code
only_code None = refl
only_code (Some code) = refl

module _ {R : Type 0} (segments : R → Option Segments) where
  last_acts : (old new : ClusterState R) (occurrence : Occurrence) (broken : Option ℕ) → ActsOne segments old new occurrence [] broken
      → Acts segments old new (occurrence ∷ []) [] broken
  last_acts old new occurrence None one = only_acts segments old new occurrence [] one
  last_acts old new occurrence (Some number) one = worn_acts segments old new occurrence [] number one

  -- a message for a master calls no replica
  delivers : {faults : R → ℕ} (old new : List (LaneState R)) (sessions : NumberMap Session) (lane number : ℕ) (broken : Option ℕ) (cluster : Cluster) → IsOf segments (state_of old sessions) cluster
      → IsHappening segments faults old new lane (events.Deliver number) broken → IfSome (get (lane_at cluster lane).wire.messages number) (λ it. IsOfMaster it.to)
      → IsActedAs segments cluster (state_of new sessions) [] broken (acted cluster (Happens lane (events.Deliver number) (Gave None)))
  delivers old new sessions lane number broken cluster is it for =
      subst (λ (called : Called). IsActedAs segments cluster (state_of new sessions) [] broken (acted cluster (Happens lane (events.Deliver number) called)))
      (told_none (lane_at cluster lane) (get (lane_at cluster lane).wire.messages number) _ for) (it.acts sessions cluster is)

  module _ (old : List (LaneState R)) (lane client number : ℕ) (its : LaneState R) (there : slice_get old lane ≡ Some its) (next : IsNextIn number its)
      (sessions : NumberMap Session) (cluster : Cluster) (is : IsOf segments (state_of old sessions) cluster) where
    its_world : IsWorld segments its (lane_at cluster lane)
    its_world = world_at segments old cluster.lanes lane its (new_world lane 0 0) is.lanes there

    number_is : number ≡ (lane_at cluster lane).wire.sent + 1
    number_is =
        subst (λ (o : Option Running). IfSome o (λ running. number ≡ running.wire.sent + 1)) its_world.runs next.next
        ∙ ap (λ (w : World). w.wire.sent + 1) (sym its_world.is)

    numbered_there : HasSentNumbers (lane_at cluster lane).wire
    numbered_there =
        subst (λ (w : World). HasSentNumbers w.wire) (sym its_world.is)
        (subst (λ (o : Option Running). IfSome o (λ running. HasSentNumbers running.wire)) its_world.runs next.numbered)

    requests_there : AreForMasters (lane_at cluster lane).ledger.requests
    requests_there =
        subst (λ (w : World). AreForMasters w.ledger.requests) (sym its_world.is)
        (subst (λ (o : Option Running). IfSome o (λ _. AreForMasters its.ledger.requests)) its_world.runs next.requests)

    within_cluster : lane < length cluster.lanes
    within_cluster = omega (arith, slice_get_within old lane its there, same_count segments old cluster.lanes is.lanes)

    -- once the request is sent again, the message of its number is for a master
    for_master : IfSome (get (lane_at (acted cluster (Happens lane (events.Again client) (Gave None))).cluster lane).wire.messages number) (λ it. IsOfMaster it.to)
    for_master =
        let w = lane_at cluster lane in
        let stepped = step w (events.Again client) (Gave None) in
        subst (λ (n : ℕ). IfSome (get (lane_at (cluster_stepped cluster lane stepped) lane).wire.messages n) (λ it. IsOfMaster it.to)) (sym number_is)
        (subst (λ (v : World). IfSome (get v.wire.messages (w.wire.sent + 1)) (λ it. IsOfMaster it.to)) (sym (lane_after cluster lane stepped within_cluster))
        (again_for_master w numbered_there client (found_for_master w.ledger.requests client (get w.ledger.requests client) refl requests_there)))

    -- ---- event by event

    module _ {faults : R → ℕ} (now : List (LaneState R)) (sent : IsHappening segments faults old now lane (events.Again client) None) where
      sends_one : IsActedAs segments cluster (state_of now sessions) [] None (acted cluster (Happens lane (events.Again client) (Gave None)))
      sends_one = happens_plain segments old now lane (events.Again client) None tt sent sessions cluster is

      pub again_undelivered : (new : List (LaneState R)) (broken : ℕ) → IsHappening segments faults now new lane (events.Deliver number) (Some broken)
          → IsActedAs segments cluster (state_of new sessions) [] (Some broken) (all_acted cluster (again_at lane client number))
      again_undelivered new broken reached =
          let first = acted cluster (Happens lane (events.Again client) (Gave None)) in
          gone_on segments cluster (state_of now sessions) (state_of new sessions) [] (Some broken) (in_lane lane (events.Deliver number) ∷ in_lane lane (events.Forget number) ∷ []) first sends_one
          (worn_stays segments first.cluster (state_of new sessions) [] broken (in_lane lane (events.Forget number) ∷ []) (acted first.cluster (Happens lane (events.Deliver number) (Gave None)))
          (delivers now new sessions lane number (Some broken) first.cluster sends_one.cluster reached for_master))

      pub again_delivered : (later : List (LaneState R)) → IsHappening segments faults now later lane (events.Deliver number) None
          → IsActedAs segments cluster (state_of later sessions) [] None (all_acted cluster (in_lane lane (events.Again client) ∷ in_lane lane (events.Deliver number) ∷ []))
      again_delivered later reached =
          let first = acted cluster (Happens lane (events.Again client) (Gave None)) in
          gone_on segments cluster (state_of now sessions) (state_of later sessions) [] None (in_lane lane (events.Deliver number) ∷ []) first sends_one
          (last_stays segments first.cluster (state_of later sessions) [] (acted first.cluster (Happens lane (events.Deliver number) (Gave None)))
          (delivers now later sessions lane number None first.cluster sends_one.cluster reached for_master))

      pub again_to_end : (later new : List (LaneState R)) (broken : Option ℕ) → IsHappening segments faults now later lane (events.Deliver number) None
          → IsHappening segments faults later new lane (events.Forget number) broken → IsActedAs segments cluster (state_of new sessions) [] broken (all_acted cluster (again_at lane client number))
      again_to_end later new broken reached forgotten =
          let first = acted cluster (Happens lane (events.Again client) (Gave None)) in
          let second = acted first.cluster (Happens lane (events.Deliver number) (Gave None)) in
          let delivered = delivers now later sessions lane number None first.cluster sends_one.cluster reached for_master in
          gone_on segments cluster (state_of now sessions) (state_of new sessions) [] broken (in_lane lane (events.Deliver number) ∷ in_lane lane (events.Forget number) ∷ []) first sends_one
          (gone_on segments first.cluster (state_of later sessions) (state_of new sessions) [] broken (in_lane lane (events.Forget number) ∷ []) second delivered
          (last_acts (state_of later sessions) (state_of new sessions) (Happens lane (events.Forget number) (Gave None)) broken
          (happens_plain segments later new lane (events.Forget number) broken tt forgotten sessions) second.cluster delivered.cluster))

  -- ---- what comes of it, in every cluster

  pub unsent : {faults : R → ℕ} (old new : List (LaneState R)) (lane client number broken : ℕ) → IsHappening segments faults old new lane (events.Again client) (Some broken)
      → IsSentAgain segments old new lane client number (Some broken)
  unsent old new lane client number broken sent sessions = search (worn_acts, state_of, in_lane, happens_plain)

  pub undelivered : {faults : R → ℕ} (old now new : List (LaneState R)) (lane client number : ℕ) (its : LaneState R) → slice_get old lane ≡ Some its → IsNextIn number its
      → IsHappening segments faults old now lane (events.Again client) None → (broken : ℕ) → IsHappening segments faults now new lane (events.Deliver number) (Some broken)
      → IsSentAgain segments old new lane client number (Some broken)
  undelivered old now new lane client number its there next sent broken reached sessions cluster is =
      again_undelivered old lane client number its there next sessions cluster is now sent new broken reached

  pub to_end : {faults : R → ℕ} (old now later new : List (LaneState R)) (lane client number : ℕ) (its : LaneState R) → slice_get old lane ≡ Some its → IsNextIn number its
      → IsHappening segments faults old now lane (events.Again client) None → IsHappening segments faults now later lane (events.Deliver number) None → (broken : Option ℕ)
      → IsHappening segments faults later new lane (events.Forget number) broken → IsSentAgain segments old new lane client number broken
  to_end old now later new lane client number its there next sent reached broken forgotten sessions cluster is =
      again_to_end old lane client number its there next sessions cluster is now sent later new broken reached forgotten

  -- ---- if memory was wanting

  pub unsent_short : (old new : List (LaneState R)) (lane client number : ℕ) → AreButOne old new → IsAgainCutShort segments old new lane client number
  unsent_short old new lane client number but sessions =
      none_short segments (state_of old sessions) (state_of new sessions) (again_at lane client number) (lanes_short old new sessions but)

  pub undelivered_short : {faults : R → ℕ} (old now new : List (LaneState R)) (lane client number : ℕ) → IsHappening segments faults old now lane (events.Again client) None
      → AreButOne now new → IsAgainCutShort segments old new lane client number
  undelivered_short old now new lane client number sent but sessions = record {
    done = in_lane lane (events.Again client) ∷ [];
    left = in_lane lane (events.Deliver number) ∷ in_lane lane (events.Forget number) ∷ [];
    whole = refl;
    between = state_of now sessions;
    acts = only_acts segments (state_of old sessions) (state_of now sessions) (in_lane lane (events.Again client)) []
        (happens_plain segments old now lane (events.Again client) None tt sent sessions);
    since = lanes_short now new sessions but;
  }

  pub unforgotten_short : {faults : R → ℕ} (old now later new : List (LaneState R)) (lane client number : ℕ) (its : LaneState R) → slice_get old lane ≡ Some its → IsNextIn number its
      → IsHappening segments faults old now lane (events.Again client) None → IsHappening segments faults now later lane (events.Deliver number) None → AreButOne later new
      → IsAgainCutShort segments old new lane client number
  unforgotten_short old now later new lane client number its there next sent reached but sessions = record {
    done = in_lane lane (events.Again client) ∷ in_lane lane (events.Deliver number) ∷ [];
    left = in_lane lane (events.Forget number) ∷ [];
    whole = refl;
    between = state_of later sessions;
    acts = λ cluster is. again_delivered old lane client number its there next sessions cluster is now sent later reached;
    since = lanes_short later new sessions but;
  }

  -- ---- the whole call

  module _ (lanes : List (LaneState R)) (sessions : NumberMap Session) (client : ℕ) where
    pub again_unknown : get sessions client ≡ None → HasCode segments (state_of lanes sessions) (λ cluster. again_code cluster client) (Some Unknown)
    again_unknown absent cluster is =
        let here : is_client cluster client ≡ false = ap (λ (known : NumberMap Session). is_some (get known client)) is.sessions ∙ ap (λ (o : Option Session). is_some o) absent in
        ap (λ (b : Bool). first_code (code_where (not b) Unknown ∷ code_where (is_none (session_at cluster client).sent_in) NothingSent ∷ [])) here

    module _ (session : Session) (found : get sessions client ≡ Some session) (cluster : Cluster) (is : IsOf segments (state_of lanes sessions) cluster) where
      session_is : session_at cluster client ≡ session
      session_is =
          ap (λ (known : NumberMap Session). unwrap_or (get known client) (new_session client)) is.sessions ∙ ap (λ (o : Option Session). unwrap_or o (new_session client)) found

      client_is : is_client cluster client ≡ true
      client_is = ap (λ (known : NumberMap Session). is_some (get known client)) is.sessions ∙ ap (λ (o : Option Session). is_some o) found

    pub again_code_by : (session : Session) (lane : Option ℕ) → get sessions client ≡ Some session → session.sent_in ≡ lane
        → HasCode segments (state_of lanes sessions) (λ cluster. again_code cluster client) (code_where (is_none lane) NothingSent)
    again_code_by session lane found sent cluster is =
        let one = client_is session found cluster is in
        let two : is_none (session_at cluster client).sent_in ≡ is_none lane =
        ap (λ (it : Session). is_none it.sent_in) (session_is session found cluster is) ∙ ap (λ (o : Option ℕ). is_none o) sent in
        (λ i. first_code (code_where (not (one i)) Unknown ∷ code_where (two i) NothingSent ∷ [])) ∙ only_code (code_where (is_none lane) NothingSent)

    again_made : (session : Session) (lane number : ℕ) (its : LaneState R) → get sessions client ≡ Some session
        → session.sent_in ≡ Some lane → slice_get lanes lane ≡ Some its → IsNextIn number its
        → (cluster : Cluster) → IsOf segments (state_of lanes sessions) cluster → again_makes cluster client ≡ again_at lane client number
    again_made session lane number its found sent there next cluster is =
        let sent_there : (session_at cluster client).sent_in ≡ Some lane = ap (λ (it : Session). it.sent_in) (session_is session found cluster is) ∙ sent in
        ap (again_by cluster client) sent_there
        ∙ ap (again_at lane client) (sym (number_is lanes lane client number its there next sessions cluster is))

    pub again_short : (session : Session) (lane number : ℕ) (its : LaneState R) (new : List (LaneState R)) → get sessions client ≡ Some session
        → session.sent_in ≡ Some lane → slice_get lanes lane ≡ Some its → IsNextIn number its
        → IsAgainCutShort segments lanes new lane client number
        → CutShortBy segments (state_of lanes sessions) (state_of new sessions) (λ cluster. again_makes cluster client)
    again_short session lane number its new found sent there next short =
        made_short segments (state_of lanes sessions) (state_of new sessions) (λ cluster. again_makes cluster client) (again_at lane client number)
        (again_made session lane number its found sent there next) (short sessions)

    pub again_acts : (session : Session) (lane number : ℕ) (its : LaneState R) (new : List (LaneState R)) (broken : Option ℕ) → get sessions client ≡ Some session
        → session.sent_in ≡ Some lane → slice_get lanes lane ≡ Some its → IsNextIn number its
        → IsSentAgain segments lanes new lane client number broken
        → ActsBy segments (state_of lanes sessions) (state_of new sessions) (λ cluster. again_makes cluster client) [] broken
    again_acts session lane number its new broken found sent there next made cluster is =
        subst (λ (list : List Occurrence). IsActedAs segments cluster (state_of new sessions) [] broken (all_acted cluster list))
        (sym (again_made session lane number its found sent there next cluster is)) (made sessions cluster is)

-- ---- the lane

-- the next number of a lane that is not spent
pub next_in : {R : Type 0} (its : LaneState R) (wire : Traffic) (sent : ℕ) → sent ≡ wire.sent → IfSome its.running (λ running. wire ≡ running.wire)
    → IfSome its.running (λ running. IsFormedWithRoom (world_with its running [])) → IfSome its.running (λ _. AreForMasters its.ledger.requests) → IsNextIn (sent + 1) its
next_in its wire sent is known formed requests = grind (arith, world_with)

-- it is no great number
pub few_sent : {R : Type 0} (its : LaneState R) (wire : Traffic) (sent : ℕ) (spent : Bool) → spent ≡ not (is_some its.running) → spent ≡ false → sent ≡ wire.sent
    → IfSome its.running (λ running. wire ≡ running.wire) → IfSome its.running (λ running. IsFormedWithRoom (world_with its running [])) → sent < MOST_NUMBER
few_sent its wire sent spent told lives is known formed = by its.running (sym told ∙ lives) known formed
  where
    by : (running : Option Running) → not (is_some running) ≡ false → IfSome running (λ it. wire ≡ it.wire) → IfSome running (λ it. IsFormedWithRoom (world_with its it []))
        → sent < MOST_NUMBER
    by None never same whole = absurd (cc never)
    by (Some running) runs same whole =
        let w = world_with its running [] in
        let low : running.wire.sent ≤ w.top = all_at (λ (number : ℕ). number ≤ w.top) (standing w) 0 running.wire.sent refl whole.formed.standing in
        omega (arith, low, whole.room.number, is, ap (λ (t : Traffic). t.sent) same)
