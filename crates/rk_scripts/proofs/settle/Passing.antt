-- A lane is passed in a round: its nodes take their turns and its wire is emptied. Something was sent there, or it is quiet.
use Rattle.std.proofs.Common.{◌≡◌, ◌<◌, ◌≤◌, ℕ, Bool, true, false, cond, List, [], ◌∷◌, All, filter, Option, None, Some, is_some, refl, sym}
use Rattle.std.proofs.Common.{ap, subst, ◌∙◌, arith, Err, Ok, Result, unwrap_or, eqb-true, ◌++◌, map, inl, inr, ⊎_elim, ◌⊎◌}
use Rattle.rk_scripts.proofs.Words.{false≢true, All-filter, All-head, filter_passes, none-some, IsInOrder, NumberMap, get, numbers, Call}
use Rattle.rk_scripts.proofs.Words.{LANES, StepError, Visited, ask, Session, call_lane, new_session, Asks, Cluster, lane_at, session_at}
use Rattle.rk_scripts.proofs.Words.{worn, world_visited, World, worn_in, is_client, clients_in, is_call_in, Course, occurrence_error}
use Rattle.rk_scripts.proofs.Words.{occurring, asks, All_pairs, Lasts, added_after, Node, number_at, Gave, world_stepped, step, has_owners}
use Rattle.rk_scripts.proofs.Words.{Event, takes_turn, AllNoticed, and_from, live_masters, has_applied_all, is_quiet_lane, empty_by}
use Rattle.rk_scripts.proofs.Words.{turns_of}
use Rattle.rk_cluster.specs.Acted.{worn_by}
use Rattle.rk_runs.proofs.duties.Asking.{client_sends, client_worn}
use Rattle.rk_scripts.proofs.play.Reaching.{reached_good, lane_good}
use Rattle.rk_scripts.proofs.settle.Delivering.{has_session}
use Rattle.rk_scripts.proofs.settle.Following.{follows_itself}
use Rattle.rk_scripts.proofs.settle.Going.{Comes, Goes, alone_fresh, goes_here, goes_then, occurs_move, goes_on, IsAt, still_move}
use Rattle.rk_scripts.proofs.settle.Lanes.{ChangesLane, visited_changes, IsSameBeside}
use Rattle.rk_scripts.proofs.settle.NoticesFirst.{formed_at}
use Rattle.rk_scripts.proofs.settle.Numbers.{left_fewer, sends_left, left_no_more}
use Rattle.rk_scripts.proofs.settle.Setting.{IsSane, Setting, eight, here}
use Rattle.rk_scripts.proofs.settle.Tasks.{Task, empties, turns}
use Rattle.rk_scripts.proofs.settle.Walking.{IsWalked, HasTurned, masters_walk, turn_move, turns_walk}
use Rattle.rk_scripts.proofs.settle.Worn.{fresh_turn, sent_below}
use Rattle.rk_scripts.proofs.settle.Duties.{Waits, coordinator_quiet, master_waits, owners_kept, stepped_turned, waits_kept, waits_first}
use Rattle.rk_scripts.proofs.settle.Duties.{waits_none}
use Rattle.rk_scripts.proofs.settle.Emptying.{IsSilent, IsEmptied, emptying}
use Rattle.rk_scripts.proofs.settle.Reached.{reached_caught, reached_free, reached_ordered}
use Rattle.rk_scripts.proofs.settle.Turning.{IsTurned}

-- The first client with an outstanding call in a lane sends on its turn there.

-- ---- the first client

-- a client has a session with an outstanding call in a lane
pub record HasCall (sessions : NumberMap Session) (lane client : ℕ) : Type 0 where
  session : Session
  found : get sessions client ≡ Some session
  call : Call
  out : session.outstanding ≡ Some call
  lane_is : call_lane call ≡ lane

-- so has each that is found to have one
pub first_has_call : (sessions : NumberMap Session) (lane client : ℕ) (clients : List ℕ) → IsInOrder sessions → clients_in lane sessions ≡ client ∷ clients
    → HasCall sessions lane client
first_has_call sessions lane client clients order is = go (filter test sessions)
    (All-filter test (λ (entry : ℕ × Session). get sessions entry.0 ≡ Some entry.1) sessions
    (All_pairs (λ (number : ℕ) (session : Session). get sessions number ≡ Some session) sessions order (λ number session found. found)))
    (filter_passes test sessions) is
  where
    test : (ℕ × Session) → Bool
    test entry = is_call_in lane entry.1.outstanding

    by_call : (session : Session) → get sessions client ≡ Some session → (out : Option Call) → session.outstanding ≡ out → is_call_in lane out ≡ true → HasCall sessions lane client
    by_call session found None none passes = absurd (false≢true passes)
    by_call session found (Some call) out passes =
        record { session = session; found = found; call = call; out = out; lane_is = eqb-true (call_lane call) lane passes }

    go : (list : NumberMap Session) → All (λ (entry : ℕ × Session). get sessions entry.0 ≡ Some entry.1) list
        → All (λ (entry : ℕ × Session). is_call_in lane entry.1.outstanding ≡ true) list → numbers list ≡ client ∷ clients → HasCall sessions lane client
    go [] there passes none = let never : [] ≡ client ∷ clients = none in absurd (cc never)
    go (first ∷ rest) there passes same =
        let one : first.0 ≡ client = cc same in
        by_call first.1
        (subst (λ (number : ℕ). get sessions number ≡ Some first.1) one (All-head (λ (entry : ℕ × Session). get sessions entry.0 ≡ Some entry.1) first rest there))
        first.1.outstanding refl (All-head (λ (entry : ℕ × Session). is_call_in lane entry.1.outstanding ≡ true) first rest passes)

-- ---- its turn

module _ (s : Setting) (lane : ℕ) (inside : lane < LANES) where
  -- a client has asked in a lane, and these tasks are left
  record HasAsked (rest : List Task) (session : Session) (before : Cluster) (course : Course) : Type 0 where
    left : course.tasks ≡ rest
    changes : ChangesLane lane (world_visited (lane_at before lane) (ask (lane_at before lane) session)) before course.cluster
    fresh : worn (lane_at before lane) ≡ None
    more : (lane_at before lane).wire.sent < (world_visited (lane_at before lane) (ask (lane_at before lane) session)).wire.sent

  -- it sends, unless the lane is worn
  sends_more : (course : Course) (client : ℕ) → IsSane s course → HasCall course.cluster.sessions lane client
      → worn_in (ask (lane_at course.cluster lane) (session_at course.cluster client)) ≡ None
      → (lane_at course.cluster lane).wire.sent < (world_visited (lane_at course.cluster lane) (ask (lane_at course.cluster lane) (session_at course.cluster client))).wire.sent
  sends_more course client sane has fresh = go (ask w session) refl fresh
    where
      w : World
      w = lane_at course.cluster lane

      session : Session
      session = session_at course.cluster client

      out : (session_at course.cluster client).outstanding ≡ Some has.call
      out = ap (λ (o : Option Session). (unwrap_or o (new_session client)).outstanding) has.found ∙ has.out

      go : (answer : Result Visited StepError) → ask (lane_at course.cluster lane) (session_at course.cluster client) ≡ answer → worn_in answer ≡ None
          → (lane_at course.cluster lane).wire.sent < (world_visited (lane_at course.cluster lane) answer).wire.sent
      go (Ok visited) is none =
          let sent =
          client_sends Lasts s.masters course.cluster (reached_good s.masters s.backups course.cluster (here s course sane)) lane client
          (omega (arith, inside, eight s course sane)) has.call out has.lane_is visited is in
          omega (arith, sent)
      go (Err error) is none =
          let refused =
          client_worn Lasts s.masters course.cluster (reached_good s.masters s.backups course.cluster (here s course sane)) lane client
          (sane.added client has.session has.found lane (omega (arith, inside, eight s course sane))) error is in
          absurd (none-some refused.number (sym none ∙ ap worn_by refused.error_is))

  client_asks : (client : ℕ) (rest : List Task) (before : Cluster) (course : Course) → Comes s before course → course.tasks ≡ asks lane client ∷ rest
      → HasCall course.cluster.sessions lane client → Goes s before course (HasAsked rest (session_at course.cluster client) course.cluster)
  client_asks client rest before course comes are has =
      let w : World = lane_at course.cluster lane in
      let session : Session = session_at course.cluster client in
      let there : is_client course.cluster client ≡ true = ap is_some has.found in
      occurs_move s before course (asks lane client) rest (Asks lane client) false (HasAsked rest session course.cluster) comes are
      (ap (λ (b : Bool). occurring course (cond b (Asks lane client ∷ []) []) false rest) there)
      (λ none.
      alone_fresh course.cluster (Asks lane client)
      (ap (λ (b : Bool). occurrence_error course.cluster (cond b (Asks lane client ∷ []) [])) (sym there) ∙ none))
      (added_after course.cluster (Asks lane client) (has_session course.cluster client there) comes.sane.added)
      (λ next at fresh. record {
        left = at.tasks_are;
        changes = grind (arith, world_visited, ask, visited_changes, eight, course.cluster, at.cluster_is, comes.sane);
        fresh = fresh_turn w session fresh;
        more = sends_more course client comes.sane has fresh;
      })

  -- once it has asked, fewer messages may be sent
  pub asking_walks : (most client : ℕ) (rest : List Task) (before : Cluster) (course : Course) → Comes s before course → course.tasks ≡ asks lane client ∷ rest
      → HasCall course.cluster.sessions lane client → sends_left course.cluster ≤ most → Goes s before course (IsWalked s lane inside course.cluster most rest)
  asking_walks most client rest before course comes are has limit =
      let w : World = lane_at course.cluster lane in
      goes_then s before course (HasAsked rest (session_at course.cluster client) course.cluster) (IsWalked s lane inside course.cluster most rest) comes
      (client_asks client rest course.cluster course (record { sane = comes.sane; follows = follows_itself course.cluster }) are has)
      (λ later comes_later follows asked.
      let fewer =
      left_fewer course.cluster later.cluster lane (λ q. (follows q).sent) inside (sent_below w (formed_at s course comes.sane lane inside) asked.fresh)
      (subst (λ (now : World). w.wire.sent < now.wire.sent) (sym asked.changes.here) asked.more) in
      goes_here s before later (IsWalked s lane inside course.cluster most rest) comes_later
      (record { left = asked.left; beside = asked.changes.beside; risen = omega (arith, fewer, limit) }))

-- The turns of a lane while nothing is sent in it: once all were taken the lane is quiet.

module _ (s : Setting) (lane : ℕ) (inside : lane < LANES) (origin : Cluster) (most : ℕ) where
  -- nothing was sent in the lane: nothing is on its wire, and at each of its masters that lives nothing is staged, or its turn is still to
  -- come; sessions and the other lanes are as they were
  pub record IsIdle (coming : List ℕ) (rest : List Task) (course : Course) : Type 0 where
    pub left : course.tasks ≡ rest
    pub beside : IsSameBeside lane origin course.cluster
    pub limit : sends_left course.cluster ≤ most
    pub sessions : course.cluster.sessions ≡ origin.sessions
    pub silent : IsSilent (lane_at course.cluster lane)
    pub waits : Waits (lane_at course.cluster lane) coming

  -- each row of the lane is owned by a master that lives
  abbrev pub AreOwned : Course → Type 0
  AreOwned course = has_owners (lane_at course.cluster lane) ≡ true

  -- behind some tasks something was sent, or the lane is idle, and its rows are owned
  abbrev pub Idles : List ℕ → List Task → Course → Type 0
  Idles coming rest next = IsWalked s lane inside origin most rest next ⊎ (IsIdle coming rest next × AreOwned next)

  -- the lane after a node's turn
  abbrev turned_by : Course → Node → World
  turned_by course node = world_stepped (lane_at course.cluster lane) (step (lane_at course.cluster lane) (Event.Turn node) (Gave None))

  -- a node takes its turn
  node_idle : (node : Node) (was coming : List ℕ) (rest : List Task) (before : Cluster) (course : Course) → Comes s before course
      → IsIdle was (takes_turn lane node ∷ rest) course
      → (worn (lane_at course.cluster lane) ≡ None → (turned_by course node).wire ≡ (lane_at course.cluster lane).wire
      → Waits (turned_by course node) coming × (has_owners (turned_by course node) ≡ true))
      → Goes s before course (Idles coming rest)
  node_idle node was coming rest before course comes idle stays =
      goes_then s before course (HasTurned lane node rest course.cluster) (Idles coming rest) comes
      (turn_move s lane inside node rest course.cluster course (record { sane = comes.sane; follows = follows_itself course.cluster }) idle.left)
      (λ later comes_later follows turned.
      goes_here s before later (Idles coming rest) comes_later
      (⊎_elim
      (λ (same : (turned_by course node).wire ≡ (lane_at course.cluster lane).wire).
      let still = stays turned.fresh same in
      let no_more = left_no_more course.cluster later.cluster (λ q. (follows q).sent) in
      inr (
        record {
          left = turned.left;
          beside = λ q apart. turned.changes.beside q apart ∙ idle.beside q apart;
          limit = omega (arith, no_more, idle.limit);
          sessions = turned.sessions ∙ idle.sessions;
          silent = ap (λ (now : World). number_at 1 now.wire) turned.changes.here ∙ ap (number_at 1) same ∙ idle.silent;
          waits = subst (λ (now : World). Waits now coming) (sym turned.changes.here) still.0;
        },
        subst (λ (it : World). has_owners it ≡ true) (sym turned.changes.here) still.1,
      ))
      (λ (more : (lane_at course.cluster lane).wire.sent < (turned_by course node).wire.sent).
      let fewer =
      left_fewer course.cluster later.cluster lane (λ q. (follows q).sent) inside
      (sent_below (lane_at course.cluster lane) (formed_at s course comes.sane lane inside) turned.fresh)
      (subst (λ (now : World). (lane_at course.cluster lane).wire.sent < now.wire.sent) (sym turned.changes.here) more) in
      inl (record {
        left = turned.left;
        beside = λ q apart. turned.changes.beside q apart ∙ idle.beside q apart;
        risen = omega (arith, fewer, idle.limit);
      }))
      (stepped_turned (lane_at course.cluster lane) node (Gave None)).wire))

  coordinator_idle : (masters : List ℕ) (rest : List Task) (before : Cluster) (course : Course) → Comes s before course
      → IsIdle masters (takes_turn lane Node.Coordinator ∷ rest) course → AllNoticed (lane_at course.cluster lane)
      → Goes s before course (Idles masters rest)
  coordinator_idle masters rest before course comes idle noticed =
      let w : World = lane_at course.cluster lane in
      let now : World = turned_by course Node.Coordinator in
      let turns : IsTurned w now = stepped_turned w Node.Coordinator (Gave None) in
      node_idle Node.Coordinator masters masters rest before course comes idle
      (λ fresh same. (
        waits_kept w now masters turns idle.waits,
        owners_kept w now turns
            (coordinator_quiet w (Gave None) (reached_free s.masters s.backups course.cluster (here s course comes.sane) lane inside) noticed fresh same),
      ))

  master_idle : (master : ℕ) (coming : List ℕ) (rest : List Task) (before : Cluster) (course : Course) → Comes s before course
      → IsIdle (master ∷ coming) (takes_turn lane (Node.Master master) ∷ rest) course → AreOwned course → Goes s before course (Idles coming rest)
  master_idle master coming rest before course comes idle owned =
      let w : World = lane_at course.cluster lane in
      node_idle (Node.Master master) (master ∷ coming) coming rest before course comes idle
      (λ fresh same. (
        master_waits w master coming (Gave None) (formed_at s course comes.sane lane inside)
            (lane_good s.masters s.backups course.cluster (here s course comes.sane) lane inside).room
            (reached_caught s.masters s.backups course.cluster (here s course comes.sane) lane inside) fresh same idle.waits,
        owners_kept w (turned_by course (Node.Master master)) (stepped_turned w (Node.Master master) (Gave None)) owned,
      ))

  -- then all masters do
  masters_idle : (masters : List ℕ) (rest : List Task) (before : Cluster) (course : Course)
      → Goes s before course (Idles masters (map (λ master. takes_turn lane (Node.Master master)) masters ++ rest)) → Goes s before course (Idles [] rest)
  masters_idle [] rest before course goes = goes
  masters_idle (master ∷ masters) rest before course goes =
      let behind : List Task = map (λ number. takes_turn lane (Node.Master number)) masters ++ rest in
      let left : List Task = takes_turn lane (Node.Master master) ∷ behind in
      masters_idle masters rest before course
      (goes_on s before course (Idles (master ∷ masters) left) (Idles masters behind) goes
      (λ later comes_later either.
      ⊎_elim
      (λ (walked : IsWalked s lane inside origin most left later).
      goes_on s before later (IsWalked s lane inside origin most behind) (Idles masters behind)
      (masters_walk s lane inside origin most (master ∷ []) behind before later comes_later walked)
      (λ end comes_end done. goes_here s before end (Idles masters behind) comes_end (inl done)))
      (λ (still : IsIdle (master ∷ masters) left later × AreOwned later). master_idle master masters behind before later comes_later still.0 still.1)
      either))

  -- the coordinator and all masters
  pub nodes_idle : (masters : List ℕ) (rest : List Task) (before : Cluster) (course : Course) → Comes s before course
      → IsIdle masters (takes_turn lane Node.Coordinator ∷ (map (λ master. takes_turn lane (Node.Master master)) masters ++ rest)) course
      → AllNoticed (lane_at course.cluster lane) → Goes s before course (Idles [] rest)
  nodes_idle masters rest before course comes idle noticed = masters_idle masters rest before course
      (coordinator_idle masters (map (λ number. takes_turn lane (Node.Master number)) masters ++ rest) before course comes idle noticed)

module _ (s : Setting) (lane : ℕ) (inside : lane < LANES) (most : ℕ) (rest : List Task) where
  -- nothing was sent in the lane: it is quiet, no call of a client is outstanding there, and the sessions are as they were
  pub record IsLeftQuiet (origin now : Cluster) : Type 0 where
    pub limit : sends_left now ≤ most
    pub sessions : now.sessions ≡ origin.sessions
    pub quiet : is_quiet_lane (lane_at now lane) ≡ true
    pub calls : clients_in lane now.sessions ≡ []

  -- the lane is passed: nothing is on its wire, and the others are as they were; and fewer messages may be sent than so many, or it was
  -- left quiet
  pub record IsPassed (origin : Cluster) (course : Course) : Type 0 where
    pub left : course.tasks ≡ rest
    pub beside : IsSameBeside lane origin course.cluster
    pub silent : IsSilent (lane_at course.cluster lane)
    pub mode : (sends_left course.cluster < most) ⊎ IsLeftQuiet origin course.cluster

  -- once the turns were taken, and something was sent, the wire is emptied
  walked_passes : (origin before : Cluster) (course : Course) → Comes s before course → IsWalked s lane inside origin most (empties lane ∷ rest) course
      → Goes s before course (IsPassed origin)
  walked_passes origin before course comes walked =
      goes_then s before course (IsEmptied s lane inside rest course.cluster) (IsPassed origin) comes
      (emptying s lane inside rest course.cluster course (record { sane = comes.sane; follows = follows_itself course.cluster }) walked.left)
      (λ later comes_later follows emptied.
      let no_more = left_no_more course.cluster later.cluster (λ q. (follows q).sent) in
      goes_here s before later (IsPassed origin) comes_later
      (record {
        left = emptied.left;
        beside = λ q apart. emptied.beside q apart ∙ walked.beside q apart;
        silent = emptied.silent;
        mode = inl (omega (arith, no_more, walked.risen));
      }))

  -- turns are taken after something was sent
  turns_pass : (origin : Cluster) (clients masters : List ℕ) (before : Cluster) (course : Course) → Comes s before course
      → IsWalked s lane inside origin most (turns_of lane clients masters ++ empties lane ∷ rest) course → Goes s before course (IsPassed origin)
  turns_pass origin clients masters before course comes walked =
      goes_on s before course (IsWalked s lane inside origin most (empties lane ∷ rest)) (IsPassed origin)
      (turns_walk s lane inside origin most clients masters (empties lane ∷ rest) before course comes walked)
      (λ later comes_later done. walked_passes origin before later comes_later done)

  -- if nothing was sent there is nothing to empty
  idle_passes : (origin before : Cluster) (course : Course) → Comes s before course → IsIdle s lane inside origin most [] (empties lane ∷ rest) course
      → AreOwned s lane inside origin most course → clients_in lane origin.sessions ≡ [] → Goes s before course (IsPassed origin)
  idle_passes origin before course comes idle owned none =
      still_move s before course (empties lane) rest rest (IsPassed origin) comes idle.left
      (record { cluster_is = refl; tasks_are = ap (λ (o : Option ℕ). empty_by lane o ++ rest) idle.silent })
      (λ next at. record {
        left = at.tasks_are;
        beside = subst (IsSameBeside lane origin) (sym at.cluster_is) idle.beside;
        silent = subst (λ (cluster : Cluster). IsSilent (lane_at cluster lane)) (sym at.cluster_is) idle.silent;
        mode = inr (subst (IsLeftQuiet origin) (sym at.cluster_is) quiet);
      })
    where
      quiet : IsLeftQuiet origin course.cluster
      quiet = record {
        limit = idle.limit;
        sessions = idle.sessions;
        quiet =
            grind (arith, and_from, has_owners, lane_at, has_applied_all, waits_none, formed_at, course.cluster, comes.sane, idle.waits);
        calls = ap (clients_in lane) idle.sessions ∙ none;
      }

  -- ---- from the beginning of the lane's turns

  -- the turns begin
  begun : (before : Cluster) (course : Course) → Comes s before course → course.tasks ≡ turns lane ∷ empties lane ∷ rest
      → Goes s before course (IsAt course.cluster (turns_of lane (clients_in lane course.cluster.sessions) (numbers (live_masters (lane_at course.cluster lane))) ++ empties lane ∷ rest))
  begun before course comes are =
      let left : List Task = turns_of lane (clients_in lane course.cluster.sessions) (numbers (live_masters (lane_at course.cluster lane))) ++ empties lane ∷ rest in
      still_move s before course (turns lane) (empties lane ∷ rest) left (IsAt course.cluster left) comes are (record { cluster_is = refl; tasks_are = refl })
      (λ next at. at)

  -- after something was sent in another lane
  pub passing_walked : (before : Cluster) (course : Course) → Comes s before course → course.tasks ≡ turns lane ∷ empties lane ∷ rest → sends_left course.cluster < most
      → Goes s before course (IsPassed course.cluster)
  passing_walked before course comes are risen =
      let clients : List ℕ = clients_in lane course.cluster.sessions in
      let masters : List ℕ = numbers (live_masters (lane_at course.cluster lane)) in
      goes_on s before course (IsAt course.cluster (turns_of lane clients masters ++ empties lane ∷ rest)) (IsPassed course.cluster) (begun before course comes are)
      (λ later comes_later at.
      turns_pass course.cluster clients masters before later comes_later
      (record {
        left = at.tasks_are;
        beside = subst (IsSameBeside lane course.cluster) (sym at.cluster_is) (λ q apart. refl);
        risen = subst (λ (cluster : Cluster). sends_left cluster < most) (sym at.cluster_is) risen;
      }))

  -- while nothing was sent in the round
  pub passing_idle : (before : Cluster) (course : Course) → Comes s before course → course.tasks ≡ turns lane ∷ empties lane ∷ rest → sends_left course.cluster ≤ most
      → IsSilent (lane_at course.cluster lane) → AllNoticed (lane_at course.cluster lane) → Goes s before course (IsPassed course.cluster)
  passing_idle before course comes are limit silent noticed =
      goes_on s before course (IsAt course.cluster (turns_of lane (clients_in lane course.cluster.sessions) masters ++ empties lane ∷ rest)) (IsPassed course.cluster) (begun before course comes are)
      (λ later comes_later at. go (clients_in lane course.cluster.sessions) refl later comes_later at)
    where
      masters : List ℕ
      masters = numbers (live_masters (lane_at course.cluster lane))

      go : (clients : List ℕ) → clients_in lane course.cluster.sessions ≡ clients → (later : Course) → Comes s before later
          → IsAt course.cluster (turns_of lane (clients_in lane course.cluster.sessions) (numbers (live_masters (lane_at course.cluster lane))) ++ empties lane ∷ rest) later
          → Goes s before later (IsPassed course.cluster)
      go [] none later comes_later at = goes_on s before later
          (λ next. IsWalked s lane inside course.cluster most (empties lane ∷ rest) next
          ⊎ (IsIdle s lane inside course.cluster most [] (empties lane ∷ rest) next × AreOwned s lane inside course.cluster most next)) (IsPassed course.cluster)
          (nodes_idle s lane inside course.cluster most masters (empties lane ∷ rest) before later comes_later
          (record {
            left = at.tasks_are ∙ ap (λ (clients : List ℕ). turns_of lane clients (numbers (live_masters (lane_at course.cluster lane))) ++ empties lane ∷ rest) none;
            beside = subst (IsSameBeside lane course.cluster) (sym at.cluster_is) (λ q apart. refl);
            limit = subst (λ (cluster : Cluster). sends_left cluster ≤ most) (sym at.cluster_is) limit;
            sessions = ap (λ (cluster : Cluster). cluster.sessions) at.cluster_is;
            silent = subst (λ (cluster : Cluster). IsSilent (lane_at cluster lane)) (sym at.cluster_is) silent;
            waits = subst (λ (cluster : Cluster). Waits (lane_at cluster lane) (numbers (live_masters (lane_at course.cluster lane)))) (sym at.cluster_is) (waits_first (lane_at course.cluster lane));
          })
          (subst (λ (cluster : Cluster). AllNoticed (lane_at cluster lane)) (sym at.cluster_is) noticed))
          (λ last comes_last either.
          ⊎_elim (λ (walked : IsWalked s lane inside course.cluster most (empties lane ∷ rest) last). walked_passes course.cluster before last comes_last walked)
          (λ (idle : IsIdle s lane inside course.cluster most [] (empties lane ∷ rest) last × AreOwned s lane inside course.cluster most last).
          idle_passes course.cluster before last comes_last idle.0 idle.1 none)
          either)
      go (client ∷ clients) some later comes_later at =
          let behind : List Task = turns_of lane clients (numbers (live_masters (lane_at course.cluster lane))) ++ empties lane ∷ rest in
          goes_on s before later (IsWalked s lane inside course.cluster most behind) (IsPassed course.cluster)
          (subst (λ (cluster : Cluster). Goes s before later (IsWalked s lane inside cluster most behind)) at.cluster_is
          (asking_walks s lane inside most client behind before later comes_later
          (at.tasks_are ∙ ap (λ (list : List ℕ). turns_of lane list (numbers (live_masters (lane_at course.cluster lane))) ++ empties lane ∷ rest) some)
          (first_has_call later.cluster.sessions lane client clients (reached_ordered s.masters s.backups later.cluster (here s later comes_later.sane))
          (ap (λ (cluster : Cluster). clients_in lane cluster.sessions) at.cluster_is ∙ some))
          (subst (λ (cluster : Cluster). sends_left cluster ≤ most) (sym at.cluster_is) limit)))
          (λ last comes_last walked. turns_pass course.cluster clients (numbers (live_masters (lane_at course.cluster lane))) before last comes_last walked)
