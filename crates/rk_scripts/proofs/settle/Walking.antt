-- The nodes of a lane take their turns: no other lane changes.
use Rattle.std.proofs.Common.{◌≡◌, ◌<◌, ℕ, Bool, true, false, cond, List, [], ◌∷◌, ◌++◌, map, None, refl, sym, ap, subst, ◌∙◌, append_assoc}
use Rattle.std.proofs.Common.{arith, Err, Ok, Result}
use Rattle.rk_scripts.proofs.Words.{LANES, Node, Gave, ask, Asks, Cluster, Happens, cluster_stepped, lane_at, session_at, worn}
use Rattle.rk_scripts.proofs.Words.{world_stepped, Stepped, step, World, StepError, is_client, Course, occurrence_error, occurring}
use Rattle.rk_scripts.proofs.Words.{turns_of, asks, takes_turn, added_after, Event}
use Rattle.rk_scripts.proofs.settle.Delivering.{has_session}
use Rattle.rk_scripts.proofs.settle.Following.{Follows, follows_itself}
use Rattle.rk_scripts.proofs.settle.Going.{Comes, Goes, IsAt, alone_fresh, goes_here, goes_then, occurs_move, still_move}
use Rattle.rk_scripts.proofs.settle.Lanes.{ChangesLane, IsSameBeside, stepped_changes, visited_changes}
use Rattle.rk_scripts.proofs.settle.Numbers.{left_no_more, sends_left}
use Rattle.rk_scripts.proofs.settle.Setting.{Setting, eight}
use Rattle.rk_scripts.proofs.settle.Tasks.{Task}
use Rattle.rk_scripts.proofs.settle.Worn.{fresh_event}

-- the sessions are as they were after an event
stepped_sessions : (cluster : Cluster) (lane : ℕ) (answer : Result Stepped StepError) → (cluster_stepped cluster lane answer).sessions ≡ cluster.sessions
stepped_sessions cluster lane (Ok stepped) = refl
stepped_sessions cluster lane (Err error) = refl

-- a node has taken its turn in a lane, and these tasks are left
pub record HasTurned (lane : ℕ) (node : Node) (rest : List Task) (before : Cluster) (course : Course) : Type 0 where
  pub left : course.tasks ≡ rest
  pub changes : ChangesLane lane (world_stepped (lane_at before lane) (step (lane_at before lane) (Event.Turn node) (Gave None))) before course.cluster
  pub fresh : worn (lane_at before lane) ≡ None
  pub sessions : course.cluster.sessions ≡ before.sessions

module _ (s : Setting) (lane : ℕ) (inside : lane < LANES) where
  -- a node takes its turn
  pub turn_move : (node : Node) (rest : List Task) (before : Cluster) (course : Course) → Comes s before course → course.tasks ≡ takes_turn lane node ∷ rest
      → Goes s before course (HasTurned lane node rest course.cluster)
  turn_move node rest before course comes are =
      let w : World = lane_at course.cluster lane in
      let answer = step w (Event.Turn node) (Gave None) in
      occurs_move s before course (takes_turn lane node) rest (Happens lane (Event.Turn node) (Gave None)) false (HasTurned lane node rest course.cluster) comes are refl
      (alone_fresh course.cluster (Happens lane (Event.Turn node) (Gave None)))
      (added_after course.cluster (Happens lane (Event.Turn node) (Gave None)) tt comes.sane.added)
      (λ next at fresh. record {
        left = at.tasks_are;
        changes = grind (arith, world_stepped, stepped_changes, eight, course.cluster, at.cluster_is, comes.sane);
        fresh = fresh_event w (Event.Turn node) (Gave None) refl fresh;
        sessions = ap (λ (cluster : Cluster). cluster.sessions) at.cluster_is ∙ stepped_sessions course.cluster lane answer;
      })

  module _ (origin : Cluster) (most : ℕ) where
    -- these tasks are left, the other lanes are as they were, and fewer messages may be sent than so many
    pub record IsWalked (rest : List Task) (course : Course) : Type 0 where
      pub left : course.tasks ≡ rest
      pub beside : IsSameBeside lane origin course.cluster
      pub risen : sends_left course.cluster < most

    -- a client takes its turn, if it has a session
    pub asked : (client : ℕ) (rest : List Task) (before : Cluster) (course : Course) → Comes s before course → course.tasks ≡ asks lane client ∷ rest
        → IsSameBeside lane origin course.cluster → Goes s before course (λ next. (next.tasks ≡ rest) × IsSameBeside lane origin next.cluster)
    asked client rest before course comes are beside = go (is_client course.cluster client) refl
      where
        go : (b : Bool) → is_client course.cluster client ≡ b → Goes s before course (λ next. (next.tasks ≡ rest) × IsSameBeside lane origin next.cluster)
        go true there =
            occurs_move s before course (asks lane client) rest (Asks lane client) false (λ next. (next.tasks ≡ rest) × IsSameBeside lane origin next.cluster) comes are
            (ap (λ (b : Bool). occurring course (cond b (Asks lane client ∷ []) []) false rest) there)
            (λ none.
            alone_fresh course.cluster (Asks lane client)
            (ap (λ (b : Bool). occurrence_error course.cluster (cond b (Asks lane client ∷ []) [])) (sym there) ∙ none))
            (added_after course.cluster (Asks lane client) (has_session course.cluster client there) comes.sane.added)
            (λ next at fresh. (
              at.tasks_are,
              subst (IsSameBeside lane origin) (sym at.cluster_is)
                  (λ q apart.
                  (visited_changes course.cluster lane (omega (arith, inside, eight s course comes.sane)) client (ask (lane_at course.cluster lane) (session_at course.cluster client))).beside q apart
                  ∙ beside q apart),
            ))
        go false away =
            still_move s before course (asks lane client) rest rest (λ next. (next.tasks ≡ rest) × IsSameBeside lane origin next.cluster) comes are
            (subst (λ (b : Bool). IsAt course.cluster rest (occurring course (cond b (Asks lane client ∷ []) []) false rest)) (sym away)
            (record { cluster_is = refl; tasks_are = refl }))
            (λ next at. (at.tasks_are, subst (IsSameBeside lane origin) (sym at.cluster_is) beside))

    still_risen : (now later : Cluster) → Follows now later → sends_left now < most → sends_left later < most
    still_risen now later follows risen = omega (arith, risen, left_no_more now later (λ q. (follows q).sent))

    asks_walk : (clients : List ℕ) (rest : List Task) (before : Cluster) (course : Course) → Comes s before course → IsWalked (map (asks lane) clients ++ rest) course
        → Goes s before course (IsWalked rest)
    asks_walk [] rest before course comes walked = goes_here s before course (IsWalked rest) comes walked
    asks_walk (client ∷ clients) rest before course comes walked =
        goes_then s before course (λ next. (next.tasks ≡ map (asks lane) clients ++ rest) × IsSameBeside lane origin next.cluster) (IsWalked rest) comes
        (asked client (map (asks lane) clients ++ rest) course.cluster course (record { sane = comes.sane; follows = follows_itself course.cluster }) walked.left walked.beside)
        (λ later comes_later follows has.
        asks_walk clients rest before later comes_later
        (record { left = has.0; beside = has.1; risen = still_risen course.cluster later.cluster follows walked.risen }))

    turn_walk : (node : Node) (rest : List Task) (before : Cluster) (course : Course) → Comes s before course → IsWalked (takes_turn lane node ∷ rest) course
        → Goes s before course (IsWalked rest)
    turn_walk node rest before course comes walked =
        goes_then s before course (HasTurned lane node rest course.cluster) (IsWalked rest) comes
        (turn_move node rest course.cluster course (record { sane = comes.sane; follows = follows_itself course.cluster }) walked.left)
        (λ later comes_later follows turned.
        goes_here s before later (IsWalked rest) comes_later
        (record {
          left = turned.left;
          beside = λ q apart. turned.changes.beside q apart ∙ walked.beside q apart;
          risen = still_risen course.cluster later.cluster follows walked.risen;
        }))

    -- masters take their turns
    pub masters_walk : (masters : List ℕ) (rest : List Task) (before : Cluster) (course : Course) → Comes s before course
        → IsWalked (map (λ master. takes_turn lane (Node.Master master)) masters ++ rest) course → Goes s before course (IsWalked rest)
    masters_walk [] rest before course comes walked = goes_here s before course (IsWalked rest) comes walked
    masters_walk (master ∷ masters) rest before course comes walked =
        let behind : List Task = map (λ number. takes_turn lane (Node.Master number)) masters ++ rest in
        goes_then s before course (IsWalked behind) (IsWalked rest) comes
        (turn_walk (Node.Master master) behind course.cluster course (record { sane = comes.sane; follows = follows_itself course.cluster }) walked)
        (λ later comes_later follows on. masters_walk masters rest before later comes_later on)

    -- the clients that are left, the coordinator and the masters take their turns
    pub turns_walk : (clients masters : List ℕ) (rest : List Task) (before : Cluster) (course : Course) → Comes s before course
        → IsWalked (turns_of lane clients masters ++ rest) course → Goes s before course (IsWalked rest)
    turns_walk clients masters rest before course comes walked =
        let last : List Task = map (λ number. takes_turn lane (Node.Master number)) masters ++ rest in
        let behind : List Task = takes_turn lane Node.Coordinator ∷ last in
        goes_then s before course (IsWalked behind) (IsWalked rest) comes
        (asks_walk clients behind course.cluster course (record { sane = comes.sane; follows = follows_itself course.cluster })
        (record {
          left = walked.left
              ∙ append_assoc (map (asks lane) clients) (takes_turn lane Node.Coordinator ∷ map (λ number. takes_turn lane (Node.Master number)) masters) rest;
          beside = walked.beside;
          risen = walked.risen;
        }))
        (λ later comes_later follows on.
        goes_then s before later (IsWalked last) (IsWalked rest) comes_later
        (turn_walk Node.Coordinator last later.cluster later (record { sane = comes_later.sane; follows = follows_itself later.cluster }) on)
        (λ end comes_end follows_end done. masters_walk masters rest before end comes_end done))
