-- The exchanges of commands: each ends, and if its turn sends something, fewer messages may be sent afterwards.
use Rattle.std.proofs.Common.{◌≡◌, ◌<◌, ℕ, List, [], ◌∷◌, ◌++◌, None, refl, sym, subst, arith}
use Rattle.rk_scripts.proofs.Words.{LANES, Node, Gave, Cluster, lane_at, worn, world_stepped, step, World, Course, ask_exchange, asks}
use Rattle.rk_scripts.proofs.Words.{round_of, takes_turn, turn_exchange, Event}
use Rattle.rk_scripts.proofs.settle.ExchangeTasks.{Topic, call_topic, sorts}
use Rattle.rk_scripts.proofs.settle.Exchanging.{HasLeft, exchanging}
use Rattle.rk_scripts.proofs.settle.Following.{follows_itself}
use Rattle.rk_scripts.proofs.settle.Going.{Comes, Goes, IsAt, goes_here, goes_on, goes_then, still_move}
use Rattle.rk_scripts.proofs.settle.Lanes.{IsSameBeside}
use Rattle.rk_scripts.proofs.settle.NoticesFirst.{formed_at}
use Rattle.rk_scripts.proofs.settle.Numbers.{left_fewer, left_no_more, sends_left}
use Rattle.rk_scripts.proofs.settle.Rounds.{begin}
use Rattle.rk_scripts.proofs.settle.Setting.{Setting}
use Rattle.rk_scripts.proofs.settle.Tasks.{Task, ends}
use Rattle.rk_scripts.proofs.settle.Walking.{HasTurned, asked, turn_move}
use Rattle.rk_scripts.proofs.settle.Worn.{sent_below}

-- a node that takes its turn in a lane sends something, if the lane is not worn
abbrev pub Sends : World → Node → Type 0
Sends w node = worn w ≡ None → w.wire.sent < (world_stepped w (step w (Event.Turn node) (Gave None))).wire.sent

module _ (s : Setting) (lane : ℕ) (inside : lane < LANES) (topic : Topic) (node : Node) (rest : List Task) where
  -- a node has taken its turn in a cluster, and what it sent is to be sorted
  pub turning : (before : Cluster) (course : Course) → Comes s before course → course.tasks ≡ turn_exchange lane topic node ∷ rest
      → Goes s before course (HasTurned lane node (sorts lane topic (lane_at course.cluster lane).wire.sent (lane_at course.cluster lane).wire.sent ∷ rest) course.cluster)
  turning before course comes are =
      let w : World = lane_at course.cluster lane in
      let behind : List Task = sorts lane topic w.wire.sent w.wire.sent ∷ rest in
      goes_on s before course (IsAt course.cluster (takes_turn lane node ∷ behind)) (HasTurned lane node behind course.cluster)
      (still_move s before course (turn_exchange lane topic node) rest (takes_turn lane node ∷ behind) (IsAt course.cluster (takes_turn lane node ∷ behind)) comes are
      (record { cluster_is = refl; tasks_are = refl }) (λ next at. at))
      (λ later comes_later at.
      subst (λ (cluster : Cluster). Goes s before later (HasTurned lane node behind cluster)) at.cluster_is
      (turn_move s lane inside node behind before later comes_later at.tasks_are))

  -- the exchange ends
  pub turn_exchanging : (before : Cluster) (course : Course) → Comes s before course → course.tasks ≡ turn_exchange lane topic node ∷ rest
      → Goes s before course (HasLeft rest)
  turn_exchanging before course comes are =
      let sent : ℕ = (lane_at course.cluster lane).wire.sent in
      goes_on s before course (HasTurned lane node (sorts lane topic sent sent ∷ rest) course.cluster) (HasLeft rest)
      (turning before course comes are)
      (λ later comes_later turned. exchanging s lane inside topic rest sent sent before later comes_later turned.left)

  -- the exchange has ended, and fewer messages than so many may be sent
  pub record HasSent (most : ℕ) (course : Course) : Type 0 where
    pub left : course.tasks ≡ rest
    pub fewer : sends_left course.cluster < most

  -- it comes to that if the turn sends something
  pub sending : (before : Cluster) (course : Course) → Comes s before course → course.tasks ≡ turn_exchange lane topic node ∷ rest
      → Sends (lane_at course.cluster lane) node → Goes s before course (HasSent (sends_left course.cluster))
  sending before course comes are sends =
      let w : World = lane_at course.cluster lane in
      let behind : List Task = sorts lane topic w.wire.sent w.wire.sent ∷ rest in
      goes_then s before course (HasTurned lane node behind course.cluster) (HasSent (sends_left course.cluster)) comes
      (turning course.cluster course (record { sane = comes.sane; follows = follows_itself course.cluster }) are)
      (λ later comes_later follows turned.
      let fewer =
      left_fewer course.cluster later.cluster lane (λ q. (follows q).sent) inside (sent_below w (formed_at s course comes.sane lane inside) turned.fresh)
      (subst (λ (now : World). w.wire.sent < now.wire.sent) (sym turned.changes.here) (sends turned.fresh)) in
      goes_then s before later (HasLeft rest) (HasSent (sends_left course.cluster)) comes_later
      (exchanging s lane inside topic rest w.wire.sent w.wire.sent later.cluster later (record { sane = comes_later.sane; follows = follows_itself later.cluster }) turned.left)
      (λ last comes_last on left.
      let no_more = left_no_more later.cluster last.cluster (λ q. (on q).sent) in
      goes_here s before last (HasSent (sends_left course.cluster)) comes_last (record { left = left; fewer = omega (arith, fewer, no_more) })))

module _ (s : Setting) (lane : ℕ) (inside : lane < LANES) (topic : Topic) (node : Node) (rest : List Task) where
  -- so it does in a round
  pub round_sending : (before : Cluster) (course : Course) → Comes s before course → course.tasks ≡ round_of (turn_exchange lane topic node ∷ []) ++ rest
      → Sends (lane_at course.cluster lane) node → Goes s before course (HasSent s lane inside topic node rest (sends_left course.cluster))
  round_sending before course comes are sends =
      let Q : Course → Type 0 = HasSent s lane inside topic node rest (sends_left course.cluster) in
      goes_on s before course (IsAt course.cluster (turn_exchange lane topic node ∷ ends ∷ rest)) Q
      (begin s (turn_exchange lane topic node ∷ ends ∷ rest) before course comes are)
      (λ later comes_later at.
      goes_on s before later (HasSent s lane inside topic node (ends ∷ rest) (sends_left course.cluster)) Q
      (subst (λ (cluster : Cluster). Goes s before later (HasSent s lane inside topic node (ends ∷ rest) (sends_left cluster))) at.cluster_is
      (sending s lane inside topic node (ends ∷ rest) before later comes_later at.tasks_are
      (subst (λ (cluster : Cluster). Sends (lane_at cluster lane) node) (sym at.cluster_is) sends)))
      (λ last comes_last sent.
      still_move s before last ends rest rest Q comes_last sent.left (record { cluster_is = refl; tasks_are = refl })
      (λ next at_end. record {
        left = at_end.tasks_are;
        fewer = subst (λ (cluster : Cluster). sends_left cluster < sends_left course.cluster) (sym at_end.cluster_is) sent.fewer;
      })))

module _ (s : Setting) (lane : ℕ) (inside : lane < LANES) (rest : List Task) where
  -- a client takes its turn, and what it sent is delivered or forgotten
  pub ask_exchanging : (client : ℕ) (before : Cluster) (course : Course) → Comes s before course → course.tasks ≡ ask_exchange lane client ∷ rest
      → Goes s before course (HasLeft rest)
  ask_exchanging client before course comes are =
      let sent : ℕ = (lane_at course.cluster lane).wire.sent in
      let behind : List Task = sorts lane call_topic sent sent ∷ rest in
      goes_on s before course (IsAt course.cluster (asks lane client ∷ behind)) (HasLeft rest)
      (still_move s before course (ask_exchange lane client) rest (asks lane client ∷ behind) (IsAt course.cluster (asks lane client ∷ behind)) comes are
      (record { cluster_is = refl; tasks_are = refl }) (λ next at. at))
      (λ later comes_later at.
      goes_on s before later (λ next. (next.tasks ≡ behind) × IsSameBeside lane later.cluster next.cluster) (HasLeft rest)
      (asked s lane inside later.cluster 0 client behind before later comes_later at.tasks_are (λ q apart. refl))
      (λ last comes_last has. exchanging s lane inside call_topic rest sent sent before last comes_last has.0))
