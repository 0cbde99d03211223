-- `serve` ends: a call is tried twice at most, and while it is staged each log exchange sends something.
use Rattle.std.proofs.Common.{◌≡◌, ◌<◌, ◌+◌, ℕ, zero, suc, Bool, true, false, cond, List, [], ◌∷◌, ◌++◌, Option, None, Some, refl, sym, ap}
use Rattle.std.proofs.Common.{subst, arith}
use Rattle.rk_scripts.proofs.Words.{mod-lt, false≢true, hash_of, Call, LANES, known_owner, looks_up, Session, call_lane, Cluster, lane_at}
use Rattle.rk_scripts.proofs.Words.{session_at, is_staged, World, has_crashed, lives, master_at, log_round, Course, ask_exchange}
use Rattle.rk_scripts.proofs.Words.{hear_tasks, is_staged_by, request_by, serve_by, try_tasks, was_moved, Node, and_parts}
use Rattle.rk_scripts.proofs.settle.ExchangeTasks.{commits, hears, requests, tries, tries_again}
use Rattle.rk_scripts.proofs.settle.Exchanged.{HasSent, Sends, ask_exchanging, round_sending}
use Rattle.rk_scripts.proofs.settle.Exchanging.{HasLeft}
use Rattle.rk_scripts.proofs.settle.Going.{Comes, Goes, IsAt, goes_here, goes_on, still_move}
use Rattle.rk_scripts.proofs.settle.Numbers.{sends_left}
use Rattle.rk_scripts.proofs.settle.Setting.{IsSane, Setting}
use Rattle.rk_scripts.proofs.settle.Staging.{call_staged, good_at, master_sends}
use Rattle.rk_scripts.proofs.settle.Tasks.{Task}

module _ (s : Setting) (lane : ℕ) (inside : lane < LANES) (client : ℕ) where
  -- a master at which a call is staged sends on its turn
  asked_sends : (course : Course) → IsSane s course → (asked : ℕ) (out : Option Call) → is_staged_by (lane_at course.cluster lane) client asked out ≡ true
      → Sends (lane_at course.cluster lane) (Node.Master asked)
  asked_sends course sane asked out never =
      grind (arith, false≢true, lane_at, and_parts, lives, is_staged, master_at, has_crashed, master_sends, call_staged, good_at)

  module _ (rest : List Task) where
    -- log exchanges end
    commits_within : (fuel asked : ℕ) (before : Cluster) (course : Course) → Comes s before course → course.tasks ≡ commits lane client asked ∷ rest
        → sends_left course.cluster < fuel → Goes s before course (HasLeft rest)
    commits_within zero asked before course comes are few = absurd (omega (arith, few))
    commits_within (suc fuel) asked before course comes are few =
        go (commits_within fuel asked) (is_staged_by (lane_at course.cluster lane) client asked (session_at course.cluster client).outstanding) refl
      where
        w : World
        w = lane_at course.cluster lane

        session : Session
        session = session_at course.cluster client

        go : ((before : Cluster) (course : Course) → Comes s before course → course.tasks ≡ commits lane client asked ∷ rest
            → sends_left course.cluster < fuel → Goes s before course (HasLeft rest))
            → (b : Bool) → is_staged_by w client asked session.outstanding ≡ b → Goes s before course (HasLeft rest)
        go again false is =
            still_move s before course (commits lane client asked) rest rest (HasLeft rest) comes are
            (record { cluster_is = refl; tasks_are = ap (λ (b : Bool). cond b (log_round lane asked ++ commits lane client asked ∷ []) [] ++ rest) is })
            (λ next at. at.tasks_are)
        go again true is =
            let behind : List Task = commits lane client asked ∷ rest in
            let left : List Task = log_round lane asked ++ behind in
            goes_on s before course (IsAt course.cluster left) (HasLeft rest)
            (still_move s before course (commits lane client asked) rest left (IsAt course.cluster left) comes are
            (record { cluster_is = refl; tasks_are = ap (λ (b : Bool). cond b (log_round lane asked ++ commits lane client asked ∷ []) [] ++ rest) is }) (λ next at. at))
            (λ later comes_later at.
            goes_on s before later (HasSent s lane inside _ (Node.Master asked) behind (sends_left later.cluster)) (HasLeft rest)
            (round_sending s lane inside _ (Node.Master asked) behind before later comes_later at.tasks_are
            (subst (λ (cluster : Cluster). Sends (lane_at cluster lane) (Node.Master asked)) (sym at.cluster_is)
            (asked_sends course comes.sane asked session.outstanding is)))
            (λ last comes_last sent.
            again before last comes_last sent.left (omega (arith, few, sent.fewer, ap sends_left at.cluster_is))))

    committing : (asked : ℕ) (before : Cluster) (course : Course) → Comes s before course → course.tasks ≡ commits lane client asked ∷ rest
        → Goes s before course (HasLeft rest)
    committing asked before course comes are =
        commits_within (sends_left course.cluster + 1) asked before course comes are (omega arith)

    -- ---- tries

    -- what an owner has answered is looked at, after the try of this number
    Hearing : ℕ → Type 0
    Hearing times = (asked : ℕ) (session : Session) (before : Cluster) (course : Course) → Comes s before course
        → course.tasks ≡ hear_tasks session lane client times asked ++ rest → Goes s before course (HasLeft rest)

    -- a call is tried
    trying : (times : ℕ) → Hearing times → (session : Session) (before : Cluster) (course : Course) → Comes s before course
        → course.tasks ≡ try_tasks session lane client times ++ rest → Goes s before course (HasLeft rest)
    unfolding Hearing
    trying times hear session before course comes are = go (looks_up session) are
      where
        owned : (owner : Option ℕ) (before : Cluster) (course : Course) → Comes s before course → course.tasks ≡ request_by lane client times owner ++ rest
            → Goes s before course (HasLeft rest)
        owned None before course comes are = goes_here s before course (HasLeft rest) comes are
        owned (Some owner) before course comes are =
            let behind : List Task = hears lane client times owner ∷ rest in
            goes_on s before course (HasLeft behind) (HasLeft rest)
            (ask_exchanging s lane inside behind client before course comes are)
            (λ later comes_later left.
            let now : Session = session_at later.cluster client in
            let more : List Task = hear_tasks now lane client times owner ++ rest in
            goes_on s before later (IsAt later.cluster more) (HasLeft rest)
            (still_move s before later (hears lane client times owner) rest more (IsAt later.cluster more) comes_later left
            (record { cluster_is = refl; tasks_are = refl }) (λ next at. at))
            (λ last comes_last at. hear owner now before last comes_last at.tasks_are))

        requested : (before : Cluster) (course : Course) → Comes s before course → course.tasks ≡ requests lane client times ∷ rest → Goes s before course (HasLeft rest)
        requested before course comes are =
            let now : Session = session_at course.cluster client in
            let more : List Task = request_by lane client times (known_owner now) ++ rest in
            goes_on s before course (IsAt course.cluster more) (HasLeft rest)
            (still_move s before course (requests lane client times) rest more (IsAt course.cluster more) comes are
            (record { cluster_is = refl; tasks_are = refl }) (λ next at. at))
            (λ later comes_later at. owned (known_owner now) before later comes_later at.tasks_are)

        go : (b : Bool) → course.tasks ≡ (cond b (ask_exchange lane client ∷ []) [] ++ requests lane client times ∷ []) ++ rest → Goes s before course (HasLeft rest)
        go false are = requested before course comes are
        go true are = goes_on s before course (HasLeft (requests lane client times ∷ rest)) (HasLeft rest)
            (ask_exchanging s lane inside (requests lane client times ∷ rest) client before course comes are)
            (λ later comes_later left. requested before later comes_later left)

    -- for the second time
    hearing_last : Hearing 2
    unfolding Hearing
    hearing_last asked session before course comes are = committing asked before course comes are

    -- for the first time
    hearing_first : Hearing 1
    unfolding Hearing
    hearing_first asked session before course comes are = go (was_moved session) are
      where
        go : (b : Bool) → course.tasks ≡ cond b (tries_again lane client ∷ []) (commits lane client asked ∷ []) ++ rest → Goes s before course (HasLeft rest)
        go false are = committing asked before course comes are
        go true are =
            let now : Session = session_at course.cluster client in
            let more : List Task = try_tasks now lane client 2 ++ rest in
            goes_on s before course (IsAt course.cluster more) (HasLeft rest)
            (still_move s before course (tries_again lane client) rest more (IsAt course.cluster more) comes are
            (record { cluster_is = refl; tasks_are = refl }) (λ next at. at))
            (λ later comes_later at. trying 2 hearing_last now before later comes_later at.tasks_are)

module _ (s : Setting) (client : ℕ) where
  -- the outstanding call of a client, if there is one
  pub served : (out : Option Call) (before : Cluster) (course : Course) → Comes s before course → course.tasks ≡ serve_by client out → Goes s before course (HasLeft [])
  served None before course comes are = goes_here s before course (HasLeft []) comes are
  served (Some call) before course comes are =
      let inside : call_lane call < LANES = mod-lt (hash_of call.key) (omega arith) in
      let now : Session = session_at course.cluster client in
      let more : List Task = try_tasks now (call_lane call) client 1 ++ [] in
      goes_on s before course (IsAt course.cluster more) (HasLeft [])
      (still_move s before course (tries call client) [] more (IsAt course.cluster more) comes are
      (record { cluster_is = refl; tasks_are = refl }) (λ next at. at))
      (λ later comes_later at.
      trying s (call_lane call) inside client [] 1 (hearing_first s (call_lane call) inside client []) now before later comes_later at.tasks_are)
