-- The rounds of `settle`: each leaves all wires empty, and each that begins so leaves fewer messages to be sent, or the cluster at rest.
use Rattle.std.proofs.Common.{◌≡◌, ◌<◌, ℕ, zero, suc, Bool, true, false, cond, List, [], ◌∷◌, filter, length, Option, None, Some, refl, ap}
use Rattle.std.proofs.Common.{subst, ◌∙◌, arith, is_none, slice_index_or, eq-eqb, ◌≤◌, ◌+◌, ◌++◌, sym, append-nil, append_assoc, inl, inr}
use Rattle.std.proofs.Common.{⊎_elim, ◌⊎◌, flat_map}
use Rattle.rk_scripts.proofs.Words.{list_all, and_from, hash_of, NumberMap, numbers, Call, LANES, Session, call_lane, Cluster, lane_at}
use Rattle.rk_scripts.proofs.Words.{World, new_world, is_quiet, is_quiet_lane, clients_in, is_call_in, is_at_rest, is_silent}
use Rattle.rk_scripts.proofs.Words.{range_with_len, cases_eq, cases_lt, none-some, Course, is_at_limit, with_tasks, lane_tasks, round_of}
use Rattle.std.proofs.lemmas.Nat.{mod_below}
use Rattle.rk_scripts.proofs.settle.Emptying.{IsSilent}
use Rattle.rk_scripts.proofs.settle.Following.{Follows, follows_itself}
use Rattle.rk_scripts.proofs.settle.Going.{Comes, Goes, IsAt, goes_done, goes_here, goes_on, goes_then, one_move, still_move}
use Rattle.rk_scripts.proofs.settle.NoticesFirst.{AreNoticed}
use Rattle.rk_scripts.proofs.settle.Numbers.{left_no_more, sends_left}
use Rattle.rk_scripts.proofs.settle.Passing.{IsPassed, passing_idle, passing_walked}
use Rattle.rk_scripts.proofs.settle.Setting.{Setting, eight}
use Rattle.rk_scripts.proofs.settle.Tasks.{Task, begins, ends, settles}

-- A cluster whose lanes are quiet and silent, and in which no lane has an outstanding call, is at rest.

-- what each world of a list passes, by its place, all pass
all_pass : (test : World → Bool) (worlds : List World) (other : ℕ → World) → ((place : ℕ) → place < length worlds → test (slice_index_or worlds place (other place)) ≡ true)
    → list_all test worlds ≡ true
all_pass test [] other each = refl
all_pass test (w ∷ worlds) other each = and_from (test w) (list_all test worlds) (each zero (omega arith))
    (all_pass test worlds (λ place. other (suc place)) (λ place inside. each (suc place) (omega (arith, inside))))

-- if no lane has an outstanding call, there is none
no_calls : (sessions : NumberMap Session) → ((lane : ℕ) → lane < LANES → clients_in lane sessions ≡ [])
    → list_all (λ (entry : ℕ × Session). is_none entry.1.outstanding) sessions ≡ true
no_calls [] none = refl
no_calls (first ∷ sessions) none = and_from (is_none first.1.outstanding)
    (list_all (λ (entry : ℕ × Session). is_none entry.1.outstanding) sessions) (own first.1.outstanding refl)
    (no_calls sessions (λ lane inside. behind lane (is_call_in lane first.1.outstanding) (none lane inside)))
  where
    others : ℕ → NumberMap Session
    others lane = filter (λ (entry : ℕ × Session). is_call_in lane entry.1.outstanding) sessions

    behind : (lane : ℕ) (b : Bool) → numbers (cond b (first ∷ others lane) (others lane)) ≡ [] → numbers (others lane) ≡ []
    behind lane true is = let never : first.0 ∷ numbers (others lane) ≡ [] = is in absurd (cc never)
    behind lane false is = is

    own : (out : Option Call) → first.1.outstanding ≡ out → is_none out ≡ true
    own None is = refl
    own (Some call) is =
        let here : is_call_in (call_lane call) first.1.outstanding ≡ true = ap (is_call_in (call_lane call)) is ∙ eq-eqb (call_lane call) (call_lane call) refl in
        let never : first.0 ∷ numbers (others (call_lane call)) ≡ [] =
        subst (λ (b : Bool). numbers (cond b (first ∷ others (call_lane call)) (others (call_lane call))) ≡ []) here
        (none (call_lane call) (mod_below (hash_of call.key) LANES (omega arith))) in
        absurd (cc never)

-- such a cluster is at rest
pub rests : (cluster : Cluster) → length cluster.lanes ≡ LANES → ((q : ℕ) → q < LANES → is_quiet_lane (lane_at cluster q) ≡ true)
    → ((q : ℕ) → q < LANES → IsSilent (lane_at cluster q)) → ((q : ℕ) → q < LANES → clients_in q cluster.sessions ≡ []) → is_at_rest cluster ≡ true
rests cluster eight quiet silent calls = and_from (is_quiet cluster) (list_all is_silent cluster.lanes)
    (and_from (list_all is_quiet_lane cluster.lanes) (list_all (λ (entry : ℕ × Session). is_none entry.1.outstanding) cluster.sessions)
    (all_pass is_quiet_lane cluster.lanes (λ place. new_world place 0 0) (λ place inside. quiet place (omega (arith, inside, eight))))
    (no_calls cluster.sessions calls))
    (all_pass is_silent cluster.lanes (λ place. new_world place 0 0) (λ place inside. ap is_none (silent place (omega (arith, inside, eight)))))

-- nothing is on the wires of the lanes below a number
abbrev pub AreSilent : ℕ → Cluster → Type 0
AreSilent count cluster = (q : ℕ) → q < count → IsSilent (lane_at cluster q)

-- nothing was sent in a round so far: all wires are empty, and the lanes that were passed are quiet and have no outstanding call
record IsCalm (most passed : ℕ) (cluster : Cluster) : Type 0 where
  limit : sends_left cluster ≤ most
  silent : AreSilent LANES cluster
  quiet : (q : ℕ) → q < passed → is_quiet_lane (lane_at cluster q) ≡ true
  calls : (q : ℕ) → q < passed → clients_in q cluster.sessions ≡ []

-- something was sent in a round so far, or nothing was
abbrev Mode : ℕ → ℕ → Cluster → Type 0
Mode most passed cluster = (sends_left cluster < most) ⊎ IsCalm most passed cluster

-- a round has passed lanes: these tasks are left
record IsRound (most passed : ℕ) (rest : List Task) (course : Course) : Type 0 where
  left : course.tasks ≡ rest
  noticed : AreNoticed LANES course.cluster
  silent : AreSilent passed course.cluster
  mode : Mode most passed course.cluster

-- what holds below a number, and there, holds below the next one
below_next : (P : ℕ → Type 0) (n : ℕ) → ((q : ℕ) → q < n → P q) → P n → (q : ℕ) → q < n + 1 → P q
below_next P n each last q inside = ⊎_elim (λ (before : q < n). each q before)
    (λ (at : n ≤ q). let same : n ≡ q = omega (arith, at, inside) in subst P same last) (cases_lt q n)

-- nothing holds of a course, so that it goes on until it is done
abbrev pub Never : Course → Type 0
Never course = ⊥

module _ (s : Setting) where
  -- one more lane is passed
  passed_one : (lane : ℕ) (inside : lane < LANES) (most : ℕ) (rest before_rest : List Task) (course later : Course) → Follows course.cluster later.cluster
      → IsRound most lane before_rest course → IsPassed s lane inside most rest course.cluster later → IsRound most (lane + 1) rest later
  passed_one lane inside most rest before_rest course later follows round passed =
      grind (arith, below_next, lane_at, sends_left, left_no_more, cases_eq, is_quiet_lane, clients_in)

  -- the lanes are passed, one after the other
  lanes_pass : (most count from : ℕ) → from + count ≡ LANES → (rest : List Task) (before : Cluster) (course : Course) → Comes s before course
      → IsRound most from (flat_map lane_tasks (range_with_len from count) ++ rest) course → Goes s before course (IsRound most LANES rest)
  lanes_pass most zero from all rest before course comes round = grind (arith, goes_here)
  lanes_pass most (suc count) from all rest before course comes round =
      let behind : List Task = flat_map lane_tasks (range_with_len (from + 1) count) ++ rest in
      let inside : from < LANES = omega (arith, all) in
      let start : Comes s course.cluster course = record { sane = comes.sane; follows = follows_itself course.cluster } in
      goes_then s before course (IsPassed s from inside most behind course.cluster) (IsRound most LANES rest) comes
      (⊎_elim
      (λ (risen : sends_left course.cluster < most). passing_walked s from inside most behind course.cluster course start round.left risen)
      (λ (calm : IsCalm most from course.cluster).
      passing_idle s from inside most behind course.cluster course start round.left calm.limit (calm.silent from inside) (round.noticed from inside))
      round.mode)
      (λ later comes_later follows passed.
      lanes_pass most count (from + 1) (omega (arith, all)) rest before later comes_later
      (passed_one from inside most behind (flat_map lane_tasks (range_with_len from (suc count)) ++ rest) course later follows round passed))

  -- ---- a whole round

  -- a round begins, unless replicas have failed too often
  pub begin : (rest : List Task) (before : Cluster) (course : Course) → Comes s before course → course.tasks ≡ begins ∷ rest → Goes s before course (IsAt course.cluster rest)
  begin rest before course comes are = grind (arith, one_move, begins, is_at_limit, with_tasks, none-some)

  -- a cluster that is found to be at rest is the end
  rest_ends : (before : Cluster) (course : Course) (P : Course → Type 0) → Comes s before course → course.tasks ≡ settles ∷ [] → is_at_rest course.cluster ≡ true
      → Goes s before course P
  rest_ends before course P comes are at_rest = grind (arith, goes_on, still_move, settles, round_of, lane_tasks, goes_done)

  -- a round, if the cluster is not at rest
  round : (most : ℕ) (before : Cluster) (course : Course) → Comes s before course → course.tasks ≡ settles ∷ [] → is_at_rest course.cluster ≡ false
      → AreNoticed LANES course.cluster → Mode most 0 course.cluster → Goes s before course (IsRound most LANES (settles ∷ []))
  round most before course comes are busy noticed mode =
      let lanes : List Task = flat_map lane_tasks (range_with_len 0 LANES) in
      let left : List Task = begins ∷ (lanes ++ ends ∷ settles ∷ []) in
      let none : AreSilent 0 course.cluster = λ q below. absurd (omega (arith, below)) in
      goes_on s before course (IsAt course.cluster left) (IsRound most LANES (settles ∷ []))
      (still_move s before course settles [] left (IsAt course.cluster left) comes are
      (record {
        cluster_is = refl;
        tasks_are =
            grind (arith, round_of, lane_tasks, settles, eight, append-nil, begins, append_assoc, ends, course.cluster.lanes, comes.sane);
      })
      (λ next at. at))
      (λ one comes_one at.
      goes_on s before one (IsAt one.cluster (lanes ++ ends ∷ settles ∷ [])) (IsRound most LANES (settles ∷ []))
      (begin (lanes ++ ends ∷ settles ∷ []) before one comes_one at.tasks_are)
      (λ two comes_two at_two.
      let same : two.cluster ≡ course.cluster = at_two.cluster_is ∙ at.cluster_is in
      goes_on s before two (IsRound most LANES (ends ∷ settles ∷ [])) (IsRound most LANES (settles ∷ []))
      (lanes_pass most LANES 0 refl (ends ∷ settles ∷ []) before two comes_two
      (record {
        left = at_two.tasks_are;
        noticed = subst (AreNoticed LANES) (sym same) noticed;
        silent = subst (AreSilent 0) (sym same) none;
        mode = subst (Mode most 0) (sym same) mode;
      }))
      (λ three comes_three passed.
      still_move s before three ends (settles ∷ []) (settles ∷ []) (IsRound most LANES (settles ∷ [])) comes_three passed.left
      (record { cluster_is = refl; tasks_are = refl })
      (λ next at_end. record {
        left = at_end.tasks_are;
        noticed = subst (AreNoticed LANES) (sym at_end.cluster_is) passed.noticed;
        silent = subst (AreSilent LANES) (sym at_end.cluster_is) passed.silent;
        mode = subst (Mode most LANES) (sym at_end.cluster_is) passed.mode;
      }))))

  -- ---- all rounds

  -- rounds end, if all wires are empty
  rounds_end : (fuel : ℕ) (before : Cluster) (course : Course) → Comes s before course → course.tasks ≡ settles ∷ [] → AreNoticed LANES course.cluster
      → AreSilent LANES course.cluster → sends_left course.cluster < fuel → Goes s before course Never
  rounds_end zero before course comes are noticed silent few = absurd (omega (arith, few))
  rounds_end (suc fuel) before course comes are noticed silent few = go (rounds_end fuel) (is_at_rest course.cluster) refl
    where
      go : ((before : Cluster) (course : Course) → Comes s before course → course.tasks ≡ settles ∷ [] → AreNoticed LANES course.cluster
          → AreSilent LANES course.cluster → sends_left course.cluster < fuel → Goes s before course Never)
          → (b : Bool) → is_at_rest course.cluster ≡ b → Goes s before course Never
      go again true at_rest = rest_ends before course Never comes are at_rest
      go again false busy =
          goes_on s before course (IsRound (sends_left course.cluster) LANES (settles ∷ [])) Never
          (round (sends_left course.cluster) before course comes are busy noticed
          (inr (record {
            limit = omega arith;
            silent = silent;
            quiet = λ q below. absurd (omega (arith, below));
            calls = λ q below. absurd (omega (arith, below));
          })))
          (λ later comes_later done.
          ⊎_elim
          (λ (fewer : sends_left later.cluster < sends_left course.cluster).
          again before later comes_later done.left done.noticed done.silent (omega (arith, few, fewer)))
          (λ (calm : IsCalm (sends_left course.cluster) LANES later.cluster).
          rest_ends before later Never comes_later done.left (rests later.cluster (eight s later comes_later.sane) calm.quiet calm.silent calm.calls))
          done.mode)

  -- rounds end, whatever is on the wires: the first one empties them
  pub rounds : (before : Cluster) (course : Course) → Comes s before course → course.tasks ≡ settles ∷ [] → AreNoticed LANES course.cluster → Goes s before course Never
  rounds before course comes are noticed = go (is_at_rest course.cluster) refl
    where
      go : (b : Bool) → is_at_rest course.cluster ≡ b → Goes s before course Never
      go true at_rest = rest_ends before course Never comes are at_rest
      go false busy = goes_on s before course (IsRound (sends_left course.cluster + 1) LANES (settles ∷ [])) Never
          (round (sends_left course.cluster + 1) before course comes are busy noticed (inl (omega arith)))
          (λ later comes_later done. rounds_end (sends_left later.cluster + 1) before later comes_later done.left done.noticed
          done.silent (omega arith))
