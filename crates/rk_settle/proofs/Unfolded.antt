-- What a task unfolds into names lanes and masters that are there, if the cluster does.
use Rattle.rk_settle.proofs.Words.{◌≡◌, ℕ, ◌<◌, Bool, true, false, List, [], ◌∷◌, ◌++◌, filter, length, map, All, Option, None, Some}
use Rattle.rk_settle.proofs.Words.{if◌then◌else◌, refl, arith, All-append, All-cons, All-nil, LANES, number_at, row_of, Phase, Moving}
use Rattle.rk_settle.proofs.Words.{Opening, Row, Session, Cluster, lane_at, session_at, IsMaster, World, advance, is_number_off, sent_after}
use Rattle.rk_settle.proofs.Words.{AreNamed, AreTasks, IsTask, is_short_of, is_at_rest, serve, lane_numbers, lane_tasks, settle, forgets}
use Rattle.rk_settle.proofs.Words.{round_of, unfolded, Granted, Task}
use Rattle.std.proofs.Common.{◌==◌}
use Rattle.std.specs.Prelude.{IfSome}
use Rattle.std.proofs.Math.Nat.{mod-lt}
use Rattle.std.proofs.lemmas.List.Elements.{All-map}
use Rattle.std.proofs.lemmas.List.FromFn.{get_or-range_with_len, length-range_with_len}
use Rattle.rk_types.specs.NumberMap.{numbers}
use Rattle.rk_types.specs.declared.node.Node.TheVariants as nodes
use Rattle.rk_message.specs.Wire.{Traffic}
use Rattle.rk_transfer.specs.declared.role.Role.{Role}
use Rattle.rk_transfer.specs.declared.role.Role.TheVariants as roles
use Rattle.rk_session.specs.Owners.{known_owner, looks_up}
use Rattle.rk_world.specs.World.{live_masters, tablet_in}
use Rattle.rk_world.specs.declared.event.Event.TheVariants as events
use Rattle.rk_cluster.specs.Turns.{clients_in}
use Rattle.rk_settle.specs.Advance.{advance_tasks, coordinator_exchange, freeze_by, grant_task, log_round, reach_between, reach_phase, reach_row, reaches_to, transfer_tasks}
use Rattle.rk_settle.specs.Exchange.{hand_by, sort_tasks}
use Rattle.rk_settle.specs.Priority.{hasten_phase, hasten_row, priority, wants_first}
use Rattle.rk_settle.specs.Serve.{MOST_TRIES, ask_exchange, commit_tasks, hear_tasks, is_staged_by, request_by, try_tasks, was_moved}
use Rattle.rk_settle.specs.Settle.{empty_by, notice_by, settling_tasks, unnoticed}
use Rattle.rk_settle.specs.Tasks.{turn_exchange}
use Rattle.rk_types.specs.declared.reach.Reach.{Reach}
use Rattle.rk_types.specs.declared.reach.Reach.TheVariants.{Begun, Finished, Frozen, Joined, Pulled}
use Rattle.rk_settle.specs.declared.task.Act.TheVariants as acts
use Rattle.rk_settle.specs.declared.task.Task.TheVariants as tasks
use Rattle.rk_settle.specs.declared.topic.Topic.{Topic}
use Rattle.rk_settle.specs.declared.topic.Topic.TheVariants as topics
use Rattle.rk_settle.proofs.Named.{forgets_are, round_are, turns_are}

-- a cluster has eight lanes, and names masters that are there, of so many
pub record NamesMasters (masters : ℕ) (cluster : Cluster) : Type 0 where
  pub eight : length cluster.lanes ≡ LANES
  pub rows : (lane tablet : ℕ) (row : Row) → lane < LANES → row_of (lane_at cluster lane).coordinator.rows tablet ≡ Some row → AreNamed masters row.phase
  pub live : (lane : ℕ) → lane < LANES → All (IsMaster masters) (numbers (live_masters (lane_at cluster lane)))
  pub unnoticed_is : (lane : ℕ) → lane < LANES → IfSome (unnoticed (lane_at cluster lane)) (IsMaster masters)
  pub owners : (client : ℕ) → IfSome (known_owner (session_at cluster client)) (IsMaster masters)

-- ---- lists of tasks

module _ (masters : ℕ) where
  none_are : AreTasks masters []
  none_are = All-nil (IsTask masters)

  one_is : (task : Task) → IsTask masters task → AreTasks masters (task ∷ [])
  one_is task is = All-cons (IsTask masters) task [] is none_are

  both_are : (task next : Task) → IsTask masters task → IsTask masters next → AreTasks masters (task ∷ next ∷ [])
  both_are task next is other = All-cons (IsTask masters) task (next ∷ []) is (one_is next other)

  joined_are : (left more : List Task) → AreTasks masters left → AreTasks masters more → AreTasks masters (left ++ more)
  joined_are left more = All-append (IsTask masters) left more

  where_are : (b : Bool) (left more : List Task) → AreTasks masters left → AreTasks masters more → AreTasks masters (if b then left else more)
  where_are true left more are others = are
  where_are false left more are others = others

  -- tasks in a round
  rounded_are : (left : List Task) → AreTasks masters left → AreTasks masters (round_of left)
  rounded_are left are =
      All-cons (IsTask masters) tasks.Begins (left ++ tasks.Ends ∷ []) tt (joined_are left (tasks.Ends ∷ []) are (one_is tasks.Ends tt))

  module _ (lane : ℕ) (inside : lane < LANES) where
    -- ---- exchanges

    sorted_are : (wire : Traffic) (topic : Topic) (from last : ℕ) → AreTasks masters (sort_tasks wire lane topic from last)
    sorted_are wire topic from last =
        let off : List ℕ = filter (is_number_off wire topic) (sent_after wire last) in
        joined_are (map (forgets lane) off) (tasks.Hands lane topic from ∷ []) (forgets_are masters lane off inside) (one_is (tasks.Hands lane topic from) inside)

    handed_are : (wire : Traffic) (topic : Topic) (found : Option ℕ) → AreTasks masters (hand_by wire lane topic found)
    handed_are wire topic None = none_are
    handed_are wire topic (Some number) =
        joined_are (tasks.Delivers lane number ∷ []) (forgets lane number ∷ tasks.Sorts lane topic number wire.sent ∷ []) (one_is (tasks.Delivers lane number) inside)
        (both_are (forgets lane number) (tasks.Sorts lane topic number wire.sent) (inside, (tt, tt)) inside)

    -- ---- settle

    emptied_are : (found : Option ℕ) → AreTasks masters (empty_by lane found)
    emptied_are None = none_are
    emptied_are (Some number) =
        joined_are (tasks.Delivers lane number ∷ []) (forgets lane number ∷ tasks.Empties lane ∷ []) (one_is (tasks.Delivers lane number) inside)
        (both_are (forgets lane number) (tasks.Empties lane) (inside, (tt, tt)) inside)

    noticed_are : (found : Option ℕ) → IfSome found (IsMaster masters) → AreTasks masters (notice_by lane found)
    noticed_are None there = none_are
    noticed_are (Some master) there =
        both_are (tasks.Occurs lane (acts.Happens (events.Notice master))) (tasks.Notices lane) (inside, (tt, there)) inside

    -- ---- serve

    tried_are : (session : Session) (client times : ℕ) → AreTasks masters (try_tasks session lane client times)
    tried_are session client times =
        joined_are (if looks_up session then ask_exchange lane client ∷ [] else []) (tasks.Requests lane client times ∷ [])
        (where_are (looks_up session) (ask_exchange lane client ∷ []) [] (one_is (ask_exchange lane client) (inside, tt)) none_are)
        (one_is (tasks.Requests lane client times) inside)

    requested_are : (client times : ℕ) (owner : Option ℕ) → IfSome owner (IsMaster masters) → AreTasks masters (request_by lane client times owner)
    requested_are client times None there = none_are
    requested_are client times (Some owner) there =
        both_are (ask_exchange lane client) (tasks.Hears lane client times owner) (inside, tt) (inside, there)

    heard_are : (session : Session) (client times asked : ℕ) → IsMaster masters asked → AreTasks masters (hear_tasks session lane client times asked)
    heard_are session client times asked there =
        let commits : AreTasks masters (tasks.Commits lane client asked ∷ []) = one_is (tasks.Commits lane client asked) (inside, there) in
        where_are (times == MOST_TRIES) (tasks.Commits lane client asked ∷ [])
        (if was_moved session then tasks.Tries lane client MOST_TRIES ∷ [] else tasks.Commits lane client asked ∷ []) commits
        (where_are (was_moved session) (tasks.Tries lane client MOST_TRIES ∷ []) (tasks.Commits lane client asked ∷ [])
        (one_is (tasks.Tries lane client MOST_TRIES) inside) commits)

    -- a master that is there takes its turn, or the coordinator
    turned_is : (topic : Topic) (master : ℕ) → IsMaster masters master → IsTask masters (turn_exchange lane topic (nodes.Master master))
    turned_is topic master there = (inside, (tt, there))

    coordinated_is : (topic : Topic) → IsTask masters (coordinator_exchange lane topic)
    coordinated_is topic = (inside, (tt, tt))

    logged_are : (master : ℕ) → IsMaster masters master → AreTasks masters (log_round lane master)
    logged_are master there =
        let exchange : Task = turn_exchange lane topics.Log (nodes.Master master) in
        rounded_are (exchange ∷ []) (one_is exchange (turned_is topics.Log master there))

    committed_are : (w : World) (session : Session) (client asked : ℕ) → IsMaster masters asked → AreTasks masters (commit_tasks w session lane client asked)
    committed_are w session client asked there =
        where_are (is_staged_by w client asked session.outstanding) (log_round lane asked ++ tasks.Commits lane client asked ∷ []) []
        (joined_are (log_round lane asked) (tasks.Commits lane client asked ∷ []) (logged_are asked there)
        (one_is (tasks.Commits lane client asked) (inside, there)))
        none_are

    -- ---- migrations

    hastened_are : (w : World) (tablet : ℕ) (phase : Phase) → AreNamed masters phase → AreTasks masters (hasten_phase w lane tablet phase)
    hastened_are w tablet (Moving source sfrom target dfrom) named =
        let exchange : Task = turn_exchange lane (topics.Wants tablet) (nodes.Master target) in
        where_are (wants_first (tablet_in w target tablet)) (exchange ∷ []) []
        (one_is exchange (turned_is (topics.Wants tablet) target named.1)) none_are
    hastened_are w tablet phase named = none_are

    advanced_are : (w : World) (tablet : ℕ) (reach : Reach) → AreTasks masters (advance_tasks w lane tablet reach)
    advanced_are w tablet reach =
        where_are (is_short_of w tablet reach) (map (tasks.Reaches lane tablet) (reaches_to reach)) []
        (All-map (IsTask masters) (tasks.Reaches lane tablet) (reaches_to reach) (λ (k : ℕ) (d : Reach) within. inside)) none_are

    transferred_are : (tablet : ℕ) (opening : Bool) → AreTasks masters (transfer_tasks lane tablet opening)
    transferred_are tablet opening =
        let exchange : Task = coordinator_exchange lane (topics.Handing tablet) in
        where_are opening (exchange ∷ []) [] (one_is exchange (coordinated_is (topics.Handing tablet))) none_are

    brought_are : (tablet : ℕ) (opening : Bool) (source target : ℕ) (reach : Reach) → IsMaster masters source → IsMaster masters target
        → AreTasks masters (reach_between lane tablet opening source target reach)
    brought_are tablet opening source target Begun first last =
        one_is (coordinator_exchange lane (topics.Readiness tablet)) (coordinated_is (topics.Readiness tablet))
    brought_are tablet opening source target Frozen first last =
        both_are (coordinator_exchange lane (topics.Closing tablet)) (tasks.Freezes lane tablet source) (coordinated_is (topics.Closing tablet)) (inside, first)
    brought_are tablet opening source target Granted first last =
        joined_are (transfer_tasks lane tablet opening) (grant_task lane tablet ∷ []) (transferred_are tablet opening)
        (one_is (grant_task lane tablet) (coordinated_is (topics.Granting tablet)))
    brought_are tablet opening source target Pulled first last =
        let exchange : Task = turn_exchange lane (topics.Pulls tablet) (nodes.Master target) in
        joined_are (round_of (exchange ∷ [])) (tasks.Reaches lane tablet Pulled ∷ [])
        (rounded_are (exchange ∷ []) (one_is exchange (turned_is (topics.Pulls tablet) target last)))
        (one_is (tasks.Reaches lane tablet Pulled) inside)
    brought_are tablet opening source target Joined first last =
        joined_are (log_round lane target) (tasks.Reaches lane tablet Joined ∷ []) (logged_are target last) (one_is (tasks.Reaches lane tablet Joined) inside)
    brought_are tablet opening source target Finished first last =
        one_is (turn_exchange lane (topics.End tablet) (nodes.Master target)) (turned_is (topics.End tablet) target last)

    phased_are : (tablet : ℕ) (phase : Phase) (reach : Reach) → AreNamed masters phase → AreTasks masters (reach_phase lane tablet phase reach)
    phased_are tablet (Opening source sfrom target dfrom) reach named = brought_are tablet true source target reach named.0 named.1
    phased_are tablet (Moving source sfrom target dfrom) reach named = brought_are tablet false source target reach named.0 named.1
    phased_are tablet phase reach named = none_are

    frozen_are : (tablet source : ℕ) (role : Role) → IsMaster masters source → AreTasks masters (freeze_by lane tablet source role)
    frozen_are tablet source roles.Closing there =
        joined_are (log_round lane source) (tasks.Freezes lane tablet source ∷ []) (logged_are source there) (one_is (tasks.Freezes lane tablet source) (inside, there))
    frozen_are tablet source role there = none_are

-- ---- in a cluster

module _ (masters : ℕ) (cluster : Cluster) (names : NamesMasters masters cluster) where
  hastened_by : (lane : ℕ) → lane < LANES → (tablet : ℕ) (found : Option Row) → row_of (lane_at cluster lane).coordinator.rows tablet ≡ found
      → AreTasks masters (hasten_row (lane_at cluster lane) lane tablet found)
  hastened_by lane inside tablet found is = grind (arith, none_are, lane_at)

  reached_by : (lane : ℕ) → lane < LANES → (tablet : ℕ) (reach : Reach) (found : Option Row) → row_of (lane_at cluster lane).coordinator.rows tablet ≡ found
      → AreTasks masters (reach_row lane tablet found reach)
  reached_by lane inside tablet reach found is = grind (arith, none_are)

  settled_are : AreTasks masters (settling_tasks cluster)
  settled_are = grind (arith, is_at_rest, round_of, lane_tasks, where_are, none_are, round_are)

  -- what a task unfolds into
  pub unfolded_are : (task : Task) → IsTask masters task → AreTasks masters (unfolded cluster task)
  unfolded_are (tasks.Exchanges lane topic act) is = grind (arith, lane_at, both_are, tasks.Occurs, tasks.Sorts, is.0)
  unfolded_are (tasks.Sorts lane topic from last) is = sorted_are masters lane is (lane_at cluster lane).wire topic from last
  unfolded_are (tasks.Hands lane topic from) is = grind (arith, lane_at)
  unfolded_are (tasks.Notices lane) is = noticed_are masters lane is (unnoticed (lane_at cluster lane)) (names.unnoticed_is lane is)
  unfolded_are tasks.Settles is = settled_are
  unfolded_are (tasks.Turns lane) is =
      turns_are masters lane (clients_in lane cluster.sessions) (numbers (live_masters (lane_at cluster lane))) is (names.live lane is)
  unfolded_are (tasks.Empties lane) is = emptied_are masters lane is (number_at 1 (lane_at cluster lane).wire)
  unfolded_are (tasks.Tries lane client times) is = tried_are masters lane is (session_at cluster client) client times
  unfolded_are (tasks.Requests lane client times) is = grind (arith, session_at)
  unfolded_are (tasks.Hears lane client times asked) is = heard_are masters lane is.0 (session_at cluster client) client times asked is.1
  unfolded_are (tasks.Commits lane client asked) is = grind (arith, lane_at, session_at, is.0, is.1)
  unfolded_are (tasks.Hastens lane tablet) is = hastened_by lane is tablet (row_of (lane_at cluster lane).coordinator.rows tablet) refl
  unfolded_are (tasks.Advances lane tablet reach) is = advanced_are masters lane is (lane_at cluster lane) tablet reach
  unfolded_are (tasks.Reaches lane tablet reach) is = grind (arith, row_of, lane_at, where_are, is_short_of, reached_by, none_are)
  unfolded_are (tasks.Freezes lane tablet source) is = grind (arith, lane_at, is.0, is.1)
  unfolded_are (tasks.Occurs lane act) is = none_are masters
  unfolded_are (tasks.Delivers lane number) is = none_are masters
  unfolded_are tasks.Begins is = none_are masters
  unfolded_are tasks.Ends is = none_are masters

  -- ---- commands

  -- the lanes of a cluster are there
  pub lanes_are : All (λ lane. lane < LANES) (lane_numbers cluster)
  lanes_are k d within = grind (arith, length-range_with_len, get_or-range_with_len)

  pub serve_are : (client : ℕ) → AreTasks masters (serve cluster client)
  serve_are client = grind (arith, session_at, none_are, one_is, mod-lt)

  pub advance_are : (tablet : ℕ) (reach : Reach) → AreTasks masters (advance cluster tablet reach)
  advance_are tablet reach = All-map (IsTask masters) (λ lane. tasks.Advances lane tablet reach) (lane_numbers cluster) lanes_are

  pub priority_are : (tablet : ℕ) → AreTasks masters (priority cluster tablet)
  priority_are tablet = All-map (IsTask masters) (λ lane. tasks.Hastens lane tablet) (lane_numbers cluster) lanes_are

  pub settle_are : AreTasks masters (settle cluster)
  settle_are = grind (arith, joined_are, lane_numbers, lanes_are, one_is)
