-- No task of a settling command adds a client, whatever it unfolds into.
use Rattle.std.proofs.Common.{arith, ◌++◌, ◌≡◌, ◌==◌, ℕ, zero, suc, Bool, true, false, List, [], ◌∷◌, filter, map, Option, None, Some}
use Rattle.std.proofs.Common.{if◌then◌else◌, refl, subst, inr, slice_index_or, flat_map}
use Rattle.rk_scripts.proofs.Words.{Course, numbers, Call, Node, Traffic, number_at, row_of, Phase, Moving, Row, Role, known_owner}
use Rattle.rk_scripts.proofs.Words.{looks_up, Session, Cluster, lane_at, session_at, World, live_masters, tablet_in, is_lost_at_backup}
use Rattle.rk_scripts.proofs.Words.{is_client, deliver_in_makes, in_lane, clients_in, advance, advance_tasks, freeze_by, reach_between}
use Rattle.rk_scripts.proofs.Words.{reach_row, reaches_to, is_at_limit, with_tasks, hand_by, is_number_off, oldest_after, sent_after}
use Rattle.rk_scripts.proofs.Words.{sort_tasks, hasten_phase, hasten_row, priority, wants_first, is_short_of, is_at_rest, ask_exchange}
use Rattle.rk_scripts.proofs.Words.{commit_tasks, hear_tasks, is_staged_by, request_by, serve_by, try_tasks, was_moved, empty_by}
use Rattle.rk_scripts.proofs.Words.{lane_numbers, lane_tasks, notice_by, settle, turns_of, unnoticed, asks, forgets, takes_turn}
use Rattle.rk_scripts.proofs.Words.{turn_exchange, unfolded, reach_tasks, call_lane, occurring, Reach, Begun, Finished, Frozen, Granted}
use Rattle.rk_scripts.proofs.Words.{Event}
use Rattle.rk_settle.specs.Serve.{MOST_TRIES}
use Rattle.rk_settle.specs.Settle.{settling_tasks}
use Rattle.rk_scripts.proofs.settle.OwnTasks.{Each, Goes, IsOwn, deliver_own, each_own, joined_own, none_left, occurs, one_of_own, stays}
use Rattle.rk_scripts.proofs.settle.OwnTasks.{unfolds, where_of_own, where_own}
use Rattle.rk_scripts.proofs.settle.ExchangeTasks.{Topic, commits, freezes, reaches, sorts}
use Rattle.rk_scripts.proofs.settle.OwnClients.{AddsNobody}
use Rattle.rk_scripts.proofs.settle.Owning.{HasOwnClients}
use Rattle.rk_scripts.proofs.settle.Tasks.{Task, begins, delivers, empties, ends, notices, settles}

-- ---- what tasks unfold into

-- the lists of tasks that a settling command comes to
pub data IsMet : List Task → Type 0 where
  Exchanging : (cluster : Cluster) (lane : ℕ) (topic : Topic) (node : Node) → IsMet (unfolded cluster (turn_exchange lane topic node))
  Asking : (cluster : Cluster) (lane client : ℕ) → IsMet (unfolded cluster (ask_exchange lane client))
  Sorting : (wire : Traffic) (lane : ℕ) (topic : Topic) (from last : ℕ) → IsMet (sort_tasks wire lane topic from last)
  Handing : (wire : Traffic) (lane : ℕ) (topic : Topic) (found : Option ℕ) → IsMet (hand_by wire lane topic found)
  Noticing : (lane : ℕ) (found : Option ℕ) → IsMet (notice_by lane found)
  Rounding : (cluster : Cluster) → IsMet (settling_tasks cluster)
  Turning : (lane : ℕ) (clients live : List ℕ) → IsMet (turns_of lane clients live)
  Emptying : (lane : ℕ) (found : Option ℕ) → IsMet (empty_by lane found)
  Trying : (session : Session) (lane client times : ℕ) → IsMet (try_tasks session lane client times)
  Requesting : (lane client times : ℕ) (owner : Option ℕ) → IsMet (request_by lane client times owner)
  Hearing : (session : Session) (lane client times asked : ℕ) → IsMet (hear_tasks session lane client times asked)
  Committing : (w : World) (session : Session) (lane client asked : ℕ) → IsMet (commit_tasks w session lane client asked)
  Hastening : (w : World) (lane tablet : ℕ) (found : Option Row) → IsMet (hasten_row w lane tablet found)
  Advancing : (w : World) (lane tablet : ℕ) (reach : Reach) → IsMet (advance_tasks w lane tablet reach)
  Reaching : (w : World) (lane tablet : ℕ) (reach : Reach) → IsMet (reach_tasks w lane tablet reach)
  Freezing : (lane tablet source : ℕ) (role : Role) → IsMet (freeze_by lane tablet source role)
  -- those of the commands
  Serves : (client : ℕ) (out : Option Call) → IsMet (serve_by client out)
  Advances : (cluster : Cluster) (tablet : ℕ) (reach : Reach) → IsMet (advance cluster tablet reach)
  Hastens : (cluster : Cluster) (tablet : ℕ) → IsMet (priority cluster tablet)
  Settles : (cluster : Cluster) → IsMet (settle cluster)

-- so many moves from any of them on nobody is added
abbrev pub AllOwn : ℕ → Type 0
AllOwn n = (left : List Task) → IsMet left → Each (IsOwn n) left

module _ (n : ℕ) (all : AllOwn n) where
  abbrev Later : Task → Type 0
  Later = IsOwn (suc n)

  -- ---- single tasks

  -- one unfolds into such tasks
  opens : {left : List Task} (course : Course) (rest : List Task) → HasOwnClients course.cluster → IsMet left
      → Goes (IsOwn n) course rest (with_tasks course (left ++ rest))
  opens {left} course rest own met = unfolds (IsOwn n) course rest own left (all left met)

  happens : (lane : ℕ) (event : Event) → AddsNobody event → (course : Course) (rest : List Task) → HasOwnClients course.cluster
      → Goes (IsOwn n) course rest (occurring course (in_lane lane event ∷ []) false rest)
  happens lane event nobody course rest own = occurs (IsOwn n) course rest own (in_lane lane event ∷ []) false (one_of_own (in_lane lane event) nobody)

  forgotten : (lane number : ℕ) → Later (forgets lane number)
  forgotten lane number course fate rest own = happens lane (Event.Forget number) tt course rest own

  turned : (lane : ℕ) (node : Node) → Later (takes_turn lane node)
  turned lane node course fate rest own = happens lane (Event.Turn node) tt course rest own

  delivered : (lane number : ℕ) → Later (delivers lane number)
  delivered lane number course fate rest own = search (occurs, deliver_in_makes, is_lost_at_backup, deliver_own, course.cluster)

  asks_once : (lane client : ℕ) → Later (asks lane client)
  asks_once lane client course fate rest own = search (occurs, is_client, where_of_own, course.cluster)

  begun : Later begins
  begun course fate rest own = grind (arith, is_at_limit, with_tasks, stays, unfolds)

  ended : Later ends
  ended course fate rest own = record { own = own; left = inr (record { more = []; are = tt; is = refl }) }

  exchanges : (lane : ℕ) (topic : Topic) (node : Node) → Later (turn_exchange lane topic node)
  exchanges lane topic node course fate rest own = opens course rest own (Exchanging course.cluster lane topic node)

  client_exchanges : (lane client : ℕ) → Later (ask_exchange lane client)
  client_exchanges lane client course fate rest own = opens course rest own (Asking course.cluster lane client)

  sorting : (lane : ℕ) (topic : Topic) (from last : ℕ) → Later (sorts lane topic from last)
  sorting lane topic from last course fate rest own = opens course rest own (Sorting (lane_at course.cluster lane).wire lane topic from last)

  -- also if the topic has no name
  sorting_as : (lane : ℕ) (topic : Topic) (from last : ℕ) (task : Task) → sorts lane topic from last ≡ task → Later task
  sorting_as lane topic from last task is = subst Later is (sorting lane topic from last)

  emptied : (lane : ℕ) → Later (empties lane)
  emptied lane course fate rest own = opens course rest own (Emptying lane (number_at 1 (lane_at course.cluster lane).wire))

  noticed : (lane : ℕ) → Later (notices lane)
  noticed lane course fate rest own = opens course rest own (Noticing lane (unnoticed (lane_at course.cluster lane)))

  committed : (lane client asked : ℕ) → Later (commits lane client asked)
  committed lane client asked course fate rest own =
      opens course rest own (Committing (lane_at course.cluster lane) (session_at course.cluster client) lane client asked)

  reached : (lane tablet : ℕ) (reach : Reach) → Later (reaches lane tablet reach)
  reached lane tablet reach course fate rest own = opens course rest own (Reaching (lane_at course.cluster lane) lane tablet reach)

  frozen : (lane tablet source : ℕ) → Later (freezes lane tablet source)
  frozen lane tablet source course fate rest own =
      opens course rest own (Freezing lane tablet source (tablet_in (lane_at course.cluster lane) source tablet).handover.role)

  settled : Later settles
  settled course fate rest own = opens course rest own (Rounding course.cluster)

  -- ---- lists

  next_lanes : (lanes : List ℕ) → Each Later (flat_map lane_tasks lanes)
  next_lanes [] = tt
  next_lanes (lane ∷ lanes) = (
    λ course fate rest own.
        opens course rest own (Turning lane (clients_in lane course.cluster.sessions) (numbers (live_masters (lane_at course.cluster lane)))),
    (emptied lane, next_lanes lanes),
  )

  next_brought : (lane tablet : ℕ) (opening : Bool) (source target : ℕ) (reach : Reach) → Each Later (reach_between lane tablet opening source target reach)
  next_brought lane tablet opening source target Begun = (exchanges lane _ Node.Coordinator, tt)
  next_brought lane tablet opening source target Frozen = (exchanges lane _ Node.Coordinator, (frozen lane tablet source, tt))
  next_brought lane tablet true source target Granted = (exchanges lane _ Node.Coordinator, (exchanges lane _ Node.Coordinator, tt))
  next_brought lane tablet false source target Granted = (exchanges lane _ Node.Coordinator, tt)
  next_brought lane tablet opening source target Finished = (exchanges lane _ (Node.Master target), tt)
  next_brought lane tablet opening source target reach = search (begun, exchanges, ended, reached)

  next_row : (lane tablet : ℕ) (found : Option Row) (reach : Reach) → Each Later (reach_row lane tablet found reach)
  next_row lane tablet found reach = grind (arith, next_brought)

  next_hastened : (w : World) (lane tablet : ℕ) (phase : Phase) → Each Later (hasten_phase w lane tablet phase)
  next_hastened w lane tablet (Moving source sfrom target dfrom) = search (where_own, wants_first, tablet_in, exchanges)
  next_hastened w lane tablet phase = tt

  next : AllOwn (suc n)
  next _ (Exchanging cluster lane topic node) = search (turned, sorting, lane_at)
  next _ (Asking cluster lane client) = (
    asks_once lane client,
    (sorting_as lane _ (lane_at cluster lane).wire.sent (lane_at cluster lane).wire.sent (slice_index_or (unfolded cluster (ask_exchange lane client)) 1 begins) refl, tt),
  )
  next _ (Sorting wire lane topic from last) =
      joined_own Later (map (forgets lane) (filter (is_number_off wire topic) (sent_after wire last))) _
      (each_own Later (forgets lane) (filter (is_number_off wire topic) (sent_after wire last)) (forgotten lane)) (
        λ course fate rest own.
            opens course rest own (Handing (lane_at course.cluster lane).wire lane topic (oldest_after (lane_at course.cluster lane).wire from)),
        tt,
      )
  next _ (Handing wire lane topic None) = tt
  next _ (Handing wire lane topic (Some number)) = (delivered lane number, (forgotten lane number, (sorting lane topic number wire.sent, tt)))
  next _ (Noticing lane None) = tt
  next _ (Noticing lane (Some master)) = (λ course fate rest own. happens lane (Event.Notice master) tt course rest own, (noticed lane, tt))
  next _ (Rounding cluster) = search (where_own, is_at_rest, begun, joined_own, lane_tasks, lane_numbers, ends, next_lanes, ended, settled)
  next _ (Turning lane clients live) =
      joined_own Later (map (asks lane) clients) _ (each_own Later (asks lane) clients (asks_once lane))
      (turned lane Node.Coordinator, each_own Later (λ (master : ℕ). takes_turn lane (Node.Master master)) live (λ master. turned lane (Node.Master master)))
  next _ (Emptying lane None) = tt
  next _ (Emptying lane (Some number)) = (delivered lane number, (forgotten lane number, (emptied lane, tt)))
  next _ (Trying session lane client times) =
      joined_own Later (if looks_up session then ask_exchange lane client ∷ [] else []) _
      (where_own Later (looks_up session) (ask_exchange lane client ∷ []) [] (client_exchanges lane client, tt) tt)
      (λ course fate rest own. opens course rest own (Requesting lane client times (known_owner (session_at course.cluster client))), tt)
  next _ (Requesting lane client times None) = tt
  next _ (Requesting lane client times (Some owner)) = (
    client_exchanges lane client,
    (λ course fate rest own. opens course rest own (Hearing (session_at course.cluster client) lane client times owner), tt),
  )
  next _ (Hearing session lane client times asked) =
      where_own Later (times == MOST_TRIES) _ _ (committed lane client asked, tt)
      (where_own Later (was_moved session) _ _
      (λ course fate rest own. opens course rest own (Trying (session_at course.cluster client) lane client MOST_TRIES), tt)
      (committed lane client asked, tt))
  next _ (Committing w session lane client asked) =
      where_own Later (is_staged_by w client asked session.outstanding) _ []
      (begun, (exchanges lane _ (Node.Master asked), (ended, (committed lane client asked, tt)))) tt
  next _ (Hastening w lane tablet None) = tt
  next _ (Hastening w lane tablet (Some row)) = next_hastened w lane tablet row.phase
  next _ (Advancing w lane tablet reach) = search (where_own, is_short_of, each_own, reaches_to, reached)
  next _ (Reaching w lane tablet reach) = grind (arith, where_own, is_short_of, next_row, row_of, w.coordinator.rows)
  next _ (Freezing lane tablet source Role.Closing) = search (begun, exchanges, ended, frozen)
  next _ (Freezing lane tablet source role) = tt
  next _ (Serves client None) = tt
  next _ (Serves client (Some call)) = (λ course fate rest own. opens course rest own (Trying (session_at course.cluster client) (call_lane call) client 1), tt)
  next _ (Advances cluster tablet reach) = each_own Later _ (lane_numbers cluster)
      (λ (lane : ℕ). λ course fate rest own. opens course rest own (Advancing (lane_at course.cluster lane) lane tablet reach))
  next _ (Hastens cluster tablet) = each_own Later _ (lane_numbers cluster)
      (λ (lane : ℕ). λ course fate rest own.
      opens course rest own (Hastening (lane_at course.cluster lane) lane tablet (row_of (lane_at course.cluster lane).coordinator.rows tablet)))
  next _ (Settles cluster) = joined_own Later _ _ (each_own Later _ (lane_numbers cluster) noticed) (settled, tt)

-- however many moves are looked at
pub all_own : (n : ℕ) → AllOwn n
all_own zero = λ left met. none_left left
all_own (suc n) = next n (all_own n)
