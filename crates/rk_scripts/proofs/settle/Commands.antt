-- Each client with a session was added in each lane after a command of a script too; and if the run does not stop at it, the clients of
-- each lane are those with sessions.
use Rattle.std.proofs.Common.{arith, ◌≡◌, ◌++◌, ◌==◌, ℕ, List, [], ◌∷◌, map, All, Option, None, Some, refl, flat_map}
use Rattle.rk_scripts.proofs.Words.{All-append, All-cons, All-nil, Call, number_at, Session, call_lane, Asks, Cluster, Joins}
use Rattle.rk_scripts.proofs.Words.{Occurrence, lane_at, session_at, Master, live_masters, Event, Acted, acted, all_acted, going_on}
use Rattle.rk_scripts.proofs.Words.{all_lanes, lanes_without, Fate, Code, advance, advance_code, priority_code, serve_code, Course}
use Rattle.rk_scripts.proofs.Words.{course_of, moved_all, priority, serve, settle, Command, Effect, carried, carried_by, effect}
use Rattle.rk_scripts.proofs.Words.{effect_within, only_fate, refused_by, settled, shown, dump_code, dump_text, where_code}
use Rattle.rk_scripts.proofs.Words.{where_text, AreAdded, added_after, Node}
use Rattle.rk_scripts.proofs.settle.Joining.{client_own}
use Rattle.rk_scripts.proofs.settle.OwnClients.{AddsNobody}
use Rattle.rk_scripts.proofs.settle.OwnCourses.{advance_own, moves_own, priority_own, serve_own, settle_own}
use Rattle.rk_scripts.proofs.settle.OwnTasks.{deliver_own, one_of_own, where_of_own}
use Rattle.rk_scripts.proofs.settle.Owning.{HasOwnClients, IsOfOwn, own_added, own_all}
use Rattle.rk_scripts.proofs.play.Kinds.{within_by}
use Rattle.rk_cluster.specs.Codes as codes
use Rattle.rk_cluster.specs.Makes as makes

-- ---- what commands make

lanes_of_own : (lanes : List ℕ) (event : Event) → AddsNobody event → All IsOfOwn (makes.in_lanes lanes event)
lanes_of_own [] event nobody = All-nil IsOfOwn
lanes_of_own (lane ∷ lanes) event nobody = grind (arith, (lanes_of_own lanes event nobody))

placed_of_own : (cluster : Cluster) (lane : ℕ) (fate : Fate) (found : Option ℕ) → All IsOfOwn (makes.deliver_by cluster lane fate found)
placed_of_own cluster lane fate None = All-nil IsOfOwn
placed_of_own cluster lane fate (Some number) = deliver_own cluster lane number fate

forgotten_of_own : (lane : ℕ) (found : Option ℕ) → All IsOfOwn (makes.forget_by lane found)
forgotten_of_own lane None = All-nil IsOfOwn
forgotten_of_own lane (Some number) = one_of_own (makes.in_lane lane (Event.Forget number)) tt

asks_of_own : (lane client : ℕ) (call : Option Call) → All IsOfOwn (makes.asks_by lane client call)
asks_of_own lane client None = All-nil IsOfOwn
asks_of_own lane client (Some call) = where_of_own (call_lane call == lane) (Asks lane client) tt

all_ask_of_own : (lane : ℕ) (sessions : List (ℕ × Session)) → All IsOfOwn (flat_map (λ entry. makes.asks_in lane entry.0 entry.1) sessions)
all_ask_of_own lane [] = All-nil IsOfOwn
all_ask_of_own lane (entry ∷ sessions) = grind (arith, asks_of_own, entry.0, entry.1, entry.1.outstanding, (all_ask_of_own lane sessions))

masters_of_own : (lane : ℕ) (masters : List (ℕ × Master)) → All IsOfOwn (map (λ entry. makes.in_lane lane (Event.Turn (Node.Master entry.0))) masters)
masters_of_own lane [] = All-nil IsOfOwn
masters_of_own lane (entry ∷ masters) = grind (arith, entry.0, (masters_of_own lane masters))

turn_of_own : (cluster : Cluster) (lane : ℕ) → All IsOfOwn (makes.turn_makes cluster lane)
turn_of_own cluster lane =
    let live = live_masters (lane_at cluster lane) in
    let masters = map (λ (entry : ℕ × Master). makes.in_lane lane (Event.Turn (Node.Master entry.0))) live in
    let coordinator = makes.in_lane lane (Event.Turn Node.Coordinator) in
    All-append IsOfOwn (flat_map (λ entry. makes.asks_in lane entry.0 entry.1) cluster.sessions) (coordinator ∷ masters)
    (all_ask_of_own lane cluster.sessions) (All-cons IsOfOwn coordinator masters tt (masters_of_own lane live))

again_of_own : (cluster : Cluster) (client : ℕ) (lane : Option ℕ) → All IsOfOwn (makes.again_by cluster client lane)
again_of_own cluster client lane = grind (arith, lane_at, one_of_own)

-- ---- what commands leave

-- each client with a session was added in each lane; and if the run goes on, the clients of each lane are those with sessions
pub record Leaves (it : Effect) : Type 0 where
  pub added : AreAdded it.cluster
  pub own : it.stop ≡ None → HasOwnClients it.cluster

leaves : (it : Effect) → HasOwnClients it.cluster → Leaves it
leaves it own = record { added = own_added it.cluster own; own = λ goes. own }

-- a client does not join if a lane is worn
worn_by_first : (first : Acted) (later : List Occurrence) (worn : Option ℕ) (number : ℕ) → AreAdded first.cluster
    → ((all_acted first.cluster later).worn ≡ Some number → AreAdded (all_acted first.cluster later).cluster)
    → (going_on first worn (λ next. all_acted next later)).worn ≡ Some number → AreAdded (going_on first worn (λ next. all_acted next later)).cluster
worn_by_first first later None number added rest is = rest is
worn_by_first first later (Some other) number added rest is = added

worn_added : (client : ℕ) (lanes : List ℕ) (cluster : Cluster) (number : ℕ) → AreAdded cluster
    → (all_acted cluster (makes.in_lanes lanes (Event.AddClient client) ++ Joins client ∷ [])).worn ≡ Some number
    → AreAdded (all_acted cluster (makes.in_lanes lanes (Event.AddClient client) ++ Joins client ∷ [])).cluster
worn_added client [] cluster number added is = absurd (cc is)
worn_added client (lane ∷ lanes) cluster number added is =
    let come : Occurrence = makes.in_lane lane (Event.AddClient client) in
    let here : AreAdded (acted cluster come).cluster = added_after cluster come tt added in
    worn_by_first (acted cluster come) (makes.in_lanes lanes (Event.AddClient client) ++ Joins client ∷ []) (acted cluster come).worn number here
    (λ worn. worn_added client lanes (acted cluster come).cluster number here worn) is

-- ---- kinds of commands

module _ (cluster : Cluster) (own : HasOwnClients cluster) where
  carried_by_own : (list : List Occurrence) (worn : Option ℕ) → HasOwnClients (all_acted cluster list).cluster
      → HasOwnClients (carried_by (all_acted cluster list) worn).cluster
  carried_by_own list None after = after
  carried_by_own list (Some number) after = after

  -- a command that makes events, of which none adds a client
  carried_own : (code : Option Code) (list : List Occurrence) → All IsOfOwn list → Leaves (carried cluster code list)
  carried_own (Some code) list of_own = leaves (carried cluster (Some code) list) own
  carried_own None list of_own = search (leaves, carried, carried_by_own, all_acted, own_all)

  -- the command that gives a client a session
  joined_by_worn : (client : ℕ) (worn : Option ℕ) → (all_acted cluster (makes.client_makes cluster client)).worn ≡ worn
      → codes.client_code cluster client ≡ None → Leaves (carried_by (all_acted cluster (makes.client_makes cluster client)) worn)
  joined_by_worn client None is none = search (leaves, carried_by, all_acted, client_own)
  joined_by_worn client (Some number) is none =
      record { added = worn_added client (all_lanes cluster) cluster number (own_added cluster own) is; own = λ goes. absurd (cc goes) }

  joined_own : (client : ℕ) (code : Option Code) → codes.client_code cluster client ≡ code → Leaves (carried cluster code (makes.client_makes cluster client))
  joined_own client (Some code) is = leaves (carried cluster (Some code) (makes.client_makes cluster client)) own
  joined_own client None is = joined_by_worn client (all_acted cluster (makes.client_makes cluster client)).worn refl is

  -- a command that settles
  settled_own : (code : Option Code) (course : Course) → HasOwnClients course.cluster → Leaves (settled cluster code course)
  settled_own code course after = grind (arith, leaves, settled)

  -- a command that shows something
  shown_own : (code : Option Code) (text : List ℕ) → Leaves (shown cluster code text)
  shown_own (Some code) text = leaves (shown cluster (Some code) text) own
  shown_own None text = leaves (shown cluster None text) own

  -- ---- each command

  effect_own : (command : Command) (fates : List Fate) → Leaves (effect cluster command fates)
  effect_own (Command.Table table master) fates = grind (arith, carried_own, lanes_of_own, all_lanes)
  effect_own (Command.Client client) fates = joined_own client (codes.client_code cluster client) refl
  effect_own (Command.Call client table key op) fates = grind (arith, carried_own, one_of_own)
  effect_own (Command.Serve client) fates = search (settled_own, serve_code, moved_all, course_of, serve, moves_own, serve_own, session_at)
  effect_own (Command.Repeat client) fates = grind (arith, carried_own, again_of_own, session_at)
  effect_own (Command.Migrate tablet master) fates = grind (arith, carried_own, lanes_of_own, lanes_without)
  effect_own (Command.Advance tablet reach) fates =
      search (settled_own, advance_code, moved_all, course_of, advance, moves_own, advance_own)
  effect_own (Command.Priority tablet) fates = search (settled_own, priority_code, moved_all, course_of, priority, moves_own, priority_own)
  effect_own (Command.Split tablet hash) fates = grind (arith, carried_own, lanes_of_own, all_lanes)
  effect_own (Command.Turn lane) fates = carried_own None (makes.turn_makes cluster lane) (turn_of_own cluster lane)
  effect_own (Command.Deliver lane place) fates = grind (arith, carried_own, only_fate, placed_of_own, number_at, lane_at)
  effect_own (Command.Forget lane place) fates = grind (arith, carried_own, forgotten_of_own, number_at, lane_at)
  effect_own (Command.Crash master) fates = grind (arith, carried_own, lanes_of_own, all_lanes)
  effect_own (Command.Notice master) fates = grind (arith, carried_own, lanes_of_own, all_lanes)
  effect_own Command.Settle fates = search (settled_own, moved_all, course_of, settle, moves_own, settle_own)
  effect_own (Command.Where tablet) fates = shown_own (where_code cluster tablet) (where_text cluster tablet)
  effect_own (Command.Dump tablet) fates = shown_own (dump_code cluster tablet) (dump_text cluster tablet)
  effect_own command fates = leaves (effect cluster command fates) own

  -- also if the cluster is full
  pub within_own : (command : Command) (fates : List Fate) → Leaves (effect_within cluster command fates)
  within_own command fates = within_by cluster fates Leaves (λ code. leaves (refused_by code cluster) own) command (effect_own command fates)
