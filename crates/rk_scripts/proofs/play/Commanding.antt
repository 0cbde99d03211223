-- What occurs at a command of a script goes on with a run.
use Rattle.std.proofs.Common.{◌≡◌, ℕ, ◌<◌, ◌≤◌, ◌==◌, ◌||◌, nat_le, nat_lt, not, Bool, true, false, List, [], ◌∷◌, ◌++◌, length, map}
use Rattle.std.proofs.Common.{Option, None, Some, if◌then◌else◌, refl, arith, ◌-◌, ◌^◌, w32, All, flat_map, leb-false}
use Rattle.rk_scripts.proofs.Words.{All-append, All-cons, All-filter, All-map, All-nil, All-weaker, Call, LANES, IsNumber, number_at}
use Rattle.rk_scripts.proofs.Words.{row_of, Gave, Session, call_lane, Asks, Cluster, Joins, Occurrence, lane_at, Master, IsMaster}
use Rattle.rk_scripts.proofs.Words.{MayHappen, IsTold, World, live_masters, new_world, Event, code_where, first_code, all_lanes}
use Rattle.rk_scripts.proofs.Words.{calls_asked, has_table, is_dead, is_master, is_tablet, lanes_without, rows_of, client_makes, in_lane}
use Rattle.rk_scripts.proofs.Words.{in_lanes, Crashed, Limit, TooLate, Unknown, IsNoCrash, Node, all_before, or_parts}
use Rattle.rk_cluster.specs.Codes.{MOST_TABLES, MOST_TABLETS, migrate_code, notice_code, split_code, table_code}
use Rattle.rk_cluster.specs.Looks.{has_dead_owner, has_inside, is_owned, is_owner, owner_at, tables_of}
use Rattle.rk_cluster.specs.Makes.{asks_by, asks_in, forget_by, forget_makes, migrate_makes, next_tablet, notice_makes, split_makes}
use Rattle.rk_cluster.specs.Makes.{table_makes, turn_makes, whole_table}
use Rattle.rk_cluster.specs.declared.code.Code.TheVariants.{Alive, BadSplit, NotOwned, OwnsAll, Taken}
use Rattle.rk_settle.proofs.Unfolded.{lanes_are}
use Rattle.rk_scripts.proofs.play.Allowed.{IsFree}
use Rattle.rk_scripts.proofs.play.Masters.{names_masters}
use Rattle.rk_scripts.proofs.play.Reaching.{IsReached}
use Rattle.rk_scripts.proofs.play.Tests.{master_there, passes}

module _ (masters backups : ℕ) (cluster : Cluster) (reached : IsReached masters backups cluster) where
  abbrev Allowed : List Occurrence → Type 0
  Allowed list = All (IsFree masters) list

  none_allowed : Allowed []
  none_allowed = All-nil (IsFree masters)

  one_allowed : (occurrence : Occurrence) (later : List Occurrence) → IsFree masters occurrence → Allowed later → Allowed (occurrence ∷ later)
  one_allowed occurrence later = All-cons (IsFree masters) occurrence later

  both_allowed : (list later : List Occurrence) → Allowed list → Allowed later → Allowed (list ++ later)
  both_allowed list later = All-append (IsFree masters) list later

  -- the lanes of the cluster are there
  lanes_there : All (λ lane. lane < LANES) (all_lanes cluster)
  lanes_there = lanes_are masters cluster (names_masters masters backups cluster reached)

  -- an event in some lanes
  event_allowed : (lanes : List ℕ) (event : Event) → All (λ lane. lane < LANES) lanes → IsNoCrash event → ((w : World) → IsTold w event (Gave None)) → MayHappen (new_world 0 masters 0) event
      → Allowed (in_lanes lanes event)
  event_allowed lanes event there calm none may = All-map (IsFree masters) (λ lane. in_lane lane event) lanes
      (All-weaker (λ lane. lane < LANES) (λ lane. IsFree masters (in_lane lane event)) (λ lane inside. ((inside, calm, may), λ there. none (lane_at there lane))) lanes there)

  -- ---- tables, clients and tablets

  -- the number of the next tablet, if there are not as many as there may be
  next_is : length (rows_of cluster) < MOST_TABLETS → IsNumber w32 1 (next_tablet cluster)
  next_is few = record { least_is = omega arith; fits = omega (arith, few) }

  pub table_allowed : (table master : ℕ) → 1 ≤ table → table ≤ 2 ^ 64 - 1 → table_code cluster table master ≡ None → Allowed (table_makes cluster table master)
  table_allowed table master least fits none =
      let many : Bool = nat_le MOST_TABLES (length (tables_of (rows_of cluster))) || nat_le MOST_TABLETS (length (rows_of cluster)) in
      let full = code_where many Limit in
      let dead = code_where (is_dead cluster master) Crashed in
      let strange = code_where (not (is_master cluster master)) Unknown in
      let taken = code_where (has_table (rows_of cluster) table) Taken in
      let first = passes (nat_lt 0 (calls_asked cluster)) TooLate (first_code (taken ∷ strange ∷ dead ∷ full ∷ [])) none in
      let second = passes (has_table (rows_of cluster) table) Taken (first_code (strange ∷ dead ∷ full ∷ [])) first.1 in
      let third = passes (not (is_master cluster master)) Unknown (first_code (dead ∷ full ∷ [])) second.1 in
      let fourth = passes (is_dead cluster master) Crashed (first_code (full ∷ [])) third.1 in
      let fifth = passes many Limit None fourth.1 in
      let few = or_parts (nat_le MOST_TABLES (length (tables_of (rows_of cluster)))) (nat_le MOST_TABLETS (length (rows_of cluster))) fifth.0 in
      event_allowed (all_lanes cluster) (Event.AddTablet (next_tablet cluster) (whole_table table) master) lanes_there tt (λ w. record { fault = None; told = refl }) (
        next_is (leb-false MOST_TABLETS (length (rows_of cluster)) few.1),
        record {
          table = record { least_is = least; fits = omega (arith, fits) };
          first = record { least_is = omega arith; fits = omega arith };
          last = record { least_is = omega arith; fits = omega arith };
        },
        master_there masters backups cluster master reached third.0,
      )

  pub client_allowed : (client : ℕ) → IsNumber w32 1 client → Allowed (client_makes cluster client)
  client_allowed client number =
      both_allowed (in_lanes (all_lanes cluster) (Event.AddClient client)) (Joins client ∷ [])
      (event_allowed (all_lanes cluster) (Event.AddClient client) lanes_there tt (λ w. record { fault = None; told = refl }) number) (one_allowed (Joins client) [] (number, λ there. tt) none_allowed)

  pub migrate_allowed : (tablet to : ℕ) → migrate_code cluster tablet to ≡ None → Allowed (migrate_makes cluster tablet to)
  migrate_allowed tablet to none =
      let concerned = lanes_without cluster tablet to in
      let dead = code_where (is_dead cluster to || has_dead_owner cluster concerned tablet) Crashed in
      let all = code_where (nat_le (length concerned) 0) OwnsAll in
      let moves = code_where (not (is_owned cluster tablet)) NotOwned in
      let first = passes (not (is_tablet cluster tablet) || not (is_master cluster to)) Unknown (first_code (moves ∷ all ∷ dead ∷ [])) none in
      let known = or_parts (not (is_tablet cluster tablet)) (not (is_master cluster to)) first.0 in
      event_allowed concerned (Event.Migrate tablet to)
      (All-filter (λ lane. not (is_owner to (owner_at cluster tablet lane))) (λ lane. lane < LANES) (all_lanes cluster) lanes_there) tt (λ w. record { fault = None; told = refl })
      (master_there masters backups cluster to reached known.1)

  pub split_allowed : (tablet at : ℕ) → split_code cluster tablet at ≡ None → Allowed (split_makes cluster tablet at)
  split_allowed tablet at none =
      let bad = code_where (not (has_inside (row_of (rows_of cluster) tablet) at)) BadSplit in
      let many = code_where (nat_le MOST_TABLETS (length (rows_of cluster))) Limit in
      let dead = code_where (has_dead_owner cluster (all_lanes cluster) tablet) Crashed in
      let moves = code_where (not (is_owned cluster tablet)) NotOwned in
      let first = passes (not (is_tablet cluster tablet)) Unknown (first_code (moves ∷ dead ∷ many ∷ bad ∷ [])) none in
      let second = passes (not (is_owned cluster tablet)) NotOwned (first_code (dead ∷ many ∷ bad ∷ [])) first.1 in
      let third = passes (has_dead_owner cluster (all_lanes cluster) tablet) Crashed (first_code (many ∷ bad ∷ [])) second.1 in
      let fourth = passes (nat_le MOST_TABLETS (length (rows_of cluster))) Limit (first_code (bad ∷ [])) third.1 in
      event_allowed (all_lanes cluster) (Event.Split tablet at (next_tablet cluster)) lanes_there tt (λ w. record { fault = None; told = refl })
      (next_is (leb-false MOST_TABLETS (length (rows_of cluster)) fourth.0))

  pub notice_allowed : (master : ℕ) → notice_code cluster master ≡ None → Allowed (notice_makes cluster master)
  notice_allowed master none =
      let alive = code_where (not (is_dead cluster master)) Alive in
      let first = passes (not (is_master cluster master)) Unknown (first_code (alive ∷ [])) none in
      event_allowed (all_lanes cluster) (Event.Notice master) lanes_there tt (λ w. record { fault = None; told = refl }) (master_there masters backups cluster master reached first.0)

  -- ---- one lane

  module _ (lane : ℕ) (inside : lane < LANES) where
    where_asked : (b : Bool) (client : ℕ) → Allowed (if b then Asks lane client ∷ [] else [])
    where_asked true client = one_allowed (Asks lane client) [] (inside, λ there. tt) none_allowed
    where_asked false client = none_allowed

    asked_allowed : (client : ℕ) (out : Option Call) → Allowed (asks_by lane client out)
    asked_allowed client None = none_allowed
    asked_allowed client (Some call) = where_asked (call_lane call == lane) client

    all_asked_allowed : (sessions : List (ℕ × Session)) → Allowed (flat_map (λ entry. asks_in lane entry.0 entry.1) sessions)
    all_asked_allowed [] = none_allowed
    all_asked_allowed (entry ∷ sessions) =
        both_allowed (asks_in lane entry.0 entry.1) (flat_map (λ entry. asks_in lane entry.0 entry.1) sessions)
        (asked_allowed entry.0 entry.1.outstanding) (all_asked_allowed sessions)

    pub turn_allowed : Allowed (turn_makes cluster lane)
    turn_allowed =
        let live = live_masters (lane_at cluster lane) in
        let turn = λ (entry : ℕ × Master). in_lane lane (Event.Turn (Node.Master entry.0)) in
        let there : All (λ (entry : ℕ × Master). IsMaster masters entry.0) live =
        all_before (IsMaster masters) (λ (entry : ℕ × Master). entry.0) live ((names_masters masters backups cluster reached).live lane inside) in
        both_allowed (flat_map (λ entry. asks_in lane entry.0 entry.1) cluster.sessions) (in_lane lane (Event.Turn Node.Coordinator) ∷ map turn live)
        (all_asked_allowed cluster.sessions)
        (one_allowed (in_lane lane (Event.Turn Node.Coordinator)) (map turn live) ((inside, tt, tt), λ there. record { fault = None; told = refl })
        (All-map (IsFree masters) turn live
        (All-weaker (λ (entry : ℕ × Master). IsMaster masters entry.0) (λ entry. IsFree masters (turn entry)) (λ entry is. ((inside, tt, is), λ there. record { fault = None; told = refl })) live there)))

    forget_allowed_by : (found : Option ℕ) → Allowed (forget_by lane found)
    forget_allowed_by None = none_allowed
    forget_allowed_by (Some number) = one_allowed (in_lane lane (Event.Forget number)) [] ((inside, tt, tt), λ there. record { fault = None; told = refl }) none_allowed

    pub forget_allowed : (place : ℕ) → Allowed (forget_makes cluster lane place)
    forget_allowed place = forget_allowed_by (number_at place (lane_at cluster lane).wire)
