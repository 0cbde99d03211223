-- The codes of the settling commands, in the order in which they are tested.
use Rattle.std.specs.Prelude.{ℕ, ◌||◌, Bool, true, false, nat_le, not, List, [], ◌∷◌, filter, length, Option, Some, None, is_none}
use Rattle.std.specs.List.{list_any}
use Rattle.rk_tablet_map.specs.Rows.{row_of}
use Rattle.rk_tablet_map.specs.declared.phase.Phase.{Phase}
use Rattle.rk_tablet_map.specs.declared.phase.Phase.TheVariants.{Moving, Opening}
use Rattle.rk_tablet_map.specs.declared.row.Row.{Row}
use Rattle.rk_world.specs.Cluster.{Cluster, lane_at, session_at}
use Rattle.rk_world.specs.World.{World, has_crashed}
use Rattle.rk_cluster.specs.Codes.{code_where, first_code}
use Rattle.rk_cluster.specs.Looks.{all_lanes, is_client, is_tablet}
use Rattle.rk_cluster.specs.declared.code.Code.{Code}
use Rattle.rk_cluster.specs.declared.code.Code.TheVariants.{Crashed, NotMigrating, NothingSent, Unknown}
use Rattle.rk_settle.specs.Reaches.{is_short_of}
use Rattle.rk_types.specs.declared.reach.Reach.{Reach}

-- serve: the client is there, and has an outstanding call
abbrev pub serve_code : Cluster → ℕ → Option Code
serve_code cluster client =
    first_code (
    code_where (not (is_client cluster client)) Unknown
    ∷ code_where (is_none (session_at cluster client).outstanding) NothingSent
    ∷ [])

-- whether the source or the target of a migration has crashed
abbrev pub has_dead_party : World → Phase → Bool
has_dead_party w (Opening source sfrom target dfrom) = has_crashed w source || has_crashed w target
has_dead_party w (Moving source sfrom target dfrom) = has_crashed w source || has_crashed w target
has_dead_party w phase = false

-- whether the source or the target of a row, if there is one, has crashed
abbrev pub is_dead_migration : World → Option Row → Bool
is_dead_migration w None = false
is_dead_migration w (Some row) = has_dead_party w row.phase

-- whether the source or the target of a tablet has crashed in one of these lanes
abbrev pub has_dead_migration : Cluster → List ℕ → ℕ → Bool
has_dead_migration cluster lanes tablet =
    list_any (λ lane. is_dead_migration (lane_at cluster lane) (row_of (lane_at cluster lane).coordinator.rows tablet)) lanes

-- a command that acts on the migration of a tablet in these lanes
abbrev pub migration_code : Cluster → ℕ → List ℕ → Option Code
migration_code cluster tablet lanes =
    first_code (
    code_where (not (is_tablet cluster tablet)) Unknown
    ∷ code_where (nat_le (length lanes) 0) NotMigrating
    ∷ code_where (has_dead_migration cluster lanes tablet) Crashed
    ∷ [])

-- the lanes in which the migration of a tablet is short of a reach
abbrev pub short_lanes : Cluster → ℕ → Reach → List ℕ
short_lanes cluster tablet reach = filter (λ lane. is_short_of (lane_at cluster lane) tablet reach) (all_lanes cluster)

-- advance: in some lane the migration is short of the reach, and there both masters live
abbrev pub advance_code : Cluster → ℕ → Reach → Option Code
advance_code cluster tablet reach = migration_code cluster tablet (short_lanes cluster tablet reach)

-- whether a phase is that of a tablet that moves
abbrev pub is_moving_phase : Phase → Bool
is_moving_phase (Moving source sfrom target dfrom) = true
is_moving_phase phase = false

-- whether a row, if there is one, moves
abbrev pub is_moving : Option Row → Bool
is_moving None = false
is_moving (Some row) = is_moving_phase row.phase

-- the lanes in which a tablet moves
abbrev pub moving_lanes : Cluster → ℕ → List ℕ
moving_lanes cluster tablet = filter (λ lane. is_moving (row_of (lane_at cluster lane).coordinator.rows tablet)) (all_lanes cluster)

-- priority: in some lane the tablet moves, and there both masters live
abbrev pub priority_code : Cluster → ℕ → Option Code
priority_code cluster tablet = migration_code cluster tablet (moving_lanes cluster tablet)
