-- What a call of a user looks at. Each tablet has a row in every lane, and a master that has crashed has crashed in all of them, so
-- lane 0 speaks for all.
use Rattle.std.specs.Prelude.{ℕ, ◌+◌, ◌==◌, ◌&&◌, Bool, false, not, nat_le, if◌then◌else◌, List, [], ◌∷◌, filter, length, map, sum, Option, Some, None, is_some}
use Rattle.std.specs.List.{list_all, list_any, range_with_len}
use Rattle.rk_types.specs.NumberMap.{get}
use Rattle.rk_tablet_map.specs.Rows.{row_of}
use Rattle.rk_tablet_map.specs.declared.phase.Phase.{Phase}
use Rattle.rk_tablet_map.specs.declared.phase.Phase.TheVariants.{Owned}
use Rattle.rk_tablet_map.specs.declared.row.Row.{Row}
use Rattle.rk_world.specs.Client.{Session}
use Rattle.rk_world.specs.Cluster.{Cluster, lane_at}
use Rattle.rk_world.specs.Runs.{lives_another}
use Rattle.rk_world.specs.World.{World, has_crashed}

-- the rows of lane 0: a row for each tablet
abbrev pub rows_of : Cluster → List Row
rows_of cluster = (lane_at cluster 0).coordinator.rows

-- how many masters there are
abbrev pub master_count : Cluster → ℕ
master_count cluster = (lane_at cluster 0).coordinator.masters

-- whether a master is there
abbrev pub is_master : Cluster → ℕ → Bool
is_master cluster master = nat_le 1 master && nat_le master (master_count cluster)

-- whether a master has crashed
abbrev pub is_dead : Cluster → ℕ → Bool
is_dead cluster master = has_crashed (lane_at cluster 0) master

-- whether another master than this one lives, in every lane
abbrev pub is_other_alive : Cluster → ℕ → Bool
is_other_alive cluster master = list_all (λ w. lives_another w master) cluster.lanes

-- whether a client has a session
abbrev pub is_client : Cluster → ℕ → Bool
is_client cluster client = is_some (get cluster.sessions client)

-- whether a row is of a table
abbrev pub is_of_table : ℕ → Row → Bool
is_of_table table row = row.range.table == table

-- whether rows have a table
abbrev pub has_table : List Row → ℕ → Bool
has_table rows table = list_any (is_of_table table) rows

-- the tables of rows, each once
abbrev pub tables_of : List Row → List ℕ
tables_of [] = []
tables_of (row ∷ rows) = if has_table rows row.range.table then tables_of rows else row.range.table ∷ tables_of rows

-- whether a tablet is there
abbrev pub is_tablet : Cluster → ℕ → Bool
is_tablet cluster tablet = is_some (row_of (rows_of cluster) tablet)

-- how many calls a client asked: those that were answered, and the outstanding one
abbrev pub calls_of : Session → ℕ
calls_of session = length session.receipts + (if is_some session.outstanding then 1 else 0)

-- how many calls the clients asked
abbrev pub calls_asked : Cluster → ℕ
calls_asked cluster = sum (map (λ entry. calls_of entry.1) cluster.sessions)

-- the owner by a phase; none while the tablet moves or is rebuilt
abbrev pub owner_by : Phase → Option ℕ
owner_by (Owned master from) = Some master
owner_by phase = None

-- the owner by a row, if there is one
abbrev pub owner_of_row : Option Row → Option ℕ
owner_of_row None = None
owner_of_row (Some row) = owner_by row.phase

-- the owner of a tablet in a lane
abbrev pub owner_in : World → ℕ → Option ℕ
owner_in w tablet = owner_of_row (row_of w.coordinator.rows tablet)

-- whether an owner, if there is one, is this master
abbrev pub is_owner : ℕ → Option ℕ → Bool
is_owner master None = false
is_owner master (Some owner) = owner == master

-- whether an owner, if there is one, has crashed
abbrev pub is_dead_owner : World → Option ℕ → Bool
is_dead_owner w None = false
is_dead_owner w (Some owner) = has_crashed w owner

-- whether a tablet is owned in every lane
abbrev pub is_owned : Cluster → ℕ → Bool
is_owned cluster tablet = list_all (λ w. is_some (owner_in w tablet)) cluster.lanes

-- the owner of a tablet in the lane of a number
abbrev pub owner_at : Cluster → ℕ → ℕ → Option ℕ
owner_at cluster tablet lane = owner_in (lane_at cluster lane) tablet

-- the numbers of all lanes
abbrev pub all_lanes : Cluster → List ℕ
all_lanes cluster = range_with_len 0 (length cluster.lanes)

-- the lanes in which another master than this one owns a tablet
abbrev pub lanes_without : Cluster → ℕ → ℕ → List ℕ
lanes_without cluster tablet master = filter (λ lane. not (is_owner master (owner_at cluster tablet lane))) (all_lanes cluster)

-- whether the owner of a tablet has crashed in one of these lanes
abbrev pub has_dead_owner : Cluster → List ℕ → ℕ → Bool
has_dead_owner cluster lanes tablet = list_any (λ lane. is_dead_owner (lane_at cluster lane) (owner_at cluster tablet lane)) lanes

-- whether a hash is in the range of a row, other than its first hash; never if there is no row
abbrev pub has_inside : Option Row → ℕ → Bool
has_inside None at = false
has_inside (Some row) at = not (nat_le at row.range.first) && nat_le at row.range.last
