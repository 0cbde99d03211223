-- What the commands that print show of a cluster, and their codes.
use Rattle.std.specs.Prelude.{ℕ, ◌||◌, Bool, false, List, [], ◌∷◌, not, Option, Some, None}
use Rattle.std.specs.List.{flat_map, list_all}
use Rattle.rk_types.specs.declared.held.Held.{Held}
use Rattle.rk_model.specs.Merged.{merged}
use Rattle.rk_table.specs.Items.{live_in}
use Rattle.rk_tablet_map.specs.Rows.{row_of}
use Rattle.rk_tablet_map.specs.declared.phase.Phase.{Phase}
use Rattle.rk_tablet_map.specs.declared.phase.Phase.TheVariants.{Owned}
use Rattle.rk_tablet_map.specs.declared.row.Row.{Row}
use Rattle.rk_world.specs.Cluster.{Cluster, journals_of}
use Rattle.rk_world.specs.World.{World, lives, records_in}
use Rattle.rk_cluster.specs.Codes.{code_where, first_code}
use Rattle.rk_cluster.specs.Looks.{all_lanes, has_dead_owner, is_owned, is_tablet, owner_in}
use Rattle.rk_cluster.specs.declared.code.Code.{Code}
use Rattle.rk_cluster.specs.declared.code.Code.TheVariants.{NotOwned, Unknown}
use Rattle.rk_lines.specs.History.{history_lines}
use Rattle.rk_lines.specs.Records.{record_lines}
use Rattle.rk_lines.specs.Tablets.{tablet_lines}

-- where a tablet is: it is there
abbrev pub where_code : Cluster → ℕ → Option Code
where_code cluster tablet = code_where (not (is_tablet cluster tablet)) Unknown

-- the phase of a row, if there is one
abbrev pub phase_of : Option Row → List Phase
phase_of None = []
phase_of (Some row) = row.phase ∷ []

-- the phases of a tablet, lane 0 first
abbrev pub phases_of : Cluster → ℕ → List Phase
phases_of cluster tablet = flat_map (λ w. phase_of (row_of w.coordinator.rows tablet)) cluster.lanes

abbrev pub where_text : Cluster → ℕ → List ℕ
where_text cluster tablet = tablet_lines tablet (phases_of cluster tablet)

-- the records of a tablet: in each lane a master that lives owns it
abbrev pub dump_code : Cluster → ℕ → Option Code
dump_code cluster tablet =
    first_code (
    code_where (not (is_tablet cluster tablet)) Unknown
    ∷ code_where (not (is_owned cluster tablet) || has_dead_owner cluster (all_lanes cluster) tablet) NotOwned
    ∷ [])

-- whether an owner, if there is one, lives
abbrev pub lives_owner : World → Option ℕ → Bool
lives_owner w None = false
lives_owner w (Some owner) = lives w owner

-- whether in each lane a master that lives owns a tablet
abbrev pub is_held : Cluster → ℕ → Bool
is_held cluster tablet = list_all (λ w. lives_owner w (owner_in w tablet)) cluster.lanes

-- the live records of a range at its owner
abbrev pub items_by : World → Row → Phase → List Held
items_by w row (Owned master from) = live_in row.range (records_in w master)
items_by w row phase = []

-- the live records of a row, if there is one, at its owner
abbrev pub items_of : World → Option Row → List Held
items_of w None = []
items_of w (Some row) = items_by w row row.phase

-- the live records of a tablet at its owners, lane 0 first
abbrev pub items_in : Cluster → ℕ → List Held
items_in cluster tablet = flat_map (λ w. items_of w (row_of w.coordinator.rows tablet)) cluster.lanes

abbrev pub dump_text : Cluster → ℕ → List ℕ
dump_text cluster tablet = record_lines (items_in cluster tablet)

-- the history that the journals of all lanes make
abbrev pub history_text : Cluster → List ℕ
history_text cluster = history_lines (merged (journals_of cluster))
