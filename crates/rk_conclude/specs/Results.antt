-- The results of a drive whose cluster has come to rest.
use Rattle.std.specs.Prelude.{ℕ, ◌-◌, ◌^◌, ◌==◌, Bool, false, if◌then◌else◌, List, [], ◌∷◌, fold, length, min, Option, Some, None}
use Rattle.std.specs.List.{list_all}
use Rattle.rk_types.specs.NumberMap.{NumberMap, insert}
use Rattle.rk_tablet_map.specs.Rows.{row_of}
use Rattle.rk_tablet_map.specs.declared.phase.Phase.{Phase}
use Rattle.rk_tablet_map.specs.declared.phase.Phase.TheVariants as phases
use Rattle.rk_tablet_map.specs.declared.row.Row.{Row}
use Rattle.rk_world.specs.Client.{Session}
use Rattle.rk_world.specs.Cluster.{Cluster}
use Rattle.rk_world.specs.World.{World}
use Rattle.rk_laws_lanes.specs.gathered.Gathered.{asked_in}
use Rattle.rk_laws_lanes.specs.gathered.Sessions.{receipts_in}
use Rattle.rk_workload.specs.Summary.{counted}
use Rattle.rk_workload.specs.declared.summary.Summary.{Summary}
use Rattle.rk_workload.specs.declared.calls.TheConstants.{TABLET}

-- sessions with one more under its client, in the place of what was there
abbrev pub with_session : NumberMap Session → Session → NumberMap Session
with_session sessions session = insert sessions session.client session

-- sessions, each under its client
abbrev pub by_client : List Session → NumberMap Session
by_client sessions = fold with_session [] sessions

-- the master that owns a tablet, if one does
abbrev pub phase_owner : Phase → Option ℕ
phase_owner (phases.Owned master from) = Some master
phase_owner phase = None

abbrev pub row_owner : Option Row → Option ℕ
row_owner None = None
row_owner (Some row) = phase_owner row.phase

-- the master that owns the tablet of a drive in a lane, if one does
abbrev pub owner_at : World → Option ℕ
owner_at w = row_owner (row_of w.coordinator.rows TABLET)

-- whether an owner is this master
abbrev pub is_owner : ℕ → Option ℕ → Bool
is_owner master None = false
is_owner master (Some other) = other == master

-- a master, if there is one, and it owns the tablet in all lanes
abbrev pub owner_in_all : List World → Option ℕ → Option ℕ
owner_in_all lanes None = None
owner_in_all lanes (Some master) = if list_all (λ w. is_owner master (owner_at w)) lanes then Some master else None

-- the master that owns the tablet in all lanes, if it is one
abbrev pub one_owner : List World → Option ℕ
one_owner [] = None
one_owner (first ∷ lanes) = owner_in_all (first ∷ lanes) (owner_at first)

-- what a drive came to; a count of calls that does not fit 64 bits is given as the greatest that does
abbrev pub summary_of : Cluster → Summary
summary_of cluster = record {
  calls = min (asked_in cluster) (2 ^ 64 - 1);
  answered = length (receipts_in cluster.sessions);
  counts = counted (receipts_in cluster.sessions);
  owner = one_owner cluster.lanes;
}
