-- When a cluster is quiet: nothing is left to do in it.
use Rattle.std.specs.Prelude.{◌==◌, ◌&&◌, Bool, false, length, is_none}
use Rattle.std.specs.List.{list_all}
use Rattle.rk_tablet_map.specs.declared.phase.Phase.{Phase}
use Rattle.rk_tablet_map.specs.declared.phase.Phase.TheVariants.{Owned}
use Rattle.rk_world.specs.Cluster.{Cluster}
use Rattle.rk_world.specs.Master.{staged}
use Rattle.rk_world.specs.World.{World, lives, live_masters}

-- whether a row is owned by a master that lives
abbrev pub is_owned_live : World → Phase → Bool
is_owned_live w (Owned master from) = lives w master
is_owned_live w phase = false

-- whether each row of a lane is owned by a master that lives
abbrev pub has_owners : World → Bool
has_owners w = list_all (λ row. is_owned_live w row.phase) w.coordinator.rows

-- whether nothing is staged at the masters of a lane that live
abbrev pub has_applied_all : World → Bool
has_applied_all w = list_all (λ entry. length (staged entry.1) == 0) (live_masters w)

-- whether a lane is quiet: each row is owned by a master that lives, and nothing is staged at one
abbrev pub is_quiet_lane : World → Bool
is_quiet_lane w = has_owners w && has_applied_all w

-- whether a cluster is quiet: each lane is, and no call is outstanding
abbrev pub is_quiet : Cluster → Bool
is_quiet cluster =
    list_all is_quiet_lane cluster.lanes && list_all (λ entry. is_none entry.1.outstanding) cluster.sessions
