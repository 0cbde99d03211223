-- When a cluster is at rest: nothing is left to do in it, and nothing is on its way.
use Rattle.std.specs.Prelude.{◌&&◌, Bool, is_none}
use Rattle.std.specs.List.{list_all}
use Rattle.rk_message.specs.Wire.{number_at}
use Rattle.rk_world.specs.Cluster.{Cluster}
use Rattle.rk_world.specs.World.{World}
use Rattle.rk_cluster.specs.Quiet.{is_quiet}

-- whether no message is on the wire of a lane
abbrev pub is_silent : World → Bool
is_silent w = is_none (number_at 1 w.wire)

-- whether a cluster is at rest: it is quiet, and no message is on a wire
abbrev pub is_at_rest : Cluster → Bool
is_at_rest cluster = is_quiet cluster && list_all is_silent cluster.lanes
