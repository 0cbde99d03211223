-- The change that a grant makes of a view and of a world.
use Rattle.std.specs.Prelude.{ℕ, []}
use Rattle.rk_log.specs.Log.{with_entry}
use Rattle.rk_done.specs.Completions.{completions_from}
use Rattle.rk_transfer.specs.declared.handover.Handover.{Handover}
use Rattle.rk_transfer.specs.declared.role.Role.TheVariants as roles
use Rattle.rk_message.specs.declared.handover.Grant.{Grant}
use Rattle.rk_world.specs.Gather.{no_gather}
use Rattle.rk_world.specs.Tablet.{pulling_from}
use Rattle.rk_world.specs.Handovers.{carried_entry, tablet_granted}
use Rattle.rk_world.specs.World.{World, master_at, tablet_in, with_master}
use Rattle.rk_sound.specs.View.{View}
use Rattle.rk_sound.specs.Small.{put, put2, with_one_more}

-- a handover of a target that was granted its tablet, with the counter that it was handed
abbrev pub as_granted : ℕ → Handover → Handover
as_granted counter handover = record handover { role = roles.Receiving; counter = counter }

-- a target is granted its tablet: an entry that carries what its source handed over is appended to its log, the floor is its counter and
-- the ends are its completions, and it pulls from the first token on
abbrev pub granted : View → ℕ → ℕ → Grant → View
granted v master tablet grant = record v {
  logs = put v.logs master (with_entry (v.logs master) (carried_entry (v.handovers master tablet) grant));
  written = put v.written master (with_one_more (v.written master) (carried_entry (v.handovers master tablet) grant));
  handovers = put2 v.handovers master tablet (as_granted grant.floor (v.handovers master tablet));
  completions = put2 v.completions master tablet (completions_from [] grant.ends);
  pullings = put2 v.pullings master tablet (pulling_from grant.source);
  gathers = put2 v.gathers master tablet no_gather;
  merged = put2 v.merged master tablet [];
}

abbrev pub tablet_granted_in : World → ℕ → Grant → World
tablet_granted_in w master grant =
    with_master w master
    (tablet_granted (master_at w master) grant (as_granted grant.floor (tablet_in w master grant.tenure.tablet).handover))
