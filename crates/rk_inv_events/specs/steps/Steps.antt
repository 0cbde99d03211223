-- Steps: what is so of a lane in which an event happens.
use Rattle.std.specs.Prelude.{◌≡◌, None}
use Rattle.rk_world.specs.declared.event.Event.{Event}
use Rattle.rk_world.specs.Backup.{Called}
use Rattle.rk_world.specs.Formed.{IsWellFormed}
use Rattle.rk_world.specs.Premises.{MayCome, MayHappen}
use Rattle.rk_world.specs.Refusals.{refusal}
use Rattle.rk_world.specs.Room.{HasRoom}
use Rattle.rk_world.specs.Runs.{IsCalmEvent}
use Rattle.rk_world.specs.Replicas.{AllTell, IsTold}
use Rattle.rk_world.specs.Step.{happened}
use Rattle.rk_world.specs.World.{World}
use Rattle.rk_inv_tablets.specs.steady.Steady.{AllSealedThere}

-- what is so of a lane from its start on, beside the invariant: its backups report what they store, and what targets have sealed is there
pub record IsSteady (w : World) : Type 0 where
  pub tell : AllTell w
  pub sealed : AllSealedThere w

-- an event may happen in a lane, with this from replicas: the lane is well formed, has room before and after it, and its backups report
-- what they store; the event names what is there, is not refused, and crashes no last master
pub record MayStep (w : World) (event : Event) (called : Called) : Type 0 where
  pub formed : IsWellFormed w
  pub room : HasRoom w
  pub fits : HasRoom (happened w event called).world
  pub may : MayHappen w event
  pub comes : MayCome called
  pub calm : IsCalmEvent w event
  pub none : refusal w event ≡ None
  pub told : IsTold w event called
  pub steady : IsSteady w
