-- What a master in code represents.
use Rattle.std.specs.Prelude.{◌≡◌, false, Option, Some, None, if◌then◌else◌}
use Rattle.rk_world.specs.Master.{Master}
use Rattle.rk_world.specs.Worked.{Worked}
use Rattle.rk_master.specs.Parts.{marks_of}
use Rattle.rk_master.specs.State.{IsState, master_of}
use Rattle.rk_master.specs.declared.work.Worked.{Worked as Work}
use Rattle.rk_master.specs.declared.master_lane.MasterLane.TheInside.{Inside}

-- the master, or none if it is spent
abbrev pub lane_of : Inside → Option Master
lane_of lane = if lane.spent then None else Some (master_of lane.state)

-- its state is in order, unless it is spent
abbrev pub IsLane : Inside → Type 0
IsLane lane = lane.spent ≡ false → IsState lane.state

-- this is what a master has worked: how it is now, what it sends, which calls it served, and the piece of its log that a rebuild made
pub record IsWork (worked : Worked) (after : Option Master) (work : Work) : Type 0 where
  pub master : after ≡ Some worked.master
  pub sends : work.sends.items ≡ worked.sends
  pub served : work.served.items ≡ worked.served
  pub marked : marks_of work.marked ≡ worked.marked
