-- A crash, and notice of it, may come to a lane that has the master.
use Rattle.std.proofs.Common.{arith, ◌≡◌, ℕ, Bool, true, []}
use Rattle.std.specs.Prelude.{IfSome}
use Rattle.rk_world.specs.Premises.{IsMaster}
use Rattle.rk_world.specs.Runs.{lives_another}
use Rattle.rk_world.specs.declared.event.Event.TheVariants as events
use Rattle.rk_lane.specs.Events.{MayComeTo}
use Rattle.rk_lane.specs.LaneState.{LaneState, world_with}

module _ {R : Type 0} (lane : LaneState R) (master : ℕ) (there : IsMaster lane.masters master) where
  pub may_crash : (shown : LaneState R) (lives : Bool) → shown ≡ lane → IfSome shown.running (λ running. lives ≡ lives_another (world_with shown running []) master)
      → lives ≡ true → MayComeTo lane (events.Crash master)
  may_crash shown lives is says living = grind arith

  pub may_notice : MayComeTo lane (events.Notice master)
  may_notice = record { may = there; calm = λ running runs. tt }
