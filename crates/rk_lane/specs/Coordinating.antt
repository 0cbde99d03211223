-- What the coordinator in code makes of a message.
use Rattle.std.specs.Prelude.{◌≡◌, ℕ, List, map}
use Rattle.rk_tablet_map.specs.declared.row.Row.{Row}
use Rattle.rk_message.specs.declared.message.Message.{Message}
use Rattle.rk_world.specs.Coordinator.{Coordinator}
use Rattle.rk_world.specs.CoordinatorStep.{coordinator_step}
use Rattle.rk_world.specs.Ledger.{Ledger, with_rebuilt}

-- the coordinator took a message, the ledger the rebuild that came with it, if one was taken, and this is sent
pub record IsCoordinated (coordinator : Coordinator) (ledger : Ledger) (message : Message) (now : Coordinator) (later : Ledger) (sends : List Message) : Type 0 where
  pub coordinator_is : now ≡ (coordinator_step coordinator message).coordinator
  pub ledger_is : later ≡ with_rebuilt ledger (coordinator_step coordinator message).rebuilt
  pub sends_are : sends ≡ (coordinator_step coordinator message).sends

-- the terms of rows
abbrev pub terms_of : List Row → List ℕ
terms_of rows = map (λ row. row.term) rows
