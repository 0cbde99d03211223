-- What each event and each client keeps of a lane's coordinator and of who has crashed, if each change of these keeps it.
use Rattle.std.proofs.Common.{arith, ℕ, List, [], ◌++◌, ◌∷◌}
use Rattle.rk_inv_base.proofs.Words.{Body, Called, Coordinator, Event, Node, Session, World, accept, ask, coordinator_notice}
use Rattle.rk_inv_base.proofs.Words.{crashed_masters, happened, new_row, rows_split, tablet_migrated, told_coordinator, world_visited, ⊤}
use Rattle.rk_world.specs.Coordinator.{with_row}
use Rattle.rk_inv_lanes.proofs.lanes.Events.{Covers, event_covered}
use Rattle.rk_inv_lanes.proofs.lanes.Visits.{accept_covered, ask_covered}

-- something of who has crashed and of a coordinator
abbrev pub Part : Type 1
Part = List ℕ → Coordinator → Type 0

-- a lane has it
abbrev pub Has : Part → World → Type 0
Has P w = P w.crashed w.coordinator

-- a new tablet, or a crash, keeps it
abbrev pub EventKeeps : Part → World → Event → Type 0
EventKeeps P w (Event.AddTablet tablet range master) = P w.crashed (with_row w.coordinator (new_row tablet range master))
EventKeeps P w (Event.Crash master) = P (w.crashed ++ master ∷ []) w.coordinator
EventKeeps P w event = ⊤

-- and each other change does
pub record IsKept (P : Part) (w : World) : Type 0 where
  pub now : Has P w
  pub hears : (sender : Node) (body : Body) → P w.crashed (told_coordinator w.coordinator sender body).coordinator
  pub moves : (tablet to : ℕ) → P w.crashed (tablet_migrated w.coordinator tablet to)
  pub splits : (tablet at new : ℕ) → P w.crashed (rows_split w.coordinator tablet at new)
  pub notices : (master : ℕ) → P w.crashed (coordinator_notice w.coordinator master (crashed_masters w))

module _ (P : Part) (w : World) where
  covers : IsKept P w → (event : Event) (called : Called) → EventKeeps P w event → Covers (Has P) w event called
  covers kept event called keeps = grind arith

  -- an event
  pub event_keeps : IsKept P w → (event : Event) (called : Called) → EventKeeps P w event → Has P (happened w event called).world
  event_keeps kept event called keeps = event_covered (covers kept event called keeps)

  -- a client's turn
  pub ask_keeps : Has P w → (session : Session) → Has P (world_visited w (ask w session))
  ask_keeps now session = ask_covered (Has P) w session now (λ call turned out. now)

  -- an answer
  pub accept_keeps : Has P w → (number : ℕ) (session : Session) → Has P (world_visited w (accept w number session))
  accept_keeps now number session = accept_covered (Has P) w session now number (λ body. now)
