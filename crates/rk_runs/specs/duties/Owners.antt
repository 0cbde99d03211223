-- Owners: whether the rows of a lane are owned, and by whom; and whether who has crashed was noticed.
use Rattle.std.specs.Prelude.{◌≡◌, ◌==◌, ℕ, Bool, true, false, List, All, ⊤}
use Rattle.std.specs.List.{list_any}
use Rattle.rk_tablet_map.specs.declared.phase.Phase.{Phase}
use Rattle.rk_tablet_map.specs.declared.phase.Phase.TheVariants.{Owned}
use Rattle.rk_world.specs.Coordinator.{Coordinator, is_noticed}
use Rattle.rk_world.specs.World.{World, has_crashed}
use Rattle.rk_world.specs.declared.event.Event.{Event}
use Rattle.rk_world.specs.declared.event.Event.TheVariants as events

-- whether a phase is that of a row that is owned: one whose tablet neither moves nor is rebuilt
abbrev pub is_owned : Phase → Bool
is_owned (Owned master from) = true
is_owned phase = false

-- none of these masters owns a row of this phase
abbrev pub IsNotOwnedBy : List ℕ → Phase → Type 0
IsNotOwnedBy masters (Owned master from) = list_any (λ other. other == master) masters ≡ false
IsNotOwnedBy masters phase = ⊤

-- no row is owned by a master that was noticed dead
abbrev pub NoDeadOwner : Coordinator → Type 0
NoDeadOwner coordinator = All (λ row. IsNotOwnedBy coordinator.noticed row.phase) coordinator.rows

-- each master that has crashed was noticed dead
abbrev pub AllNoticed : World → Type 0
AllNoticed w = (master : ℕ) → has_crashed w master ≡ true → is_noticed w.coordinator master ≡ true

-- whether an event is a crash
abbrev pub is_crash : Event → Bool
is_crash (events.Crash master) = true
is_crash event = false
