-- Runs: what a list of events makes of a world, and which lists of events are calm.
use Rattle.std.specs.Prelude.{◌≡◌, ℕ, ◌==◌, Bool, true, ◌&&◌, not, List, [], ◌∷◌, Result, Ok, Err, ⊤, IfSome}
use Rattle.std.specs.List.{list_any, range_with_len}
use Rattle.rk_world.specs.declared.error.StepError.{StepError}
use Rattle.rk_world.specs.declared.event.Event.{Event}
use Rattle.rk_world.specs.declared.event.Event.TheVariants as events
use Rattle.rk_world.specs.Backup.{Called}
use Rattle.rk_world.specs.Client.{Session}
use Rattle.rk_world.specs.Formed.{IsWellFormed}
use Rattle.rk_world.specs.Room.{HasRoom}
use Rattle.rk_world.specs.World.{World, lives}
use Rattle.rk_world.specs.Step.{Stepped, step}
use Rattle.rk_world.specs.Calls.{Visited, ask, accept}
use Rattle.rk_world.specs.Premises.{MayAct, MayHappen, MayCome, IsAfterStart}

-- something that happens in a lane: an event with what the call of a replica came to, or a client's turn or answer, for the session
-- that the client has then
pub data Happening : Type 0 where
  Happens : (event : Event) (called : Called) → Happening
  Asks : (session : Session) → Happening
  Accepts : (number : ℕ) (session : Session) → Happening

-- the world after an event; a refused event changes nothing
abbrev pub world_stepped : World → Result Stepped StepError → World
world_stepped w (Ok stepped) = stepped.world
world_stepped w (Err error) = w

-- the world after a client's turn or answer
abbrev pub world_visited : World → Result Visited StepError → World
world_visited w (Ok visited) = visited.world
world_visited w (Err error) = w

-- the world after something happened
abbrev pub after : World → Happening → World
after w (Happens event called) = world_stepped w (step w event called)
after w (Asks session) = world_visited w (ask w session)
after w (Accepts number session) = world_visited w (accept w number session)

-- the world after a list of happenings
abbrev pub run : World → List Happening → World
run w [] = w
run w (happening ∷ later) = run (after w happening) later

-- whether another master of the lane than this one lives
abbrev pub lives_another : World → ℕ → Bool
lives_another w master =
    list_any (λ other. lives w other && not (other == master)) (range_with_len 1 w.coordinator.masters)

-- a crash comes only while another master lives
abbrev pub IsCalmEvent : World → Event → Type 0
IsCalmEvent w (events.Crash master) = lives_another w master ≡ true
IsCalmEvent w _ = ⊤

-- only a crash may break the calm
abbrev pub IsCalmHappening : World → Happening → Type 0
IsCalmHappening w (Happens event called) = IsCalmEvent w event
IsCalmHappening w (Asks session) = ⊤
IsCalmHappening w (Accepts number session) = ⊤

-- each crash of a list comes only while another master lives
abbrev pub IsCalm : World → List Happening → Type 0
IsCalm w [] = ⊤
IsCalm w (happening ∷ later) = IsCalmHappening w happening × IsCalm (after w happening) later

-- what may happen in a world: an event that names what is there, with what a replica may come to, or a session that may act there; a
-- call that is asked comes after the history's start
abbrev pub MayOccur : World → Happening → Type 0
MayOccur w (Happens event called) = MayHappen w event × MayCome called
MayOccur w (Asks session) =
    MayAct w.coordinator.masters session × IfSome session.outstanding (IsAfterStart w.base)
MayOccur w (Accepts number session) = MayAct w.coordinator.masters session

-- each of these may happen when it does
abbrev pub MayAllOccur : World → List Happening → Type 0
MayAllOccur w [] = ⊤
MayAllOccur w (happening ∷ later) = MayOccur w happening × MayAllOccur (after w happening) later

-- a lane that is well formed and has room
pub record IsFormedWithRoom (w : World) : Type 0 where
  pub formed : IsWellFormed w
  pub room : HasRoom w

-- each world of a run has room
abbrev pub AllHaveRoom : World → List Happening → Type 0
AllHaveRoom w [] = HasRoom w
AllHaveRoom w (happening ∷ later) = HasRoom w × AllHaveRoom (after w happening) later
