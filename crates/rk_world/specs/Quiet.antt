-- Quiet: a world in which nothing is left to do.
use Rattle.std.specs.Prelude.{◌≡◌, ℕ, ◌==◌, false, List, [], None, All}
use Rattle.std.specs.List.{list_any}
use Rattle.rk_types.specs.NumberMap.{NumberMap}
use Rattle.rk_tablet_map.specs.declared.phase.Phase.{Phase}
use Rattle.rk_tablet_map.specs.declared.phase.Phase.TheVariants.{Owned}
use Rattle.rk_tablet_map.specs.declared.row.Row.{Row}
use Rattle.rk_world.specs.Master.{Master, staged}
use Rattle.rk_world.specs.Client.{Session}

-- a row is owned by a master that lives
abbrev pub IsOwnedLive : List ℕ → Phase → Type 0
IsOwnedLive crashed (Owned master from) = list_any (λ dead. dead == master) crashed ≡ false
IsOwnedLive crashed _ = ⊥

-- nothing is left to do: each row is owned by a live master, nothing is staged at a live master, and no session has an
-- outstanding call
pub record IsQuiet (rows : List Row) (crashed : List ℕ) (live : NumberMap Master) (sessions : List Session) : Type 0 where
  pub owned : All (λ row. IsOwnedLive crashed row.phase) rows
  pub settled : All (λ entry. staged entry.1 ≡ []) live
  pub answered : All (λ session. session.outstanding ≡ None) sessions
