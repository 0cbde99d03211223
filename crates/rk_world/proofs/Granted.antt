-- A tablet on its way: worked examples begin here.
use Rattle.std.specs.Prelude.{[], ◌∷◌}
use Rattle.rk_types.specs.declared.call.Op.TheVariants.{Put}
use Rattle.rk_types.specs.declared.node.Node.TheVariants as nodes
use Rattle.rk_world.specs.declared.event.Event.TheVariants as events
use Rattle.rk_world.proofs.Scene.{Scene, Does, Calls, Asks, Delivers, played, start, a, i, x, y}

-- two records at master 1
unfoldable pub filled : Scene
filled =
    played (start 2) (
    Calls 1 a (Put x) ∷ Asks 1 ∷ Delivers 1 ∷ Delivers 2 ∷ Asks 1 ∷ Delivers 3
    ∷ Does (events.Turn (nodes.Master 1)) ∷ Delivers 4 ∷ Delivers 5 ∷ Delivers 6 ∷ Delivers 7 ∷ Delivers 8
    ∷ Calls 1 i (Put x) ∷ Asks 1 ∷ Delivers 9 ∷ Does (events.Turn (nodes.Master 1)) ∷ Delivers 10 ∷ Delivers 11
    ∷ Delivers 12 ∷ Delivers 13 ∷ Delivers 14 ∷ [])

-- the tablet opens, the target is ready, the source is frozen, and the target may serve
unfoldable pub granted : Scene
granted =
    played filled (
    Does (events.Migrate 1 2) ∷ Does (events.Turn nodes.Coordinator) ∷ Delivers 15 ∷ Delivers 16
    ∷ Does (events.Turn nodes.Coordinator) ∷ Delivers 17 ∷ Delivers 18 ∷ Does (events.Turn nodes.Coordinator)
    ∷ Delivers 19 ∷ [])

-- a client is told that the tablet has moved, finds the target, and writes y at a there
unfoldable pub overwritten : Scene
overwritten =
    played granted (
    Calls 1 a (Put y) ∷ Asks 1 ∷ Delivers 20 ∷ Delivers 21 ∷ Asks 1 ∷ Delivers 22 ∷ Delivers 23 ∷ Asks 1
    ∷ Delivers 24 ∷ Asks 1 ∷ Delivers 25 ∷ [])
