-- Worked examples: a record that has not arrived is fetched before all others.
use Rattle.std.specs.Prelude.{◌≡◌, ℕ, List, [], ◌∷◌, map, refl}
use Rattle.rk_types.specs.Hashing.{hash_of}
use Rattle.rk_types.specs.Held.{spelled_of}
use Rattle.rk_types.specs.declared.call.Op.TheVariants.{Get}
use Rattle.rk_types.specs.declared.call.Outcome.{Outcome}
use Rattle.rk_types.specs.declared.call.Outcome.TheVariants.{Found}
use Rattle.rk_types.specs.declared.node.Node.TheVariants as nodes
use Rattle.rk_entry.specs.Ends.{range_bytes, outcome_bytes, end_bytes}
use Rattle.rk_entry.specs.Entries.{spelled_all}
use Rattle.rk_entry.specs.Lists.{ends_bytes, segments_bytes}
use Rattle.rk_entry.specs.Numbers.{number_bytes}
use Rattle.rk_entry.specs.Spelling.{head_bytes, held_bytes, refused_bytes, carried_bytes, joined_bytes, body_length, front_bytes, spelled, mark_of}
use Rattle.rk_entry.specs.Texts.{key_bytes, value_bytes}
use Rattle.rk_world.specs.declared.event.Event.TheVariants as events
use Rattle.rk_world.proofs.Granted.{filled, granted}
use Rattle.rk_world.proofs.Scene.{Scene, Does, Calls, Asks, Delivers, played, answers_of, a, x}
use Rattle.rk_world.specs.Master.{tablet_at}
use Rattle.rk_world.specs.World.{master_at}

-- how the calls of client 2 were answered, the hashes that the target wants, and the keys of its records
abbrev shown : Scene → List Outcome × List ℕ × List (List ℕ)
shown scene = (
  answers_of scene 2,
  (tablet_at (master_at scene.world 2) 1).pulling.hashes.wanted,
  map (λ item. item.key) (master_at scene.world 2).records,
)

-- a client reads a at the target before anything was pulled
early : Scene
early =
    played granted (
    Calls 2 a Get ∷ Asks 2 ∷ Delivers 20 ∷ Delivers 21 ∷ Asks 2 ∷ Delivers 22 ∷ Delivers 23 ∷ [])

-- it is told to ask again, and the hash of a is wanted
early_shows : shown early ≡ ([], (hash_of a ∷ []), [])
unfolding early granted filled hash_of spelled_of spelled_all spelled front_bytes body_length head_bytes held_bytes refused_bytes carried_bytes joined_bytes mark_of number_bytes key_bytes value_bytes range_bytes outcome_bytes end_bytes ends_bytes segments_bytes
early_shows = refl

-- the target asks for that record before all others, and gets it, while still nothing was pulled
fetched : Scene
fetched =
    played early (
    Does (events.Turn (nodes.Master 2)) ∷ Delivers 26 ∷ Delivers 28 ∷ [])

-- the client asks again
found : Scene
found =
    played fetched (
    Asks 2 ∷ Delivers 29 ∷ Delivers 30 ∷ [])

-- and finds it: the record is there, and nothing else was pulled
found_shows : shown found ≡ ((Found 1 x ∷ []), [], (a ∷ []))
unfolding found fetched early granted filled hash_of spelled_of spelled_all spelled front_bytes body_length head_bytes held_bytes refused_bytes carried_bytes joined_bytes mark_of number_bytes key_bytes value_bytes range_bytes outcome_bytes end_bytes ends_bytes segments_bytes
found_shows = refl
