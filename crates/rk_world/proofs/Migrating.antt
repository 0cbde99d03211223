-- Worked examples: tablet 1 moves from master 1 to master 2, while a client goes on.
use Rattle.std.specs.Prelude.{◌≡◌, ℕ, List, [], ◌∷◌, length, map, refl}
use Rattle.rk_types.specs.Hashing.{hash_of}
use Rattle.rk_types.specs.Held.{spelled_of}
use Rattle.rk_types.specs.declared.call.Op.TheVariants.{Get}
use Rattle.rk_types.specs.declared.call.Outcome.{Outcome}
use Rattle.rk_types.specs.declared.call.Outcome.TheVariants.{Found, Written}
use Rattle.rk_types.specs.declared.node.Node.TheVariants as nodes
use Rattle.rk_entry.specs.Ends.{range_bytes, outcome_bytes, end_bytes}
use Rattle.rk_entry.specs.Entries.{spelled_all}
use Rattle.rk_entry.specs.Lists.{ends_bytes, segments_bytes}
use Rattle.rk_entry.specs.Numbers.{number_bytes}
use Rattle.rk_entry.specs.Spelling.{head_bytes, held_bytes, refused_bytes, carried_bytes, joined_bytes, body_length, front_bytes, spelled, mark_of}
use Rattle.rk_entry.specs.Texts.{key_bytes, value_bytes}
use Rattle.rk_transfer.specs.declared.role.Role.{Role}
use Rattle.rk_transfer.specs.declared.role.Role.TheVariants as roles
use Rattle.rk_tablet_map.specs.declared.phase.Phase.{Phase}
use Rattle.rk_tablet_map.specs.declared.phase.Phase.TheVariants.{Owned, Moving}
use Rattle.rk_world.specs.declared.event.Event.TheVariants as events
use Rattle.rk_world.proofs.Granted.{filled, granted, overwritten}
use Rattle.rk_world.proofs.Scene.{Scene, Does, Calls, Asks, Delivers, played, answers_of, phases_of, role_at, a, i, x, y}
use Rattle.rk_world.specs.World.{master_at}

-- the roles of both masters, and where the rows are
abbrev handed : Scene → Role × Role × List Phase
handed scene = (role_at scene 1, role_at scene 2, phases_of scene)

-- how the calls of client 1 were answered; the versions of the target's records; and the keys of those that it copied
abbrev copied : Scene → List Outcome × List ℕ × List (List (List ℕ))
copied scene = (
  answers_of scene 1,
  map (λ item. item.version) (master_at scene.world 2).records,
  map (λ side. map (λ item. item.key) side) (master_at scene.world 2).sides,
)

-- where the rows are, the target's role, how many records the source has, and how the calls of client 1 were answered
abbrev finished : Scene → List Phase × Role × ℕ × List Outcome
finished scene = (phases_of scene, role_at scene 2, length (master_at scene.world 1).records, answers_of scene 1)

-- the source is frozen; the target answers calls, and has nothing yet; and the row moves
granted_shows : handed granted ≡ (roles.Frozen, roles.Receiving, (Moving 1 0 2 0 ∷ []))
unfolding granted filled hash_of spelled_of spelled_all spelled front_bytes body_length head_bytes held_bytes refused_bytes carried_bytes joined_bytes mark_of number_bytes key_bytes value_bytes range_bytes outcome_bytes end_bytes ends_bytes segments_bytes
granted_shows = refl

-- the write at the target becomes applied, and all records are pulled
pulled : Scene
pulled =
    played overwritten (
    Does (events.Turn (nodes.Master 2)) ∷ Delivers 26 ∷ Delivers 27 ∷ Delivers 28 ∷ Delivers 29 ∷ Delivers 30
    ∷ Delivers 31 ∷ Delivers 32 ∷ [])

-- the write has a version above all of the source, the pulled record of a did not take its place, and only the record of i was copied
pulled_shows : copied pulled ≡ ((Written 1 ∷ Written 2 ∷ Written 3 ∷ []), (3 ∷ 2 ∷ []), ((i ∷ []) ∷ []))
unfolding pulled overwritten granted filled hash_of spelled_of spelled_all spelled front_bytes body_length head_bytes held_bytes refused_bytes carried_bytes joined_bytes mark_of number_bytes key_bytes value_bytes range_bytes outcome_bytes end_bytes ends_bytes segments_bytes
pulled_shows = refl

-- what was pulled is stored, and its entry too, and the coordinator learns it
moved : Scene
moved =
    played pulled (
    Does (events.Turn (nodes.Master 2)) ∷ Delivers 33 ∷ Delivers 34 ∷ Delivers 35 ∷ Delivers 36
    ∷ Does (events.Turn (nodes.Master 2)) ∷ Delivers 37 ∷ Delivers 38 ∷ Delivers 39 ∷ Delivers 40
    ∷ Does (events.Turn (nodes.Master 2)) ∷ Delivers 41 ∷ Delivers 42 ∷ Delivers 43 ∷ [])

-- both records are read
reads : Scene
reads =
    played moved (
    Calls 1 a Get ∷ Asks 1 ∷ Delivers 44 ∷ Delivers 45 ∷ Calls 1 i Get ∷ Asks 1 ∷ Delivers 46 ∷ Delivers 47 ∷ [])

-- the target owns the tablet and serves it, the source has nothing of it any more, and each record is read as it was written last
reads_show : finished reads ≡ ((Owned 2 0 ∷ []), roles.Serving, 0, (Written 1 ∷ Written 2 ∷ Written 3 ∷ Found 3 y ∷ Found 2 x ∷ []))
unfolding reads moved pulled overwritten granted filled hash_of spelled_of spelled_all spelled front_bytes body_length head_bytes held_bytes refused_bytes carried_bytes joined_bytes mark_of number_bytes key_bytes value_bytes range_bytes outcome_bytes end_bytes ends_bytes segments_bytes
reads_show = refl
