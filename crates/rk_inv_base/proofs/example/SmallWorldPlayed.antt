-- The small world comes about: from a new lane a put is asked, staged, stored by the backup, applied and answered.
use Rattle.rk_inv_base.proofs.Words.{sym, subst, slice_set, replicate, ◌≡◌, [], ◌∷◌, Some, refl, NumberMap, LANES, Message, Session}
use Rattle.rk_inv_base.proofs.Words.{new_session, new_world, IsSound, Scene, Does, Delivers, played}
use Rattle.rk_types.specs.Hashing.{hash_of}
use Rattle.rk_types.specs.Held.{spelled_of}
use Rattle.rk_entry.specs.Ends.{range_bytes, outcome_bytes, end_bytes}
use Rattle.rk_entry.specs.Entries.{spelled_all}
use Rattle.rk_entry.specs.Lists.{ends_bytes, segments_bytes}
use Rattle.rk_entry.specs.Numbers.{number_bytes}
use Rattle.rk_entry.specs.Spelling.{head_bytes, held_bytes, refused_bytes, carried_bytes, joined_bytes, body_length, front_bytes, spelled}
use Rattle.rk_entry.specs.Spelling.{mark_of}
use Rattle.rk_entry.specs.Texts.{key_bytes, value_bytes}
use Rattle.rk_types.specs.declared.call.Op.TheVariants as ops
use Rattle.rk_types.specs.declared.node.Node.TheVariants as nodes
use Rattle.rk_world.specs.declared.event.Event.TheVariants as events
use Rattle.rk_world.proofs.Scene.{Calls, Asks}
use Rattle.rk_inv_base.proofs.example.SmallWorld.{small_world, small_range, small_key, small_value, small_request, small_append, small_told}
use Rattle.rk_inv_base.proofs.example.SmallWorld.{small_reply}
use Rattle.rk_inv_base.proofs.example.SmallWorldSound.{small_is_sound}

-- a client that knows who owns the range
abbrev pub knowing : Session
knowing = record (new_session 1) {
  ranges = slice_set (replicate LANES []) 4 ((record { tablet = 1; range = small_range; owner = Some 1 }) ∷ []);
}

-- the lane is new but for its tablet and its client; then the put is asked, and each message of it is delivered but the last
pub small_played : Scene
small_played =
    played (record { world = new_world 4 1 1; sessions = (1, knowing) ∷ [] }) (
    Does (events.AddTablet 1 small_range 1) ∷ Does (events.AddClient 1) ∷ Calls 1 small_key (ops.Put small_value) ∷ Asks 1
    ∷ Does (events.Deliver 1) ∷ Does (events.Turn (nodes.Master 1)) ∷ Does (events.Deliver 2) ∷ Does (events.Deliver 3) ∷ [])

-- what comes of it is the small world
pub played_is_small : small_played.world ≡ small_world
unfolding small_played hash_of spelled_of spelled_all spelled front_bytes body_length head_bytes held_bytes refused_bytes carried_bytes joined_bytes mark_of number_bytes key_bytes value_bytes range_bytes outcome_bytes end_bytes ends_bytes segments_bytes
played_is_small = refl

-- so a sound world with an applied put is reached from a new one
pub played_is_sound : IsSound small_played.world
played_is_sound = subst IsSound (sym played_is_small) small_is_sound

-- a client that knows nothing looks the range up before, so the four messages have later numbers
pub small_learned : Scene
small_learned =
    played (record { world = new_world 4 1 1; sessions = [] }) (
    Does (events.AddTablet 1 small_range 1) ∷ Does (events.AddClient 1) ∷ Calls 1 small_key (ops.Put small_value) ∷ Asks 1
    ∷ Delivers 1 ∷ Delivers 2 ∷ Asks 1 ∷ Does (events.Deliver 3) ∷ Does (events.Turn (nodes.Master 1)) ∷ Does (events.Deliver 4)
    ∷ Does (events.Deliver 5) ∷ [])

-- the four messages under later numbers
abbrev pub later_wire : NumberMap Message
later_wire = (3, small_request) ∷ (4, small_append) ∷ (5, small_told) ∷ (6, small_reply) ∷ []

-- what comes of it is the small world but for these numbers
pub learned_is_small : small_learned.world ≡ record small_world { wire = record { messages = later_wire; sent = 6 }; top = 6 }
unfolding small_learned hash_of spelled_of spelled_all spelled front_bytes body_length head_bytes held_bytes refused_bytes carried_bytes joined_bytes mark_of number_bytes key_bytes value_bytes range_bytes outcome_bytes end_bytes ends_bytes segments_bytes
learned_is_small = refl
