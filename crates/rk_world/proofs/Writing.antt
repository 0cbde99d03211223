-- Worked examples: a put that both backups hold, a request that comes again, and a conditional put that is refused.
use Rattle.std.specs.Prelude.{◌≡◌, [], ◌∷◌, length, refl}
use Rattle.rk_types.specs.Hashing.{hash_of}
use Rattle.rk_types.specs.Held.{spelled_of}
use Rattle.rk_types.specs.declared.call.Op.TheVariants.{Put, CondPut}
use Rattle.rk_types.specs.declared.call.Outcome.TheVariants.{Written, Mismatch}
use Rattle.rk_types.specs.declared.node.Node.TheVariants as nodes
use Rattle.rk_entry.specs.Ends.{range_bytes, outcome_bytes, end_bytes}
use Rattle.rk_entry.specs.Entries.{spelled_all}
use Rattle.rk_entry.specs.Lists.{ends_bytes, segments_bytes}
use Rattle.rk_entry.specs.Numbers.{number_bytes}
use Rattle.rk_entry.specs.Spelling.{head_bytes, held_bytes, refused_bytes, carried_bytes, joined_bytes, body_length, front_bytes, spelled, mark_of}
use Rattle.rk_entry.specs.Texts.{key_bytes, value_bytes}
use Rattle.rk_world.specs.declared.event.Event.TheVariants as events
use Rattle.rk_world.proofs.Scene.{Scene, Does, Calls, Asks, Delivers, played, start, answers_of, recorded_in, applied_at, a, x, y}
use Rattle.rk_world.specs.World.{master_at}

-- the put of x at a has reached its master
staged : Scene
staged =
    played (start 2) (
    Calls 1 a (Put x) ∷ Asks 1 ∷ Delivers 1 ∷ Delivers 2 ∷ Asks 1 ∷ Delivers 3 ∷ [])

-- it is in the log, and not applied
staged_waits : applied_at staged 1 ≡ 0
unfolding staged hash_of spelled_of spelled_all spelled front_bytes body_length head_bytes held_bytes refused_bytes carried_bytes joined_bytes mark_of number_bytes key_bytes value_bytes range_bytes outcome_bytes end_bytes ends_bytes segments_bytes
staged_waits = refl

-- it has no record yet
staged_unknown : recorded_in staged ≡ []
unfolding staged hash_of spelled_of spelled_all spelled front_bytes body_length head_bytes held_bytes refused_bytes carried_bytes joined_bytes mark_of number_bytes key_bytes value_bytes range_bytes outcome_bytes end_bytes ends_bytes segments_bytes
staged_unknown = refl

-- the master sends its bytes, and the first of two backups reports that it holds them
half : Scene
half =
    played staged (
    Does (events.Turn (nodes.Master 1)) ∷ Delivers 4 ∷ Delivers 6 ∷ [])

-- one of two is not enough
half_waits : applied_at half 1 ≡ 0
unfolding half staged hash_of spelled_of spelled_all spelled front_bytes body_length head_bytes held_bytes refused_bytes carried_bytes joined_bytes mark_of number_bytes key_bytes value_bytes range_bytes outcome_bytes end_bytes ends_bytes segments_bytes
half_waits = refl

-- the second one reports it too
written : Scene
written =
    played half (
    Delivers 5 ∷ Delivers 7 ∷ Delivers 8 ∷ [])

-- the put is applied
written_commits : applied_at written 1 ≡ 1
unfolding written half staged hash_of spelled_of spelled_all spelled front_bytes body_length head_bytes held_bytes refused_bytes carried_bytes joined_bytes mark_of number_bytes key_bytes value_bytes range_bytes outcome_bytes end_bytes ends_bytes segments_bytes
written_commits = refl

-- it has its record
written_recorded : recorded_in written ≡ Written 1 ∷ []
unfolding written half staged hash_of spelled_of spelled_all spelled front_bytes body_length head_bytes held_bytes refused_bytes carried_bytes joined_bytes mark_of number_bytes key_bytes value_bytes range_bytes outcome_bytes end_bytes ends_bytes segments_bytes
written_recorded = refl

-- its client has the answer
written_answers : answers_of written 1 ≡ Written 1 ∷ []
unfolding written half staged hash_of spelled_of spelled_all spelled front_bytes body_length head_bytes held_bytes refused_bytes carried_bytes joined_bytes mark_of number_bytes key_bytes value_bytes range_bytes outcome_bytes end_bytes ends_bytes segments_bytes
written_answers = refl

-- the request comes once more
again : Scene
again =
    played written (
    Does (events.Again 1) ∷ Delivers 9 ∷ Delivers 10 ∷ [])

-- it makes no second record
again_once : recorded_in again ≡ Written 1 ∷ []
unfolding again written half staged hash_of spelled_of spelled_all spelled front_bytes body_length head_bytes held_bytes refused_bytes carried_bytes joined_bytes mark_of number_bytes key_bytes value_bytes range_bytes outcome_bytes end_bytes ends_bytes segments_bytes
again_once = refl

-- and no second entry
again_no_entry : length (master_at again.world 1).log.entries ≡ 1
unfolding again written half staged hash_of spelled_of spelled_all spelled front_bytes body_length head_bytes held_bytes refused_bytes carried_bytes joined_bytes mark_of number_bytes key_bytes value_bytes range_bytes outcome_bytes end_bytes ends_bytes segments_bytes
again_no_entry = refl

-- a conditional put expects a version that is not there
refused : Scene
refused =
    played again (
    Calls 1 a (CondPut 5 y) ∷ Asks 1 ∷ Delivers 11 ∷ Does (events.Turn (nodes.Master 1)) ∷ Delivers 12
    ∷ Delivers 13 ∷ Delivers 14 ∷ Delivers 15 ∷ Delivers 16 ∷ [])

-- it met version 1
refused_answers : answers_of refused 1 ≡ Written 1 ∷ Mismatch 1 ∷ []
unfolding refused again written half staged hash_of spelled_of spelled_all spelled front_bytes body_length head_bytes held_bytes refused_bytes carried_bytes joined_bytes mark_of number_bytes key_bytes value_bytes range_bytes outcome_bytes end_bytes ends_bytes segments_bytes
refused_answers = refl

-- its refusal is an entry of the log like any other
refused_entry : applied_at refused 1 ≡ 2
unfolding refused again written half staged hash_of spelled_of spelled_all spelled front_bytes body_length head_bytes held_bytes refused_bytes carried_bytes joined_bytes mark_of number_bytes key_bytes value_bytes range_bytes outcome_bytes end_bytes ends_bytes segments_bytes
refused_entry = refl
