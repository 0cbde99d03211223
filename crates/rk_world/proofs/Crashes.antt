-- Worked examples: the source of a move crashes, or its target; the other one rebuilds the tablet from both logs.
use Rattle.std.specs.Prelude.{◌≡◌, ℕ, ◌+◌, List, [], ◌∷◌, refl}
use Rattle.rk_types.specs.Hashing.{hash_of}
use Rattle.rk_types.specs.Held.{spelled_of}
use Rattle.rk_types.specs.declared.call.Op.TheVariants.{Get}
use Rattle.rk_types.specs.declared.call.Outcome.{Outcome}
use Rattle.rk_types.specs.declared.call.Outcome.TheVariants.{Found}
use Rattle.rk_types.specs.declared.node.Node.TheVariants as nodes
use Rattle.rk_entry.specs.Ends.{range_bytes, outcome_bytes, end_bytes, read_range, read_version, read_absent, read_tagged, read_outcome, read_end}
use Rattle.rk_entry.specs.Entries.{spelled_all, entries_within, entries_of}
use Rattle.rk_entry.specs.Lists.{ends_bytes, segments_bytes, read_ends, read_segment, read_segments}
use Rattle.rk_entry.specs.Numbers.{number_bytes, read_number, read_from}
use Rattle.rk_entry.specs.Reading.{read_kind, read_body_length, read_head, read_tombstone, read_object, read_why, read_refused, read_carried, read_joined, read_mark, read_entry}
use Rattle.rk_entry.specs.Spelling.{head_bytes, held_bytes, refused_bytes, carried_bytes, joined_bytes, body_length, front_bytes, spelled, mark_of}
use Rattle.rk_entry.specs.Texts.{key_bytes, value_bytes, read_key_length, read_key, read_value_length, read_value}
use Rattle.rk_tablet_map.specs.Phase.{member}
use Rattle.rk_tablet_map.specs.declared.phase.Phase.{Phase}
use Rattle.rk_tablet_map.specs.declared.phase.Phase.TheVariants.{Owned, Rebuilding}
use Rattle.rk_world.specs.declared.event.Event.TheVariants as events
use Rattle.rk_world.proofs.Granted.{filled, granted, overwritten}
use Rattle.rk_world.proofs.Scene.{Scene, Act, Does, Calls, Asks, Delivers, played, answers_of, phases_of, a, i, x, y}

-- client 2 reads both records; its messages are numbered from `first` on
abbrev pub reading_both : ℕ → List Act
reading_both first =
    Calls 2 a Get ∷ Asks 2 ∷ Delivers first ∷ Delivers (first + 1) ∷ Asks 2 ∷ Delivers (first + 2) ∷ Delivers (first + 3)
    ∷ Calls 2 i Get ∷ Asks 2 ∷ Delivers (first + 4) ∷ Delivers (first + 5) ∷ []

-- how the calls of client 2 were answered, and where the rows are
abbrev shown : Scene → List Outcome × List Phase
shown scene = (answers_of scene 2, phases_of scene)

-- ---- the source crashes

-- the source crashes before the write is applied and before anything was pulled
source_crashed : Scene
source_crashed =
    played overwritten (
    Does (events.Crash 1) ∷ Does (events.Notice 1) ∷ [])

-- the target is to rebuild the tablet from both logs
source_crashed_row : phases_of source_crashed ≡ Rebuilding (member 1 0 ∷ member 2 0 ∷ []) 2 ∷ []
unfolding source_crashed overwritten granted filled hash_of spelled_of spelled_all spelled front_bytes body_length head_bytes held_bytes refused_bytes carried_bytes joined_bytes mark_of number_bytes key_bytes value_bytes range_bytes outcome_bytes end_bytes ends_bytes segments_bytes
source_crashed_row = refl

-- it gathers what backup 1 has of the source, merges it, and reports that
source_rebuilt : Scene
source_rebuilt =
    played source_crashed (
    Does (events.Turn nodes.Coordinator) ∷ Delivers 26 ∷ Does (events.Turn (nodes.Master 2)) ∷ Delivers 27
    ∷ Delivers 28 ∷ Delivers 29 ∷ Delivers 30 ∷ Delivers 31 ∷ Delivers 32 ∷ Delivers 33
    ∷ Does (events.Turn (nodes.Master 2)) ∷ Delivers 34 ∷ Delivers 35 ∷ Does (events.Turn (nodes.Master 2))
    ∷ Delivers 36 ∷ Delivers 37 ∷ Delivers 38 ∷ Delivers 39 ∷ Does (events.Turn (nodes.Master 2)) ∷ Delivers 40
    ∷ Delivers 41 ∷ [])

-- another client reads both records
source_reads : Scene
source_reads =
    played source_rebuilt (reading_both 42)

-- as they were written last; the target owns the tablet
source_reads_show : shown source_reads ≡ ((Found 3 y ∷ Found 2 x ∷ []), (Owned 2 0 ∷ []))
unfolding source_reads source_rebuilt source_crashed overwritten granted filled hash_of spelled_of spelled_all spelled front_bytes body_length head_bytes held_bytes refused_bytes carried_bytes joined_bytes mark_of number_bytes key_bytes value_bytes range_bytes outcome_bytes end_bytes ends_bytes segments_bytes entries_of entries_within read_entry read_kind read_body_length read_head read_tombstone read_object read_why read_refused read_carried read_joined read_mark read_number read_from read_key_length read_key read_value_length read_value read_range read_version read_absent read_tagged read_outcome read_end read_ends read_segment read_segments
source_reads_show = refl

-- ---- the target crashes

-- the write is answered, and then the target crashes
target_crashed : Scene
target_crashed =
    played overwritten (
    Does (events.Turn (nodes.Master 2)) ∷ Delivers 26 ∷ Delivers 27 ∷ Delivers 28 ∷ Delivers 29 ∷ Delivers 30
    ∷ Delivers 31 ∷ Delivers 32 ∷ Does (events.Crash 2) ∷ Does (events.Notice 2) ∷ [])

-- the source is to rebuild the tablet from both logs
target_crashed_row : phases_of target_crashed ≡ Rebuilding (member 1 0 ∷ member 2 0 ∷ []) 1 ∷ []
unfolding target_crashed overwritten granted filled hash_of spelled_of spelled_all spelled front_bytes body_length head_bytes held_bytes refused_bytes carried_bytes joined_bytes mark_of number_bytes key_bytes value_bytes range_bytes outcome_bytes end_bytes ends_bytes segments_bytes
target_crashed_row = refl

-- it gathers what backup 1 has of the target, merges it, and reports that
target_rebuilt : Scene
target_rebuilt =
    played target_crashed (
    Does (events.Turn nodes.Coordinator) ∷ Delivers 33 ∷ Does (events.Turn (nodes.Master 1)) ∷ Delivers 34
    ∷ Delivers 35 ∷ Does (events.Turn (nodes.Master 1)) ∷ Delivers 36 ∷ Delivers 37
    ∷ Does (events.Turn (nodes.Master 1)) ∷ Delivers 38 ∷ Delivers 39 ∷ Delivers 40 ∷ Delivers 41
    ∷ Does (events.Turn (nodes.Master 1)) ∷ Delivers 42 ∷ Delivers 43 ∷ [])

-- another client reads both records
target_reads : Scene
target_reads =
    played target_rebuilt (reading_both 44)

-- no acknowledged write is lost; the source owns the tablet again
target_reads_show : shown target_reads ≡ ((Found 3 y ∷ Found 2 x ∷ []), (Owned 1 0 ∷ []))
unfolding target_reads target_rebuilt target_crashed overwritten granted filled hash_of spelled_of spelled_all spelled front_bytes body_length head_bytes held_bytes refused_bytes carried_bytes joined_bytes mark_of number_bytes key_bytes value_bytes range_bytes outcome_bytes end_bytes ends_bytes segments_bytes entries_of entries_within read_entry read_kind read_body_length read_head read_tombstone read_object read_why read_refused read_carried read_joined read_mark read_number read_from read_key_length read_key read_value_length read_value read_range read_version read_absent read_tagged read_outcome read_end read_ends read_segment read_segments
target_reads_show = refl
