-- The laws of replays and of side segments, over definitions.
use Rattle.std.specs.Prelude.{◌≡◌, ℕ, ◌+◌, ◌<◌, ◌≤◌, List, [], length, Some, slice_index_or}
use Rattle.std.specs.List.{All, flat_map}
use Rattle.std.proofs.lemmas.List.Elements.{All-nil}
use Rattle.std.proofs.Common.{add-one}
use Rattle.rk_types.specs.NumberMap.{IsInOrder, get}
use Rattle.rk_types.specs.declared.held.Held.{Held}
use Rattle.rk_types.specs.declared.held.TheConstants.{SEGMENT_BYTES}
use Rattle.rk_entry.specs.Lawful.{IsLawfulHeld}
use Rattle.rk_world.specs.Master.{Master}
use Rattle.rk_world.specs.Pulls.{replay}
use Rattle.rk_world.specs.SideLogs.{cut_items}
use Rattle.rk_world.specs.Tablet.{Tablet}
use Rattle.rk_side_log.specs.Replayed.{master_with, side_replayed}
use Rattle.rk_side_log.specs.Spelled.{spelled_items}
use Rattle.rk_side_log.proofs.CutItems.{whole_after, some_after, size, within_after, packed_after, packed_at}
use Rattle.rk_side_log.proofs.Words.{arith}

-- On a master that has the tablet, a replay is one into the master's records and the items of a worker of the tablet;
-- all else stays.
pub replay_on_a_master : (master : Master) (number worker : ℕ) (tablet : Tablet) (items : List Held) → IsInOrder master.tablets
    → get master.tablets number ≡ Some tablet → worker < length tablet.pulling.sides → replay master number worker items
    ≡ master_with master number tablet worker (side_replayed master.records (slice_index_or tablet.pulling.sides worker []) items)
replay_on_a_master = Rattle.rk_side_log.proofs.Masters.replay_is

-- The side segments that items fill have all of them, in order. None is empty; none is too long, if the items are
-- lawful; and two that follow one another have more bytes together than a segment may have.
pub side_segments_have_all_items : (items : List Held) → flat_map (λ segment. segment) (cut_items items) ≡ items
side_segments_have_all_items items = whole_after [] items

pub no_side_segment_is_empty : (items : List Held) → All (λ segment. 0 < length segment) (cut_items items)
no_side_segment_is_empty items = some_after [] items (All-nil (λ (s : List Held). 0 < length s))

pub no_side_segment_is_too_long : (items : List Held) → All IsLawfulHeld items
    → All (λ segment. length (spelled_items segment) ≤ SEGMENT_BYTES) (cut_items items)
no_side_segment_is_too_long items lawful = within_after [] items lawful (All-nil (λ (s : List Held). size s ≤ SEGMENT_BYTES))

pub side_segments_are_packed : (items : List Held) (place : ℕ) → place + 1 < length (cut_items items) → SEGMENT_BYTES
    < length (spelled_items (slice_index_or (cut_items items) place [])) + length (spelled_items (slice_index_or (cut_items items) (place + 1) []))
side_segments_are_packed items place h = grind (arith, cut_items, add-one, packed_at, packed_after)
