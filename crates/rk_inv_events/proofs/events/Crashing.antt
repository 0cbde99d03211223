-- A sound and well formed lane with room stays sound when a master crashes while another one lives.
use Rattle.std.proofs.Common.{All, arith, eq-eqb, flat_map, length, not, true, ℕ, ◌&&◌, ◌==◌, ◌≡◌, ◌≤◌}
use Rattle.rk_world.specs.Runs.{lives_another}
use Rattle.rk_world.specs.World.{with_crash}
use Rattle.rk_inv_base.proofs.Words.{All-contains, All-nil, All-weaker, Any-from_list_any, HasRoom, HasSegmentLeft, IsFormedEntry}
use Rattle.rk_inv_base.proofs.Words.{IsFormedGathered, IsFormedHeld, IsLawfulEntry, IsLawfulHeld, IsMaster, IsSound, IsWellFormed}
use Rattle.rk_inv_base.proofs.Words.{LAST_MAIN_SEGMENT, World, and_parts, limits_of, lives, master_at, range_with_len, tablet_at, view}
use Rattle.rk_inv_wellformed.proofs.lanes.Backups.{lawful_of}
use Rattle.rk_inv_tablets.proofs.Headlines.{sound_crashed}
use Rattle.rk_inv_events.proofs.Words.{AreReadable, MayCrash, room_of_master, segments_few}
use Rattle.rk_inv_events.proofs.events.Coordinating.{masters_from, of_master, of_tablet, rows_some}

module _ (w : World) (formed : IsWellFormed w) where
  pub entries_lawful : (q : ℕ) → All IsLawfulEntry (master_at w q).log.entries
  entries_lawful q = of_master w formed (λ m. All IsLawfulEntry m.log.entries) q (All-nil IsLawfulEntry)
      (λ m is its. All-weaker (IsFormedEntry (limits_of w)) IsLawfulEntry (λ entry it. lawful_of (limits_of w) entry it) m.log.entries its.written)

  pub items_lawful : (q : ℕ) → All IsLawfulHeld (flat_map (λ items. items) (master_at w q).sides)
  items_lawful q = of_master w formed (λ m. All IsLawfulHeld (flat_map (λ items. items) m.sides)) q (All-nil IsLawfulHeld)
      (λ m is its. All-weaker (IsFormedHeld (limits_of w)) IsLawfulHeld (λ held it. it.lawful) (flat_map (λ items. items) m.sides) its.items)

  pub gathered_formed : (q tablet : ℕ) → All (IsFormedGathered (limits_of w)) (tablet_at (master_at w q) tablet).gather.members
  gathered_formed q tablet = of_tablet w formed (λ t. All (IsFormedGathered (limits_of w)) t.gather.members) q tablet
      (All-nil (IsFormedGathered (limits_of w))) (λ m its t is. (its.tablets tablet t is).gathered)

  pub gathered_few : (q tablet : ℕ) → All (λ gathered. length gathered.main ≤ LAST_MAIN_SEGMENT) (tablet_at (master_at w q) tablet).gather.members
  gathered_few q tablet = All-weaker (IsFormedGathered (limits_of w)) (λ gathered. length gathered.main ≤ LAST_MAIN_SEGMENT)
      (λ gathered read. read.few) (tablet_at (master_at w q) tablet).gather.members (gathered_formed q tablet)

module _ (w : World) (formed : IsWellFormed w) (room : HasRoom w) where
  pub segments_left : (q : ℕ) → HasSegmentLeft (master_at w q).log
  segments_left q = of_master w formed (λ m. HasSegmentLeft m.log) q (omega arith) (λ m is its.
      let fits = room_of_master w q m is formed.standing room in segments_few m.log (omega (arith, fits.bytes)))

  pub readable : AreReadable (view w).logs (view w).written
  readable = record { entries = entries_lawful w formed; items = items_lawful w formed; room = segments_left }

  -- another master lives
  another_lives : (master : ℕ) → lives_another w master ≡ true → MayCrash (view w) master
  another_lives master calm =
      let found = Any-from_list_any (λ (other : ℕ). lives w other && not (other == master)) (range_with_len 1 w.coordinator.masters) calm in
      let parts = and_parts (lives w found.1) (not (found.1 == master)) found.4 in
      record {
        other = found.1;
        there = All-contains (IsMaster w.coordinator.masters) (range_with_len 1 w.coordinator.masters) found.1
            (masters_from 1 w.coordinator.masters w.coordinator.masters (omega arith) (omega arith)) (found.0, found.2, found.3);
        another = λ same. absurd (cc (parts.1, eq-eqb found.1 master same));
        lives = parts.0;
      }

  pub sound_crash : (master : ℕ) → IsSound w → lives_another w master ≡ true → IsSound (with_crash w master)
  sound_crash master sound calm = search (sound_crashed, another_lives, rows_some, readable, gathered_few)
