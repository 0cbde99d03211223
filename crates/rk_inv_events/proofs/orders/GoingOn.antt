-- What a rebuild of a living master that goes on leaves: while there is a segment to read nothing changes, and once all is gathered that is
-- merged, if the log has room.
use Rattle.std.proofs.Common.{None, Option, Some, [], ap, arith, length, refl, subst, sym, true, ℕ, ◌++◌, ◌<◌, ◌∙◌, ◌∷◌, ◌≡◌}
use Rattle.rk_world.specs.Rebuilds.{piece_of}
use Rattle.rk_inv_base.proofs.Words.{FIRST_SIDE_SEGMENT, Handover, HasRoom, IsSound, Ledger, Master, Merged, Reading, View, Worked}
use Rattle.rk_inv_base.proofs.Words.{World, as_entries, by_member, carried, changed, cut, get_same, insert, is_gathering, log_bytes, log_in}
use Rattle.rk_inv_base.proofs.Words.{merge, merging, own_material, own_place, rebuild_merged, rebuilding_on, tablet_at, view, with_all}
use Rattle.rk_inv_base.proofs.Words.{with_ledger, with_marks, with_master, worked_at}
use Rattle.rk_inv_tablets.proofs.merge.RebuildMerged.{merged_is}
use Rattle.rk_inv_events.proofs.Words.{as_merged, master_same, merge_in, piece_entries, put_here, rebuild_merged_in, role_carried}
use Rattle.rk_inv_events.proofs.Words.{segments_few, with_entries, within_sum_of}
use Rattle.rk_inv_events.proofs.events.Working.{moved_itself, put_again}

-- the log of a master has no more main segments than there can be
abbrev pub HasFewSegments : ℕ → World → Type 0
HasFewSegments master w = length (cut (log_in w master).entries) < FIRST_SIDE_SEGMENT

-- if that is so, the lane is sound
abbrev pub IsSoundWhere : ℕ → World → Type 0
IsSoundWhere master w = HasFewSegments master w → IsSound w

-- it is so after any work of a master that leaves room
pub few_worked : (w : World) (master seen : ℕ) (worked : Worked) → HasRoom (worked_at w master seen worked).world
    → HasFewSegments master (worked_at w master seen worked).world
few_worked w master seen worked room =
    let part = within_sum_of log_bytes (insert w.masters master worked.master) master worked.master (get_same w.masters master worked.master master refl) in
    let few = segments_few worked.master.log (omega (arith, room.bytes, part)) in
    subst (λ (m : Master). length (cut m.log.entries) < FIRST_SIDE_SEGMENT) (sym (master_same w master worked.master master refl)) (omega (arith, few))

-- a rebuild without its closing entry takes one
pub carried_is : (handover : Handover) (place floor : ℕ) → is_gathering handover.role ≡ true
    → carried handover handover.term place floor ≡ Some (as_merged place floor handover)
carried_is handover place floor gathers = grind (arith, moved_itself, role_carried, own_place, is_gathering)

-- what a master merges of a tablet, and its handover then
abbrev pub merges : ℕ → Master → Merged
merges tablet m = merge (own_material m (tablet_at m tablet)) (by_member (tablet_at m tablet).gather (own_material m (tablet_at m tablet)))

abbrev pub merged_as : ℕ → Master → Handover
merged_as tablet m = as_merged (length (with_all m (as_entries (merges tablet m).copies)).log.entries) (merges tablet m).floor
    (tablet_at m tablet).handover

module _ (w : World) (master tablet : ℕ) (now : Master) where
  abbrev before : World
  before = with_master w master now

  -- a master once it has merged, and the ledger then
  abbrev merged : Master → Master
  merged m = rebuild_merged m tablet (tablet_at m tablet) (merges tablet m) (merged_as tablet m)

  abbrev marked : Master → Ledger
  marked m = with_marks w.ledger (piece_of m tablet (merges tablet m) (merged_as tablet m) ∷ [])

  world_is : rebuild_merged_in before master tablet ≡ with_ledger (with_master w master (merged now)) (marked now)
  world_is = ap (λ (m : Master). with_ledger (with_master before master (merged m)) (marked m)) (master_same w master now master refl)
      ∙ ap (λ (u : World). with_ledger u (marked now)) (put_again w master now (λ m. merged now))

  -- so it is of the lane once it has worked
  abbrev pub ComesOf : (World → Type 0) → Type 0
  ComesOf P = P (with_ledger (with_master w master (merged now)) (marked now))
      → P (worked_at w master 0 (merging now tablet (tablet_at now tablet) (merges tablet now) (Some (merged_as tablet now)))).world

  -- while there is a segment to read nothing changes, and once all is gathered that is merged
  pub gathering_goes_on : (P : World → Type 0) → ComesOf P → is_gathering (tablet_at now tablet).handover.role ≡ true → (reading : Option Reading)
      → P (worked_at w master 0 (changed now)).world → (reading ≡ None → P (rebuild_merged_in before master tablet))
      → P (worked_at w master 0 (rebuilding_on now tablet reading)).world
  gathering_goes_on P comes is_so reading stays merges_then =
      grind (arith, worked_at, merging, tablet_at, carried_is, with_all, as_entries, world_is)

-- the log has room for what is merged if it has few segments then
pub merge_room : (w : World) (master tablet : ℕ) → IsSound w → HasFewSegments master (rebuild_merged_in w master tablet)
    → length (cut (((view w).logs master).entries ++ piece_entries ((view w).handovers master tablet) (merge_in (view w) master tablet)))
    < FIRST_SIDE_SEGMENT
merge_room w master tablet sound few =
    let u : View = view w in
    rw
    (ap (λ (x : View). x.logs master) (merged_is w master tablet (sound.nodes.numbered master))
    ∙ put_here u.logs master (with_entries (u.logs master) (piece_entries (u.handovers master tablet) (merge_in u master tablet)))
    master refl) at few
