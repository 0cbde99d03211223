-- A sound and well formed lane that has room before and after it stays sound when a Copy reaches a master. A living master that awaits it
-- gathers the segment, since what is said of a Copy on the wire is all that this needs; and if that was the last one, what was gathered is
-- merged as one piece of its log.
use Rattle.std.proofs.Common.{Contains, List, None, Some, ap, eqb-true, false, not, refl, sym, true, ℕ, ◌&&◌, ◌==◌, ◌∙◌, ◌≡◌, Bool, Option}
use Rattle.std.proofs.Common.{cond, length, subst, All, ◌≤◌, inl, inr}
use Rattle.rk_transfer.specs.declared.role.Role.TheVariants as roles
use Rattle.rk_inv_base.proofs.Words.{CopyIn, CopySegment, IsOf, IsSound, Master, Member, Rebuilding, Row, Tablet, View, World, and_parts}
use Rattle.rk_inv_base.proofs.Words.{get, has_crashed, is_awaited, is_gathering, master_at, next_reading, segment_gathered, tablet_in, view}
use Rattle.rk_inv_base.proofs.Words.{with_master, Handover, Reading, as_entries, changed, cond-true, copy_taken, merging, rebuild_goes_on}
use Rattle.rk_inv_base.proofs.Words.{rebuilding_on, segment_gathered_in, tablet_at, to_master, with_all, with_gathered, worked_at}
use Rattle.rk_inv_base.proofs.Words.{All-weaker, HasRoom, IsFormedGathered, IsWellFormed, LAST_MAIN_SEGMENT, limits_of, cases_Bool}
use Rattle.rk_inv_tablets.proofs.merge.Heirs.{gathers_from}
use Rattle.rk_inv_events.proofs.Words.{MayGather, row_rebuilt, row_said, sound_gathered, MayMergeFormed, rebuild_merged_in, tablet_here}
use Rattle.rk_inv_events.proofs.Words.{AreReadable, master_same, view_gathered}
use Rattle.rk_inv_events.proofs.events.PostsOf.{gathering_row}
use Rattle.rk_inv_events.proofs.events.Duties.{fits_as, known}
use Rattle.rk_inv_events.proofs.events.RowsApart.{has_row}
use Rattle.rk_inv_events.specs.copies.Small.{awaits, copy_message, next_after}
use Rattle.rk_inv_tablets.proofs.merge.RebuildMerged.{sound_merged}
use Rattle.rk_inv_events.proofs.events.Working.{reached, sound_changed, reached_or_lost, stays}
use Rattle.rk_inv_events.proofs.orders.GoingOn.{ComesOf, carried_is, gathering_goes_on, merged_as, merges, HasFewSegments, IsSoundWhere}
use Rattle.rk_inv_events.proofs.orders.GoingOn.{few_worked, merge_room}
use Rattle.rk_inv_wellformed.proofs.masters.Rebuilding.{read_formed}
use Rattle.rk_inv_events.proofs.events.Coordinating.{rows_some}
use Rattle.rk_inv_events.proofs.events.Crashing.{gathered_formed, readable}

module _ (w : World) (number backup master : ℕ) (copy : CopySegment) (sound : IsSound w) (lives : has_crashed w master ≡ false)
    (there : get w.wire.messages number ≡ Some (copy_message backup master copy)) (awaited : awaits (master_at w master) copy ≡ true) where
  abbrev v : View
  v = view w

  abbrev own : Master
  own = master_at w master

  abbrev tablet : ℕ
  tablet = copy.tenure.tablet

  abbrev kept : Tablet
  kept = tablet_in w master copy.tenure.tablet

  -- what the test says: the master gathers, at the copy's term, and reads that segment next
  both : ((is_gathering kept.handover.role && (kept.handover.term == copy.tenure.term)) ≡ true) × (is_awaited (next_reading kept.gather) copy.master copy.segment ≡ true)
  both = and_parts (is_gathering kept.handover.role && (kept.handover.term == copy.tenure.term))
      (is_awaited (next_reading kept.gather) copy.master copy.segment) awaited

  pub gathers : (is_gathering kept.handover.role ≡ true) × ((kept.handover.term == copy.tenure.term) ≡ true)
  gathers = and_parts (is_gathering kept.handover.role) (kept.handover.term == copy.tenure.term) both.0

  role : (from : ℕ) × (kept.handover.role ≡ roles.Rebuilding from None)
  role = gathers_from kept.handover.role gathers.0

  -- what is said of the copy beside a row
  says : (row : Row) → Contains v.rows row → IsOf row copy.tenure → CopyIn row row.phase v.logs v.written v.stored v.live copy
  says row stands = row_said v sound row stands number (copy_message backup master copy) there

  may_gather_in : (row : Row) → Contains v.rows row → row.tablet ≡ tablet → MayGather v master tablet copy.master copy.segment copy.bytes
  may_gather_in row stands number_is =
      let its =
      gathering_row master role.0 row.term kept.handover.term (v.written master).applied row.phase
      (fits_as v sound master tablet (ap not lives) (roles.Rebuilding role.0 None) role.1 row stands (sym number_is)) in
      let rebuilder =
      (rw its.phase_is at (row_rebuilt v sound row stands)).0 (ap (λ (n : ℕ). (v.handovers master n).term) number_is ∙ its.term_is) in
      let lineage_is = sym (ap (λ (n : ℕ). (v.gathers master n).lineage) (sym number_is) ∙ rebuilder.gather.lineage_is) in
      let said : CopyIn row (Rebuilding its.lineage master) v.logs v.written v.stored v.live copy =
      rw its.phase_is at
      (says row stands
      (record { tablet = sym number_is; term = sym (eqb-true kept.handover.term copy.tenure.term gathers.1) ∙ its.term_is })) in
      record {
        lives = ap not lives;
        row = row;
        has_row = stands;
        tablet_is = number_is;
        phase_is = its.phase_is ∙ ap (λ (members : List Member). Rebuilding members master) lineage_is;
        term_is = its.term_is;
        gathering = gathers.0;
        awaited = both.1;
        read = rw lineage_is at said.1;
      }

  -- the tablet is that of a row, so the copy may be gathered
  may_gather : MayGather v master tablet copy.master copy.segment copy.bytes
  may_gather =
      let its = has_row v.rows tablet (known v sound master tablet (ap not lives) (roles.Rebuilding role.0 None) role.1 refl) in
      may_gather_in its.row its.stands its.tablet_is

  -- the lane is sound with what is gathered
  pub sound_with_copy : IsSound (with_master w master (segment_gathered own copy))
  sound_with_copy = sound_gathered w master copy sound may_gather

  -- ---- and goes on

  -- the master once the segment is gathered, and the lane with it
  abbrev now : Master
  now = segment_gathered (master_at w master) copy

  abbrev after : World
  after = segment_gathered_in w master copy

  here : tablet_at now tablet ≡ with_gathered kept copy
  here = tablet_here own tablet (with_gathered kept copy)

  gathers_now : is_gathering (tablet_at now tablet).handover.role ≡ true
  gathers_now =
      ap (λ (t : Tablet). is_gathering t.handover.role) here ∙ gathers.0

  -- what the master makes of the copy, if that is the last one
  pub last_is : next_after (master_at w master) copy ≡ None
      → copy_taken (master_at w master) copy ≡ merging now tablet (tablet_at now tablet) (merges tablet now) (Some (merged_as tablet now))
  last_is is =
      cond-true (awaits (master_at w master) copy) (rebuild_goes_on now tablet) (changed (master_at w master)) awaited
      ∙ ap (λ (next : Option Reading). rebuilding_on now tablet next) (ap (λ (t : Tablet). next_reading t.gather) here ∙ is)
      ∙ ap (λ (handover : Option Handover). merging now tablet (tablet_at now tablet) (merges tablet now) handover)
      (carried_is (tablet_at now tablet).handover (length (with_all now (as_entries (merges tablet now).copies)).log.entries)
      (merges tablet now).floor gathers_now)

  -- what is so once the rebuild has gone on is so once the master took the copy
  pub takes_as : (P : World → Type 0) → ComesOf w master tablet now P → P (worked_at w master 0 (changed now)).world
      → (next_after (master_at w master) copy ≡ None → P (rebuild_merged_in after master tablet))
      → P (worked_at w master 0 (copy_taken (master_at w master) copy)).world
  takes_as P comes stays merged =
      subst (λ (b : Bool). P (worked_at w master 0 (cond b (rebuild_goes_on now tablet) (changed (master_at w master)))).world) (sym awaited)
      (gathering_goes_on w master tablet now P comes gathers_now (next_reading (tablet_at now tablet).gather) stays
      (λ none. merged (ap (λ (t : Tablet). next_reading t.gather) (sym here) ∙ none)))

  pub sound_gathering : IsSound (worked_at w master 0 (changed now)).world
  sound_gathering = sound_changed w master 0 now sound_with_copy

  -- if something is left to read, it does no more
  pub sound_read_on : (reading : Reading) → next_after (master_at w master) copy ≡ Some reading
      → IsSound (to_master w master (copy_message backup master copy)).world
  sound_read_on reading is = reached w master 0 (copy_taken (master_at w master) copy) lives
      (takes_as IsSound (λ merged. merged) sound_gathering (λ none. absurd (cc (is, none))))

  pub sound_last : next_after (master_at w master) copy ≡ None → MayMergeFormed (view after) master tablet → IsSound (to_master w master (copy_message backup master copy)).world
  sound_last is may =
      reached w master 0 (copy_taken (master_at w master) copy) lives
      (takes_as IsSound (λ merged. merged) sound_gathering
      (λ none. sound_merged after master tablet sound_with_copy may))

  module _ (formed : IsWellFormed w) (room : HasRoom w) where
    -- the tablet once the segment is gathered
    there_after : tablet_in after master tablet ≡ with_gathered kept copy
    there_after = ap (λ (m : Master). tablet_at m tablet) (master_same w master now master refl) ∙ here

    few : All (λ gathered. length gathered.main ≤ LAST_MAIN_SEGMENT) (with_gathered kept copy).gather.members
    few =
        All-weaker (IsFormedGathered (limits_of w)) (λ gathered. length gathered.main ≤ LAST_MAIN_SEGMENT) (λ gathered its. its.few) (with_gathered kept copy).gather.members
        (read_formed (limits_of w) kept.gather.members copy.master copy.segment copy.bytes (formed.wire.each number _ there).says.spelled (gathered_formed w formed master tablet))

    -- it has all that the merge needs
    may_merge : next_after own copy ≡ None → HasFewSegments master (rebuild_merged_in after master tablet)
        → MayMergeFormed (view after) master tablet
    may_merge is fewer = record {
      may = record {
        lives = ap not lives;
        room = merge_room after master tablet sound_with_copy fewer;
        gathering = ap (λ (t : Tablet). is_gathering t.handover.role) there_after ∙ gathers.0;
        gathered = ap (λ (t : Tablet). next_reading t.gather) there_after ∙ is;
      };
      ranges = rows_some w formed;
      readable = subst (λ (u : View). AreReadable u.logs u.written) (sym (view_gathered w master tablet (with_gathered kept copy).gather))
          (readable w formed room);
      gathered = subst (λ (t : Tablet). All (λ gathered. length gathered.main ≤ LAST_MAIN_SEGMENT) t.gather.members) (sym there_after) few;
    }

    sound_copy : HasRoom (to_master w master (copy_message backup master copy)).world
        → IsSound (worked_at w master 0 (copy_taken own copy)).world
    sound_copy fits =
        takes_as (IsSoundWhere master) (λ merged. merged) (λ fewer. sound_gathering)
        (λ is fewer. sound_merged after master tablet sound_with_copy (may_merge is fewer))
        (few_worked w master 0 (copy_taken own copy) (rw lives at fits))

-- ---- it is delivered

-- a living master that does not await it does nothing
pub sound_passed : (w : World) (backup master : ℕ) (copy : CopySegment) → has_crashed w master ≡ false → IsSound w
    → awaits (master_at w master) copy ≡ false
    → IsSound (to_master w master (copy_message backup master copy)).world
sound_passed w backup master copy lives sound is =
    reached w master 0 (copy_taken (master_at w master) copy) lives (rw is (stays w master 0 sound))

-- a crashed master loses it
pub sound_taken : (w : World) (number backup master : ℕ) (copy : CopySegment) → IsSound w → IsWellFormed w → HasRoom w
    → get w.wire.messages number ≡ Some (copy_message backup master copy) → HasRoom (to_master w master (copy_message backup master copy)).world
    → IsSound (to_master w master (copy_message backup master copy)).world
sound_taken w number backup master copy sound formed room there fits =
    reached_or_lost w master 0 (copy_taken (master_at w master) copy) sound
    (λ lives. elim (cases_Bool (awaits (master_at w master) copy)) [
      | inl is ↦ sound_copy w number backup master copy sound lives there is formed room fits
      | inr is ↦ rw is (stays w master 0 sound)
    ])
