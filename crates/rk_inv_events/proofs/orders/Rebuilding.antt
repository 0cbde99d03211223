-- A sound and well formed lane stays sound when a living master takes a Rebuild: it begins to rebuild the tablet if the order's term is
-- above all that it keeps there, and merges at once if there is nothing to gather.
use Rattle.std.proofs.Common.{All, Contains, List, None, [], ap, arith, false, filter, length, map, not, refl, subst, sym, true, ℕ, ◌<◌}
use Rattle.std.proofs.Common.{◌==◌, ◌∙◌, ◌∷◌, ◌≡◌, ◌≤◌}
use Rattle.rk_message.specs.declared.message.Body.TheVariants as bodies
use Rattle.rk_world.specs.Gather.{unread}
use Rattle.rk_inv_base.proofs.Words.{All-nil, Gathered, Handover, HasLineage, HasRoom, IsRebuiltBy, IsSound, IsWellFormed}
use Rattle.rk_inv_base.proofs.Words.{LAST_MAIN_SEGMENT, Master, Member, Message, Phase, Rebuild, RebuildFits, Rebuilding, Row, Tablet, View}
use Rattle.rk_inv_base.proofs.Words.{Worked, World, beginning, changed, cond_both, has_crashed, is_gathering, is_greater, master_at}
use Rattle.rk_inv_base.proofs.Words.{next_reading, own_member, rebuild_begun, rebuild_taken, tablet_at, tablet_seen, to_master, view, worked_at}
use Rattle.rk_inv_tablets.proofs.merge.RebuildMerged.{sound_merged}
use Rattle.rk_inv_tablets.proofs.Headlines.{sound_begun}
use Rattle.rk_inv_tablets.proofs.ready.Begun.{view_begun_in}
use Rattle.rk_inv_tablets.specs.ready.Small.{as_begun, begins_from, begun, begun_tablets, others_given_up, rebuild_begun_in}
use Rattle.rk_inv_events.proofs.Words.{AreReadable, MayBegin, MayMergeFormed, master_same, put_here, rebuild_merged_in, row_said}
use Rattle.rk_inv_events.proofs.events.Coordinating.{rows_some}
use Rattle.rk_inv_events.proofs.events.Crashing.{readable}
use Rattle.rk_inv_events.proofs.events.RowsApart.{HasRow, has_row}
use Rattle.rk_inv_events.proofs.events.Working.{sound_changed, stays, taken}
use Rattle.rk_inv_events.proofs.orders.GoingOn.{HasFewSegments, IsSoundWhere, few_worked, gathering_goes_on, merge_room}
use Rattle.rk_inv_events.proofs.orders.Owning.{IsAboveAll, above_all}
use Rattle.rk_inv_events.specs.orders.Orders.{IsOrdered, order_to}

-- a row that is rebuilt by this master, of this lineage
phase_is : (phase : Phase) (lineage : List Member) (master : ℕ) → IsRebuiltBy phase master → HasLineage phase lineage → phase ≡ Rebuilding lineage master
phase_is (Rebuilding members to) lineage master by of = λ i. Rebuilding (of i) (by i)
phase_is _ lineage master by of = absurd by

-- no more main segments were read than there can be
abbrev AreFew : List Gathered → Type 0
AreFew members = All (λ gathered. length gathered.main ≤ LAST_MAIN_SEGMENT) members

unread_few : (members : List Member) → AreFew (map unread members)
unread_few [] = All-nil (λ gathered. length gathered.main ≤ LAST_MAIN_SEGMENT)
unread_few (member ∷ members) = grind (arith, (unread_few members))

module _ (w : World) (number master : ℕ) (rebuild : Rebuild) (sound : IsSound w) (formed : IsWellFormed w) (lives : has_crashed w master ≡ false) (ordered : IsOrdered w number master (bodies.Rebuild rebuild)) (room : HasRoom w) where
  abbrev v : View
  v = view w

  abbrev own : Master
  own = master_at w master

  abbrev message : Message
  message = order_to master (bodies.Rebuild rebuild)

  abbrev tablet : ℕ
  tablet = rebuild.tenure.tablet

  module _ (row : Row) (stands : Contains v.rows row) (same : row.tablet ≡ tablet) (all : IsAboveAll w master tablet rebuild.tenure.term rebuild.range) where
    says : RebuildFits row (v.handovers master row.tablet) (v.live master) master rebuild
    says = row_said v sound row stands number message ordered

    less : (v.handovers master row.tablet).term < rebuild.tenure.term
    less = rw same all.greater

    its : (rebuild.tenure.term ≡ row.term) × IsRebuiltBy row.phase master
    its = says.ordered (sym same) (ap not lives) less

    range_is : rebuild.range ≡ row.range
    range_is = says.range (record { tablet = sym same; term = its.0 })

    pub may_begin : MayBegin v row master rebuild
    may_begin = record {
      lives = ap not lives;
      has_row = stands;
      ordered = phase_is row.phase rebuild.lineage master its.1 (says.lineage (record { tablet = sym same; term = its.0 }));
      tablet_is = sym same;
      term_is = its.0;
      range_is = range_is;
      greater = rw its.0 at less;
      above = rw range_is at (rw its.0 at all.above);
    }

    sound_begins : IsSound (rebuild_begun_in w master rebuild)
    sound_begins = sound_begun w row master rebuild sound may_begin

    -- ---- and goes on

    abbrev after : World
    after = rebuild_begun_in w master rebuild

    abbrev now : Master
    now = rebuild_begun own rebuild

    here : master_at after master ≡ now
    here = master_same w master now master refl

    after_is : view after ≡ begun v master rebuild
    after_is = view_begun_in w master rebuild (sound.nodes.numbered master) all.greater

    abbrev begins : Tablet
    begins = as_begun master rebuild (begins_from v master (own_member rebuild.lineage master)) (tablet_seen v master tablet)

    there : begun_tablets v master rebuild tablet ≡ begins
    there = put_here (others_given_up (tablet_seen v master) tablet rebuild.range) tablet begins tablet refl

    gathers_there : is_gathering ((begun v master rebuild).handovers master tablet).role ≡ true
    gathers_there = ap (λ (handovers : ℕ → Handover). is_gathering (handovers tablet).role)
        (put_here v.handovers master (λ t. (begun_tablets v master rebuild t).handover) master refl)
        ∙ ap (λ (t : Tablet). is_gathering t.handover.role) there

    few_there : AreFew ((begun v master rebuild).gathers master tablet).members
    few_there = rw (put_here v.gathers master (λ t. (begun_tablets v master rebuild t).gather) master refl)
        (rw there (unread_few (filter (λ member. not (member.master == master)) rebuild.lineage)))

    gathers_now : is_gathering (tablet_at now tablet).handover.role ≡ true
    gathers_now = ap (λ (m : Master). is_gathering (tablet_at m tablet).handover.role) (sym here)
        ∙ ap (λ (u : View). is_gathering (u.handovers master tablet).role) after_is ∙ gathers_there

    may_merge : next_reading (tablet_at now tablet).gather ≡ None → HasFewSegments master (rebuild_merged_in after master tablet) → MayMergeFormed (view after) master tablet
    may_merge none few = record {
      may = record {
        lives = ap not lives;
        room = merge_room after master tablet sound_begins few;
        gathering = ap (λ (u : View). is_gathering (u.handovers master tablet).role) after_is ∙ gathers_there;
        gathered = ap (λ (m : Master). next_reading (tablet_at m tablet).gather) here ∙ none;
      };
      ranges = rows_some w formed;
      readable = subst (λ (u : View). AreReadable u.logs u.written) (sym after_is) (readable w formed room);
      gathered = subst (λ (u : View). AreFew (u.gathers master tablet).members) (sym after_is) few_there;
    }

    begins_and_goes_on : IsSoundWhere master (worked_at w master 0 (beginning own rebuild)).world
    begins_and_goes_on = gathering_goes_on w master tablet now (IsSoundWhere master) (λ merged. merged) gathers_now
        (next_reading (tablet_at now tablet).gather)
        (λ few. sound_changed w master 0 now sound_begins) (λ none few. sound_merged after master tablet sound_begins (may_merge none few))

  pub sound_rebuild : HasRoom (to_master w master message).world → IsSound (to_master w master message).world
  sound_rebuild fits =
      let its : HasRow v.rows tablet = has_row v.rows tablet (sound.cover.sent number message ordered) in
      taken w master (bodies.Rebuild rebuild) lives
      (cond_both (is_greater own tablet rebuild.tenure.term rebuild.range) (beginning own rebuild) (changed own)
      (λ (worked : Worked). IsSoundWhere master (worked_at w master 0 worked).world)
      (λ test. begins_and_goes_on its.row its.stands its.tablet_is (above_all w master tablet rebuild.tenure.term rebuild.range test))
      (λ test few. stays w master 0 sound) (few_worked w master 0 (rebuild_taken own rebuild) (rw lives at fits)))
