-- A sound lane stays sound when a living master takes a Prepare: it makes ready if the order's term is above all that it keeps there, and
-- says so; and a master that made ready at that term says so again.
use Rattle.std.proofs.Common.{Contains, ap, arith, eqb-true, false, inl, inr, length, not, refl, subst, sym, true, ℕ, ◌<◌, ◌==◌, ◌∙◌, ◌≡◌}
use Rattle.std.proofs.Common.{◌≤◌}
use Rattle.rk_message.specs.declared.message.Body.TheVariants as bodies
use Rattle.rk_transfer.specs.declared.role.Role.TheVariants as roles
use Rattle.rk_types.specs.declared.node.Node.TheVariants as nodes
use Rattle.rk_inv_base.proofs.Words.{AsksFor, Handover, IsBelowOthers, IsSound, Master, MaySend, Message, Prepare, PrepareFits, Range, Role}
use Rattle.rk_inv_base.proofs.Words.{Row, SentFits, Tablet, View, Worked, World, changed, cond_both, has_crashed, is_greater, is_member}
use Rattle.rk_inv_base.proofs.Words.{lineage_of, log_in, master_at, meets, preparing, ready, ready_again, sending, tablet_prepared}
use Rattle.rk_inv_base.proofs.Words.{tablet_seen, to_master, view, with_handover, without_merged, worked_at}
use Rattle.rk_inv_tablets.proofs.Headlines.{sound_prepared}
use Rattle.rk_inv_tablets.proofs.ready.Prepared.{view_prepared, view_prepared_in}
use Rattle.rk_inv_tablets.specs.ready.Small.{as_wanting, others_given_up, prepared, prepared_tablets}
use Rattle.rk_inv_events.proofs.Words.{MayPrepare, all_by, put_here, row_in, row_ranged, row_said}
use Rattle.rk_inv_events.proofs.events.RowsApart.{HasRow, has_row}
use Rattle.rk_inv_events.proofs.events.Working.{sound_sending, stays, stays_sending, taken}
use Rattle.rk_inv_events.proofs.orders.Owning.{IsAboveAll, above_all, may_tell_ready}
use Rattle.rk_inv_events.specs.orders.Orders.{IsOrdered, order_to}

-- a Ready from a master with this number, at this term
abbrev ready_from : ℕ → ℕ → ℕ → ℕ → Message
ready_from sender tablet term place = record {
  from = nodes.Master sender;
  to = nodes.Coordinator;
  body = bodies.Ready (record { tenure = record { tablet = tablet; term = term }; place = place });
}

module _ (w : World) (number master : ℕ) (prepare : Prepare) (sound : IsSound w) (lives : has_crashed w master ≡ false) (ordered : IsOrdered w number master (bodies.Prepare prepare)) where
  abbrev v : View
  v = view w

  abbrev own : Master
  own = master_at w master

  abbrev tablet : ℕ
  tablet = prepare.tenure.tablet

  abbrev term : ℕ
  term = prepare.tenure.term

  abbrev old : Handover
  old = v.handovers master tablet

  abbrev message : Message
  message = order_to master (bodies.Prepare prepare)

  says : (row : Row) → Contains v.rows row → PrepareFits row (v.handovers master row.tablet) (v.live master) master prepare
  says row stands = row_said v sound row stands number message ordered

  fits : (row : Row) → Contains v.rows row → SentFits row (bodies.Prepare prepare)
  fits row stands = (row_in v sound row stands).terms number message ordered

  -- ---- its term is above all that the master keeps there

  module _ (row : Row) (stands : Contains v.rows row) (same : row.tablet ≡ tablet) (all : IsAboveAll w master tablet term prepare.range) where
    greater : (v.handovers master row.tablet).term < term
    greater = rw same all.greater

    -- a member of a row that it asks for would keep as great a term
    outside : (other : Row) → Contains v.rows other → AsksFor prepare other → is_member (lineage_of other.phase) master ≡ true → ⊥
    outside other there asks member =
        let kept : term ≤ (v.handovers master other.tablet).term = (says other there).members asks (ap not lives) member in
        elim asks [
          | inl its ↦
              let less : (v.handovers master other.tablet).term < term = rw its at all.greater in
              absurd (omega (arith, kept, less))
          | inr met ↦
              let ranged = row_ranged v sound other there master (inl (ap not lives)) member in
              let less = all.above other.tablet (ap (λ (range : Range). meets range prepare.range) ranged ∙ met) in
              absurd (omega (arith, kept, less))
        ]

    may_prepare : MayPrepare v row master prepare
    may_prepare = record {
      lives = ap not lives;
      has_row = stands;
      tablet_is = sym same;
      greater = greater;
      above = all.above;
      within = (fits row stands).within same;
      invited = λ at. (
        (says row stands).invited (record { tablet = sym same; term = at }) (ap not lives) (omega (arith, greater, at)),
        (says row stands).range (record { tablet = sym same; term = at }),
      );
      covered = sound.cover.ordered number message ordered;
      below = all_by (λ other. IsBelowOthers other row.tablet term prepare.range) v.rows (λ other there. rw same (fits other there).below);
      outside = all_by (λ other. AsksFor prepare other → is_member (lineage_of other.phase) master ≡ true → ⊥) v.rows outside;
    }

    -- where its own entries begin
    abbrev place : ℕ
    place = length (log_in w master).entries

    -- it waits then, and says so
    abbrev after : View
    after = prepared v master prepare

    waits : after.handovers master tablet ≡ as_wanting term prepare.range place old
    waits = ap (λ (handovers : ℕ → Handover). handovers tablet)
        (put_here v.handovers master (λ number. (prepared_tablets v master prepare number).handover) master refl)
        ∙ ap (λ (t : Tablet). t.handover)
        (put_here (others_given_up (tablet_seen v master) tablet prepare.range) tablet
        (without_merged (with_handover (tablet_seen v master tablet) (as_wanting term prepare.range place old))) tablet refl)

    may_report : MaySend after (ready own prepare.tenure place)
    may_report =
        subst (MaySend after) (λ i. ready_from (sym (sound.nodes.numbered master) i) tablet (ap (λ (h : Handover). h.term) waits i) place)
        (may_tell_ready after (view_prepared v row master prepare sound may_prepare) master tablet (ap not lives) place
        (ap (λ (h : Handover). h.role) waits))

    prepares : IsSound (worked_at w master 0 (preparing own prepare)).world
    prepares = sound_sending w master 0 (tablet_prepared own prepare) (ready own prepare.tenure place)
        (sound_prepared w row master prepare sound may_prepare) (rw (view_prepared_in w master prepare all.greater) may_report)

  -- ---- it made ready before

  -- it may say so again
  may_repeat : (from : ℕ) → old.role ≡ roles.Wanting from → old.term ≡ term → MaySend v (ready own prepare.tenure from)
  may_repeat from is at = subst (MaySend v) (λ i. ready_from (sym (sound.nodes.numbered master) i) tablet (at i) from)
      (may_tell_ready v sound master tablet (ap not lives) from is)

  repeats : (role : Role) → old.role ≡ role → IsSound (worked_at w master 0 (ready_again own prepare.tenure role old.term)).world
  repeats (roles.Wanting from) is = cond_both (old.term == term) (sending own (ready own prepare.tenure from)) (changed own)
      (λ (worked : Worked). IsSound (worked_at w master 0 worked).world)
      (λ at. stays_sending w master 0 (ready own prepare.tenure from) sound (may_repeat from is (eqb-true old.term term at)))
      (λ differs. stays w master 0 sound)
  repeats _ is = stays w master 0 sound

  pub sound_prepare : IsSound (to_master w master message).world
  sound_prepare =
      let its : HasRow v.rows tablet = has_row v.rows tablet (sound.cover.sent number message ordered) in
      taken w master (bodies.Prepare prepare) lives
      (cond_both (is_greater own tablet term prepare.range) (preparing own prepare) (ready_again own prepare.tenure old.role old.term)
      (λ (worked : Worked). IsSound (worked_at w master 0 worked).world)
      (λ test. prepares its.row its.stands its.tablet_is (above_all w master tablet term prepare.range test))
      (λ test. repeats old.role refl))
