-- What the coordinator may order: each row's duty, and what it sends an owner and a source, says just what its receiver may follow. So a
-- sound lane stays sound when the coordinator takes its turn, and sends each row's duty.
use Rattle.std.proofs.Common.{All, Bool, Contains, IfSome, List, None, Option, Some, [], ap, arith, cond, eq-eqb, eqb-true, false, inl, inr}
use Rattle.std.proofs.Common.{is_some, ne_eqb, refl, sym, true, ℕ, ◌==◌, ◌||◌, ◌∙◌, ◌≡◌, ◌≢◌, ◌≤◌}
use Rattle.rk_message.specs.declared.message.Body.TheVariants as bodies
use Rattle.rk_types.specs.declared.node.Node.TheVariants as nodes
use Rattle.rk_inv_base.proofs.Words.{All-nil, AsksFor, Bystander, Grant, GrantIn, Handed, Handover, HasLineage, HasSource, InvitedTarget}
use Rattle.rk_inv_base.proofs.Words.{IsClosing, IsMovingOrOwned, IsOwnedBy, IsOwnedByOther, IsOwner, IsRebuiltBy, IsSound, MaySend, Member}
use Rattle.rk_inv_base.proofs.Words.{Moving, Opening, OpeningSource, Owned, Owner, Phase, Prepare, Rebuilding, Row, SoundView, View, World}
use Rattle.rk_inv_base.proofs.Words.{and_parts, cases_eq, coordinator_turn, get, get_or, handed_by, is_member, is_waiting, is_waiting_at}
use Rattle.rk_inv_base.proofs.Words.{is_wanting, lineage_of, own_to, post_of, release_to, row_duty, row_of, row_tenure, view, with_sends}
use Rattle.rk_inv_events.proofs.Words.{SoundRow, role_fits, row_formed, row_in}
use Rattle.rk_inv_events.proofs.events.RowsApart.{apart_from, below_others, its_range_within, row_found, same_row, within_term}
use Rattle.rk_inv_events.proofs.events.Sending.{Hands, all_of_each, may_hand, may_send, one_sent, sound_all_sent}

module _ (v : View) (row : Row) (sound : SoundView v) (stands : Contains v.rows row) where
  -- what holds of the row holds of each other one of its number
  pub of_number : (P : Row → Type 0) (other : Row) → Contains v.rows other → P row → row.tablet ≡ other.tablet → P other
  of_number P other there holds same = rw (same_row v row sound stands other there (sym same)) holds

  there : is_some (row_of v.rows row.tablet) ≡ true
  there = row_found v.rows row stands

  -- a Close of the source
  pub may_close : (source sfrom target dfrom : ℕ) → row.phase ≡ Opening source sfrom target (Some dfrom)
      → MaySend v (record { from = nodes.Coordinator; to = nodes.Master source; body = bodies.Close (row_tenure row) })
  may_close source sfrom target dfrom is =
      let body = bodies.Close (row_tenure row) in
      may_send v nodes.Coordinator (nodes.Master source) body (λ row. refl) (there, tt)
      (λ other at. (
        record { within = within_term v row sound stands other at; below = tt },
        record {
          source = λ its. of_number (λ r. HasSource r.phase source) other at (rw is refl) its.tablet;
          may_follow = λ same lives less.
              inl
              (of_number (λ r. row.term ≡ r.term) other at refl same, of_number (λ r. IsClosing r.phase source) other at (rw is refl) same);
        },
      )) (tt, tt, tt)

  -- a Rebuild
  pub may_order_rebuild : (lineage : List Member) (to : ℕ) → row.phase ≡ Rebuilding lineage to
      → MaySend v (record { from = nodes.Coordinator; to = nodes.Master to; body = bodies.Rebuild (record { tenure = row_tenure row; range = row.range; lineage = lineage }) })
  may_order_rebuild lineage to is =
      let body = bodies.Rebuild (record { tenure = row_tenure row; range = row.range; lineage = lineage }) in
      may_send v nodes.Coordinator (nodes.Master to) body (λ row. refl) (there, its_range_within v row sound stands)
      (λ other at. (
        record { within = within_term v row sound stands other at; below = below_others v row sound stands other at },
        record {
          range = λ its. of_number (λ r. row.range ≡ r.range) other at refl its.tablet;
          lineage = λ its. of_number (λ r. HasLineage r.phase lineage) other at (rw is refl) its.tablet;
          ordered = λ same lives less.
              (of_number (λ r. row.term ≡ r.term) other at refl same, of_number (λ r. IsRebuiltBy r.phase to) other at (rw is refl) same);
        },
      )) (tt, tt, tt)

  -- a Prepare of the target
  module _ (source sfrom target : ℕ) (is : row.phase ≡ Opening source sfrom target None) where
    abbrev preparing : Prepare
    preparing = record { tenure = row_tenure row; range = row.range }

    differ : source ≢ target
    differ = rw is at (row_formed v sound row stands)

    invited : post_of row.phase target ≡ InvitedTarget
    invited = ap (λ (phase : Phase). post_of phase target) is
        ∙ ap (λ (b : Bool). cond b OpeningSource (cond (target == target) InvitedTarget Bystander)) (ne_eqb source target differ)
        ∙ ap (λ (b : Bool). cond b InvitedTarget Bystander) (eq-eqb target target refl)

    no_member : is_member (lineage_of row.phase) target ≡ true → ⊥
    no_member member =
        let e = ap (λ (phase : Phase). is_member (lineage_of phase) target) (sym is) ∙ member in
        absurd (cc (ap (λ (b : Bool). b || false) (sym (ne_eqb source target differ)), e))

    asks_none : (other : Row) → Contains v.rows other → AsksFor preparing other → is_member (lineage_of other.phase) target ≡ true → ⊥
    asks_none other at asks member = elim (cases_eq other.tablet row.tablet) [
      | inl same ↦ no_member (rw (same_row v row sound stands other at same) at member)
      | inr differs ↦
          elim asks [ inl its ↦ differs (sym its) | inr meeting ↦ absurd (cc (apart_from v row sound stands other at differs, meeting)) ]
    ]

    pub may_order_prepare : MaySend v (record { from = nodes.Coordinator; to = nodes.Master target; body = bodies.Prepare preparing })
    may_order_prepare = may_send v nodes.Coordinator (nodes.Master target) (bodies.Prepare preparing) (λ row. refl)
        (there, its_range_within v row sound stands)
        (λ other at. (
          record { within = within_term v row sound stands other at; below = below_others v row sound stands other at },
          record {
            range = λ its. of_number (λ r. row.range ≡ r.range) other at refl its.tablet;
            invited = λ its lives less. of_number (λ r. post_of r.phase target ≡ InvitedTarget) other at invited its.tablet;
            members = λ asks lives member. absurd (asks_none other at asks member);
          },
        )) (tt, tt, tt)

-- ---- a row that is owned

module _ (v : View) (row : Row) (sound : SoundView v) (stands : Contains v.rows row) (master from : ℕ) (is : row.phase ≡ Owned master from) where
  post : post_of row.phase master ≡ Owner from
  post = ap (λ (phase : Phase). post_of phase master) is ∙ ap (λ (b : Bool). cond b (Owner from) Bystander) (eq-eqb master master refl)

  keeps_term : v.live master ≡ true → (v.handovers master row.tablet).term ≡ row.term
  keeps_term lives = grind (arith, role_fits, post)

  -- an Own of the owner
  pub may_own : MaySend v (own_to master row)
  may_own =
      let body = bodies.Own (row_tenure row) in
      may_send v nodes.Coordinator (nodes.Master master) body (λ row. refl) (row_found v.rows row stands, tt)
      (λ other at. (
        record { within = within_term v row sound stands other at; below = tt },
        record {
          owned = λ its. of_number v row sound stands (λ r. IsOwnedBy r.phase master) other at (rw is refl) its.tablet;
          reached = λ same lives.
              of_number v row sound stands (λ r. row.term ≤ (v.handovers master r.tablet).term) other at (omega (arith, keeps_term lives))
              same;
          owner = λ same lives at_term.
              of_number v row sound stands (λ r. IsOwner (post_of r.phase master) (v.handovers master r.tablet).term r.term) other at
              (rw post tt) same;
        },
      )) (tt, tt, tt)

  -- a Release of another master
  pub may_release : (other : ℕ) → master ≢ other → MaySend v (release_to other row)
  may_release former differs =
      let body = bodies.Release (row_tenure row) in
      may_send v nodes.Coordinator (nodes.Master former) body (λ row. refl) (row_found v.rows row stands, tt)
      (λ other at. (
        record { within = within_term v row sound stands other at; below = tt },
        record {
          owned = λ its. of_number v row sound stands (λ r. IsOwnedByOther r.phase former) other at (rw is differs) its.tablet;
          outside = λ same lives less.
              of_number v row sound stands (λ r. is_member (lineage_of r.phase) former ≡ false) other at
              (ap (λ (phase : Phase). is_member (lineage_of phase) former) is
              ∙ ap (λ (b : Bool). b || false) (ne_eqb master former differs)) same;
        },
      )) (tt, tt, tt)

-- ---- a Grant, for a row that moves

-- who waits for a grant at a term waits
waits : (second : Option Handover) (term : ℕ) → is_waiting_at second term ≡ true → is_waiting second ≡ true
waits None term is = absurd (cc is)
waits (Some handover) term is = (and_parts (is_wanting handover.role) (handover.term == term) is).0

module _ (v : View) (row : Row) (sound : SoundView v) (stands : Contains v.rows row) (source sfrom target dfrom : ℕ) (is : row.phase ≡ Moving source sfrom target dfrom) where
  abbrev handed : Handed
  handed = get_or (record { floor = 1; ends = [] }) v.handed row.tablet

  abbrev granting : Grant
  granting = record { tenure = row_tenure row; source = source; floor = handed.floor; ends = handed.ends }

  own : SoundRow v row
  own = row_in v sound row stands

  -- both keep the row's term
  at_term : ((v.handovers source row.tablet).term ≡ row.term) × ((v.handovers target row.tablet).term ≡ row.term)
  at_term = rw is at own.roles.at_term

  -- so what is noted is what the source has
  noted : get v.handed row.tablet ≡ Some handed
  noted = grind (arith, lineage_of, own, at_term)

  -- what the Grant hands over to the row, if its target waits for it
  hands_over : (other : Row) → Contains v.rows other → IfSome (handed_by other v.handovers (bodies.Grant granting)) (Hands v other)
  hands_over other at =
      grind (arith, eqb-true)

  may_order_grant : MaySend v (record { from = nodes.Coordinator; to = nodes.Master target; body = bodies.Grant granting })
  may_order_grant =
      may_hand v nodes.Coordinator (nodes.Master target) (bodies.Grant granting) hands_over (row_found v.rows row stands, tt)
      (λ other at. (
        record { within = within_term v row sound stands other at; below = tt },
        (
          λ its. of_number v row sound stands (λ r. IsMovingOrOwned r.phase) other at (rw is tt) its.tablet,
          record {
            reached = λ same lives.
                of_number v row sound stands (λ r. row.term ≤ (v.handovers target r.tablet).term) other at (omega (arith, at_term.1))
                same;
            told = λ same lives term wanting.
                of_number v row sound stands (λ r. GrantIn (lineage_of r.phase) (get v.handed r.tablet) target granting) other at
                (rw is (refl, refl, noted)) same;
          },
        ),
      )) (tt, tt, tt)

-- ---- the turn

-- the duty of a row
module _ (w : World) (row : Row) (sound : IsSound w) (stands : Contains w.coordinator.rows row) where
  duty_may : (phase : Phase) → row.phase ≡ phase → All (MaySend (view w)) (row_duty w.coordinator row phase)
  duty_may (Owned master from) is = All-nil (MaySend (view w))
  duty_may (Opening source sfrom target None) is = one_sent (view w) _ (may_order_prepare (view w) row sound stands source sfrom target is)
  duty_may (Opening source sfrom target (Some dfrom)) is = one_sent (view w) _ (may_close (view w) row sound stands source sfrom target dfrom is)
  duty_may (Moving source sfrom target dfrom) is = one_sent (view w) _ (may_order_grant (view w) row sound stands source sfrom target dfrom is)
  duty_may (Rebuilding lineage to) is = one_sent (view w) _ (may_order_rebuild (view w) row sound stands lineage to is)

pub sound_coordinator_turn : (w : World) → IsSound w → IsSound (with_sends w (coordinator_turn w.coordinator)).world
sound_coordinator_turn w sound =
    search (sound_all_sent, coordinator_turn, all_of_each, view, row_duty, duty_may, w.coordinator, w.coordinator.rows)
