-- A sound and well formed lane stays sound when a living master takes a Grant: if it waits for the tablet at that term, it has in its log
-- what its source handed over, and pulls.
use Rattle.std.proofs.Common.{Contains, List, None, Option, Some, [], ap, arith, eqb-true, false, not, refl, sym, ℕ, ◌==◌, ◌∙◌, ◌∷◌, ◌≡◌}
use Rattle.rk_message.specs.declared.message.Body.TheVariants as bodies
use Rattle.rk_transfer.specs.declared.role.Role.TheVariants as roles
use Rattle.rk_inv_base.proofs.Words.{Grant, GrantAgrees, GrantIn, Handed, Handover, HasSegmentLeft, IsSound, IsWellFormed, Master, Member}
use Rattle.rk_inv_base.proofs.Words.{Message, Phase, Role, Row, View, World, false≢true, get, granted, granting, has_crashed, in_role}
use Rattle.rk_inv_base.proofs.Words.{is_member, is_wanting, lineage_of, log_in, master_at, post_of, to_master, view, worked_at}
use Rattle.rk_inv_tablets.proofs.Headlines.{sound_granted}
use Rattle.rk_inv_tablets.specs.grant.Moves.{MayGrantFormed}
use Rattle.rk_inv_tablets.specs.grant.Small.{as_granted, tablet_granted_in}
use Rattle.rk_inv_events.proofs.Words.{last_member, role_granted, row_said, tablet_granted}
use Rattle.rk_inv_events.proofs.events.Coordinating.{rows_some}
use Rattle.rk_inv_events.proofs.events.Duties.{fits_as}
use Rattle.rk_inv_events.proofs.events.PostsOf.{Fits, beside, has_post, invited, last_heir, outside, ready, takes}
use Rattle.rk_inv_events.proofs.events.RowsApart.{HasRow, has_row}
use Rattle.rk_inv_events.proofs.events.Working.{let_through, sound_changed, stays, taken}
use Rattle.rk_inv_events.specs.orders.Orders.{IsOrdered, order_to}

-- ---- what a grant finds

-- a role that waits for its grant, and what its handover becomes
record WasWaiting (old : Handover) (counter : ℕ) (role : Role) (new : Handover) : Type 0 where
  from : ℕ
  role_is : role ≡ roles.Wanting from
  new_is : new ≡ as_granted counter old

was_waiting : (old new : Handover) (counter : ℕ) (role : Role) → in_role (record old { counter = counter }) (role_granted role) ≡ Some new → WasWaiting old counter role new
was_waiting old new counter role is = grind arith

-- a grant is for the second of two members
record IsForSecond (lineage : List Member) (handed : Option Handed) (master : ℕ) (grant : Grant) : Type 0 where
  source : Member
  target : Member
  lineage_is : lineage ≡ source ∷ target ∷ []
  target_is : target.master ≡ master
  source_is : grant.source ≡ source.master
  told : handed ≡ Some (record { floor = grant.floor; ends = grant.ends })

for_second : (lineage : List Member) (handed : Option Handed) (master : ℕ) (grant : Grant) → GrantIn lineage handed master grant → IsForSecond lineage handed master grant
for_second lineage handed master grant its = grind arith

-- the place at which the second of two members waits is that of the lineage
place_is : (phase : Phase) (source target : Member) (from term own applied : ℕ) → lineage_of phase ≡ source ∷ target ∷ []
    → Fits (post_of phase target.master) (roles.Wanting from) term own applied → from ≡ target.from
place_is phase source target from term own applied =
    grind (arith, has_post, is_member, last_member, lineage_of, takes, last_heir, invited, ready, outside, false≢true, beside)

-- ---- the order

module _ (w : World) (number master : ℕ) (grant : Grant) (sound : IsSound w) (formed : IsWellFormed w) (lives : has_crashed w master ≡ false) (room : HasSegmentLeft (log_in w master)) (ordered : IsOrdered w number master (bodies.Grant grant)) where
  abbrev v : View
  v = view w

  abbrev own : Master
  own = master_at w master

  abbrev message : Message
  message = order_to master (bodies.Grant grant)

  abbrev tablet : ℕ
  tablet = grant.tenure.tablet

  abbrev old : Handover
  old = v.handovers master tablet

  module _ (row : Row) (stands : Contains v.rows row) (same : tablet ≡ row.tablet) where
    says : GrantAgrees row (v.handovers master row.tablet) (v.live master) (get v.handed row.tablet) master grant
    says = (row_said v sound row stands number message ordered).1

    -- a target that waits at the term may be granted the tablet
    module _ (at : old.term ≡ grant.tenure.term) (from : ℕ) (waits : old.role ≡ roles.Wanting from) where
      second : IsForSecond (lineage_of row.phase) (get v.handed row.tablet) master grant
      second = for_second (lineage_of row.phase) (get v.handed row.tablet) master grant
          (says.told same (ap not lives) (sym at ∙ ap (λ (n : ℕ). (v.handovers master n).term) same)
          (ap (λ (n : ℕ). is_wanting (v.handovers master n).role) (sym same) ∙ ap is_wanting waits))

      abbrev target : Member
      target = second.target

      -- what it has of the row's tablet
      has_role : (v.handovers target.master row.tablet).role ≡ roles.Wanting target.from
      has_role =
          ap (λ (m : ℕ). (v.handovers m row.tablet).role) second.target_is ∙ ap (λ (n : ℕ). (v.handovers master n).role) (sym same) ∙ waits
          ∙ ap roles.Wanting
          (place_is row.phase second.source target from row.term old.term (v.written master).applied second.lineage_is
          (rw second.target_is (fits_as v sound master tablet (ap not lives) (roles.Wanting from) waits row stands same)))

      may_grant : MayGrantFormed v row second.source target grant
      may_grant = record {
        may = record {
          lives = ap (λ (m : ℕ). v.live m) second.target_is ∙ ap not lives;
          has_row = stands;
          room = rw second.target_is room;
          lineage_is = second.lineage_is;
          waiting = has_role;
          term_is = sym at ∙ ap (λ (n : ℕ). (v.handovers master n).term) same
              ∙ ap (λ (m : ℕ). (v.handovers m row.tablet).term) (sym second.target_is);
          source_is = second.source_is;
          told = second.told;
        };
        tablet_is = same;
        rising = (formed.wire.each number message ordered).says.told.rising;
        ranges = rows_some w formed;
      }

      sound_there : IsSound (tablet_granted_in w master grant)
      sound_there = rw second.target_is at (sound_granted w row second.source target grant sound may_grant)

    grants : (moved : Option Handover) → granted old grant.tenure.term grant.floor ≡ moved → IsSound (worked_at w master 0 (granting own grant moved)).world
    grants None is = stays w master 0 sound
    grants (Some new) is =
        let held =
        let_through (old.term == grant.tenure.term) (in_role (record old { counter = grant.floor }) (role_granted old.role)) new is in
        let waiting = was_waiting old new grant.floor old.role held.1 in
        rw waiting.new_is
        (sound_changed w master 0 (tablet_granted own grant (as_granted grant.floor old))
        (sound_there (eqb-true old.term grant.tenure.term held.0) waiting.from waiting.role_is))

  pub sound_grant : IsSound (to_master w master message).world
  sound_grant =
      let its : HasRow v.rows tablet = has_row v.rows tablet (sound.cover.sent number message ordered) in
      taken w master (bodies.Grant grant) lives
      (grants its.row its.stands (sym its.tablet_is) (granted old grant.tenure.term grant.floor) refl)
