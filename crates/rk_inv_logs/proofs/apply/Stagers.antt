-- Whose calls may be staged for a row: those of the one master that speaks for it. While that may have some, no grant is awaited, and no
-- Transfer counts.
use Rattle.std.proofs.Common.{◌≡◌, ℕ, Bool, true, false, ◌&&◌, cond, eqb, List, Some, None, refl, eqb-true}
use Rattle.std.proofs.Common.{Contains, Option, arith, eq-eqb, ne_eqb}
use Rattle.rk_inv_base.proofs.Words.{false≢true, and_right, cond-false, Member, Node, Role, lineage_of, Phase, Row, Transfer, Body, Handed}
use Rattle.rk_inv_base.proofs.Words.{last_of, second_of, is_absent, may_have_staged, handed_by, is_opening, is_waiting, is_waiting_at}
use Rattle.rk_inv_base.proofs.Words.{is_wanting, second_has, SaysOf, TransferIn, bond_of, Holds, AreApart, View, rebuilder_post}
use Rattle.rk_inv_logs.proofs.Words.{contains_cases, speaker_of, waiting_at}
use Rattle.rk_types.specs.declared.node.Node.TheVariants as nodes
use Rattle.rk_transfer.specs.declared.role.Role.TheVariants as roles
use Rattle.rk_message.specs.declared.message.Body.TheVariants as bodies

-- ---- roles

-- a role with staged calls is not absent, not idle and waits for no grant
pub staging_present : (role : Role) → may_have_staged role ≡ true → is_absent role ≡ false
staging_present roles.Absent stages = absurd (cc)
staging_present role stages = refl

pub staging_wants : (role : Role) → may_have_staged role ≡ true → is_wanting role ≡ false
staging_wants (roles.Wanting from) stages = absurd (cc)
staging_wants role stages = refl

-- ---- who rebuilds

-- a member that rebuilds at the row's term begins at its own place
pub rebuilder_from : (lineage : List Member) (q term own applied from : ℕ) (closing : Option ℕ) → AreApart lineage → own ≡ term → Holds (bond_of (rebuilder_post lineage q) (roles.Rebuilding from closing)) term own applied → (member : Member) → Contains lineage member → member.master ≡ q → from ≡ member.from
rebuilder_from lineage q term own applied from closing apart at holds member there here =
    grind (arith, contains_cases, eq-eqb, bond_of, ne_eqb)

-- ---- what is handed over

module _ (v : View) (row : Row) (last : Member) (stages : may_have_staged (v.handovers last.master row.tablet).role ≡ true) where
  -- no second member waits for its grant
  pub none_waits : (lineage : List Member) → AreApart lineage → last_of lineage ≡ Some last → is_waiting (second_has v.handovers row (second_of lineage)) ≡ false
  none_waits lineage apart is = grind (arith, staging_wants, may_have_staged)

  -- and no Transfer counts
  opens_not : (phase : Phase) (sender : ℕ) (transfer : Transfer) (tablet term : Bool) (given : Handed) → last.master ≡ speaker_of phase
      → (tablet ≡ true → term ≡ true → TransferIn phase (v.handovers sender row.tablet) (v.completions sender row.tablet) row.term sender transfer)
      → cond (is_opening phase && tablet && term) (Some given) None ≡ None
  opens_not phase sender transfer tablet term given speaks says = grind (arith, may_have_staged, false≢true)

  -- so no message hands anything over for the row
  abbrev Says : Node → Node → Body → Type 0
  Says = SaysOf row v.logs v.written v.stored v.handovers v.completions v.merged v.live v.handed

  pub none_hands : (from to : Node) (body : Body) → Says from to body → AreApart (lineage_of row.phase) → last_of (lineage_of row.phase) ≡ Some last → last.master ≡ speaker_of row.phase → handed_by row v.handovers body ≡ None
  none_hands (nodes.Master sender) to (bodies.Transfer transfer) says apart is speaks =
      grind (arith, opens_not, eqb, eqb-true, transfer.tenure.tablet, transfer.tenure.term, transfer.floor, transfer.ends)
  none_hands (nodes.Client client) to (bodies.Transfer transfer) says apart is speaks = absurd says
  none_hands nodes.Coordinator to (bodies.Transfer transfer) says apart is speaks = absurd says
  none_hands (nodes.Backup backup) to (bodies.Transfer transfer) says apart is speaks = absurd says
  none_hands from to (bodies.Grant grant) says apart is speaks =
      grind (
        arith,
        cond-false,
        and_right,
        eqb,
        is_waiting_at,
        second_has,
        second_of,
        lineage_of,
        waiting_at,
        none_waits,
        grant.floor,
        grant.ends,
        grant.tenure.tablet,
        grant.tenure.term,
      )
  none_hands from to _ says apart is speaks = refl
