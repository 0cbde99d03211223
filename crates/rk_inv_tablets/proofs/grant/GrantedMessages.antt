-- What messages say of a row whose target is granted its tablet: it takes a Grant no more, and no report says that it waited.
use Rattle.std.proofs.Common.{arith, ◌≡◌, ℕ, false, List, sym}
use Rattle.rk_inv_base.proofs.Words.{false≢true, Ended, Node, Completions, Handover, Phase, Opening, Transfer, Body, Rebuilt, Written}
use Rattle.rk_inv_base.proofs.Words.{is_opening, JoinedIn, ReadyIn, RebuiltIn, TransferIn, View}
use Rattle.rk_inv_tablets.proofs.Words.{tablet_seen, SaysIn}
use Rattle.rk_transfer.specs.declared.role.Role.TheVariants as roles
use Rattle.rk_inv_tablets.proofs.grant.Granting.{Granting, master, now, old, tablet, taker, grow, turned}
use Rattle.rk_inv_tablets.proofs.grow.Grown.{grown}
use Rattle.rk_inv_base.proofs.views.Turned.{of_tablet}
use Rattle.rk_inv_base.proofs.wire.TabletSays.{SaysAlike, says_itself, says_still}

-- ---- reports of a master that was granted its tablet

-- if a row does not open, nothing is said of what is ready or transferred
pub ready_moved : (phase : Phase) (before after : Handover) (term q place : ℕ) → is_opening phase ≡ false → ReadyIn phase before term q place → ReadyIn phase after term q place
ready_moved (Opening source sfrom target dfrom) before after term q place moved says = absurd (false≢true (sym moved))
ready_moved _ before after term q place moved says = tt

pub transfer_moved : (phase : Phase) (before after : Handover) (was is : Completions) (term q : ℕ) → is_opening phase ≡ false → (transfer : Transfer) → TransferIn phase before was term q transfer → TransferIn phase after is term q transfer
transfer_moved (Opening source sfrom target dfrom) before after was is term q moved transfer says = absurd (false≢true (sym moved))
transfer_moved _ before after was is term q moved transfer says = tt

-- a master that waits has neither joined nor rebuilt
pub joined_waits : (phase : Phase) (before after : Handover) (from applied term q : ℕ) → before.role ≡ roles.Wanting from → JoinedIn phase before applied term q → JoinedIn phase after applied term q
joined_waits phase before after from applied term q waits says = grind arith

pub rebuilt_waits : (phase : Phase) (before after : Handover) (was is : List Ended) (from applied term q : ℕ) (rebuilt : Rebuilt) → before.role ≡ roles.Wanting from → RebuiltIn phase before was applied term q rebuilt → RebuiltIn phase after is applied term q rebuilt
rebuilt_waits phase before after was is from applied term q rebuilt waits says = grind arith

module _ (v : View) (a : Granting v) where
  -- the view with the entry alone
  abbrev pub before : View
  before = grown v (grow v a)

  abbrev written : ℕ → Written
  written = (now v a).written

  -- what messages say of the tablet at its master
  says : SaysAlike before a.row (master v a) (tablet_seen before (master v a) a.row.tablet) (tablet v a)
  says = record {
    grows = omega arith;
    owned = λ tenure fits. assumption fits;
    granted = λ grant agrees. record { reached = agrees.reached; told = λ same lives at waits. absurd (false≢true waits) };
    ready = λ place. ready_moved a.row.phase (old v a) (tablet v a).handover a.row.term (master v a) place (taker v a).moved;
    transferred = transfer_moved a.row.phase (old v a) (tablet v a).handover _ _ a.row.term (master v a) (taker v a).moved;
    joined = λ applied. joined_waits a.row.phase (old v a) (tablet v a).handover a.target.from applied a.row.term (master v a) a.may.may.waiting;
    rebuilt = λ applied rebuilt. rebuilt_waits a.row.phase (old v a) (tablet v a).handover _ _ a.target.from applied a.row.term (master v a) rebuilt a.may.may.waiting;
    target = λ source target two here tenure moved is. assumption is;
  }

  -- what a message says of the row it says still
  pub says_here : (from to : Node) (body : Body) → SaysIn before a.row from to body → SaysIn (now v a) a.row from to body
  says_here =
      says_still before (tablet_seen (now v a)) a.row
      (λ q.
      of_tablet v (now v a) (master v a) a.row.tablet (tablet v a) (turned v a) (λ q r t. SaysAlike before a.row q (tablet_seen before q r) t) q
      a.row.tablet says (λ apart. says_itself before a.row q (tablet_seen before q a.row.tablet)))
