-- The part Messages when a master yields: what a message says of a row it says still.
use Rattle.std.proofs.Common.{◌≡◌, ℕ, Bool, List, [], ◌∷◌, Option, None, refl, arith, Contains}
use Rattle.rk_inv_base.proofs.Words.{Ended, false≢true, get, Member, Node, Completions, Handover, lineage_of, Phase, Moving, Opening, Rebuilding}
use Rattle.rk_inv_base.proofs.Words.{Row, Grant, Tenure, Transfer, Body, Rebuilt, Handed, is_member, AfterMove, GrantAgrees, IsOfTarget}
use Rattle.rk_inv_base.proofs.Words.{JoinedIn, OwnFits, ReadyIn, RebuiltIn, TransferIn, View}
use Rattle.rk_inv_tablets.proofs.Words.{SaysIn, tablet_seen}
use Rattle.rk_inv_tablets.proofs.ready.Outside.{second_member}
use Rattle.rk_inv_tablets.proofs.ready.Yielding.{IsBeside, Yielding, of_tablet, yielded, of_lineage}
use Rattle.rk_inv_base.proofs.wire.TabletSays.{SaysAlike, says_itself, says_still}

module _ (v : View) (a : Yielding v) where
  abbrev now : View
  now = yielded v a

  -- what the master has of a row's tablet, before and then
  abbrev old : Row → Handover
  old x = v.handovers a.master x.tablet

  abbrev new : Row → Handover
  new x = (a.tablets x.tablet).handover

  -- ---- orders and reports

  own_on : (x : Row) → IsBeside v a x → (live : Bool) (tenure : Tenure) → OwnFits x (old x) live a.master tenure → OwnFits x (new x) live a.master tenure
  own_on x beside live tenure fits = grind arith

  grant_on : (x : Row) → IsBeside v a x → (live : Bool) (handed : Option Handed) (grant : Grant) → GrantAgrees x (old x) live handed a.master grant → GrantAgrees x (new x) live handed a.master grant
  grant_on x beside live handed grant agrees = grind arith

  ready_on : (x : Row) → IsBeside v a x → (phase : Phase) (place : ℕ) → ReadyIn phase (old x) x.term a.master place → ReadyIn phase (new x) x.term a.master place
  ready_on x beside (Opening source sfrom target None) place says = let e = says.2 in absurd (omega (arith, beside.below, e))
  ready_on x beside _ place says = tt

  transfer_on : (x : Row) → IsBeside v a x → (phase : Phase) → x.phase ≡ phase → (completions : Completions) (transfer : Transfer) → TransferIn phase (old x) completions x.term a.master transfer → TransferIn phase (new x) completions x.term a.master transfer
  transfer_on x beside phase is completions transfer says = grind arith

  joined_on : (x : Row) → IsBeside v a x → (phase : Phase) → x.phase ≡ phase → (applied : ℕ) → JoinedIn phase (old x) applied x.term a.master → JoinedIn phase (new x) applied x.term a.master
  joined_on x beside (Moving source sfrom target dfrom) is applied says = let e = says.1 in absurd (omega (arith, beside.below, e))
  joined_on x beside _ is applied says = says

  rebuilt_on : (x : Row) → IsBeside v a x → (phase : Phase) (old_ends ends : List Ended) (applied : ℕ) (rebuilt : Rebuilt) → RebuiltIn phase (old x) old_ends applied x.term a.master rebuilt → RebuiltIn phase (new x) ends applied x.term a.master rebuilt
  rebuilt_on x beside (Rebuilding lineage to) old_ends ends applied rebuilt says = let at = says.1 in absurd (omega (arith, beside.below, at))
  rebuilt_on x beside _ old_ends ends applied rebuilt says = says

  -- the target of a row has the tablet at the term of a message, if it had it
  target_on : (x : Row) → IsBeside v a x → (source target : Member) → lineage_of x.phase ≡ source ∷ target ∷ [] → target.master ≡ a.master → (tenure : Tenure) → AfterMove x tenure → IsOfTarget x (new x) tenure → IsOfTarget x (old x) tenure
  target_on x beside source target two here tenure moved is = grind (arith, is_member, second_member, of_lineage, false≢true)

  -- so messages say of each tablet what they said
  says_alike : (x : Row) → Contains v.rows x → (q : ℕ) → SaysAlike v x q (tablet_seen v q x.tablet) (tablet_seen now q x.tablet)
  says_alike x has q =
      of_tablet v a
      (λ q h p g e. SaysAlike v x q (tablet_seen v q x.tablet)
      (record { handover = h; completions = v.completions q x.tablet; pulling = p; gather = g; merged_ends = e })) q x.tablet
      (λ yields was.
      let beside : IsBeside v a x = yields.beside x has refl in
      record {
        grows = beside.grows;
        owned = own_on x beside (v.live a.master);
        granted = grant_on x beside (v.live a.master) (get v.handed x.tablet);
        ready = ready_on x beside x.phase;
        transferred = transfer_on x beside x.phase refl (v.completions a.master x.tablet);
        joined = joined_on x beside x.phase refl;
        rebuilt = rebuilt_on x beside x.phase (v.merged a.master x.tablet) (a.tablets x.tablet).merged_ends;
        target = target_on x beside;
      })
      (says_itself v x q (tablet_seen v q x.tablet))

  -- what a message says of the row it says still
  pub says_on : (x : Row) → Contains v.rows x → (from to : Node) (body : Body) → SaysIn v x from to body → SaysIn now x from to body
  says_on x has = says_still v (tablet_seen now) x (says_alike x has)
