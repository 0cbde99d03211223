-- What messages say of a row once masters have other things of its tablet: they say what they said, if master by master they do.
use Rattle.rk_inv_base.proofs.Words.{◌≡◌, ℕ, ◌≤◌, refl, List, [], ◌∷◌, get, Member, Node, lineage_of, Row, Tenure, Body, Got, Grant, Pulled}
use Rattle.rk_inv_base.proofs.Words.{Rebuilt, Tablet, Transfer, tablet_seen, AskAgrees, GotAgrees, GrantAgrees, IsOfTarget, JoinedIn, OwnFits}
use Rattle.rk_inv_base.proofs.Words.{PulledAgrees, ReadyIn, RebuiltIn, TransferIn, View, SaysIn, arith, AfterMove}
use Rattle.rk_message.specs.declared.message.Body.TheVariants as bodies
use Rattle.rk_inv_base.proofs.views.OwnTablet.{with_tablets}
use Rattle.rk_inv_base.proofs.wire.Messages.{by_master, close_rises, if_master, prepare_rises, rebuild_rises, release_rises, then}

-- what a message that a master sends or is sent says of a row, it still says if the master has the new tablet instead of the old one
pub record SaysAlike (v : View) (x : Row) (q : ℕ) (old new : Tablet) : Type 0 where
  pub grows : old.handover.term ≤ new.handover.term
  pub owned : (tenure : Tenure) → OwnFits x old.handover (v.live q) q tenure → OwnFits x new.handover (v.live q) q tenure
  pub granted :
      (grant : Grant) → GrantAgrees x old.handover (v.live q) (get v.handed x.tablet) q grant
      → GrantAgrees x new.handover (v.live q) (get v.handed x.tablet) q grant
  pub ready : (place : ℕ) → ReadyIn x.phase old.handover x.term q place → ReadyIn x.phase new.handover x.term q place
  pub transferred :
      (transfer : Transfer) → TransferIn x.phase old.handover old.completions x.term q transfer
      → TransferIn x.phase new.handover new.completions x.term q transfer
  pub joined : (applied : ℕ) → JoinedIn x.phase old.handover applied x.term q → JoinedIn x.phase new.handover applied x.term q
  pub rebuilt :
      (applied : ℕ) (rebuilt : Rebuilt) → RebuiltIn x.phase old.handover old.merged_ends applied x.term q rebuilt
      → RebuiltIn x.phase new.handover new.merged_ends applied x.term q rebuilt
  -- a target that a message is to or from keeps its term
  pub target :
      (source target : Member) → lineage_of x.phase ≡ source ∷ target ∷ [] → target.master ≡ q → (tenure : Tenure) → AfterMove x tenure
      → IsOfTarget x new.handover tenure → IsOfTarget x old.handover tenure

-- of a tablet that stays it does
pub says_itself : (v : View) (x : Row) (q : ℕ) (tablet : Tablet) → SaysAlike v x q tablet tablet
says_itself v x q tablet = grind arith

module _ (v : View) (tablets : ℕ → ℕ → Tablet) (x : Row) (each : (q : ℕ) → SaysAlike v x q (tablet_seen v q x.tablet) (tablets q x.tablet)) where
  abbrev now : View
  now = with_tablets v tablets

  ask_on : (lineage : List Member) → lineage_of x.phase ≡ lineage → (q : ℕ) (to : Node) (tenure : Tenure) → AfterMove x tenure → AskAgrees x v.handovers lineage q to tenure → AskAgrees x now.handovers lineage q to tenure
  ask_on (source ∷ target ∷ []) two q to tenure moved agrees = λ here is. agrees here ((each q).target source target two here tenure moved is)
  ask_on _ two q to tenure moved agrees = tt

  pulled_on : (lineage : List Member) → lineage_of x.phase ≡ lineage → (from : Node) (q : ℕ) (pulled : Pulled) → AfterMove x pulled.tenure → PulledAgrees x v.written v.handovers v.live lineage from q pulled → PulledAgrees x v.written now.handovers v.live lineage from q pulled
  pulled_on (source ∷ target ∷ []) two from q pulled moved agrees = λ here lives is.
      agrees here lives ((each q).target source target two here pulled.tenure moved is)
  pulled_on _ two from q pulled moved agrees = tt

  got_on : (lineage : List Member) → lineage_of x.phase ≡ lineage → (from : Node) (q : ℕ) (got : Got) → AfterMove x got.tenure → GotAgrees x v.written v.handovers v.live lineage from q got → GotAgrees x v.written now.handovers v.live lineage from q got
  got_on (source ∷ target ∷ []) two from q got moved agrees = λ here lives is.
      agrees here lives ((each q).target source target two here got.tenure moved is)
  got_on _ two from q got moved agrees = tt

  -- what a message says of the row it says still
  pub says_still : (from to : Node) (body : Body) → SaysIn v x from to body → SaysIn now x from to body
  says_still from to (bodies.Prepare prepare) = if_master to _ _ (λ q. prepare_rises x _ _ (v.live q) q (each q).grows prepare)
  says_still from to (bodies.Ready ready) = by_master from _ _ (λ q. then ((each q).ready ready.place))
  says_still from to (bodies.Close tenure) = if_master to _ _ (λ q. close_rises x _ _ (v.live q) q (each q).grows tenure)
  says_still from to (bodies.Transfer transfer) = by_master from _ _ (λ q. then ((each q).transferred transfer))
  says_still from to (bodies.Grant grant) = λ says. (says.0, if_master to _ _ (λ q. (each q).granted grant) says.1)
  says_still from to (bodies.Pull pull) = λ says.
      (says.0, by_master from _ _ (λ q. ask_on (lineage_of x.phase) refl q to pull.tenure says.0) says.1)
  says_still from to (bodies.Pulled pulled) = λ says.
      (says.0, if_master to _ _ (λ q. pulled_on (lineage_of x.phase) refl from q pulled says.0) says.1)
  says_still from to (bodies.Want want) = λ says.
      (says.0, by_master from _ _ (λ q. ask_on (lineage_of x.phase) refl q to want.tenure says.0) says.1)
  says_still from to (bodies.Got got) = λ says.
      (says.0, if_master to _ _ (λ q. got_on (lineage_of x.phase) refl from q got says.0) says.1)
  says_still from to (bodies.Joined tenure) = by_master from _ _ (λ q. then ((each q).joined (v.written q).applied))
  says_still from to (bodies.Own tenure) = if_master to _ _ (λ q. (each q).owned tenure)
  says_still from to (bodies.Release tenure) = if_master to _ _ (λ q. release_rises x _ _ (v.live q) q (each q).grows tenure)
  says_still from to (bodies.Rebuild rebuild) = if_master to _ _ (λ q. rebuild_rises x _ _ (v.live q) q (each q).grows rebuild)
  says_still from to (bodies.Rebuilt rebuilt) = by_master from _ _ (λ q. then ((each q).rebuilt (v.written q).applied rebuilt))
  says_still from to _ = λ says. says
