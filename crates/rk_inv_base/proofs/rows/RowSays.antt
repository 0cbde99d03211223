-- What messages say of a row, and hand over for it, when that is turned.
use Rattle.rk_inv_base.proofs.Words.{◌≡◌, ℕ, cond, eqb, List, Option, sym, ap, subst, IfSome, eq-eqb, eqb-true, arith, and_from}
use Rattle.rk_inv_base.proofs.Words.{and_parts, cond-true, cond_both, get, Member, Node, Handover, lineage_of, Phase, Row, Grant, Prepare}
use Rattle.rk_inv_base.proofs.Words.{Tenure, Transfer, Body, Got, Pulled, Rebuild, Handed, told, is_member, second_of, handed_by}
use Rattle.rk_inv_base.proofs.Words.{handed_for_grant, is_opening, is_waiting, is_waiting_at, second_has, IsOf, IsOfTarget, PrepareFits}
use Rattle.rk_inv_base.proofs.Words.{CloseFits, OwnFits, ReleaseFits, RebuildFits, TransferIn, AfterMove, GrantAgrees, AskAgrees}
use Rattle.rk_inv_base.proofs.Words.{PulledAgrees, GotAgrees, MayTurn, row_at, IsWithinTerm, SentFits, View, InvitedTarget, OpeningSource}
use Rattle.rk_inv_base.proofs.Words.{Bystander, target_post, OpensOn}
use Rattle.rk_message.specs.declared.message.Body.TheVariants as bodies
use Rattle.rk_inv_base.proofs.Base.{if_master, by_master, SaysIn}

-- ---- a row that opens and goes on to open

-- if any master of a row that opens is invited, it is the target
pub is_target : (source target master : ℕ) (noted : Option ℕ) → cond (eqb source master) OpeningSource (cond (eqb target master) (target_post noted) Bystander) ≡ InvitedTarget → target ≡ master
is_target source target master noted invited = grind (arith, eqb, target_post, eqb-true)

-- a message is of a row that goes on to open, and was of it before
pub record Stays (row : Row) (term : ℕ) (phase : Phase) (tenure : Tenure) : Type 0 where
  pub opens : OpensOn row.phase phase
  pub same : term ≡ row.term
  pub was : IsOf row tenure

module _ (v : View) (row : Row) (term : ℕ) (phase : Phase) (may : MayTurn v row term phase) where
  abbrev new : Row
  new = row_at row term phase

  over : (P : List Member → Type 0) → P (lineage_of row.phase) → P (lineage_of phase)
  over P = subst P (sym may.lineage_is)

  member : (q : ℕ) → is_member (lineage_of phase) q ≡ is_member (lineage_of row.phase) q
  member q = ap (λ (l : List Member). is_member l q) may.lineage_is

  -- ---- what is handed over

  pub for_grant : handed_for_grant new v.handovers v.handed ≡ handed_for_grant row v.handovers v.handed
  for_grant = grind (arith, is_waiting, second_of, lineage_of, second_has)

  stays : (tenure : Tenure) → IsWithinTerm row tenure.tablet tenure.term → IsOf new tenure → Stays row term phase tenure
  stays tenure = grind arith

  -- a Transfer hands over for the new row only what it did for the old one
  transfer_hands : (P : Handed → Type 0) (transfer : Transfer) → IsWithinTerm row transfer.tenure.tablet transfer.tenure.term → IfSome (handed_by row v.handovers (bodies.Transfer transfer)) P → IfSome (handed_by new v.handovers (bodies.Transfer transfer)) P
  transfer_hands P transfer low given =
      grind (arith, eqb, cond_both, is_opening, and_parts, stays, eqb-true, cond-true, and_from, eq-eqb)

  pub hands : (P : Handed → Type 0) (body : Body) → SentFits row body → IfSome (handed_by row v.handovers body) P → IfSome (handed_by new v.handovers body) P
  hands P body fits given = grind (arith, transfer_hands, eqb, is_waiting_at, second_of, lineage_of, second_has)

  -- ---- messages

  prepare : (q : ℕ) (order : Prepare) → IsWithinTerm row order.tenure.tablet order.tenure.term → PrepareFits row (v.handovers q row.tablet) (v.live q) q order → PrepareFits new (v.handovers q row.tablet) (v.live q) q order
  prepare q order low fits = grind (arith, stays, member, is_target)

  close : (q : ℕ) (tenure : Tenure) → IsWithinTerm row tenure.tablet tenure.term → CloseFits row (v.handovers q row.tablet) (v.live q) q tenure → CloseFits new (v.handovers q row.tablet) (v.live q) q tenure
  close q tenure low fits = record {
    source = λ is. let stay = stays tenure low is in rw stay.opens.is (rw stay.opens.was at (fits.source stay.was));
    may_follow = λ its lives below. may.closes q tenure.term lives below (fits.may_follow its lives below);
  }

  own : (q : ℕ) (tenure : Tenure) → IsWithinTerm row tenure.tablet tenure.term → OwnFits row (v.handovers q row.tablet) (v.live q) q tenure → OwnFits new (v.handovers q row.tablet) (v.live q) q tenure
  own q tenure low fits = grind (arith, stays)

  release : (q : ℕ) (tenure : Tenure) → IsWithinTerm row tenure.tablet tenure.term → ReleaseFits row (v.handovers q row.tablet) (v.live q) q tenure → ReleaseFits new (v.handovers q row.tablet) (v.live q) q tenure
  release q tenure low fits = grind (arith, stays, member)

  rebuild : (q : ℕ) (order : Rebuild) → IsWithinTerm row order.tenure.tablet order.tenure.term → RebuildFits row (v.handovers q row.tablet) (v.live q) q order → RebuildFits new (v.handovers q row.tablet) (v.live q) q order
  rebuild q order low fits = grind (arith, stays)

  -- none of the row's term was sent before it moves
  after : (tenure : Tenure) → IsWithinTerm row tenure.tablet tenure.term → AfterMove row tenure → AfterMove new tenure
  after tenure low said is = let stay = stays tenure low is in absurd (rw stay.opens.was at (said stay.was))

  grant_agrees : (q : ℕ) (grant : Grant) → GrantAgrees row (v.handovers q row.tablet) (v.live q) (get v.handed row.tablet) q grant → GrantAgrees new (v.handovers q row.tablet) (v.live q) (get v.handed row.tablet) q grant
  grant_agrees q grant agrees = grind (arith, told, over, get)

  of_target : (handover : Handover) (tenure : Tenure) → IsOfTarget new handover tenure → IsOfTarget row handover tenure
  of_target handover tenure is = record { tablet = is.tablet; term = is.term }

  asks : (q : ℕ) (to : Node) (tenure : Tenure) → AskAgrees row v.handovers (lineage_of row.phase) q to tenure → AskAgrees new v.handovers (lineage_of phase) q to tenure
  asks q to tenure agrees = grind (arith, over, lineage_of, of_target)

  pulled_agrees : (from : Node) (q : ℕ) (pulled : Pulled) → PulledAgrees row v.written v.handovers v.live (lineage_of row.phase) from q pulled → PulledAgrees new v.written v.handovers v.live (lineage_of phase) from q pulled
  pulled_agrees from q pulled agrees = grind (arith, over, lineage_of, of_target)

  got_agrees : (from : Node) (q : ℕ) (got : Got) → GotAgrees row v.written v.handovers v.live (lineage_of row.phase) from q got → GotAgrees new v.written v.handovers v.live (lineage_of phase) from q got
  got_agrees from q got agrees = grind (arith, over, lineage_of, of_target)

  -- what a transfer says of the new row
  transfer_in : (q : ℕ) (transfer : Transfer) → Stays row term phase transfer.tenure → TransferIn row.phase (v.handovers q row.tablet) (v.completions q row.tablet) row.term q transfer → TransferIn phase (v.handovers q row.tablet) (v.completions q row.tablet) term q transfer
  transfer_in q transfer stay told = rw stay.same (rw stay.opens.is (rw stay.opens.was at told))

  -- what a message says of the row it says of the new one
  pub says : (from to : Node) (body : Body) → SentFits row body → SaysIn v row from to body → SaysIn v new from to body
  says from to (bodies.Prepare order) fits said = if_master to _ _ (λ q. prepare q order fits.within) said
  says from to (bodies.Ready told) fits said = grind (arith, by_master, stays, told.tenure, told.place, fits.within)
  says from to (bodies.Close tenure) fits said = if_master to _ _ (λ q. close q tenure fits.within) said
  says from to (bodies.Transfer transfer) fits said = grind (arith, by_master, told, stays, transfer_in, transfer.tenure, fits.within)
  says from to (bodies.Grant grant) fits said = (after grant.tenure fits.within said.0, if_master to _ _ (λ q. grant_agrees q grant) said.1)
  says from to (bodies.Pull pull) fits said = (after pull.tenure fits.within said.0, by_master from _ _ (λ q. asks q to pull.tenure) said.1)
  says from to (bodies.Pulled pulled) fits said = grind (arith, after, if_master, pulled_agrees, pulled.tenure, fits.within, said.0, said.1)
  says from to (bodies.Want want) fits said = (after want.tenure fits.within said.0, by_master from _ _ (λ q. asks q to want.tenure) said.1)
  says from to (bodies.Got got) fits said = (after got.tenure fits.within said.0, if_master to _ _ (λ q. got_agrees from q got) said.1)
  says from to (bodies.Joined tenure) fits said = grind (arith, by_master, told, stays, fits.within)
  says from to (bodies.Own tenure) fits said = if_master to _ _ (λ q. own q tenure fits.within) said
  says from to (bodies.Release tenure) fits said = if_master to _ _ (λ q. release q tenure fits.within) said
  says from to (bodies.Rebuild order) fits said = if_master to _ _ (λ q. rebuild q order fits.within) said
  says from to (bodies.Read read) fits said = λ is. let stay = stays read.tenure fits.within is in rw stay.opens.is tt
  says from to (bodies.Copy copy) fits said = λ is. let stay = stays copy.tenure fits.within is in rw stay.opens.is tt
  says from to (bodies.Rebuilt rebuilt) fits said = grind (arith, by_master, told, stays, rebuilt.tenure, fits.within)
  says from to body fits said = said
