-- What the invariant says of a row depends on what masters have of the row's tablet alone: if that is the same, it holds as it did.
use Rattle.rk_inv_base.proofs.Words.{arith, ◌≡◌, ℕ, List, [], ◌∷◌, eqb, refl, sym, subst, Member, Node, lineage_of, Phase}
use Rattle.rk_inv_base.proofs.Words.{Rebuilding, Row, Body, second_of, handed_by, Tablet, tablet_seen, handed_for_grant, is_waiting}
use Rattle.rk_inv_base.proofs.Words.{is_waiting_at, HandedFits, MembersFit, RowIsRebuilt, View, truths, SaysIn, SoundRow}

-- the view in which masters have this of tablets
abbrev pub with_tablets : View → (ℕ → ℕ → Tablet) → View
with_tablets v tablets = record v {
  handovers = λ q n. (tablets q n).handover;
  completions = λ q n. (tablets q n).completions;
  pullings = λ q n. (tablets q n).pulling;
  gathers = λ q n. (tablets q n).gather;
  merged = λ q n. (tablets q n).merged_ends;
}

-- a view of no rows, in which each master has this of every tablet
abbrev pub alone : View → (ℕ → Tablet) → View
alone v tablets = with_tablets (record v { rows = []; noticed = [] }) (λ q n. tablets q)

module _ (v : View) (row : Row) where
  abbrev own : View
  own = alone v (λ q. tablet_seen v q row.tablet)

  granted_own : handed_for_grant row v.handovers v.handed ≡ handed_for_grant row own.handovers v.handed
  granted_own = grind (arith, is_waiting, second_of, lineage_of)

  handed_own : (body : Body) → handed_by row v.handovers body ≡ handed_by row own.handovers body
  handed_own body = grind (arith, eqb, is_waiting_at, second_of, lineage_of)

  members_own : (l : List Member) → MembersFit row v.written v.handovers v.pullings v.records v.handed l ≡ MembersFit row v.written own.handovers own.pullings v.records v.handed l
  members_own (source ∷ target ∷ []) = refl
  members_own _ = refl

  fits_own : (l : List Member) → HandedFits row v.handovers v.completions v.handed l ≡ HandedFits row own.handovers own.completions v.handed l
  fits_own (source ∷ target ∷ []) = refl
  fits_own _ = refl

  rebuilt_own : (phase : Phase) → RowIsRebuilt row phase (truths v row) v.logs v.written v.stored v.handovers v.completions v.gathers v.merged v.records v.live ≡ RowIsRebuilt row phase (truths v row) v.logs v.written v.stored own.handovers own.completions own.gathers own.merged v.records v.live
  rebuilt_own (Rebuilding lineage to) = refl
  rebuilt_own _ = refl

  says_own : (from to : Node) (body : Body) → SaysIn v row from to body ≡ SaysIn own row from to body
  says_own from to body = grind (arith, lineage_of)

  to_own : SoundRow v row → SoundRow own row
  to_own was = grind (arith, granted_own, handed_own, members_own, lineage_of, fits_own, rebuilt_own, says_own)

  of_own : SoundRow own row → SoundRow v row
  of_own was = grind (arith, granted_own, handed_own, members_own, lineage_of, fits_own, rebuilt_own, says_own)

-- two views are the same but for their rows and what masters have of tablets, and of the row's tablet each master has the same
pub row_kept : (v now : View) (row : Row) → ((tablets : ℕ → Tablet) → alone v tablets ≡ alone now tablets) → ((q : ℕ) → tablet_seen now q row.tablet ≡ tablet_seen v q row.tablet) → SoundRow v row → SoundRow now row
row_kept v now row same_beside same was =
    of_own now row
    (subst (λ (x : View). SoundRow x row) (same_beside (λ q. tablet_seen now q row.tablet))
    (subst (λ (tablets : ℕ → Tablet). SoundRow (alone v tablets) row) (λ i q. sym (same q) i) (to_own v row was)))
