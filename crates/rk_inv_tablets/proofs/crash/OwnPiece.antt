-- What a living master has in marked pieces of a row that it rebuilds records nothing that others do not, if what it read does not.
use Rattle.std.proofs.Common.{◌≡◌, ◌<◌, ◌≤◌, ◌+◌, ℕ, suc, true, List, [], ◌∷◌, ◌++◌, drop, Some, refl, subst, Contains, IfSome, slice_get}
use Rattle.std.proofs.Common.{ap, ap, arith, ◌∙◌, ◌==◌}
use Rattle.rk_inv_base.proofs.Words.{false≢true, All-contains, Member, Entry, Handover, Role, Phase, Rebuilding, Row, by_member, as_entries}
use Rattle.rk_inv_base.proofs.Words.{merge, own_place, member_material, Mark, Merged, IsMergedOf, RowIsRebuilt, TellNoMore, closing_carried}
use Rattle.rk_inv_base.proofs.Words.{has_merged, member_marked, merged_place, View, truths, SoundView, IsBackup, IsMaster, READ_BACKUP}
use Rattle.rk_inv_base.proofs.Words.{names, or_right, is_member}
use Rattle.rk_inv_tablets.proofs.Words.{member as member_at, in_piece, place_of, row_in}
use Rattle.rk_inv_tablets.proofs.crash.MarkedPieces.{HasMark, counted_each, mark_of}
use Rattle.rk_inv_tablets.proofs.crash.PieceRows.{mark_says, marked_of_row}
use Rattle.rk_inv_tablets.proofs.crash.MergeTells.{IsToldBy, all_told, piece_told, read_all}
use Rattle.rk_transfer.specs.declared.role.Role.TheVariants as roles

-- each member of a lineage is there, and knows of backup 1
pub member_backed : (v : View) → SoundView v → (row : Row) → Contains v.rows row → (lineage : List Member) (to : ℕ) → row.phase ≡ Rebuilding lineage to → (q : ℕ) → is_member lineage q ≡ true → IsBackup (v.logs q) READ_BACKUP
member_backed v sound row has lineage to is q member =
    let there : IsMaster v.masters q =
    (row_in v sound row has).nodes q (ap (λ (phase : Phase). names phase q) is ∙ or_right (to == q) (is_member lineage q) member) in
    record { first = omega arith; last = omega (arith, sound.nodes.known q there, sound.nodes.backed) }

-- a role that has merged has the place of the entry that closes it
merged_of : (role : Role) (P : ℕ → Type 0) → has_merged role ≡ true → IfSome (merged_place role) P → (entry : ℕ) × P entry
merged_of (roles.Rebuilding from (Some entry)) P is merged = (entry, merged)
merged_of _ P is merged = absurd (false≢true is)

module _ (v : View) (row : Row) (lineage : List Member) (q : ℕ) (sound : SoundView v) (has : Contains v.rows row) (some : row.range.first ≤ row.range.last) (is : row.phase ≡ Rebuilding lineage q) (lives : v.live q ≡ true) where
  -- what it has of the tablet
  abbrev its : Handover
  its = v.handovers q row.tablet

  -- all that counts of its own, and of each member
  abbrev pub own : List Entry
  own = member_material v.written row.range (member_at q (own_place (v.handovers q row.tablet).role))

  abbrev pub read : List (List Entry)
  read = by_member (v.gathers q row.tablet) own

  abbrev marks : List Mark
  marks = (v.written q).marks

  abbrev list : List Entry
  list = (v.written q).entries

  -- what holds of the row while it is rebuilt
  pub rebuilt : RowIsRebuilt row (Rebuilding lineage q) (truths v row) v.logs v.written v.stored v.handovers v.completions v.gathers v.merged v.records v.live
  rebuilt =
      subst (λ (p : Phase). RowIsRebuilt row p (truths v row) v.logs v.written v.stored v.handovers v.completions v.gathers v.merged v.records v.live) is
      (row_in v sound row has).rebuilds.rebuilt

  module _ (others : List Entry) (tells : (v.handovers q row.tablet).term ≡ row.term → has_merged (v.handovers q row.tablet).role ≡ true → TellNoMore (read_all read) others) where
    -- an entry that bears a mark of the row's is of the piece
    here : (place : ℕ) (entry : Entry) → slice_get list place ≡ Some entry → (found : HasMark marks place) → found.mark.tablet ≡ row.tablet → IsToldBy others entry
    here place entry at found same =
        let fits = mark_says v sound q place entry at found row has same in
        let by = fits.by_rebuilder (fits.present lives) in
        let rebuilder = rebuilt.0 by.1 in
        let IsMerged : ℕ → Type 0 = λ e.
        IsMergedOf row.tablet (own_place its.role) own its (v.completions q row.tablet) (v.gathers q row.tablet) (v.merged q row.tablet) (v.written q) e in
        let closed : (e : ℕ) × IsMerged e = merged_of its.role IsMerged by.2 rebuilder.merged in
        let merged : IsMerged closed.0 = closed.1 in
        let piece = merged.piece in
        let one : found.mark ≡ piece.mark =
        All-contains (λ (mark : Mark). mark.tablet ≡ row.tablet → mark ≡ piece.mark) marks found.mark piece.alone found.here same in
        let from : piece.mark.first ≤ place = subst (λ (m : Mark). m.first ≤ place) one found.from in
        let before : place < suc closed.0 = rw (← piece.past_is, ← one) found.before in
        let stands = in_piece list piece.mark.first (suc closed.0) place entry from before at in
        All-contains (IsToldBy others)
        (as_entries (merge own read).copies ++ closing_carried its (merge own read) ∷ []) entry
        (piece_told own read its others (tells by.1 by.2))
        (subst (λ (m : Merged). Contains (as_entries m.copies ++ closing_carried its m ∷ []) entry) merged.merged_is
        (rw (← piece.stands) stands))

    -- so no marked entry records anything new
    pub own_marked_told : (from : ℕ) → TellNoMore (member_marked v.written row.range (member_at q from)) others
    own_marked_told from =
        all_told (member_marked v.written row.range (member_at q from)) others
        (counted_each row.range (IsToldBy others) marks from (drop from list)
        (λ k entry at marked inside.
        let place : ℕ = from + k in
        let found : HasMark marks place = mark_of marks place marked in
        let there = place_of list from k place entry refl at in
        here place entry there found (marked_of_row v sound q place entry there found row has some inside)))
