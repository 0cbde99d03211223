-- A lane stays sound when a rebuild is taken, if the records that its ends make go on lawfully.
use Rattle.std.proofs.Common.{arith, ◌≡◌, ℕ, Bool, eqb, List, [], ◌∷◌, ◌++◌, Option, refl, sym, ap, ◌∙◌, append-nil, append_assoc, filter}
use Rattle.std.proofs.Common.{fold, not, subst}
use Rattle.rk_inv_base.proofs.Words.{Ended, Placed, Member, Row, outcome_of, has_record, next_record, Ledger, asked_by, with_ends}
use Rattle.rk_inv_base.proofs.Words.{is_mark_of, World, LastCall, Mark, view, IsSound, SoundView, marks_of, with_ledger}
use Rattle.rk_inv_rows.proofs.Words.{MayOwnRebuilt, made_by, made_of, rebuilt_taken_in, row_owned_in}
use Rattle.rk_world.specs.Ledger.{with_end, with_end_of, without_marks}
use Rattle.rk_inv_rows.proofs.lineage.RebuiltTaken.{rows_rebuilt, view_rebuilt_taken}

-- a ledger with this journal
abbrev with_journal : Ledger → List Placed → Ledger
with_journal ledger journal = record ledger { journal = journal }

-- an end makes its record
one_made : (ledger : Ledger) (end : Ended) (asked : Option LastCall) → with_end_of ledger end asked ≡ with_journal ledger (ledger.journal ++ made_by ledger.journal end asked)
one_made ledger end asked = grind (arith, append-nil, eqb, has_record, next_record, outcome_of)

-- ends make theirs
pub all_made : (ledger : Ledger) (ends : List Ended) → with_ends ledger ends ≡ with_journal ledger (ledger.journal ++ made_of (asked_by ledger) ledger.journal ends)
all_made ledger [] = ap (with_journal ledger) (sym (append-nil ledger.journal))
all_made ledger (end ∷ ends) =
    let made : List Placed = made_by ledger.journal end (asked_by ledger end.client) in
    let next : List Placed = ledger.journal ++ made in
    ap (λ (l : Ledger). fold with_end l ends) (one_made ledger end (asked_by ledger end.client))
    ∙ all_made (with_journal ledger next) ends
    ∙ ap (with_journal ledger) (append_assoc ledger.journal made (made_of (asked_by ledger) next ends))

-- what two tests keep, they keep in either order
kept_either : {X : Type 0} (p q : X → Bool) (xs : List X) → filter p (filter q xs) ≡ filter q (filter p xs)
kept_either p q [] = refl
kept_either {X} p q (x ∷ xs) = grind (arith, (kept_either p q xs))

pub sound_rebuilt_taken : (w : World) (row : Row) (lineage : List Member) (to place : ℕ) (ends : List Ended) → IsSound w → MayOwnRebuilt (view w) row lineage to place ends → IsSound (rebuilt_taken_in w row to place ends)
sound_rebuilt_taken w row lineage to place ends sound may =
    let made : List Placed = made_of (asked_by w.ledger) w.ledger.journal ends in
    let stays : Mark → Bool = λ mark. not (is_mark_of row.tablet row.term mark) in
    let whole : SoundView _ = view_rebuilt_taken (view w) row lineage to place ends sound may in
    let with_rows =
    subst
    (λ (rows : List Row). SoundView (record (view w) {
      rows = rows;
      journal = w.ledger.journal ++ made;
      written = λ q. record ((view w).written q) { marks = filter stays (marks_of w.ledger q) };
    }))
    (sym (rows_rebuilt (view w) row lineage to place ends sound may)) whole in
    let with_marks =
    subst
    (λ (marks : ℕ → List Mark). SoundView (record (view (row_owned_in w row to place)) {
      journal = w.ledger.journal ++ made;
      written = λ q. record ((view w).written q) { marks = marks q };
    }))
    (λ i q. kept_either stays (λ (mark : Mark). eqb mark.master q) w.ledger.marks i) with_rows in
    subst (λ (ledger : Ledger). IsSound (with_ledger (row_owned_in w row to place) (without_marks ledger row.tablet row.term)))
    (sym (all_made w.ledger ends)) with_marks
