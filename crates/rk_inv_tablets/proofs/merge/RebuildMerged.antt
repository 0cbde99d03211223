-- A lane stays sound when a rebuild merges what it gathered.
use Rattle.std.proofs.Common.{◌≡◌, ℕ, suc, ◌+◌, List, [], ◌∷◌, ◌++◌, length, refl, sym, ap, ◌∙◌, subst, arith, append_assoc, length-append}
use Rattle.std.proofs.Common.{◌==◌, eq-eqb, ne_eqb, append-nil}
use Rattle.rk_inv_base.proofs.Words.{cond-false, cond-true, length-map, filter-append, Entry, number_of, Ledger, marks_of, with_marks}
use Rattle.rk_inv_base.proofs.Words.{Master, with_all, with_appended, with_tablet, as_entries, with_merged, is_absent, Tablet, World}
use Rattle.rk_inv_base.proofs.Words.{master_at, tablet_in, with_ledger, with_master, written_by, Mark, Merged, closing_carried, put, put2}
use Rattle.rk_inv_base.proofs.Words.{view, IsSound, SoundView}
use Rattle.rk_inv_tablets.proofs.Words.{put_is, put_same, put2_same, master_other, master_same, tablet_apart, tablet_here, found_stands}
use Rattle.rk_inv_tablets.proofs.Words.{view_master, MayMergeFormed, as_merged, merge_in, merged_view, piece_entries, piece_mark}
use Rattle.rk_inv_tablets.proofs.Words.{rebuild_merged_in, with_entries, with_piece}
use Rattle.rk_inv_tablets.proofs.merge.Heirs.{gathers_from}
use Rattle.rk_inv_tablets.proofs.merge.Merged.{view_merged}
use Rattle.rk_inv_tablets.proofs.crash.MarkedPieces.{row_there}

-- entries that are appended one after the other are at the end of the log
pub with_all_is : (master : Master) (list : List Entry) → with_all master list ≡ record master { log = with_entries master.log list }
with_all_is master [] = λ i. record master { log = record master.log { entries = sym (append-nil master.log.entries) i } }
with_all_is master (entry ∷ list) =
    grind (arith, with_appended, append_assoc, master.log, master.log.entries, (with_all_is (with_appended master entry) list))

module _ (w : World) (master tablet : ℕ) where
  abbrev before : Master
  before = master_at w master

  abbrev kept : Tablet
  kept = tablet_in w master tablet

  abbrev made : Merged
  made = merge_in (view w) master tablet

  abbrev copies : List Entry
  copies = as_entries (merge_in (view w) master tablet).copies

  abbrev last : Entry
  last = closing_carried (tablet_in w master tablet).handover (merge_in (view w) master tablet)

  -- the master and the mark, once the copies are in the log of this one
  abbrev changed_to : Master → Master
  changed_to grown =
      with_tablet (with_appended grown last) tablet
      (with_merged kept made (as_merged (length grown.log.entries) made.floor kept.handover))

  abbrev mark_of : Master → Mark
  mark_of grown = record {
    master = before.number;
    first = length before.log.entries;
    past = suc (length grown.log.entries);
    tablet = tablet;
    term = kept.handover.term;
  }

  abbrev world_of : Master → World
  world_of grown = with_ledger (with_master w master (changed_to grown)) (with_marks w.ledger (mark_of grown ∷ []))

  abbrev grown : Master
  grown = record (master_at w master) { log = with_entries (master_at w master).log copies }

  abbrev changed : Master
  changed = changed_to grown

  abbrev new : Tablet
  new = with_merged kept made (as_merged (length grown.log.entries) made.floor kept.handover)

  abbrev ledger : Ledger
  ledger = with_marks w.ledger (mark_of grown ∷ [])

  -- so many entries are before the last one
  count : length grown.log.entries ≡ length before.log.entries + length made.copies
  count = grind (arith, length-append, length-map)

  module _ (numbered : (master_at w master).number ≡ master) where
    abbrev mark : Mark
    mark = piece_mark master tablet kept.handover.term (length before.log.entries) (length made.copies)

    mark_is : mark_of grown ≡ mark
    mark_is i = record {
      master = numbered i;
      first = length before.log.entries;
      past = suc (count i);
      tablet = tablet;
      term = kept.handover.term;
    }

    -- the mark is the master's
    marks_here : marks_of ledger master ≡ marks_of w.ledger master ++ mark ∷ []
    marks_here =
        filter-append (λ (m : Mark). m.master == master) w.ledger.marks (mark_of grown ∷ [])
        ∙ ap (λ (more : List Mark). marks_of w.ledger master ++ more)
        (cond-true (before.number == master) (mark_of grown ∷ []) [] (eq-eqb before.number master numbered) ∙ ap (λ (m : Mark). m ∷ []) mark_is)

    marks_apart : (q : ℕ) → (q ≡ master → ⊥) → marks_of ledger q ≡ marks_of w.ledger q
    marks_apart q apart =
        filter-append (λ (m : Mark). m.master == q) w.ledger.marks (mark_of grown ∷ [])
        ∙ ap (λ (more : List Mark). marks_of w.ledger q ++ more)
        (cond-false (before.number == q) (mark_of grown ∷ []) [] (ne_eqb before.number q (λ same. apart (sym same ∙ numbered))))
        ∙ append-nil (marks_of w.ledger q)

    -- what is written
    written_is : (q : ℕ) → written_by (master_at (with_master w master changed) q) (marks_of ledger q) ≡ put (view w).written master (with_piece ((view w).written master) (piece_entries kept.handover made) mark) q
    written_is q =
        put_is (view w).written master (with_piece ((view w).written master) (piece_entries kept.handover made) mark) q
        (written_by (master_at (with_master w master changed) q) (marks_of ledger q))
        (λ is.
        (λ i. written_by (master_same w master changed q is i) (marks_of ledger (is i)))
        ∙ (λ i. record {
          entries = append_assoc before.log.entries copies (last ∷ []) i;
          applied = before.applied;
          sides = before.sides;
          marks = marks_here i;
        }))
        (λ apart i. written_by (master_other w master changed q apart i) (marks_apart q apart i))

    view_is : view (world_of grown) ≡ merged_view (view w) master tablet made
    view_is =
        (λ i. record (view_master w master changed tablet new refl (tablet_here (with_appended grown last) tablet new) (tablet_apart (with_appended grown last) tablet new) i) {
          written = λ q. written_is q i;
        })
        ∙ (λ i. record (merged_view (view w) master tablet made) {
          logs = put (view w).logs master (record before.log { entries = append_assoc before.log.entries copies (last ∷ []) i });
          records = put_same (view w).records master i;
          calls = put_same (view w).calls master i;
          handovers = put2 (view w).handovers master tablet (as_merged (count i) made.floor kept.handover);
          pullings = put2_same (view w).pullings master tablet i;
          gathers = put2_same (view w).gathers master tablet i;
        })

    -- what the change makes of a view
    pub merged_is : view (rebuild_merged_in w master tablet) ≡ merged_view (view w) master tablet (merge_in (view w) master tablet)
    merged_is = ap (λ (m : Master). view (world_of m)) (with_all_is before copies) ∙ view_is

-- the tablet is that of a row
pub sound_merged : (w : World) (master tablet : ℕ) → IsSound w → MayMergeFormed (view w) master tablet → IsSound (rebuild_merged_in w master tablet)
sound_merged w master tablet sound may =
    let role = gathers_from ((view w).handovers master tablet).role may.may.gathering in
    let found = row_there (view w).rows tablet (sound.roles.known master tablet may.may.lives (ap is_absent role.1)) in
    let number_is : found.0.tablet ≡ tablet = number_of (view w).rows tablet found.0 found.1 in
    rw (← number_is) (subst SoundView (sym (merged_is w master found.0.tablet (sound.nodes.numbered master)))
    (view_merged (view w) (record {
      row = found.0;
      master = master;
      sound = sound;
      has_row = found_stands (view w).rows tablet found.0 found.1;
      may = rw number_is may;
    })))
