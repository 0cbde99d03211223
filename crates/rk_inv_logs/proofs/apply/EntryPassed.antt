-- What is seen of a world once the next entry of a master's log is applied and no call ends with it.
use Rattle.std.proofs.Common.{arith, ◌≡◌, ℕ, ◌+◌, None, refl, sym, ap, ◌∙◌, subst}
use Rattle.rk_inv_base.proofs.Words.{get, Entry, apply_entry, with_applied, with_ended, with_entry_item, told_by, marks_of, Master, changed}
use Rattle.rk_inv_base.proofs.Words.{World, master_at, tablet_in, written_by, put, view, IsSound, SoundView}
use Rattle.rk_inv_logs.proofs.Words.{put2_same, put_here, put_is, put_other, put_same, view_master}
use Rattle.rk_inv_logs.specs.apply.Small.{entry_applied, entry_applied_in, with_item_of, with_one_applied, worked_in}
use Rattle.rk_entry.specs.declared.entry.Entry.TheVariants as entries

-- an item goes into the records of a master
pub item_put : (master : Master) (entry : Entry) → with_entry_item master entry ≡ record master { records = with_item_of entry master.records }
item_put master (entries.Held held) = refl
item_put master _ = refl

-- one master has applied one more entry
pub written_now : (w : World) (master : ℕ) (after : Master) → after.log ≡ (master_at w master).log → after.sides ≡ (master_at w master).sides → after.applied ≡ (master_at w master).applied + 1 → (q : ℕ)
    → with_one_applied (view w).written master q ≡ put (view w).written master (written_by after (marks_of w.ledger master)) q
written_now w master after log sides applied q = grind (arith, put_is, view, written_by, marks_of, put_here, put_other)

module _ (w : World) (master : ℕ) (entry : Entry) (none : get (master_at w master).calls (master_at w master).applied ≡ None) where
  abbrev after : Master
  after = record (master_at w master) {
    records = with_item_of entry (master_at w master).records;
    applied = (master_at w master).applied + 1;
  }

  work_is : apply_entry (master_at w master) entry ≡ changed after
  work_is = λ i. with_ended (with_applied (item_put (master_at w master) entry i)) (master_at w master).applied (none i) (told_by entry)

  pub view_passes : view (entry_applied_in w master entry) ≡ entry_applied (view w) master entry
  view_passes = ap (λ worked. view (worked_in w master worked)) work_is
      ∙ view_master w master after 0 (tablet_in w master 0) refl refl (λ r apart. refl)
      ∙ (λ i. record (view w) {
        logs = put_same (view w).logs master i;
        written = λ q. sym (written_now w master after refl refl refl q) i;
        records = put (view w).records master (with_item_of entry ((view w).records master));
        calls = put_same (view w).calls master i;
        handovers = put2_same (view w).handovers master 0 i;
        completions = put2_same (view w).completions master 0 i;
        pullings = put2_same (view w).pullings master 0 i;
        gathers = put2_same (view w).gathers master 0 i;
        merged = put2_same (view w).merged master 0 i;
      })

  pub sound_passed : SoundView (entry_applied (view w) master entry) → IsSound (entry_applied_in w master entry)
  sound_passed sound = subst SoundView (sym view_passes) sound
