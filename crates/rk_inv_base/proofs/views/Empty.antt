-- The world in which nothing has happened is sound, whatever its history starts from, with any number of masters and backups.
use Rattle.rk_inv_base.proofs.Words.{◌≡◌, ℕ, ◌≤◌, false, List, [], length, None, refl, sym, ap, subst, ◌∙◌, arith, All, ◌⊎◌}
use Rattle.rk_inv_base.proofs.Words.{IfSome, flat_map, All-nil, EachIn, Segments, IsInScanOrder, ends_of, Known, known_length, nothing}
use Rattle.rk_inv_base.proofs.Words.{known_of, no_base, Master, new_master, tablet_at, is_absent, Tablet, no_tablet, new_world, backup_at}
use Rattle.rk_inv_base.proofs.Words.{tablet_in, written_by, IsKnown, IsStagedEnd, IsEntryWithin, IsItemWithin, IsOfWholeRows, IsLog}
use Rattle.rk_inv_base.proofs.Words.{stored_of, IsBare, wanted_place, Waits, IsLast, View, view, rests, CoverOf, LogsOf, IsSound}
use Rattle.rk_inv_base.proofs.Words.{EachHasCall, IsWithinRows, false≢true, master_at, new_log, length-replicate}
use Rattle.std.specs.List.Sorted.{IsStrictlySortedBy}
use Rattle.std.proofs.Common.{get_or}
use Rattle.rk_outside.specs.Segments.{bytes_of as stored_bytes}
use Rattle.rk_inv_base.proofs.Base.{view_by_rows}
use Rattle.rk_inv_base.proofs.views.Fresh.{each_fresh, there_fresh, each_backup_fresh}

-- nothing is kept
pub nothing_kept : {X : Type 0} (Fits : ℕ → X → Type 0) → EachIn Fits []
nothing_kept Fits number thing e = absurd (cc)

-- no items are in order
pub in_order_none : IsInScanOrder []
unfolding IsStrictlySortedBy
in_order_none = tt

-- a new log, of which nothing is known, with what was written to it and a backup that stores nothing
pub log_empty : (known : List Known) (stored : ℕ → ℕ → List ℕ) → ((place : ℕ) → get_or known place nothing ≡ nothing) → ((backup segment : ℕ) → stored backup segment ≡ []) → IsLog (new_log known) (written_by (new_master 0 known) []) stored
log_empty known stored nothing_known nothing_stored = grind (arith, known_length, known_of, new_log)

module _ (lane masters backups : ℕ) where
  -- what is seen of such a world
  abbrev new : View
  new = view (new_world lane masters backups)

  -- what holds of a master that has nothing holds of each, and what holds of no tablet holds of what each has of any
  by_master : (P : Master → Type 0) (q : ℕ) → ((known : List Known) → P (new_master q known)) → P (master_at (new_world lane masters backups) q)
  by_master P q here = let fresh = each_fresh lane masters backups q in subst P (sym fresh.is_new) (here fresh.known)

  by_tablet : (P : Tablet → Type 0) (q r : ℕ) → P no_tablet → P (tablet_in (new_world lane masters backups) q r)
  by_tablet P q r here = by_master (λ m. P (tablet_at m r)) q (λ known. here)

  cover_empty : CoverOf new
  cover_empty = record {
    unknown = λ q r none. by_tablet (λ t. t.handover.term ≡ 0) q r refl;
    marks = λ q. All-nil _;
    sent = nothing_kept _;
    ranges = λ q r. by_tablet (λ t. 1 ≤ t.handover.term → IsWithinRows [] t.handover.range) q r (λ some. absurd (omega (arith, some)));
    ordered = nothing_kept _;
    entries = λ q. by_master (λ m. All (IsEntryWithin []) m.log.entries) q (λ known. All-nil _);
    sides = λ q. by_master (λ m. All (IsItemWithin []) (flat_map (λ items. items) m.sides)) q (λ known. All-nil _);
    items = λ q. by_master (λ m. All (IsItemWithin []) m.records) q (λ known. All-nil _);
    wholes = λ q. by_master (λ m. All (IsOfWholeRows []) m.log.entries) q (λ known. All-nil _);
  }

  logs_empty : LogsOf new
  logs_empty = record {
    each = λ q.
        let fresh = each_fresh lane masters backups q in
        subst
        (λ (m : Master). IsLog m.log (written_by m []) (stored_of (backup_at (new_world lane masters backups)) q))
        (sym fresh.is_new)
        (log_empty fresh.known _ fresh.nothing_known
        (λ backup segment. ap (λ (s : Segments). stored_bytes (s q segment)) (each_backup_fresh lane masters backups backup)));
    sent = nothing_kept _;
  }

  -- there is no row, and beside rows nothing is
  pub empty_is_sound : 1 ≤ backups → IsSound (new_world lane masters backups)
  empty_is_sound some = view_by_rows new (record {
    numbered = λ q. by_master (λ m. m.number ≡ q) q (λ known. refl);
    backed = some;
    known_backups = λ q there.
        ap (λ (m : Master). length m.log.known) (there_fresh lane masters backups q there) ∙ length-replicate backups nothing;
    crashed = All-nil _;
    left = λ q dead. absurd (cc);
    rows_apart = tt;
    covered = All-nil _;
    kept = λ q r. All-nil _;
    begun = λ q r. by_tablet (λ t. is_absent t.handover.role ≡ false → 1 ≤ t.handover.term) q r (λ there. absurd (cc there));
    apart = λ q a b unlike first second.
        absurd (by_tablet (λ t. is_absent t.handover.role ≡ false → ⊥) q a (λ there. false≢true (sym there)) first);
    cover = cover_empty;
    has_row = λ q r live there. absurd (by_tablet (λ t. is_absent t.handover.role ≡ false → ⊥) q r (λ there. false≢true (sym there)) there);
    logs = logs_empty;
    legal = tt;
    rising = tt;
    seen = All-nil _;
    once = λ i j a b first second same. absurd (cc);
    known = λ q r live.
        by_tablet (λ t. All (λ end. IsKnown no_base [] end ⊎ IsStagedEnd [] (rests new) q r t.handover.term end) (ends_of t.completions)) q r
        (All-nil _);
    waiting = λ q live.
        by_master (λ m. EachIn (λ place call. Waits [] (new.handovers q) (written_by m []) q place call) m.calls) q (λ known. nothing_kept _);
    are_last = λ q live. by_master (λ m. EachIn (λ place call. IsLast None call) m.calls) q (λ known. nothing_kept _);
    found = λ q live.
        by_master (λ m. EachHasCall m.calls (written_by m [])) q (λ known place entry behind stands is_call unmarked. absurd (cc stands));
    ordered = λ q. by_master (λ m. IsInScanOrder m.records) q (λ known. in_order_none);
    bare = λ q r.
        by_tablet (λ t. IfSome (wanted_place t.handover.role) (λ from. IsBare t.handover.range from (new.written q) (new.records q))) q r tt;
    others = nothing_kept _;
    asked = record {
      last = λ client. tt;
      own_keys = All-nil _;
      recorded = All-nil _;
      after_start = All-nil _;
      once = λ i j a b first second same. absurd (cc);
      sent = nothing_kept _;
      again = nothing_kept _;
    };
  }) (All-nil _)
