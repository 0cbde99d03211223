-- The small world is sound: all that is said of rows holds of its one row, and so does what is said beside that.
use Rattle.rk_inv_base.proofs.Words.{◌≡◌, All, IfSome, List, [], ap, arith, drop, false, inl, is_some, length, refl, subst, sym, true, ℕ}
use Rattle.rk_inv_base.proofs.Words.{◌∙◌, ◌≤◌, ◌⊎◌, All-nil, member, AreHandedOver, EachHasCall, EachIn, Entry, HandoverFits, HasItems}
use Rattle.rk_inv_base.proofs.Words.{IsAfterSeen, IsBare, IsInScanOrder, IsKnown, IsLast, IsMaster, IsPlaced, IsSound, IsStagedEnd, Master}
use Rattle.rk_inv_base.proofs.Words.{Post, ReachAll, RoleFits, Says, SentFits, TellAll, Waits, told, asked_by, ends_of, false≢true}
use Rattle.rk_inv_base.proofs.Words.{handed_by, has_all_items, hash_of, is_absent, is_covered, is_idle, is_member, lineage_of, list_any}
use Rattle.rk_inv_base.proofs.Words.{master_at, no_base, no_tablet, post_of, row_of, speaks, tablet_at, touches, wanted_place, written_by}
use Rattle.rk_inv_base.proofs.Words.{written_in, MarkFits, HasOwnRange, records_in}
use Rattle.rk_inv_base.proofs.Base.{IsNextOf, SaysIn, SoundBeside, SoundRow, SpeaksFor, view_by_rows, CountsFor}
use Rattle.rk_inv_base.proofs.example.SmallWorldLooks.{all_one, each_master, each_message, each_none, each_tablet, first_place}
use Rattle.rk_inv_base.proofs.example.SmallWorldLooks.{post_elsewhere}
use Rattle.rk_inv_base.proofs.example.SmallWorldParts.{covered_one, handover_here, handover_nowhere, named_is_there, no_tenure, not_member}
use Rattle.rk_inv_base.proofs.example.SmallWorldParts.{present_one, role_elsewhere, small_cover, low_one, next_one, small_legal, truth_is}
use Rattle.rk_inv_base.proofs.example.SmallWorldParts.{truth_one, items_one, known_one, nothing_full, order_one, reached_one, rest_one}
use Rattle.rk_inv_base.proofs.example.SmallWorldParts.{told_one, reply_one, small_asked}
use Rattle.rk_inv_base.proofs.example.SmallWorldLogs.{small_logs}
use Rattle.rk_inv_base.proofs.example.SmallWorld.{small_append, small_end, small_entry, small_item, small_journal, small_ledger, small_map}
use Rattle.rk_inv_base.proofs.example.SmallWorld.{small_master, small_placed, small_range, small_reply, small_request, small_rests}
use Rattle.rk_inv_base.proofs.example.SmallWorld.{small_row, small_tablet, small_told, small_view, small_world}
use Rattle.rk_inv_base.proofs.views.Empty.{in_order_none}

-- what holds of the master holds of each master that answers calls, or will: no other one does
pub speaking : (P : Master → Type 0) → P small_master → (q : ℕ) → SpeaksFor small_view small_row q → P (master_at small_world q)
speaking P here q =
    each_master (λ n m. speaks (post_of small_row.phase n) (tablet_at m 1).handover 1 ≡ true → P m) (λ says. here)
    (λ n apart says.
    let silent : speaks (post_of small_row.phase n) no_tablet.handover 1 ≡ false =
    ap (λ (post : Post). speaks post no_tablet.handover 1) (post_elsewhere n apart) in
    absurd (false≢true (sym silent ∙ says))) q

-- all that is said of rows holds of the row
pub small_row_is_sound : SoundRow small_view small_row
small_row_is_sound =
    let begun : 1 ≤ small_row.term = omega arith in
    assumption (
      named_is_there,
      all_one (IsPlaced (written_in small_world)) (member 1 0) (omega arith),
      each_message (λ n m. SentFits small_row m.body)
          (no_tenure small_request.body refl) (no_tenure small_append.body refl)
          (no_tenure small_told.body refl) (no_tenure small_reply.body refl),
      λ (q : ℕ) (counts : CountsFor small_view small_row q).
          each_master (λ n m. RoleFits small_row n (tablet_at m 1).handover m.applied) refl role_elsewhere q,
      λ (q : ℕ) (counts : CountsFor small_view small_row q).
          each_master (λ n m. is_member (lineage_of small_row.phase) n ≡ true → (tablet_at m 1).handover.range ≡ small_range) (λ there. refl)
          (λ n apart there. absurd (not_member n apart there)) q,
      truth_one,
      subst (λ (truth : List Entry). TellAll small_range small_journal truth) (sym truth_is) told_one,
      subst (λ (truth : List Entry). All (IsKnown no_base small_journal) (told truth)) (sym truth_is)
          (all_one (IsKnown no_base small_journal) small_end known_one),
      λ (q : ℕ) (counts : CountsFor small_view small_row q).
          speaking (λ m. ReachAll small_range small_journal (ends_of (tablet_at m 1).completions)) reached_one q,
      each_message
          (λ n m. IfSome (handed_by small_row small_view.handovers m.body) (λ h. AreHandedOver no_base small_range small_journal h.ends))
          tt tt tt tt,
      low_one,
      λ (q : ℕ) (counts : CountsFor small_view small_row q).
          speaking (λ m. IsNextOf small_view small_row (tablet_at m 1).handover.counter) next_one q,
      each_message
          (λ n m. IfSome (handed_by small_row small_view.handovers m.body) (λ h. IsNextOf small_view small_row h.floor)) tt tt tt tt,
      rest_one,
      λ (q : ℕ) (counts : CountsFor small_view small_row q).
          each_master
          (λ n m. is_idle (tablet_at m 1).handover.role ≡ true → list_any (touches small_range) (drop m.applied m.log.entries) ≡ false)
          (λ idle. refl) (λ n apart idle. refl) q,
      λ (q : ℕ) (lives : small_view.live q ≡ true).
          each_master
          (λ n m. has_all_items (post_of small_row.phase n) (tablet_at m 1).handover 1 ≡ true → HasItems small_row (written_in small_world) m.records)
          (λ all. items_one) (λ n apart all. absurd (nothing_full n apart all)) q,
      λ (q : ℕ).
          All-nil (λ mark. mark.tablet ≡ 1 → MarkFits small_row q (small_view.handovers q 1) (small_view.live q) (small_view.written q) mark),
      λ (q : ℕ). All-nil (λ mark. mark.tablet ≡ 1 → HasOwnRange small_range (small_view.written q).entries mark),
      each_message (λ n m. SaysIn small_view small_row m.from m.to m.body) tt tt tt tt,
    )

-- and so does what is said beside it: one master with one backup, and nobody was noticed dead
pub small_beside : SoundBeside small_view
small_beside = record {
  numbered = each_master (λ q m. m.number ≡ q) refl (λ q apart. refl);
  backed = omega arith;
  known_backups = each_master (λ q m. IsMaster 1 q → length m.log.known ≡ 1) (λ there. refl)
      (λ q apart there. absurd (apart (omega (arith, there.first, there.last))));
  crashed = All-nil _;
  left = λ q dead. record { master = 1; there = record { first = omega arith; last = omega arith }; lives = refl };
  rows_apart = (tt, tt);
  covered = all_one (λ entry. is_covered small_map entry.call.table (hash_of entry.call.key) ≡ true) small_placed covered_one;
  kept = each_tablet (λ q r tablet. All (λ row. HandoverFits row r tablet.handover) small_map)
      (all_one (λ row. HandoverFits row 1 small_tablet.handover) small_row handover_here)
      (λ q r apart. all_one (λ row. HandoverFits row r no_tablet.handover) small_row (handover_nowhere r));
  begun = each_tablet (λ q r tablet. is_absent tablet.handover.role ≡ false → 1 ≤ tablet.handover.term)
      (λ there. omega arith) (λ q r apart there. absurd (cc));
  apart = λ q a b apart first second. absurd (apart ((present_one q a first).1 ∙ sym (present_one q b second).1));
  cover = small_cover;
  has_row = λ q r live there. ap (λ (t : ℕ). is_some (row_of small_map t)) (present_one q r there).1;
  logs = small_logs;
  legal = small_legal;
  rising = (omega arith, tt);
  seen = all_one (λ placed. IsAfterSeen (asked_by small_ledger placed.call.client) placed) small_placed (λ same. omega arith);
  once = λ i j a b first second same. first_place small_placed a i first ∙ sym (first_place small_placed b j second);
  known = λ q r live. each_tablet
      (λ n t tablet. All (λ end. IsKnown no_base small_journal end ⊎ IsStagedEnd small_map small_rests n t tablet.handover.term end) (ends_of tablet.completions))
      (all_one (λ end. IsKnown no_base small_journal end ⊎ IsStagedEnd small_map small_rests 1 1 1 end) small_end (inl known_one))
      (λ n t apart. All-nil _) q r;
  waiting = λ q live. each_master
      (λ n m. EachIn (λ place call. Waits small_map (λ r. (tablet_at m r).handover) (written_by m []) n place call) m.calls)
      (each_none _) (λ n apart. each_none _) q;
  are_last = λ q live. each_master (λ n m. EachIn (λ place call. IsLast (asked_by small_ledger call.client) call) m.calls)
      (each_none _) (λ n apart. each_none _) q;
  found = λ q live. each_master (λ n m. EachHasCall m.calls (written_by m []))
      (λ place entry behind stands call unmarked. absurd (omega (arith, behind, first_place small_entry entry place stands)))
      (λ n apart place entry behind stands call unmarked. absurd (cc stands)) q;
  ordered = each_master (λ n m. IsInScanOrder m.records) (order_one small_item) (λ n apart. in_order_none);
  bare = each_tablet
      (λ n t tablet. IfSome (wanted_place tablet.handover.role)
      (λ from. IsBare tablet.handover.range from (written_in small_world n) (records_in small_world n)))
      tt (λ n t apart. tt);
  others = each_message (λ n m. Says small_journal m.to m.body) tt tt tt reply_one;
  asked = small_asked;
}

-- so none of the parts contradicts another
pub small_is_sound : IsSound small_world
small_is_sound = view_by_rows small_view small_beside (all_one (SoundRow small_view) small_row small_row_is_sound)
