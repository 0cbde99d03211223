-- The law of longer logs: if a living master's log has more behind it, all of one row's range, each other row has what it had; and so
-- has what is beside rows. So a change by which a master appends entries is shown by what is to hold of their row.
use Rattle.std.proofs.Common.{◌≡◌, ◌<◌, ◌≤◌, ◌-◌, ◌⊎◌, ℕ, suc, max, true, false, List, [], ◌∷◌, ◌++◌, length, refl, sym, ap, ◌∙◌, subst}
use Rattle.std.proofs.Common.{⊎_elim, arith, is_some, slice_get, drop, take, All, Contains, length-append, inl, inr, slice_index_or, IfSome}
use Rattle.std.proofs.Common.{Some, Some}
use Rattle.rk_inv_base.proofs.Words.{cases_eq, cases_lt, both_ways, false≢true, All-append, All-contains, All-head}
use Rattle.rk_inv_base.proofs.Words.{All-tail, All-weaker, IfSome_then, hash_of, has_all, meets, Call, Member, Node, Range, Entry, Handover}
use Rattle.rk_inv_base.proofs.Words.{is_absent, lineage_of, row_of, Phase, Rebuilding, Row, Known, Log, known_of, EntryEnd, Body}
use Rattle.rk_inv_base.proofs.Words.{CopySegment, Got, Pulled, first_of, counting, may_have_staged, unmarked_from, own_place, side_entries}
use Rattle.rk_inv_base.proofs.Words.{material_of, Written, applied_entries, member_material, member_rest, member_truth, Mark}
use Rattle.rk_inv_base.proofs.Words.{Merged, handed_by, handed_for_grant, target_truth, stored_of, CopyIn, GotAgrees, PulledAgrees}
use Rattle.rk_inv_base.proofs.Words.{HasOwnRange, IsOfRange, IsPieceOf, IsRebuilder, IsRebuildTable, MarkFits, MarkedFit, NeededOf}
use Rattle.rk_inv_base.proofs.Words.{READ_BACKUP, RowIsRebuilt, marked_entries, member_marked, member_stored, merged_place, stored_count}
use Rattle.rk_inv_base.proofs.Words.{IsBare, MembersFit, NamedFit, FirstIsDone, EachHasCall, OnlyIsUnnamed, Waits, IsPlaced, IsEntryWithin}
use Rattle.rk_inv_base.proofs.Words.{IsOfWholeRows, View, truths, rests, SoundView, CoverOf, LogsOf, slice_get_front, joined_from}
use Rattle.rk_inv_base.proofs.Words.{Completions, Gather, Ended, Tablet, take-append-le, get, slice_get_within, false_from_ne_true, EachIn}
use Rattle.rk_inv_base.proofs.Words.{HasItems, IsMaster, IsMergedOf, Message, has_all_items, is_idle, post_of, as_entries, closing_carried}
use Rattle.rk_inv_tablets.proofs.Words.{member as member_at, truth_by, truth_is, piece_push, IsRebuilderIn, former_gone, mark_same}
use Rattle.rk_inv_tablets.proofs.Words.{IsBareOf, waits_then, applied_within, Extends, extends_behind, tells_extended, rows_apart}
use Rattle.rk_inv_tablets.proofs.Words.{same_number, meets_either, stands_found, target_truth_same, SaysIn, SoundRow, row_in, covered_by}
use Rattle.rk_inv_tablets.proofs.Words.{all_by, needed_member, part_weaker, rebuilder_weaker, alone, row_kept, SoundBeside}
use Rattle.rk_inv_base.proofs.views.OwnTablet.{with_tablets}
use Rattle.rk_inv_base.proofs.views.Turned.{IsTurned}
use Rattle.rk_inv_base.proofs.Words.{HandoverFits, IsWithinRows, None, IsKnown, IsStagedEnd, ends_of, ◌≢◌}
use Rattle.rk_inv_tablets.proofs.Words.{by_master, if_master, CountsFor, IsNextOf, SpeaksFor, all_items_same, has_itself}
use Rattle.rk_inv_tablets.proofs.grow.MoreLog.{HasMore, LeavesRange, joined_more, leaves_more, target_leaves, touched_more}
use Rattle.rk_inv_tablets.proofs.grow.MoreLog.{waits_by, rest_by}
use Rattle.rk_inv_tablets.proofs.merge.Pieces.{at_front}
use Rattle.rk_entry.specs.declared.entry.Entry.TheVariants as entries

-- a tablet has the term and range that it had, is absent as it was, and may have staged what it had
pub record SpansAs (old new : Handover) : Type 0 where
  pub term : new.term ≡ old.term
  pub range : new.range ≡ old.range
  pub absent : is_absent new.role ≡ is_absent old.role
  pub stages : may_have_staged old.role ≡ true → may_have_staged new.role ≡ true

-- so beside a row it fits as it did
fits_as : (row : Row) (number : ℕ) (old new : Handover) → SpansAs old new → HandoverFits row number old → HandoverFits row number new
fits_as row number old new spans fits = grind (arith, meets)

-- these are the logs, and this is written, once a living master that has a row's tablet appended to its log what is of the row's range
pub record Growing (v : View) : Type 0 where
  pub row : Row
  pub master : ℕ
  pub logs : ℕ → Log
  pub written : ℕ → Written
  pub sound : SoundView v
  pub has_row : Contains v.rows row
  pub ranges : All (λ r. r.range.first ≤ r.range.last) v.rows
  pub lives : v.live master ≡ true
  pub present : is_absent (v.handovers master row.tablet).role ≡ false
  pub ranged : (v.handovers master row.tablet).range ≡ row.range
  pub logs_are : LogsOf (record v { logs = logs; written = written })
  pub known : (q : ℕ) → (logs q).known ≡ (v.logs q).known
  pub more : (q : ℕ) → HasMore row (v.written q) (written q)
  pub others : (q : ℕ) → (q ≡ master → ⊥) → written q ≡ v.written q
  pub stored : (q : ℕ) (stored : ℕ → List ℕ) → stored_count (v.logs q) stored ≤ stored_count (logs q) stored
  -- no more is needed of another master
  pub needed :
      (x : Row) → Contains v.rows x → (lineage : List Member) (q : ℕ) → (q ≡ master → ⊥) → (end : EntryEnd)
      → NeededOf x written lineage q end → NeededOf x v.written lineage q end

module _ (v : View) (grow : Growing v) where
  abbrev row : Row
  row = grow.row

  abbrev master : ℕ
  master = grow.master

  abbrev logs : ℕ → Log
  logs = grow.logs

  abbrev written : ℕ → Written
  written = grow.written

  -- the view with the longer logs, and nothing else
  abbrev pub grown : View
  grown = record v { logs = logs; written = written }

  -- ---- rows

  -- a row is this one, or it has another number
  pub row_cases : (x : Row) → Contains v.rows x → (x ≡ row) ⊎ (x.tablet ≡ row.tablet → ⊥)
  row_cases x has =
      ⊎_elim (λ (same : x.tablet ≡ row.tablet). inl (same_number v.rows x row grow.sound.rows.apart has grow.has_row same))
      (λ (apart : x.tablet ≡ row.tablet → ⊥). inr apart) (cases_eq x.tablet row.tablet)

  -- no range of a row is empty
  pub some : (x : Row) → Contains v.rows x → x.range.first ≤ x.range.last
  some x has = All-contains (λ (r : Row). r.range.first ≤ r.range.last) v.rows x grow.ranges has

  -- rows of other tablets do not meet it
  pub far : (x : Row) → Contains v.rows x → (x.tablet ≡ row.tablet → ⊥) → meets row.range x.range ≡ false
  far x has apart =
      false_from_ne_true (meets row.range x.range) (λ met. rows_apart v row x grow.sound grow.has_row has (λ same. apart (sym same)) met)

  -- what they see of each log is what they saw
  leaves : (x : Row) → Contains v.rows x → (x.tablet ≡ row.tablet → ⊥) → (q : ℕ) → LeavesRange x.range (v.written q) (written q)
  leaves x has apart q = leaves_more row x.range (far x has apart) (some x has) (v.written q) (written q) (grow.more q)

  -- a dead master is not the master that appends
  pub dead_apart : (q : ℕ) → v.live q ≡ false → q ≡ master → ⊥
  dead_apart q dead at = false≢true (sym dead ∙ ap v.live at ∙ grow.lives)

  pub applies : (q : ℕ) → (v.written q).applied ≤ length (v.written q).entries
  applies q = applied_within (v.logs q) (v.written q) _ (grow.sound.logs.each q)

  -- ---- what counts

  -- what is applied counts as before
  pub truth_same : (range : Range) (member : Member) → member_truth written range member ≡ member_truth v.written range member
  truth_same range member = (grow.more member.master).truth range member.from

  pub truths_same : (x : Row) → truths grown x ≡ truths v x
  truths_same x =
      truth_is v.base written x.range (lineage_of x.phase)
      ∙ ap (λ (sure : Range → Member → List Entry). truth_by v.base sure x.range (lineage_of x.phase)) (λ j range member. truth_same range member j)
      ∙ sym (truth_is v.base v.written x.range (lineage_of x.phase))

  pub target_same : (x : Row) → target_truth written v.handed x x.phase ≡ target_truth v.written v.handed x x.phase
  target_same x = target_truth_same v.written written v.handed x x.phase truth_same

  -- so does what another master has written
  pub material_other : (range : Range) (member : Member) → (member.master ≡ master → ⊥) → member_material written range member ≡ member_material v.written range member
  material_other range member away i =
      let w : Written = grow.others member.master away i in
      material_of range (side_entries w.sides) (unmarked_from w.marks member.from w.entries)

  -- and a member's place is one of its log
  pub placed_more : (members : List Member) → All (IsPlaced v.written) members → All (IsPlaced written) members
  placed_more members was = grind (arith, length-append)

  -- the only member of a lineage has no more Joined
  pub unnamed_more : (range : Range) (lineage : List Member) → OnlyIsUnnamed v.written range lineage → OnlyIsUnnamed written range lineage
  unnamed_more range (only ∷ []) none =
      let w : Written = written only.master in
      let more = grow.more only.master in
      ap (λ (n : ℕ). joined_from range (max only.from n) w.entries) more.applied
      ∙ joined_more row (v.written only.master) w more range (max only.from (v.written only.master).applied) ∙ none
  unnamed_more range _ none = tt

  -- what the first of two members has written counts as before
  abbrev pub SameFirst : Range → List Member → Type 0
  SameFirst range lineage =
      (first last : Member) (others : List Member) → lineage ≡ first ∷ last ∷ others
      → (member_rest written range first ≡ member_rest v.written range first)
      × (member_material written range first ≡ member_material v.written range first)

  -- so it has nothing behind what it has applied
  pub done_more : (range : Range) (lineage : List Member) → SameFirst range lineage → FirstIsDone v.written range lineage → FirstIsDone written range lineage
  done_more range (first ∷ last ∷ others) same done =
      let firsts = same first last others refl in
      record {
        rest = firsts.0 ∙ done.rest;
        all = firsts.1 ∙ done.all ∙ sym (truth_same range first);
      }
  done_more range _ same done = tt

  -- ---- what dead members have in marked pieces

  marked_dead : (range : Range) (member : Member) → v.live member.master ≡ false → member_marked written range member ≡ member_marked v.written range member
  marked_dead range member dead i =
      let w : Written = grow.others member.master (dead_apart member.master dead) i in
      counting range (marked_entries w.marks member.from (drop member.from w.entries))

  material_dead : (range : Range) (member : Member) → v.live member.master ≡ false → member_material written range member ≡ member_material v.written range member
  material_dead range member dead = material_other range member (dead_apart member.master dead)

  stored_after : (range : Range) (member : Member) → Extends (member_stored v.logs v.written v.stored range member) (member_stored logs written v.stored range member)
  stored_after range member =
      let q : ℕ = member.master in
      let stored : ℕ → List ℕ = stored_of v.stored q READ_BACKUP in
      (grow.more q).stored range member.from (stored_count (v.logs q) stored) (stored_count (logs q) stored) (grow.stored q stored)

  -- what they have records no more than before
  pub marked_more : (range : Range) (lineage : List Member) → SameFirst range lineage → MarkedFit v.logs v.written v.stored v.live range lineage → MarkedFit logs written v.stored v.live range lineage
  marked_more range [] same fit = tt
  marked_more range (only ∷ []) same fit = search (marked_dead, material_dead)
  marked_more range (first ∷ last ∷ others) same fit =
      let was : List Entry = member_stored v.logs v.written v.stored range last in
      let new : List Entry = member_stored logs written v.stored range last in
      let own : List Entry = member_material v.written range first in
      let material : member_material written range first ≡ own = (same first last others refl).1 in (
        λ dead.
            rw (marked_dead range first dead, material) (tells_extended (member_marked v.written range first) (own ++ was) (own ++ new)
            (extends_behind own was new (stored_after range last)) (fit.0 dead)),
        λ dead.
            rw (marked_dead range last dead, material, material_dead range last dead) (fit.1 dead),
      )

  -- ---- masters that rebuild

  pub known_same : ◌≡◌ {A = ℕ → Known} (λ q. known_of (logs q) READ_BACKUP) (λ q. known_of (v.logs q) READ_BACKUP)
  known_same i q = known_of (record (logs q) { known = grow.known q i }) READ_BACKUP

  -- a master rebuilds a row, with this of its tablet
  module _ (x : Row) (has : Contains v.rows x) (lineage : List Member) (to : ℕ) (is : x.phase ≡ Rebuilding lineage to) (h : Handover) (c : Completions) (g : Gather) (e : List Ended) where
    -- by this of its own entries, and by what it has written, as far as that is known and needed in the view
    abbrev pub Rebuilds : List Entry → Written → Type 0
    Rebuilds own w =
        IsRebuilder x lineage to (truths v x) own (NeededOf x v.written lineage) (λ q. known_of (v.logs q) READ_BACKUP)
        (λ q. stored_of v.stored q READ_BACKUP) w h c g e (v.records to)

    abbrev pub RebuildsIn : View → Type 0
    RebuildsIn w = IsRebuilderIn w.logs w.written v.stored x lineage to (truths v x) h c g e (v.records to)

    -- it does so with the longer logs, if its own entries count as before
    pub rebuilds_now : member_material written x.range (member_at to (own_place h.role)) ≡ member_material v.written x.range (member_at to (own_place h.role)) → Rebuilds (member_material v.written x.range (member_at to (own_place h.role))) (written to) → RebuildsIn grown
    rebuilds_now same was =
        let own : List Entry = member_material written x.range (member_at to (own_place h.role)) in
        rebuilder_weaker x lineage to (truths v x) own (NeededOf x v.written lineage) (NeededOf x written lineage)
        (λ q. known_of (logs q) READ_BACKUP) (λ q. stored_of v.stored q READ_BACKUP) (written to) h c g e (v.records to)
        (λ q away end needed.
        grow.needed x has lineage q
        (λ at.
        former_gone v grow.sound.roles x has lineage to q is (ap v.live at ∙ grow.lives) away
        (needed_member x written lineage q end needed))
        end needed)
        (rw (known_same, same) was)

    -- as another master than the appending one
    pub rebuilds_other : (to ≡ master → ⊥) → RebuildsIn v → RebuildsIn grown
    rebuilds_other away was =
        let own : Member = member_at to (own_place h.role) in
        rebuilds_now (material_other x.range own away)
        (rw (grow.others to away) was)

    -- what is applied of its entries is what was
    applied_same : applied_entries (written to) ≡ applied_entries (v.written to)
    applied_same =
        (λ i. take ((grow.more to).applied i) ((grow.more to).entries i))
        ∙ take-append-le (v.written to).applied (v.written to).entries (grow.more to).list (applies to)

    -- or for another row
    module _ (apart : x.tablet ≡ row.tablet → ⊥) where
      piece_stays : (made : Merged) (from entry : ℕ) → h.range ≡ x.range → IsPieceOf x.tablet from h made (v.written to) entry → IsPieceOf x.tablet from h made (written to) entry
      piece_stays made from entry range was =
          let w : Written = v.written to in
          let more = grow.more to in
          let past : was.mark.past ≤ length w.entries =
          All-contains (λ (m : Mark). m.past ≤ length w.entries) w.marks was.mark (grow.sound.logs.each to).marked was.marked in
          let marked : Contains (written to).marks was.mark = more.kept was.mark was.marked in
          let alone : All (λ m. m.tablet ≡ x.tablet → m ≡ was.mark) (written to).marks = λ k d inside its.
          ⊎_elim
          (λ (old : Contains w.marks (slice_index_or (written to).marks k d)).
          All-contains (λ m. m.tablet ≡ x.tablet → m ≡ was.mark) w.marks _ was.alone old its)
          (λ (new : (slice_index_or (written to).marks k d).tablet ≡ row.tablet). absurd (apart (sym its ∙ new))) (more.marks k d inside) in
          let last = (leaves x has apart to).touched (suc entry) (rw (← range) was.last) in
          let stands : take (suc entry - was.mark.first) (drop was.mark.first (written to).entries) ≡ as_entries made.copies ++ closing_carried h made ∷ [] =
          ap (λ (list : List Entry). take (suc entry - was.mark.first) (drop was.mark.first list)) more.entries
          ∙ piece_push was.mark.first (suc entry) w.entries more.list (omega (arith, past, was.past_is)) ∙ was.stands in
          let at_end = rw (← range) at last in
          search (marked, alone, stands, at_end, was)

      rebuilds_apart : (own : List Entry) → Rebuilds own (v.written to) → Rebuilds own (written to)
      rebuilds_apart own was =
          let more = grow.more to in
          let from : ℕ = own_place h.role in
          let placed : from ≤ length (written to).entries =
          omega (arith, was.placed, ap (λ (l : List Entry). length l) more.entries, length-append (v.written to).entries more.list) in
          let merged : IfSome (merged_place h.role) (IsMergedOf x.tablet from own h c g e (written to)) =
          IfSome_then (merged_place h.role) was.merged
          (λ entry done. let piece = piece_stays done.merged from entry was.range_is done.piece in search (piece, done)) in
          assumption (
            subst (λ (list : List Entry). IsRebuildTable x.range (truths v x) list (v.records to))
                (λ i. material_of x.range (side_entries (sym more.sides i)) (drop from (sym applied_same i))) was.items,
            rw (← (leaves x has apart to).named from) at was.sides,
          )

      pub rebuilds_beside : RebuildsIn v → RebuildsIn grown
      rebuilds_beside was =
          let own : Member = member_at to (own_place h.role) in
          rebuilds_now ((leaves x has apart to).material own.from) (rebuilds_apart (member_material v.written x.range own) was)

  -- ---- marks

  -- a mark that fits a row does so still, if its piece is last
  pub fits_more : (x : Row) (q : ℕ) (mark : Mark) → LeavesRange x.range (v.written q) (written q) → MarkFits x q (v.handovers q x.tablet) (v.live q) (v.written q) mark → MarkFits x q (v.handovers q x.tablet) (v.live q) (written q) mark
  fits_more x q mark leaves fit = grind (arith, mark_same)

  -- and what it marks has its row's range alone
  pub own_range_more : (range : Range) (q : ℕ) (mark : Mark) → Contains (v.written q).marks mark → HasOwnRange range (v.written q).entries mark → HasOwnRange range (written q).entries mark
  own_range_more range q mark there own = grind (arith, piece_push)

  -- what holds of marks of another tablet that were there holds of all of these
  pub marks_apart : (x : Row) (q : ℕ) (P Q : Mark → Type 0) → (x.tablet ≡ row.tablet → ⊥) → ((mark : Mark) → Contains (v.written q).marks mark → P mark → Q mark) → All (λ mark. mark.tablet ≡ x.tablet → P mark) (v.written q).marks → All (λ mark. mark.tablet ≡ x.tablet → Q mark) (written q).marks
  marks_apart x q P Q apart gives was = grind arith

  -- ---- records

  -- records that had all items of a row have them still, if tablets have the same terms
  pub items_more : (x : Row) (handovers : ℕ → ℕ → Handover) → ((q : ℕ) → (handovers q x.tablet).term ≡ (v.handovers q x.tablet).term) → ((q : ℕ) → v.live q ≡ true → has_all_items (post_of x.phase q) (v.handovers q x.tablet) x.term ≡ true → HasItems x v.written (v.records q)) → (q : ℕ) → v.live q ≡ true → has_all_items (post_of x.phase q) (handovers q x.tablet) x.term ≡ true → HasItems x written (v.records q)
  items_more x handovers same was q lives all =
      IfSome_then (first_of (lineage_of x.phase))
      (was q lives (sym (all_items_same (post_of x.phase q) (handovers q x.tablet) (v.handovers q x.tablet) x.term (same q)) ∙ all))
      (λ member table. rw (truth_same x.range member) table)

  -- ---- what messages say

  pulled_more : (x : Row) (lineage : List Member) (from : Node) (q : ℕ) (pulled : Pulled) → PulledAgrees x v.written v.handovers v.live lineage from q pulled → PulledAgrees x written v.handovers v.live lineage from q pulled
  pulled_more x (source ∷ target ∷ []) from q pulled agrees = search (truth_same, x.range)
  pulled_more x lineage from q pulled agrees = agrees

  got_more : (x : Row) (lineage : List Member) (from : Node) (q : ℕ) (got : Got) → GotAgrees x v.written v.handovers v.live lineage from q got → GotAgrees x written v.handovers v.live lineage from q got
  got_more x (source ∷ target ∷ []) from q got agrees = search (truth_same, x.range)
  got_more x lineage from q got agrees = agrees

  -- no more is needed of a dead master
  copy_more : (x : Row) → Contains v.rows x → (phase : Phase) (copy : CopySegment) → CopyIn x phase v.logs v.written v.stored v.live copy → CopyIn x phase logs written v.stored v.live copy
  copy_more x has phase copy says = grind (arith, part_weaker, known_of, stored_of, dead_apart, known_same)

  -- what a message says of a row it says still
  pub says_more : (x : Row) → Contains v.rows x → (from to : Node) (body : Body) → SaysIn v x from to body → SaysIn grown x from to body
  says_more x has from to body says = grind (arith, if_master, pulled_more, lineage_of, got_more, by_master, copy_more)

  -- ---- another row

  module _ (x : Row) (has : Contains v.rows x) (apart : x.tablet ≡ row.tablet → ⊥) where
    near : (q : ℕ) → LeavesRange x.range (v.written q) (written q)
    near = leaves x has apart

    rest_same : (member : Member) → member_rest written x.range member ≡ member_rest v.written x.range member
    rest_same member =
        let w : Written = written member.master in
        ap (λ (n : ℕ). counting x.range (unmarked_from w.marks (max member.from n) w.entries)) (grow.more member.master).applied
        ∙ (near member.master).rest (max member.from (v.written member.master).applied)

    pub rests_same : rests grown x ≡ rests v x
    rests_same = rest_by v.written written x.range (lineage_of x.phase) rest_same

    first_same : SameFirst x.range (lineage_of x.phase)
    first_same first last others two = (rest_same first, (near first.master).material first.from)

    both_same : truths grown x ++ rests grown x ≡ truths v x ++ rests v x
    both_same = λ i. truths_same x i ++ rests_same i

    members_more : (lineage : List Member) → All (IsPlaced v.written) lineage → MembersFit x v.written v.handovers v.pullings v.records v.handed lineage → MembersFit x written v.handovers v.pullings v.records v.handed lineage
    members_more (source ∷ target ∷ []) placed fit = λ granted.
        let q : ℕ = target.master in
        let from : target.from ≤ length (v.written q).entries =
        All-head (IsPlaced v.written) target [] (All-tail (IsPlaced v.written) source (target ∷ []) placed) in
        rw (truth_same x.range source, (near source.master).material source.from)
        (target_leaves row x.range (far x has apart) (some x has) source.master (member_truth v.written x.range source)
        (member_material v.written x.range source) target.from (v.handovers q x.tablet) (v.pullings q x.tablet) (get v.handed x.tablet)
        (v.records q) (v.written q) (written q) (grow.more q) (applies q) from (fit granted))
    members_more _ placed fit = tt

    names_more : (lineage : List Member) → NamedFit v.written x.range lineage → NamedFit written x.range lineage
    names_more (first ∷ last ∷ []) fit = λ item there.
        rw (truth_same x.range first) (fit item (rw (← (near last.master).named last.from) there))
    names_more _ fit = tt

    rebuilt_more : (phase : Phase) → x.phase ≡ phase → RowIsRebuilt x phase (truths v x) v.logs v.written v.stored v.handovers v.completions v.gathers v.merged v.records v.live → RowIsRebuilt x phase (truths v x) logs written v.stored v.handovers v.completions v.gathers v.merged v.records v.live
    rebuilt_more (Rebuilding lineage to) is fit = (
      λ term.
          rebuilds_beside x has lineage to is (v.handovers to x.tablet) (v.completions to x.tablet) (v.gathers to x.tablet) (v.merged to x.tablet)
          apart (fit.0 term),
      marked_more x.range lineage (λ first last others two. first_same first last others (ap lineage_of is ∙ two)) fit.1,
    )
    rebuilt_more _ is fit = tt

    pub row_more : SoundRow v x → SoundRow grown x
    row_more was =
        let counted : (q : ℕ) → CountsFor v x q → SpeaksFor v x q → IsNextOf grown x (v.handovers q x.tablet).counter = λ q counts says.
        rw both_same (was.counters.counted q counts says) in
        let floor_sent : EachIn (λ n m. IfSome (handed_by x v.handovers m.body) (λ h. IsNextOf grown x h.floor)) v.wire = λ n m there.
        IfSome_then (handed_by x v.handovers m.body) (was.counters.sent n m there) (λ h next. rw both_same next) in
        let floor_granted : IfSome (handed_for_grant x v.handovers v.handed) (λ h. IsNextOf grown x h.floor) =
        IfSome_then (handed_for_grant x v.handovers v.handed) was.counters.granted (λ h next. rw both_same next) in
        assumption (
          placed_more (lineage_of x.phase) was.rows.placed,
          items_more x v.handovers (λ q. refl) was.tables,
          λ (q : ℕ) (counts : CountsFor v x q). rw (← (grow.more q).applied) at (was.roles.fitting q counts),
          rw (← truths_same x) at was.truth,
          rw (← truths_same x, ← rests_same) at was.order,
          rw (← truths_same x) at was.calls.reached,
          rw (← truths_same x) at was.calls.recorded,
          rw (← target_same x) at was.calls.moving,
          rw (← truths_same x) at was.counters.low,
          rw (← target_same x) at was.counters.moving,
          rw (← truths_same x, ← rests_same) at was.rest.goes_on,
          done_more x.range (lineage_of x.phase) first_same was.rest.done,
          unnamed_more x.range (lineage_of x.phase) was.rest.unnamed,
          λ (q : ℕ) (counts : CountsFor v x q) (idles : is_idle (v.handovers q x.tablet).role ≡ true).
              rw (← (grow.more q).applied) at ((near q).touched (v.written q).applied (was.rest.idle q counts idles)),
          members_more (lineage_of x.phase) was.rows.placed was.receives.target,
          names_more (lineage_of x.phase) was.receives.named,
          rw (← truths_same x) at (rebuilt_more x.phase refl was.rebuilds.rebuilt),
          λ (q : ℕ).
              marks_apart x q (MarkFits x q (v.handovers q x.tablet) (v.live q) (v.written q)) (MarkFits x q (v.handovers q x.tablet) (v.live q) (written q))
              apart (λ mark there fit. fits_more x q mark (near q) fit) (was.rebuilds.marks q),
          λ (q : ℕ).
              marks_apart x q (HasOwnRange x.range (v.written q).entries) (HasOwnRange x.range (written q).entries) apart
              (λ mark there own. own_range_more x.range q mark there own) (was.rebuilds.pieces q),
          λ (n : ℕ) (m : Message) (there : get v.wire n ≡ Some m). says_more x has m.from m.to m.body (was.messages n m there),
        )

  -- what is said of rows holds of each row, if it holds of this one and masters have of each other tablet what they had
  pub rows_more : (now : View) (tablet : Tablet) → ((tablets : ℕ → Tablet) → alone grown tablets ≡ alone now tablets) → IsTurned v now master row.tablet tablet → SoundRow now row → All (SoundRow now) v.rows
  rows_more now tablet same_beside turned here =
      all_by _ v.rows
      (λ x has.
      ⊎_elim
      (λ (its : x ≡ row). rw its here)
      (λ (apart : x.tablet ≡ row.tablet → ⊥).
      row_kept grown now x same_beside (λ q. turned.apart q x.tablet (λ at its. apart its)) (row_more x has apart (row_in v grow.sound x has)))
      (row_cases x has))

  -- ---- beside rows

  -- an entry of the row's range lies in rows, and is of whole ones
  within_rows : (e : Entry) → IsOfRange row.range e → IsEntryWithin v.rows e
  within_rows e of = grind (arith, covered_by, hash_of)

  whole_row : (x : Row) → Contains v.rows x → meets x.range row.range ≡ true → has_all row.range x.range ≡ true
  whole_row x has met =
      ⊎_elim
      (λ (same : x ≡ row). ap (λ (r : Row). has_all row.range r.range) same ∙ has_itself row.range)
      (λ (apart : x.tablet ≡ row.tablet → ⊥).
      absurd (both_ways (meets row.range x.range) (far x has apart) (meets_either x.range row.range met)))
      (row_cases x has)

  whole_rows : (e : Entry) → IsOfRange row.range e → IsOfWholeRows v.rows e
  whole_rows (entries.Held held) of = tt
  whole_rows (entries.Carried carried) of = rw of (all_by _ v.rows (λ x has. whole_row x has))
  whole_rows _ of = absurd of

  -- what holds of the entries that were, and of those of the row's range, holds of all of them
  entries_more : (P : Entry → Type 0) (q : ℕ) → ((e : Entry) → IsOfRange row.range e → P e) → All P (v.written q).entries → All P (written q).entries
  entries_more P q gives was =
      let more = grow.more q in
      rw more.entries (All-append P (v.written q).entries more.list was (All-weaker (IsOfRange row.range) P gives more.list more.inside))

  pub cover_more : CoverOf grown
  cover_more =
      let marks : (q : ℕ) → All (λ m. is_some (row_of v.rows m.tablet) ≡ true) (written q).marks = λ q.
      All-weaker _ _ (λ m either.
      ⊎_elim
      (λ (there : Contains (v.written q).marks m).
      All-contains (λ m. is_some (row_of v.rows m.tablet) ≡ true) (v.written q).marks m (grow.sound.cover.marks q) there)
      (λ (its : m.tablet ≡ row.tablet).
      ap (λ (n : ℕ). is_some (row_of v.rows n)) its ∙ ap is_some (stands_found v.rows row grow.sound.rows.apart grow.has_row)) either)
      (written q).marks (grow.more q).marks in
      assumption (
        λ (q : ℕ). entries_more (IsEntryWithin v.rows) q within_rows (grow.sound.cover.entries q),
        λ (q : ℕ). rw (← (grow.more q).sides) at (grow.sound.cover.sides q),
        λ (q : ℕ). entries_more (IsOfWholeRows v.rows) q whole_rows (grow.sound.cover.wholes q),
      )

  -- a call that waits does so still, if its tablet may have such
  pub waits_more : (handovers : ℕ → ℕ → Handover) → ((q r : ℕ) → may_have_staged (v.handovers q r).role ≡ true → may_have_staged (handovers q r).role ≡ true) → (q k : ℕ) (c : Call) → Waits v.rows (v.handovers q) (v.written q) q k c → Waits v.rows (handovers q) (written q) q k c
  waits_more handovers stages q k c was =
      let more = grow.more q in
      waits_by v.rows (v.handovers q) (handovers q) (v.written q) (written q) q k c was (rw more.applied was.behind)
      (ap (λ (l : List Entry). slice_get l k) more.entries ∙ slice_get_front (v.written q).entries more.list k was.entry was.stands)
      (more.marked k (slice_get_within (v.written q).entries k was.entry was.stands) ∙ was.unmarked) (stages q was.row.tablet was.may_stage)

  pub waiting_more : (handovers : ℕ → ℕ → Handover) → ((q r : ℕ) → may_have_staged (v.handovers q r).role ≡ true → may_have_staged (handovers q r).role ≡ true) → (q : ℕ) → v.live q ≡ true → EachIn (λ k c. Waits v.rows (handovers q) (written q) q k c) (v.calls q)
  waiting_more handovers stages q lives k c there = waits_more handovers stages q k c (grow.sound.rest.waiting q lives k c there)

  -- and each entry of a call that is not applied has its call, since those that are new bear a mark
  pub found_more : (q : ℕ) → v.live q ≡ true → EachHasCall (v.calls q) (written q)
  found_more q lives k e behind stands own free =
      let more = grow.more q in
      let w : Written = v.written q in
      ⊎_elim
      (λ (before : k < length w.entries).
      grow.sound.rest.found q lives k e (rw (← more.applied) behind)
      (at_front w.entries more.list k e before (ap (λ (l : List Entry). slice_get l k) (sym more.entries) ∙ stands)) own
      (sym (more.marked k before) ∙ free))
      (λ (past : length w.entries ≤ k). absurd (more.fresh k e past stands own free))
      (cases_lt k (length w.entries))

  -- each master knows of as many backups
  pub known_more : (q : ℕ) → IsMaster v.masters q → length (logs q).known ≡ v.backups
  known_more q there = ap (λ (known : List Known). length known) (grow.known q) ∙ grow.sound.nodes.known q there

  -- a master that made ready for another tablet has as little of it as before
  pub bare_more : (q r : ℕ) → (q ≡ master → r ≡ row.tablet → ⊥) → IsBareOf (v.handovers q r) (v.written q) (v.records q) → IsBareOf (v.handovers q r) (written q) (v.records q)
  bare_more q r apart was =
      ⊎_elim
      (λ (at : q ≡ master).
      let h : Handover = v.handovers q r in
      let more = grow.more q in
      waits_then h.role (λ from. IsBare h.range from (v.written q) (v.records q)) (λ from. IsBare h.range from (written q) (v.records q))
      (λ there from bare.
      let away : meets row.range h.range ≡ false =
      ap (λ (own : Range). meets own h.range) (sym grow.ranged)
      ∙ ap (λ (n : ℕ). meets (v.handovers master row.tablet).range (v.handovers n r).range) at
      ∙ grow.sound.terms.apart master row.tablet r (λ same. apart at (sym same)) grow.present
      (ap (λ (n : ℕ). is_absent (v.handovers n r).role) (sym at) ∙ there) in
      let placed : from ≤ length (written q).entries =
      omega (arith, bare.placed, ap (λ (l : List Entry). length l) more.entries, length-append (v.written q).entries more.list) in
      assumption (touched_more row h.range away (v.written q) (written q) more from bare.nothing)) was)
      (λ (away : q ≡ master → ⊥). rw (grow.others q away) was)
      (cases_eq q master)

  -- beside rows all is sound, if each tablet spans what it did, and what masters have of ends and of records fits
  pub beside_more : (tablets : ℕ → ℕ → Tablet) → ((q r : ℕ) → SpansAs (v.handovers q r) (tablets q r).handover) → ((q r : ℕ) → v.live q ≡ true → All (λ end. IsKnown v.base v.journal end ⊎ IsStagedEnd v.rows (rests grown) q r (tablets q r).handover.term end) (ends_of (tablets q r).completions)) → ((q r : ℕ) → IsBareOf (tablets q r).handover (written q) (v.records q)) → SoundBeside (with_tablets grown tablets)
  beside_more tablets spans known bare =
      let was = grow.sound in
      let cover : CoverOf (with_tablets grown tablets) = assumption (
        cover_more,
        λ (q r : ℕ) (none : row_of v.rows r ≡ None). (spans q r).term ∙ cover_more.unknown q r none,
        λ (q r : ℕ) (begun : 1 ≤ (tablets q r).handover.term).
            subst (IsWithinRows v.rows) (sym (spans q r).range)
            (cover_more.ranges q r (subst (λ (term : ℕ). 1 ≤ term) (spans q r).term begun)),
      ) in
      assumption (
        was,
        cover,
        known,
        bare,
        grow.logs_are,
        known_more,
        found_more,
        λ (q r k : ℕ) (d : Row) (within : k < length v.rows).
            fits_as (slice_index_or v.rows k d) r (v.handovers q r) (tablets q r).handover (spans q r) (was.terms.kept q r k d within),
        λ (q r : ℕ) (there : is_absent (tablets q r).handover.role ≡ false).
            subst (λ (term : ℕ). 1 ≤ term) (sym (spans q r).term) (was.terms.begun q r (sym (spans q r).absent ∙ there)),
        λ (q i j : ℕ) (other : i ≢ j) (i_there : is_absent (tablets q i).handover.role ≡ false) (j_there : is_absent (tablets q j).handover.role ≡ false).
            (λ k. meets ((spans q i).range k) ((spans q j).range k))
            ∙ was.terms.apart q i j other (sym (spans q i).absent ∙ i_there) (sym (spans q j).absent ∙ j_there),
        λ (q r : ℕ) (lives : v.live q ≡ true) (there : is_absent (tablets q r).handover.role ≡ false).
            was.roles.known q r lives (sym (spans q r).absent ∙ there),
        waiting_more (λ q r. (tablets q r).handover) (λ q r. (spans q r).stages),
      )
