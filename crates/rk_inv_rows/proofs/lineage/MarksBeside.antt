-- What the invariant says of another row, of its lineage and of what is rebuilt and marked of it, stays when the marks of a tablet are
-- taken away.
use Rattle.std.proofs.Common.{arith, ◌≡◌, ℕ, ◌+◌, ◌≤◌, Bool, true, false, eqb, List, [], ◌∷◌, Some, refl, sym, ◌∙◌, ⊎_elim, All, drop}
use Rattle.std.proofs.Common.{filter, nat_le, nat_lt, not, slice_get, take, Contains, eqb-true}
use Rattle.rk_inv_base.proofs.Words.{and_parts, cases_Bool, false_from_ne_true, false≢true, All-contains, All-filter, All-weaker}
use Rattle.rk_inv_base.proofs.Words.{IfSome_then, get, meets, Held, Member, Node, Entry, Handover, lineage_of, Phase, Moving, Rebuilding}
use Rattle.rk_inv_base.proofs.Words.{Row, known_of, EntryEnd, Body, Got, Pulled, CopySegment, first_of, is_mark_of, is_marked, unmarked}
use Rattle.rk_inv_base.proofs.Words.{unmarked_from, touches, counting, counts, own_place, Written, member_material, member_truth, Mark}
use Rattle.rk_inv_base.proofs.Words.{Merged, beginning_in, target_truth, stored_of, CopyIn, GotAgrees, PulledAgrees, SaysOf, HasOwnRange}
use Rattle.rk_inv_base.proofs.Words.{IsMergedOf, IsOfRange, IsPieceOf, IsRebuilder, MarkFits, MarkedFit, NeededOf, NeedsEnd, READ_BACKUP}
use Rattle.rk_inv_base.proofs.Words.{RowIsRebuilt, StandsLast, marked_entries, member_given_up, member_marked, merged_place, stored_count}
use Rattle.rk_inv_base.proofs.Words.{IsTarget, MembersFit, NamedFit, FirstIsDone, IsDone, HasItems, View, SoundView, IsNeeded}
use Rattle.rk_inv_rows.proofs.Words.{member as member_at, key_outside, all_by, apart_either, place_of, if_master, Misses, none_touches}
use Rattle.rk_inv_rows.proofs.Words.{one_weaker, part_weaker, filter_stands, marks_taken}
use Rattle.rk_entry.specs.declared.entry.Entry.TheVariants as entries
use Rattle.rk_inv_base.proofs.views.Among.{taken_from, unmarked_place, unmarked_stands}
use Rattle.rk_inv_rows.proofs.lineage.FewerMarks.{free_counts}
use Rattle.rk_inv_rows.proofs.lineage.Untouched.{each_misses}
use Rattle.rk_inv_rows.proofs.lineage.MarksTaken.{apart, fewer, marked_kept, material_kept, named_kept, rest_kept, silent_apart, taken_of}
use Rattle.rk_inv_rows.proofs.lineage.MarksTaken.{truth_kept}

-- what two tests keep is what the test that implies the other keeps
both_kept : {X : Type 0} (p keep : X → Bool) (xs : List X) → ((x : X) → p x ≡ true → keep x ≡ true) → filter p (filter keep xs) ≡ filter p xs
both_kept p keep [] less = refl
both_kept {X} p keep (x ∷ xs) less = grind (arith, false≢true, (both_kept p keep xs less))

module _ (v : View) (row : Row) (sound : SoundView v) (has_row : Contains v.rows row) (other : Row) (has_other : Contains v.rows other) (unlike : other.tablet ≡ row.tablet → ⊥) (some : other.range.first ≤ other.range.last) where
  abbrev now : View
  now = marks_taken v row.tablet row.term

  abbrev old_marks : ℕ → List Mark
  old_marks q = (v.written q).marks

  abbrev new_marks : ℕ → List Mark
  new_marks q = (now.written q).marks

  abbrev stays : Mark → Bool
  stays mark = not (is_mark_of row.tablet row.term mark)

  truth_as : (m : Member) → member_truth now.written other.range m ≡ member_truth v.written other.range m
  truth_as = truth_kept v row sound has_row other has_other unlike some

  material_as : (m : Member) → member_material now.written other.range m ≡ member_material v.written other.range m
  material_as = material_kept v row sound has_row other has_other unlike some

  -- ---- lineages

  done_as : (m : Member) → IsDone v.written other.range m → IsDone now.written other.range m
  done_as m done = search (rest_kept, material_as, truth_as, done.rest, done.all)

  pub done_beside : (l : List Member) → FirstIsDone v.written other.range l → FirstIsDone now.written other.range l
  done_beside (first ∷ last ∷ more) done = done_as first done
  done_beside _ done = tt

  pub named_beside : (l : List Member) → NamedFit v.written other.range l → NamedFit now.written other.range l
  named_beside (first ∷ last ∷ []) fit = λ item stands.
      rw (truth_as first) (fit item
      (rw (← named_kept v row sound has_row other has_other unlike some last.master last.from) stands))
  named_beside _ fit = tt

  pub target_beside : (phase : Phase) → target_truth now.written v.handed other phase ≡ target_truth v.written v.handed other phase
  target_beside (Moving source sfrom target dfrom) = search (beginning_in, truth_as, member_at)
  target_beside _ = refl

  pub items_beside : (records : List Held) → HasItems other v.written records → HasItems other now.written records
  items_beside records = search (first_of, lineage_of, member_truth, truth_as)

  abbrev TargetIn : (ℕ → Written) → (source target : Member) → List Entry → List Entry → Type 0
  TargetIn written source target truth material =
      IsTarget other.range source.master truth material target.from (written target.master) (v.handovers target.master other.tablet)
      (v.pullings target.master other.tablet) (get v.handed other.tablet) (v.records target.master)

  target_as : (source target : Member) (truth material : List Entry) → TargetIn v.written source target truth material → TargetIn now.written source target truth material
  target_as source target truth material is = assumption is

  abbrev Members : (ℕ → Written) → List Member → Type 0
  Members written l = MembersFit other written v.handovers v.pullings v.records v.handed l

  pub members_beside : (l : List Member) → Members v.written l → Members now.written l
  members_beside (source ∷ target ∷ []) fit = search (truth_as, material_as, target_as, member_truth, member_material)
  members_beside _ fit = tt

  -- ---- what has to be read

  given_up_as : (m : Member) → member_given_up now.written other m ≡ member_given_up v.written other m
  given_up_as m =
      grind (arith, counting, marked_entries, both_kept, eqb, nat_lt, eqb-true, and_parts, false_from_ne_true, is_mark_of, nat_le)

  -- an entry that counts for the other row bore no mark if it bears none now
  free_before : (q place : ℕ) (entry : Entry) → slice_get (v.written q).entries place ≡ Some entry → counts other.range entry ≡ true → is_marked (new_marks q) place ≡ false → is_marked (old_marks q) place ≡ false
  free_before q place entry at counted free =
      false_from_ne_true (is_marked (old_marks q) place)
      (λ was.
      let between = apart v row sound has_row other has_other unlike some in
      let silent =
      silent_apart row.range other.range between (apart_either row.range other.range between) some entry
      (taken_of v row sound has_row q place entry at was free) in
      false≢true (sym silent.uncounted ∙ counted))

  -- what counts of a first part is the same
  first_counted : (q from count : ℕ) → counting other.range (unmarked_from (new_marks q) from (take count (v.written q).entries)) ≡ counting other.range (unmarked_from (old_marks q) from (take count (v.written q).entries))
  first_counted q from count = search (free_counts, fewer, taken_from)

  needed_as : (given_up own : List Entry) (q from place : ℕ) (entry : Entry) → IsNeeded other.range given_up own from (now.written q) place entry → IsNeeded other.range given_up own from (v.written q) place entry
  needed_as given_up own q from place entry is =
      assumption (is, free_before q place entry is.stands is.in_range is.unmarked, rw (first_counted q from place) at is.tells)

  needs_end : (given_up own : List Entry) (q from : ℕ) (end : EntryEnd) → NeedsEnd other.range given_up own from (now.written q) end → NeedsEnd other.range given_up own from (v.written q) end
  needs_end given_up own q from end is = search (needed_as given_up own q from is.place is.entry is.needed, is)

  pub needed_beside : (l : List Member) (q : ℕ) (end : EntryEnd) → NeededOf other now.written l q end → NeededOf other v.written l q end
  needed_beside (first ∷ last ∷ []) q end is =
      grind (arith, material_as, given_up_as, needs_end, member_given_up, member_material, is.0, last.master, last.from, is.1)
  needed_beside _ q end none = none

  -- ---- what is rebuilt, and marked

  marked_as : (m : Member) → member_marked now.written other.range m ≡ member_marked v.written other.range m
  marked_as = marked_kept v row sound has_row other has_other unlike some

  pub marked_fit_beside : (l : List Member) → MarkedFit v.logs v.written v.stored v.live other.range l → MarkedFit v.logs now.written v.stored v.live other.range l
  marked_fit_beside l fit = grind (arith, material_as, marked_as, member_marked, member_material, first_counted, stored_count, stored_of)

  -- a mark of the other's tablet stays
  mark_stands : (q : ℕ) (mark : Mark) → Contains (old_marks q) mark → mark.tablet ≡ other.tablet → Contains (new_marks q) mark
  mark_stands q mark stands its = grind (arith, filter_stands, false_from_ne_true, is_mark_of, eqb-true, and_parts, eqb, nat_le)

  piece_as : (to from entry : ℕ) (handover : Handover) (merged : Merged) → IsPieceOf other.tablet from handover merged (v.written to) entry → IsPieceOf other.tablet from handover merged (now.written to) entry
  piece_as to from entry handover merged piece =
      search (mark_stands to piece.mark piece.marked piece.tablet_is, All-filter stays (λ mark. mark.tablet ≡ other.tablet → mark ≡ piece.mark) (old_marks to) piece.alone)

  abbrev MergedIn : (ℕ → Written) → ℕ → ℕ → List Entry → ℕ → Type 0
  MergedIn written to from own entry =
      IsMergedOf other.tablet from own (v.handovers to other.tablet) (v.completions to other.tablet) (v.gathers to other.tablet)
      (v.merged to other.tablet) (written to) entry

  merged_as : (to from : ℕ) (own : List Entry) (entry : ℕ) → MergedIn v.written to from own entry → MergedIn now.written to from own entry
  merged_as to from own entry is = search (piece_as to from entry (v.handovers to other.tablet) is.merged is.piece, is)

  abbrev RebuilderIn : (ℕ → Written) → List Member → ℕ → List Entry → List Entry → Type 0
  RebuilderIn written l to truth own =
      IsRebuilder other l to truth own (NeededOf other written l) (λ q. known_of (v.logs q) READ_BACKUP)
      (λ q. stored_of v.stored q READ_BACKUP) (written to) (v.handovers to other.tablet) (v.completions to other.tablet)
      (v.gathers to other.tablet) (v.merged to other.tablet) (v.records to)

  rebuilder_as : (l : List Member) (to : ℕ) (truth own : List Entry) → RebuilderIn v.written l to truth own → RebuilderIn now.written l to truth own
  rebuilder_as l to truth own is =
      let from : ℕ = own_place (v.handovers to other.tablet).role in
      record {
        range_is = is.range_is;
        gather = is.gather;
        read =
            All-weaker _ _ (λ gathered.
            one_weaker (NeededOf other v.written l gathered.member.master) (NeededOf other now.written l gathered.member.master)
            (known_of (v.logs gathered.member.master) READ_BACKUP) (stored_of v.stored gathered.member.master READ_BACKUP) gathered
            (needed_beside l gathered.member.master))
            (v.gathers to other.tablet).members is.read;
        placed = is.placed;
        merged = IfSome_then (merged_place (v.handovers to other.tablet).role) is.merged (λ entry. merged_as to from own entry);
        items = is.items;
        sides = λ item stands.
            is.sides item
            (rw (← named_kept v row sound has_row other has_other unlike some to from) stands);
        outside = is.outside;
      }

  abbrev RebuiltIn : (ℕ → Written) → List Entry → Phase → Type 0
  RebuiltIn written truth phase =
      RowIsRebuilt other phase truth v.logs written v.stored v.handovers v.completions v.gathers v.merged v.records v.live

  pub rebuilt_beside : (truth : List Entry) (phase : Phase) → RebuiltIn v.written truth phase → RebuiltIn now.written truth phase
  rebuilt_beside truth (Rebuilding l to) fit =
      search (member_at, own_place, material_as, rebuilder_as, member_material, marked_fit_beside, fit.0, fit.1)
  rebuilt_beside truth _ fit = tt

  -- an entry of a rebuild of the row does not touch the other one
  of_misses : (entry : Entry) → IsOfRange row.range entry → touches other.range entry ≡ false
  of_misses (entries.Held held) of = search (key_outside, apart_either, apart, held.table, held.key)
  of_misses (entries.Carried carried) of = grind (arith, meets, apart)
  of_misses _ of = absurd of

  -- so a piece of the other still comes last
  last_as : (q : ℕ) (mark : Mark) → StandsLast other.range (v.written q) mark → StandsLast other.range (now.written q) mark
  last_as q mark last =
      let list : List Entry = drop mark.first (v.written q).entries in
      let missed : All (Misses other.range) (unmarked (old_marks q) mark.first list) =
      each_misses other.range (unmarked (old_marks q) mark.first list) last in
      none_touches other.range (unmarked (new_marks q) mark.first list)
      (all_by (Misses other.range) (unmarked (new_marks q) mark.first list)
      (λ entry stands.
      let is = unmarked_place (new_marks q) mark.first list entry stands in
      ⊎_elim
      (λ (was : is_marked (old_marks q) (mark.first + is.k) ≡ true).
      of_misses entry
      (taken_of v row sound has_row q (mark.first + is.k) entry
      (place_of (v.written q).entries mark.first is.k (mark.first + is.k) entry refl is.at) was is.free))
      (λ (free : is_marked (old_marks q) (mark.first + is.k) ≡ false).
      All-contains (Misses other.range) (unmarked (old_marks q) mark.first list) entry missed
      (unmarked_stands (old_marks q) mark.first is.k list entry is.at free))
      (cases_Bool (is_marked (old_marks q) (mark.first + is.k)))))

  abbrev MarkIn : (ℕ → Written) → ℕ → Mark → Type 0
  MarkIn written q mark = mark.tablet ≡ other.tablet → MarkFits other q (v.handovers q other.tablet) (v.live q) (written q) mark

  pub marks_beside : (q : ℕ) → All (MarkIn v.written q) (old_marks q) → All (MarkIn now.written q) (new_marks q)
  marks_beside q all =
      All-filter stays (MarkIn now.written q) (old_marks q)
      (All-weaker (MarkIn v.written q) (MarkIn now.written q)
      (λ mark fits its. let was = fits its in assumption (last_as q mark was.behind, was)) (old_marks q) all)

  pub pieces_beside : (q : ℕ) → All (λ mark. mark.tablet ≡ other.tablet → HasOwnRange other.range (v.written q).entries mark) (old_marks q) → All (λ mark. mark.tablet ≡ other.tablet → HasOwnRange other.range (v.written q).entries mark) (new_marks q)
  pieces_beside q all =
      All-filter stays (λ mark. mark.tablet ≡ other.tablet → HasOwnRange other.range (v.written q).entries mark) (old_marks q) all

  -- ---- messages

  abbrev Pulls : (ℕ → Written) → List Member → Node → ℕ → Pulled → Type 0
  Pulls written l from q message = PulledAgrees other written v.handovers v.live l from q message

  pulled_as : (l : List Member) (from : Node) (q : ℕ) (message : Pulled) → Pulls v.written l from q message → Pulls now.written l from q message
  pulled_as l from q message agrees = grind (arith, truth_as)

  abbrev Gets : (ℕ → Written) → List Member → Node → ℕ → Got → Type 0
  Gets written l from q message = GotAgrees other written v.handovers v.live l from q message

  got_as : (l : List Member) (from : Node) (q : ℕ) (message : Got) → Gets v.written l from q message → Gets now.written l from q message
  got_as (source ∷ target ∷ []) from q message agrees = search truth_as
  got_as _ from q message agrees = tt

  copy_as : (phase : Phase) (copy : CopySegment) → CopyIn other phase v.logs v.written v.stored v.live copy → CopyIn other phase v.logs now.written v.stored v.live copy
  copy_as (Rebuilding l to) copy said =
      search (part_weaker, known_of, stored_of, needed_beside, said.0, copy.master, copy.segment, copy.bytes, said.1)
  copy_as _ copy said = tt

  abbrev SaysIn : (ℕ → Written) → Node → Node → Body → Type 0
  SaysIn written from to body = SaysOf other v.logs written v.stored v.handovers v.completions v.merged v.live v.handed from to body

  pub says_beside : (from to : Node) (body : Body) → SaysIn v.written from to body → SaysIn now.written from to body
  says_beside from to body said = grind (arith, if_master, pulled_as, lineage_of, got_as, copy_as)
