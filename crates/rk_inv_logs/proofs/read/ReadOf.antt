-- What a rebuild reads of a member: its own log, where its piece is, and that what it needs is read.
use Rattle.std.proofs.Common.{◌≡◌, ◌≤◌, ◌⊎◌, inl, inr, ℕ, zero, suc, false, List, [], ◌∷◌, ◌++◌, max, Some, None, refl, sym, ap, subst, ◌∙◌}
use Rattle.std.proofs.Common.{arith, ◌==◌, IfSome, drop, All, Contains, flat_map, eq-eqb, eqb-true, append-nil, length, ◌&&◌, ◌<◌, true}
use Rattle.std.proofs.Common.{nat_le, nat_lt, slice_get, le-leb, lt-ltb, Bool, filter, Option, not, option_map}
use Rattle.rk_inv_base.proofs.Words.{flat_map-append, All-contains, All-drop, filter-append, Ended, Member, Range, Entry, Handover, Role}
use Rattle.rk_inv_base.proofs.Words.{lineage_of, Phase, Rebuilding, Row, next_reading, is_member, unmarked_from, counting, counts}
use Rattle.rk_inv_base.proofs.Words.{material_of, named_by, side_entries, with_number, own_place, Written, applied_entries, member_material}
use Rattle.rk_inv_base.proofs.Words.{MayTakeRebuilt, Holds, bond_of, post_of, rebuilder_post, IsMergedOf, MarkedFit, RowIsRebuilt}
use Rattle.rk_inv_base.proofs.Words.{merged_place, IsDone, AreApart, IsFormed, HandoverFits, View, truths, SoundView, Any-from_list_any}
use Rattle.rk_inv_base.proofs.Words.{cases_Bool, LAST_MAIN_SEGMENT, and_from, cases_eq, false≢true, list_any_at, IsLawfulEntry}
use Rattle.rk_inv_base.proofs.Words.{FIRST_SIDE_SEGMENT, cut, ends, IsBackup, Log, known_of, EntryEnd, Gathered, next_segment, side_read}
use Rattle.rk_inv_base.proofs.Words.{is_marked, Mark, IsLog, stored_of, IsGathered, READ_BACKUP, given_up_marks, marked_entries, or_right}
use Rattle.rk_inv_base.proofs.Words.{All-contains_itself, option_or, Gather, next_of, reading_of, names, IsMaster, NeededOf}
use Rattle.rk_inv_base.proofs.Words.{member_given_up}
use Rattle.rk_inv_logs.proofs.Words.{AreReadable, SoundRow, row_in, IsRebuilderIn, rebuilt_at, RebuiltAt, stands_kept, HasMark, mark_of}
use Rattle.rk_inv_logs.proofs.Words.{mark_says, marked_names_none, marked_of_row, IsUnmarked, marked_stands, contains_cases, kept_stands}
use Rattle.rk_inv_logs.proofs.Words.{each_member, members_by, former_gone, before_piece, member_at}
use Rattle.rk_inv_base.proofs.logs.Missed.{Misses, all_names_none, counting_none, unmarked_missed}
use Rattle.rk_inv_logs.proofs.apply.Stagers.{rebuilder_from}
use Rattle.rk_inv_logs.proofs.read.ReadMember.{from_split, IsReadLog, marked_part, marked_read}
use Rattle.rk_inv_logs.proofs.read.ReadLog.{applied_read, main_first, needed_read, none_left, sides_read}
use Rattle.rk_log.specs.Cut.{ends as ends_there}
use Rattle.rk_inv_rows.proofs.lineage.Untouched.{each_misses}
use Rattle.rk_transfer.specs.declared.role.Role.TheVariants as roles

-- ---- members

later_misses : (range : Range) (n m : ℕ) (list : List Entry) → n ≤ m → All (Misses range) (drop n list) → All (Misses range) (drop m list)
later_misses range zero m list behind all = All-drop (Misses range) m list all
later_misses range (suc n) zero list behind all = absurd (omega (arith, behind))
later_misses range (suc n) (suc m) [] behind all = all
later_misses range (suc n) (suc m) (entry ∷ list) behind all = later_misses range n m list (omega (arith, behind)) all

-- entries that miss a range record nothing of it
missed_more : (range : Range) (side : ℕ → List Entry) (list more : List Entry) → range.first ≤ range.last → All (Misses range) more → material_of range side (list ++ more) ≡ material_of range side list
missed_more range side list more some missed =
    grind (arith, counting, filter-append, counts, counting_none, append-nil, named_by, flat_map-append, all_names_none, with_number)

-- a member that has nothing that is not applied is done
done_settled : (written : ℕ → Written) (range : Range) (member : Member) → range.first ≤ range.last → All (Misses range) (drop (written member.master).applied (written member.master).entries) → IsDone written range member
done_settled written range member some missed =
    let its_written : Written = written member.master in
    let place : ℕ = max member.from its_written.applied in
    let behind : All (Misses range) (unmarked_from its_written.marks place its_written.entries) =
    unmarked_missed range its_written.marks place (drop place its_written.entries) (later_misses range its_written.applied place its_written.entries (omega arith) missed) in
    record {
      rest = counting_none range (unmarked_from its_written.marks place its_written.entries) some behind;
      all = ap (material_of range (side_entries its_written.sides)) (from_split its_written.marks member.from its_written.applied its_written.entries)
          ∙ missed_more range (side_entries its_written.sides) (unmarked_from its_written.marks member.from (applied_entries its_written))
          (unmarked_from its_written.marks place its_written.entries) some behind;
    }

-- ---- who rebuilt

-- a rebuild that may be taken, in a sound view whose logs can be read again, of a range that is not empty; no more main segments were
-- gathered than there can be
pub record Taken (v : View) : Type 0 where
  pub row : Row
  pub lineage : List Member
  pub to : ℕ
  pub place : ℕ
  pub ends : List Ended
  pub sound : SoundView v
  pub readable : AreReadable v.logs v.written
  pub some : row.range.first ≤ row.range.last
  pub few : All (λ gathered. length gathered.main ≤ LAST_MAIN_SEGMENT) (v.gathers to row.tablet).members
  pub may : MayTakeRebuilt v row lineage to place ends

module _ (v : View) (t : Taken v) where
  abbrev its_written : Written
  its_written = v.written t.to

  abbrev builder : Handover
  builder = v.handovers t.to t.row.tablet

  -- what is said of the row
  pub its_row : SoundRow v t.row
  its_row = row_in v t.sound t.row t.may.has_row

  in_phase : (P : Phase → Type 0) → P t.row.phase → P (Rebuilding t.lineage t.to)
  in_phase P = subst P t.may.phase_is

  pub in_lineage : (P : List Member → Type 0) → P (lineage_of t.row.phase) → P t.lineage
  in_lineage P = subst P (ap lineage_of t.may.phase_is)

  at : RebuiltAt builder.role its_written.applied t.place
  at = rebuilt_at builder.role its_written.applied t.place t.may.rebuilt

  pub apart : AreApart t.lineage
  apart = in_phase IsFormed its_row.rows.formed

  -- what the row says of its master
  rebuilt : RowIsRebuilt t.row (Rebuilding t.lineage t.to) (truths v t.row) v.logs v.written v.stored v.handovers v.completions v.gathers v.merged v.records v.live
  rebuilt = grind (arith, in_phase, truths, its_row)

  pub rebuilder : IsRebuilderIn v.logs v.written v.stored t.row t.lineage t.to (truths v t.row) (v.handovers t.to t.row.tablet) (v.completions t.to t.row.tablet) (v.gathers t.to t.row.tablet) (v.merged t.to t.row.tablet) (v.records t.to)
  rebuilder = rebuilt.0 t.may.term_is

  pub marked_fit : MarkedFit v.logs v.written v.stored v.live t.row.range t.lineage
  marked_fit = rebuilt.1

  -- what it merged
  abbrev RebuiltBy : Role → Type 0
  RebuiltBy role =
      IfSome (merged_place role) (λ entry.
      IsMergedOf t.row.tablet (own_place role) (member_material v.written t.row.range (member_at t.to (own_place role))) builder
      (v.completions t.to t.row.tablet) (v.gathers t.to t.row.tablet) (v.merged t.to t.row.tablet) its_written entry)

  merged_is : IsMergedOf t.row.tablet t.place (member_material v.written t.row.range (member_at t.to t.place)) builder (v.completions t.to t.row.tablet) (v.gathers t.to t.row.tablet) (v.merged t.to t.row.tablet) its_written at.entry
  merged_is = subst RebuiltBy at.role_is rebuilder.merged

  pub gathered_all : next_reading (v.gathers t.to t.row.tablet) ≡ None
  gathered_all = merged_is.gathered_all

  -- where its own entries begin
  pub own_is : own_place (v.handovers t.to t.row.tablet).role ≡ t.place
  own_is = ap own_place at.role_is

  -- nothing of the range is behind what is applied
  pub own_done : IsDone v.written t.row.range (member_at t.to t.place)
  own_done =
      let same : builder.range ≡ t.row.range =
      (All-contains (λ (r : Row). HandoverFits r t.row.tablet builder) v.rows t.row (t.sound.terms.kept t.to t.row.tablet) t.may.has_row).exact refl
      t.may.term_is in
      let missed = each_misses t.row.range (drop (suc at.entry) its_written.entries) (rw same at merged_is.piece.last) in
      done_settled v.written t.row.range (member_at t.to t.place) t.some
      (later_misses t.row.range (suc at.entry) its_written.applied its_written.entries (omega (arith, at.within)) missed)

  -- it is a member at that place, or of no lineage
  pub own_stands : (is_member t.lineage t.to ≡ false) ⊎ Contains t.lineage (member_at t.to t.place)
  own_stands =
      let fits : Holds (bond_of (post_of t.row.phase t.to) builder.role) t.row.term builder.term its_written.applied =
      its_row.roles.fitting t.to (inr t.may.term_is) in
      let by_post : Holds (bond_of (rebuilder_post t.lineage t.to) (roles.Rebuilding t.place (Some at.entry))) t.row.term builder.term its_written.applied =
      rw (eq-eqb t.to t.to refl) at
      (rw at.role_is at (in_phase (λ (p : Phase). Holds (bond_of (post_of p t.to) builder.role) t.row.term builder.term its_written.applied) fits)) in
      elim (cases_Bool (is_member t.lineage t.to)) [
        | inl is ↦
            let found = Any-from_list_any (λ (m : Member). m.master == t.to) t.lineage is in
            let there : Contains t.lineage found.1 = (found.0, found.2, found.3) in
            let same : found.1.master ≡ t.to = eqb-true found.1.master t.to found.4 in
            let from =
            rebuilder_from t.lineage t.to t.row.term builder.term its_written.applied t.place (Some at.entry) apart t.may.term_is by_post found.1 there same in
            inr (subst (Contains t.lineage) (λ i. member_at (same i) (sym from i)) there)
        | inr outside ↦ inl outside
      ]

-- ---- marks

-- a place that a mark covers is marked
marked_here : (marks : List Mark) (mark : Mark) (place : ℕ) → Contains marks mark → mark.first ≤ place → place < mark.past → is_marked marks place ≡ true
marked_here marks mark place at from before = grind (arith, list_any_at, nat_le, nat_lt, and_from, le-leb, lt-ltb)

module _ (v : View) (sound : SoundView v) (readable : AreReadable v.logs v.written) (row : Row) (has : Contains v.rows row) (some : row.range.first ≤ row.range.last) (gathered : Gathered) where
  abbrev m : Member
  m = gathered.member

  abbrev w : Written
  w = v.written gathered.member.master

  abbrev log : Log
  log = v.logs gathered.member.master

  abbrev pub main_of : List Entry
  main_of = flat_map (λ (list : List Entry). list) gathered.main

  kept : IsLog (v.logs gathered.member.master) (v.written gathered.member.master) (stored_of v.stored gathered.member.master)
  kept = sound.logs.each gathered.member.master

  lawful : All IsLawfulEntry (v.logs gathered.member.master).entries
  lawful = rw kept.entries_are (readable.entries gathered.member.master)

  -- a marked entry that counts comes behind each unmarked one that counts, by its mark
  marked_last : (place : ℕ) (entry : Entry) → slice_get w.entries place ≡ Some entry → is_marked w.marks place ≡ true → counts row.range entry ≡ true → (other : Entry) → (is : IsUnmarked w.marks m.from w.entries other) → counts row.range other ≡ true → is.place < place
  marked_last place entry at marked inside other is counted =
      let found : HasMark w.marks place = mark_of w.marks place marked in
      let its = marked_of_row v sound m.master place entry at found row has some inside in
      let says = mark_says v sound m.master place entry at found row has its in
      let early = before_piece row.range w found.mark m.from other some says.behind is counted in
      omega (arith, early, found.from)

  module _ (Needed : EntryEnd → Type 0) (backed : IsBackup (v.logs gathered.member.master) READ_BACKUP) (fits : length gathered.main ≤ LAST_MAIN_SEGMENT) (read : IsGathered Needed (known_of (v.logs gathered.member.master) READ_BACKUP) (stored_of v.stored gathered.member.master READ_BACKUP) gathered) (none : next_segment row.range gathered ≡ None) where
    room : length (cut (v.logs gathered.member.master).entries) < FIRST_SIDE_SEGMENT
    room = omega (arith, readable.room gathered.member.master)

    -- what was read of the member
    pub log_read : IsReadLog row.range gathered.member.from (v.written gathered.member.master) main_of (side_read gathered)
    log_read =
        let left = none_left row.range gathered none in
        let firsts = main_first log w (stored_of v.stored m.master) kept backed room Needed gathered read fits lawful left.0 in
        record {
          more = firsts.0;
          parts = firsts.1;
          enough = applied_read log w (stored_of v.stored m.master) kept backed room Needed gathered read fits lawful left.0;
          sides = sides_read log w (stored_of v.stored m.master) kept backed room Needed gathered read fits lawful left.0
              (readable.items m.master) row.range left.1;
          bare = λ place entry at marked. marked_names_none v sound m.master place entry at (mark_of w.marks place marked) row.range;
          last = marked_last;
        }

    -- an entry that is needed was read
    pub needed_within : (place : ℕ) (end : EntryEnd) → slice_get (ends (v.written gathered.member.master).entries) place ≡ Some end → Needed end → place < length main_of
    needed_within place end at needed = needed_read log w (stored_of v.stored m.master) kept backed room Needed gathered read fits lawful
        (none_left row.range gathered none).0 place end (ap (λ (list : List Entry). slice_get (ends list) place) kept.entries_are ∙ at)
        needed

    -- what was read that bears a mark is of rebuilds that were given up, if another master rebuilds the row now
    pub given_up_read : (lineage : List Member) (to : ℕ) → row.phase ≡ Rebuilding lineage to → (gathered.member.master ≡ to → ⊥) → (entry : Entry) → Contains (marked_part row.range gathered.member.from (v.written gathered.member.master) main_of) entry → Contains (counting row.range (marked_entries (given_up_marks row (v.written gathered.member.master).marks) gathered.member.from (drop gathered.member.from (v.written gathered.member.master).entries))) entry
    given_up_read lineage to is away entry at =
        let one = marked_read row.range m.from w main_of (side_read gathered) log_read entry at in
        let found : HasMark w.marks one.place = mark_of w.marks one.place one.marked in
        let its = marked_of_row v sound m.master one.place entry one.stands found row has some one.inside in
        let says = mark_says v sound m.master one.place entry one.stands found row has its in
        let less : found.mark.term < row.term = elim (cases_eq found.mark.term row.term) [
          | inl same ↦ absurd (away (rebuilds (sym (says.by_rebuilder same).0 ∙ is)))
          | inr other ↦ below says.within other
        ] in
        let kept_mark : Contains (given_up_marks row w.marks) found.mark =
        stands_kept (λ (mark : Mark). mark.tablet == row.tablet && nat_lt mark.term row.term) w.marks found.mark found.here
        (and_from (found.mark.tablet == row.tablet) (nat_lt found.mark.term row.term) (eq-eqb found.mark.tablet row.tablet its)
        (lt-ltb found.mark.term row.term less)) in
        marked_stands (given_up_marks row w.marks) row.range m.from w.entries one.place entry one.behind one.stands
        (marked_here (given_up_marks row w.marks) found.mark one.place kept_mark found.from found.before) one.inside
      where
        rebuilds : {a b : List Member} {p q : ℕ} → Rebuilding a p ≡ Rebuilding b q → p ≡ q
        rebuilds e = cc e

        below : {a b : ℕ} → a ≤ b → (a ≡ b → ⊥) → a < b
        below le ne = omega (arith, le, ne)

-- ---- nothing is left to read of each

none_either : {X : Type 0} (f : ℕ → X) (a : Option ℕ) (b : Option X) → option_or (option_map f a) b ≡ None → (a ≡ None) × (b ≡ None)
none_either f None b none = (refl, none)
none_either f (Some n) b none = absurd (cc none)

each_none : (range : Range) (members : List Gathered) → next_of range members ≡ None → (gathered : Gathered) → Contains members gathered → next_segment range gathered ≡ None
each_none range [] none gathered at = absurd (omega (arith, at.1))
each_none range (first ∷ others) none gathered at =
    let parts = none_either (reading_of first) (next_segment range first) (next_of range others) none in
    elim (contains_cases first others gathered at) [
      | inl same ↦ ap (next_segment range) (sym same) ∙ parts.0
      | inr later ↦ each_none range others parts.1 gathered later
    ]

module _ (v : View) (t : Taken v) (gathered : Gathered) (there : Contains (v.gathers t.to t.row.tablet).members gathered) where
  abbrev its_member : Member
  its_member = gathered.member

  abbrev gather : Gather
  gather = v.gathers t.to t.row.tablet

  abbrev is_read : Member → Bool
  is_read member = not (member.master == t.to)

  -- it is another member of the lineage
  stands : Contains (filter is_read t.lineage) gathered.member
  stands = All-contains (λ (g : Gathered). Contains (filter is_read t.lineage) g.member) gather.members gathered
      (members_by (Contains (filter is_read t.lineage)) gather.members
      (rw (rebuilder v t).gather.members_are (All-contains_itself (filter is_read t.lineage)))) there

  pub in_members : Contains t.lineage gathered.member
  in_members = (kept_stands is_read t.lineage gathered.member stands).0

  pub away : gathered.member.master ≡ t.to → ⊥
  away same = false≢true (sym (ap not (eq-eqb its_member.master t.to same)) ∙ (kept_stands is_read t.lineage gathered.member stands).1)

  is_one : is_member t.lineage gathered.member.master ≡ true
  is_one = All-contains (λ (member : Member). is_member t.lineage member.master ≡ true) t.lineage its_member (each_member t.lineage) in_members

  -- which has crashed
  pub dead : v.live gathered.member.master ≡ false
  dead = elim (cases_Bool (v.live its_member.master)) [
    | inl lives ↦ absurd (former_gone v t.sound.roles t.row t.may.has_row t.lineage t.to its_member.master t.may.phase_is lives away is_one)
    | inr e ↦ e
  ]

  backed : IsBackup (v.logs gathered.member.master) READ_BACKUP
  backed =
      let master : IsMaster v.masters its_member.master =
      (its_row v t).nodes its_member.master
      (ap (λ (phase : Phase). names phase its_member.master) t.may.phase_is ∙ or_right (t.to == its_member.master) (is_member t.lineage its_member.master) is_one) in
      record { first = omega arith; last = omega (arith, t.sound.nodes.known its_member.master master, t.sound.nodes.backed) }

  pub fits : length gathered.main ≤ LAST_MAIN_SEGMENT
  fits = All-contains (λ (g : Gathered). length g.main ≤ LAST_MAIN_SEGMENT) gather.members gathered t.few there

  pub its_read : IsGathered (NeededOf t.row v.written t.lineage gathered.member.master) (known_of (v.logs gathered.member.master) READ_BACKUP) (stored_of v.stored gathered.member.master READ_BACKUP) gathered
  its_read = grind (arith, known_of, stored_of, rebuilder)

  none : next_segment t.row.range gathered ≡ None
  none = each_none t.row.range gather.members (rw (rebuilder v t).gather.range_is at (gathered_all v t)) gathered there

  pub is_log : IsReadLog t.row.range gathered.member.from (v.written gathered.member.master) (main_of v t.sound t.readable t.row t.may.has_row t.some gathered) (side_read gathered)
  is_log = log_read v t.sound t.readable t.row t.may.has_row t.some gathered (NeededOf t.row v.written t.lineage its_member.master) backed fits its_read none

  -- an entry that is needed was read
  pub needed_in : (n : ℕ) (end : EntryEnd) → slice_get (ends_there (v.written gathered.member.master).entries) n ≡ Some end → NeededOf t.row v.written t.lineage gathered.member.master end → n < length (main_of v t.sound t.readable t.row t.may.has_row t.some gathered)
  needed_in n end at needed = needed_within v t.sound t.readable t.row t.may.has_row t.some gathered (NeededOf t.row v.written t.lineage its_member.master) backed
      fits its_read none n end at needed

  -- what was read that bears a mark is of rebuilds that were given up
  pub given_up : (entry : Entry) → Contains (marked_part t.row.range gathered.member.from (v.written gathered.member.master) (main_of v t.sound t.readable t.row t.may.has_row t.some gathered)) entry → Contains (member_given_up v.written t.row gathered.member) entry
  given_up entry at = given_up_read v t.sound t.readable t.row t.may.has_row t.some gathered (NeededOf t.row v.written t.lineage its_member.master) backed fits
      its_read none t.lineage t.to t.may.phase_is away entry at
