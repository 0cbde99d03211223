-- What a master that crashes had merged of a rebuild records nothing that is not recorded by its own unmarked entries, and by those of the
-- other member that backup 1 stores.
use Rattle.std.proofs.Common.{◌≡◌, ℕ, zero, ◌<◌, ◌≤◌, true, false, ◌&&◌, eqb, leb, List, [], ◌∷◌, ◌++◌, filter, length, refl, sym, ap}
use Rattle.std.proofs.Common.{subst, ◌∙◌, ⊎_elim, arith, ◌-◌, drop, nat_lt, not, slice_index_or, take, ◌==◌, All, Contains, flat_map}
use Rattle.std.proofs.Common.{eq-eqb}
use Rattle.rk_inv_base.proofs.Words.{cases_eq, cases_lt, cond_both, false≢true, or_left, or_right, nat_tests, All-append, All-contains}
use Rattle.rk_inv_base.proofs.Words.{All-contains_itself, Contains-append_left, Contains-append_right, Held, Member, Range, Entry}
use Rattle.rk_inv_base.proofs.Words.{FIRST_SIDE_SEGMENT, is_in, Role, lineage_of, Phase, Rebuilding, Row, known_of, items_in, items_of}
use Rattle.rk_inv_base.proofs.Words.{Gather, Gathered, LAST_MAIN_SEGMENT, counted_of, is_member, unmarked, unmarked_from, touches}
use Rattle.rk_inv_base.proofs.Words.{as_entries, counting, counts, named, side_entries, own_place, Written, member_material, member_truth}
use Rattle.rk_inv_base.proofs.Words.{Mark, stored_of, OnlyRebuilder, FirstRebuilder, LastRebuilder, Holds, bond_of}
use Rattle.rk_inv_base.proofs.Words.{post_of, rebuilder_post, IsGathered, MarkedFit, NeededOf, READ_BACKUP, StandsLast, TellNoMore}
use Rattle.rk_inv_base.proofs.Words.{has_merged, member_marked, member_stored, NamedFit, named_items, View, SoundView}
use Rattle.rk_inv_tablets.proofs.Words.{member as member_at, contains_cases, Extends, counting_extends, drop_extends, extends_behind}
use Rattle.rk_inv_tablets.proofs.Words.{unmarked_extends, kept_stands, stands_kept, members_by, all_by, AreAmong, among_front, among_then}
use Rattle.rk_inv_tablets.proofs.Words.{extended_among, sides_extend, AreReadable, row_in, former_gone}
use Rattle.rk_inv_base.proofs.views.Places.{behind_any}
use Rattle.rk_inv_tablets.proofs.crash.MarkedPieces.{HasMark, mark_of}
use Rattle.rk_inv_tablets.proofs.crash.MergeTells.{IsToldBy, all_stand_told, all_told, held_told, read_all, read_told, stands_told}
use Rattle.rk_inv_tablets.proofs.crash.MergeTells.{told_through}
use Rattle.rk_inv_tablets.proofs.crash.OwnPiece.{own, own_marked_told, read, rebuilt, member_backed}
use Rattle.rk_inv_tablets.proofs.crash.PieceRows.{mark_says, marked_of_row}
use Rattle.rk_inv_tablets.proofs.crash.ReadTold.{AreMarksTold, count_stored, counted_told, side_material}
use Rattle.rk_inv_tablets.proofs.crash.Unmarked.{IsUnmarked, first_among, first_stands, free_place, free_stands, marked_stands}
use Rattle.rk_inv_tablets.proofs.crash.Unmarked.{taken_extends}
use Rattle.rk_inv_tablets.proofs.ready.Outside.{rebuilder_is, only_post, first_post, last_post}
use Rattle.rk_inv_tablets.proofs.ready.OwnItems.{at_place, flat_from, flat_stands, one_stands, two_stand}
use Rattle.rk_entry.specs.declared.entry.Entry.TheVariants as entries
use Rattle.rk_transfer.specs.declared.role.Role.TheVariants as roles

-- ---- places

-- if it merged, the place of a rebuilder is that of the row
place_of_only : (role : Role) (place term kept applied : ℕ) → Holds (bond_of (OnlyRebuilder place) role) term kept applied → kept ≡ term → has_merged role ≡ true → own_place role ≡ place
place_of_only role place term kept applied fits at merged = grind (arith, false≢true)

place_of_first : (role : Role) (place term kept applied : ℕ) → Holds (bond_of (FirstRebuilder place) role) term kept applied → has_merged role ≡ true → own_place role ≡ place
place_of_first (roles.Rebuilding from entry) place term kept applied fits merged = fits.1
place_of_first _ place term kept applied fits merged = absurd (false≢true merged)

place_of_last : (role : Role) (place term kept applied : ℕ) → Holds (bond_of (LastRebuilder place) role) term kept applied → has_merged role ≡ true → own_place role ≡ place
place_of_last (roles.Rebuilding from entry) place term kept applied fits merged = fits.1
place_of_last _ place term kept applied fits merged = absurd (false≢true merged)

-- the post of a member that rebuilds
same_test : (n : ℕ) → (n == n) ≡ true
same_test n = eq-eqb n n refl

-- ---- what is read of other members

-- those of a lineage that are read by a master
abbrev read_by : ℕ → List Member → List Member
read_by master lineage = filter (λ member. not (member.master == master)) lineage

none_by_only : (only member : Member) → Contains (read_by only.master (only ∷ [])) member → ⊥
none_by_only only member at = grind (arith, kept_stands, one_stands, false≢true, same_test)

last_by_first : (first last member : Member) → Contains (read_by first.master (first ∷ last ∷ [])) member → member ≡ last
last_by_first first last member at = grind (arith, kept_stands, two_stand, false≢true, same_test)

first_by_last : (first last member : Member) → Contains (read_by last.master (first ∷ last ∷ [])) member → member ≡ first
first_by_last first last member at = grind (arith, kept_stands, two_stand, false≢true, same_test)

-- ---- side segments

-- what a side segment has are items
held_among : (list : List Held) (entry : Entry) → Contains (as_entries list) entry → (item : Held) × (entries.Held item ≡ entry)
held_among [] entry at = absurd (omega (arith, at.1))
held_among (item ∷ list) entry at =
    ⊎_elim (λ (same : entries.Held item ≡ entry). (item, same)) (λ (later : Contains (as_entries list) entry). held_among list entry later)
    (contains_cases (entries.Held item) (as_entries list) entry at)

pub side_held : (sides : List (List Held)) (number : ℕ) (entry : Entry) → Contains (side_entries sides number) entry → (item : Held) × (entries.Held item ≡ entry)
side_held sides number entry =
    cond_both (nat_lt number FIRST_SIDE_SEGMENT) [] (as_entries (slice_index_or sides (number - FIRST_SIDE_SEGMENT) []))
    (λ list. Contains list entry → (item : Held) × (entries.Held item ≡ entry))
    (λ e at. absurd (omega (arith, at.1)))
    (λ e. held_among (slice_index_or sides (number - FIRST_SIDE_SEGMENT) []) entry)

-- so what counts of those that a member names are its named items
pub sides_named : (range : Range) (m : Member) (w : Written) (entry : Entry) → Contains (side_material range m w) entry → (item : Held) × (entries.Held item ≡ entry) × Contains (named_items range m.from w) item
sides_named range m w entry at =
    let numbers : List ℕ = named range (unmarked_from w.marks m.from w.entries) in
    let kept = kept_stands (counts range) (flat_map (side_entries w.sides) numbers) entry at in
    let of = flat_from (side_entries w.sides) numbers entry kept.0 in
    let found = side_held w.sides of.0 entry of.2 in
    let inside : counts range (entries.Held found.0) ≡ true = ap (counts range) found.1 ∙ kept.1 in
    let its : Contains (items_in entry) found.0 = subst (λ (e : Entry). Contains (items_in e) found.0) found.1 (zero, omega arith, refl) in (
      found.0,
      found.1,
      stands_kept (is_in range) (items_of (flat_map (side_entries w.sides) numbers)) found.0
          (flat_stands items_in (flat_map (side_entries w.sides) numbers) entry found.0 kept.0 its) inside,
    )

-- ---- what counts of a member

pub unmarked_grow : (marks : List Mark) (from : ℕ) (old new : List Entry) → Extends old new → Extends (unmarked_from marks from old) (unmarked_from marks from new)
unmarked_grow marks from old new grown =
    let behind = drop_extends from old grown.more in
    let rest = unmarked_extends marks from (drop from old) behind.more in
    record {
      more = rest.more;
      parts = ap (unmarked_from marks from) grown.parts ∙ ap (unmarked marks from) behind.parts ∙ rest.parts;
    }

-- what is applied records no more than all
truth_among : (written : ℕ → Written) (range : Range) (m : Member) → AreAmong (member_truth written range m) (member_material written range m)
truth_among written range m =
    let w : Written = written m.master in
    let first : List Entry = take w.applied w.entries in
    let old : List Entry = unmarked_from w.marks m.from first in
    let new : List Entry = unmarked_from w.marks m.from w.entries in
    let side : List Entry → List Entry = λ all. counting range (flat_map (side_entries w.sides) (named range all)) in
    let grown : Extends old new = unmarked_grow w.marks m.from first w.entries (taken_extends w.applied w.entries) in
    among_then (counting range old ++ side old) (counting range new ++ side old) (counting range new ++ side new)
    (among_front (counting range old) (counting range new) (side old)
    (extended_among (counting range old) (counting range new)
    (counting_extends range w.marks m.from first w.entries (taken_extends w.applied w.entries))))
    (extended_among (counting range new ++ side old) (counting range new ++ side new)
    (extends_behind (counting range new) (side old) (side new) (sides_extend range (side_entries w.sides) old new grown)))

-- an entry that counts for a range that is not empty touches it
all_meets : (s f l t g m : ℕ) → g ≤ m → (eqb s t && leb f g && leb m l) ≡ true → (eqb s t && leb f m && leb g l) ≡ true
all_meets s f l t g m some all = grind (arith, nat_tests)

pub counts_touches : (range : Range) (entry : Entry) → range.first ≤ range.last → counts range entry ≡ true → touches range entry ≡ true
counts_touches range entry some inside = grind (arith, all_meets, false≢true)

-- if a marked piece is last, all that counts and bears no mark is before it
pub before_piece : (range : Range) (w : Written) (mark : Mark) (from : ℕ) (entry : Entry) → range.first ≤ range.last → StandsLast range w mark → (is : IsUnmarked w.marks from w.entries entry) → counts range entry ≡ true → is.place < mark.first
before_piece range w mark from entry some last is inside =
    ⊎_elim (λ (before : is.place < mark.first). before)
    (λ (behind : mark.first ≤ is.place).
    let all : List Entry = unmarked_from w.marks mark.first w.entries in
    let there = at_place all entry (free_stands w.marks mark.first w.entries entry (record { place = is.place; behind = behind; stands = is.stands; free = is.free })) in
    absurd (false≢true (sym last ∙ behind_any (touches range) all 0 there.0 entry (omega arith) there.1 (counts_touches range entry some inside))))
    (cases_lt is.place mark.first)

-- ---- a master that lives, and rebuilds a row

module _ (v : View) (sound : SoundView v) (readable : AreReadable v.logs v.written) (row : Row) (has : Contains v.rows row) (some : row.range.first ≤ row.range.last) where
  abbrev material : Member → List Entry
  material m = member_material v.written row.range m

  abbrev stored : Member → List Entry
  stored m = member_stored v.logs v.written v.stored row.range m

  abbrev sides : Member → List Entry
  sides m = side_material row.range m (v.written m.master)

  -- what its role is to its post
  role_fits : (lineage : List Member) (q : ℕ) → row.phase ≡ Rebuilding lineage q → v.live q ≡ true → Holds (bond_of (rebuilder_post lineage q) (v.handovers q row.tablet).role) row.term (v.handovers q row.tablet).term (v.written q).applied
  role_fits lineage q is lives = grind (arith, post_of, rebuilder_is, row_in)

  -- a living member is the master that rebuilds
  pub rebuilds_it : (lineage : List Member) (to q : ℕ) → row.phase ≡ Rebuilding lineage to → is_member lineage q ≡ true → v.live q ≡ true → to ≡ q
  rebuilds_it lineage to q is member lives = grind (arith, former_gone, cases_eq)

  -- what is read of a lineage records nothing new, if that holds of its own entries and of those that are read of each other member
  module _ (lineage : List Member) (q : ℕ) (is : row.phase ≡ Rebuilding lineage q) (lives : v.live q ≡ true) (others : List Entry) where
    abbrev gather : Gather
    gather = v.gathers q row.tablet

    abbrev Told : List Entry → Type 0
    Told list = All (IsToldBy others) list

    abbrev IsGatheredOf : Gathered → Member → Type 0
    IsGatheredOf gathered m =
        IsGathered (NeededOf row v.written lineage m.master) (known_of (v.logs m.master) READ_BACKUP) (stored_of v.stored m.master READ_BACKUP) gathered

    all_read_told : (v.handovers q row.tablet).term ≡ row.term
        → Told (own v row lineage q sound has some is lives)
        → ((gathered : Gathered) → Contains gather.members gathered → Contains (read_by q lineage) gathered.member → IsGatheredOf gathered gathered.member → Told (counted_of row.range gathered))
        → TellNoMore (read_all (read v row lineage q sound has some is lives)) others
    all_read_told at of_own each =
        let rebuilder = (rebuilt v row lineage q sound has some is lives).0 at in
        let those = members_by (Contains (read_by q lineage)) gather.members
        (subst (All (Contains (read_by q lineage))) (sym rebuilder.gather.members_are) (All-contains_itself (read_by q lineage))) in
        all_told (read_all (read v row lineage q sound has some is lives)) others
        (read_told others (own v row lineage q sound has some is lives) gather of_own
        (rw rebuilder.gather.range_is (all_by _ gather.members
        (λ gathered there.
        each gathered there
        (All-contains (λ (g : Gathered). Contains (read_by q lineage) g.member) gather.members gathered those there)
        (All-contains (λ (g : Gathered). IsGatheredOf g g.member) gather.members gathered rebuilder.read there)))))

  -- ---- the only member

  pub only_told : (only : Member) → row.phase ≡ Rebuilding (only ∷ []) only.master → v.live only.master ≡ true → TellNoMore (member_marked v.written row.range only) (member_material v.written row.range only)
  only_told only is lives =
      own_marked_told v row (only ∷ []) only.master sound has some is lives (material only)
      (λ at merged.
      all_read_told (only ∷ []) only.master is lives (material only) at
      (rw (place at merged) (all_stand_told (material only) (material only) (λ entry there. there)))
      (λ gathered there other read. absurd (none_by_only only gathered.member other))) only.from
    where
      place : (v.handovers only.master row.tablet).term ≡ row.term → has_merged (v.handovers only.master row.tablet).role ≡ true → own_place (v.handovers only.master row.tablet).role ≡ only.from
      place at merged =
          place_of_only (v.handovers only.master row.tablet).role only.from row.term (v.handovers only.master row.tablet).term (v.written only.master).applied
          (rw (← only_post only only.master refl)
          (role_fits (only ∷ []) only.master is lives))
          at merged

  -- ---- two members

  -- what was gathered of each member has no more main segments than there can be
  abbrev pub AreFew : List Gathered → Type 0
  AreFew members = All (λ gathered. length gathered.main ≤ LAST_MAIN_SEGMENT) members

  -- what counts of the first entries of a member counts of all
  stored_among : (m : Member) (entry : Entry) → Contains (stored m) entry → Contains (material m) entry
  stored_among m entry at =
      let w : Written = v.written m.master in
      let main : List Entry = counting row.range (unmarked_from w.marks m.from w.entries) in
      Contains-append_left main (sides m) entry (first_among w.marks row.range m.from _ w.entries entry at)

  sides_among : (m : Member) (entry : Entry) → Contains (sides m) entry → Contains (material m) entry
  sides_among m entry at =
      let w : Written = v.written m.master in
      Contains-append_right (counting row.range (unmarked_from w.marks m.from w.entries)) (sides m) entry at

  -- if the role has this place, the own entries are those that count of the member
  own_stand : (m : Member) (others : List Entry) → own_place (v.handovers m.master row.tablet).role ≡ m.from → ((entry : Entry) → Contains (material m) entry → Contains others entry) → All (IsToldBy others) (material (member_at m.master (own_place (v.handovers m.master row.tablet).role)))
  own_stand m others same among = rw same (all_stand_told (material m) others among)

  module _ (first last : Member) (apart : first.master ≡ last.master → ⊥) where
    abbrev both : List Member
    both = first ∷ last ∷ []

    is_first : is_member both first.master ≡ true
    is_first = or_left (first.master == first.master) (is_member (last ∷ []) first.master) (same_test first.master)

    is_last : is_member both last.master ≡ true
    is_last =
        or_right (first.master == last.master) (is_member (last ∷ []) last.master)
        (or_left (last.master == last.master) false (same_test last.master))

    -- ---- the first one rebuilds

    module _ (is : row.phase ≡ Rebuilding (first ∷ last ∷ []) first.master) (lives : v.live first.master ≡ true) (dead : v.live last.master ≡ false) (few : AreFew (v.gathers first.master row.tablet).members) where
      abbrev others : List Entry
      others = material first ++ stored last

      first_place : has_merged (v.handovers first.master row.tablet).role ≡ true → own_place (v.handovers first.master row.tablet).role ≡ first.from
      first_place merged =
          place_of_first (v.handovers first.master row.tablet).role first.from row.term (v.handovers first.master row.tablet).term (v.written first.master).applied
          (rw (← first_post first last first.master refl) (role_fits both first.master is lives)) merged

      fit : MarkedFit v.logs v.written v.stored v.live row.range both
      fit = (rebuilt v row both first.master sound has some is lives).1

      named_first : NamedFit v.written row.range both
      named_first =
          subst (λ (phase : Phase). NamedFit v.written row.range (lineage_of phase)) is
          (row_in v sound row has).receives.named

      sides_of_last : All (IsToldBy others) (sides last)
      sides_of_last =
          all_by (IsToldBy others) (sides last)
          (λ entry at.
          let named_it = sides_named row.range last (v.written last.master) entry at in
          let true_of = named_first named_it.0 named_it.2 in
          let own_of = (truth_among v.written row.range first).0 named_it.0 true_of in
          subst (IsToldBy others) named_it.1
          (held_told others named_it.0
          ((extended_among (material first) others (record { more = stored last; parts = refl })).0 named_it.0 own_of)))

      -- behind the entries of a last member is a marked piece, so backup 1 stores them if it stores some of that
      last_stored : (mark : Mark) (place : ℕ) → StandsLast row.range (v.written last.master) mark → mark.first ≤ place → place < count_stored v last → All (IsToldBy others) (material first ++ material last)
      last_stored mark place stands from before =
          let w : Written = v.written last.master in
          let main : List Entry = counting row.range (unmarked_from w.marks last.from w.entries) in
          All-append (IsToldBy others) (material first) (material last)
          (all_stand_told (material first) others (λ entry at. Contains-append_left (material first) (stored last) entry at))
          (All-append (IsToldBy others) main (sides last)
          (all_stand_told main others
          (λ entry at.
          let kept = kept_stands (counts row.range) (unmarked_from w.marks last.from w.entries) entry at in
          let free = free_place w.marks last.from w.entries entry kept.0 in
          let early = before_piece row.range w mark last.from entry some stands free kept.1 in
          Contains-append_right (material first) (stored last) entry
          (first_stands w.marks row.range last.from (count_stored v last) w.entries entry free (omega (arith, early, from, before)) kept.1)))
          sides_of_last)

      last_marks : AreMarksTold v row last others
      last_marks place entry behind before at marked inside =
          let w : Written = v.written last.master in
          let found : HasMark w.marks place = mark_of w.marks place marked in
          let its = marked_of_row v sound last.master place entry at found row has some inside in
          let says = mark_says v sound last.master place entry at found row has its in
          told_through (material first ++ material last) others entry
          (all_told (material first ++ material last) others (last_stored found.mark place says.behind found.from before))
          (told_through (member_marked v.written row.range last) (material first ++ material last) entry (fit.1 dead)
          (stands_told (member_marked v.written row.range last) entry
          (marked_stands w.marks row.range last.from w.entries place entry behind at marked inside)))

      pub first_told : TellNoMore (member_marked v.written row.range first) (member_material v.written row.range first ++ member_stored v.logs v.written v.stored row.range last)
      first_told =
          own_marked_told v row both first.master sound has some is lives others
          (λ at merged.
          all_read_told both first.master is lives others at
          (own_stand first others (first_place merged) (λ entry there. Contains-append_left (material first) (stored last) entry there))
          (λ gathered there other read.
          let same : gathered.member ≡ last = last_by_first first last gathered.member other in
          counted_told v sound readable row last (member_backed v sound row has both first.master is last.master is_last) (NeededOf row v.written both last.master) gathered
          (All-contains (λ (g : Gathered). length g.main ≤ LAST_MAIN_SEGMENT) (v.gathers first.master row.tablet).members gathered few there)
          (subst (IsGatheredOf both first.master is lives others gathered) same read) others
          (all_stand_told (stored last) others (λ entry its. Contains-append_right (material first) (stored last) entry its))
          sides_of_last last_marks same)) first.from

    -- ---- the last one rebuilds

    module _ (is : row.phase ≡ Rebuilding (first ∷ last ∷ []) last.master) (lives : v.live last.master ≡ true) (dead : v.live first.master ≡ false) (few : AreFew (v.gathers last.master row.tablet).members) where
      abbrev all : List Entry
      all = material first ++ material last

      last_place : has_merged (v.handovers last.master row.tablet).role ≡ true → own_place (v.handovers last.master row.tablet).role ≡ last.from
      last_place merged =
          place_of_last (v.handovers last.master row.tablet).role last.from row.term (v.handovers last.master row.tablet).term (v.written last.master).applied
          (rw (← last_post first last last.master apart refl)
          (role_fits both last.master is lives)) merged

      fits : MarkedFit v.logs v.written v.stored v.live row.range both
      fits = (rebuilt v row both last.master sound has some is lives).1

      of_first : (entry : Entry) → Contains (material first) entry → Contains all entry
      of_first entry at = Contains-append_left (material first) (material last) entry at

      of_last : (entry : Entry) → Contains (material last) entry → Contains all entry
      of_last entry at = Contains-append_right (material first) (material last) entry at

      first_marks : AreMarksTold v row first all
      first_marks place entry behind before at marked inside =
          let w : Written = v.written first.master in
          told_through (material first ++ stored last) all entry
          (all_told (material first ++ stored last) all
          (All-append (IsToldBy all) (material first) (stored last) (all_stand_told (material first) all of_first)
          (all_stand_told (stored last) all (λ e its. of_last e (stored_among last e its)))))
          (told_through (member_marked v.written row.range first) (material first ++ stored last) entry (fits.0 dead)
          (stands_told (member_marked v.written row.range first) entry
          (marked_stands w.marks row.range first.from w.entries place entry behind at marked inside)))

      pub last_told : TellNoMore (member_marked v.written row.range last) (member_material v.written row.range first ++ member_material v.written row.range last)
      last_told =
          own_marked_told v row both last.master sound has some is lives all
          (λ at merged.
          all_read_told both last.master is lives all at (own_stand last all (last_place merged) of_last)
          (λ gathered there other read.
          let same : gathered.member ≡ first = first_by_last first last gathered.member other in
          counted_told v sound readable row first (member_backed v sound row has both last.master is first.master is_first) (NeededOf row v.written both first.master) gathered
          (All-contains (λ (g : Gathered). length g.main ≤ LAST_MAIN_SEGMENT) (v.gathers last.master row.tablet).members gathered few there)
          (subst (IsGatheredOf both last.master is lives all gathered) same read) all
          (all_stand_told (stored first) all (λ entry its. of_first entry (stored_among first entry its)))
          (all_stand_told (sides first) all (λ entry its. of_first entry (sides_among first entry its)))
          first_marks same)) last.from
