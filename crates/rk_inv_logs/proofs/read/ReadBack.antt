-- What was gathered for a rebuild gives the truth of the row and a first part of its rest, whoever of the lineage was read and whoever
-- rebuilds.
use Rattle.std.proofs.Common.{◌≡◌, ℕ, List, [], ◌∷◌, filter, map, refl, sym, ◌==◌, not, eq-eqb, ne_eqb, append-nil, ◌⊎◌, max, true, ◌++◌}
use Rattle.std.proofs.Common.{append_assoc, ap, subst, ◌∙◌, arith, drop, take, All, Contains, flat_map, inl, inr, ◌≤◌, ◌<◌, false, length}
use Rattle.std.proofs.Common.{Some, slice_get, ◌≢◌}
use Rattle.rk_inv_base.proofs.Words.{Member, Range, Entry, Gather, Gathered, by_member, counted_of, cases_lt, Contains-append_cases}
use Rattle.rk_inv_base.proofs.Words.{Contains-append_left, Contains-append_right, items_in, told_by, side_read, unmarked_from, counts}
use Rattle.rk_inv_base.proofs.Words.{is_joined_in, joined_from, named, side_entries, Written, applied_entries, member_material, member_rest}
use Rattle.rk_inv_base.proofs.Words.{member_truth, member_marked, View, slice_get-get_or, slice_get_within, Ended, Row, length-ends}
use Rattle.rk_inv_base.proofs.Words.{EntryEnd, LAST_MAIN_SEGMENT, is_marked, stored_of, MayTakeRebuilt, READ_BACKUP, TellsMore}
use Rattle.rk_inv_base.proofs.Words.{member_given_up, member_stored, stored_count, SoundView, or_from, All-cons, All-nil, lineage_of}
use Rattle.rk_inv_base.proofs.Words.{none_stands, is_member, counting, own_place, lineage_rest, lineage_truth, NamedFit, FirstIsDone}
use Rattle.rk_inv_base.proofs.Words.{IsDone, OnlyIsUnnamed, rests, truths, or_parts}
use Rattle.rk_inv_logs.proofs.Words.{behind_at, kept_stands, stands_kept, AreAmong, among_then, flat_from, flat_of, named_from, named_of}
use Rattle.rk_inv_logs.proofs.Words.{free_place, free_stands, taken_at, first_counted, AreReadable, tells_among, sides_named, side_material}
use Rattle.rk_inv_logs.proofs.Words.{first_among, differ, member_at, one_stands, two_stand}
use Rattle.rk_inv_tablets.proofs.crash.ReadTold.{stands_there}
use Rattle.rk_inv_logs.specs.read.ReadBack.{IsReadBack, all_of}
use Rattle.rk_inv_logs.proofs.read.ReadLists.{AreNone, before_has, line_has, read_back, both_told, pieces_among, stand_told, ends_told}
use Rattle.rk_inv_logs.proofs.read.ReadLists.{items_told, Among, told_with_all, each_among, stand_among, items_among}
use Rattle.rk_inv_logs.proofs.read.ReadMember.{IsReadLog, all_read, counted_parts, free_from, free_of_all, free_part, free_parts}
use Rattle.rk_inv_logs.proofs.read.ReadMember.{later_extends, later_part, marked_of_all, marked_part, part_in, side_of_all, side_part}
use Rattle.rk_inv_logs.proofs.read.ReadMember.{truth_in, first_taken}
use Rattle.rk_inv_logs.proofs.read.ReadOf.{is_log, Taken, main_of, given_up, needed_in, away, dead, apart, in_lineage, its_row, marked_fit}
use Rattle.rk_inv_logs.proofs.read.ReadOf.{own_done, own_is, rebuilder, own_stands}
use Rattle.rk_log.specs.Cut.{ends as ends_there}
use Rattle.rk_inv_rows.proofs.lineage.TargetMaterial.{names_joins}

module _ (range : Range) (to : ℕ) (own : List Entry) where
  -- a rebuild of a lineage that gathered these
  abbrev pub gather_of : List Member → List Gathered → Gather
  gather_of lineage members = record { range = range; own = to; lineage = lineage; members = members }

  -- of the master itself its own entries count, of another one what was read of it; if the master is of no lineage, its own ones come
  -- last
  pub only_own : (m : Member) (members : List Gathered) → m.master ≡ to → by_member (gather_of (m ∷ []) members) own ≡ own ∷ []
  only_own m members same = rw (eq-eqb m.master to same) refl

  pub only_read : (g : Gathered) → (g.member.master ≡ to → ⊥) → by_member (gather_of (g.member ∷ []) (g ∷ [])) own ≡ counted_of range g ∷ own ∷ []
  only_read g away =
      rw (ne_eqb g.member.master to away, eq-eqb g.member.master g.member.master refl, append-nil (counted_of range g)) refl

  pub first_own : (m : Member) (g : Gathered) → m.master ≡ to → (g.member.master ≡ to → ⊥) → by_member (gather_of (m ∷ g.member ∷ []) (g ∷ [])) own ≡ own ∷ counted_of range g ∷ []
  first_own m g same away = grind (arith, eq-eqb, ne_eqb, append-nil, counted_of)

  pub last_own : (g : Gathered) (m : Member) → (g.member.master ≡ to → ⊥) → m.master ≡ to → by_member (gather_of (g.member ∷ m ∷ []) (g ∷ [])) own ≡ counted_of range g ∷ own ∷ []
  last_own g m away same = grind (arith, ne_eqb, eq-eqb, append-nil, counted_of)

  pub both_read : (a b : Gathered) → (a.member.master ≡ to → ⊥) → (b.member.master ≡ to → ⊥) → (a.member.master ≡ b.member.master → ⊥) → by_member (gather_of (a.member ∷ b.member ∷ []) (a ∷ b ∷ [])) own ≡ counted_of range a ∷ counted_of range b ∷ own ∷ []
  both_read a b away beside apart = grind (arith, ne_eqb, eq-eqb, append-nil, counted_of)

-- ---- who is read

-- those that were gathered of one member, and of two
pub record OneGathered (members : List Gathered) (m : Member) : Type 0 where
  pub gathered : Gathered
  pub members_are : members ≡ gathered ∷ []
  pub member_is : gathered.member ≡ m

pub one_gathered : (members : List Gathered) (m : Member) → map (λ gathered. gathered.member) members ≡ m ∷ [] → OneGathered members m
one_gathered (g ∷ []) m is = let same : g.member ≡ m = cc is in record { gathered = g; members_are = refl; member_is = same }
one_gathered _ m is = absurd (cc is)

pub record TwoGathered (members : List Gathered) (m n : Member) : Type 0 where
  pub first : Gathered
  pub last : Gathered
  pub members_are : members ≡ first ∷ last ∷ []
  pub first_is : first.member ≡ m
  pub last_is : last.member ≡ n

pub two_gathered : (members : List Gathered) (m n : Member) → map (λ gathered. gathered.member) members ≡ m ∷ n ∷ [] → TwoGathered members m n
two_gathered (g ∷ h ∷ []) m n is = grind (arith, g.member, h.member)
two_gathered _ m n is = absurd (cc is)

-- those of a lineage that another master reads
module _ (to : ℕ) where
  abbrev pub others_of : List Member → List Member
  others_of lineage = filter (λ member. not (member.master == to)) lineage

  pub others_only : (m : Member) → (m.master ≡ to → ⊥) → others_of (m ∷ []) ≡ m ∷ []
  others_only m away = rw (ne_eqb m.master to away) refl

  pub others_first : (m n : Member) → m.master ≡ to → (n.master ≡ to → ⊥) → others_of (m ∷ n ∷ []) ≡ n ∷ []
  others_first m n same away = rw (eq-eqb m.master to same, ne_eqb n.master to away) refl

  pub others_last : (m n : Member) → (m.master ≡ to → ⊥) → n.master ≡ to → others_of (m ∷ n ∷ []) ≡ m ∷ []
  others_last m n away same = rw (ne_eqb m.master to away, eq-eqb n.master to same) refl

  pub others_both : (m n : Member) → (m.master ≡ to → ⊥) → (n.master ≡ to → ⊥) → others_of (m ∷ n ∷ []) ≡ m ∷ n ∷ []
  others_both m n away beside = rw (ne_eqb m.master to away, ne_eqb n.master to beside) refl

-- ---- side segments

-- if no Joined waits, what all entries name the applied ones name
pub sides_applied : (range : Range) (from : ℕ) (w : Written) → joined_from range (max from w.applied) w.entries ≡ [] → (e : Entry) → Contains (side_part range from w w.entries) e → Contains (side_part range from w (applied_entries w)) e
sides_applied range from w none e at =
    let free : List Entry = unmarked_from w.marks from w.entries in
    let sure : List Entry = unmarked_from w.marks from (take w.applied w.entries) in
    let place : ℕ = max from w.applied in
    let kept = kept_stands (counts range) (flat_map (side_entries w.sides) (named range free)) e at in
    let of = flat_from (side_entries w.sides) (named range free) e kept.0 in
    let by = named_from range free of.0 of.1 in
    let is = free_place w.marks from w.entries by.0 by.1 in
    elim (cases_lt is.place w.applied) [
      | inl applied ↦
          let there : Contains sure by.0 =
          free_stands w.marks from (take w.applied w.entries) by.0
          (record {
            place = is.place;
            behind = is.behind;
            stands = taken_at w.entries w.applied is.place by.0 applied is.stands;
            free = is.free;
          }) in
          stands_kept (counts range) (flat_map (side_entries w.sides) (named range sure)) e
          (flat_of (side_entries w.sides) (named range sure) of.0 e (named_of range sure by.0 of.0 there by.2) of.2) kept.1
      | inr waits ↦
          let found = behind_at w.entries place is.place by.0 (omega (arith, is.behind, waits)) is.stands in
          let behind : Contains (drop place w.entries) by.0 = stands_there (drop place w.entries) found.0 by.0 found.1 in
          absurd
          (none_stands by.0
          (rw none at (stands_kept (is_joined_in range) (drop place w.entries) by.0 behind (names_joins range by.0 of.0 by.2))))
    ]

-- ---- one member

module _ (v : View) (t : Taken v) (gathered : Gathered) (there : Contains (v.gathers t.to t.row.tablet).members gathered) where
  abbrev m : Member
  m = gathered.member

  abbrev w : Written
  w = v.written gathered.member.master

  abbrev pub main : List Entry
  main = main_of v t.sound t.readable t.row t.may.has_row t.some gathered

  log : IsReadLog t.row.range gathered.member.from (v.written gathered.member.master) main (side_read gathered)
  log = is_log v t gathered there

  -- the first part of its rest that was read
  abbrev pub part : List Entry
  part = later_part t.row.range gathered.member.from (v.written gathered.member.master) main

  -- what bears a mark, and side segments
  abbrev pub marked : List Entry
  marked = marked_part t.row.range gathered.member.from (v.written gathered.member.master) main

  abbrev sides : List Entry
  sides = side_part t.row.range gathered.member.from (v.written gathered.member.master) main

  abbrev sure : List Entry
  sure = free_part t.row.range gathered.member.from (v.written gathered.member.master) (applied_entries (v.written gathered.member.master))

  parts : counted_of t.row.range gathered ≡ sure ++ (part ++ (marked ++ sides))
  parts = counted_parts t.row.range m.from w main (side_read gathered) log
      ∙ ap (λ (l : List Entry). (l ++ marked) ++ sides) (free_parts t.row.range m.from w main (side_read gathered) log)
      ∙ append_assoc (sure ++ part) marked sides ∙ append_assoc sure part (marked ++ sides)

  -- a marked entry records nothing that others do not, if it records nothing that these and the member do not
  marked_told : (others front : List Entry) → AreAmong (member_marked v.written t.row.range m) (front ++ member_material v.written t.row.range m) → AreAmong front others → AreAmong (free_part t.row.range m.from w main) others
      → AreAmong (side_part t.row.range m.from w w.entries) others → AreAmong marked others
  marked_told others front tells first second third = (
    pieces_among items_in marked (member_marked v.written t.row.range m) front (free_part t.row.range m.from w w.entries) (free_part t.row.range m.from w main)
        (side_part t.row.range m.from w w.entries) others (marked_of_all t.row.range m.from w main (side_read gathered) log) tells.0 first.0 second.0 third.0
        (all_read t.row.range m.from w main (side_read gathered) log),
    pieces_among told_by marked (member_marked v.written t.row.range m) front (free_part t.row.range m.from w w.entries) (free_part t.row.range m.from w main)
        (side_part t.row.range m.from w w.entries) others (marked_of_all t.row.range m.from w main (side_read gathered) log) tells.1 first.1 second.1 third.1
        (all_read t.row.range m.from w main (side_read gathered) log),
  )

  -- what was read and bears no mark is applied, or of the part
  pub free_read : (others : List Entry) → ((e : Entry) → Contains (member_truth v.written t.row.range gathered.member) e → Contains others e) → ((e : Entry) → Contains part e → Contains others e) → (e : Entry)
      → Contains (free_part t.row.range gathered.member.from (v.written gathered.member.master) main) e → Contains others e
  free_read others truths parts e at =
      elim (Contains-append_cases sure part e (free_from t.row.range m.from w main (side_read gathered) log e at)) [
        | inl here ↦ truths e (Contains-append_left sure (side_part t.row.range m.from w (applied_entries w)) e here)
        | inr behind ↦ parts e behind
      ]

  -- of the last member a first part of the rest was read, if the lists before add nothing new, and have all else of the truth
  pub last_back : (truth front : List Entry) (before after : List (List Entry))
      → AreAmong (member_marked v.written t.row.range gathered.member) (front ++ member_material v.written t.row.range gathered.member)
      → AreAmong front (truth ++ part)
      → AreAmong (side_part t.row.range gathered.member.from (v.written gathered.member.master) (v.written gathered.member.master).entries) (truth ++ part)
      → ((e : Entry) → Contains (member_truth v.written t.row.range gathered.member) e → Contains truth e)
      → ((e : Entry) → Contains truth e → Contains (all_of before) e ⊎ Contains (member_truth v.written t.row.range gathered.member) e)
      → All (λ list. AreAmong list (truth ++ part)) before
      → AreNone after
      → IsReadBack truth (member_rest v.written t.row.range gathered.member) (before ++ counted_of t.row.range gathered ∷ after)
  last_back truth front before after tells front_in sides_in has of earlier none =
      let left = later_extends t.row.range m.from w main (side_read gathered) log in
      let in_sure : (e : Entry) → Contains sure e → Contains truth e =
      λ e at. has e (Contains-append_left sure (side_part t.row.range m.from w (applied_entries w)) e at) in
      let free_in : AreAmong (free_part t.row.range m.from w main) (truth ++ part) =
      stand_told (free_part t.row.range m.from w main) (truth ++ part)
      (free_read (truth ++ part) (λ e at. Contains-append_left truth part e (has e at)) (λ e at. Contains-append_right truth part e at)) in
      let of_sides : AreAmong sides (truth ++ part) =
      among_then sides (side_part t.row.range m.from w w.entries) (truth ++ part)
      (stand_told sides (side_part t.row.range m.from w w.entries) (side_of_all t.row.range m.from w main (side_read gathered) log)) sides_in in
      let in_line : (e : Entry) → Contains (counted_of t.row.range gathered) e → Contains (sure ++ (part ++ (marked ++ sides))) e =
      λ e at. subst (λ (l : List Entry). Contains l e) parts at in
      let all_has : (e : Entry) → Contains (truth ++ part) e → Contains (all_of (before ++ (sure ++ (part ++ (marked ++ sides))) ∷ after)) e =
      λ e at. elim (Contains-append_cases truth part e at) [
        | inl its ↦ elim (of e its) [
          | inl early ↦ before_has truth (member_rest v.written t.row.range m) before sure part (marked ++ sides) left.more after e early
          | inr applied ↦ line_has truth (member_rest v.written t.row.range m) before sure part (marked ++ sides) left.more after e
              (in_line e (truth_in t.row.range m.from w main (side_read gathered) log e applied))
        ]
        | inr behind ↦ line_has truth (member_rest v.written t.row.range m) before sure part (marked ++ sides) left.more after e
            (in_line e (part_in t.row.range m.from w main (side_read gathered) log e behind))
      ] in
      rw parts
      (read_back truth (member_rest v.written t.row.range m) before sure part (marked ++ sides) left.more after left.parts all_has in_sure
      earlier (both_told marked sides (truth ++ part) (marked_told (truth ++ part) front tells front_in free_in sides_in) of_sides) none)

  -- what was read of a member adds nothing to entries that have all of the member, if its marked pieces add nothing
  pub first_told : (others : List Entry) → AreAmong marked others → ((e : Entry) → Contains (member_material v.written t.row.range gathered.member) e → Contains others e) → AreAmong (counted_of t.row.range gathered) others
  first_told others tells has =
      let free : List Entry = free_part t.row.range m.from w main in
      let free_all : List Entry = free_part t.row.range m.from w w.entries in
      let side_all : List Entry = side_part t.row.range m.from w w.entries in
      rw (counted_parts t.row.range m.from w main (side_read gathered) log) (both_told (free ++ marked) sides others
      (both_told free marked others
      (stand_told free others
      (λ e at. has e (Contains-append_left free_all side_all e (free_of_all t.row.range m.from w main (side_read gathered) log e at)))) tells)
      (stand_told sides others
      (λ e at. has e (Contains-append_right free_all side_all e (side_of_all t.row.range m.from w main (side_read gathered) log e at)))))

  -- and all of it that is applied was read
  pub truth_read : (e : Entry) → Contains (member_truth v.written t.row.range gathered.member) e → Contains (counted_of t.row.range gathered) e
  truth_read e at = truth_in t.row.range m.from w main (side_read gathered) log e at

-- a rebuild of a lineage, if it may be taken
abbrev taken_by : (v : View) (row : Row) (to place : ℕ) (ends : List Ended) → SoundView v → AreReadable v.logs v.written → row.range.first ≤ row.range.last → All (λ gathered. length gathered.main ≤ LAST_MAIN_SEGMENT) (v.gathers to row.tablet).members → (lineage : List Member) → MayTakeRebuilt v row lineage to place ends → Taken v
taken_by v row to place ends sound readable some few lineage may = record {
  row = row;
  lineage = lineage;
  to = to;
  place = place;
  ends = ends;
  sound = sound;
  readable = readable;
  some = some;
  few = few;
  may = may;
}

module _ (v : View) (row : Row) (a b : Gathered) (to place : ℕ) (ends : List Ended) (sound : SoundView v) (readable : AreReadable v.logs v.written) (some : row.range.first ≤ row.range.last) (few : All (λ gathered. length gathered.main ≤ LAST_MAIN_SEGMENT) (v.gathers to row.tablet).members) (may : MayTakeRebuilt v row (a.member ∷ b.member ∷ []) to place ends) (first : Contains (v.gathers to row.tablet).members a) (last : Contains (v.gathers to row.tablet).members b) where
  abbrev t : Taken v
  t = taken_by v row to place ends sound readable some few (a.member ∷ b.member ∷ []) may

  abbrev last_written : Written
  last_written = v.written b.member.master

  abbrev read_of_last : List Entry
  read_of_last = main v t b last

  abbrev marked_first : List Entry
  marked_first = marked v t a first

  last_log : IsReadLog row.range b.member.from (v.written b.member.master) read_of_last (side_read b)
  last_log = is_log v t b last

  abbrev given : List Entry
  given = member_given_up v.written row a.member

  abbrev own_of_first : List Entry
  own_of_first = member_material v.written row.range a.member

  -- an unmarked entry that records more of what was given up than the entries before it and the first member's was read
  more_read : (n : ℕ) (entry : Entry) → b.member.from ≤ n → slice_get last_written.entries n ≡ Some entry → is_marked last_written.marks n ≡ false → counts row.range entry ≡ true → TellsMore given (own_of_first ++ first_counted row.range b.member.from last_written n) entry → n < length read_of_last
  more_read n entry behind stands free inside tells =
      let none : EntryEnd = record { segment = 0; offset = 0 } in
      let there =
      slice_get-get_or (ends_there last_written.entries) n none (omega (arith, slice_get_within last_written.entries n entry stands, length-ends [] last_written.entries)) in
      needed_in v t b last n _ there (
        refl,
        record { place = n; entry = entry; needed = assumption; ends_there = there },
      )

  -- what was read of the last one are so many first entries
  first_ones : first_counted row.range b.member.from last_written (length read_of_last) ≡ free_part row.range b.member.from last_written read_of_last
  first_ones = ap (free_part row.range b.member.from last_written) (ap (take (length read_of_last)) last_log.parts ∙ first_taken read_of_last last_log.more)

  pub given_up_told : (others : List Entry) → ((entry : Entry) → Contains (member_material v.written row.range a.member) entry → Contains others entry)
      → ((entry : Entry) → Contains (free_part row.range b.member.from (v.written b.member.master) read_of_last) entry → Contains others entry)
      → AreAmong (member_marked v.written row.range a.member) (member_material v.written row.range a.member ++ member_stored v.logs v.written v.stored row.range b.member)
      → AreAmong marked_first others
  given_up_told others owns frees tells = (
    each_among items_in marked_first others (λ entry at x its.
        told_with_all items_told items_in row.range b.member.from last_written (length read_of_last) given own_of_first others (stand_among items_in own_of_first others owns)
        (first_in items_in)
        (λ n e y behind stands free inside here wanted new.
        more_read n e behind stands free inside (inl (record { item = y; here = here; wanted = wanted; new = new }))) x
        (flat_of items_in given entry x (of_given entry at) its) many
        (tells.0 x (flat_of items_in all_marked entry x (of_all entry at) its))),
    each_among told_by marked_first others (λ entry at x its.
        told_with_all ends_told told_by row.range b.member.from last_written (length read_of_last) given own_of_first others (stand_among told_by own_of_first others owns)
        (first_in told_by)
        (λ n e y behind stands free inside here wanted new.
        more_read n e behind stands free inside (inr (record { end = y; here = here; wanted = wanted; new = new }))) x
        (flat_of told_by given entry x (of_given entry at) its) many
        (tells.1 x (flat_of told_by all_marked entry x (of_all entry at) its))),
  )
    where
      many : ℕ
      many = stored_count (v.logs b.member.master) (stored_of v.stored b.member.master READ_BACKUP)

      all_marked : List Entry
      all_marked = member_marked v.written row.range a.member

      of_given : (entry : Entry) → Contains marked_first entry → Contains (member_given_up v.written row a.member) entry
      of_given entry at = given_up v t a first entry at

      of_all : (entry : Entry) → Contains marked_first entry → Contains (member_marked v.written row.range a.member) entry
      of_all entry at = marked_of_all row.range a.member.from (v.written a.member.master) (main v t a first) (side_read a)
          (is_log v t a first) entry at

      first_in : {X : Type 0} (f : Entry → List X) → Among f (first_counted row.range b.member.from (v.written b.member.master) (length read_of_last)) others
      first_in f = stand_among f (first_counted row.range b.member.from last_written (length read_of_last)) others
          (λ entry at. frees entry (subst (λ (l : List Entry). Contains l entry) first_ones at))

-- an empty list records no more than any other
none_told : (others : List Entry) → AreAmong [] others
none_told others = (λ item at. absurd (omega (arith, at.1)), λ end at. absurd (omega (arith, at.1)))

-- what side segments of the last of two members have is the first one's
sides_of_two : (written : ℕ → Written) (range : Range) (first last : Member) → NamedFit written range (first ∷ last ∷ []) → (others : List Entry) → ((e : Entry) → Contains (member_truth written range first) e
    → Contains others e) → AreAmong (side_part range last.from (written last.master) (written last.master).entries) others
sides_of_two written range first last named others has =
    items_among (side_part range last.from (written last.master) (written last.master).entries) others (λ e at.
    let found = sides_named range last (written last.master) e at in
    (found.0, found.1, stand_among items_in (member_truth written range first) others has found.0 (named found.0 found.2)))

module _ (v : View) (row : Row) (to place : ℕ) (ends : List Ended) (sound : SoundView v) (readable : AreReadable v.logs v.written) (some : row.range.first ≤ row.range.last) (few : All (λ gathered. length gathered.main ≤ LAST_MAIN_SEGMENT) (v.gathers to row.tablet).members) where
  abbrev own_member : Member
  own_member = member_at to place

  abbrev own : List Entry
  own = member_material v.written row.range (member_at to place)

  abbrev gather : Gather
  gather = v.gathers to row.tablet

  -- with this lineage it may be taken
  abbrev May : List Member → Type 0
  May lineage = MayTakeRebuilt v row lineage to place ends

  abbrev pub taken : (lineage : List Member) → MayTakeRebuilt v row lineage to place ends → Taken v
  taken = taken_by v row to place ends sound readable some few

  -- what was read is the row's truth and a first part of its rest
  abbrev pub IsBack : Type 0
  IsBack = IsReadBack (truths v row) (rests v row)
      (by_member (v.gathers to row.tablet)
      (member_material v.written row.range (member_at to (own_place (v.handovers to row.tablet).role))))

  -- by the lineage, and by those that were gathered
  conclude : (lineage : List Member) (members : List Gathered) (lists : List (List Entry)) → MayTakeRebuilt v row lineage to place ends → (v.gathers to row.tablet).members ≡ members
      → by_member (gather_of row.range to own lineage members) own ≡ lists → IsReadBack (lineage_truth v.base v.written row.range lineage) (lineage_rest v.written row.range lineage) lists → IsBack
  conclude lineage members lists may are by back =
      let its = (rebuilder v (taken lineage may)).gather in
      let same : by_member gather own ≡ lists =
      (λ i. by_member (record { range = its.range_is i; own = its.own_is i; lineage = its.lineage_is i; members = are i }) own) ∙ by in
      let line : lineage_of row.phase ≡ lineage = ap lineage_of may.phase_is in
      rw (own_is v (taken lineage may)) (rw same (rw line back))

  -- what a master outside the lineage has of its own counts for nothing
  own_none : (lineage : List Member) → (may : MayTakeRebuilt v row lineage to place ends) → is_member lineage to ≡ false → own ≡ []
  own_none lineage may outside = subst (λ (n : ℕ). member_material v.written row.range (member_at to n) ≡ [])
      (own_is v (taken lineage may)) ((rebuilder v (taken lineage may)).outside outside)

  -- if its own entries come last, all of them are of the truth
  own_back : (lineage : List Member) → (may : MayTakeRebuilt v row lineage to place ends) → (truth : List Entry) (before : List (List Entry))
      → ((e : Entry) → Contains (member_truth v.written row.range own_member) e → Contains truth e)
      → ((e : Entry) → Contains truth e → Contains (all_of before) e ⊎ Contains (member_truth v.written row.range own_member) e)
      → All (λ list. AreAmong list (truth ++ [])) before
      → IsReadBack truth (member_rest v.written row.range own_member) (before ++ own ∷ [])
  own_back lineage may truth before has of earlier =
      let done : IsDone v.written row.range own_member = own_done v (taken lineage may) in
      let rest : List Entry = member_rest v.written row.range own_member in
      rw (append-nil own) at
      (read_back truth rest before own [] [] [] [] done.rest
      (λ e at. elim (Contains-append_cases truth [] e at) [
        | inl its ↦ elim (of e its) [
          | inl early ↦ before_has truth rest before own [] [] [] [] e early
          | inr applied ↦ line_has truth rest before own [] [] [] [] e (Contains-append_left own [] e (rw done.all applied))
        ]
        | inr none ↦ absurd (omega (arith, none.1))
      ]) (λ e at. has e (subst (λ (l : List Entry). Contains l e) done.all at)) earlier (none_told (truth ++ []))
      (All-nil (λ list. list ≡ [])))

  -- ---- the master is the only member

  pub only_own_back : MayTakeRebuilt v row (member_at to place ∷ []) to place ends → IsBack
  only_own_back may =
      let truth : List Entry = lineage_truth v.base v.written row.range (own_member ∷ []) in
      conclude (own_member ∷ []) gather.members (own ∷ []) may refl (only_own row.range to own own_member gather.members refl)
      (own_back (own_member ∷ []) may truth [] (λ e at. Contains-append_left (member_truth v.written row.range own_member) [] e at)
      (λ e at. elim (Contains-append_cases (member_truth v.written row.range own_member) [] e at) [
        | inl its ↦ inr its
        | inr none ↦ absurd (omega (arith, none.1))
      ]) (All-nil (λ list. AreAmong list (truth ++ []))))

  -- ---- the only member was read

  pub only_read_back : (g : Gathered) → (v.gathers to row.tablet).members ≡ g ∷ [] → MayTakeRebuilt v row (g.member ∷ []) to place ends → IsBack
  only_read_back g are may =
      let lineage : List Member = g.member ∷ [] in
      let m : Member = g.member in
      let there : Contains gather.members g = rw are (0, omega arith, refl) in
      let truth : List Entry = lineage_truth v.base v.written row.range lineage in
      let other : m.master ≡ to → ⊥ = away v (taken lineage may) g there in
      let gone = dead v (taken lineage may) g there in
      let none : own ≡ [] = own_none lineage may (or_from (m.master == to) false (ne_eqb m.master to other) refl) in
      let its : List Entry = member_truth v.written row.range m in
      let has : (e : Entry) → Contains its e → Contains truth e = λ e at. Contains-append_left its [] e at in
      let read : List Entry = part v (taken lineage may) g there in
      let unnamed : OnlyIsUnnamed v.written row.range lineage =
      in_lineage v (taken lineage may) (OnlyIsUnnamed v.written row.range) (its_row v (taken lineage may)).rest.unnamed in
      let w : Written = v.written m.master in
      conclude lineage (g ∷ []) (counted_of row.range g ∷ own ∷ []) may are (only_read row.range to own g other)
      (last_back v (taken lineage may) g there truth [] [] (own ∷ [])
      (tells_among (member_marked v.written row.range m) (member_material v.written row.range m)
      (marked_fit v (taken lineage may) gone)) (none_told (truth ++ read))
      (stand_told (side_part row.range m.from w w.entries) (truth ++ read) (λ e at.
      Contains-append_left truth read e
      (has e
      (Contains-append_right (free_part row.range m.from w (applied_entries w)) (side_part row.range m.from w (applied_entries w)) e
      (sides_applied row.range m.from w unnamed e at))))) has
      (λ e at. elim (Contains-append_cases its [] e at) [ inl applied ↦ inr applied | inr nothing ↦ absurd (omega (arith, nothing.1)) ])
      (All-nil (λ list. AreAmong list (truth ++ read))) (All-cons (λ list. list ≡ []) own [] none (All-nil (λ list. list ≡ []))))

  -- ---- two members

  -- what is applied of each is of the truth, and nothing else
  in_first : (first last : Member) (e : Entry) → Contains (member_truth v.written row.range first) e → Contains (lineage_truth v.base v.written row.range (first ∷ last ∷ [])) e
  in_first first last e at =
      Contains-append_left (member_truth v.written row.range first) (member_truth v.written row.range last ++ []) e at

  in_last : (first last : Member) (e : Entry) → Contains (member_truth v.written row.range last) e → Contains (lineage_truth v.base v.written row.range (first ∷ last ∷ [])) e
  in_last first last e at = Contains-append_right (member_truth v.written row.range first) (member_truth v.written row.range last ++ []) e
      (Contains-append_left (member_truth v.written row.range last) [] e at)

  either_of_two : (first last : Member) (e : Entry) → Contains (lineage_truth v.base v.written row.range (first ∷ last ∷ [])) e → Contains (member_truth v.written row.range first) e ⊎ Contains (member_truth v.written row.range last) e
  either_of_two first last e at =
      elim (Contains-append_cases (member_truth v.written row.range first) (member_truth v.written row.range last ++ []) e at) [
        | inl here ↦ inl here
        | inr there ↦ elim (Contains-append_cases (member_truth v.written row.range last) [] e there) [
          | inl its ↦ inr its
          | inr nothing ↦ absurd (omega (arith, nothing.1))
        ]
      ]

  -- so it was read, if what was read has all that is applied of the first
  read_or_last : (first last : Member) (read : List Entry) → ((e : Entry) → Contains (member_truth v.written row.range first) e → Contains read e) → (e : Entry)
      → Contains (lineage_truth v.base v.written row.range (first ∷ last ∷ [])) e → Contains (all_of (read ∷ [])) e ⊎ Contains (member_truth v.written row.range last) e
  read_or_last first last read has e at =
      elim (either_of_two first last e at) [ inl its ↦ inl (Contains-append_left read [] e (has e its)) | inr its ↦ inr its ]

  -- the first one has nothing that is not applied
  first_done : (first last : Member) → (may : MayTakeRebuilt v row (first ∷ last ∷ []) to place ends) → IsDone v.written row.range first
  first_done first last may =
      in_lineage v (taken (first ∷ last ∷ []) may) (FirstIsDone v.written row.range) (its_row v (taken (first ∷ last ∷ []) may)).rest.done

  names_first : (first last : Member) → (may : MayTakeRebuilt v row (first ∷ last ∷ []) to place ends) → NamedFit v.written row.range (first ∷ last ∷ [])
  names_first first last may =
      in_lineage v (taken (first ∷ last ∷ []) may) (NamedFit v.written row.range) (its_row v (taken (first ∷ last ∷ []) may)).receives.named

  -- so all of it is of the truth
  first_in : (first last : Member) → (may : MayTakeRebuilt v row (first ∷ last ∷ []) to place ends) → (e : Entry) → Contains (member_material v.written row.range first) e → Contains (lineage_truth v.base v.written row.range (first ∷ last ∷ [])) e
  first_in first last may e at = in_first first last e (subst (λ (l : List Entry). Contains l e) (first_done first last may).all at)

  -- the master is the first one
  pub first_own_back : (g : Gathered) → (v.gathers to row.tablet).members ≡ g ∷ [] → MayTakeRebuilt v row (member_at to place ∷ g.member ∷ []) to place ends → IsBack
  first_own_back g are may =
      let lineage : List Member = own_member ∷ g.member ∷ [] in
      let m : Member = g.member in
      let there : Contains gather.members g = rw are (0, omega arith, refl) in
      let truth : List Entry = lineage_truth v.base v.written row.range lineage in
      let other : m.master ≡ to → ⊥ = away v (taken lineage may) g there in
      let gone = dead v (taken lineage may) g there in
      let read : List Entry = part v (taken lineage may) g there in
      let fit = marked_fit v (taken lineage may) in
      let done : IsDone v.written row.range own_member = first_done own_member m may in
      let of_own = stand_told own (truth ++ read) (λ e at. Contains-append_left truth read e (first_in own_member m may e at)) in
      conclude lineage (g ∷ []) (own ∷ counted_of row.range g ∷ []) may are (first_own row.range to own own_member g refl other)
      (last_back v (taken lineage may) g there truth own (own ∷ []) []
      (tells_among (member_marked v.written row.range m) (own ++ member_material v.written row.range m) (fit.1 gone)) of_own
      (sides_of_two v.written row.range own_member m (names_first own_member m may) (truth ++ read)
      (λ e at. Contains-append_left truth read e (in_first own_member m e at))) (in_last own_member m)
      (read_or_last own_member m own (λ e at. subst (λ (l : List Entry). Contains l e) (sym done.all) at))
      (All-cons (λ list. AreAmong list (truth ++ read)) own [] of_own (All-nil (λ list. AreAmong list (truth ++ read))))
      (All-nil (λ list. list ≡ [])))

  -- the master is the last one: what the first has in marked pieces is recorded by its own entries, and by those of the master
  last_own_told : (g : Gathered) → (there : Contains (v.gathers to row.tablet).members g) → (may : MayTakeRebuilt v row (g.member ∷ member_at to place ∷ []) to place ends) → AreAmong (counted_of row.range g) (lineage_truth v.base v.written row.range (g.member ∷ own_member ∷ []) ++ [])
  last_own_told g there may =
      let lineage : List Member = g.member ∷ own_member ∷ [] in
      let m : Member = g.member in
      let truth : List Entry = lineage_truth v.base v.written row.range lineage in
      let its_marked : List Entry = marked v (taken lineage may) g there in
      let all_marked : List Entry = member_marked v.written row.range m in
      let material : List Entry = member_material v.written row.range m in
      let stored : List Entry = member_stored v.logs v.written v.stored row.range own_member in
      let w : Written = v.written to in
      let done : IsDone v.written row.range own_member = own_done v (taken lineage may) in
      let any : (e : Entry) → Contains truth e → Contains (truth ++ []) e = λ e at. Contains-append_left truth [] e at in
      let of_stored : (e : Entry) → Contains stored e → Contains truth e =
      λ e at.
      in_last m own_member e
      (rw done.all at
      (Contains-append_left (counting row.range (unmarked_from w.marks place w.entries)) (side_material row.range own_member w) e
      (first_among w.marks row.range place _ w.entries e at))) in
      first_told v (taken lineage may) g there (truth ++ []) (among_then its_marked all_marked (truth ++ [])
      (stand_told its_marked all_marked (marked_of_all row.range m.from (v.written m.master) (main v (taken lineage may) g there) _
      (is_log v (taken lineage may) g there))) (among_then all_marked (material ++ stored) (truth ++ [])
      (tells_among all_marked (material ++ stored) ((marked_fit v (taken lineage may)).0 (dead v (taken lineage may) g there)))
      (both_told material stored (truth ++ []) (stand_told material (truth ++ []) (λ e at. any e (first_in m own_member may e at)))
      (stand_told stored (truth ++ []) (λ e at. any e (of_stored e at)))))) (λ e at. any e (first_in m own_member may e at))

  pub last_own_back : (g : Gathered) → (v.gathers to row.tablet).members ≡ g ∷ [] → MayTakeRebuilt v row (g.member ∷ member_at to place ∷ []) to place ends → IsBack
  last_own_back g are may =
      let lineage : List Member = g.member ∷ own_member ∷ [] in
      let m : Member = g.member in
      let there : Contains gather.members g = rw are (0, omega arith, refl) in
      let truth : List Entry = lineage_truth v.base v.written row.range lineage in
      let other : m.master ≡ to → ⊥ = away v (taken lineage may) g there in
      conclude lineage (g ∷ []) (counted_of row.range g ∷ own ∷ []) may are (last_own row.range to own g own_member other refl)
      (own_back lineage may truth (counted_of row.range g ∷ []) (in_last m own_member)
      (read_or_last m own_member (counted_of row.range g) (truth_read v (taken lineage may) g there))
      (All-cons (λ list. AreAmong list (truth ++ [])) (counted_of row.range g) [] (last_own_told g there may)
      (All-nil (λ list. AreAmong list (truth ++ [])))))

  -- both were read
  pub both_read_back : (a b : Gathered) → (v.gathers to row.tablet).members ≡ a ∷ b ∷ [] → MayTakeRebuilt v row (a.member ∷ b.member ∷ []) to place ends → IsBack
  both_read_back a b are may =
      let lineage : List Member = a.member ∷ b.member ∷ [] in
      let first : Contains gather.members a = rw are (0, omega arith, refl) in
      let last : Contains gather.members b = rw are (1, omega arith, refl) in
      let truth : List Entry = lineage_truth v.base v.written row.range lineage in
      let first_away : a.member.master ≡ to → ⊥ = away v (taken lineage may) a first in
      let last_away : b.member.master ≡ to → ⊥ = away v (taken lineage may) b last in
      let beside : a.member.master ≢ b.member.master = apart v (taken lineage may) in
      let none : own ≡ [] =
      own_none lineage may
      (or_from (a.member.master == to) (is_member (b.member ∷ []) to) (ne_eqb a.member.master to first_away)
      (or_from (b.member.master == to) false (ne_eqb b.member.master to last_away) refl)) in
      let fit = marked_fit v (taken lineage may) in
      let read : List Entry = part v (taken lineage may) b last in
      let all : List Entry = member_material v.written row.range a.member in
      let any : (e : Entry) → Contains truth e → Contains (truth ++ read) e = λ e at. Contains-append_left truth read e at in
      let of_first : AreAmong (counted_of row.range a) (truth ++ read) =
      first_told v (taken lineage may) a first (truth ++ read)
      (given_up_told v row a b to place ends sound readable some few may first last (truth ++ read)
      (λ e at. any e (first_in a.member b.member may e at)) (free_read v (taken lineage may) b last (truth ++ read)
      (λ e at. any e (in_last a.member b.member e at)) (λ e at. Contains-append_right truth read e at))
      (tells_among (member_marked v.written row.range a.member) (all ++ member_stored v.logs v.written v.stored row.range b.member)
      (fit.0 (dead v (taken lineage may) a first)))) (λ e at. any e (first_in a.member b.member may e at)) in
      conclude lineage (a ∷ b ∷ []) (counted_of row.range a ∷ counted_of row.range b ∷ own ∷ []) may are
      (both_read row.range to own a b first_away last_away beside)
      (last_back v (taken lineage may) b last truth all (counted_of row.range a ∷ []) (own ∷ [])
      (tells_among (member_marked v.written row.range b.member) (all ++ member_material v.written row.range b.member)
      (fit.1 (dead v (taken lineage may) b last))) (stand_told all (truth ++ read) (λ e at. any e (first_in a.member b.member may e at)))
      (sides_of_two v.written row.range a.member b.member (names_first a.member b.member may) (truth ++ read)
      (λ e at. any e (in_first a.member b.member e at))) (in_last a.member b.member)
      (read_or_last a.member b.member (counted_of row.range a) (truth_read v (taken lineage may) a first))
      (All-cons (λ list. AreAmong list (truth ++ read)) (counted_of row.range a) [] of_first
      (All-nil (λ list. AreAmong list (truth ++ read)))) (All-cons (λ list. list ≡ []) own [] none (All-nil (λ list. list ≡ []))))

module _ (v : View) (row : Row) (to place : ℕ) (ends : List Ended) (sound : SoundView v) (readable : AreReadable v.logs v.written) (some : row.range.first ≤ row.range.last) (few : All (λ gathered. length gathered.main ≤ LAST_MAIN_SEGMENT) (v.gathers to row.tablet).members) where
  abbrev members : List Gathered
  members = (v.gathers to row.tablet).members

  -- those that were gathered
  members_are : (lineage : List Member) → MayTakeRebuilt v row lineage to place ends → map (λ gathered. gathered.member) (v.gathers to row.tablet).members ≡ others_of to lineage
  members_are lineage may = (rebuilder v (taken v row to place ends sound readable some few lineage may)).gather.members_are

  of_one : (only : Member) → MayTakeRebuilt v row (only ∷ []) to place ends → IsBack v row to place ends sound readable some few
  of_one only may = elim (own_stands v (taken v row to place ends sound readable some few (only ∷ []) may)) [
    | inl outside ↦
        let away : only.master ≡ to → ⊥ = differ only.master to (or_parts (only.master == to) false outside).0 in
        let one = one_gathered members only (members_are (only ∷ []) may ∙ others_only to only away) in
        only_read_back v row to place ends sound readable some few one.gathered one.members_are (rw one.member_is may)
    | inr stands ↦
        let same = one_stands only (member_at to place) stands in only_own_back v row to place ends sound readable some few (rw same at may)
  ]

  of_two : (first last : Member) → MayTakeRebuilt v row (first ∷ last ∷ []) to place ends → IsBack v row to place ends sound readable some few
  of_two first last may =
      let both : List Member = first ∷ last ∷ [] in
      let beside : first.master ≢ last.master = apart v (taken v row to place ends sound readable some few both may) in
      elim (own_stands v (taken v row to place ends sound readable some few both may)) [
        | inl outside ↦
            let parts = or_parts (first.master == to) (is_member (last ∷ []) to) outside in
            let first_away : first.master ≡ to → ⊥ = differ first.master to parts.0 in
            let last_away : last.master ≡ to → ⊥ = differ last.master to (or_parts (last.master == to) false parts.1).0 in
            let two = two_gathered members first last (members_are both may ∙ others_both to first last first_away last_away) in
            both_read_back v row to place ends sound readable some few two.first two.last two.members_are
            (rw two.last_is (rw two.first_is may))
        | inr stands ↦ elim (two_stand first last (member_at to place) stands) [
          | inl same ↦
              let at : first.master ≡ to = ap (λ (m : Member). m.master) same in
              let one = one_gathered members last (members_are both may ∙ others_first to first last at (λ e. beside (at ∙ sym e))) in
              first_own_back v row to place ends sound readable some few one.gathered one.members_are (rw one.member_is (rw same at may))
          | inr same ↦
              let at : last.master ≡ to = ap (λ (m : Member). m.master) same in
              let one = one_gathered members first (members_are both may ∙ others_last to first last (λ e. beside (e ∙ sym at)) at) in
              last_own_back v row to place ends sound readable some few one.gathered one.members_are
              (subst (λ (m : Member). MayTakeRebuilt v row (one.gathered.member ∷ m ∷ []) to place ends) same (rw one.member_is may))
        ]
      ]

  pub by_lineage : (lineage : List Member) → MayTakeRebuilt v row lineage to place ends → IsBack v row to place ends sound readable some few
  by_lineage [] may = absurd (apart v (taken v row to place ends sound readable some few [] may))
  by_lineage (only ∷ []) may = of_one only may
  by_lineage (first ∷ last ∷ []) may = of_two first last may
  by_lineage (first ∷ second ∷ third ∷ more) may = absurd (apart v (taken v row to place ends sound readable some few (first ∷ second ∷ third ∷ more) may))
