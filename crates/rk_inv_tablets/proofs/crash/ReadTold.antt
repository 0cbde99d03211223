-- What counts of a member that was read records nothing that others do not, if they record what backup 1 stores of it, what its side
-- segments have, and what is marked there.
use Rattle.std.proofs.Common.{◌≡◌, ℕ, ◌+◌, ◌<◌, ◌≤◌, true, false, List, [], ◌++◌, length, Some, refl, sym, subst, ◌∙◌}
use Rattle.std.proofs.Common.{⊎_elim, arith, drop, slice_get, All, Contains, flat_map}
use Rattle.rk_inv_base.proofs.Words.{cases_Bool, cond_both, All-append, All-contains, slice_get_within, Member, Range, Entry, Row, ends}
use Rattle.rk_inv_base.proofs.Words.{IsBackup, Log, is_side_stored, known_of, EntryEnd, Gathered, LAST_MAIN_SEGMENT, counted_of, side_read}
use Rattle.rk_inv_base.proofs.Words.{is_marked, unmarked_from, counting, counts, material_of, named, named_by, side_entries, Written, IsLog}
use Rattle.rk_inv_base.proofs.Words.{segments_in, stored_of, IsGathered, READ_BACKUP, member_stored, stored_count, View, SoundView}
use Rattle.rk_inv_base.proofs.Words.{false_from_ne_true}
use Rattle.rk_inv_tablets.proofs.Words.{all_by, kept_stands, stands_kept, place_of, AreReadable}
use Rattle.rk_inv_tablets.proofs.crash.Among.{named_from, named_of, stands_front}
use Rattle.rk_inv_tablets.proofs.crash.FirstRead.{AreFirstStored}
use Rattle.rk_inv_tablets.proofs.crash.LogRead.{main_read, side_number, side_stands}
use Rattle.rk_inv_tablets.proofs.crash.MarkedPieces.{mark_of}
use Rattle.rk_inv_tablets.proofs.crash.MergeTells.{IsToldBy}
use Rattle.rk_inv_tablets.proofs.crash.PieceRows.{marked_names_none}
use Rattle.rk_inv_tablets.proofs.crash.Unmarked.{first_stands, free_stands}
use Rattle.rk_inv_tablets.proofs.ready.OwnItems.{at_place, flat_from, flat_stands, stands_at, none_stands}
pub use Rattle.rk_inv_tablets.proofs.ready.OwnItems.{stands_at as stands_there}

-- what counts of the side segments that a member's unmarked entries name
abbrev pub side_material : Range → Member → Written → List Entry
side_material range member w = counting range (flat_map (side_entries w.sides) (named range (unmarked_from w.marks member.from w.entries)))

-- the segments that an entry names for a range are among those that it names
pub named_in : (range : Range) (entry : Entry) (n : ℕ) → Contains (named_by range entry) n → Contains (segments_in entry) n
named_in range entry n = grind (arith, cond_both)

-- how many first entries of a member's log backup 1 stores
abbrev pub count_stored : View → Member → ℕ
count_stored v m = stored_count (v.logs m.master) (stored_of v.stored m.master READ_BACKUP)

-- each marked entry that counts for a row, and is among the stored ones of a member, records nothing that these do not
abbrev pub AreMarksTold : View → Row → Member → List Entry → Type 0
AreMarksTold v row m others =
    (place : ℕ) (entry : Entry) → m.from ≤ place → place < count_stored v m → slice_get (v.written m.master).entries place ≡ Some entry
    → is_marked (v.written m.master).marks place ≡ true → counts row.range entry ≡ true → IsToldBy others entry

module _ (v : View) (sound : SoundView v) (readable : AreReadable v.logs v.written) (row : Row) (m : Member) (backed : IsBackup (v.logs m.master) READ_BACKUP) (Needed : EntryEnd → Type 0) (gathered : Gathered) (fits : length gathered.main ≤ LAST_MAIN_SEGMENT) where
  abbrev w : Written
  w = v.written m.master

  abbrev log : Log
  log = v.logs m.master

  abbrev range : Range
  range = row.range

  -- what is read of the member
  abbrev pub IsReadOf : Type 0
  IsReadOf = IsGathered Needed (known_of (v.logs m.master) READ_BACKUP) (stored_of v.stored m.master READ_BACKUP) gathered

  kept : IsLog (v.logs m.master) (v.written m.master) (stored_of v.stored m.master)
  kept = sound.logs.each m.master

  abbrev main : List Entry
  main = flat_map (λ (list : List Entry). list) gathered.main

  module _ (read : IsReadOf) where
    firsts : AreFirstStored (stored_of v.stored m.master READ_BACKUP) log.entries (ends log.entries) main
    firsts =
        let room = readable.room m.master in
        main_read log w (stored_of v.stored m.master) kept backed (omega (arith, room)) Needed gathered read fits
        (rw kept.entries_are (readable.entries m.master))

    -- an entry that was read, at its place in the log
    record IsPlacedRead (entry : Entry) : Type 0 where
      place : ℕ
      behind : m.from ≤ place
      before : place < count_stored v m
      stands : slice_get w.entries place ≡ Some entry

    place_read : (k : ℕ) (entry : Entry) → slice_get (drop m.from main) k ≡ Some entry → IsPlacedRead entry
    place_read k entry at =
        let place : ℕ = m.from + k in
        let there : slice_get main place ≡ Some entry = place_of main m.from k place entry refl at in
        let inside = slice_get_within main place entry there in
        let few = firsts.within in
        let all : main ++ firsts.more ≡ w.entries = sym firsts.parts ∙ kept.entries_are in
        record {
          place = place;
          behind = omega arith;
          before = omega (arith, inside, few);
          stands = subst (λ (l : List Entry). slice_get l place ≡ Some entry) all (stands_front main firsts.more place entry there);
        }

    module _ (others : List Entry) (stored_told : All (IsToldBy others) (member_stored v.logs v.written v.stored row.range m)) (sides_told : All (IsToldBy others) (side_material row.range m (v.written m.master))) where
      module _ (marks_told : AreMarksTold v row m others) where
        one_told : (entry : Entry) → IsPlacedRead entry → counts row.range entry ≡ true → IsToldBy others entry
        one_told entry is inside =
            ⊎_elim
            (λ (marked : is_marked w.marks is.place ≡ true). marks_told is.place entry is.behind is.before is.stands marked inside)
            (λ (free : is_marked w.marks is.place ≡ false).
            All-contains (IsToldBy others) (member_stored v.logs v.written v.stored row.range m) entry stored_told
            (first_stands w.marks range m.from (count_stored v m) w.entries entry
            (record { place = is.place; behind = is.behind; stands = is.stands; free = free }) is.before inside))
            (cases_Bool (is_marked w.marks is.place))

        main_told : All (IsToldBy others) (counting range (drop m.from main))
        main_told =
            all_by _ (counting range (drop m.from main))
            (λ entry at.
            let kept_one = kept_stands (counts range) (drop m.from main) entry at in
            let there = at_place (drop m.from main) entry kept_one.0 in
            one_told entry (place_read there.0 entry there.1) kept_one.1)

        -- an entry that names a side segment bears no mark
        free_names : (place : ℕ) (entry : Entry) (n : ℕ) → slice_get w.entries place ≡ Some entry → Contains (named_by range entry) n → is_marked w.marks place ≡ false
        free_names place entry n at names =
            false_from_ne_true (is_marked w.marks place)
            (λ marked. let none : named_by range entry ≡ [] =
            marked_names_none v sound m.master place entry at (mark_of w.marks place marked) range in
            none_stands n (subst (λ (l : List ℕ). Contains l n) none names))

        -- what was read of a side segment that is named is of it
        side_told : (number : ℕ) (entry : Entry) → Contains (named range (drop m.from main)) number → Contains (side_read gathered number) entry → counts range entry ≡ true → IsToldBy others entry
        side_told number entry named_it at inside =
            let by = named_from range (drop m.from main) number named_it in
            let there = at_place (drop m.from main) by.0 by.1 in
            let placed = place_read there.0 by.0 there.1 in
            let free = free_names placed.place by.0 number placed.stands by.2 in
            let stored : is_side_stored log number ≡ true =
            All-contains (λ (segment : ℕ). is_side_stored log segment ≡ true) (segments_in by.0) number
            (All-contains (λ (e : Entry). All (λ segment. is_side_stored log segment ≡ true) (segments_in e)) w.entries by.0 kept.named
            (stands_at w.entries placed.place by.0 placed.stands))
            (named_in range by.0 number by.2) in
            let room = readable.room m.master in
            let its : Contains (side_entries w.sides number) entry =
            side_stands log w (stored_of v.stored m.master) kept backed (omega (arith, room)) Needed gathered read (readable.items m.master) number
            (side_number log w (stored_of v.stored m.master) kept backed (omega (arith, room)) Needed gathered read number stored) entry at in
            let unmarked : Contains (unmarked_from w.marks m.from w.entries) by.0 =
            free_stands w.marks m.from w.entries by.0 (record { place = placed.place; behind = placed.behind; stands = placed.stands; free = free }) in
            let numbers : List ℕ = named range (unmarked_from w.marks m.from w.entries) in
            All-contains (IsToldBy others) (side_material row.range m w) entry sides_told
            (stands_kept (counts range) (flat_map (side_entries w.sides) numbers) entry
            (flat_stands (side_entries w.sides) numbers number entry (named_of range (unmarked_from w.marks m.from w.entries) by.0 number unmarked by.2) its)
            inside)

        all_told : All (IsToldBy others) (material_of row.range (side_read gathered) (drop m.from main))
        all_told =
            let numbers : List ℕ = named range (drop m.from main) in
            All-append (IsToldBy others) (counting range (drop m.from main)) (counting range (flat_map (side_read gathered) numbers)) main_told
            (all_by _ (counting range (flat_map (side_read gathered) numbers))
            (λ entry at.
            let kept_one = kept_stands (counts range) (flat_map (side_read gathered) numbers) entry at in
            let of = flat_from (side_read gathered) numbers entry kept_one.0 in
            side_told of.0 entry of.1 of.2 kept_one.1))

        -- so what counts of what was read is recorded
        pub counted_told : gathered.member ≡ m → All (IsToldBy others) (counted_of row.range gathered)
        counted_told is = rw is all_told
