-- The place of a tablet's number, and what is found and changed there.
use Rattle.rk_master.proofs.Words.{◌≡◌, ℕ, ◌<◌, Bool, true, false, cond, List, [], ◌∷◌, ◌++◌, ◌+◌, length, map, take, drop, slice_get}
use Rattle.rk_master.proofs.Words.{get_or, set, append_assoc, Option, Some, unwrap_or, refl, sym, ap, ◌∙◌, subst, arith, slice_get-get_or}
use Rattle.rk_master.proofs.Words.{IsSome, option_map, insert_at, nat_cmp, is_eq, Ordering, Less, Equal, Greater, by_order}
use Rattle.rk_master.proofs.Words.{NumberMap, IsInOrder, get, insert, IsAt, IsBetween, in_order_insert, Handover, Tablet, no_tablet}
use Rattle.rk_master.proofs.Words.{with_handover, TabletLane, changing, tablet_of, tablets_of, tablet_in, Row}
use Rattle.std.proofs.Common.{drop-cons}
use Rattle.std.proofs.lemmas.List.{take_more_set, drop-set-lt, map-append}
use Rattle.rk_types.proofs.Places.{get_at, get_between, insert_at_place, insert_between}

-- ---- what the tablets represent

-- what is found of a number
pub get_tablet : (rows : List Row) (number : ℕ) → get (tablets_of rows) number ≡ option_map tablet_of (get rows number)
get_tablet [] number = refl
get_tablet (row ∷ rows) number = go (is_eq (nat_cmp number row.0)) (get_tablet rows number)
  where
    go : (b : Bool) → get (tablets_of rows) number ≡ option_map tablet_of (get rows number)
        → cond b (Some (tablet_of row.1)) (get (tablets_of rows) number) ≡ option_map tablet_of (cond b (Some row.1) (get rows number))
    go true rest = refl
    go false rest = rest

-- a tablet is put under a number
pub insert_tablet : (rows : List Row) (number : ℕ) (lane : TabletLane) → tablets_of (insert rows number lane) ≡ insert (tablets_of rows) number (tablet_of lane)
insert_tablet [] number lane = refl
insert_tablet (row ∷ rows) number lane = go (nat_cmp number row.0) (insert_tablet rows number lane)
  where
    go : (o : Ordering) → tablets_of (insert rows number lane) ≡ insert (tablets_of rows) number (tablet_of lane)
        → tablets_of (by_order o ((number, lane) ∷ row ∷ rows) ((row.0, lane) ∷ rows) (row ∷ insert rows number lane))
        ≡ by_order o ((number, tablet_of lane) ∷ tablets_of (row ∷ rows)) ((row.0, tablet_of lane) ∷ tablets_of rows) ((row.0, tablet_of row.1) ∷ insert (tablets_of rows) number (tablet_of lane))
    go Less rest = refl
    go Equal rest = refl
    go Greater rest = ap (λ t. (row.0, tablet_of row.1) ∷ t) rest

-- ---- one tablet is changed

-- what the master has of the tablet of a number is what is at its place
pub tablet_there : (rows : List Row) (number i : ℕ) (d : Row) → IsInOrder rows → IsAt number rows i → tablet_in rows number ≡ tablet_of (get_or rows i d).1
tablet_there rows number i d order at =
    ap (λ (o : Option Tablet). unwrap_or o no_tablet) (get_tablet rows number ∙ ap (option_map tablet_of) (get_at number rows i d order at))

-- a tablet changed at its place is put under its number
pub changed_there : (rows : List Row) (number i : ℕ) (d : Row) (lane : TabletLane) → IsInOrder rows → IsAt number rows i
    → tablets_of (set rows i ((get_or rows i d).0, lane)) ≡ insert (tablets_of rows) number (tablet_of lane)
changed_there rows number i d lane order at =
    ap tablets_of (sym (insert_at_place number lane rows i d order at)) ∙ insert_tablet rows number lane

-- and the numbers still rise
pub order_there : (rows : List Row) (number i : ℕ) (d : Row) (lane : TabletLane) → IsInOrder rows → IsAt number rows i → IsInOrder (set rows i ((get_or rows i d).0, lane))
order_there rows number i d lane order at =
    subst IsInOrder (insert_at_place number lane rows i d order at) (in_order_insert rows number lane order)

-- a tablet that was changed so at its place
pub changed_so : (change : Tablet → Tablet) (rows : List Row) (number i : ℕ) (d : Row) (lane : TabletLane) → IsInOrder rows → IsAt number rows i
    → tablet_of lane ≡ change (tablet_of (get_or rows i d).1)
    → tablets_of (set rows i ((get_or rows i d).0, lane)) ≡ insert (tablets_of rows) number (change (tablet_in rows number))
changed_so change rows number i d lane order at changed = grind (arith, changed_there, insert, tablets_of, tablet_there)

-- a tablet that the master has is among the rows
pub there_too : (rows : List Row) (number : ℕ) → IsSome (get (tablets_of rows) number) → IsSome (get rows number)
there_too rows number there = grind (arith, get_tablet, tablet_of)

-- ---- each tablet is changed in turn

-- the rows from a place on are the one there and those behind it
pub drop_next : (rows : List Row) (i : ℕ) (d : Row) → i < length rows → drop i rows ≡ get_or rows i d ∷ drop (i + 1) rows
drop_next rows i d within = grind (arith, drop-cons)

-- a tablet is at its own place
pub at_itself : (rows : List Row) (i : ℕ) (d : Row) → i < length rows → IsAt (get_or rows i d).0 rows i
at_itself rows i d within = grind (arith, slice_get-get_or)

-- the tablets, of which those from a place on are still to be changed
abbrev pub changed_from : (ℕ → Tablet → Tablet) → ℕ → List Row → NumberMap Tablet
changed_from change i rows = tablets_of (take i rows) ++ map (changing change) (tablets_of (drop i rows))

-- the next one is changed
pub changed_next : (change : ℕ → Tablet → Tablet) (rows : List Row) (i : ℕ) (d : Row) (lane : TabletLane) → i < length rows
    → tablet_of lane ≡ change (get_or rows i d).0 (tablet_of (get_or rows i d).1)
    → changed_from change (i + 1) (set rows i ((get_or rows i d).0, lane)) ≡ changed_from change i rows
changed_next change rows i d lane within changed =
    grind (arith, tablets_of, take_more_set, changing, drop-set-lt, map-append, tablet_of, append_assoc, drop_next)

-- ---- a tablet moves

-- what is read at a place is the row there
pub row_there : (rows : List Row) (i : ℕ) (d row : Row) → i < length rows → slice_get rows i ≡ Some row → get_or rows i d ≡ row
row_there rows i d row within at =
    let one : Some (get_or rows i d) ≡ Some row = sym (slice_get-get_or rows i d within) ∙ at in cc one

-- a tablet that moved at its place is put under its number
pub moved_there : (rows : List Row) (i : ℕ) (read row : Row) (lane : TabletLane) (handover : Handover) → IsInOrder rows → i < length rows
    → read ≡ get_or rows i read → slice_get rows i ≡ Some row → tablet_of lane ≡ with_handover (tablet_of read.1) handover
    → tablets_of (set rows i (read.0, lane)) ≡ insert (tablets_of rows) row.0 (with_handover (tablet_of row.1) handover)
moved_there rows i read row lane handover order within is at moved =
    grind (arith, tablets_of, changed_there, at_itself, insert, with_handover, tablet_of, row_there)

-- ---- a tablet is added

-- the master has nothing of a tablet that is not there
pub none_there : (rows : List Row) (number i : ℕ) → IsBetween number rows i → tablet_in rows number ≡ no_tablet
none_there rows number i between =
    ap (λ (o : Option Tablet). unwrap_or o no_tablet) (get_tablet rows number ∙ ap (option_map tablet_of) (get_between number rows i between))

-- a tablet that is put between the others is put under its number
pub added_between : (rows : List Row) (number i : ℕ) (lane : TabletLane) → IsBetween number rows i → tablets_of (insert_at rows i (number, lane)) ≡ insert (tablets_of rows) number (tablet_of lane)
added_between rows number i lane between = ap tablets_of (sym (insert_between number lane rows i between)) ∙ insert_tablet rows number lane

-- and the numbers still rise
pub added_order : (rows : List Row) (number i : ℕ) (lane : TabletLane) → IsInOrder rows → IsBetween number rows i → IsInOrder (insert_at rows i (number, lane))
added_order rows number i lane order between = subst IsInOrder (insert_between number lane rows i between) (in_order_insert rows number lane order)
