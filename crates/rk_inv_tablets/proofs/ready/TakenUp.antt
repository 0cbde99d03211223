-- A living master that is to rebuild a row, and has not begun to: the records that it has are those with which it may begin.
use Rattle.std.proofs.Common.{◌≡◌, ℕ, ◌<◌, ◌+◌, true, false, List, [], Option, Some, None, refl, sym, ◌∙◌, ◌⊎◌, arith, drop, max, slice_get}
use Rattle.std.proofs.Common.{Contains, flat_map}
use Rattle.rk_inv_base.proofs.Words.{false≢true, or_right, All-contains, Held, Range, Entry, is_in, Row, newest_is, newest_none, is_of_from}
use Rattle.rk_inv_base.proofs.Words.{newest_own, is_of, newest, items_in, items_of, is_marked, unmarked_from, touches, is_joined_in}
use Rattle.rk_inv_base.proofs.Words.{joined_from, log_material, material_of, named, side_entries, Written, applied_entries, Mark, IsOfRange}
use Rattle.rk_inv_base.proofs.Words.{applied_from, IsBare, IsFound, named_items, IsTableOf, View, truths, SoundView, false_from_ne_true}
use Rattle.rk_inv_tablets.proofs.Words.{in_one_row, AreIn, IsIn, behind_at, kept_stands, place_of, row_in}
use Rattle.rk_overlay.specs.Newest.{IsNewest}
use Rattle.rk_inv_tablets.proofs.ready.OwnItems.{fails_at, at_place, bears, flat_from, flat_stands, front_at, is_held_in, material_into}
use Rattle.rk_inv_tablets.proofs.ready.OwnItems.{named_counts, sides_into, stands_at, unmarked_stands}
use Rattle.rk_inv_tablets.proofs.crash.MarkedPieces.{mark_of}
use Rattle.rk_inv_tablets.proofs.crash.PieceRows.{row_of_mark}
use Rattle.rk_inv_tablets.proofs.crash.Unmarked.{free_place, joined_applied}

-- records of a master are those with which it may begin to rebuild a row, if its own entries count from this place
pub record IsTakenUp (v : View) (row : Row) (master from : ℕ) (records : List Held) : Type 0 where
  pub found :
      (item : Held) → Contains (items_of (applied_from row.range from (v.written master))) item → IsFound records item
  pub come :
      (item : Held) → Contains records item → is_in row.range item ≡ true
      → Contains (items_of (applied_from row.range from (v.written master))) item ⊎ Contains (items_of (truths v row)) item
  pub sides :
      (item : Held) → Contains (named_items row.range from (v.written master)) item
      → Contains (items_of (truths v row)) item × IsFound records item

-- records that have the newest item of each key of entries find each item of these
pub table_finds : (range : Range) (list : List Entry) (records : List Held) (item : Held) → AreIn range (items_of list) → IsTableOf range list records → Contains (items_of list) item → IsFound records item
table_finds range list records item inside table at = go (newest (items_of list) item.table item.key) refl
  where
    own : is_of item.table item.key item ≡ true
    own = is_of_from item.table item.key item refl refl

    go : (o : Option Held) → newest (items_of list) item.table item.key ≡ o → IsFound records item
    go None none = absurd (false≢true (sym ((newest_none (items_of list) item.table item.key).0 none item at) ∙ own))
    go (Some there) is =
        let best : IsNewest (items_of list) item.table item.key there = newest_is (items_of list) item.table item.key there is in
        let within : is_in range there ≡ true = All-contains (IsIn range) (items_of list) there inside best.stands in
        record {
          there = there;
          stands = (table there within).1 (newest_own (items_of list) item.table item.key there is);
          same_key = best.of_record;
          as_new = best.greatest item at own;
        }

-- and have nothing else
pub table_comes : (range : Range) (list : List Entry) (records : List Held) (item : Held) → IsTableOf range list records → Contains records item → is_in range item ≡ true → Contains (items_of list) item
table_comes range list records item table stands inside =
    (newest_is (items_of list) item.table item.key item ((table item inside).0 stands)).stands

-- an entry that bears an item of a range touches it
bears_touches : (range : Range) (e : Entry) → bears range e ≡ true → touches range e ≡ true
bears_touches range e is = grind (arith, is_in)

module _ (v : View) (row : Row) (master : ℕ) (sound : SoundView v) (has : Contains v.rows row) (lives : v.live master ≡ true) (below : (v.handovers master row.tablet).term < row.term) where
  abbrev w : Written
  w = v.written master

  -- ---- what the master has marked

  -- nothing of the row's tablet
  unmarked_here : (mark : Mark) → Contains w.marks mark → mark.tablet ≡ row.tablet → ⊥
  unmarked_here mark stands its = grind (arith, row_in)

  -- an entry of a piece of another row bears nothing of this one
  of_other : (other : Row) (e : Entry) → Contains v.rows other → (row.tablet ≡ other.tablet → ⊥) → IsOfRange other.range e → bears row.range e ≡ true → ⊥
  of_other other e stands apart of is = grind (arith, is_in, false≢true, in_one_row)

  -- so an entry that bears an item of the row has no mark
  bare_at : (place : ℕ) (e : Entry) → slice_get w.entries place ≡ Some e → bears row.range e ≡ true → is_marked w.marks place ≡ false
  bare_at place e at bearing =
      false_from_ne_true (is_marked w.marks place)
      (λ marked. let found = mark_of w.marks place marked in
      let of = row_of_mark v sound master place e at found in
      of_other of.row e of.stands (λ same. unmarked_here found.mark found.here (sym (same ∙ of.number))) of.in_range bearing)

  -- ---- what counts of its own, from a place on

  module _ (from : ℕ) where
    abbrev pub sides : ℕ → List Entry
    sides = side_entries w.sides

    -- what is applied bears no mark if it bears an item
    applied_bare : (e : Entry) → Contains (drop from (applied_entries w)) e → bears row.range e ≡ true → Contains (unmarked_from w.marks from (applied_entries w)) e
    applied_bare e stands bearing =
        let found = at_place (drop from (applied_entries w)) e stands in
        let at : slice_get (applied_entries w) (from + found.0) ≡ Some e =
        place_of (applied_entries w) from found.0 (from + found.0) e refl found.1 in
        unmarked_stands w.marks from (drop from (applied_entries w)) found.0 e found.1
        (bare_at (from + found.0) e (front_at w.entries w.applied (from + found.0) e at).1 bearing)

    -- so its items are those of what counts of it
    pub applied_counts : (item : Held) → Contains (items_of (applied_from row.range from w)) item → Contains (items_of (log_material row.range w.marks w.sides from (applied_entries w))) item
    applied_counts item =
        material_into row.range sides (drop from (applied_entries w)) (unmarked_from w.marks from (applied_entries w)) applied_bare item

    -- an unmarked entry is behind the place
    pub unmarked_behind : (e : Entry) → Contains (unmarked_from w.marks from w.entries) e → Contains (drop from w.entries) e
    unmarked_behind e stands =
        let found = free_place w.marks from w.entries e stands in
        let behind = behind_at w.entries from found.place e found.behind found.stands in
        stands_at (drop from w.entries) behind.0 e behind.1

    -- and so is what is applied
    pub applied_behind : (e : Entry) → Contains (drop from (applied_entries w)) e → Contains (drop from w.entries) e
    applied_behind e stands =
        let found = at_place (drop from (applied_entries w)) e stands in
        let at : slice_get (applied_entries w) (from + found.0) ≡ Some e =
        place_of (applied_entries w) from found.0 (from + found.0) e refl found.1 in
        let whole : slice_get w.entries (from + found.0) ≡ Some e = (front_at w.entries w.applied (from + found.0) e at).1 in
        let behind = behind_at w.entries from (from + found.0) e (omega arith) whole in
        stands_at (drop from w.entries) behind.0 e behind.1

    -- an item that its entries name is of what counts of them
    pub named_of : (item : Held) → Contains (named_items row.range from w) item → (is_in row.range item ≡ true) × Contains (items_of (flat_map sides (named row.range (unmarked_from w.marks from w.entries)))) item
    named_of item at =
        let kept = kept_stands (is_in row.range) (items_of (flat_map sides (named row.range (unmarked_from w.marks from w.entries)))) item at in
        (kept.1, kept.0)

    -- if no unmarked Joined of the range is behind what is applied, such an item is of what counts of that
    pub named_applied : joined_from row.range (max from w.applied) w.entries ≡ [] → (item : Held) → Contains (named_items row.range from w) item → Contains (items_of (log_material row.range w.marks w.sides from (applied_entries w))) item
    named_applied none item at =
        let mine = named_of item at in
        let all : List Entry = unmarked_from w.marks from w.entries in
        let done : List Entry = unmarked_from w.marks from (applied_entries w) in
        let found = flat_from items_in (flat_map sides (named row.range all)) item mine.1 in
        named_counts row.range sides done item mine.0
        (flat_stands items_in (flat_map sides (named row.range done)) found.0 item
        (sides_into row.range sides all done (joined_applied row.range w from none) found.0 found.1) found.2)

    -- if nothing of the range is behind the place, a master that has no record of it may begin
    pub bare_takes : (records : List Held) → IsBare row.range from w records → IsTakenUp v row master from records
    bare_takes records bare = record {
      found = λ item at.
          let none : Contains (items_of (material_of row.range sides [])) item =
          material_into row.range sides (drop from (applied_entries w)) []
          (λ e stands bearing. absurd (untouched e (applied_behind e stands) bearing)) item at in
          absurd (omega (arith, none.1));
      come = λ item stands inside.
          absurd (false≢true (sym (fails_at (is_in row.range) records item bare.empty stands) ∙ inside));
      sides = λ item at.
          let mine = named_of item at in
          let all : List Entry = unmarked_from w.marks from w.entries in
          let found = flat_from items_in (flat_map sides (named row.range all)) item mine.1 in
          let none : Contains (flat_map sides (named row.range [])) found.0 =
          sides_into row.range sides all []
          (λ e stands joins.
          absurd (untouched e (unmarked_behind e stands)
          (or_right (is_held_in row.range e) (is_joined_in row.range e) joins))) found.0 found.1 in
          absurd (omega (arith, none.1));
    }
      where
        untouched : (e : Entry) → Contains (drop from w.entries) e → bears row.range e ≡ true → ⊥
        untouched e stands bearing =
            false≢true
            (sym (fails_at (touches row.range) (drop from w.entries) e bare.nothing stands) ∙ bears_touches row.range e bearing)
