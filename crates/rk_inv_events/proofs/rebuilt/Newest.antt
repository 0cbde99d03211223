-- Own items with the newest of all, except those that they have, are the newest of all, and leave the records that all leave.
use Rattle.std.proofs.Common.{Contains, List, None, Option, Some, ap, arith, bytes_eq, eqb, eqb-true, inl, inr, not, refl, sym, true, ℕ}
use Rattle.std.proofs.Common.{◌&&◌, ◌↔◌, ◌∙◌, ◌≡◌, ◌≤◌}
use Rattle.rk_inv_base.proofs.Words.{Any-from_list_any, Held, IsFound, IsInScanOrder, IsPlain, Range, and_parts, bytes_eq-Decides}
use Rattle.rk_inv_base.proofs.Words.{cases_Bool, copies_of, has_version, is_in, is_of_from, is_of_parts, live, newest, newest_found}
use Rattle.rk_inv_base.proofs.Words.{newest_is, newest_items, newest_items_are, newest_none, newest_own, record_of}
use Rattle.rk_inv_events.proofs.Words.{HasBoth, filter_from, filter_stands, plain_fewer, stands_is_found, table_over, by_found}

-- one of these items has the table, key and version of an item
record HasVersion (items : List Held) (item : Held) : Type 0 where
  pub other : Held
  pub stands : Contains items other
  pub table_is : other.table ≡ item.table
  pub key_is : other.key ≡ item.key
  pub version_is : other.version ≡ item.version

has_parts : (items : List Held) (item : Held) → has_version items item ≡ true → HasVersion items item
has_parts items item has =
    let found =
    Any-from_list_any (λ other. eqb other.table item.table && bytes_eq other.key item.key && (eqb other.version item.version)) items has in
    let other : Held = found.1 in
    let both = and_parts (eqb other.table item.table && bytes_eq other.key item.key) (eqb other.version item.version) found.4 in
    let names = and_parts (eqb other.table item.table) (bytes_eq other.key item.key) both.0 in
    record {
      other = other;
      stands = (found.0, found.2, found.3);
      table_is = eqb-true other.table item.table names.0;
      key_is = (bytes_eq-Decides other.key item.key).0 names.1;
      version_is = eqb-true other.version item.version both.1;
    }

-- a copy is one of all
pub copy_of_all : (own all : List Held) (item : Held) → Contains (copies_of own all) item → Contains all item
copy_of_all own all item stands =
    let newest : Contains (newest_items all) item = filter_from (λ x. not (has_version own x)) (newest_items all) item stands in
    (newest_is all item.table item.key item (((newest_items_are all).newest item).0 newest)).stands

module _ (own all target : List Held) (plain : IsPlain all) (within : (x : Held) → Contains own x → Contains all x) (both : HasBoth own (copies_of own all) target) where
  -- the newest of a key is an own item, or a copy
  newest_there : (table : ℕ) (key : List ℕ) (x : Held) → newest all table key ≡ Some x → Contains target x
  newest_there table key x is = elim (cases_Bool (has_version own x)) [
    | inl has ↦
        let its = has_parts own x has in
        let same : its.other ≡ x =
        plain its.other x (within its.other its.stands) (newest_is all table key x is).stands its.table_is its.key_is its.version_is in
        both.has_own x (rw same at its.stands)
    | inr none ↦
        both.has_copied x
        (filter_stands (λ y. not (has_version own y)) (newest_items all) x
        (((newest_items_are all).newest x).1 (newest_own all table key x is)) (ap not none))
  ]

  pub in_all : (x : Held) → Contains target x → Contains all x
  in_all x stands = elim (both.from x stands) [ inl mine ↦ within x mine | inr copy ↦ copy_of_all own all x copy ]

  pub target_plain : IsPlain target
  target_plain = plain_fewer target all in_all plain

  -- so the newest of each key is the same
  pub newest_same : (table : ℕ) (key : List ℕ) → newest target table key ≡ newest all table key
  newest_same table key =
      by_found (λ best. newest target table key ≡ best) (newest all table key)
      (λ none. (newest_none target table key).1 (λ item at. (newest_none all table key).0 none item (in_all item at)))
      (λ x is.
      let best = newest_is all table key x is in
      newest_found target table key x target_plain
      (record {
        stands = newest_there table key x is;
        of_record = best.of_record;
        greatest = λ other at of. best.greatest other (in_all other at) of;
      }))

  pub live_same : (table : ℕ) (key : List ℕ) → live target table key ≡ live all table key
  live_same table key = ap record_of (newest_same table key)

  -- records that have nothing else than all, and of each key one as new as the target's, are its newest
  pub table_same : (range : Range) (records : List Held) → IsInScanOrder records → ((x : Held) → Contains records x → is_in range x ≡ true → Contains all x) → ((x : Held) → Contains target x → IsFound records x)
      → (item : Held) → is_in range item ≡ true → (Contains records item ↔ (newest target item.table item.key ≡ Some item))
  table_same range records order come found =
      table_over range target records (record { plain = target_plain; order = order; come = back; found = found })
    where
      -- a record is the newest of its key
      is_newest : (x : Held) → Contains records x → Contains all x → (o : Option Held) → newest all x.table x.key ≡ o → Contains target x
      is_newest x stands there None none =
          absurd (cc (sym (is_of_from x.table x.key x refl refl) ∙ (newest_none all x.table x.key).0 none x there))
      is_newest x stands there (Some y) is =
          let best = newest_is all x.table x.key y is in
          let in_target : Contains target y = newest_there x.table x.key y is in
          let its = found y in_target in
          let of_x = is_of_parts x.table x.key y best.of_record in
          let of_y = is_of_parts y.table y.key its.there its.same_key in
          let a = stands_is_found records x.table x.key x order stands (is_of_from x.table x.key x refl refl) in
          let b =
          stands_is_found records x.table x.key its.there order its.stands
          (is_of_from x.table x.key its.there (of_y.0 ∙ of_x.0) (of_y.1 ∙ of_x.1)) in
          let same : Some its.there ≡ Some x = sym b ∙ a in
          let one : its.there ≡ x = cc same in
          let as_new : y.version ≤ x.version = rw one at its.as_new in
          let above : x.version ≤ y.version = best.greatest x there (is_of_from x.table x.key x refl refl) in
          let is_y : y ≡ x = plain y x best.stands there of_x.0 of_x.1 (omega (arith, as_new, above)) in
          rw is_y at in_target

      back : (x : Held) → Contains records x → is_in range x ≡ true → Contains target x
      back x stands inside = is_newest x stands (come x stands inside) (newest all x.table x.key) refl
