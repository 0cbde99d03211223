-- What records leave of a key: the same as all that counts, if they have its newest item, or all that came of it to a target. If a tablet
-- that has no record of a key knows all of it, each item of the key that its source has has arrived.
use Rattle.std.proofs.Common.{Bool, Contains, List, None, Option, Some, ap, arith, false, inl, inr, is_some, nat_lt, not, option_map, refl}
use Rattle.std.proofs.Common.{sym, take, true, ℕ, ⊎_elim, ◌++◌, ◌<◌, ◌||◌, ◌∙◌, ◌≡◌, ◌≤◌, ◌⊎◌}
use Rattle.rk_sound.specs.Receives.{HasCome}
use Rattle.rk_table.specs.Items.{is_at}
use Rattle.rk_types.specs.Hashing.{bucket_of}
use Rattle.rk_inv_base.proofs.Words.{All-contains, All-contains_itself, Contains-append_cases, Contains-append_left, Contains-append_right}
use Rattle.rk_inv_base.proofs.Words.{Entry, HasArrived, Held, IsFound, IsInScanOrder, IsPlain, IsReceived, IsTableOf, Range, Tablet}
use Rattle.rk_inv_base.proofs.Words.{cases_Bool, contains, found, has, has_key, hash_of, is_in, is_known, is_of, is_of_from, is_of_parts}
use Rattle.rk_inv_base.proofs.Words.{is_receiving, items_of, live, newest, newest_found, newest_is, newest_own, record_of}
use Rattle.rk_inv_events.proofs.Words.{AreIn, IsIn, before_bucket, filter_stands, item_bucket, of_bucket, plain_fewer, stands_is_found}
use Rattle.rk_inv_events.proofs.Words.{all_find, find_passes, by_found}

-- a tablet that pulls knows a key by its hash or by its bucket
known_by : (receives hash bucket : Bool) → receives ≡ true → (not receives || hash || bucket) ≡ true → (bucket ≡ true) ⊎ (hash ≡ true)
known_by receives hash bucket is known = grind arith

pub has_arrived : (tablet : Tablet) (table : ℕ) (key : List ℕ) → is_known tablet (hash_of key) None ≡ true
    → (items : List Held) (x : Held) → Contains items x → is_of table key x ≡ true → HasArrived tablet.handover.role tablet.pulling items x
has_arrived tablet table key known items x stands of receives =
    let token = tablet.pulling.token in
    let same : x.key ≡ key = (is_of_parts table key x of).1 in
    elim
    (known_by (is_receiving tablet.handover.role) (contains tablet.pulling.hashes.resolved (hash_of key))
    (nat_lt (bucket_of (hash_of key)) token.bucket) receives known) [
      | inl before ↦
          inl
          (Contains-append_left (before_bucket token.bucket items) (take token.skip (of_bucket token.bucket items)) x
          (filter_stands (λ item. nat_lt (item_bucket item) token.bucket) items x stands
          (ap (λ (k : List ℕ). nat_lt (bucket_of (hash_of k)) token.bucket) same ∙ before)))
      | inr came ↦ inr (ap (λ (k : List ℕ). contains tablet.pulling.hashes.resolved (hash_of k)) same ∙ came)
    ]

-- ---- what records leave

-- what a search finds is there
found_stands : (table : ℕ) (key : List ℕ) (records : List Held) (x : Held) → found table key records ≡ Some x → Contains records x
found_stands table key records x = all_find (Contains records) (is_at table key) records x (All-contains_itself records)

-- an item of a key lies in a range that has the key
item_in : (range : Range) (table : ℕ) (key : List ℕ) (x : Held) → has_key range table key ≡ true → is_of table key x ≡ true → is_in range x ≡ true
item_in range table key x inside of = let parts = is_of_parts table key x of in (λ i. has range (parts.0 i) (hash_of (parts.1 i))) ∙ inside

-- records with the newest items of what counts find the newest of a key
module _ (range : Range) (list : List Entry) (records : List Held) (table : ℕ) (key : List ℕ) (order : IsInScanOrder records) (within : AreIn range (items_of list)) (its : IsTableOf range list records) (inside : has_key range table key ≡ true) where
  newest_there : (y : Held) → newest (items_of list) table key ≡ Some y → found table key records ≡ Some y
  newest_there y is =
      let best = newest_is (items_of list) table key y is in
      stands_is_found records table key y order
      ((its y (All-contains (IsIn range) (items_of list) y within best.stands)).1 (newest_own (items_of list) table key y is))
      best.of_record

  pub table_found : found table key records ≡ newest (items_of list) table key
  table_found = grind (arith, found, newest, items_of, newest_there, is_of, find_passes, is_of_parts, item_in, found_stands)

-- ---- a target

-- a target beside its source: a scan of the source has its newest items that are no tombstones, and what counts of the target is its own,
-- above all of the source's, or the source's as well
pub record IsBeside (range : Range) (source scan own mine : List Held) : Type 0 where
  pub first : (x : Held) → Contains scan x → newest source x.table x.key ≡ Some x
  pub scanned : (x : Held) → newest source x.table x.key ≡ Some x → is_some x.value ≡ true → Contains scan x
  pub has_own : (x : Held) → Contains own x → Contains mine x
  pub from : (x : Held) → Contains mine x → Contains own x ⊎ Contains source x
  pub above : (x y : Held) → Contains own x → Contains source y → y.version < x.version
  pub plain : IsPlain (source ++ mine)

-- a tombstone leaves no record
no_record : (value : Option (List ℕ)) (version : ℕ) → is_some value ≡ false → option_map {U = ℕ × List ℕ} (λ (v : List ℕ). (version, v)) value ≡ None
no_record None version none = refl
no_record (Some value) version none = absurd (cc none)

module _ (range : Range) (source scan own mine sides records : List Held) (Arrived : Held → Type 0) (beside : IsBeside range source scan own mine) (received : IsReceived Arrived range scan own sides records) (order : IsInScanOrder records) (table : ℕ) (key : List ℕ) where
  abbrev all : List Held
  all = source ++ mine

  -- what is found of a key is that which the records have
  one_found : (x : Held) → IsFound records x → is_of table key x ≡ true → (y : Option Held) → found table key records ≡ y → (there : Held) × (y ≡ Some there) × (x.version ≤ there.version)
  one_found x there of y is = grind (arith, is_of_parts, stands_is_found, is_of_from)

  module _ (inside : has_key range table key ≡ true) where
    -- what is found is the newest of all
    found_newest : (x : Held) → found table key records ≡ Some x → newest all table key ≡ Some x
    found_newest x is =
        let of : is_of table key x ≡ true = find_passes (is_at table key) records x is in
        let parts = is_of_parts table key x of in
        let came = received.come x (found_stands table key records x is) (item_in range table key x inside of) in
        newest_found all table key x beside.plain
        (record {
          stands = elim came [
            | inl its ↦ Contains-append_right source mine x (beside.has_own x its)
            | inr copy ↦
                Contains-append_left source mine x (newest_is source x.table x.key x (beside.first x (received.within x copy))).stands
          ];
          of_record = of;
          greatest = λ other at its.
              let names = is_of_parts table key other its in
              let of_own : Contains own other → other.version ≤ x.version =
              λ there.
              let has = one_found other (received.found other (inl there)) its (Some x) is in
              let same : x ≡ has.0 = cc has.1 in rw same has.2 in
              let of_source : Contains source other → other.version ≤ x.version =
              λ there. elim came [
                | inl mine ↦ omega (arith, beside.above x other mine there)
                | inr copy ↦
                    (newest_is source x.table x.key x (beside.first x (received.within x copy))).greatest other there
                    (is_of_from x.table x.key other (names.0 ∙ sym parts.0) (names.1 ∙ sym parts.1))
              ] in
              ⊎_elim of_source (λ (there : Contains mine other). ⊎_elim of_own of_source (beside.from other there))
              (Contains-append_cases source mine other at);
        })

    -- if none is found of a key of which all has arrived, none is left but a tombstone
    module _ (none : found table key records ≡ None) (arrives : (x : Held) → Contains scan x → is_of table key x ≡ true → Arrived x) where
      never : (x : Held) → HasCome Arrived scan own x → is_of table key x ≡ true → ⊥
      never x come of = absurd (cc (one_found x (received.found x come) of None none).1)

      of_source : (y : Held) → newest all table key ≡ Some y → Contains source y → record_of (Some y) ≡ None
      of_source y is there =
          let best = newest_is all table key y is in
          let parts = is_of_parts table key y best.of_record in
          let first : newest source y.table y.key ≡ Some y =
          newest_found source y.table y.key y (plain_fewer source all (λ x. Contains-append_left source mine x) beside.plain)
          (record {
            stands = there;
            of_record = is_of_from y.table y.key y refl refl;
            greatest = λ other at of.
                let its = is_of_parts y.table y.key other of in
                best.greatest other (Contains-append_left source mine other at)
                (is_of_from table key other (its.0 ∙ parts.0) (its.1 ∙ parts.1));
          }) in
          elim (cases_Bool (is_some y.value)) [
            | inl lives ↦
                let stands : Contains scan y = beside.scanned y first lives in
                absurd (never y (inr (stands, arrives y stands best.of_record)) best.of_record)
            | inr tombstone ↦ no_record y.value y.version tombstone
          ]

      none_left : live all table key ≡ None
      none_left =
          by_found (λ best. record_of best ≡ None) (newest all table key) (λ none. refl)
          (λ y is.
          let best = newest_is all table key y is in
          ⊎_elim (of_source y is)
          (λ (there : Contains mine y).
          ⊎_elim (λ (its : Contains own y). absurd (never y (inl its) best.of_record)) (of_source y is) (beside.from y there))
          (Contains-append_cases source mine y best.stands))

    -- so the records leave of the key what all leaves
    pub found_leaves : (found table key records ≡ None → (x : Held) → Contains scan x → is_of table key x ≡ true → Arrived x)
        → record_of (found table key records) ≡ live all table key
    found_leaves arrives = by_found (λ there. record_of there ≡ live all table key) (found table key records)
        (λ none. sym (none_left none (arrives none))) (λ x is. ap record_of (sym (found_newest x is)))
