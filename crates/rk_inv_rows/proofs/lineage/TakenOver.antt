-- What a target has once it took a tablet over: the newest items of its own and of what it copied are those of source and target together.
use Rattle.std.proofs.Common.{◌≡◌, ℕ, ◌≤◌, ◌<◌, true, false, List, [], ◌∷◌, ◌++◌, Option, Some, None, refl, sym, ap, subst, ◌∙◌, ⊎_elim}
use Rattle.std.proofs.Common.{arith, append-nil, append_assoc, is_some, ◌↔◌, ◌⊎◌, Contains, option_map}
use Rattle.rk_inv_base.proofs.Words.{cases_Bool, false≢true, All-contains, Contains-append_cases, Contains-append_left}
use Rattle.rk_inv_base.proofs.Words.{Contains-append_right, Contains-push, Contains-push_cases, Held, Range, is_in, IsInScanOrder}
use Rattle.rk_inv_base.proofs.Words.{newest_found, newest_is, newest_none, is_of_from, is_of_parts, live, record_of, is_of, newest, IsPlain}
use Rattle.rk_inv_base.proofs.Words.{AreAbove, IsAboveAll, IsFound, IsOutdone}
use Rattle.rk_inv_rows.proofs.Words.{all_by, in_by_key, stands_is_found}

-- ---- plain lists, and items above those before them

-- fewer items are plain
pub plain_fewer : (few many : List Held) → ((x : Held) → Contains few x → Contains many x) → IsPlain many → IsPlain few
plain_fewer few many among plain a b a_at b_at = plain a b (among a a_at) (among b b_at)

-- an item has no greater version than itself
not_above : (others : List Held) (a b : Held) → IsAboveAll others b → Contains others a → a.table ≡ b.table → a.key ≡ b.key → a.version ≡ b.version → ⊥
not_above others a b above stands table key version = grind (arith, is_of, is_of_from)

-- an item that is above all of its key is plain with them
plain_push : (before : List Held) (item : Held) → IsPlain before → IsAboveAll before item → IsPlain (before ++ item ∷ [])
plain_push before item plain above a b a_at b_at table key version =
    ⊎_elim
    (λ (a_before : Contains before a).
    ⊎_elim (λ (b_before : Contains before b). plain a b a_before b_before table key version)
    (λ (is : item ≡ b).
    absurd (not_above before a item above a_before (table ∙ ap (λ (h : Held). h.table) (sym is)) (key ∙ ap (λ (h : Held). h.key) (sym is))
    (version ∙ ap (λ (h : Held). h.version) (sym is))))
    (Contains-push_cases before item b b_at))
    (λ (is : item ≡ a).
    ⊎_elim
    (λ (b_before : Contains before b).
    absurd (not_above before b item above b_before (sym table ∙ ap (λ (h : Held). h.table) (sym is))
    (sym key ∙ ap (λ (h : Held). h.key) (sym is)) (sym version ∙ ap (λ (h : Held). h.version) (sym is))))
    (λ (other : item ≡ b). sym is ∙ other)
    (Contains-push_cases before item b b_at))
    (Contains-push_cases before item a a_at)

pub plain_above : (before items : List Held) → IsPlain before → AreAbove before items → IsPlain (before ++ items)
plain_above before [] plain above = subst IsPlain (sym (append-nil before)) plain
plain_above before (item ∷ items) plain above =
    subst IsPlain (append_assoc before (item ∷ []) items)
    (plain_above (before ++ item ∷ []) items (plain_push before item plain above.0) above.1)

-- items that are above those of their key among many are so among fewer
pub above_fewer : (few many items : List Held) → ((x : Held) → Contains few x → Contains many x) → AreAbove many items → AreAbove few items
above_fewer few many [] among above = tt
above_fewer few many (item ∷ items) among above = (
  all_by (λ other. is_of item.table item.key other ≡ true → other.version < item.version) few
      (λ other stands.
      All-contains (λ other. is_of item.table item.key other ≡ true → other.version < item.version) many other above.0
      (among other stands)),
  above_fewer (few ++ item ∷ []) (many ++ item ∷ []) items
      (λ x stands.
      ⊎_elim (λ (before : Contains few x). Contains-append_left many (item ∷ []) x (among x before))
      (λ (is : item ≡ x). rw (← is) (Contains-push many item))
      (Contains-push_cases few item x stands)) above.1,
)

-- ---- a target that took over

-- a target took over from a source with these items, of which a scan has the newest that are no tombstones: it copied each of them, or has
-- a newer one of its own. Its own are above all of the source's
pub record TakesOver (source scan own copies : List Held) : Type 0 where
  pub first : (x : Held) → Contains scan x → newest source x.table x.key ≡ Some x
  pub scanned : (x : Held) → newest source x.table x.key ≡ Some x → is_some x.value ≡ true → Contains scan x
  pub within : (x : Held) → Contains copies x → Contains scan x
  pub copied : (x : Held) → Contains scan x → Contains copies x ⊎ IsOutdone own x
  pub above : (x y : Held) → Contains own x → Contains source y → y.version < x.version

-- a list has its own items and the copied ones
pub record HasBoth (own copies target : List Held) : Type 0 where
  pub from : (x : Held) → Contains target x → Contains own x ⊎ Contains copies x
  pub has_own : (x : Held) → Contains own x → Contains target x
  pub has_copied : (x : Held) → Contains copies x → Contains target x

-- a tombstone leaves no record
no_record : (value : Option (List ℕ)) (version : ℕ) → is_some value ≡ false → option_map {U = ℕ × List ℕ} (λ (v : List ℕ). (version, v)) value ≡ None
no_record None version none = refl
no_record (Some value) version none = absurd (cc none)

module _ (source scan own copies target : List Held) (takes : TakesOver source scan own copies) (both : HasBoth own copies target) (plain : IsPlain (source ++ target)) where
  -- the newest item of the target is not older than any of the source
  below : (table : ℕ) (key : List ℕ) (x other : Held) → Contains target x → is_of table key x ≡ true → Contains source other → is_of table key other ≡ true → other.version ≤ x.version
  below table key x other stands of there its =
      ⊎_elim (λ (mine : Contains own x). let less = takes.above x other mine there in omega (arith, less))
      (λ (copy : Contains copies x).
      let best = newest_is source x.table x.key x (takes.first x (takes.within x copy)) in
      let parts = is_of_parts table key x of in
      let others = is_of_parts table key other its in
      best.greatest other there (is_of_from x.table x.key other (others.0 ∙ sym parts.0) (others.1 ∙ sym parts.1)))
      (both.from x stands)

  in_target : (x : Held) → Contains target x → Contains (source ++ target) x
  in_target x = Contains-append_right source target x

  -- if the target has none of a key, the newest of the source is a tombstone
  removed : (table : ℕ) (key : List ℕ) (y : Held) → newest target table key ≡ None → newest (source ++ target) table key ≡ Some y → record_of (Some y) ≡ None
  removed table key y none is =
      let best = newest_is (source ++ target) table key y is in
      let never : (x : Held) → Contains target x → is_of table key x ≡ true → ⊥ =
      λ x stands of. false≢true (sym ((newest_none target table key).0 none x stands) ∙ of) in
      let parts = is_of_parts table key y best.of_record in
      ⊎_elim
      (λ (there : Contains source y).
      let first : newest source y.table y.key ≡ Some y =
      newest_found source y.table y.key y (plain_fewer source (source ++ target) (λ x. Contains-append_left source target x) plain)
      (record {
        stands = there;
        of_record = is_of_from y.table y.key y refl refl;
        greatest = λ other at of.
            let its = is_of_parts y.table y.key other of in
            best.greatest other (Contains-append_left source target other at)
            (is_of_from table key other (its.0 ∙ parts.0) (its.1 ∙ parts.1));
      }) in
      ⊎_elim
      (λ (lives : is_some y.value ≡ true).
      ⊎_elim (λ (copy : Contains copies y). absurd (never y (both.has_copied y copy) best.of_record))
      (λ (outdone : IsOutdone own y).
      let its = is_of_parts y.table y.key outdone.newer outdone.same_key in
      absurd
      (never outdone.newer (both.has_own outdone.newer outdone.stands)
      (is_of_from table key outdone.newer (its.0 ∙ parts.0) (its.1 ∙ parts.1))))
      (takes.copied y (takes.scanned y first lives)))
      (λ (tombstone : is_some y.value ≡ false). no_record y.value y.version tombstone)
      (cases_Bool (is_some y.value)))
      (λ (mine : Contains target y). absurd (never y mine best.of_record))
      (Contains-append_cases source target y best.stands)

  -- so the target alone leaves the records that both leave
  pub live_over : (table : ℕ) (key : List ℕ) → live target table key ≡ live (source ++ target) table key
  live_over table key = go (newest target table key) refl (newest (source ++ target) table key) refl
    where
      go : (few : Option Held) → newest target table key ≡ few → (many : Option Held) → newest (source ++ target) table key ≡ many → live target table key ≡ live (source ++ target) table key
      go (Some x) is many all =
          let best = newest_is target table key x is in
          ap record_of
          (is
          ∙ sym
          (newest_found (source ++ target) table key x plain (record {
            stands = in_target x best.stands;
            of_record = best.of_record;
            greatest = λ other at of.
                ⊎_elim (λ (there : Contains source other). below table key x other best.stands best.of_record there of)
                (λ (mine : Contains target other). best.greatest other mine of)
                (Contains-append_cases source target other at);
          })))
      go None none None all = ap record_of (none ∙ sym all)
      go None none (Some y) all = ap record_of none ∙ sym (ap record_of all ∙ removed table key y none all)

-- ---- its records

-- records have what came to a target, and of each key a record that is not older
pub record HasRecords (range : Range) (target records : List Held) : Type 0 where
  pub plain : IsPlain target
  pub order : IsInScanOrder records
  pub come : (x : Held) → Contains records x → is_in range x ≡ true → Contains target x
  pub found : (x : Held) → Contains target x → IsFound records x

module _ (range : Range) (target records : List Held) (has : HasRecords range target records) where
  -- the one record of a key
  one_record : (x y : Held) → Contains records x → Contains records y → is_of x.table x.key y ≡ true → y ≡ x
  one_record x y first second of =
      let a = stands_is_found records x.table x.key x has.order first (is_of_from x.table x.key x refl refl) in
      let b = stands_is_found records x.table x.key y has.order second of in
      let same : Some y ≡ Some x = sym b ∙ a in
      let is : y ≡ x = cc in is

  -- records are the newest items of the target
  pub table_over : (item : Held) → is_in range item ≡ true → (Contains records item ↔ (newest target item.table item.key ≡ Some item))
  table_over item in_range = (forth, back)
    where
      forth : Contains records item → newest target item.table item.key ≡ Some item
      forth stands =
          newest_found target item.table item.key item has.plain (record {
            stands = has.come item stands in_range;
            of_record = is_of_from item.table item.key item refl refl;
            greatest = λ other at of.
                let there = has.found other at in
                let mine = is_of_parts item.table item.key other of in
                let its = is_of_parts other.table other.key there.there there.same_key in
                let is : there.there ≡ item =
                one_record item there.there stands there.stands
                (is_of_from item.table item.key there.there (its.0 ∙ mine.0) (its.1 ∙ mine.1)) in
                rw (← is) there.as_new;
          })

      back : newest target item.table item.key ≡ Some item → Contains records item
      back is =
          let best = newest_is target item.table item.key item is in
          let there = has.found item best.stands in
          let its = is_of_parts item.table item.key there.there there.same_key in
          let back : Contains target there.there =
          has.come there.there there.stands (in_by_key range item there.there there.same_key ∙ in_range) in
          let most : there.there.version ≤ item.version = best.greatest there.there back there.same_key in
          let least : item.version ≤ there.there.version = there.as_new in
          rw (← has.plain there.there item back best.stands its.0 its.1 (omega (arith, most, least))) there.stands
