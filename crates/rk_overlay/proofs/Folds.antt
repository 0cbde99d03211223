-- What is found after a list: its law for lists in a row, and where what is found comes from.
use Rattle.std.proofs.Common.{◌≡◌, ℕ, ◌<◌, ◌≤◌, true, false, cond, ltb, List, [], ◌∷◌, ◌++◌, ◌⊎◌, Option, Some, None, refl, sym, ap, ◌∙◌, subst, inl, inr, ⊎_elim, arith}
use Rattle.std.specs.List.{Contains}
use Rattle.std.proofs.lemmas.Bool.{cases_Bool, cases_lt, cond-true, cond-false, lt-ltb, le-ltb, false≢true}
use Rattle.rk_types.specs.declared.held.Held.{Held}
use Rattle.rk_overlay.specs.Newest.{is_of, Found, newer_of, with_newer, newest_from, HasNone}
use Rattle.rk_overlay.proofs.Members.{none_stands, first_stands, behind_stands, stands_cases}

-- what is found after two lists in a row is what the second leaves of what is found after the first
pub newest_from-append :
    (found : Found) (front back : List Held) → newest_from found (front ++ back) ≡ newest_from (newest_from found front) back
newest_from-append found [] back = refl
newest_from-append found (item ∷ front) back = newest_from-append (with_newer found item) front back

-- if the same was found at a key before a list, the same is found there after it
pub newest_from-same :
    (f g : Found) (items : List Held) (table : ℕ) (key : List ℕ)
    → f table key ≡ g table key → newest_from f items table key ≡ newest_from g items table key
newest_from-same f g [] table key same = same
newest_from-same f g (item ∷ items) table key same =
    newest_from-same (with_newer f item) (with_newer g item) items table key
    (ap (λ o. cond (is_of table key item) (Some (newer_of o item)) o) same)

-- an item of the record, and one of another
pub with_newer_here :
    (found : Found) (item : Held) (table : ℕ) (key : List ℕ)
    → is_of table key item ≡ true → with_newer found item table key ≡ Some (newer_of (found table key) item)
with_newer_here found item table key here =
    cond-true (is_of table key item) (Some (newer_of (found table key) item)) (found table key) here

pub with_newer_other :
    (found : Found) (item : Held) (table : ℕ) (key : List ℕ)
    → is_of table key item ≡ false → with_newer found item table key ≡ found table key
with_newer_other found item table key other =
    cond-false (is_of table key item) (Some (newer_of (found table key) item)) (found table key) other

-- the newer one is the item if nothing was found, or only what is older
pub newer_item : (found : Option Held) (item : Held) → ((old : Held) → found ≡ Some old → old.version < item.version) → newer_of found item ≡ item
newer_item found item older = grind (arith, cond-true, ltb, lt-ltb)

-- and what was found, if the item is not newer
pub newer_old : (old item : Held) → item.version ≤ old.version → newer_of (Some old) item ≡ old
newer_old old item no_newer = cond-false (ltb old.version item.version) item old (le-ltb old.version item.version no_newer)

-- the newer one is the item, or it was found
pub newer_cases : (found : Option Held) (item : Held) → (newer_of found item ≡ item) ⊎ (found ≡ Some (newer_of found item))
newer_cases found item = grind (arith, newer_item, newer_old, cases_lt)

-- and it has no smaller version than either
pub newer_above_item : (found : Option Held) (item : Held) → item.version ≤ (newer_of found item).version
newer_above_item found item = grind (arith, cond-true, ltb, lt-ltb, newer_old, cases_lt)

pub newer_above_old : (old item : Held) → old.version ≤ (newer_of (Some old) item).version
newer_above_old old item = grind (arith, cond-true, ltb, lt-ltb, newer_old, cases_lt)

-- what is found after a list was found before or is in it, and nothing of its key there has a greater version
pub record IsFoundFrom (found : Found) (items : List Held) (table : ℕ) (key : List ℕ) (item : Held) : Type 0 where
  pub stands : (found table key ≡ Some item) ⊎ (Contains items item × (is_of table key item ≡ true))
  pub above : (old : Held) → found table key ≡ Some old → old.version ≤ item.version
  pub greatest : (other : Held) → Contains items other → is_of table key other ≡ true → other.version ≤ item.version

-- one more item of the record in front
more_here :
    (found : Found) (first : Held) (items : List Held) (table : ℕ) (key : List ℕ) (item : Held)
    → is_of table key first ≡ true → IsFoundFrom (with_newer found first) items table key item
    → IsFoundFrom found (first ∷ items) table key item
more_here found first items table key item here from =
    let newer : Held = newer_of (found table key) first in
    let step : with_newer found first table key ≡ Some newer = with_newer_here found first table key here in
    let below : newer.version ≤ item.version = from.above newer step in
    let first_below : first.version ≤ newer.version = newer_above_item (found table key) first in record {
      stands =
          ⊎_elim
          (λ (before : with_newer found first table key ≡ Some item).
          let same : newer ≡ item = cc (step, before) in
          ⊎_elim
          (λ (its : newer ≡ first).
          inr (
            subst (Contains (first ∷ items)) (sym its ∙ same) (first_stands first items),
            subst (λ (x : Held). is_of table key x ≡ true) (sym its ∙ same) here,
          ))
          (λ (old : found table key ≡ Some newer). inl (old ∙ ap Some same))
          (newer_cases (found table key) first))
          (λ (behind : Contains items item × (is_of table key item ≡ true)).
          inr (behind_stands first items item behind.0, behind.1))
          from.stands;
      above = λ old was.
          let old_below : old.version ≤ newer.version = subst (λ (o : Option Held). old.version ≤ (newer_of o first).version) (sym was) (newer_above_old old first) in
          omega arith;
      greatest = λ other at of.
          ⊎_elim
          (λ (same : first ≡ other). subst (λ (x : Held). x.version ≤ item.version) same (omega arith))
          (λ (behind : Contains items other). from.greatest other behind of)
          (stands_cases first items other at);
    }

-- one more item of another record in front
more_other :
    (found : Found) (first : Held) (items : List Held) (table : ℕ) (key : List ℕ) (item : Held)
    → is_of table key first ≡ false → IsFoundFrom (with_newer found first) items table key item
    → IsFoundFrom found (first ∷ items) table key item
more_other found first items table key item other_one from =
    let step : with_newer found first table key ≡ found table key = with_newer_other found first table key other_one in record {
      stands =
          ⊎_elim
          (λ (before : with_newer found first table key ≡ Some item). inl (sym step ∙ before))
          (λ (behind : Contains items item × (is_of table key item ≡ true)).
          inr (behind_stands first items item behind.0, behind.1))
          from.stands;
      above = λ old was. from.above old (step ∙ was);
      greatest = λ other at of.
          ⊎_elim
          (λ (same : first ≡ other).
          absurd (false≢true (sym other_one ∙ ap (is_of table key) same ∙ of)))
          (λ (behind : Contains items other). from.greatest other behind of)
          (stands_cases first items other at);
    }

pub newest_from_is :
    (found : Found) (items : List Held) (table : ℕ) (key : List ℕ) (item : Held)
    → newest_from found items table key ≡ Some item → IsFoundFrom found items table key item
newest_from_is found [] table key item is = record {
  stands = inl is;
  above = λ old was. let same : old ≡ item = cc (was, is) in subst (λ (x : Held). old.version ≤ x.version) same (omega arith);
  greatest = λ other at. absurd (none_stands other at);
}
newest_from_is found (first ∷ items) table key item is =
    let from = newest_from_is (with_newer found first) items table key item is in
    ⊎_elim
    (λ (here : is_of table key first ≡ true). more_here found first items table key item here from)
    (λ (other : is_of table key first ≡ false). more_other found first items table key item other from)
    (cases_Bool (is_of table key first))

-- what was found before a list is found after it, unless something newer is
pub newest_from_keeps :
    (found : Found) (items : List Held) (table : ℕ) (key : List ℕ) (old : Held)
    → found table key ≡ Some old → newest_from found items table key ≡ None → ⊥
newest_from_keeps found [] table key old was none = cc (was, none)
newest_from_keeps found (first ∷ items) table key old was none =
    ⊎_elim
    (λ (here : is_of table key first ≡ true).
    newest_from_keeps (with_newer found first) items table key (newer_of (found table key) first)
    (with_newer_here found first table key here) none)
    (λ (other : is_of table key first ≡ false).
    newest_from_keeps (with_newer found first) items table key old
    (with_newer_other found first table key other ∙ was) none)
    (cases_Bool (is_of table key first))

-- nothing is found after a list that has an item of the record: that cannot be
pub none_in : (found : Found) (items : List Held) (table : ℕ) (key : List ℕ) → newest_from found items table key ≡ None → HasNone items table key
none_in found [] table key none other at = absurd (none_stands other at)
none_in found (first ∷ items) table key none other at =
    ⊎_elim
    (λ (here : is_of table key first ≡ true).
    absurd (newest_from_keeps (with_newer found first) items table key (newer_of (found table key) first)
    (with_newer_here found first table key here) none))
    (λ (apart : is_of table key first ≡ false).
    ⊎_elim
    (λ (same : first ≡ other). subst (λ (x : Held). is_of table key x ≡ false) same apart)
    (λ (behind : Contains items other). none_in (with_newer found first) items table key none other behind)
    (stands_cases first items other at))
    (cases_Bool (is_of table key first))

-- a list without items of a record leaves what was found there
pub newest_from-none :
    (found : Found) (items : List Held) (table : ℕ) (key : List ℕ)
    → HasNone items table key → newest_from found items table key ≡ found table key
newest_from-none found [] table key none = refl
newest_from-none found (first ∷ items) table key none =
    newest_from-none (with_newer found first) items table key (λ other at. none other (behind_stands first items other at))
    ∙ with_newer_other found first table key (none first (first_stands first items))

-- what was found stays if a list has nothing newer of the record
pub newest_from-stays :
    (found : Found) (items : List Held) (table : ℕ) (key : List ℕ) (item : Held)
    → found table key ≡ Some item
    → ((other : Held) → Contains items other → is_of table key other ≡ true → other.version ≤ item.version)
    → newest_from found items table key ≡ Some item
newest_from-stays found [] table key item is below = is
newest_from-stays found (first ∷ items) table key item is below =
    newest_from-stays (with_newer found first) items table key item
    (⊎_elim
    (λ (here : is_of table key first ≡ true).
    with_newer_here found first table key here
    ∙ ap (λ (o : Option Held). Some (newer_of o first)) is
    ∙ ap Some (newer_old item first (below first (first_stands first items) here)))
    (λ (other : is_of table key first ≡ false). with_newer_other found first table key other ∙ is)
    (cases_Bool (is_of table key first)))
    (λ other at of. below other (behind_stands first items other at) of)
