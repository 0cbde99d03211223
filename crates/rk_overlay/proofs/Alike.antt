-- Lists with the same members: if they are plain, they have the same newest items, in whatever order and however often each occurs.
use Rattle.std.proofs.Common.{◌≡◌, ℕ, List, ◌∷◌, ◌++◌, Option, Some, None, refl, sym, ap, ◌∙◌, subst, ⊎_elim}
use Rattle.std.specs.List.{Contains}
use Rattle.std.proofs.lemmas.List.Elements.{Contains-append_cases, Contains-append_left, Contains-append_right}
use Rattle.rk_types.specs.declared.held.Held.{Held}
use Rattle.rk_overlay.specs.Newest.{newest, newest_from, none_found}
use Rattle.rk_overlay.specs.Plain.{IsPlain, HaveSame}
use Rattle.rk_overlay.specs.Overlay.{newest_items, overlay}
use Rattle.rk_overlay.proofs.Members.{behind_stands, stands_cases}
use Rattle.rk_overlay.proofs.Folds.{newest_from-append, newest_from-stays, newest_from-none}
use Rattle.rk_overlay.proofs.Bridges.{newest_is, newest_none, newest_found}
use Rattle.rk_overlay.proofs.Overlays.{newest_items_same}

-- lists with the same items are plain together
pub plain_alike : (xs ys : List Held) → IsPlain xs → HaveSame xs ys → IsPlain ys
plain_alike xs ys plain same x y x_at y_at = plain x y ((same x).1 x_at) ((same y).1 y_at)

-- and plain ones have the same newest items
pub newest_alike : (xs ys : List Held) → IsPlain xs → HaveSame xs ys → (table : ℕ) (key : List ℕ) → newest xs table key ≡ newest ys table key
newest_alike xs ys plain same table key = go (newest xs table key) refl
  where
    go : (o : Option Held) → newest xs table key ≡ o → newest xs table key ≡ newest ys table key
    go None none = none ∙ sym ((newest_none ys table key).1 (λ item at. (newest_none xs table key).0 none item ((same item).1 at)))
    go (Some item) is =
        let best = newest_is xs table key item is in
        is ∙ sym (newest_found ys table key item (plain_alike xs ys plain same) (record {
          stands = (same item).0 best.stands;
          of_record = best.of_record;
          greatest = λ other at of. best.greatest other ((same other).1 at) of;
        }))

pub newest_items_alike : (xs ys : List Held) → IsPlain xs → HaveSame xs ys → newest_items xs ≡ newest_items ys
newest_items_alike xs ys plain same = newest_items_same xs ys (newest_alike xs ys plain same)

-- two lists in a row have the same items the other way round
pub same_swapped : (a b : List Held) → HaveSame (a ++ b) (b ++ a)
same_swapped a b item = (swapped a b, swapped b a)
  where
    swapped : (xs ys : List Held) → Contains (xs ++ ys) item → Contains (ys ++ xs) item
    swapped xs ys at =
        ⊎_elim (λ (first : Contains xs item). Contains-append_right ys xs item first)
        (λ (second : Contains ys item). Contains-append_left ys xs item second) (Contains-append_cases xs ys item at)

-- one more time an item that is there
pub same_repeated : (a b : List Held) (item : Held) → Contains (a ++ b) item → HaveSame (a ++ item ∷ b) (a ++ b)
same_repeated a b item stood other = (without, with_it)
  where
    without : Contains (a ++ item ∷ b) other → Contains (a ++ b) other
    without at =
        ⊎_elim (λ (first : Contains a other). Contains-append_left a b other first)
        (λ (second : Contains (item ∷ b) other).
        ⊎_elim (λ (same : item ≡ other). subst (Contains (a ++ b)) same stood)
        (λ (behind : Contains b other). Contains-append_right a b other behind) (stands_cases item b other second))
        (Contains-append_cases a (item ∷ b) other at)

    with_it : Contains (a ++ b) other → Contains (a ++ item ∷ b) other
    with_it at =
        ⊎_elim (λ (first : Contains a other). Contains-append_left a (item ∷ b) other first)
        (λ (second : Contains b other). Contains-append_right a (item ∷ b) other (behind_stands item b other second))
        (Contains-append_cases a b other at)

-- the newest items of a plain list do not change by the order of its parts
pub overlay_swapped : (a b : List Held) → IsPlain (a ++ b) → overlay a b ≡ overlay b a
overlay_swapped a b plain = newest_items_alike (a ++ b) (b ++ a) plain (same_swapped a b)

-- a list that comes again changes nothing, be it plain or not, since the first of equally new items counts
pub newest_twice : (items : List Held) (table : ℕ) (key : List ℕ) → newest (items ++ items) table key ≡ newest items table key
newest_twice items table key = go (newest items table key) refl
  where
    joined : newest (items ++ items) table key ≡ newest_from (newest items) items table key
    joined = ap (λ found. found table key) (newest_from-append none_found items items)

    go : (o : Option Held) → newest items table key ≡ o → newest (items ++ items) table key ≡ newest items table key
    go None none = joined ∙ newest_from-none (newest items) items table key ((newest_none items table key).0 none)
    go (Some item) is =
        joined ∙ newest_from-stays (newest items) items table key item is (newest_is items table key item is).greatest ∙ sym is
