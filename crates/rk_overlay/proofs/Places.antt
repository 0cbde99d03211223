-- The place of the newest item, and the item that the fold finds.
use Rattle.std.proofs.Common.{◌≡◌, ℕ, ◌+◌, ◌<◌, ◌≤◌, true, false, List, [], ◌∷◌, ◌++◌, Option, Some, None, length, take, drop, get_or, sym, ap, ◌∙◌, subst, arith, length-take, length-drop}
use Rattle.std.specs.Prelude.{option_and_then, slice_get}
use Rattle.std.specs.List.{Contains}
use Rattle.std.proofs.lemmas.List.{drop_more, get_or_default, get_or-drop, get_or-take, take-append-drop}
use Rattle.std.proofs.lemmas.Option.{slice_get-get_or}
use Rattle.rk_types.specs.declared.held.Held.{Held}
use Rattle.rk_overlay.specs.Newest.{Found, is_of, newer_of, newest, none_found, with_newer, IsBestBefore, IsNewestBefore}
use Rattle.rk_overlay.proofs.Folds.{newer_item, newest_from-append, newest_from-stays, with_newer_here}
use Rattle.rk_overlay.proofs.Bridges.{newest_is, newest_none}

module _ (items : List Held) (table : ℕ) (key : List ℕ) (place : ℕ) (d : Held) (best : IsNewestBefore items table key (length items) place) where
  abbrev here : Held
  here = get_or items place d

  -- whatever is given for what is past the end
  one_at : (e : Held) → get_or items place e ≡ here
  one_at e = get_or_default items place e d best.within

  -- the items before the place have an older one of the record, or none
  newer_than_front : newer_of (newest (take place items) table key) here ≡ here
  newer_than_front =
      newer_item (newest (take place items) table key) here
      (λ old is.
      let from = newest_is (take place items) table key old is in
      let before : from.stands.0 < length (take place items) = from.stands.1 in
      let short : length (take place items) ≤ place = omega (arith, length-take place items) in
      let within : from.stands.0 < place = omega arith in
      let there : get_or items from.stands.0 old ≡ old = sym (get_or-take place items from.stands.0 old within) ∙ from.stands.2 in
      let older = best.first from.stands.0 old within (subst (λ (x : Held). is_of table key x ≡ true) (sym there) from.of_record) in
      let same : get_or items place old ≡ here = one_at old in
      subst (λ (x : Held). old.version < x.version) same (subst (λ (x : Held). x.version < (get_or items place old).version) there older))

  -- those behind it have none that is newer
  none_newer_behind : (other : Held) → Contains (drop (place + 1) items) other → is_of table key other ≡ true → other.version ≤ here.version
  none_newer_behind other at of = grind (arith, get_or-drop, length-drop, one_at)

  -- so it is the newest item
  newest_at : newest items table key ≡ slice_get items place
  newest_at =
      let found : Found = newest (take place items) in
      let split : items ≡ take place items ++ here ∷ drop (place + 1) items =
      sym (take-append-drop place items) ∙ ap (λ (l : List Held). take place items ++ l) (drop_more items place d best.within) in
      let taken : with_newer found here table key ≡ Some here =
      with_newer_here found here table key (best.of_record d) ∙ ap Some newer_than_front in
      ap (λ (l : List Held). newest l table key) split
      ∙ ap (λ (f : Found). f table key) (newest_from-append none_found (take place items) (here ∷ drop (place + 1) items))
      ∙ newest_from-stays (with_newer found here) (drop (place + 1) items) table key here taken none_newer_behind
      ∙ sym (slice_get-get_or items place d best.within)

-- the item at the place of the newest one is the newest item, and there is none if there is no such place
pub best_is :
    (items : List Held) (table : ℕ) (key : List ℕ) (end : ℕ) (best : Option ℕ) → end ≡ length items
    → IsBestBefore items table key end best → option_and_then (slice_get items) best ≡ newest items table key
best_is items table key end None all none =
    sym ((newest_none items table key).1
    (λ item at.
    let within : at.0 < end = let below : at.0 < length items = at.1 in omega (arith, all) in
    subst (λ (x : Held). is_of table key x ≡ false) at.2 (none at.0 item within)))
best_is [] table key end (Some place) all best = let within : place < end = best.within in absurd (omega (arith, all))
best_is (first ∷ items) table key end (Some place) all best =
    sym (newest_at (first ∷ items) table key place first (subst (λ (n : ℕ). IsNewestBefore (first ∷ items) table key n place) all best))
