-- A tree of numbered values, its entries in order, is the map by number with these entries.
use Rattle.std.proofs.Common.{◌≡◌, ℕ, Bool, true, false, T, ◌&&◌, cond, List, [], ◌∷◌, length, Option, Some, None, refl, sym, ap, ◌∙◌, eqb, arith}
use Rattle.std.specs.List.{AllByRecursion}
use Rattle.std.specs.List.Sorted.{IsStrictlySortedBy}
use Rattle.std.specs.Ordering.{nat_cmp, is_lt, eq_by_cmp}
use Rattle.std.specs.declared.cmp.Ordering.TheVariants.{Less}
use Rattle.std.specs.Cmp.{nat_cmp_total, eq_by_cmp_equiv, unsigned_tied}
use Rattle.std.specs.BTreeMap as tree
use Rattle.std.specs.BTreeMap.{BTreeMap, IsOrdered, Updates}
use Rattle.std.specs.Map.{keys_of, lookup}
use Rattle.std.specs.FinMap.Entries.{below_all, find, is_sorted}
use Rattle.std.proofs.lemmas.Map.Keys.{sorted_head, sorted_tail}
use Rattle.rk_types.specs.NumberMap.{NumberMap, IsInOrder, get, insert, remove}
use Rattle.rk_types.proofs.NumberMaps.{get_insert, get_remove, in_order_insert, in_order_remove, same_map}

both : (a b : Bool) → T a → T b → T (a && b)
both true b p q = q
both false b p q = p

no_entries : {A : Type 0} (entries : List A) → length entries ≡ 0 → entries ≡ []
no_entries [] none = refl
no_entries (entry ∷ entries) none = absurd (omega arith)

module _ {X : Type 0} where
  below_all-from : (k : ℕ) (es : List (ℕ × X)) → AllByRecursion (λ q. nat_cmp k q ≡ Less) (keys_of es) → T (below_all nat_cmp k es)
  below_all-from k [] below = tt
  below_all-from k (e ∷ es) below =
      both (is_lt (nat_cmp k e.0)) _ (rw below.0 tt) (below_all-from k es below.1)

  is_sorted-from : (es : List (ℕ × X)) → IsStrictlySortedBy nat_cmp (keys_of es) → T (is_sorted nat_cmp es)
  is_sorted-from [] sorted = tt
  is_sorted-from (e ∷ es) sorted =
      both (below_all nat_cmp e.0 es) _ (below_all-from e.0 es (sorted_head nat_cmp _ _ sorted)) (is_sorted-from es (sorted_tail nat_cmp _ _ sorted))

  -- its entries are in order
  pub in_order_tree : (m : BTreeMap ℕ X) → IsOrdered nat_cmp m → IsInOrder m.entries
  in_order_tree m ordered = is_sorted-from m.entries ordered

  get_lookup : (q : ℕ) (es : List (ℕ × X)) → get es q ≡ lookup (tree.is_at (nat_cmp q)) es
  get_lookup q [] = refl
  get_lookup q (e ∷ es) = ap (cond (eq_by_cmp nat_cmp q e.0) (Some e.1)) (get_lookup q es)

  -- what is found in it
  pub get_tree : (m : BTreeMap ℕ X) (q : ℕ) → get m.entries q ≡ tree.get nat_cmp m q
  get_tree m q = get_lookup q m.entries

  -- one of no entries
  pub empty_tree : (m : BTreeMap ℕ X) → tree.btree_map_len m ≡ 0 → m.entries ≡ []
  empty_tree m none = no_entries m.entries none

  -- a query for k in an updated tree
  asked : (m : BTreeMap ℕ X) (k q : ℕ) (w : Option X)
      → cond (tree.is_at (nat_cmp k) q) w (tree.get nat_cmp m q) ≡ cond (eqb q k) w (get m.entries q)
  asked m k q w =
      ap (λ test. cond test w (tree.get nat_cmp m q)) ((eq_by_cmp_equiv nat_cmp_total).symm k q ∙ unsigned_tied q k)
      ∙ ap (cond (eqb q k) w) (sym (get_tree m q))

  pub insert_tree : (m n : BTreeMap ℕ X) (k : ℕ) (v : X) → IsOrdered nat_cmp m → IsOrdered nat_cmp n → Updates nat_cmp m n k (Some v)
      → n.entries ≡ insert m.entries k v
  insert_tree m n k v before after updates =
      same_map n.entries (insert m.entries k v) (in_order_tree n after) (in_order_insert m.entries k v (in_order_tree m before))
      (λ q. get_tree n q ∙ updates.0 q ∙ asked m k q (Some v) ∙ sym (get_insert m.entries k v q))

  pub remove_tree : (m n : BTreeMap ℕ X) (k : ℕ) → IsOrdered nat_cmp m → IsOrdered nat_cmp n → Updates nat_cmp m n k None
      → n.entries ≡ remove m.entries k
  remove_tree m n k before after updates =
      same_map n.entries (remove m.entries k) (in_order_tree n after) (in_order_remove m.entries k (in_order_tree m before))
      (λ q. get_tree n q ∙ updates.0 q ∙ asked m k q None ∙ sym (get_remove m.entries k q))
