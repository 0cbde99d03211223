-- What the tree has under each name, after one more item.
use Rattle.std.proofs.Common.{arith, ◌≡◌, ℕ, ◌<◌, true, false, ◌&&◌, eqb, List, [], Option, Some, None, sym, ap, ◌∙◌, subst, ⊎_elim}
use Rattle.std.proofs.lemmas.Bool.{cases_Bool, cond-true, cond-false}
use Rattle.std.proofs.lemmas.Map.Text.{is_eq-slice_cmp}
use Rattle.std.specs.Ordering.{is_eq}
use Rattle.std.specs.Option.{option_copied}
use Rattle.std.specs.Prelude.{bytes_eq}
use Rattle.std.specs.BTreeMap.{BTreeMap, get, is_at, Updates}
use Rattle.std.specs.Map.{lookup}
use denote.Ref.{Bor}
use Rattle.rk_types.specs.declared.held.Held.{Held}
use Rattle.rk_overlay.specs.Newest.{Found, none_found, is_of, newer_of, with_newer}
use Rattle.rk_overlay.specs.Lent.{Name, IsTreeOf, name_cmp}
use Rattle.rk_overlay.proofs.Names.{is_of_parts}
use Rattle.rk_overlay.proofs.Folds.{newer_item, with_newer_here, with_newer_other}
use Rattle.rk_overlay.proofs.Overlays.{same_number}

-- two names are one just if their tables are, and their keys
pub same_name : (a b : Name) → is_eq (name_cmp a b) ≡ (eqb a.0 b.0 && bytes_eq a.1.now b.1.now)
same_name a b = grind (arith, same_number, eqb, is_eq-slice_cmp)

-- the name of an item; the address of its key does not matter
abbrev pub name_of : Held → Name
name_of item = (item.table, record { ref_ptr = (0, 0); now = item.key })

-- a tree without entries is that of nothing found
pub tree_of_nothing : (tree : BTreeMap Name (Bor Held)) → tree.entries ≡ [] → IsTreeOf tree none_found
tree_of_nothing tree empty name = ap (λ (entries : List (Name × Bor Held)). option_copied (lookup (is_at (name_cmp name)) entries)) empty

-- what is found if an item is of the record is what is found at its own table and key
found_there : (found : Found) (item : Held) (table : ℕ) (key : List ℕ) → is_of table key item ≡ true → found table key ≡ found item.table item.key
found_there found item table key here =
    let its = is_of_parts table key item here in λ i. found (sym its.0 i) (sym its.1 i)

-- a tree with an item that is newer than what was found is the tree of what is found then
pub tree_with :
    (old new : BTreeMap Name (Bor Held)) (found : Found) (item : Bor Held)
    → IsTreeOf old found → Updates name_cmp old new (name_of item.now) (Some item)
    → newer_of (found item.now.table item.now.key) item.now ≡ item.now → IsTreeOf new (with_newer found item.now)
tree_with old new found item is_tree updates newer q =
    let here : is_eq (name_cmp (name_of item.now) q) ≡ is_of q.0 q.1.now item.now = same_name (name_of item.now) q in
    ⊎_elim
    (λ (of : is_of q.0 q.1.now item.now ≡ true).
    ap option_copied (updates.0 q ∙ cond-true (is_eq (name_cmp (name_of item.now) q)) (Some item) (get name_cmp old q) (here ∙ of))
    ∙ ap Some (sym newer)
    ∙ ap (λ (o : Option Held). Some (newer_of o item.now)) (sym (found_there found item.now q.0 q.1.now of))
    ∙ sym (with_newer_here found item.now q.0 q.1.now of))
    (λ (other : is_of q.0 q.1.now item.now ≡ false).
    ap option_copied (updates.0 q ∙ cond-false (is_eq (name_cmp (name_of item.now) q)) (Some item) (get name_cmp old q) (here ∙ other))
    ∙ is_tree q ∙ sym (with_newer_other found item.now q.0 q.1.now other))
    (cases_Bool (is_of q.0 q.1.now item.now))

-- what was seen under the name of an item is what is found there
pub seen_is : (tree : BTreeMap Name (Bor Held)) (found : Found) (item : Held) (seen : Option (Bor Held))
    → IsTreeOf tree found → seen ≡ get name_cmp tree (name_of item) → found item.table item.key ≡ option_copied seen
seen_is tree found item seen is_tree is = sym (is_tree (name_of item)) ∙ ap option_copied (sym is)

-- an item is newer than nothing, and than what is older
pub newer_than_none : (found : Option Held) (item : Held) → found ≡ None → newer_of found item ≡ item
newer_than_none found item none = ap (λ (o : Option Held). newer_of o item) none

pub newer_than_old : (found : Option Held) (item old : Held) → found ≡ Some old → old.version < item.version → newer_of found item ≡ item
newer_than_old found item old was older =
    newer_item found item (λ x is. let same : old ≡ x = cc (was, is) in subst (λ (y : Held). y.version < item.version) same older)
