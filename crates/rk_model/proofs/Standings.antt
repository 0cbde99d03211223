-- What is at each key, after a change at one.
use Rattle.std.proofs.Common.{◌≡◌, ℕ, Bool, true, false, cond, ◌&&◌, eqb, Option, Some, refl, ap, ◌∙◌, arith}
use Rattle.std.proofs.lemmas.Map.Text.{is_eq-slice_cmp}
use Rattle.std.proofs.lemmas.Bool.Decides.{nat_tests}
use Rattle.std.specs.Cmp.{tied_then}
use Rattle.std.specs.Ordering.{nat_cmp, is_eq}
use Rattle.std.specs.Cmp.Lexicographic.{slice_cmp}
use Rattle.std.specs.Prelude.{bytes_eq}
use Rattle.std.specs.BTreeMap.{BTreeMap, get, Updates}
use Rattle.rk_model.proofs.Keys.{bytes_eq-swap}
use Rattle.rk_model.specs.declared.replay.Standing.{Standing}
use Rattle.rk_model.specs.History.{Map, with_entry}
use Rattle.rk_model.specs.Standing.{Name, StandsFor, entry_of, entry_found, name_cmp}

-- numbers compare as equal if they are
same_number : (a b : ℕ) → is_eq (nat_cmp a b) ≡ eqb b a
same_number a b = grind (arith, nat_tests)

-- two names are equal if their tables are, and their keys
same_name : (a b : Name) → is_eq (name_cmp a b) ≡ (eqb b.0 a.0 && bytes_eq b.1.now a.1.now)
same_name a b =
    grind (arith, tied_then, nat_cmp, slice_cmp, is_eq, same_number, eqb, is_eq-slice_cmp, bytes_eq-swap, a.0, b.0, a.1.now, b.1.now)

-- an entry found behind a choice is the choice of the entries found
found_choice :
    (b : Bool) (x y : Option Standing) → entry_found (cond b x y) ≡ cond b (entry_found x) (entry_found y)
found_choice true x y = refl
found_choice false x y = refl

-- with another standing at a name, the standings represent the map with that entry there
pub stands_with :
    (old new : BTreeMap Name Standing) (map : Map) (name : Name) (standing : Standing)
    → StandsFor old map → Updates name_cmp old new name (Some standing)
    → StandsFor new (with_entry map name.0 name.1.now (entry_of standing))
stands_with old new map name standing stands updates other =
    ap entry_found (updates.0 other)
    ∙ found_choice (is_eq (name_cmp name other)) (Some standing) (get name_cmp old other)
    ∙ ap (λ b. cond b (entry_of standing) (entry_found (get name_cmp old other))) (same_name name other)
    ∙ ap (λ entry. cond (eqb other.0 name.0 && bytes_eq other.1.now name.1.now) (entry_of standing) entry) (stands other)
