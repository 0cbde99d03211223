-- What a record that is put between two parts of a history, or taken out, leaves: legal records of other keys, and the map.
use Rattle.std.proofs.Common.{arith, ◌≡◌, ℕ, Bool, true, false, cond, List, [], ◌∷◌, refl, sym, ap, ◌∙◌, ⊎_elim}
use Rattle.std.proofs.lemmas.Bool.{cases_Bool, or_parts}
use Rattle.std.specs.Prelude.{filter}
use Rattle.rk_types.specs.declared.history.Placed.{Placed}
use Rattle.rk_model.specs.History.{Map, with_change, map_with, map_after, IsLegal, is_at, records_at, ChangesNothing}
use Rattle.rk_model.specs.Merged.{is_kept, is_mutation}
use Rattle.rk_model.proofs.Keys.{is_at_own, name-swap, allowed_same, map_with-same, map_with-other}

-- a filter that keeps nothing keeps neither the first element nor any of the rest
none_kept :
    (b : Bool) (placed : Placed) (rest : List Placed) → cond b (placed ∷ rest) rest ≡ [] → (b ≡ false) × (rest ≡ [])
none_kept true placed rest none = absurd (cc)
none_kept false placed rest none = (refl, none)

-- two maps that agree at all keys but this record's
abbrev pub AgreeApart : Placed → Map → Map → Type 0
AgreeApart placed m n = (table : ℕ) (key : List ℕ) → is_at table key placed ≡ false → m table key ≡ n table key

-- whether two records are of one key can be asked of either
is_at-swap :
    (a b : Placed) → is_at a.call.table a.call.key b ≡ is_at b.call.table b.call.key a
is_at-swap a b = name-swap b.call.table a.call.table b.call.key a.call.key

-- records of other keys are legal from the one map if they are from the other
pub legal_apart :
    (placed : Placed) (m n : Map) (back : List Placed)
    → AgreeApart placed m n → records_at placed.call.table placed.call.key back ≡ [] → IsLegal m back → IsLegal n back
legal_apart placed m n [] agree none legal = tt
legal_apart placed m n (first ∷ back) agree none legal =
    let parts = none_kept (is_at placed.call.table placed.call.key first) first
    (records_at placed.call.table placed.call.key back) none in
    let apart : is_at first.call.table first.call.key placed ≡ false = is_at-swap first placed ∙ parts.0 in (
      allowed_same m n first.call.table first.call.key first (is_at_own first)
          (agree first.call.table first.call.key apart) legal.0,
      legal_apart placed (map_with m first) (map_with n first) back
          (λ table key here. map_with-same m n first table key (agree table key here)) parts.1 legal.1,
    )

-- with one more record a map agrees with itself at all other keys
pub agree_with : (m : Map) (placed : Placed) → AgreeApart placed m (map_with m placed)
agree_with m placed table key apart = sym (map_with-other m placed table key apart)

-- a record that changes nothing leaves the map
pub map_with_nothing : (m : Map) (placed : Placed) → ChangesNothing placed → map_with m placed ≡ m
map_with_nothing m placed nothing = ap (with_change m placed.call.table placed.call.key) nothing

-- what is left out of the merged history changes nothing
pub unkept_changes_nothing : (placed : Placed) → is_kept placed ≡ false → ChangesNothing placed
unkept_changes_nothing placed unkept = grind (arith, or_parts, is_mutation, placed.accepted, placed.call.op, placed.outcome)

-- a legal history without the reads that nobody accepted is legal
pub legal_kept : (m : Map) (history : List Placed) → IsLegal m history → IsLegal m (filter is_kept history)
legal_kept m [] legal = tt
legal_kept m (placed ∷ history) legal =
    grind (
      arith,
      map_with,
      is_kept,
      filter,
      map_with_nothing,
      unkept_changes_nothing,
      cases_Bool,
      legal.1,
      legal.0,
      (legal_kept (map_with m placed) history legal.1),
    )

-- and leaves the same map
pub map_after_kept : (m : Map) (history : List Placed) → map_after m (filter is_kept history) ≡ map_after m history
map_after_kept m [] = refl
map_after_kept m (placed ∷ history) =
    grind (
      arith,
      map_with,
      is_kept,
      map_after,
      filter,
      map_with_nothing,
      unkept_changes_nothing,
      cases_Bool,
      (map_after_kept (map_with m placed) history),
    )
