-- How many bytes a master's segments and side logs have after a step: if nothing is appended no more than before, and an entry more
-- if one is.
use Rattle.std.proofs.Common.{◌≡◌, ◌≤◌, ◌+◌, ◌==◌, ◌&&◌, ℕ, cond, not, List, [], ◌∷◌, length, map, sum, refl, sym, subst, arith, Bool}
use Rattle.rk_inv_wellformed.proofs.Words.{sum-map, sum_by-append, sum_by-cons, IsInOrder, meets, Held, Range, spelled_all, spelled, Entry}
use Rattle.rk_inv_wellformed.proofs.Words.{given_up, with_others_given_up, Master, log_bytes, tablet_at, unsealed_bytes, with_appended}
use Rattle.rk_inv_wellformed.proofs.Words.{with_tablet, as_entries, Pulling, Tablet, no_tablet, pulling_from, changed_each, spelled_none}
use Rattle.rk_inv_wellformed.proofs.bytes.Sizes.{bytes_spelled}
use Rattle.rk_inv_wellformed.proofs.maps.{either_way, inserted_most, sum_changed, sum_put, within_or}

-- ---- a tablet

-- workers that have pulled nothing have no bytes
pub none_pulled : (none : List Held) → none ≡ []
    → sum (map (λ items. length (spelled_all (as_entries items))) (none ∷ none ∷ none ∷ none ∷ [])) ≡ 0
none_pulled none is = grind (arith, spelled_all, as_entries, spelled_none)

-- a tablet for which nothing is pulled has none
pub pulls_none : (tablet : Tablet) (source : ℕ) → tablet.pulling ≡ pulling_from source → unsealed_bytes tablet ≡ 0
pulls_none tablet source is =
    subst (λ (pulling : Pulling). sum (map (λ items. length (spelled_all (as_entries items))) pulling.sides) ≡ 0) (sym is) (none_pulled [] refl)

-- a tablet of a master has no more than the master
pub unsealed_at_most : (master : Master) (id : ℕ) → unsealed_bytes (tablet_at master id) ≤ log_bytes master
unsealed_at_most master id =
    omega (arith, within_or unsealed_bytes no_tablet (pulls_none no_tablet 0 refl) master.tablets id)

-- ---- a master that changes

-- one of its tablets is so
pub bytes_with_tablet : (master : Master) (id : ℕ) (tablet : Tablet) → log_bytes (with_tablet master id tablet) ≤ log_bytes master + unsealed_bytes tablet
bytes_with_tablet master id tablet = omega (arith, inserted_most unsealed_bytes master.tablets id tablet)

-- if the tablets are in order, the bytes of one count in place of those that it had
pub bytes_put : (master : Master) (id : ℕ) (tablet : Tablet) → IsInOrder master.tablets
    → log_bytes (with_tablet master id tablet) + unsealed_bytes (tablet_at master id) ≡ log_bytes master + unsealed_bytes tablet
bytes_put master id tablet order =
    omega (arith, sum_put unsealed_bytes no_tablet (pulls_none no_tablet 0 refl) master.tablets id tablet order)

-- an entry is appended
pub bytes_appended : (master : Master) (entry : Entry) → log_bytes (with_appended master entry) ≡ log_bytes master + length (spelled entry)
bytes_appended master entry =
    omega (arith, bytes_spelled, sum_by-append {X = Entry}, sum_by-cons {X = Entry})

-- each tablet changes, and has no more bytes then
pub bytes_changed : (change : ℕ → Tablet → Tablet) → ((number : ℕ) (tablet : Tablet) → unsealed_bytes (change number tablet) ≤ unsealed_bytes tablet)
    → (master : Master) → log_bytes (record master { tablets = changed_each change master.tablets }) ≤ log_bytes master
bytes_changed change less master = omega (arith, sum_changed unsealed_bytes change less master.tablets, sum-map {X = ℕ × Tablet})

-- each other tablet of a range is given up
pub bytes_given_up : (master : Master) (id : ℕ) (range : Range) → log_bytes (with_others_given_up master id range) ≤ log_bytes master
bytes_given_up master id range =
    let met : ℕ → Tablet → Bool = λ number tablet. not (number == id) && meets tablet.handover.range range in
    bytes_changed (λ number tablet. cond (met number tablet) (given_up tablet) tablet)
    (λ number tablet. either_way (λ (now : Tablet). unsealed_bytes now ≤ unsealed_bytes tablet) (met number tablet)
    (omega (arith, pulls_none (given_up tablet) tablet.pulling.source refl)) (omega arith)) master
