-- Chains without items.
use Rattle.rk_bucket_table.proofs.Words.{◌≡◌, ℕ, zero, suc, List, [], length, refl, sym, ap, ◌∙◌, subst, IsStrictlySortedBy, Held}
use Rattle.rk_bucket_table.proofs.Words.{IsInScanOrder, END, AreLinked, ArePlaced, Cells, IsTable, items_in, joined}
use Rattle.std.proofs.Common.{replicate}
use Rattle.std.proofs.lemmas.List.{length-replicate}
use Rattle.rk_bucket_table.specs.Cells.{IsCountOfChains}

none_linked : (count : ℕ) → AreLinked [] (replicate count END) (replicate count [])
none_linked zero = tt
none_linked (suc count) = (refl, none_linked count)

none_placed : (per_bucket number count : ℕ) → ArePlaced per_bucket number (replicate count [])
none_placed per_bucket number zero = tt
none_placed per_bucket number (suc count) = (tt, none_placed per_bucket (suc number) count)

none_joined : (count : ℕ) → joined (replicate count []) ≡ []
none_joined zero = refl
none_joined (suc count) = none_joined count

none_in : (count : ℕ) → items_in (replicate count END) [] ≡ []
none_in zero = refl
none_in (suc count) = none_in count

pub empty_table : (per_bucket count : ℕ) → IsCountOfChains per_bucket count → (heads : List ℕ) (cells : Cells) → heads ≡ replicate count END → cells ≡ []
    → (chains : List (List Held)) × IsTable per_bucket heads cells chains
unfolding IsStrictlySortedBy
empty_table per_bucket count counted heads cells ends none = (
  replicate count [],
  subst (λ (l : List ℕ). IsTable per_bucket l cells (replicate count [])) (sym ends)
      (subst (λ (l : Cells). IsTable per_bucket (replicate count END) l (replicate count [])) (sym none)
      (record {
        count = subst (IsCountOfChains per_bucket) (sym (length-replicate count END)) counted;
        linked = none_linked count;
        placed = none_placed per_bucket 0 count;
        order = subst IsInScanOrder (sym (none_joined count)) tt;
        all = ap length (none_joined count);
        free = refl;
      })),
)

pub empty_items : (count : ℕ) (heads : List ℕ) (cells : Cells) → heads ≡ replicate count END → cells ≡ [] → items_in heads cells ≡ []
empty_items count heads cells ends none = (λ i. items_in (ends i) (none i)) ∙ none_in count
