-- What a search along one chain says of all items, in the words of the code.
use Rattle.rk_bucket_table.proofs.Words.{◌≡◌, ℕ, ◌∙◌, true, false, List, Some, None, get_or, sym, ap, subst, Held, hash_of, Place, place_of}
use Rattle.rk_bucket_table.proofs.Words.{found, is_at, comes_before, Cell, Cells, IsTable, cell_at, chain_of, items_in, joined, IsSought}
use Rattle.rk_bucket_table.proofs.Lookups.{found_cell, gap_cell, gap_none}
use Rattle.rk_bucket_table.proofs.Tables.{table_items}

-- the number of the chain that the code computes
pub number_of : (per_bucket name : ℕ) (key : List ℕ) (place : Place) (hash number : ℕ) → place ≡ place_of name key → hash ≡ place.1
    → number ≡ chain_of per_bucket hash → number ≡ chain_of per_bucket (hash_of key)
number_of per_bucket name key place hash number its_place its_hash its_number =
    its_number ∙ ap (chain_of per_bucket) (its_hash ∙ ap (λ (p : Place). p.1) its_place)

module _ (per_bucket : ℕ) (heads : List ℕ) (cells : Cells) (inside : (chains : List (List Held)) × IsTable per_bucket heads cells chains)
    (name : ℕ) (key : List ℕ) (place : Place) (its_place : place ≡ place_of name key)
    (number : ℕ) (its_number : number ≡ chain_of per_bucket (hash_of key)) (head : ℕ) (read : head ≡ get_or heads number head)
    (before at : ℕ) (sought : IsSought cells head (comes_before place) before at) (shown : List Held) (view : items_in heads cells ≡ shown) where
  sought_there : IsSought cells head (comes_before (place_of name key)) before at
  sought_there = subst (λ (p : Place). IsSought cells head (comes_before p) before at) its_place sought

  shown_is : joined inside.0 ≡ shown
  shown_is = sym (table_items per_bucket heads cells inside.0 inside.1) ∙ view

  pub got_cell : (cell : Cell) → Some cell ≡ cell_at cells at → is_at name key cell.item ≡ true → Some cell.item ≡ found name key shown
  got_cell cell here is_it =
      sym (found_cell per_bucket heads cells inside.0 inside.1 name key number its_number head read before at sought_there cell here is_it)
      ∙ ap (found name key) shown_is

  pub got_other : (cell : Cell) → Some cell ≡ cell_at cells at → is_at name key cell.item ≡ false → None ≡ found name key shown
  got_other cell here is_not =
      sym (gap_cell per_bucket heads cells inside.0 inside.1 name key number its_number head read before at sought_there cell here is_not).absent
      ∙ ap (found name key) shown_is

  pub got_none : None ≡ cell_at cells at → None ≡ found name key shown
  got_none none =
      sym (gap_none per_bucket heads cells inside.0 inside.1 name key number its_number head read before at sought_there none).absent
      ∙ ap (found name key) shown_is
