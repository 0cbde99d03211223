-- A search along one chain: what each step passes.
use Rattle.rk_bucket_table.proofs.Words.{◌≡◌, ℕ, ◌<◌, Bool, true, false, List, [], ◌∷◌, ◌++◌, Some, None, length, refl, sym, ap, ◌∙◌, subst}
use Rattle.rk_bucket_table.proofs.Words.{inr, arith, append_assoc, length-append, Held, Cell, END, Cells, IsChain, IsSegment, cell_at}
use Rattle.rk_bucket_table.proofs.Words.{chain, IsPassed, IsSought, StopsAt}
use Rattle.std.proofs.lemmas.List.Elements.{All-append, All-from_recursion}
use Rattle.rk_bucket_table.proofs.Segments.{cell_first, chain_is, chain_none, segment_append, walked_short}

module _ (cells : Cells) (head : ℕ) (passes : Held → Bool) where
  -- at the head nothing is passed
  pub passed_none : IsChain cells head → IsPassed cells head passes END head
  passed_none ends = grind (arith, chain)

  module _ (free : cell_at cells END ≡ None) (before at : ℕ) (so_far : IsPassed cells head passes before at) where
    -- what is behind a spot is its cell's chain
    pub behind_is : chain cells at ≡ so_far.back
    behind_is =
        chain_is cells free at so_far.back so_far.spot.from
        (omega (arith, walked_short cells (length cells) head, ap length so_far.whole, length-append so_far.front so_far.back))

    pub ends_behind : IsChain cells at
    ends_behind = subst (λ (l : List Held). IsSegment cells at l END) (sym behind_is) so_far.spot.from

    module _ (cell : Cell) (here : Some cell ≡ cell_at cells at) where
      parts : (chain cells at ≡ cell.item ∷ chain cells cell.next) × IsChain cells cell.next
      parts = cell_first cells free at cell (sym here) ends_behind

      pub back_is : so_far.back ≡ cell.item ∷ chain cells cell.next
      back_is = sym behind_is ∙ parts.0

      pub less_left : length (chain cells cell.next) < length (chain cells at)
      less_left = omega (arith, ap length parts.0)

      -- an item that passes the test is passed
      pub passed_more : passes cell.item ≡ true → IsPassed cells head passes at cell.next
      passed_more passing = record {
        front = so_far.front ++ cell.item ∷ [];
        back = chain cells cell.next;
        whole =
            so_far.whole ∙ ap (λ (l : List Held). so_far.front ++ l) back_is
            ∙ sym (append_assoc so_far.front (cell.item ∷ []) (chain cells cell.next));
        spot = record {
          to =
              segment_append cells head at cell.next so_far.front (cell.item ∷ []) so_far.spot.to
              (cell.next, sym here, refl);
          from = parts.1;
          last = inr (record { others = so_far.front; item = cell.item; whole = refl; to = so_far.spot.to; here = sym here });
        };
        passed =
            All-append (λ item. passes item ≡ true) so_far.front (cell.item ∷ []) so_far.passed
            (All-from_recursion (λ item. passes item ≡ true) (cell.item ∷ []) (passing, tt));
      }

      -- and at another one the search stops
      pub sought_here : passes cell.item ≡ false → IsSought cells head passes before at
      sought_here failing = record {
        so_far = so_far;
        stops = subst (StopsAt passes) (sym back_is) failing;
      }

    -- or at the end
    pub sought_at_end : None ≡ cell_at cells at → IsSought cells head passes before at
    sought_at_end none = record {
      so_far = so_far;
      stops = subst (StopsAt passes) (sym (sym behind_is ∙ chain_none cells free at (sym none) ends_behind)) tt;
    }
