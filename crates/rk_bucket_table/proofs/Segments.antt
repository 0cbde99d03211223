-- Chains of cells: what walks along them meet.
use Rattle.rk_bucket_table.proofs.Words.{◌≡◌, ℕ, zero, suc, ◌≤◌, List, [], ◌∷◌, ◌++◌, Option, Some, None, length, refl, sym, ap, ◌∙◌, subst}
use Rattle.rk_bucket_table.proofs.Words.{arith, Held, Cell, END, Cells, IsChain, IsSegment, cell_at, chain, items_in}
use Rattle.rk_bucket_table.specs.Cells.{IsRest, followed, walked}

-- a walk meets no more items than it has steps
followed_short : (behind : ℕ → List Held) (steps : ℕ) → ((at : ℕ) → length (behind at) ≤ steps) → (here : Option Cell)
    → length (followed behind here) ≤ suc steps
followed_short behind steps short None = omega arith
followed_short behind steps short (Some cell) = omega (arith, short cell.next)

pub walked_short : (cells : Cells) (steps at : ℕ) → length (walked cells steps at) ≤ steps
walked_short cells zero at = omega arith
walked_short cells (suc steps) at = followed_short (walked cells steps) steps (walked_short cells steps) (cell_at cells at)

-- one segment behind another
pub segment_append : (cells : Cells) (from between to : ℕ) (front back : List Held) → IsSegment cells from front between
    → IsSegment cells between back to → IsSegment cells from (front ++ back) to
segment_append cells from between to [] back first second = subst (λ (k : ℕ). IsSegment cells k back to) (sym first) second
segment_append cells from between to (item ∷ front) back first second =
    (first.0, first.1, segment_append cells first.0 between to front back first.2 second)

module _ (cells : Cells) (free : cell_at cells END ≡ None) where
  -- enough steps meet all items up to the end of a chain
  walked_is : (steps at : ℕ) (items : List Held) → IsSegment cells at items END → length items ≤ steps → walked cells steps at ≡ items
  walked_is zero at [] segment short = refl
  walked_is zero at (item ∷ items) segment short = absurd (omega arith)
  walked_is (suc steps) at [] segment short = ap (followed (walked cells steps)) (ap (cell_at cells) segment ∙ free)
  walked_is (suc steps) at (item ∷ items) segment short =
      ap (followed (walked cells steps)) segment.1
      ∙ ap (λ (l : List Held). item ∷ l) (walked_is steps segment.0 items segment.2 (omega arith))

  pub chain_is : (at : ℕ) (items : List Held) → IsSegment cells at items END → length items ≤ length cells → chain cells at ≡ items
  chain_is at items segment short = walked_is (length cells) at items segment short

  pub at_end : chain cells END ≡ []
  at_end = chain_is END [] refl (omega arith)

  -- from a cell on, a chain has its item and then what is behind it
  module _ (at : ℕ) (cell : Cell) (here : cell_at cells at ≡ Some cell) where
    first : (items : List Held) → chain cells at ≡ items → IsSegment cells at items END
        → (chain cells at ≡ cell.item ∷ chain cells cell.next) × IsChain cells cell.next
    first [] whole from = absurd (cc (ap (cell_at cells) from))
    first (item ∷ items) whole from =
        let its_item : cell.item ≡ item = cc (here, from.1) in
        let its_next : cell.next ≡ from.0 = cc (here, from.1) in
        let rest : IsSegment cells cell.next items END = subst (λ (k : ℕ). IsSegment cells k items END) (sym its_next) from.2 in
        let is : chain cells cell.next ≡ items =
        chain_is cell.next items rest (omega (arith, walked_short cells (length cells) at, ap length whole)) in (
          whole ∙ ap (λ (x : Held). x ∷ items) (sym its_item) ∙ ap (λ (l : List Held). cell.item ∷ l) (sym is),
          subst (λ (l : List Held). IsSegment cells cell.next l END) (sym is) rest,
        )

    pub cell_first : IsChain cells at → (chain cells at ≡ cell.item ∷ chain cells cell.next) × IsChain cells cell.next
    cell_first ends = first (chain cells at) refl ends

  -- without a cell a chain is at its end
  none_left : (at : ℕ) (items : List Held) → cell_at cells at ≡ None → IsSegment cells at items END → items ≡ []
  none_left at [] none from = refl
  none_left at (item ∷ items) none from = absurd (cc (none, from.1))

  pub chain_none : (at : ℕ) → cell_at cells at ≡ None → IsChain cells at → chain cells at ≡ []
  chain_none at none ends = none_left at (chain cells at) none ends

-- a walk goes on in its chain, and from the end of a chain to the next one
pub rest_in_chain : (heads : List ℕ) (cells : Cells) (at : ℕ) (cell : Cell) → cell_at cells at ≡ Some cell → IsRest heads cells at
    → (chain cells at ++ items_in heads cells ≡ cell.item ∷ (chain cells cell.next ++ items_in heads cells)) × IsRest heads cells cell.next
rest_in_chain heads cells at cell here rest =
    let both = cell_first cells rest.free at cell here rest.this in (
      ap (λ (l : List Held). l ++ items_in heads cells) both.0,
      record { free = rest.free; this = both.1; behind = rest.behind },
    )

pub rest_at_end : (cells : Cells) → cell_at cells END ≡ None → chain cells END ++ items_in [] cells ≡ []
rest_at_end cells free = ap (λ (l : List Held). l ++ []) (at_end cells free)

pub rest_ends : (heads : List ℕ) (cells : Cells) (at : ℕ) → at ≡ END → length heads ≡ 0 → IsRest heads cells at
    → chain cells at ++ items_in heads cells ≡ []
rest_ends [] cells at ended none rest = grind (arith, chain, items_in, rest_at_end, rest.free)
rest_ends (head ∷ heads) cells at ended none rest = absurd (omega arith)
