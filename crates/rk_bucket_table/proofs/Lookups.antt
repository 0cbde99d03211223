-- What a search along one chain says of all items.
use Rattle.rk_bucket_table.proofs.Words.{◌≡◌, ℕ, suc, ◌^◌, ◌<◌, ◌≤◌, true, false, List, [], ◌∷◌, ◌++◌, Some, None, length, get_or, set}
use Rattle.rk_bucket_table.proofs.Words.{refl, sym, ap, ◌∙◌, subst, arith, append_assoc, length-append, AllByRecursion, get_or_at, Held}
use Rattle.rk_bucket_table.proofs.Words.{hash_of, IsInScanOrder, item_hash, place_of, found, is_at, comes_before, order_of_back, Cell, END}
use Rattle.rk_bucket_table.proofs.Words.{Cells, IsChain, IsTable, cell_at, chain, chain_of, joined, IsSought}
use Rattle.std.specs.List.{All, insert}
use Rattle.std.specs.Cmp.Lexicographic.{bytes_decides}
use Rattle.std.proofs.lemmas.Bool.{and_parts, false_from_ne_true}
use Rattle.std.proofs.lemmas.List.{drop_at, set_at, take_at}
use Rattle.std.proofs.lemmas.List.Elements.{All-append, All-from_recursion}
use Rattle.rk_table.specs.Items.{with_item}
use Rattle.rk_table.specs.Places.{IsCut, IsGap, IsHere}
use Rattle.rk_table.proofs.Found.{gap_found, gap_past, here_found}
use Rattle.rk_bucket_table.proofs.Segments.{chain_none}
use Rattle.rk_bucket_table.proofs.Seeking.{back_is, behind_is, ends_behind}
use Rattle.rk_bucket_table.proofs.Numbers.{before_by_chain, chain_below, hash_below, not_before_by_chain}
use Rattle.rk_bucket_table.proofs.Tables.{IsBelow, IsFromOn, IsPart, ahead_placed, all_weaker, behind_placed, chain_ends, head_read, mine_is, none_before, order_front, part, table_parts}

-- an item of another chain is not that of a key
not_at_other_chain : (per_bucket table : ℕ) (key : List ℕ) (item : Held) → chain_of per_bucket (hash_of key) < chain_of per_bucket (item_hash item)
    → is_at table key item ≡ false
not_at_other_chain per_bucket table key item behind =
    grind (arith, false_from_ne_true, bytes_decides, and_parts, chain_of, item_hash, hash_of)

module _ (per_bucket : ℕ) (heads : List ℕ) (cells : Cells) (chains : List (List Held)) (table : IsTable per_bucket heads cells chains)
    (hash number : ℕ) (below : hash < 2 ^ 64) (its_number : number ≡ chain_of per_bucket hash) where
  -- there is a chain of each hash
  pub in_heads : number < length heads
  in_heads = omega (arith, its_number, table.count.whole, chain_below per_bucket table.count.some hash below)

  pub head_ends : (head : ℕ) → head ≡ get_or heads number head → IsChain cells head
  head_ends head read =
      subst (IsChain cells) (sym (head_read heads number head in_heads read)) (chain_ends per_bucket heads cells chains table number in_heads)

module _ (per_bucket : ℕ) (heads : List ℕ) (cells : Cells) (chains : List (List Held)) (table : IsTable per_bucket heads cells chains)
    (name : ℕ) (key : List ℕ) (number : ℕ) (its_number : number ≡ chain_of per_bucket (hash_of key))
    (head : ℕ) (read : head ≡ get_or heads number head) (before at : ℕ) (sought : IsSought cells head (comes_before (place_of name key)) before at) where
  abbrev items : List Held
  items = joined chains

  pub within : number < length heads
  within = in_heads per_bucket heads cells chains table (hash_of key) number (hash_below key) its_number

  pub head_is : head ≡ get_or heads number END
  head_is = head_read heads number head within read

  abbrev pub its_part : IsPart cells heads chains number
  its_part = part per_bucket heads cells chains table number within

  pub mine_parts : its_part.mine ≡ sought.so_far.front ++ sought.so_far.back
  mine_parts =
      sym (mine_is per_bucket heads cells chains table number within) ∙ ap (chain cells) (sym head_is) ∙ sought.so_far.whole

  -- the items before the place, and those from it on
  abbrev pub lesser : List Held
  lesser = joined its_part.ahead ++ sought.so_far.front

  abbrev pub greater : List Held
  greater = sought.so_far.back ++ joined its_part.behind

  pub two_parts : joined chains ≡ lesser ++ greater
  two_parts =
      table_parts per_bucket heads cells chains table number within
      ∙ ap (λ (l : List Held). joined its_part.ahead ++ (l ++ joined its_part.behind)) mine_parts
      ∙ ap (λ (l : List Held). joined its_part.ahead ++ l) (append_assoc sought.so_far.front sought.so_far.back (joined its_part.behind))
      ∙ sym (append_assoc (joined its_part.ahead) sought.so_far.front greater)

  back_order : IsInScanOrder sought.so_far.back
  back_order = grind (arith, order_front, joined, order_of_back, two_parts)

  all_before : All (λ item. comes_before (place_of name key) item ≡ true) lesser
  all_before =
      All-append (λ item. comes_before (place_of name key) item ≡ true) (joined its_part.ahead) sought.so_far.front
      (All-from_recursion (λ item. comes_before (place_of name key) item ≡ true) (joined its_part.ahead)
      (all_weaker (IsBelow per_bucket number) (λ item. comes_before (place_of name key) item ≡ true)
      (λ item less. before_by_chain per_bucket table.count.some name key item (omega arith)) (joined its_part.ahead)
      (ahead_placed per_bucket heads cells chains table number within)))
      sought.so_far.passed

  all_from : All (λ item. comes_before (place_of name key) item ≡ false) greater
  all_from =
      All-append (λ item. comes_before (place_of name key) item ≡ false) sought.so_far.back (joined its_part.behind)
      (All-from_recursion (λ item. comes_before (place_of name key) item ≡ false) sought.so_far.back
      (none_before (place_of name key) sought.so_far.back back_order sought.stops))
      (All-from_recursion (λ item. comes_before (place_of name key) item ≡ false) (joined its_part.behind)
      (all_weaker (IsFromOn per_bucket (suc number)) (λ item. comes_before (place_of name key) item ≡ false)
      (λ item more. not_before_by_chain per_bucket table.count.some name key item (omega arith)) (joined its_part.behind)
      (behind_placed per_bucket heads cells chains table number within)))

  cut : IsCut (comes_before (place_of name key)) items (length lesser)
  cut = grind (arith, comes_before, place_of, two_parts, within, length-append, take_at, all_before, drop_at, all_from)

  -- the first item from the place on
  module _ (item : Held) (rest : List Held) (first : greater ≡ item ∷ rest) where
    whole : items ≡ lesser ++ item ∷ rest
    whole = two_parts ∙ ap (λ (l : List Held). lesser ++ l) first

    inside : length lesser < length items
    inside = omega (arith, ap length whole, length-append lesser (item ∷ rest))

    at_cut : item ≡ get_or items (length lesser) item
    at_cut = sym (ap (λ (l : List Held). get_or l (length lesser) item) whole ∙ get_or_at lesser item rest item (length lesser) refl)

    is_here : is_at name key item ≡ true → IsHere name key items (length lesser)
    is_here is_it = here_found name key (place_of name key) items (length lesser) item table.order refl cut inside at_cut is_it

    is_gap : is_at name key item ≡ false → IsGap name key items (length lesser)
    is_gap is_not = gap_found name key (place_of name key) items (length lesser) item table.order refl cut inside at_cut is_not

    pub found_first : is_at name key item ≡ true → found name key items ≡ Some item
    found_first is_it = (is_here is_it).value item ∙ ap Some (sym at_cut)

    pub replaced_first : is_at name key item ≡ true → (new : Held) → new.table ≡ name → new.key ≡ key
        → with_item new items ≡ lesser ++ new ∷ rest
    replaced_first is_it new its_table its_key =
        (is_here is_it).replaced new its_table its_key
        ∙ ap (λ (l : List Held). set l (length lesser) new) whole
        ∙ set_at lesser item rest new (length lesser) refl

  -- a gap at the place
  module _ (gap : IsGap name key items (length lesser)) where
    pub inserted : (new : Held) → new.table ≡ name → new.key ≡ key → with_item new items ≡ lesser ++ new ∷ greater
    inserted new its_table its_key =
        gap.inserted new its_table its_key
        ∙ ap (λ (l : List Held). insert l (length lesser) new) two_parts
        ∙ (λ i. take_at lesser greater (length lesser) refl i ++ new ∷ drop_at lesser greater (length lesser) refl i)

  gap_at : (rest : List Held) → greater ≡ rest → joined its_part.behind ≡ rest → IsGap name key items (length lesser)
  gap_at [] is its =
      gap_past name key (place_of name key) items (length lesser) table.order refl cut
      (omega (arith, ap length (two_parts ∙ ap (λ (l : List Held). lesser ++ l) is), length-append lesser []))
  gap_at (item ∷ rest) is its =
      let placed : AllByRecursion (IsFromOn per_bucket (suc number)) (item ∷ rest) =
      subst (AllByRecursion (IsFromOn per_bucket (suc number))) its (behind_placed per_bucket heads cells chains table number within) in
      let more : suc number ≤ chain_of per_bucket (item_hash item) = placed.0 in
      is_gap item rest is (not_at_other_chain per_bucket name key item (omega arith))

  -- what the cell says at which the search stopped
  module _ (cell : Cell) (here : Some cell ≡ cell_at cells at) where
    pub first_is : greater ≡ cell.item ∷ (chain cells cell.next ++ joined its_part.behind)
    first_is =
        ap (λ (l : List Held). l ++ joined its_part.behind)
        (back_is cells head (comes_before (place_of name key)) table.free before at sought.so_far cell here)

    pub found_cell : is_at name key cell.item ≡ true → found name key items ≡ Some cell.item
    found_cell is_it = found_first cell.item (chain cells cell.next ++ joined its_part.behind) first_is is_it

    pub gap_cell : is_at name key cell.item ≡ false → IsGap name key items (length lesser)
    gap_cell is_not = is_gap cell.item (chain cells cell.next ++ joined its_part.behind) first_is is_not

  pub gap_none : None ≡ cell_at cells at → IsGap name key items (length lesser)
  gap_none none = grind (arith, behind_is, comes_before, place_of, chain_none, ends_behind, gap_at, joined)
