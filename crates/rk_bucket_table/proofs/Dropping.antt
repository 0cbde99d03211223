-- A range that is dropped: chain by chain, and cell by cell.
use Rattle.rk_bucket_table.proofs.Words.{◌≡◌, ◌≢◌, ℕ, ◌+◌, ◌<◌, ◌≤◌, true, false, List, [], ◌∷◌, ◌++◌, Some, None, length, map, take, drop}
use Rattle.rk_bucket_table.proofs.Words.{get_or, set, refl, sym, ap, ◌∙◌, subst, inl, inr, ⊎_elim, arith, append_assoc, length-append}
use Rattle.rk_bucket_table.proofs.Words.{append-nil, drop_more, get_or_at, length-take, filter-append, count_by-le-length, ContainsKey}
use Rattle.rk_bucket_table.proofs.Words.{Slab, Held, Range, without, filter_kept, filter_left_out, Cell, END, Cells, IsChain, IsSegment}
use Rattle.rk_bucket_table.proofs.Words.{IsTable, cell_at, cell_of, chain, joined, taken, HasLast}
use Rattle.std.proofs.Common.{not}
use Rattle.std.proofs.lemmas.List.{drop_all, length-map, set_at, take_all, take_more}
use Rattle.std.proofs.lemmas.List.Sums.{length-filter}
use Rattle.rk_table.specs.Items.{is_in}
use Rattle.rk_bucket_table.proofs.Segments.{cell_first, chain_is, chain_none, segment_append}
use Rattle.rk_bucket_table.proofs.Splices.{IsAt, state_removed}
use Rattle.rk_bucket_table.proofs.Tables.{joined_parts, part_at, short}

-- the chain of a number loses the items of the range: some of its front were passed, and the back is left
pub record IsDropping (per_bucket : ℕ) (heads : List ℕ) (cells : Cells) (number : ℕ) (range : Range) (chains : List (List Held))
    (before at : ℕ) : Type 0 where
  pub ahead : List (List Held)
  pub mine : List Held
  pub behind : List (List Held)
  pub front : List Held
  pub back : List Held
  pub whole : chains ≡ ahead ++ mine ∷ behind
  pub state : IsAt per_bucket heads cells number ahead front back behind before at
  pub same : front ++ without range back ≡ without range mine

pub dropping_first : (per_bucket : ℕ) (heads : List ℕ) (cells : Cells) (number : ℕ) (range : Range) (chains : List (List Held)) (head : ℕ)
    → number < length heads → head ≡ get_or heads number END → IsTable per_bucket heads cells chains
    → IsDropping per_bucket heads cells number range chains END head
dropping_first per_bucket heads cells number range chains head within read table =
    let part = part_at cells heads chains number table.linked within in
    record {
      ahead = part.ahead;
      mine = part.mine;
      behind = part.behind;
      front = [];
      back = part.mine;
      whole = part.whole;
      state = record {
        table = subst (IsTable per_bucket heads cells) part.whole table;
        size = part.size;
        within = within;
        spot = record {
          to = sym read;
          from = subst (λ (k : ℕ). IsSegment cells k part.mine END) (sym read) part.linked;
          last = inl (refl, refl);
        };
      };
      same = refl;
    }

module _ (per_bucket : ℕ) (heads : List ℕ) (cells : Cells) (number : ℕ) (range : Range) (chains : List (List Held)) (before at : ℕ)
    (now : IsDropping per_bucket heads cells number range chains before at) where
  back_short : length now.back ≤ length cells
  back_short = grind (arith, short, joined_parts, length-append, joined)

  pub back_is : chain cells at ≡ now.back
  back_is = chain_is cells now.state.table.free at now.back now.state.spot.from back_short

  back_ends : IsChain cells at
  back_ends = subst (λ (l : List Held). IsSegment cells at l END) (sym back_is) now.state.spot.from

  -- the cell in front of the spot is there
  pub before_there : (slab : Slab Cell) (gone : ℕ) → gone ≢ before → ((other : ℕ) → other ≢ gone → cell_at slab.slots other ≡ cell_at cells other)
      → before ≢ END → ContainsKey slab before
  before_there slab gone differs others some = grind arith

  -- at the end of the chain
  pub dropped_chain : None ≡ cell_at cells at → IsTable per_bucket heads cells (set chains number (without range (get_or chains number [])))
  dropped_chain none = grind (arith, back_is, chain_none, back_ends, without, get_or_at, set_at)

  module _ (cell : Cell) (here : Some cell ≡ cell_at cells at) where
    parts : (chain cells at ≡ cell.item ∷ chain cells cell.next) × IsChain cells cell.next
    parts = cell_first cells now.state.table.free at cell (sym here) back_ends

    first : now.back ≡ cell.item ∷ chain cells cell.next
    first = sym back_is ∙ parts.0

    pub less_left : length (chain cells cell.next) < length (chain cells at)
    less_left = omega (arith, ap length parts.0)

    -- it is not the cell in front of the spot, from which its own chain would never end
    pub not_in_front : at ≢ before
    not_in_front same =
        ⊎_elim
        (λ (none : (now.front ≡ []) × (before ≡ END)).
        absurd (cc (here, now.state.table.free, ap (cell_at cells) (same ∙ none.1))))
        (λ (last : HasLast cells (get_or heads number END) now.front before at).
        let both : Some cell ≡ Some (cell_of last.item at) = here ∙ ap (cell_at cells) same ∙ last.here in
        let one : cell ≡ cell_of last.item at = cc both in
        absurd (omega (arith, less_left, ap (λ (c : Cell). length (chain cells c.next)) one)))
        now.state.spot.last

    -- an item outside the range stays
    pub dropping_kept : is_in range cell.item ≡ false → IsDropping per_bucket heads cells number range chains at cell.next
    dropping_kept outside = record {
      ahead = now.ahead;
      mine = now.mine;
      behind = now.behind;
      front = now.front ++ cell.item ∷ [];
      back = chain cells cell.next;
      whole = now.whole;
      state = record {
        table =
            subst (λ (l : List Held). IsTable per_bucket heads cells (now.ahead ++ l ∷ now.behind))
            (ap (λ (l : List Held). now.front ++ l) first ∙ sym (append_assoc now.front (cell.item ∷ []) (chain cells cell.next)))
            now.state.table;
        size = now.state.size;
        within = now.state.within;
        spot = record {
          to =
              segment_append cells (get_or heads number END) at cell.next now.front (cell.item ∷ []) now.state.spot.to
              (cell.next, sym here, refl);
          from = parts.1;
          last = inr (record { others = now.front; item = cell.item; whole = refl; to = now.state.spot.to; here = sym here });
        };
      };
      same =
          append_assoc now.front (cell.item ∷ []) (without range (chain cells cell.next))
          ∙ ap (λ (l : List Held). now.front ++ l)
          (sym (ap (without range) first ∙ filter_kept (λ x. not (is_in range x)) cell.item (chain cells cell.next) (ap not outside)))
          ∙ now.same;
    }

    -- one of the range goes, and its cell
    module _ (inside : is_in range cell.item ≡ true) (gone : Cells) (others : (other : ℕ) → other ≢ at → cell_at gone other ≡ cell_at cells other)
        (one_less : taken gone + 1 ≡ taken cells) (new_heads : List ℕ) (new_cells : Cells)
        (at_first : before ≡ END → (new_heads ≡ set heads number cell.next) × (new_cells ≡ gone))
        (at_cell : (other : Cell) → before ≢ END → cell_at gone before ≡ Some other
        → (new_heads ≡ heads) × (new_cells ≡ set gone before (Some (cell_of other.item cell.next))))
        (as_many : taken new_cells ≡ taken gone) where
      pub dropping_less : IsDropping per_bucket new_heads new_cells number range chains before cell.next
      dropping_less = record {
        ahead = now.ahead;
        mine = now.mine;
        behind = now.behind;
        front = now.front;
        back = chain cells cell.next;
        whole = now.whole;
        state =
            state_removed per_bucket heads cells number now.ahead now.front now.back now.behind before at now.state
            cell.item (chain cells cell.next) cell.next first (sym here) parts.1 gone others one_less new_heads new_cells at_first at_cell as_many;
        same =
            ap (λ (l : List Held). now.front ++ l)
            (sym (ap (without range) first ∙ filter_left_out (λ x. not (is_in range x)) cell.item (chain cells cell.next) (ap not inside)))
            ∙ now.same;
      }

-- and what is behind it stays
pub still_behind : (per_bucket : ℕ) (heads : List ℕ) (cells : Cells) (number : ℕ) (range : Range) (chains : List (List Held)) (before at : ℕ)
    (now : IsDropping per_bucket heads cells number range chains before at) (cell : Cell) (here : Some cell ≡ cell_at cells at)
    (inside : is_in range cell.item ≡ true) (gone : Cells) (others : (other : ℕ) → other ≢ at → cell_at gone other ≡ cell_at cells other)
    (one_less : taken gone + 1 ≡ taken cells) (new_heads : List ℕ) (new_cells : Cells)
    (at_first : before ≡ END → (new_heads ≡ set heads number cell.next) × (new_cells ≡ gone))
    (at_cell : (other : Cell) → before ≢ END → cell_at gone before ≡ Some other
    → (new_heads ≡ heads) × (new_cells ≡ set gone before (Some (cell_of other.item cell.next))))
    (as_many : taken new_cells ≡ taken gone) → chain new_cells cell.next ≡ chain cells cell.next
unfolding dropping_less
still_behind per_bucket heads cells number range chains before at now cell here inside gone others one_less new_heads new_cells at_first at_cell as_many =
    back_is per_bucket new_heads new_cells number range chains before cell.next
    (dropping_less per_bucket heads cells number range chains before at now cell here inside gone others one_less new_heads new_cells at_first at_cell as_many)

-- chain by chain
pub all_chains_first : (f : List Held → List Held) (chains : List (List Held)) → chains ≡ map f (take 0 chains) ++ drop 0 chains
all_chains_first f chains = refl

pub all_chains_next : (f : List Held → List Held) (chains : List (List Held)) (number : ℕ) → number < length chains
    → set (map f (take number chains) ++ drop number chains) number (f (get_or (map f (take number chains) ++ drop number chains) number []))
    ≡ map f (take (number + 1) chains) ++ drop (number + 1) chains
all_chains_next f chains number within =
    let x : List Held = get_or chains number [] in
    let rest : List (List Held) = drop (number + 1) chains in
    let front : List (List Held) = map f (take number chains) in
    let size : length front ≡ number = omega (arith, length-map (take number chains) f, length-take number chains) in
    let parts : front ++ drop number chains ≡ front ++ x ∷ rest = ap (λ (l : List (List Held)). front ++ l) (drop_more chains number [] within) in
    let read : get_or (front ++ drop number chains) number [] ≡ x =
    ap (λ (l : List (List Held)). get_or l number []) parts ∙ get_or_at front x rest [] number size in
    (λ i. set (parts i) number (f (read i)))
    ∙ set_at front x rest (f x) number size
    ∙ sym (append_assoc front (f x ∷ []) rest)
    ∙ ap (λ (l : List (List Held)). l ++ rest) (mapped (take number chains) x)
    ∙ ap (λ (l : List (List Held)). map f l ++ rest) (sym (take_more chains number [] within))
  where
    mapped : (l : List (List Held)) (x : List Held) → map f l ++ f x ∷ [] ≡ map f (l ++ x ∷ [])
    mapped [] x = refl
    mapped (y ∷ l) x = ap (λ (k : List (List Held)). f y ∷ k) (mapped l x)

pub all_chains_last : (f : List Held → List Held) (chains : List (List Held)) (number : ℕ) → length chains ≤ number
    → map f (take number chains) ++ drop number chains ≡ map f chains
all_chains_last f chains number past =
    (λ i. map f (take_all number chains past i) ++ drop_all number chains past i) ∙ append-nil (map f chains)

pub joined_without : (range : Range) (chains : List (List Held)) → joined (map (without range) chains) ≡ without range (joined chains)
joined_without range [] = refl
joined_without range (items ∷ chains) = grind (arith, without, filter-append, joined, (joined_without range chains))

pub without_less : (range : Range) (items : List Held) → length (without range items) ≤ length items
without_less range items =
    omega (arith, length-filter (λ x. not (is_in range x)) items, count_by-le-length (λ x. not (is_in range x)) items)
