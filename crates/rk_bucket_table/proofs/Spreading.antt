-- Chains that are cut in two: where the cut is, and what it leaves.
use Rattle.rk_bucket_table.proofs.Words.{◌≡◌, ◌≢◌, ℕ, zero, suc, ◌+◌, ◌*◌, ◌<◌, ◌≤◌, ◌⊎◌, Bool, true, eqb, List, [], ◌∷◌, ◌++◌, Some, None}
use Rattle.rk_bucket_table.proofs.Words.{is_some, length, take, drop, get_or, set, refl, sym, ap, ◌∙◌, subst, ⊎_elim, arith, append_assoc}
use Rattle.rk_bucket_table.proofs.Words.{length-append, AllByRecursion, IsStrictlySortedBy, Less, cases_lt, eq-eqb, false≢true, append-nil}
use Rattle.rk_bucket_table.proofs.Words.{drop_more, get_or_at, count_by-le-length, ContainsKey, Slab, Held, IsInScanOrder, item_cmp}
use Rattle.rk_bucket_table.proofs.Words.{item_hash, order_of_back, Cell, END, AreLinked, ArePlaced, Cells, IsChain, IsSegment, IsTable}
use Rattle.rk_bucket_table.proofs.Words.{cell_at, cell_of, chain, chain_of, joined, taken, HasLast, IsSought, StopsAt}
use Rattle.std.proofs.Common.{add-one}
use Rattle.std.specs.Ordering.{ordering_reverse}
use Rattle.std.specs.declared.cmp.Ordering.{Ordering}
use Rattle.std.proofs.Math.Nat.{mul_left_comm}
use Rattle.std.proofs.lemmas.Bool.{eqb-true}
use Rattle.std.proofs.lemmas.List.{drop_all, drop_at, set-append_left, take_at}
use Rattle.std.proofs.lemmas.List.Elements.{recursion_from_All}
use Rattle.rk_table.proofs.Cuts.{less_is}
use Rattle.rk_table.proofs.InOrder.{item_total}
use Rattle.rk_bucket_table.specs.declared.cell.TheConstants.{MOST_PER_BUCKET}
use Rattle.rk_bucket_table.proofs.Segments.{chain_is}
use Rattle.rk_bucket_table.proofs.Numbers.{before_by_chain}
use Rattle.rk_bucket_table.proofs.Tables.{IsOf, all_back, all_weaker, joined_parts, order_front}
use Rattle.rk_bucket_table.proofs.Changes.{IsRelinked, relinked}
use Rattle.rk_bucket_table.proofs.Splices.{linked_parts}
use Rattle.rk_bucket_table.proofs.Scanning.{linked_size}

-- the items of a chain are in two of twice as many
pub twice_chain : (per_bucket hash number : ℕ) → chain_of per_bucket hash ≡ number
    → (chain_of (2 * per_bucket) hash ≡ 2 * number) ⊎ (chain_of (2 * per_bucket) hash ≡ 2 * number + 1)
twice_chain per_bucket hash number is = grind (arith, mul_left_comm, chain_of, cases_lt)

-- the number does not fall along scan order
not_both : (r s : Ordering) → r ≡ ordering_reverse s → r ≡ Less → s ≡ Less → ⊥
not_both r s e first second = absurd (cc (first, e ∙ ap ordering_reverse second))

chain_rises : (per_bucket : ℕ) → 0 < per_bucket → (a b : Held) → item_cmp a b ≡ Less
    → chain_of per_bucket (item_hash a) ≤ chain_of per_bucket (item_hash b)
chain_rises per_bucket some a b less =
    ⊎_elim
    (λ (down : chain_of per_bucket (item_hash b) < chain_of per_bucket (item_hash a)).
    let back : item_cmp b a ≡ Less = less_is (item_cmp b a) (before_by_chain per_bucket some a.table a.key b down) in
    absurd (not_both (item_cmp a b) (item_cmp b a) (item_total.antisymm a b) less back))
    (λ (up : chain_of per_bucket (item_hash a) ≤ chain_of per_bucket (item_hash b)). up)
    (cases_lt (chain_of per_bucket (item_hash b)) (chain_of per_bucket (item_hash a)))

abbrev IsEither : ℕ → ℕ → Held → Type 0
IsEither per_bucket number item =
    (chain_of per_bucket (item_hash item) ≡ number) ⊎ (chain_of per_bucket (item_hash item) ≡ number + 1)

later_behind : (per_bucket number : ℕ) → 0 < per_bucket → (item : Held) (items : List Held)
    → chain_of per_bucket (item_hash item) ≡ number + 1 → AllByRecursion (λ other. item_cmp item other ≡ Less) items
    → AllByRecursion (IsEither per_bucket number) items → AllByRecursion (IsOf per_bucket (number + 1)) items
later_behind per_bucket number some item [] its all either = tt
later_behind per_bucket number some item (other ∷ items) its all either =
    grind (arith, chain_rises, (later_behind per_bucket number some item items its all.1 either.1))

-- behind the cut all items are of the second one
pub back_of_second : (per_bucket number : ℕ) → 0 < per_bucket → (items : List Held) → IsInScanOrder items
    → StopsAt (λ item. eqb (chain_of per_bucket (item_hash item)) number) items
    → AllByRecursion (IsEither per_bucket number) items → AllByRecursion (IsOf per_bucket (number + 1)) items
unfolding IsStrictlySortedBy
back_of_second per_bucket number some [] order stops either = tt
back_of_second per_bucket number some (item ∷ items) order stops either =
    let its : chain_of per_bucket (item_hash item) ≡ number + 1 =
    ⊎_elim
    (λ (low : chain_of per_bucket (item_hash item) ≡ number).
    absurd (false≢true (sym stops ∙ eq-eqb (chain_of per_bucket (item_hash item)) number low)))
    (λ (same : chain_of per_bucket (item_hash item) ≡ number + 1). same)
    either.0 in
    (its, later_behind per_bucket number some item items its order.0 either.1)

placed_append : (per_bucket first : ℕ) (chains : List (List Held)) (number : ℕ) (more : List (List Held)) → number ≡ first + length chains
    → ArePlaced per_bucket first chains → ArePlaced per_bucket number more → ArePlaced per_bucket first (chains ++ more)
placed_append per_bucket first [] number more size placed rest = grind arith
placed_append per_bucket first (items ∷ chains) number more size placed rest =
    (placed.0, placed_append per_bucket (suc first) chains number more (omega arith) placed.1 rest)

placed_at : (per_bucket first : ℕ) (chains : List (List Held)) (number : ℕ) → number < length chains → ArePlaced per_bucket first chains
    → AllByRecursion (IsOf per_bucket (first + number)) (get_or chains number [])
placed_at per_bucket first [] number within placed = absurd (omega arith)
placed_at per_bucket first (items ∷ chains) zero within placed = grind (arith, placed.0)
placed_at per_bucket first (items ∷ chains) (suc number) within placed =
    subst (λ (k : ℕ). AllByRecursion (IsOf per_bucket k) (get_or chains number [])) (let e : suc first + number ≡ first + suc number = omega arith in e)
    (placed_at per_bucket (suc first) chains number (omega arith) placed.1)

-- the cell in front of a spot is there
pub last_there : (slab : Slab Cell) (head : ℕ) (passes : Held → Bool) (before at : ℕ) → IsSought slab.slots head passes before at
    → before ≢ END → ContainsKey slab before
last_there slab head passes before at sought some = grind arith

-- so many chains were cut
pub record IsSpreading (per_bucket : ℕ) (heads : List ℕ) (number : ℕ) (chains : List (List Held)) (twice : List ℕ) (cells : Cells) : Type 0 where
  pub done : List (List Held)
  pub linked : AreLinked cells (twice ++ drop number heads) (done ++ drop number chains)
  pub same : joined (done ++ drop number chains) ≡ joined chains
  pub placed : ArePlaced (2 * per_bucket) 0 done
  pub size : length done ≡ 2 * number
  pub heads_size : length twice ≡ 2 * number
  pub all : length (joined chains) ≡ taken cells
  pub free : cell_at cells END ≡ None

module _ (per_bucket : ℕ) (heads : List ℕ) (start : Cells) (chains : List (List Held)) (table : IsTable per_bucket heads start chains) where
  pub spreading_first : (twice : List ℕ) → twice ≡ [] → IsSpreading per_bucket heads 0 chains twice start
  spreading_first twice none = grind arith

  pub spreading_last : (number : ℕ) (twice : List ℕ) (cells : Cells) → number ≡ length heads → 2 * per_bucket ≤ MOST_PER_BUCKET
      → IsSpreading per_bucket heads number chains twice cells
      → (more : List (List Held)) × IsTable (2 * per_bucket) twice cells more × (joined more ≡ joined chains)
  spreading_last number twice cells past few now = grind (arith, drop_all, append-nil, linked_size, joined)

  module _ (number : ℕ) (twice : List ℕ) (cells : Cells) (within : number < length heads) (now : IsSpreading per_bucket heads number chains twice cells) where
    abbrev mine : List Held
    mine = get_or chains number []

    abbrev later : List (List Held)
    later = drop (number + 1) chains

    abbrev head : ℕ
    head = get_or heads number END

    chains_more : drop number chains ≡ mine ∷ later
    chains_more = drop_more chains number [] (omega (arith, linked_size start heads chains table.linked))

    heads_more : drop number heads ≡ head ∷ drop (number + 1) heads
    heads_more = drop_more heads number END within

    linked_now : AreLinked cells (twice ++ head ∷ drop (number + 1) heads) (now.done ++ mine ∷ later)
    linked_now =
        subst (λ (l : List ℕ). AreLinked cells (twice ++ l) (now.done ++ mine ∷ later)) heads_more
        (subst (λ (l : List (List Held)). AreLinked cells (twice ++ drop number heads) (now.done ++ l)) chains_more now.linked)

    parts : AreLinked cells (take (length now.done) (twice ++ head ∷ drop (number + 1) heads)) now.done
        × IsSegment cells (get_or (twice ++ head ∷ drop (number + 1) heads) (length now.done) END) mine END
        × AreLinked cells (drop (suc (length now.done)) (twice ++ head ∷ drop (number + 1) heads)) later
    parts = linked_parts cells (twice ++ head ∷ drop (number + 1) heads) now.done mine later linked_now

    sizes : length twice ≡ length now.done
    sizes = now.heads_size ∙ sym now.size

    linked_mine : IsSegment cells head mine END
    linked_mine =
        subst (λ (k : ℕ). IsSegment cells k mine END)
        (get_or_at twice head (drop (number + 1) heads) END (length now.done) sizes) parts.1

    same_now : joined now.done ++ (mine ++ joined later) ≡ joined chains
    same_now =
        sym (joined_parts now.done mine later) ∙ ap (λ (l : List (List Held)). joined (now.done ++ l)) (sym chains_more) ∙ now.same

    linked_done : AreLinked cells twice now.done
    linked_done =
        subst (λ (l : List ℕ). AreLinked cells l now.done)
        (take_at twice (head ∷ drop (number + 1) heads) (length now.done) sizes) parts.0

    linked_later : AreLinked cells (drop (number + 1) heads) later
    linked_later =
        subst (λ (l : List ℕ). AreLinked cells l later)
        (ap (drop (suc (length now.done))) (sym (append_assoc twice (head ∷ []) (drop (number + 1) heads)))
        ∙ drop_at (twice ++ head ∷ []) (drop (number + 1) heads) (suc (length now.done)) (omega (arith, length-append twice (head ∷ []), sizes)))
        parts.2

    order_now : IsInScanOrder (joined now.done ++ (mine ++ joined later))
    order_now = subst IsInScanOrder (sym same_now) table.order

    mine_short : length mine ≤ length cells
    mine_short =
        omega (
          arith,
          ap length same_now,
          length-append (joined now.done) (mine ++ joined later),
          length-append mine (joined later),
          now.all,
          count_by-le-length is_some cells,
        )

    pub mine_is : chain cells head ≡ mine
    mine_is = chain_is cells now.free head mine linked_mine mine_short

    pub mine_ends : IsChain cells head
    mine_ends = subst (λ (l : List Held). IsSegment cells head l END) (sym mine_is) linked_mine

    mine_either : AllByRecursion (IsEither (2 * per_bucket) (2 * number)) mine
    mine_either =
        all_weaker (IsOf per_bucket number) (IsEither (2 * per_bucket) (2 * number))
        (λ item is. twice_chain per_bucket (item_hash item) number is) mine
        (subst (λ (k : ℕ). AllByRecursion (IsOf per_bucket k) mine) (let e : 0 + number ≡ number = omega arith in e)
        (placed_at per_bucket 0 chains number (omega (arith, linked_size start heads chains table.linked)) table.placed))

    -- one more chain was cut
    module _ (before at : ℕ) (sought : IsSought cells head (λ item. eqb (chain_of (2 * per_bucket) (item_hash item)) (2 * number)) before at)
        (pushed : List ℕ) (pushed_is : pushed ≡ twice ++ head ∷ at ∷ [])
        (new_twice : List ℕ) (new_cells : Cells)
        (at_first : before ≡ END → (new_twice ≡ set pushed (2 * number) END) × (new_cells ≡ cells))
        (at_cell : (cell : Cell) → before ≢ END → cell_at cells before ≡ Some cell
        → (new_twice ≡ pushed) × (new_cells ≡ set cells before (Some (cell_of cell.item END))))
        (as_many : taken new_cells ≡ taken cells) where
      abbrev front : List Held
      front = sought.so_far.front

      abbrev back : List Held
      back = sought.so_far.back

      two : mine ≡ front ++ back
      two = sym mine_is ∙ sought.so_far.whole

      either_two : AllByRecursion (IsEither (2 * per_bucket) (2 * number)) (front ++ back)
      either_two = subst (AllByRecursion (IsEither (2 * per_bucket) (2 * number))) two mine_either

      order_two : IsInScanOrder (joined now.done ++ ((front ++ back) ++ joined later))
      order_two = subst (λ (l : List Held). IsInScanOrder (joined now.done ++ (l ++ joined later))) two order_now

      back_order : IsInScanOrder back
      back_order =
          order_of_back front back
          (order_front (front ++ back) (joined later) (order_of_back (joined now.done) ((front ++ back) ++ joined later) order_two))

      front_placed : AllByRecursion (IsOf (2 * per_bucket) (2 * number)) front
      front_placed =
          all_weaker (λ item. eqb (chain_of (2 * per_bucket) (item_hash item)) (2 * number) ≡ true) (IsOf (2 * per_bucket) (2 * number))
          (λ item is. eqb-true (chain_of (2 * per_bucket) (item_hash item)) (2 * number) is) front
          (recursion_from_All (λ item. eqb (chain_of (2 * per_bucket) (item_hash item)) (2 * number) ≡ true) front sought.so_far.passed)

      back_placed : AllByRecursion (IsOf (2 * per_bucket) (2 * number + 1)) back
      back_placed =
          back_of_second (2 * per_bucket) (2 * number) (omega (arith, table.count.some)) back back_order sought.stops
          (all_back (IsEither (2 * per_bucket) (2 * number)) front back either_two)

      -- the heads while the chain is cut
      abbrev all_heads : List ℕ
      all_heads = twice ++ head ∷ at ∷ drop (number + 1) heads

      pushed_all : pushed ++ drop (number + 1) heads ≡ all_heads
      pushed_all = ap (λ (l : List ℕ). l ++ drop (number + 1) heads) pushed_is ∙ append_assoc twice (head ∷ at ∷ []) (drop (number + 1) heads)

      all_size : length all_heads ≡ length twice + length (head ∷ at ∷ drop (number + 1) heads)
      all_size = length-append twice (head ∷ at ∷ drop (number + 1) heads)

      its_head : get_or all_heads (2 * number) END ≡ head
      its_head = get_or_at twice head (at ∷ drop (number + 1) heads) END (2 * number) now.heads_size

      pushed_size : length pushed ≡ 2 * number + 2
      pushed_size = omega (arith, ap length pushed_is, length-append twice (head ∷ at ∷ []), now.heads_size)

      regrouped : joined now.done ++ ((front ++ back) ++ joined later) ≡ joined now.done ++ ((front ++ []) ++ joined (back ∷ later))
      regrouped =
          ap (λ (l : List Held). joined now.done ++ l)
          (append_assoc front back (joined later) ∙ ap (λ (l : List Held). l ++ (back ++ joined later)) (sym (append-nil front)))

      cut : IsRelinked all_heads cells (2 * number) now.done front [] (back ∷ later) before END (new_twice ++ drop (number + 1) heads) new_cells
      cut =
          relinked all_heads cells (2 * number) (omega (arith, all_size, now.heads_size)) now.free now.done (back ∷ later)
          (subst (λ (l : List ℕ). AreLinked cells l now.done) (sym (take_at twice (head ∷ at ∷ drop (number + 1) heads) (2 * number) now.heads_size)) linked_done)
          (subst (λ (l : List ℕ). AreLinked cells l (back ∷ later))
          (sym
          (ap (drop (suc (2 * number))) (sym (append_assoc twice (head ∷ []) (at ∷ drop (number + 1) heads)))
          ∙ drop_at (twice ++ head ∷ []) (at ∷ drop (number + 1) heads) (suc (2 * number)) (omega (arith, length-append twice (head ∷ []), now.heads_size))))
          (sought.so_far.spot.from, linked_later))
          [] before at END refl (new_twice ++ drop (number + 1) heads) new_cells front
          (subst (λ (k : ℕ). ((front ≡ []) × (before ≡ END)) ⊎ HasLast cells k front before at) (sym its_head) sought.so_far.spot.last)
          (subst IsInScanOrder regrouped order_two)
          (λ first.
          let both = at_first first in (
            ap (λ (l : List ℕ). l ++ drop (number + 1) heads) both.0
                ∙ sym (set-append_left pushed (drop (number + 1) heads) (2 * number) END (omega (arith, pushed_size)))
                ∙ ap (λ (l : List ℕ). set l (2 * number) END) pushed_all,
            both.1,
          ))
          (λ cell some here.
          let both = at_cell cell some here in
          (ap (λ (l : List ℕ). l ++ drop (number + 1) heads) both.0 ∙ pushed_all, both.1))

      abbrev done_more : List (List Held)
      done_more = now.done ++ (front ++ []) ∷ back ∷ []

      chains_same : done_more ++ later ≡ now.done ++ (front ++ []) ∷ back ∷ later
      chains_same = append_assoc now.done ((front ++ []) ∷ back ∷ []) later

      joined_same : joined (done_more ++ later) ≡ joined chains
      joined_same =
          ap joined chains_same
          ∙ joined_parts now.done (front ++ []) (back ∷ later)
          ∙ sym regrouped
          ∙ ap (λ (l : List Held). joined now.done ++ (l ++ joined later)) (sym two)
          ∙ same_now

      pub spreading_next : IsSpreading per_bucket heads (number + 1) chains new_twice new_cells
      spreading_next = record {
        done = done_more;
        linked = subst (AreLinked new_cells (new_twice ++ drop (number + 1) heads)) (sym chains_same) cut.linked;
        same = joined_same;
        placed =
            placed_append (2 * per_bucket) 0 now.done (2 * number) ((front ++ []) ∷ back ∷ []) (omega (arith, now.size)) now.placed (
              subst (AllByRecursion (IsOf (2 * per_bucket) (2 * number))) (sym (append-nil front)) front_placed,
              (subst (λ (k : ℕ). AllByRecursion (IsOf (2 * per_bucket) k) back) (add-one (2 * number)) back_placed, tt),
            );
        size = omega (arith, now.size, length-append now.done ((front ++ []) ∷ back ∷ []));
        heads_size = omega (arith, cut.as_many, length-append new_twice (drop (number + 1) heads), all_size, now.heads_size);
        all = now.all ∙ sym as_many;
        free = cut.free;
      }
