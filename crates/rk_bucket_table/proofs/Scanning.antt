-- A scan begins at the first chain of its token's bucket: the items of the chains before have no part in it.
use Rattle.rk_bucket_table.proofs.Words.{◌≡◌, ◌≢◌, ℕ, zero, suc, ◌+◌, ◌<◌, ◌≤◌, Bool, true, false, eqb, List, [], ◌∷◌, ◌++◌, Option, Some}
use Rattle.rk_bucket_table.proofs.Words.{None, length, take, drop, get_or, refl, sym, ap, ◌∙◌, subst, ⊎_elim, arith, append_assoc}
use Rattle.rk_bucket_table.proofs.Words.{length-append, AllByRecursion, list_any, ne_eqb, false≢true, append-nil, drop_more, length-take}
use Rattle.rk_bucket_table.proofs.Words.{filter-append, Held, Token, Range, IsInScanOrder, item_bucket, item_hash, at_hash, is_live_in}
use Rattle.rk_bucket_table.proofs.Words.{live_in, batch_at, left, next_token, passed, rest_at, token_behind, order_of_back, Rises}
use Rattle.rk_bucket_table.proofs.Words.{filter_kept, filter_left_out, END, AreChains, AreLinked, ArePlaced, Cells, IsTable, chain}
use Rattle.rk_bucket_table.proofs.Words.{chain_of, items_in, joined, IsFrom}
use Rattle.std.proofs.Common.{ltb}
use Rattle.std.specs.Prelude.{◌||◌}
use Rattle.std.specs.List.{filter, last_or}
use Rattle.std.proofs.lemmas.Bool.{cases_Bool, le-ltb, or_parts}
use Rattle.std.proofs.lemmas.List.{append_cancel_right, take-append-drop}
use Rattle.std.proofs.lemmas.List.Concat.{flat_map-append}
use Rattle.rk_table.specs.Scans.{batch_of, behind_bucket, end, of_bucket, token_of}
use Rattle.rk_table.proofs.Ordered.{ends_with_one, last_of_end, rises_back}
use Rattle.rk_table.proofs.Tokens.{left_in_two, passed_and_left, token_before_none}
use Rattle.rk_bucket_table.proofs.Tables.{IsBelow, IsFromOn, ahead_placed, all_front, all_weaker, behind_placed, chains_linked, items_linked, mine_is, part, placed_ahead, placed_back, placed_from, short, table_parts}

-- what filters leave
pub none_of : (p : Held → Bool) (items : List Held) → AllByRecursion (λ item. p item ≡ false) items → filter p items ≡ []
none_of p [] all = refl
none_of p (item ∷ items) all = filter_left_out p item items all.0 ∙ none_of p items all.1

pub all_filter : (p : Held → Bool) (P : Held → Type 0) (items : List Held) → AllByRecursion P items → AllByRecursion P (filter p items)
all_filter p P [] all = tt
all_filter p P (item ∷ items) all = grind (arith, all.1, all.0, (all_filter p P items all.1))

pub any_some : (p : Held → Bool) (items : List Held) → list_any p items ≡ true → 0 < length (filter p items)
any_some p [] some = absurd (false≢true some)
any_some p (item ∷ items) some =
    ⊎_elim
    (λ (here : p item ≡ true). let e : length (filter p (item ∷ items)) ≡ suc (length (filter p items)) = ap length (filter_kept p item items here) in omega arith)
    (λ (later : p item ≡ false).
    let e : length (filter p (item ∷ items)) ≡ length (filter p items) = ap length (filter_left_out p item items later) in
    let more : 0 < length (filter p items) = any_some p items (subst (λ (b : Bool). (b || list_any p items) ≡ true) later some) in
    omega arith)
    (cases_Bool (p item))

pub any_none : (p : Held → Bool) (items : List Held) → list_any p items ≡ false → filter p items ≡ []
any_none p [] none = refl
any_none p (item ∷ items) none =
    let both = or_parts (p item) (list_any p items) none in
    filter_left_out p item items both.0 ∙ any_none p items both.1

-- items of lesser buckets in front
module _ (from : Token) (limit : ℕ) (front back : List Held) (lesser : AllByRecursion (λ item. item_bucket item < from.bucket) front)
    (there : IsFrom from.bucket back) (rises : Rises item_bucket (front ++ back)) where
  none_in : (bucket : ℕ) → from.bucket ≤ bucket → of_bucket bucket front ≡ []
  none_in bucket high = grind (arith, none_of, eqb, item_bucket, all_weaker, ne_eqb)

  none_behind : behind_bucket from.bucket front ≡ []
  none_behind = grind (arith, none_of, ltb, item_bucket, all_weaker, le-ltb)

  left_same : left from (front ++ back) ≡ left from back
  left_same = grind (arith, filter-append, none_in, none_behind)

  back_rises : Rises item_bucket back
  back_rises = rises_back item_bucket front back rises

  passed_more : passed from (front ++ back) ≡ front ++ passed from back
  passed_more =
      append_cancel_right _ _ (left from back)
      (ap (λ (l : List Held). passed from (front ++ back) ++ l) (sym left_same)
      ∙ passed_and_left from (front ++ back) rises
      ∙ ap (λ (l : List Held). front ++ l) (sym (passed_and_left from back back_rises))
      ∙ sym (append_assoc front (passed from back) (left from back)))

  abbrev done : List Held
  done = passed from back ++ batch_at from limit back

  pub batch_same : batch_at from limit (front ++ back) ≡ batch_at from limit back
  batch_same = ap (batch_of limit) left_same

  rest_same : rest_at from limit (front ++ back) ≡ rest_at from limit back
  rest_same = λ i. drop (length (batch_same i)) (left_same i)

  done_more : passed from (front ++ back) ++ batch_at from limit (front ++ back) ≡ front ++ done
  done_more = (λ i. passed_more i ++ batch_same i) ∙ append_assoc front (passed from back) (batch_at from limit back)

  done_there : IsFrom from.bucket done
  done_there =
      all_front (λ item. from.bucket ≤ item_bucket item) done (rest_at from limit back)
      (subst (IsFrom from.bucket)
      (sym
      (append_assoc (passed from back) (batch_at from limit back) (rest_at from limit back)
      ∙ ap (λ (l : List Held). passed from back ++ l) (left_in_two from limit back)
      ∙ passed_and_left from back back_rises))
      there)

  last_there : (items : List Held) (item : Held) → IsFrom from.bucket (items ++ item ∷ []) → from.bucket ≤ item_bucket item
  last_there [] item all = all.0
  last_there (x ∷ items) item all = last_there items item all.1

  behind_front : (items : List Held) → 0 < length items → IsFrom from.bucket items → token_behind (front ++ items) ≡ token_behind items
  behind_front items some all =
      ⊎_elim
      (λ (none : items ≡ []). absurd (omega (arith, ap length none)))
      (λ (ends : (others : List Held) × (item : Held) × (items ≡ others ++ item ∷ [])).
      let b : ℕ = item_bucket ends.1 in
      let high : from.bucket ≤ b = last_there ends.0 ends.1 (subst (IsFrom from.bucket) ends.2 all) in
      let count : of_bucket b (front ++ items) ≡ of_bucket b items =
      filter-append _ front items ∙ ap (λ (l : List Held). l ++ of_bucket b items) (none_in b high) in
      let one : last_or None items ≡ Some ends.1 = ap (last_or None) ends.2 ∙ last_of_end None ends.0 ends.1 in
      let both : last_or None (front ++ items) ≡ Some ends.1 =
      ap (λ (l : List Held). last_or None (front ++ l)) ends.2
      ∙ ap (last_or None) (sym (append_assoc front ends.0 (ends.1 ∷ [])))
      ∙ last_of_end None (front ++ ends.0) ends.1 in
      ap (λ (o : Option Held). token_of o (front ++ items)) both
      ∙ ap (λ (l : List Held). make b (length l)) count
      ∙ sym (ap (λ (o : Option Held). token_of o items) one))
      (ends_with_one items)
    where
      make : ℕ → ℕ → Token
      make bucket skip = record { bucket = bucket; skip = skip }

  -- the token that the scan answers
  pub next_more : (token : Token) → 0 < length (rest_at from limit back)
      → (0 < length (batch_at from limit back) → token ≡ token_behind done) → token ≡ next_token from limit (front ++ back)
  next_more token some is =
      grind (arith, length-append, behind_front, done_there, rest_same, done_more)

  pub next_end : rest_at from limit back ≡ [] → end ≡ next_token from limit (front ++ back)
  next_end none = sym (token_before_none (rest_at from limit (front ++ back)) (passed from (front ++ back) ++ batch_at from limit (front ++ back)) (rest_same ∙ none))

-- the chains from a number on
linked_drop : (cells : Cells) (heads : List ℕ) (chains : List (List Held)) (number : ℕ) → AreLinked cells heads chains
    → AreLinked cells (drop number heads) (drop number chains)
linked_drop cells heads chains zero linked = linked
linked_drop cells [] [] (suc number) linked = tt
linked_drop cells [] (items ∷ chains) (suc number) linked = absurd linked
linked_drop cells (head ∷ heads) [] (suc number) linked = absurd linked
linked_drop cells (head ∷ heads) (items ∷ chains) (suc number) linked = linked_drop cells heads chains number linked.1

pub linked_size : (cells : Cells) (heads : List ℕ) (chains : List (List Held)) → AreLinked cells heads chains → length chains ≡ length heads
linked_size cells [] [] linked = refl
linked_size cells [] (items ∷ chains) linked = absurd linked
linked_size cells (head ∷ heads) [] linked = absurd linked
linked_size cells (head ∷ heads) (items ∷ chains) linked = ap suc (linked_size cells heads chains linked.1)

pub one_head : (heads : List ℕ) (number : ℕ) → number < length heads → take 1 (drop number heads) ≡ get_or heads number END ∷ []
one_head heads number within = ap (take 1) (drop_more heads number END within)

module _ (per_bucket : ℕ) (heads : List ℕ) (cells : Cells) (chains : List (List Held)) (table : IsTable per_bucket heads cells chains) where
  module _ (number : ℕ) (within : number ≤ length heads) where
    abbrev pub front_items : List Held
    front_items = joined (take number chains)

    abbrev pub back_items : List Held
    back_items = joined (drop number chains)

    pub two_items : joined chains ≡ front_items ++ back_items
    two_items = ap joined (sym (take-append-drop number chains)) ∙ flat_map-append (λ (items : List Held). items) (take number chains) (drop number chains)

    back_short : length back_items ≤ length cells
    back_short = omega (arith, short per_bucket heads cells chains table, ap length two_items, length-append front_items back_items)

    pub items_from : items_in (drop number heads) cells ≡ back_items
    items_from = items_linked cells table.free (drop number heads) (drop number chains) (linked_drop cells heads chains number table.linked) back_short

    pub chains_from : AreChains (drop number heads) cells
    chains_from = chains_linked cells table.free (drop number heads) (drop number chains) (linked_drop cells heads chains number table.linked) back_short

    its_size : number ≡ 0 + length (take number chains)
    its_size = omega (arith, length-take number chains, linked_size cells heads chains table.linked)

    placed_parts : ArePlaced per_bucket 0 (take number chains ++ drop number chains)
    placed_parts = subst (ArePlaced per_bucket 0) (sym (take-append-drop number chains)) table.placed

    pub front_below : AllByRecursion (IsBelow per_bucket number) front_items
    front_below = placed_ahead per_bucket 0 (take number chains) (drop number chains) number its_size placed_parts

    pub back_from : AllByRecursion (IsFromOn per_bucket number) back_items
    back_from = placed_from per_bucket number (drop number chains) (placed_back per_bucket 0 (take number chains) (drop number chains) number its_size placed_parts)

    pub back_order : IsInScanOrder back_items
    back_order = order_of_back front_items back_items (subst IsInScanOrder two_items table.order)

  -- the items with a hash are in its chain
  module _ (hash number : ℕ) (within : number < length heads) (its_number : number ≡ chain_of per_bucket hash) (range : Range) where
    none_with : (items : List Held) → AllByRecursion (λ item. item_hash item ≢ hash) items → at_hash hash (live_in range items) ≡ []
    none_with items all =
        none_of (λ item. eqb (item_hash item) hash) (live_in range items)
        (all_weaker (λ item. item_hash item ≢ hash) (λ item. eqb (item_hash item) hash ≡ false) (λ item differs. ne_eqb (item_hash item) hash differs) (live_in range items)
        (all_filter (is_live_in range) (λ item. item_hash item ≢ hash) items all))

    abbrev its : List Held → List Held
    its items = at_hash hash (live_in range items)

    its_append : (a b : List Held) → its (a ++ b) ≡ its a ++ its b
    its_append a b = ap (at_hash hash) (filter-append (is_live_in range) a b) ∙ filter-append _ (live_in range a) (live_in range b)

    pub hash_in_chain : at_hash hash (live_in range (chain cells (get_or heads number END) ++ [])) ≡ at_hash hash (live_in range (joined chains))
    hash_in_chain =
        let its_part = part per_bucket heads cells chains table number within in
        let ahead_none : its (joined its_part.ahead) ≡ [] =
        none_with (joined its_part.ahead)
        (all_weaker (IsBelow per_bucket number) (λ item. item_hash item ≢ hash)
        (λ item low same. let e : chain_of per_bucket (item_hash item) ≡ chain_of per_bucket hash = ap (chain_of per_bucket) same in omega arith)
        (joined its_part.ahead) (ahead_placed per_bucket heads cells chains table number within)) in
        let behind_none : its (joined its_part.behind) ≡ [] =
        none_with (joined its_part.behind)
        (all_weaker (IsFromOn per_bucket (suc number)) (λ item. item_hash item ≢ hash)
        (λ item high same. let e : chain_of per_bucket (item_hash item) ≡ chain_of per_bucket hash = ap (chain_of per_bucket) same in omega arith)
        (joined its_part.behind) (behind_placed per_bucket heads cells chains table number within)) in
        ap its (append-nil (chain cells (get_or heads number END)) ∙ mine_is per_bucket heads cells chains table number within)
        ∙ sym
        (ap its (table_parts per_bucket heads cells chains table number within)
        ∙ its_append (joined its_part.ahead) (its_part.mine ++ joined its_part.behind)
        ∙ ap (λ (l : List Held). l ++ its (its_part.mine ++ joined its_part.behind)) ahead_none
        ∙ its_append its_part.mine (joined its_part.behind)
        ∙ ap (λ (l : List Held). its its_part.mine ++ l) behind_none
        ∙ append-nil (its its_part.mine))
