-- What a scan of items in scan order finds, in the words of the code's cuts.
use Rattle.std.proofs.Common.{◌≡◌, ℕ, ◌+◌, ◌-◌, ◌<◌, Bool, true, false, eqb, ltb, List, [], ◌∷◌, ◌++◌, length, take, drop, get_or, refl, sym, ap, ◌∙◌, subst, ⊎_elim, arith}
use Rattle.std.specs.Prelude.{◌||◌}
use Rattle.std.specs.List.{All, HoldsAt, filter, list_any}
use Rattle.std.specs.Ordering.{nat_cmp, is_lt}
use Rattle.std.specs.Cmp.Lexicographic.{slice_cmp}
use Rattle.std.proofs.lemmas.Bool.{cases_Bool, ne_eqb, le-ltb, ltb-true, or_parts, false≢true}
use Rattle.std.proofs.lemmas.Cmp.{ranked}
use Rattle.std.proofs.lemmas.List.{append-nil, append_cancel_right, drop-drop, drop_at, take-append-drop, get_or-drop, length-drop}
use Rattle.std.proofs.lemmas.List.Elements.{All-filter, filter-append}
use Rattle.std.proofs.lemmas.List.Kept.{IsStrictlySortedBy-filter}
use Rattle.rk_types.specs.declared.held.Held.{Held}
use Rattle.rk_types.specs.declared.held.Token.{Token}
use Rattle.rk_types.specs.declared.range.Range.{Range}
use Rattle.rk_types.specs.Hashing.{bucket_of}
use Rattle.rk_table.specs.Order.{item_cmp, item_bucket, item_hash, IsInScanOrder}
use Rattle.rk_table.specs.Items.{is_live_in, live_in, at_hash}
use Rattle.rk_table.specs.Places.{IsCut, comes_before}
use Rattle.rk_table.specs.Scans.{of_bucket, behind_bucket, end, left, passed, batch_of, batch_at, rest_at, token_behind, token_before, next_token}
use Rattle.rk_table.proofs.Ordered.{filter_kept, filter_left_out}
use Rattle.rk_table.proofs.InOrder.{rises_in_order}
use Rattle.rk_table.proofs.Tokens.{passed_and_left, token_before_none}
use Rattle.rk_table.proofs.Walks.{filter_all_here, filter_none_here, take_between}
use Rattle.rk_table.proofs.Found.{order_of_back}

-- a back part of a list in scan order is in scan order
pub order_drop : (n : ℕ) (items : List Held) → IsInScanOrder items → IsInScanOrder (drop n items)
order_drop n items order = order_of_back (take n items) (drop n items) (subst IsInScanOrder (sym (take-append-drop n items)) order)

-- live items in two parts
live_parts : (range : Range) (n : ℕ) (items : List Held) → live_in range items ≡ live_in range (take n items) ++ live_in range (drop n items)
live_parts range n items = ap (live_in range) (sym (take-append-drop n items)) ∙ filter-append (is_live_in range) (take n items) (drop n items)

-- the buckets before a token's have no part in what is left
left_from_bucket : (range : Range) (token : Token) (items : List Held) (cut : ℕ) → IsCut (λ item. ltb (item_bucket item) token.bucket) items cut
    → left token (live_in range (drop cut items)) ≡ left token (live_in range items)
left_from_bucket range token items cut at =
    let b : ℕ = token.bucket in
    let front : List Held = live_in range (take cut items) in
    let back : List Held = live_in range (drop cut items) in
    let below : All (λ item. ltb (item_bucket item) b ≡ true) front = All-filter (is_live_in range) (λ item. ltb (item_bucket item) b ≡ true) (take cut items) at.front in
    let here : of_bucket b front ≡ [] =
    filter_none_here _ front (λ k d h. let lt : item_bucket (get_or front k d) < b = ltb-true _ _ (below k d h) in ne_eqb _ _ (λ e. omega arith)) in
    let behind : behind_bucket b front ≡ [] =
    filter_none_here _ front (λ k d h. let lt : item_bucket (get_or front k d) < b = ltb-true _ _ (below k d h) in le-ltb _ _ (omega arith)) in
    let here_whole : of_bucket b (front ++ back) ≡ of_bucket b back = filter-append _ front back ∙ ap (λ (l : List Held). l ++ of_bucket b back) here in
    let behind_whole : behind_bucket b (front ++ back) ≡ behind_bucket b back = filter-append _ front back ∙ ap (λ (l : List Held). l ++ behind_bucket b back) behind in
    sym (ap (left token) (live_parts range cut items) ∙ (λ i. drop token.skip (here_whole i) ++ behind_whole i))

-- whether an item passes, and what a filter then has
any_none : (p : Held → Bool) (items : List Held) → list_any p items ≡ false → filter p items ≡ []
any_none p [] h = refl
any_none p (item ∷ items) h =
    let parts = or_parts (p item) (list_any p items) h in
    filter_left_out p item items parts.0 ∙ any_none p items parts.1

any_some : (p : Held → Bool) (items done : List Held) → list_any p items ≡ true → token_before (filter p items) done ≡ token_behind done
any_some p [] done h = absurd (false≢true h)
any_some p (item ∷ items) done h =
    ⊎_elim
    (λ (here : p item ≡ true). ap (λ (l : List Held). token_before l done) (filter_kept p item items here))
    (λ (later : p item ≡ false).
    ap (λ (l : List Held). token_before l done) (filter_left_out p item items later)
    ∙ any_some p items done (subst (λ (b : Bool). (b || list_any p items) ≡ true) later h))
    (cases_Bool (p item))

-- if an item passes, there is one
pub some_from_any : (p : Held → Bool) (items : List Held) → list_any p items ≡ true → 0 < length items
some_from_any p [] h = absurd (false≢true h)
some_from_any p (item ∷ items) h = omega arith

-- the last slot of a batch behind which there are more
pub last_of_batch : (p : Held → Bool) (items : List Held) (start batch : ℕ) → list_any p (drop (start + batch) items) ≡ true
    → (batch < length (drop start items) → (0 < batch) × HoldsAt (λ item. p item ≡ true) (drop start items) (batch - 1))
    → HoldsAt (λ item. p item ≡ true) items ((start + batch) - 1)
last_of_batch p items start batch more closed d =
    let within : 0 < length (drop (start + batch) items) = some_from_any p (drop (start + batch) items) more in
    let here = closed (omega (arith, length-drop (start + batch) items, length-drop start items)) in
    let some : 0 < batch = here.0 in
    let place : start + (batch - 1) ≡ (start + batch) - 1 = omega arith in
    subst (λ (x : Held). p x ≡ true) (get_or-drop start items (batch - 1) d ∙ ap (λ (k : ℕ). get_or items k d) place) (here.1 d)

module _ (range : Range) (token : Token) (limit : ℕ) (items : List Held) (order : IsInScanOrder items) (start batch : ℕ)
    (left_is : live_in range (drop start items) ≡ left token (live_in range items))
    (given : live_in range (take batch (drop start items)) ≡ batch_of limit (live_in range (drop start items))) where
  abbrev live : List Held
  live = live_in range items

  -- the batch
  pub batch_is : live_in range (take batch (drop start items)) ≡ batch_at token limit live
  batch_is = given ∙ ap (batch_of limit) left_is

  -- what is passed is before it
  passed_is : live_in range (take start items) ≡ passed token live
  passed_is =
      append_cancel_right _ _ (left token live)
      (ap (λ (l : List Held). live_in range (take start items) ++ l) (sym left_is)
      ∙ sym (live_parts range start items)
      ∙ sym (passed_and_left token live (rises_in_order live (IsStrictlySortedBy-filter item_cmp (is_live_in range) items order))))

  -- so with the batch
  done_is : live_in range (take (start + batch) items) ≡ passed token live ++ batch_at token limit live
  done_is =
      ap (live_in range) (sym (take_between start (start + batch) items (omega arith)))
      ∙ filter-append (is_live_in range) (take start items) (take ((start + batch) - start) (drop start items))
      ∙ (λ i. passed_is i ++ (ap (λ (k : ℕ). live_in range (take k (drop start items))) (let e : (start + batch) - start ≡ batch = omega arith in e) ∙ batch_is) i)

  -- and the rest is behind it
  rest_is : live_in range (drop (start + batch) items) ≡ rest_at token limit live
  rest_is =
      let behind : List Held = live_in range (drop batch (drop start items)) in
      let parts : left token live ≡ batch_at token limit live ++ behind =
      sym left_is ∙ live_parts range batch (drop start items) ∙ ap (λ (l : List Held). l ++ behind) batch_is in
      ap (live_in range) (sym (drop-drop batch start items))
      ∙ sym (ap (drop (length (batch_at token limit live))) parts ∙ drop_at (batch_at token limit live) behind (length (batch_at token limit live)) refl)

  -- if a live item is left, the next token is that behind the batch
  pub next_behind : list_any (is_live_in range) (drop (start + batch) items) ≡ true → token_behind (live_in range (take (start + batch) items)) ≡ next_token token limit live
  next_behind more = grind (arith, any_some, rest_is, done_is)

  -- and else it is the end
  pub next_end : list_any (is_live_in range) (drop (start + batch) items) ≡ false → end ≡ next_token token limit live
  next_end none = grind (arith, token_before_none, rest_is, any_none)

-- the same, in the words of the code: it splits the slots, step by step
module _ (range : Range) (token : Token) (limit : ℕ) (items slots from_bucket from_token : List Held) (bucket skipped count : ℕ)
    (slots_are : slots ≡ items) (bucket_is : from_bucket ≡ drop bucket slots) (token_is : from_token ≡ drop skipped from_bucket)
    (order : IsInScanOrder items)
    (at : IsCut (λ item. ltb (item_bucket item) token.bucket) slots bucket)
    (stays : live_in range (drop skipped from_bucket) ≡ left token (live_in range from_bucket))
    (given : live_in range (take count from_token) ≡ batch_of limit (live_in range from_token)) where
  abbrev start : ℕ
  start = bucket + skipped

  start_is : from_token ≡ drop start items
  start_is = token_is ∙ ap (drop skipped) (bucket_is ∙ ap (drop bucket) slots_are) ∙ drop-drop skipped bucket items

  all_left : live_in range (drop start items) ≡ left token (live_in range items)
  all_left = grind (arith, start_is, left_from_bucket, ltb)

  batch_given : live_in range (take count (drop start items)) ≡ batch_of limit (live_in range (drop start items))
  batch_given = subst (λ (l : List Held). live_in range (take count l) ≡ batch_of limit (live_in range l)) start_is given

  -- what is handed out is the batch
  pub scan_batch : (batch : List Held) → batch ≡ take count from_token → live_in range batch ≡ batch_at token limit (live_in range items)
  scan_batch batch is = grind (arith, start_is, batch_is, all_left, batch_given)

  -- the next token if a live item is left
  pub scan_behind : (rest : List Held) → rest ≡ drop count from_token → list_any (is_live_in range) rest ≡ true → (cut : ℕ) → cut ≡ start + count
      → token_behind (live_in range (take cut slots)) ≡ next_token token limit (live_in range items)
  scan_behind rest is more cut cut_is = grind (arith, next_behind, all_left, batch_given, start_is, drop-drop)

  -- and if none is
  pub scan_end : (rest : List Held) → rest ≡ drop count from_token → list_any (is_live_in range) rest ≡ false → end ≡ next_token token limit (live_in range items)
  scan_end rest is none = grind (arith, next_end, all_left, batch_given, start_is, drop-drop)

  -- the slot before the rest is live if one is left
  pub scan_last : (rest : List Held) → rest ≡ drop count from_token → list_any (is_live_in range) rest ≡ true → (cut : ℕ) → cut ≡ start + count
      → (count < length from_token → (0 < count) × HoldsAt (λ item. is_live_in range item ≡ true) from_token (count - 1))
      → HoldsAt (λ item. is_live_in range item ≡ true) slots (cut - 1)
  scan_last rest is more cut cut_is closed = grind (arith, last_of_batch, start_is, drop-drop)

-- an item with a hash does not come before the first place of that hash
le_key : (key : List ℕ) → is_lt (slice_cmp nat_cmp key []) ≡ false
le_key [] = refl
le_key (byte ∷ key) = refl

with_hash_not_before : (hash : ℕ) (item : Held) → item_hash item ≡ hash → comes_before (bucket_of hash, hash, 0, []) item ≡ false
with_hash_not_before hash item same = grind (arith, le_key, ranked)

-- the live items with a hash are between the two cuts
pub at_hash_is : (range : Range) (hash : ℕ) (items : List Held) (start run : ℕ) → IsCut (comes_before (bucket_of hash, hash, 0, [])) items start
    → IsCut (λ item. eqb (item_hash item) hash) (drop start items) run
    → live_in range (take run (drop start items)) ≡ at_hash hash (live_in range items)
at_hash_is range hash items start run before with_hash =
    let front : List Held = live_in range (take start items) in
    let mid : List Held = live_in range (take run (drop start items)) in
    let back : List Held = live_in range (drop run (drop start items)) in
    let none_front : at_hash hash front ≡ [] =
    filter_none_here _ front (All-filter (is_live_in range) (λ item. eqb (item_hash item) hash ≡ false) (take start items)
    (λ k d h. ne_eqb _ _ (λ same. false≢true (sym (with_hash_not_before hash (get_or (take start items) k d) same) ∙ before.front k d h)))) in
    let all_mid : at_hash hash mid ≡ mid =
    filter_all_here _ mid (All-filter (is_live_in range) (λ item. eqb (item_hash item) hash ≡ true) (take run (drop start items)) with_hash.front) in
    let none_back : at_hash hash back ≡ [] =
    filter_none_here _ back (All-filter (is_live_in range) (λ item. eqb (item_hash item) hash ≡ false) (drop run (drop start items)) with_hash.back) in
    let parts : live_in range items ≡ front ++ (mid ++ back) =
    live_parts range start items ∙ ap (λ (l : List Held). front ++ l) (live_parts range run (drop start items)) in
    sym (ap (at_hash hash) parts ∙ filter-append _ front (mid ++ back)
    ∙ (λ i. none_front i ++ filter-append (λ item. eqb (item_hash item) hash) mid back i)
    ∙ (λ i. all_mid i ++ none_back i) ∙ append-nil mid)
