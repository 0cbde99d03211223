-- Walks over a part of a list in scan order.
use Rattle.std.proofs.Common.{◌≡◌, ℕ, ◌+◌, ◌-◌, ◌<◌, ◌≤◌, Bool, true, false, eqb, ltb, List, [], ◌∷◌, ◌++◌, ◌⊎◌, Option, Some, None, length, take, drop, get_or, refl, sym, ap, ◌∙◌, subst, ⊎_elim, arith}
use Rattle.std.specs.List.{All, filter, last_or}
use Rattle.std.proofs.lemmas.Bool.{cases_lt, lt-ltb, le-ltb, eq-eqb, ne_eqb, ltb-true, ltb-false, false≢true}
use Rattle.std.proofs.lemmas.List.{append-nil, drop_at, drop_all, get_or_default, drop-take, take-take, take-append-drop, take_more, get_or-take, get_or-drop, length-take, length-drop, length-append}
use Rattle.std.proofs.lemmas.List.Elements.{All-head, All-tail, All-filter, All-drop, filter-append}
use Rattle.std.proofs.lemmas.List.Kept.{IsStrictlySortedBy-filter}
use Rattle.rk_types.specs.declared.held.Held.{Held}
use Rattle.rk_types.specs.declared.held.Token.{Token}
use Rattle.rk_types.specs.declared.range.Range.{Range}
use Rattle.rk_table.specs.Order.{item_cmp, item_bucket, IsInScanOrder}
use Rattle.rk_table.specs.Items.{is_live_in, live_in}
use Rattle.rk_table.specs.Places.{IsCut}
use Rattle.rk_table.specs.Scans.{of_bucket, behind_bucket, left, token_of, token_behind}
use Rattle.rk_table.proofs.Ordered.{AllFrom, Rises, filter_kept, filter_left_out, same_and_more, rises_back, last_of_end}
use Rattle.rk_table.proofs.InOrder.{rises_in_order}
use Rattle.rk_table.proofs.Cuts.{buckets_rise}

-- a test that no item here passes, and a test that each does
pub filter_none_here : {X : Type 0} (p : X → Bool) (xs : List X) → All (λ x. p x ≡ false) xs → filter p xs ≡ []
filter_none_here p [] all = refl
filter_none_here p (x ∷ xs) all =
    filter_left_out p x xs (All-head (λ x. p x ≡ false) x xs all) ∙ filter_none_here p xs (All-tail (λ x. p x ≡ false) x xs all)

pub filter_all_here : {X : Type 0} (p : X → Bool) (xs : List X) → All (λ x. p x ≡ true) xs → filter p xs ≡ xs
filter_all_here {X} p [] all = refl
filter_all_here {X} p (x ∷ xs) all =
    filter_kept p x xs (All-head (λ x. p x ≡ true) x xs all)
    ∙ ap (λ (l : List X). x ∷ l) (filter_all_here p xs (All-tail (λ x. p x ≡ true) x xs all))

-- a bound on each item's bucket, by recursion over the list
pub all_from_bound : (b : ℕ) (items : List Held) → All (λ item. b ≤ item_bucket item) items → AllFrom item_bucket b items
all_from_bound b [] all = tt
all_from_bound b (item ∷ items) all =
    (All-head (λ item. b ≤ item_bucket item) item items all, all_from_bound b items (All-tail (λ item. b ≤ item_bucket item) item items all))

-- of items that begin in a token's bucket, what is left if a first part of that bucket is passed over: the token
-- skips its live items, or the bucket is at its end
pub left_past : (range : Range) (token : Token) (front back : List Held) → IsInScanOrder (front ++ back)
    → All (λ item. item_bucket item ≡ token.bucket) front → All (λ item. token.bucket ≤ item_bucket item) back
    → length (live_in range front) ≤ token.skip
    → (token.skip ≡ length (live_in range front)) ⊎ All (λ item. token.bucket < item_bucket item) back
    → live_in range back ≡ left token (live_in range (front ++ back))
left_past range token front back order here from few stops =
    let b : ℕ = token.bucket in
    let lf : List Held = live_in range front in
    let lb : List Held = live_in range back in
    let parts : live_in range (front ++ back) ≡ lf ++ lb = filter-append (is_live_in range) front back in
    let rises : Rises item_bucket (lf ++ lb) =
    subst (Rises item_bucket) parts (rises_in_order (live_in range (front ++ back)) (IsStrictlySortedBy-filter item_cmp (is_live_in range) (front ++ back) order)) in
    let all : All (λ item. item_bucket item ≡ b) lf = All-filter (is_live_in range) (λ item. item_bucket item ≡ b) front here in
    let front_here : of_bucket b lf ≡ lf = filter_all_here _ lf (λ k d h. eq-eqb _ _ (all k d h)) in
    let front_behind : behind_bucket b lf ≡ [] = filter_none_here _ lf (λ k d h. let e : item_bucket (get_or lf k d) ≡ b = all k d h in le-ltb b (item_bucket (get_or lf k d)) (omega arith)) in
    let skipped : of_bucket b (lf ++ lb) ≡ lf ++ of_bucket b lb =
    filter-append _ lf lb ∙ ap (λ (l : List Held). l ++ of_bucket b lb) front_here in
    let behind : behind_bucket b (lf ++ lb) ≡ behind_bucket b lb =
    filter-append _ lf lb ∙ ap (λ (l : List Held). l ++ behind_bucket b lb) front_behind in
    let within : All (λ item. b ≤ item_bucket item) lb = All-filter (is_live_in range) (λ item. b ≤ item_bucket item) back from in
    let whole : left token (lf ++ lb) ≡ lb =
    ⊎_elim
    (λ (full : token.skip ≡ length lf).
    (λ i. drop token.skip (skipped i) ++ behind i)
    ∙ ap (λ (l : List Held). l ++ behind_bucket b lb) (drop_at lf (of_bucket b lb) token.skip (sym full))
    ∙ same_and_more item_bucket b lb (all_from_bound b lb within) (rises_back item_bucket lf lb rises))
    (λ (past : All (λ item. b < item_bucket item) back).
    let after : All (λ item. b < item_bucket item) lb = All-filter (is_live_in range) (λ item. b < item_bucket item) back past in
    let none : of_bucket b lb ≡ [] = filter_none_here _ lb (λ k d h. let lt : b < item_bucket (get_or lb k d) = after k d h in ne_eqb _ _ (λ e. omega arith)) in
    let every : behind_bucket b lb ≡ lb = filter_all_here _ lb (λ k d h. lt-ltb _ _ (after k d h)) in
    (λ i. drop token.skip (skipped i) ++ behind i)
    ∙ ap (λ (l : List Held). drop token.skip (lf ++ l) ++ behind_bucket b lb) none
    ∙ ap (λ (l : List Held). drop token.skip l ++ behind_bucket b lb) (append-nil lf)
    ∙ ap (λ (l : List Held). l ++ behind_bucket b lb) (drop_all token.skip lf few)
    ∙ every)
    stops in
    sym (ap (left token) parts ∙ whole)

-- a first part is a shorter one and what comes between
pub take_between : {X : Type 0} (n m : ℕ) (xs : List X) → n ≤ m → take n xs ++ take (m - n) (drop n xs) ≡ take m xs
take_between {X} n m xs le =
    let e : n + (m - n) ≡ m = omega arith in
    (λ i. sym (take-take n (n + (m - n)) xs (omega arith)) i ++ sym (drop-take n (m - n) xs) i)
    ∙ take-append-drop n (take (n + (m - n)) xs)
    ∙ ap (λ (k : ℕ). take k xs) e

-- the token behind a first part whose last item is live
pub token_behind_is : (range : Range) (items : List Held) (cut start : ℕ) (item : Held) → IsInScanOrder items
    → 0 < cut → cut ≤ length items → item ≡ get_or items (cut - 1) item → is_live_in range item ≡ true
    → IsCut (λ other. ltb (item_bucket other) (item_bucket item)) items start
    → token_behind (live_in range (take cut items)) ≡ record { bucket = item_bucket item; skip = length (live_in range (take (cut - start) (drop start items))) }
token_behind_is range items cut start item order some within read live at =
    let b : ℕ = item_bucket item in
    let last : ℕ = cut - 1 in
    let next : last + 1 ≡ cut = omega arith in
    let done : List Held = live_in range (take last items) in
    let grown : live_in range (take cut items) ≡ done ++ item ∷ [] =
    ap (λ (k : ℕ). live_in range (take k items)) (sym next)
    ∙ ap (live_in range) (take_more items last item (omega arith) ∙ ap (λ (x : Held). take last items ++ x ∷ []) (sym read))
    ∙ filter-append (is_live_in range) (take last items) (item ∷ [])
    ∙ ap (λ (l : List Held). done ++ l) (filter_kept (is_live_in range) item [] live) in
    let closing : last_or None (live_in range (take cut items)) ≡ Some item = ap (last_or None) grown ∙ last_of_end None done item in
    let before : start ≤ last =
    ⊎_elim
    (λ (past : last < start).
    absurd (false≢true (sym (le-ltb b b (omega arith)) ∙
    subst (λ (x : Held). ltb (item_bucket x) b ≡ true) (get_or-take start items last item past ∙ sym read)
    (at.front last item (let l : start ≤ length items = at.within in omega (arith, length-take start items))))))
    (λ (h : start ≤ last). h)
    (cases_lt last start) in
    let front : List Held = take start items in
    let mid : List Held = take (cut - start) (drop start items) in
    let split : take cut items ≡ front ++ mid = sym (take_between start cut items (omega arith)) in
    let none : of_bucket b (live_in range front) ≡ [] =
    filter_none_here _ (live_in range front)
    (All-filter (is_live_in range) (λ other. eqb (item_bucket other) b ≡ false) front
    (λ k d h. let lt : item_bucket (get_or front k d) < b = ltb-true _ _ (at.front k d h) in ne_eqb _ _ (λ e. omega arith))) in
    let every : of_bucket b (live_in range mid) ≡ live_in range mid =
    filter_all_here _ (live_in range mid)
    (All-filter (is_live_in range) (λ other. eqb (item_bucket other) b ≡ true) mid
    (λ k d h.
    let short : k < cut - start = omega (arith, length-take (cut - start) (drop start items)) in
    let place : get_or mid k d ≡ get_or items (start + k) d = get_or-take (cut - start) (drop start items) k d short ∙ get_or-drop start items k d in
    let low : b ≤ item_bucket (get_or (drop start items) k d) = ltb-false _ _ (at.back k d (omega (arith, length-drop start items))) in
    let low_here : b ≤ item_bucket (get_or items (start + k) d) = subst (λ (x : Held). b ≤ item_bucket x) (get_or-drop start items k d) low in
    let high : item_bucket (get_or items (start + k) item) ≤ item_bucket (get_or items last item) = buckets_rise items order (start + k) last item (omega arith) (omega arith) in
    let high_here : item_bucket (get_or items (start + k) item) ≤ b = subst (λ (x : Held). item_bucket (get_or items (start + k) item) ≤ item_bucket x) (sym read) high in
    let high_there : item_bucket (get_or items (start + k) d) ≤ b =
    subst (λ (x : Held). item_bucket x ≤ b) (get_or_default items (start + k) item d (omega arith)) high_here in
    subst (λ (x : Held). eqb (item_bucket x) b ≡ true) (sym place) (eq-eqb _ _ (omega arith)))) in
    let count : of_bucket b (live_in range (take cut items)) ≡ live_in range mid =
    ap (λ (l : List Held). of_bucket b (live_in range l)) split
    ∙ ap (of_bucket b) (filter-append (is_live_in range) front mid)
    ∙ filter-append _ (live_in range front) (live_in range mid)
    ∙ (λ i. none i ++ every i) in
    ap (λ (o : Option Held). token_of o (live_in range (take cut items))) closing
    ∙ ap (λ (l : List Held). let t : Token = record { bucket = b; skip = length l } in t) count

-- of items from a token's bucket on, what is left from a cut on
pub left_at : (range : Range) (token : Token) (items : List Held) (cut : ℕ) → IsInScanOrder items
    → All (λ item. token.bucket ≤ item_bucket item) items
    → All (λ item. item_bucket item ≡ token.bucket) (take cut items)
    → length (live_in range (take cut items)) ≤ token.skip
    → (token.skip ≡ length (live_in range (take cut items))) ⊎ All (λ item. token.bucket < item_bucket item) (drop cut items)
    → live_in range (drop cut items) ≡ left token (live_in range items)
left_at range token items cut order from here few stops =
    let whole : take cut items ++ drop cut items ≡ items = take-append-drop cut items in
    subst (λ (l : List Held). live_in range (drop cut items) ≡ left token (live_in range l)) whole
    (left_past range token (take cut items) (drop cut items) (subst IsInScanOrder (sym whole) order) here
    (All-drop (λ item. token.bucket ≤ item_bucket item) cut items from) few stops)

-- from an item that is behind a bucket on, all are
pub behind_from : (bucket : ℕ) (items : List Held) (cut : ℕ) (item : Held) → IsInScanOrder items → cut < length items
    → item ≡ get_or items cut item → bucket < item_bucket item → All (λ other. bucket < item_bucket other) (drop cut items)
behind_from bucket items cut item order within read behind k d h =
    let low : item_bucket (get_or items cut d) ≤ item_bucket (get_or items (cut + k) d) =
    buckets_rise items order cut (cut + k) d (omega arith) (omega (arith, length-drop cut items)) in
    let here : item_bucket (get_or items cut d) ≡ item_bucket item = ap item_bucket (get_or_default items cut d item within ∙ sym read) in
    subst (λ (x : Held). bucket < item_bucket x) (sym (get_or-drop cut items k d)) (omega arith)

-- one more item: a live one joins the live items, and another does not
pub live_more : (range : Range) (items : List Held) (at : ℕ) (item : Held) → at < length items → item ≡ get_or items at item
    → is_live_in range item ≡ true → length (live_in range (take (at + 1) items)) ≡ length (live_in range (take at items)) + 1
live_more range items at item within read live =
    ap length
    (ap (live_in range) (take_more items at item within ∙ ap (λ (x : Held). take at items ++ x ∷ []) (sym read))
    ∙ filter-append (is_live_in range) (take at items) (item ∷ [])
    ∙ ap (λ (l : List Held). live_in range (take at items) ++ l) (filter_kept (is_live_in range) item [] live))
    ∙ length-append (live_in range (take at items)) (item ∷ [])

pub live_no_more : (range : Range) (items : List Held) (at : ℕ) (item : Held) → at < length items → item ≡ get_or items at item
    → is_live_in range item ≡ false → length (live_in range (take (at + 1) items)) ≡ length (live_in range (take at items))
live_no_more range items at item within read dead =
    ap length
    (ap (live_in range) (take_more items at item within ∙ ap (λ (x : Held). take at items ++ x ∷ []) (sym read))
    ∙ filter-append (is_live_in range) (take at items) (item ∷ [])
    ∙ ap (λ (l : List Held). live_in range (take at items) ++ l) (filter_left_out (is_live_in range) item [] dead)
    ∙ append-nil (live_in range (take at items)))

-- the same, as the code finds its bucket and counts
pub token_behind_at : (range : Range) (items : List Held) (cut start bucket skip : ℕ) (item : Held) → IsInScanOrder items
    → 0 < cut → cut ≤ length items → item ≡ get_or items (cut - 1) item → is_live_in range item ≡ true
    → bucket ≡ item_bucket item → IsCut (λ other. ltb (item_bucket other) bucket) items start
    → skip ≡ length (live_in range (take (cut - start) (drop start items)))
    → (let t : Token = record { bucket = bucket; skip = skip } in t) ≡ token_behind (live_in range (take cut items))
token_behind_at range items cut start bucket skip item order some within read live its_bucket at count = grind (arith, token_behind_is, ltb)
