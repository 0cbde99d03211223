-- The laws of scans over a list in scan order.
use Rattle.std.proofs.Common.{◌≡◌, ℕ, zero, suc, ◌+◌, ◌-◌, ◌<◌, ◌≤◌, List, [], ◌∷◌, ◌++◌, Option, Some, None, length, take, drop, refl, sym, ap, ◌∙◌, subst, ⊎_elim, arith, length-append}
use Rattle.std.specs.Prelude.{◌↔◌}
use Rattle.std.specs.List.{last_or}
use Rattle.std.proofs.lemmas.Bool.{cases_lt, ne_eqb, le-ltb}
use Rattle.std.proofs.lemmas.List.{append-nil, append_assoc, append_cancel_left, append_cancel_right, take-append-drop, take_at, nil_from_length}
use Rattle.std.proofs.lemmas.List.Elements.{filter-append}
use Rattle.rk_types.specs.declared.held.Held.{Held}
use Rattle.rk_types.specs.declared.held.Token.{Token}
use Rattle.rk_types.specs.Held.{spelled_of}
use Rattle.rk_table.specs.Order.{item_bucket, IsInScanOrder}
use Rattle.rk_table.specs.Scans.{before_bucket, of_bucket, behind_bucket, first, end, passed, left, batch_of, batch_at, rest_at, token_of, token_behind, token_before, next_token, scanned, token_after}
use Rattle.rk_table.proofs.Ordered.{AllFrom, Rises, filter_none, less_none, three_parts, less_and_same, up_to_here, from_here, rises_front, ends_with_one, last_of_end}
use Rattle.rk_table.proofs.InOrder.{bucket_below_end, rises_in_order}

-- what is passed at a token and what is left are the items, for every token
pub passed_and_left : (token : Token) (items : List Held) → Rises item_bucket items → passed token items ++ left token items ≡ items
passed_and_left token items rises =
    let b : ℕ = token.bucket in
    let k : ℕ = token.skip in
    let here : List Held = of_bucket b items in
    append_assoc (before_bucket b items) (take k here) (drop k here ++ behind_bucket b items)
    ∙ ap (λ (l : List Held). before_bucket b items ++ l)
    (sym (append_assoc (take k here) (drop k here) (behind_bucket b items)) ∙ ap (λ (l : List Held). l ++ behind_bucket b items) (take-append-drop k here))
    ∙ three_parts item_bucket b items rises

all_from_none : (items : List Held) → AllFrom item_bucket 0 items
all_from_none [] = tt
all_from_none (item ∷ items) = (omega arith, all_from_none items)

-- at the first token nothing is passed
pub passed_first : (items : List Held) → passed first items ≡ []
passed_first items = append-nil (before_bucket 0 items) ∙ less_none item_bucket 0 items (all_from_none items)

-- at the token behind a first part just that part is passed
passed_behind : (front : List Held) (item : Held) (back : List Held) → Rises item_bucket ((front ++ item ∷ []) ++ back)
    → passed (token_of (Some item) (front ++ item ∷ [])) ((front ++ item ∷ []) ++ back) ≡ front ++ item ∷ []
passed_behind front item back rises =
    grind (arith, append_assoc, filter-append, less_none, from_here, append-nil, take_at, less_and_same, up_to_here, rises_front)

pub passed_token_behind : (front back : List Held) → Rises item_bucket (front ++ back) → passed (token_behind front) (front ++ back) ≡ front
passed_token_behind front back rises =
    ⊎_elim
    (λ (none : front ≡ []).
    subst (λ (l : List Held). passed (token_behind l) (l ++ back) ≡ l) (sym none) (passed_first back))
    (λ (some : (zs : List Held) × (z : Held) × (front ≡ zs ++ z ∷ [])).
    let at : Rises item_bucket ((some.0 ++ some.1 ∷ []) ++ back) = subst (λ (l : List Held). Rises item_bucket (l ++ back)) some.2 rises in
    let last : last_or None (some.0 ++ some.1 ∷ []) ≡ Some some.1 = last_of_end None some.0 some.1 in
    subst (λ (l : List Held). passed (token_behind l) (l ++ back) ≡ l) (sym some.2)
    (subst (λ (o : Option Held). passed (token_of o (some.0 ++ some.1 ∷ [])) ((some.0 ++ some.1 ∷ []) ++ back) ≡ some.0 ++ some.1 ∷ []) (sym last)
    (passed_behind some.0 some.1 back at)))
    (ends_with_one front)

pub left_token_behind : (front back : List Held) → Rises item_bucket (front ++ back) → left (token_behind front) (front ++ back) ≡ back
left_token_behind front back rises =
    append_cancel_left front _ _
    (ap (λ (l : List Held). l ++ left (token_behind front) (front ++ back)) (sym (passed_token_behind front back rises))
    ∙ passed_and_left (token_behind front) (front ++ back) rises)

-- a batch is the first part that its length says
batch_and_rest : (limit : ℕ) (items : List Held) → batch_of limit items ++ drop (length (batch_of limit items)) items ≡ items
batch_and_rest limit [] = refl
batch_and_rest limit (item ∷ items) = grind (arith, (batch_and_rest (limit - spelled_of item) items))

-- what is left is the batch and the rest
pub left_in_two : (token : Token) (limit : ℕ) (items : List Held) → batch_at token limit items ++ rest_at token limit items ≡ left token items
left_in_two token limit items = batch_and_rest limit (left token items)

-- a batch has an item if one is left
pub batch_gives : (token : Token) (limit : ℕ) (items : List Held) → 0 < length (left token items) → 0 < length (batch_at token limit items)
batch_gives token limit items some = go (left token items) some
  where
    go : (items : List Held) → 0 < length items → 0 < length (batch_of limit items)
    go [] h = absurd (omega arith)
    go (item ∷ items) h = omega arith

-- what is passed, the batch and the rest are the items
passed_batch_rest : (token : Token) (limit : ℕ) (items : List Held) → Rises item_bucket items
    → (passed token items ++ batch_at token limit items) ++ rest_at token limit items ≡ items
passed_batch_rest token limit items rises = grind (arith, append_assoc, left_in_two, passed_and_left)

-- of a list in two parts, the second is left at the token between them
left_between : (rest front : List Held) → Rises item_bucket (front ++ rest) → left (token_before rest front) (front ++ rest) ≡ rest
left_between rest front rises = grind (arith, left_token_behind, filter_none, bucket_below_end, ne_eqb, le-ltb)

-- at the next token just the rest is left
pub left_next : (token : Token) (limit : ℕ) (items : List Held) → Rises item_bucket items
    → left (next_token token limit items) items ≡ rest_at token limit items
left_next token limit items rises =
    let done : List Held = passed token items ++ batch_at token limit items in
    let rest : List Held = rest_at token limit items in
    let whole : done ++ rest ≡ items = passed_batch_rest token limit items rises in
    subst (λ (l : List Held). left (token_before rest done) l ≡ rest) whole
    (left_between rest done (subst (Rises item_bucket) (sym whole) rises))

-- and what was passed before and the batch are passed
pub passed_next : (token : Token) (limit : ℕ) (items : List Held) → Rises item_bucket items
    → passed (next_token token limit items) items ≡ passed token items ++ batch_at token limit items
passed_next token limit items rises =
    append_cancel_right _ _ (rest_at token limit items)
    (ap (λ (l : List Held). passed (next_token token limit items) items ++ l) (sym (left_next token limit items rises))
    ∙ passed_and_left (next_token token limit items) items rises
    ∙ sym (passed_batch_rest token limit items rises))

-- the batch goes on with what is left, and leaves what is left at the next token
pub left_goes_on : (token : Token) (limit : ℕ) (items : List Held) → Rises item_bucket items
    → left token items ≡ batch_at token limit items ++ left (next_token token limit items) items
left_goes_on token limit items rises = grind (arith, left_in_two, left_next)

-- if nothing is left, the next token is the end
pub token_before_none : (rest done : List Held) → rest ≡ [] → token_before rest done ≡ end
token_before_none rest done none = ap (λ (l : List Held). token_before l done) none

-- the next token is the end exactly if nothing is left at it
pub ends_where_none_left : (token : Token) (limit : ℕ) (items : List Held) → Rises item_bucket items
    → (next_token token limit items ≡ end) ↔ (left (next_token token limit items) items ≡ [])
ends_where_none_left token limit items rises = grind (arith, token_before_none, left_next, filter_none, bucket_below_end, ne_eqb, le-ltb)

-- so many turns hand out what is left, if that is no more items than turns
pub scanned_left : (limit turns : ℕ) (token : Token) (items : List Held) → Rises item_bucket items
    → length (left token items) ≤ turns → scanned limit turns token items ≡ left token items
scanned_left limit zero token items rises few = sym (nil_from_length (left token items) (omega arith))
scanned_left limit (suc turns) token items rises few =
    let next : Token = next_token token limit items in
    let parts : left token items ≡ batch_at token limit items ++ left next items = left_goes_on token limit items rises in
    let count : length (left token items) ≡ length (batch_at token limit items) + length (left next items) =
    ap length parts ∙ length-append (batch_at token limit items) (left next items) in
    let fewer : length (left next items) ≤ turns =
    ⊎_elim
    (λ (some : 0 < length (left token items)). let gives : 0 < length (batch_at token limit items) = batch_gives token limit items some in omega arith)
    (λ (none : length (left token items) ≤ 0). omega arith)
    (cases_lt 0 (length (left token items))) in
    ap (λ (l : List Held). batch_at token limit items ++ l) (scanned_left limit turns next items rises fewer) ∙ sym parts

-- more turns than items are left come to the end
pub ends_after : (limit turns : ℕ) (token : Token) (items : List Held) → Rises item_bucket items
    → length (left token items) < turns → token_after limit turns token items ≡ end
ends_after limit zero token items rises few = absurd (omega arith)
ends_after limit (suc turns) token items rises few =
    let next : Token = next_token token limit items in
    let parts : left token items ≡ batch_at token limit items ++ left next items = left_goes_on token limit items rises in
    let count : length (left token items) ≡ length (batch_at token limit items) + length (left next items) =
    ap length parts ∙ length-append (batch_at token limit items) (left next items) in
    ⊎_elim
    (λ (fewer : length (left next items) < turns). ends_after limit turns next items rises fewer)
    (λ (as_many : turns ≤ length (left next items)).
    ⊎_elim
    (λ (some : 0 < length (left token items)). let gives : 0 < length (batch_at token limit items) = batch_gives token limit items some in absurd (omega arith))
    (λ (none : length (left token items) ≤ 0).
    let last : next ≡ end = (ends_where_none_left token limit items rises).1 (nil_from_length (left next items) (omega arith)) in
    let no_turn : turns ≡ 0 = omega arith in
    subst (λ (k : ℕ). token_after limit k next items ≡ end) (sym no_turn) last)
    (cases_lt 0 (length (left token items))))
    (cases_lt (length (left next items)) turns)

-- at the first token all items are left
pub left_first : (items : List Held) → Rises item_bucket items → left first items ≡ items
left_first items rises =
    ap (λ (l : List Held). l ++ left first items) (sym (passed_first items)) ∙ passed_and_left first items rises

-- the laws for a list in scan order
pub law_whole : (token : Token) (items : List Held) → IsInScanOrder items → passed token items ++ left token items ≡ items
law_whole token items order = passed_and_left token items (rises_in_order items order)

pub law_passed : (token : Token) (limit : ℕ) (items : List Held) → IsInScanOrder items
    → passed (next_token token limit items) items ≡ passed token items ++ batch_at token limit items
law_passed token limit items order = passed_next token limit items (rises_in_order items order)
