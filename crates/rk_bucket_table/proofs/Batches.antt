-- Scans: what a walk from a token's bucket on passes over, gives, and counts.
use Rattle.rk_bucket_table.proofs.Words.{◌≡◌, ◌≢◌, ℕ, zero, suc, ◌+◌, ◌<◌, ◌≤◌, eqb, cond, List, [], ◌∷◌, ◌++◌, length, drop, refl, sym, ap}
use Rattle.rk_bucket_table.proofs.Words.{◌∙◌, subst, ⊎_elim, arith, append_assoc, length-append, cases_lt, cond-true, cond-false, eq-eqb}
use Rattle.rk_bucket_table.proofs.Words.{ne_eqb, append-nil, filter-append, Held, Token, item_bucket, left, token_behind, Rises}
use Rattle.rk_bucket_table.proofs.Words.{filter_kept, filter_left_out, counted_by}
use Rattle.std.proofs.Common.{ltb}
use Rattle.std.proofs.lemmas.Bool.{le-ltb}
use Rattle.rk_table.specs.Scans.{behind_bucket, of_bucket}
use Rattle.rk_table.proofs.Ordered.{AllFrom, AllUpTo, ends_with_one, last_of_end, more_all, same_and_more, same_none}

-- the items without so many first ones of a bucket
abbrev pub unskipped : ℕ → ℕ → List Held → List Held
unskipped bucket zero items = items
unskipped bucket (suc skip) [] = []
unskipped bucket (suc skip) (item ∷ items) = cond (eqb (item_bucket item) bucket) (unskipped bucket skip items) (item ∷ items)

pub unskipped_none : (bucket skip : ℕ) → unskipped bucket skip [] ≡ []
unskipped_none bucket zero = refl
unskipped_none bucket (suc skip) = refl

pub unskipped_here : (bucket skip : ℕ) (item : Held) (items : List Held) → item_bucket item ≡ bucket
    → unskipped bucket (suc skip) (item ∷ items) ≡ unskipped bucket skip items
unskipped_here bucket skip item items same = cond-true _ _ _ (eq-eqb (item_bucket item) bucket same)

pub unskipped_past : (bucket skip : ℕ) (item : Held) (items : List Held) → item_bucket item ≢ bucket
    → unskipped bucket skip (item ∷ items) ≡ item ∷ items
unskipped_past bucket zero item items differs = refl
unskipped_past bucket (suc skip) item items differs = cond-false _ _ _ (ne_eqb (item_bucket item) bucket differs)

-- that is what is left at a token
pub unskipped_left : (bucket skip : ℕ) (items : List Held) → AllFrom item_bucket bucket items → Rises item_bucket items
    → unskipped bucket skip items ≡ left (record { bucket = bucket; skip = skip }) items
unskipped_left bucket zero items from rises = sym (same_and_more item_bucket bucket items from rises)
unskipped_left bucket (suc skip) [] from rises = refl
unskipped_left bucket (suc skip) (item ∷ items) from rises =
    ⊎_elim
    (λ (behind : bucket < item_bucket item).
    let none : of_bucket bucket (item ∷ items) ≡ [] =
    filter_left_out (λ x. eqb (item_bucket x) bucket) item items (ne_eqb (item_bucket item) bucket (λ e. omega arith))
    ∙ same_none item_bucket bucket (item_bucket item) items behind rises.0 in
    let all : behind_bucket bucket (item ∷ items) ≡ item ∷ items =
    more_all item_bucket bucket (suc bucket) (item ∷ items) (omega arith) (omega arith, further bucket (item_bucket item) items behind rises.0) in
    unskipped_past bucket (suc skip) item items (λ e. omega arith)
    ∙ sym (λ i. drop (suc skip) (none i) ++ all i))
    (λ (here : item_bucket item ≤ bucket).
    let low : bucket ≤ item_bucket item = from.0 in
    let same : item_bucket item ≡ bucket = omega arith in
    let one : of_bucket bucket (item ∷ items) ≡ item ∷ of_bucket bucket items =
    filter_kept (λ x. eqb (item_bucket x) bucket) item items (eq-eqb (item_bucket item) bucket same) in
    let out : behind_bucket bucket (item ∷ items) ≡ behind_bucket bucket items = filter_left_out (λ x. ltb bucket (item_bucket x)) item items (le-ltb bucket (item_bucket item) here) in
    unskipped_here bucket skip item items same
    ∙ unskipped_left bucket skip items from.1 rises.1
    ∙ sym (λ i. drop (suc skip) (one i) ++ out i))
    (cases_lt bucket (item_bucket item))
  where
    further : (a b : ℕ) (items : List Held) → a < b → AllFrom item_bucket b items → AllFrom item_bucket (suc a) items
    further a b [] less all = tt
    further a b (x ∷ xs) less all = (let k : b ≤ item_bucket x = all.0 in omega arith, further a b xs less all.1)

-- the token behind some items, counted from a token on
abbrev pub counts : Token → List Held → Token
counts token [] = token
counts token (item ∷ items) = counts (counted_by token (item_bucket item)) items

pub counts_push : (token : Token) (items : List Held) (item : Held) → counts token (items ++ item ∷ []) ≡ counted_by (counts token items) (item_bucket item)
counts_push token [] item = refl
counts_push token (first ∷ items) item = counts_push (counted_by token (item_bucket first)) items item

-- a token counts the items of its bucket, behind which none is
pub record Counts (token : Token) (done : List Held) : Type 0 where
  pub number : token.skip ≡ length (of_bucket token.bucket done)
  pub up_to : AllUpTo item_bucket token.bucket done

up_to_more : (a b : ℕ) (done : List Held) (item : Held) → a ≤ b → item_bucket item ≤ b → AllUpTo item_bucket a done
    → AllUpTo item_bucket b (done ++ item ∷ [])
up_to_more a b [] item less its all = (its, tt)
up_to_more a b (x ∷ done) item less its all = (let k : item_bucket x ≤ a = all.0 in omega arith, up_to_more a b done item less its all.1)

none_up_to : (a b : ℕ) (done : List Held) → a < b → AllUpTo item_bucket a done → of_bucket b done ≡ []
none_up_to a b [] less all = refl
none_up_to a b (x ∷ done) less all =
    grind (arith, item_bucket, filter_left_out, eqb, ne_eqb, all.0, all.1, (none_up_to a b done less all.1))

one_of : (item : Held) → of_bucket (item_bucket item) (item ∷ []) ≡ item ∷ []
one_of item = filter_kept (λ y. eqb (item_bucket y) (item_bucket item)) item [] (eq-eqb (item_bucket item) (item_bucket item) refl)

counts_more : (token : Token) (done : List Held) (item : Held) → Counts token done → token.bucket ≤ item_bucket item
    → Counts (counted_by token (item_bucket item)) (done ++ item ∷ [])
counts_more token done item counted from =
    grind (arith, filter-append, length-append, none_up_to, up_to_more)

counts_all : (token : Token) (done items : List Held) → Counts token done → AllFrom item_bucket token.bucket items → Rises item_bucket items
    → Counts (counts token items) (done ++ items)
counts_all token done [] counted from rises = subst (Counts token) (sym (append-nil done)) counted
counts_all token done (item ∷ items) counted from rises =
    subst (Counts (counts (counted_by token (item_bucket item)) items)) (append_assoc done (item ∷ []) items)
    (counts_all (counted_by token (item_bucket item)) (done ++ item ∷ []) items (counts_more token done item counted from.0) rises.0 rises.1)

-- of items from a bucket on, that is the token behind them
behind_last : (bucket : ℕ) (front : List Held) (item : Held)
    → Counts (counts (record { bucket = bucket; skip = 0 }) (front ++ item ∷ [])) (front ++ item ∷ [])
    → counts (record { bucket = bucket; skip = 0 }) (front ++ item ∷ []) ≡ token_behind (front ++ item ∷ [])
behind_last bucket front item counted = grind (arith, counts_push, counted_by, item_bucket, last_of_end)

pub counts_behind : (bucket : ℕ) (done : List Held) → 0 < length done → AllFrom item_bucket bucket done → Rises item_bucket done
    → counts (record { bucket = bucket; skip = 0 }) done ≡ token_behind done
counts_behind bucket done some from rises =
    let counted : Counts (counts (record { bucket = bucket; skip = 0 }) done) done =
    counts_all (record { bucket = bucket; skip = 0 }) [] done (record { number = refl; up_to = tt }) from rises in
    ⊎_elim
    (λ (none : done ≡ []). absurd (omega (arith, ap length none)))
    (λ (ends : (front : List Held) × (item : Held) × (done ≡ front ++ item ∷ [])).
    subst (λ (l : List Held). counts (record { bucket = bucket; skip = 0 }) l ≡ token_behind l) (sym ends.2)
    (behind_last bucket ends.0 ends.1
    (subst (λ (l : List Held). Counts (counts (record { bucket = bucket; skip = 0 }) l) l) ends.2 counted)))
    (ends_with_one done)
