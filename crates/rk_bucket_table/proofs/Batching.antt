-- The walk of a scan: what each live item does to what was given and what is to come.
use Rattle.rk_bucket_table.proofs.Words.{◌≡◌, ◌≢◌, ℕ, suc, ◌+◌, ◌<◌, ◌≤◌, Bool, true, false, eqb, cond, List, [], ◌∷◌, ◌++◌, ◌⊎◌, length}
use Rattle.rk_bucket_table.proofs.Words.{drop, refl, sym, ap, ◌∙◌, subst, ⊎_elim, arith, append_assoc, length-append, cases_lt, cond-true}
use Rattle.rk_bucket_table.proofs.Words.{cond-false, eq-eqb, ne_eqb, false≢true, append-nil, Held, Token, Range, IsInScanOrder, item_bucket}
use Rattle.rk_bucket_table.proofs.Words.{item_cmp, is_live_in, live_in, batch_at, left, passed, rest_at, token_behind, Rises, IsFrom}
use Rattle.rk_bucket_table.proofs.Words.{counted_by}
use Rattle.std.proofs.Common.{◌-◌}
use Rattle.std.specs.Prelude.{◌&&◌, nat_le, nat_lt}
use Rattle.std.proofs.lemmas.Bool.{and_parts, cases_eq, eqb-true, lt-ltb, ltb-true}
use Rattle.std.proofs.lemmas.List.{append_cancel_right}
use Rattle.std.proofs.lemmas.List.Kept.{IsStrictlySortedBy-filter}
use Rattle.rk_types.specs.Held.{spelled_of}
use Rattle.rk_table.specs.Scans.{batch_of}
use Rattle.rk_table.proofs.Ordered.{AllFrom, rises_front}
use Rattle.rk_table.proofs.InOrder.{rises_in_order}
use Rattle.rk_table.proofs.Tokens.{left_in_two, passed_and_left}
use Rattle.rk_bucket_table.proofs.Picking.{picked_first, picked_later}
use Rattle.rk_bucket_table.proofs.Batches.{counts, counts_behind, counts_push, unskipped, unskipped_here, unskipped_left, unskipped_none, unskipped_past}

-- how many items of its bucket a token still skips
abbrev pub pending : Token → Token → ℕ
pending from token = cond (eqb token.bucket from.bucket) (from.skip - token.skip) 0

abbrev pub to_give : Range → Token → ℕ → List Held → List Held
to_give range from skip items = unskipped from.bucket skip (live_in range items)

-- of all these items those are left: what was given and what is to be given are the batch
pub record IsBatching (range : Range) (from : Token) (limit : ℕ) (all start items into : List Held) (token : Token) (wanted : ℕ) : Type 0 where
  pub done : List Held
  pub whole : done ++ live_in range items ≡ live_in range all
  pub token_is : token ≡ counts (record { bucket = from.bucket; skip = 0 }) done
  pub low : from.bucket ≤ token.bucket
  pub on : AllFrom item_bucket token.bucket items
  pub rises : Rises item_bucket items
  pub few : token.skip + length items ≤ length all
  pub same : into ++ batch_of wanted (to_give range from (pending from token) items) ≡ start ++ batch_of limit (to_give range from from.skip all)
  pub rest : drop (length (batch_of wanted (to_give range from (pending from token) items))) (to_give range from (pending from token) items)
      ≡ drop (length (batch_of limit (to_give range from from.skip all))) (to_give range from from.skip all)

-- the batch was given
pub record IsBatched (range : Range) (from : Token) (limit : ℕ) (all start items into : List Held) (token : Token) : Type 0 where
  pub done : List Held
  pub whole : done ++ live_in range items ≡ live_in range all
  pub token_is : token ≡ counts (record { bucket = from.bucket; skip = 0 }) done
  pub given : into ≡ start ++ batch_of limit (to_give range from from.skip all)
  pub rest : live_in range items ≡ drop (length (batch_of limit (to_give range from from.skip all))) (to_give range from from.skip all)

from_converted : (bucket : ℕ) (items : List Held) → IsFrom bucket items → AllFrom item_bucket bucket items
from_converted bucket [] all = tt
from_converted bucket (item ∷ items) all = (all.0, from_converted bucket items all.1)

from_filtered : (bucket : ℕ) (range : Range) (items : List Held) → AllFrom item_bucket bucket items → AllFrom item_bucket bucket (live_in range items)
from_filtered bucket range [] all = tt
from_filtered bucket range (item ∷ items) all =
    grind (arith, is_live_in, item_bucket, live_in, all.1, all.0, (from_filtered bucket range items all.1))

front_from : (bucket : ℕ) (front back : List Held) → AllFrom item_bucket bucket (front ++ back) → AllFrom item_bucket bucket front
front_from bucket [] back all = tt
front_from bucket (item ∷ front) back all = (all.0, front_from bucket front back all.1)

counted_few : (b : Bool) (skip : ℕ) → cond b (skip + 1) 1 ≤ skip + 1
counted_few true skip = omega arith
counted_few false skip = omega arith

-- what the code's test says
pub skips_not : (item : Held) (from token : Token) (bucket : ℕ) (result : Bool) → bucket ≡ item_bucket item
    → result ≡ (eqb bucket from.bucket && nat_lt token.skip from.skip) → result ≡ false → (item_bucket item ≢ from.bucket) ⊎ (from.skip ≤ token.skip)
skips_not item from token bucket result its_bucket is no_skip =
    grind (arith, item_bucket, eqb, false≢true, eq-eqb, lt-ltb, cases_lt, cases_eq)

pub skips_here : (item : Held) (from token : Token) (bucket : ℕ) (result : Bool) → bucket ≡ item_bucket item
    → result ≡ (eqb bucket from.bucket && nat_lt token.skip from.skip) → result ≡ true
    → (item_bucket item ≡ from.bucket) × (token.skip < from.skip)
skips_here item from token bucket result its_bucket is skips = grind (arith, and_parts, eqb-true, ltb-true)

-- the next token, as the code computes it
pub next_token_is : (token : Token) (bucket : ℕ) (item : Held) (next : Token) → bucket ≡ item_bucket item → next ≡ counted_by token bucket
    → next ≡ counted_by token (item_bucket item)
next_token_is token bucket item next its_bucket is = is ∙ ap (counted_by token) its_bucket

module _ (range : Range) (from : Token) (limit : ℕ) (all start : List Held) where
  pub batching_first : IsInScanOrder all → IsFrom from.bucket all → IsBatching range from limit all start all start (record { bucket = from.bucket; skip = 0 }) limit
  batching_first order there = grind (arith, from_converted, rises_in_order, cond-true, eqb, eq-eqb)

  module _ (items into : List Held) (token : Token) (wanted : ℕ) (state : IsBatching range from limit all start items into token wanted) where
    -- nothing is left
    pub batched_end : items ≡ [] → IsBatched range from limit all start items into token
    batched_end none =
        let nothing : to_give range from (pending from token) items ≡ [] =
        ap (λ (l : List Held). to_give range from (pending from token) l) none ∙ unskipped_none from.bucket (pending from token) in
        record {
          done = state.done;
          whole = state.whole;
          token_is = state.token_is;
          given = sym (append-nil into) ∙ ap (λ (l : List Held). into ++ batch_of wanted l) (sym nothing) ∙ state.same;
          rest =
              ap (live_in range) none
              ∙ ap (λ (l : List Held). drop (length (batch_of wanted l)) l) (sym nothing)
              ∙ state.rest;
        }

    module _ (item : Held) (left_over : List Held) (parts : items ≡ item ∷ left_over) where
      on_parts : AllFrom item_bucket token.bucket (item ∷ left_over)
      on_parts = subst (AllFrom item_bucket token.bucket) parts state.on

      rises_parts : Rises item_bucket (item ∷ left_over)
      rises_parts = subst (Rises item_bucket) parts state.rises

      fewer : length items ≡ suc (length left_over)
      fewer = ap length parts

      -- an item that is not live changes nothing
      pub batching_dead : is_live_in range item ≡ false → IsBatching range from limit all start left_over into token wanted
      batching_dead dead =
          let its : live_in range items ≡ live_in range left_over = picked_later (is_live_in range) item items left_over parts dead in
          record {
            done = state.done;
            whole = ap (λ (l : List Held). state.done ++ l) (sym its) ∙ state.whole;
            token_is = state.token_is;
            low = state.low;
            on = on_parts.1;
            rises = rises_parts.1;
            few = omega (arith, state.few, fewer);
            same = ap (λ (l : List Held). into ++ batch_of wanted (unskipped from.bucket (pending from token) l)) (sym its) ∙ state.same;
            rest =
                ap (λ (l : List Held). drop (length (batch_of wanted (unskipped from.bucket (pending from token) l))) (unskipped from.bucket (pending from token) l)) (sym its)
                ∙ state.rest;
          }

      module _ (live : is_live_in range item ≡ true) where
        its_live : live_in range items ≡ item ∷ live_in range left_over
        its_live = picked_first (is_live_in range) item items left_over parts live

        more_done : (state.done ++ item ∷ []) ++ live_in range left_over ≡ live_in range all
        more_done = append_assoc state.done (item ∷ []) (live_in range left_over) ∙ ap (λ (l : List Held). state.done ++ l) (sym its_live) ∙ state.whole

        abbrev pub next : Token
        next = counted_by token (item_bucket item)

        next_is : next ≡ counts (record { bucket = from.bucket; skip = 0 }) (state.done ++ item ∷ [])
        next_is =
            ap (λ (t : Token). counted_by t (item_bucket item)) state.token_is
            ∙ sym (counts_push (record { bucket = from.bucket; skip = 0 }) state.done item)

        next_few : next.skip + length left_over ≤ length all
        next_few = omega (arith, counted_few (eqb (item_bucket item) token.bucket) token.skip, state.few, fewer)

        next_low : from.bucket ≤ item_bucket item
        next_low = let k : token.bucket ≤ item_bucket item = on_parts.0 in omega (arith, state.low)

        -- an item of the bucket that is skipped
        module _ (here : item_bucket item ≡ from.bucket) (less : token.skip < from.skip) where
          still_here : token.bucket ≡ from.bucket
          still_here = let k : token.bucket ≤ item_bucket item = on_parts.0 in omega (arith, state.low)

          pending_now : pending from token ≡ suc (from.skip - (token.skip + 1))
          pending_now = cond-true (eqb token.bucket from.bucket) (from.skip - token.skip) 0 (eq-eqb token.bucket from.bucket still_here) ∙ omega arith

          next_skip : next.skip ≡ token.skip + 1
          next_skip = cond-true (eqb (item_bucket item) token.bucket) (token.skip + 1) 1 (eq-eqb (item_bucket item) token.bucket (here ∙ sym still_here))

          pending_next : pending from next ≡ from.skip - (token.skip + 1)
          pending_next =
              cond-true (eqb (item_bucket item) from.bucket) (from.skip - next.skip) 0 (eq-eqb (item_bucket item) from.bucket here)
              ∙ ap (λ (k : ℕ). from.skip - k) next_skip

          gives_same : to_give range from (pending from next) left_over ≡ to_give range from (pending from token) items
          gives_same =
              ap (λ (k : ℕ). unskipped from.bucket k (live_in range left_over)) pending_next
              ∙ sym (unskipped_here from.bucket (from.skip - (token.skip + 1)) item (live_in range left_over) here)
              ∙ (λ i. unskipped from.bucket (sym pending_now i) (sym its_live i))

          pub batching_skipped : IsBatching range from limit all start left_over into next wanted
          batching_skipped = record {
            done = state.done ++ item ∷ [];
            whole = more_done;
            token_is = next_is;
            low = next_low;
            on = rises_parts.0;
            rises = rises_parts.1;
            few = next_few;
            same = ap (λ (l : List Held). into ++ batch_of wanted l) gives_same ∙ state.same;
            rest = ap (λ (l : List Held). drop (length (batch_of wanted l)) l) gives_same ∙ state.rest;
          }

        -- an item that is given
        module _ (no_skip : (item_bucket item ≢ from.bucket) ⊎ (from.skip ≤ token.skip)) where
          gives_item : to_give range from (pending from token) items ≡ item ∷ live_in range left_over
          gives_item =
              ap (unskipped from.bucket (pending from token)) its_live
              ∙ ⊎_elim
              (λ (differs : item_bucket item ≢ from.bucket). unskipped_past from.bucket (pending from token) item (live_in range left_over) differs)
              (λ (enough : from.skip ≤ token.skip).
              ap (λ (k : ℕ). unskipped from.bucket k (item ∷ live_in range left_over)) (none_pending (eqb token.bucket from.bucket) enough))
              no_skip
            where
              none_pending : (b : Bool) → from.skip ≤ token.skip → cond b (from.skip - token.skip) 0 ≡ 0
              none_pending true enough = omega arith
              none_pending false enough = refl

          none_next : pending from next ≡ 0
          none_next =
              ⊎_elim
              (λ (here : item_bucket item ≡ from.bucket).
              let still : token.bucket ≡ from.bucket = (let k : token.bucket ≤ item_bucket item = on_parts.0 in omega (arith, state.low)) in
              let skip : next.skip ≡ token.skip + 1 =
              cond-true (eqb (item_bucket item) token.bucket) (token.skip + 1) 1 (eq-eqb (item_bucket item) token.bucket (here ∙ sym still)) in
              cond-true (eqb (item_bucket item) from.bucket) (from.skip - next.skip) 0 (eq-eqb (item_bucket item) from.bucket here)
              ∙ ⊎_elim
              (λ (differs : item_bucket item ≢ from.bucket). absurd (differs here))
              (λ (enough : from.skip ≤ token.skip). omega (arith, skip))
              no_skip)
              (λ (differs : item_bucket item ≢ from.bucket).
              cond-false (eqb (item_bucket item) from.bucket) (from.skip - next.skip) 0 (ne_eqb (item_bucket item) from.bucket differs))
              (cases_eq (item_bucket item) from.bucket)

          gives_rest : to_give range from (pending from next) left_over ≡ live_in range left_over
          gives_rest = ap (λ (k : ℕ). unskipped from.bucket k (live_in range left_over)) none_next

          module _ (pushed : List Held) (is : pushed ≡ into ++ item ∷ []) where
            -- it is the last of the batch
            pub batched_full : nat_le wanted (spelled_of item) ≡ true → IsBatched range from limit all start left_over pushed next
            batched_full full =
                let one : batch_of wanted (to_give range from (pending from token) items) ≡ item ∷ [] =
                ap (batch_of wanted) gives_item
                ∙ ap (λ (l : List Held). item ∷ l) (cond-true (nat_le wanted (spelled_of item)) [] (batch_of (wanted - spelled_of item) (live_in range left_over)) full) in
                let behind : drop (length (batch_of wanted (to_give range from (pending from token) items))) (to_give range from (pending from token) items)
                ≡ live_in range left_over =
                λ i. drop (length (one i)) (gives_item i) in
                record {
                  done = state.done ++ item ∷ [];
                  whole = more_done;
                  token_is = next_is;
                  given = is ∙ ap (λ (l : List Held). into ++ l) (sym one) ∙ state.same;
                  rest = sym behind ∙ state.rest;
                }

            -- or others come behind it
            pub batching_given : nat_le wanted (spelled_of item) ≡ false
                → IsBatching range from limit all start left_over pushed next (wanted - spelled_of item)
            batching_given unfilled =
                let more : batch_of wanted (to_give range from (pending from token) items)
                ≡ item ∷ batch_of (wanted - spelled_of item) (to_give range from (pending from next) left_over) =
                ap (batch_of wanted) gives_item
                ∙ ap (λ (l : List Held). item ∷ l)
                (cond-false (nat_le wanted (spelled_of item)) [] (batch_of (wanted - spelled_of item) (live_in range left_over)) unfilled
                ∙ ap (batch_of (wanted - spelled_of item)) (sym gives_rest)) in
                let behind : drop (length (batch_of wanted (to_give range from (pending from token) items))) (to_give range from (pending from token) items)
                ≡ drop (length (batch_of (wanted - spelled_of item) (to_give range from (pending from next) left_over))) (live_in range left_over) =
                λ i. drop (length (more i)) (gives_item i) in
                record {
                  done = state.done ++ item ∷ [];
                  whole = more_done;
                  token_is = next_is;
                  low = next_low;
                  on = rises_parts.0;
                  rises = rises_parts.1;
                  few = next_few;
                  same =
                      ap (λ (l : List Held). l ++ batch_of (wanted - spelled_of item) (to_give range from (pending from next) left_over)) is
                      ∙ append_assoc into (item ∷ []) (batch_of (wanted - spelled_of item) (to_give range from (pending from next) left_over))
                      ∙ ap (λ (l : List Held). into ++ l) (sym more)
                      ∙ state.same;
                  rest =
                      ap (drop (length (batch_of (wanted - spelled_of item) (to_give range from (pending from next) left_over)))) gives_rest
                      ∙ sym behind ∙ state.rest;
                }

  -- what the batch is
  module _ (order : IsInScanOrder all) (there : IsFrom from.bucket all) (items into : List Held) (token : Token)
      (state : IsBatched range from limit all start items into token) where
    live_rises : Rises item_bucket (live_in range all)
    live_rises = rises_in_order (live_in range all) (IsStrictlySortedBy-filter item_cmp (is_live_in range) all order)

    live_from : AllFrom item_bucket from.bucket (live_in range all)
    live_from = from_filtered from.bucket range all (from_converted from.bucket all there)

    all_left : to_give range from from.skip all ≡ left from (live_in range all)
    all_left = unskipped_left from.bucket from.skip (live_in range all) live_from live_rises

    pub batch_given : into ≡ start ++ batch_at from limit (live_in range all)
    batch_given = state.given ∙ ap (λ (l : List Held). start ++ batch_of limit l) all_left

    pub rest_left : live_in range items ≡ rest_at from limit (live_in range all)
    rest_left = state.rest ∙ ap (λ (l : List Held). drop (length (batch_of limit l)) l) all_left

    done_is : state.done ≡ passed from (live_in range all) ++ batch_at from limit (live_in range all)
    done_is =
        append_cancel_right _ _ (rest_at from limit (live_in range all))
        (ap (λ (l : List Held). state.done ++ l) (sym rest_left)
        ∙ state.whole
        ∙ sym (passed_and_left from (live_in range all) live_rises)
        ∙ ap (λ (l : List Held). passed from (live_in range all) ++ l) (sym (left_in_two from limit (live_in range all)))
        ∙ sym (append_assoc (passed from (live_in range all)) (batch_at from limit (live_in range all)) (rest_at from limit (live_in range all))))

    pub token_given : 0 < length (batch_at from limit (live_in range all))
        → token ≡ token_behind (passed from (live_in range all) ++ batch_at from limit (live_in range all))
    token_given some =
        state.token_is
        ∙ counts_behind from.bucket state.done
        (omega (arith, ap length done_is, length-append (passed from (live_in range all)) (batch_at from limit (live_in range all)), some))
        (front_from from.bucket state.done (live_in range items) (subst (AllFrom item_bucket from.bucket) (sym state.whole) live_from))
        (rises_front item_bucket state.done (live_in range items) (subst (Rises item_bucket) (sym state.whole) live_rises))
        ∙ ap token_behind done_is
