use Rattle.rk_bucket_table.proofs.Words.{◌≡◌, ◌≤◌, ◌<◌, [], ◌∷◌, ℕ, List, length, sym, ap, ◌∙◌, arith, subst, vec_len, Held, Token}
use Rattle.rk_bucket_table.proofs.Words.{item_bucket, counted_by}
use Rattle.std.proofs.Common.{◌-◌}
use Rattle.std.proofs.lemmas.Bool.{le-leb, lt-leb}
use Rattle.std.proofs.lemmas.List.{take_all}
use Rattle.rk_types.specs.Held.{spelled_of}
use Rattle.rk_bucket_table.proofs.Batching.{IsBatched, IsBatching, batch_given, batched_end, batched_full, batching_dead, batching_first, batching_given, batching_skipped, next_token_is, rest_left, skips_here, skips_not, token_given}
use Rattle.rk_bucket_table.proofs.Picking.{front_stays}
use Rattle.rk_bucket_table.proofs.scans.push_batch.Goals as goal

pub items-init : goal.items-init
items-init c = record {
  state = batching_first c.args.range.now c.args.from.now c.args.limit c.args.items.now c.args.into.now.items c.requires.order c.requires.from_there;
  before = take_all (vec_len c.args.into.now) c.args.into.now.items (let e = c.args.into.now.ok.0 in omega arith);
}

pub items-preserved-then-not-is_live_in : goal.items-preserved-then-not-is_live_in
items-preserved-then-not-is_live_in c = record {
  state = batching_dead c.args.range.now c.args.from.now c.args.limit c.args.items.now c.args.into.now.items c.items.items c.items.into.items c.items.token c.items.wanted c.items.invariant.state c.in-Some.item.now c.next.new.self c.in-Some.ensures
      (sym c.is_live_in.ensures ∙ c.if-not-is_live_in.true);
  before = c.items.invariant.before;
}

pub counted-token-requires : goal.counted-token-requires
counted-token-requires c = omega (arith, c.items.invariant.state.few, ap length c.in-Some.ensures, c.requires.few)

pub items-preserved-then-is_skipped : goal.items-preserved-then-is_skipped
items-preserved-then-is_skipped c =
    let here = (skips_here c.in-Some.item.now c.args.from.now c.items.token c.bucket.result c.skips-is_skipped.result c.bucket.ensures
    c.skips-is_skipped.ensures c.if-is_skipped.true) in
    record {
      state =
          subst (λ (t : Token). IsBatching c.args.range.now c.args.from.now c.args.limit c.args.items.now c.args.into.now.items c.next.new.self c.items.into.items t c.items.wanted)
          (sym (next_token_is c.items.token c.bucket-in-Some.result c.in-Some.item.now c.counted-token.result c.bucket-in-Some.ensures c.counted-token.ensures))
          (batching_skipped c.args.range.now c.args.from.now c.args.limit c.args.items.now c.args.into.now.items
          c.items.items c.items.into.items c.items.token c.items.wanted c.items.invariant.state
          c.in-Some.item.now c.next.new.self c.in-Some.ensures
          (sym c.is_live_in.ensures ∙ c.if-not-is_live_in.false) here.0 here.1);
      before = c.items.invariant.before;
    }

pub items-preserved : goal.items-preserved
items-preserved c =
    let bytes : c.spelled-bytes.result ≡ spelled_of c.in-Some.item.now = c.spelled-bytes.ensures.bytes ∙ ap spelled_of c.held.ensures in
    record {
      state =
          subst (λ (t : Token). IsBatching c.args.range.now c.args.from.now c.args.limit c.args.items.now c.args.into.now.items c.next.new.self c.push_duplicate.new.into.items t (c.items.wanted - c.spelled-bytes.result))
          (sym (next_token_is c.items.token c.bucket-in-Some.result c.in-Some.item.now c.counted-token.result c.bucket-in-Some.ensures c.counted-token.ensures))
          (subst (λ (k : ℕ). IsBatching c.args.range.now c.args.from.now c.args.limit c.args.items.now c.args.into.now.items c.next.new.self c.push_duplicate.new.into.items
          (counted_by c.items.token (item_bucket c.in-Some.item.now)) (c.items.wanted - k)) (sym bytes)
          (batching_given c.args.range.now c.args.from.now c.args.limit c.args.items.now c.args.into.now.items
          c.items.items c.items.into.items c.items.token c.items.wanted c.items.invariant.state
          c.in-Some.item.now c.next.new.self c.in-Some.ensures
          (sym c.is_live_in.ensures ∙ c.if-not-is_live_in.false) (skips_not c.in-Some.item.now c.args.from.now c.items.token c.bucket.result c.skips-is_skipped.result c.bucket.ensures
          c.skips-is_skipped.ensures c.if-is_skipped.false)
          c.push_duplicate.new.into.items c.in_ok-push_duplicate.ensures.ok
          (lt-leb _ _ (let less : spelled_of c.in-Some.item.now < c.items.wanted = omega (arith, bytes, c.if-wanted-bytes.false) in less))));
      before =
          front_stays c.args.into.now.items c.items.into.items c.push_duplicate.new.into.items (c.in-Some.item.now ∷ []) (vec_len c.args.into.now)
          c.args.into.now.ok.0 c.in_ok-push_duplicate.ensures.ok c.items.invariant.before;
    }

-- the batch is full
full : (c : goal.Then-wanted-bytes) → IsBatched c.args.range.now c.args.from.now c.args.limit c.args.items.now c.args.into.now.items
    c.next.new.self c.push_duplicate.new.into.items c.counted-token.result
full c =
    let bytes : c.spelled-bytes.result ≡ spelled_of c.in-Some.item.now = c.spelled-bytes.ensures.bytes ∙ ap spelled_of c.held.ensures in
    subst (λ (t : Token). IsBatched c.args.range.now c.args.from.now c.args.limit c.args.items.now c.args.into.now.items c.next.new.self c.push_duplicate.new.into.items t)
    (sym (next_token_is c.items.token c.bucket-in-Some.result c.in-Some.item.now c.counted-token.result c.bucket-in-Some.ensures c.counted-token.ensures))
    (batched_full c.args.range.now c.args.from.now c.args.limit c.args.items.now c.args.into.now.items
    c.items.items c.items.into.items c.items.token c.items.wanted c.items.invariant.state
    c.in-Some.item.now c.next.new.self c.in-Some.ensures
    (sym c.is_live_in.ensures ∙ c.if-not-is_live_in.false) (skips_not c.in-Some.item.now c.args.from.now c.items.token c.bucket.result c.skips-is_skipped.result c.bucket.ensures
    c.skips-is_skipped.ensures c.if-is_skipped.false)
    c.push_duplicate.new.into.items c.in_ok-push_duplicate.ensures.ok
    (le-leb _ _ (let more : c.items.wanted ≤ spelled_of c.in-Some.item.now = omega (arith, bytes, c.if-wanted-bytes.true) in more)))

pub returns-then-wanted-bytes-clause-batch : goal.returns-then-wanted-bytes-clause-batch
returns-then-wanted-bytes-clause-batch c =
    batch_given c.args.range.now c.args.from.now c.args.limit c.args.items.now c.args.into.now.items c.requires.order c.requires.from_there
    c.next.new.self c.push_duplicate.new.into.items c.counted-token.result (full c)

pub returns-then-wanted-bytes-clause-rest : goal.returns-then-wanted-bytes-clause-rest
returns-then-wanted-bytes-clause-rest c =
    rest_left c.args.range.now c.args.from.now c.args.limit c.args.items.now c.args.into.now.items c.requires.order c.requires.from_there
    c.next.new.self c.push_duplicate.new.into.items c.counted-token.result (full c)

pub returns-then-wanted-bytes-clause-token : goal.returns-then-wanted-bytes-clause-token
returns-then-wanted-bytes-clause-token c =
    token_given c.args.range.now c.args.from.now c.args.limit c.args.items.now c.args.into.now.items c.requires.order c.requires.from_there
    c.next.new.self c.push_duplicate.new.into.items c.counted-token.result (full c)

pub returns-clause-batch : goal.returns-clause-batch
returns-clause-batch c =
    batch_given c.args.range.now c.args.from.now c.args.limit c.args.items.now c.args.into.now.items c.requires.order c.requires.from_there
    c.next.new.self c.items.into.items c.items.token
    (subst (λ (l : List Held). IsBatched c.args.range.now c.args.from.now c.args.limit c.args.items.now c.args.into.now.items l c.items.into.items c.items.token) (c.in_default.ensures.0 ∙ sym c.in_default.ensures.1)
    (batched_end c.args.range.now c.args.from.now c.args.limit c.args.items.now c.args.into.now.items
    c.items.items c.items.into.items c.items.token c.items.wanted c.items.invariant.state c.in_default.ensures.0))

pub returns-clause-rest : goal.returns-clause-rest
returns-clause-rest c =
    rest_left c.args.range.now c.args.from.now c.args.limit c.args.items.now c.args.into.now.items c.requires.order c.requires.from_there
    c.next.new.self c.items.into.items c.items.token
    (subst (λ (l : List Held). IsBatched c.args.range.now c.args.from.now c.args.limit c.args.items.now c.args.into.now.items l c.items.into.items c.items.token) (c.in_default.ensures.0 ∙ sym c.in_default.ensures.1)
    (batched_end c.args.range.now c.args.from.now c.args.limit c.args.items.now c.args.into.now.items
    c.items.items c.items.into.items c.items.token c.items.wanted c.items.invariant.state c.in_default.ensures.0))

pub returns-clause-token : goal.returns-clause-token
returns-clause-token c =
    token_given c.args.range.now c.args.from.now c.args.limit c.args.items.now c.args.into.now.items c.requires.order c.requires.from_there
    c.next.new.self c.items.into.items c.items.token
    (subst (λ (l : List Held). IsBatched c.args.range.now c.args.from.now c.args.limit c.args.items.now c.args.into.now.items l c.items.into.items c.items.token) (c.in_default.ensures.0 ∙ sym c.in_default.ensures.1)
    (batched_end c.args.range.now c.args.from.now c.args.limit c.args.items.now c.args.into.now.items
    c.items.items c.items.into.items c.items.token c.items.wanted c.items.invariant.state c.in_default.ensures.0))
