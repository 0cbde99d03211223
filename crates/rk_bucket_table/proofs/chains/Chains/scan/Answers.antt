use Rattle.rk_bucket_table.proofs.Words.{◌≡◌, ◌*◌, ◌<◌, ◌++◌, List, drop, length, refl, sym, ap, ◌∙◌, subst, arith, Held, live_in}
use Rattle.rk_bucket_table.proofs.Words.{IsInScanOrder, batch_at, next_token, passed, rest_at, token_behind, joined, IsFrom, Shown}
use Rattle.rk_bucket_table.proofs.Answering.{onward_chains, onward_from, onward_is, onward_order, scan_batch, scan_end, scan_more}
use Rattle.rk_bucket_table.proofs.Tables.{table_items}
use Rattle.rk_bucket_table.proofs.chains.Chains.scan.Goals as goal

pub new-items-requires-clause-chains : goal.new-items-requires-clause-chains
new-items-requires-clause-chains c =
    let fields = c.self.inside in
    onward_chains fields.per_bucket fields.heads.items fields.cells.slots c.self.invariant.0 c.self.invariant.1
    c.args.from.now.bucket c.from.result (c.from.result * fields.per_bucket) (omega (arith, c.min.ensures, c.from.ensures)) (omega (arith, c.min.ensures, c.from.ensures))
    (λ other from below. omega (arith, c.min.ensures, c.from.ensures)) refl
    c.split_at.result.1.now (c.split_at.ensures.back ∙ ap (drop (c.from.result * fields.per_bucket)) c.as_slice.ensures.value)

pub push_batch-requires-clause-order : goal.push_batch-requires-clause-order
push_batch-requires-clause-order c =
    let fields = c.self.inside in
    let shown : joined c.self.invariant.0 ≡ c.args.self.now.items =
    sym (table_items fields.per_bucket fields.heads.items fields.cells.slots c.self.invariant.0 c.self.invariant.1) ∙ ap (λ (s : Shown). s.items) c.self.view_is in
    let items_are = c.new-items.ensures ∙ onward_is fields.per_bucket fields.heads.items fields.cells.slots c.self.invariant.0 c.self.invariant.1
    c.args.from.now.bucket c.from.result (c.from.result * fields.per_bucket) (omega (arith, c.min.ensures, c.from.ensures)) (omega (arith, c.min.ensures, c.from.ensures))
    (λ other from below. omega (arith, c.min.ensures, c.from.ensures)) refl
    c.split_at.result.1.now (c.split_at.ensures.back ∙ ap (drop (c.from.result * fields.per_bucket)) c.as_slice.ensures.value) in
    subst IsInScanOrder (sym items_are) (onward_order fields.per_bucket fields.heads.items fields.cells.slots c.self.invariant.0 c.self.invariant.1
    c.args.from.now.bucket c.from.result (c.from.result * fields.per_bucket) (omega (arith, c.min.ensures, c.from.ensures)) (omega (arith, c.min.ensures, c.from.ensures))
    (λ other from below. omega (arith, c.min.ensures, c.from.ensures)) refl)

pub push_batch-requires-clause-from_there : goal.push_batch-requires-clause-from_there
push_batch-requires-clause-from_there c =
    let fields = c.self.inside in
    let shown : joined c.self.invariant.0 ≡ c.args.self.now.items =
    sym (table_items fields.per_bucket fields.heads.items fields.cells.slots c.self.invariant.0 c.self.invariant.1) ∙ ap (λ (s : Shown). s.items) c.self.view_is in
    let items_are = c.new-items.ensures ∙ onward_is fields.per_bucket fields.heads.items fields.cells.slots c.self.invariant.0 c.self.invariant.1
    c.args.from.now.bucket c.from.result (c.from.result * fields.per_bucket) (omega (arith, c.min.ensures, c.from.ensures)) (omega (arith, c.min.ensures, c.from.ensures))
    (λ other from below. omega (arith, c.min.ensures, c.from.ensures)) refl
    c.split_at.result.1.now (c.split_at.ensures.back ∙ ap (drop (c.from.result * fields.per_bucket)) c.as_slice.ensures.value) in
    subst (IsFrom c.args.from.now.bucket) (sym items_are) (onward_from fields.per_bucket fields.heads.items fields.cells.slots c.self.invariant.0 c.self.invariant.1
    c.args.from.now.bucket c.from.result (c.from.result * fields.per_bucket) (omega (arith, c.min.ensures, c.from.ensures)) (omega (arith, c.min.ensures, c.from.ensures))
    (λ other from below. omega (arith, c.min.ensures, c.from.ensures)) refl)

pub returns-then-has_live-clause-batch : goal.returns-then-has_live-clause-batch
returns-then-has_live-clause-batch c =
    let fields = c.self.inside in
    let shown : joined c.self.invariant.0 ≡ c.args.self.now.items =
    sym (table_items fields.per_bucket fields.heads.items fields.cells.slots c.self.invariant.0 c.self.invariant.1) ∙ ap (λ (s : Shown). s.items) c.self.view_is in
    let items_are = c.new-items.ensures ∙ onward_is fields.per_bucket fields.heads.items fields.cells.slots c.self.invariant.0 c.self.invariant.1
    c.args.from.now.bucket c.from.result (c.from.result * fields.per_bucket) (omega (arith, c.min.ensures, c.from.ensures)) (omega (arith, c.min.ensures, c.from.ensures))
    (λ other from below. omega (arith, c.min.ensures, c.from.ensures)) refl
    c.split_at.result.1.now (c.split_at.ensures.back ∙ ap (drop (c.from.result * fields.per_bucket)) c.as_slice.ensures.value) in
    c.in-Ok.ensures.batch
    ∙ ap (λ (l : List Held). c.args.into.now.items ++ l)
    (ap (λ (l : List Held). batch_at c.args.from.now c.args.limit (live_in c.args.range.now l)) items_are
    ∙ scan_batch fields.per_bucket fields.heads.items fields.cells.slots c.self.invariant.0 c.self.invariant.1
    c.args.from.now.bucket c.from.result (c.from.result * fields.per_bucket) (omega (arith, c.min.ensures, c.from.ensures)) (omega (arith, c.min.ensures, c.from.ensures))
    (λ other from below. omega (arith, c.min.ensures, c.from.ensures)) refl c.args.range.now c.args.from.now c.args.limit refl
    ∙ ap (λ (l : List Held). batch_at c.args.from.now c.args.limit (live_in c.args.range.now l)) shown)

pub returns-else-has_live-clause-batch : goal.returns-else-has_live-clause-batch
returns-else-has_live-clause-batch c =
    let fields = c.self.inside in
    let shown : joined c.self.invariant.0 ≡ c.args.self.now.items =
    sym (table_items fields.per_bucket fields.heads.items fields.cells.slots c.self.invariant.0 c.self.invariant.1) ∙ ap (λ (s : Shown). s.items) c.self.view_is in
    let items_are = c.new-items.ensures ∙ onward_is fields.per_bucket fields.heads.items fields.cells.slots c.self.invariant.0 c.self.invariant.1
    c.args.from.now.bucket c.from.result (c.from.result * fields.per_bucket) (omega (arith, c.min.ensures, c.from.ensures)) (omega (arith, c.min.ensures, c.from.ensures))
    (λ other from below. omega (arith, c.min.ensures, c.from.ensures)) refl
    c.split_at.result.1.now (c.split_at.ensures.back ∙ ap (drop (c.from.result * fields.per_bucket)) c.as_slice.ensures.value) in
    c.in-Ok.ensures.batch
    ∙ ap (λ (l : List Held). c.args.into.now.items ++ l)
    (ap (λ (l : List Held). batch_at c.args.from.now c.args.limit (live_in c.args.range.now l)) items_are
    ∙ scan_batch fields.per_bucket fields.heads.items fields.cells.slots c.self.invariant.0 c.self.invariant.1
    c.args.from.now.bucket c.from.result (c.from.result * fields.per_bucket) (omega (arith, c.min.ensures, c.from.ensures)) (omega (arith, c.min.ensures, c.from.ensures))
    (λ other from below. omega (arith, c.min.ensures, c.from.ensures)) refl c.args.range.now c.args.from.now c.args.limit refl
    ∙ ap (λ (l : List Held). batch_at c.args.from.now c.args.limit (live_in c.args.range.now l)) shown)

pub returns-then-has_live-clause-next : goal.returns-then-has_live-clause-next
returns-then-has_live-clause-next c =
    let fields = c.self.inside in
    let shown : joined c.self.invariant.0 ≡ c.args.self.now.items =
    sym (table_items fields.per_bucket fields.heads.items fields.cells.slots c.self.invariant.0 c.self.invariant.1) ∙ ap (λ (s : Shown). s.items) c.self.view_is in
    let items_are = c.new-items.ensures ∙ onward_is fields.per_bucket fields.heads.items fields.cells.slots c.self.invariant.0 c.self.invariant.1
    c.args.from.now.bucket c.from.result (c.from.result * fields.per_bucket) (omega (arith, c.min.ensures, c.from.ensures)) (omega (arith, c.min.ensures, c.from.ensures))
    (λ other from below. omega (arith, c.min.ensures, c.from.ensures)) refl
    c.split_at.result.1.now (c.split_at.ensures.back ∙ ap (drop (c.from.result * fields.per_bucket)) c.as_slice.ensures.value) in
    scan_more fields.per_bucket fields.heads.items fields.cells.slots c.self.invariant.0 c.self.invariant.1
    c.args.from.now.bucket c.from.result (c.from.result * fields.per_bucket) (omega (arith, c.min.ensures, c.from.ensures)) (omega (arith, c.min.ensures, c.from.ensures))
    (λ other from below. omega (arith, c.min.ensures, c.from.ensures)) refl c.args.range.now c.args.from.now c.args.limit refl
    c.push_batch.new.items (c.in-Ok.ensures.rest ∙ ap (λ (l : List Held). rest_at c.args.from.now c.args.limit (live_in c.args.range.now l)) items_are)
    c.in-Ok.token (sym c.has_live.ensures ∙ c.if-has_live.true)
    (subst (λ (l : List Held). 0 < length (batch_at c.args.from.now c.args.limit (live_in c.args.range.now l))
    → c.in-Ok.token ≡ token_behind (passed c.args.from.now (live_in c.args.range.now l) ++ batch_at c.args.from.now c.args.limit (live_in c.args.range.now l)))
    items_are c.in-Ok.ensures.token)
    ∙ ap (λ (l : List Held). next_token c.args.from.now c.args.limit (live_in c.args.range.now l)) shown

pub returns-else-has_live-clause-next : goal.returns-else-has_live-clause-next
returns-else-has_live-clause-next c =
    let fields = c.self.inside in
    let shown : joined c.self.invariant.0 ≡ c.args.self.now.items =
    sym (table_items fields.per_bucket fields.heads.items fields.cells.slots c.self.invariant.0 c.self.invariant.1) ∙ ap (λ (s : Shown). s.items) c.self.view_is in
    let items_are = c.new-items.ensures ∙ onward_is fields.per_bucket fields.heads.items fields.cells.slots c.self.invariant.0 c.self.invariant.1
    c.args.from.now.bucket c.from.result (c.from.result * fields.per_bucket) (omega (arith, c.min.ensures, c.from.ensures)) (omega (arith, c.min.ensures, c.from.ensures))
    (λ other from below. omega (arith, c.min.ensures, c.from.ensures)) refl
    c.split_at.result.1.now (c.split_at.ensures.back ∙ ap (drop (c.from.result * fields.per_bucket)) c.as_slice.ensures.value) in
    scan_end fields.per_bucket fields.heads.items fields.cells.slots c.self.invariant.0 c.self.invariant.1
    c.args.from.now.bucket c.from.result (c.from.result * fields.per_bucket) (omega (arith, c.min.ensures, c.from.ensures)) (omega (arith, c.min.ensures, c.from.ensures))
    (λ other from below. omega (arith, c.min.ensures, c.from.ensures)) refl c.args.range.now c.args.from.now c.args.limit refl
    c.push_batch.new.items (c.in-Ok.ensures.rest ∙ ap (λ (l : List Held). rest_at c.args.from.now c.args.limit (live_in c.args.range.now l)) items_are)
    (sym c.has_live.ensures ∙ c.if-has_live.false)
    ∙ ap (λ (l : List Held). next_token c.args.from.now c.args.limit (live_in c.args.range.now l)) shown
