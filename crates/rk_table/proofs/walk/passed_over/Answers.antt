use Rattle.std.proofs.Common.{◌≡◌, ◌+◌, ◌≤◌, ℕ, arith, inl, inr, length, drop, sym, ap, ◌∙◌, subst}
use Rattle.std.proofs.lemmas.List.{drop_all}
use Rattle.std.proofs.lemmas.List.Elements.{All-more}
use Rattle.rk_types.specs.declared.held.Held.{Held}
use Rattle.rk_table.specs.Order.{item_bucket}
use Rattle.rk_table.specs.Items.{live_in}
use Rattle.rk_table.specs.Scans.{left}
use Rattle.rk_table.proofs.Walks.{behind_from, left_at, live_more, live_no_more}
use Rattle.rk_table.proofs.walk.passed_over.Goals as goal
use Rattle.rk_table.proofs.walk.passed_over.Goals.{then-is_live_in, else-is_live_in, then-passed-from-via-then-passed-from, then-passed-from-via-else-passed-from+then-bucket-from}

-- as many items are passed over as the token skips, or its bucket is at its end
pub returns-then-passed-from-clause-left : goal.returns-then-passed-from-clause-left
returns-then-passed-from-clause-left c =
    let so_far = c.loop-at.invariant in
    let item : Held = c.index-slots-at.result in
    left_at c.args.range.now c.args.from.now c.args.slots.now c.loop-at.at c.requires.order c.requires.from_there so_far.here (omega arith)
    (elim c.then-passed-from.branch [
      | then-passed-from-via-then-passed-from w ↦ inl (omega arith)
      | then-passed-from-via-else-passed-from+then-bucket-from w ↦
          inr (behind_from c.args.from.now.bucket c.args.slots.now c.loop-at.at item c.requires.order c.loop-at-test.true c.index-slots-at.is
          (let low : c.args.from.now.bucket ≤ item_bucket item =
          subst (λ (x : Held). c.args.from.now.bucket ≤ item_bucket x) (sym c.index-slots-at.is) (c.requires.from_there c.loop-at.at item c.loop-at-test.true) in
          omega (arith, w.if-bucket-from.true, w.bucket.ensures)))
    ])

pub loop-at-preserved : goal.loop-at-preserved
loop-at-preserved c =
    let so_far = c.loop-at.invariant in
    let item : Held = c.index-slots-at.result in
    record {
      count = elim c.if-is_live_in.branch [
        | then-is_live_in w ↦ rw w.passed-is (ap (λ (k : ℕ). k + 1) so_far.count ∙ sym (live_more c.args.range.now c.args.slots.now c.loop-at.at item c.loop-at-test.true c.index-slots-at.is (sym c.is_live_in.ensures ∙ w.if-is_live_in.true)))
        | else-is_live_in w ↦ rw w.passed-is (so_far.count ∙ sym (live_no_more c.args.range.now c.args.slots.now c.loop-at.at item c.loop-at-test.true c.index-slots-at.is (sym c.is_live_in.ensures ∙ w.if-is_live_in.false)))
      ];
      few = elim c.if-is_live_in.branch [ then-is_live_in w ↦ omega (arith, c.if-passed-from.false) | else-is_live_in w ↦ omega arith ];
      here =
          All-more (λ other. item_bucket other ≡ c.args.from.now.bucket) c.args.slots.now c.loop-at.at item c.loop-at-test.true so_far.here
          (subst (λ (x : Held). item_bucket x ≡ c.args.from.now.bucket) c.index-slots-at.is (sym c.bucket.ensures ∙ c.if-bucket-from.false));
    }

-- all are in the token's bucket
pub returns-clause-left : goal.returns-clause-left
returns-clause-left c =
    let so_far = c.loop-at.invariant in
    let at : c.loop-at.at ≡ length c.args.slots.now = omega arith in
    subst (λ (k : ℕ). live_in c.args.range.now (drop k c.args.slots.now) ≡ left c.args.from.now (live_in c.args.range.now c.args.slots.now)) at
    (left_at c.args.range.now c.args.from.now c.args.slots.now c.loop-at.at c.requires.order c.requires.from_there so_far.here (omega arith)
    (inr (λ k d h. absurd (omega (arith, ap length (drop_all c.loop-at.at c.args.slots.now (omega arith)))))))
