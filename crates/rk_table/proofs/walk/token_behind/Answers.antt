use Rattle.std.proofs.Common.{◌≡◌, sym, subst, true}
use Rattle.rk_types.specs.declared.held.Held.{Held}
use Rattle.rk_table.specs.Items.{is_live_in}
use Rattle.rk_table.proofs.Walks.{token_behind_at}
use Rattle.rk_table.proofs.walk.token_behind.Goals as goal

pub returns : goal.returns
returns c =
    let item : Held = c.index-slots-end.result in
    let live : is_live_in c.args.range.now item ≡ true =
    subst (λ (x : Held). is_live_in c.args.range.now x ≡ true) (sym c.index-slots-end.is) (c.requires.last item) in
    token_behind_at c.args.range.now c.args.slots.now c.args.end c.count_before_bucket-start.result c.bucket-bucket.result c.count_live.result item
    c.requires.order c.requires.some c.requires.within c.index-slots-end.is live c.bucket-bucket.ensures c.count_before_bucket-start.ensures c.count_live.ensures
