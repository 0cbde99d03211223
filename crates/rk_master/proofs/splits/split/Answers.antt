use Rattle.rk_master.proofs.Words.{◌≡◌, ℕ, true, false, List, sym, ap, subst, ◌∙◌, insert, Master, Tablet, no_tablet, with_handover}
use Rattle.rk_master.proofs.Words.{without_merged, IsClosable, tablet_in, tablet_of, tablets_of, IsAt, Row, master_of}
use Rattle.rk_world.specs.Ranges.{range_below, range_from}
use Rattle.rk_world.specs.Splits.{with_half}
use Rattle.rk_master.proofs.Closable.{closable_else}
use Rattle.rk_master.proofs.Halves.{nothing_parts, parts_some, split_is}
use Rattle.rk_master.proofs.Handovers.{none_lent, tablet_read}
use Rattle.rk_master.proofs.splits.split.Goals as goal

pub returns-in_default-clause-ok : goal.returns-in_default-clause-ok
returns-in_default-clause-ok c =
    let rows : List Row = c.args.state.now.tablets.items in
    split_is (master_of c.args.state.now) c.args.tablet c.args.at c.args.new c.args.term no_tablet false
    (none_lent rows c.as_slice.result.now c.args.tablet c.in_default.field-0 c.as_slice.ensures.value c.in_default.ensures.absent) (nothing_parts c.args.at)

pub returns-then-not-has_parts-clause-ok : goal.returns-then-not-has_parts-clause-ok
returns-then-not-has_parts-clause-ok c =
    let rows : List Row = c.args.state.now.tablets.items in
    let read : Row = c.index.result.now in
    let found = subst (λ (xs : List Row). IsAt c.args.tablet xs c.in-Ok.place) c.as_slice.ensures.value c.in-Ok.ensures.found in
    split_is (master_of c.args.state.now) c.args.tablet c.args.at c.args.new c.args.term (tablet_of read.1) false
    (tablet_read rows c.args.tablet c.in-Ok.place read c.requires.tablets.order found c.index.ensures) (sym c.has_parts.ensures ∙ c.if-not-has_parts.true)

pub range_below-requires : goal.range_below-requires
range_below-requires c = parts_some c.index.result.now.1.handover.range c.args.at (sym c.has_parts.ensures ∙ c.if-not-has_parts.false)

pub put-requires-clause-closable : goal.put-requires-clause-closable
put-requires-clause-closable c =
    let half : Tablet = with_half (tablet_of c.index.result.now.1) c.range_from.result c.args.term in
    subst IsClosable (sym c.in_ok-upper.ensures) (closable_else half (λ is. absurd (cc is)) (λ is. absurd (cc is)))

pub returns-clause-ok : goal.returns-clause-ok
returns-clause-ok c =
    let master : Master = master_of c.args.state.now in
    let rows : List Row = c.args.state.now.tablets.items in
    let read : Row = c.index.result.now in
    let it : Tablet = tablet_of read.1 in
    let at : ℕ = c.args.at in
    let found = subst (λ (xs : List Row). IsAt c.args.tablet xs c.in-Ok.place) c.as_slice.ensures.value c.in-Ok.ensures.found in
    let there = tablet_read rows c.args.tablet c.in-Ok.place read c.requires.tablets.order found c.index.ensures in
    let upper : tablet_of c.in_ok-upper.upper ≡ with_half it (range_from it.handover.range at) c.args.term =
    c.in_ok-upper.ensures ∙ ap (λ range. with_half it range c.args.term) c.range_from.ensures in
    let lower : without_merged (with_handover (tablet_in rows c.args.tablet) c.half_of-lower.result) ≡ with_half it (range_below it.handover.range at) c.args.term =
    (λ i. without_merged (with_handover (there i) (c.half_of-lower.ensures i)))
    ∙ ap (λ range. with_half it range c.args.term) c.range_below.ensures in
    let below : tablets_of c.hand.new.tablets.items ≡ insert (tablets_of rows) c.args.tablet (with_half it (range_below it.handover.range at) c.args.term) =
    c.in_ok-hand.ensures.ok ∙ ap (insert (tablets_of rows) c.args.tablet) lower in
    (λ i. record master { tablets = (c.in_ok-put.ensures.ok ∙ (λ j. insert (below j) c.args.new (upper j))) i })
    ∙ split_is master c.args.tablet at c.args.new c.args.term it true there (sym c.has_parts.ensures ∙ c.if-not-has_parts.false)
