use Rattle.std.proofs.Common.{sym, ◌∙◌, arith}
use Rattle.rk_table.specs.Places.{place_seen}
use Rattle.rk_table.proofs.Found.{gap_found, gap_past, here_found}
use Rattle.rk_table.proofs.search.find.Goals as goal

pub returns-then-at-slots-clause-gap : goal.returns-then-at-slots-clause-gap
returns-then-at-slots-clause-gap c =
    gap_past c.args.table c.args.key.now (place_seen c.new.result) c.args.slots.now c.count_before-at.result c.requires c.new.ensures c.count_before-at.ensures (omega arith)

pub returns-then-is_at-clause-here : goal.returns-then-is_at-clause-here
returns-then-is_at-clause-here c =
    here_found c.args.table c.args.key.now (place_seen c.new.result) c.args.slots.now c.count_before-at.result c.index-slots-at.result c.requires c.new.ensures
    c.count_before-at.ensures (omega (arith, c.if-at-slots.false)) c.index-slots-at.is (sym c.is_at.ensures ∙ c.if-is_at.true)

pub returns-clause-gap : goal.returns-clause-gap
returns-clause-gap c =
    gap_found c.args.table c.args.key.now (place_seen c.new.result) c.args.slots.now c.count_before-at.result c.index-slots-at.result c.requires c.new.ensures
    c.count_before-at.ensures (omega (arith, c.if-at-slots.false)) c.index-slots-at.is (sym c.is_at.ensures ∙ c.if-is_at.false)
