use Rattle.rk_bucket_table.proofs.Words.{sym, ◌∙◌, comes_before, place_seen}
use Rattle.rk_bucket_table.proofs.Seeking.{less_left, passed_more, passed_none, sought_at_end, sought_here}
use Rattle.rk_bucket_table.proofs.seek.seek.Goals as goal

pub chain-init : goal.chain-init
chain-init c = passed_none c.args.cells.now.slots c.args.head (comes_before (place_seen c.args.place.now)) c.requires.chain

pub chain-smaller : goal.chain-smaller
chain-smaller c =
    less_left c.args.cells.now.slots c.args.head (comes_before (place_seen c.args.place.now)) c.requires.free c.chain.before c.chain.at c.chain.invariant
    c.in-Some.cell.now c.in-Some.ensures

pub chain-preserved : goal.chain-preserved
chain-preserved c =
    passed_more c.args.cells.now.slots c.args.head (comes_before (place_seen c.args.place.now)) c.requires.free c.chain.before c.chain.at c.chain.invariant
    c.in-Some.cell.now c.in-Some.ensures (sym c.comes_before.ensures ∙ c.if-not-comes_before.false)

pub returns-then-not-comes_before : goal.returns-then-not-comes_before
returns-then-not-comes_before c =
    sought_here c.args.cells.now.slots c.args.head (comes_before (place_seen c.args.place.now)) c.requires.free c.chain.before c.chain.at c.chain.invariant
    c.in-Some.cell.now c.in-Some.ensures (sym c.comes_before.ensures ∙ c.if-not-comes_before.true)

pub returns-in_default : goal.returns-in_default
returns-in_default c =
    sought_at_end c.args.cells.now.slots c.args.head (comes_before (place_seen c.args.place.now)) c.requires.free c.chain.before c.chain.at c.chain.invariant
    c.in_default.ensures
