use Rattle.rk_play.proofs.Words.{◌+◌, ◌-◌, ◌^◌, ℕ, map, min, sum, List, sym, ap, ◌∙◌, arith, value_bytes, World, there_read}
use Rattle.rk_play.proofs.Gathered.{gathered_all, gathered_next, sums_grow}
use Rattle.rk_play.proofs.shows.journal_bytes.Goals as goal

abbrev most : ℕ
most = 2 ^ 64 - 1

-- the bytes in one journal, and in several
abbrev look : World → ℕ
look w = value_bytes w.ledger.journal

abbrev gather : List World → ℕ
gather worlds = min (sum (map look worlds)) most

abbrev more : ℕ → ℕ → ℕ
more bytes others = min (bytes + others) most

pub loop-lane-preserved : goal.loop-lane-preserved
loop-lane-preserved g c =
    gathered_next g.R.Replica.segments c.args.lanes.now look gather more (sums_grow look most) c.loop-lane.lane-index c.lane-item.result c.loop-lane.bytes c.saturating_add-bytes.result
    c.loop-lane-test.true (there_read c.args.lanes.now c.loop-lane.lane-index c.lane-item.result c.loop-lane-test.true c.lane-item.is)
    (λ w of. ap (λ (w : World). more c.loop-lane.bytes (look w)) of.is ∙ ap (more c.loop-lane.bytes) (sym c.value_bytes.ensures) ∙ sym c.saturating_add-bytes.ensures)
    c.loop-lane.invariant

pub returns : goal.returns
returns g c =
    gathered_all g.R.Replica.segments c.args.lanes.now look gather more (sums_grow look most) c.loop-lane.lane-index c.loop-lane.bytes (omega (arith, c.loop-lane-test.false)) c.loop-lane.invariant
