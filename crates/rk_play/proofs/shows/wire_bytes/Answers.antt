use Rattle.rk_play.proofs.Words.{◌≡◌, ◌+◌, ◌-◌, ◌^◌, ℕ, map, min, sum, List, refl, sym, ap, ◌∙◌, arith, bytes_on, World, there_read}
use Rattle.rk_message.specs.Wire.{Traffic}
use Rattle.rk_play.proofs.Gathered.{gathered_all, gathered_next, seen_running, sums_grow}
use Rattle.rk_play.proofs.shows.wire_bytes.Goals as goal

abbrev most : ℕ
most = 2 ^ 64 - 1

-- the bytes on one wire, and on several
abbrev look : World → ℕ
look w = bytes_on w.wire

abbrev gather : List World → ℕ
gather worlds = min (sum (map look worlds)) most

abbrev more : ℕ → ℕ → ℕ
more bytes others = min (bytes + others) most

-- it is the same to add numbers that are kept below the limit
kept : (bytes others : ℕ) → more bytes others ≡ more bytes (min others most)
kept bytes others = omega arith

pub loop-lane-preserved : goal.loop-lane-preserved
loop-lane-preserved g c =
    gathered_next g.R.Replica.segments c.args.lanes.now look gather more (sums_grow look most) c.loop-lane.lane-index c.lane-item.result c.loop-lane.bytes c.saturating_add-bytes.result
    c.loop-lane-test.true (there_read c.args.lanes.now c.loop-lane.lane-index c.lane-item.result c.loop-lane-test.true c.lane-item.is)
    (λ w of.
    kept c.loop-lane.bytes (look w)
    ∙ ap (λ (wire : Traffic). more c.loop-lane.bytes (min (bytes_on wire) most))
    (seen_running g.R.Replica.segments c.lane-item.result (λ w. w.wire) c.wire.result.now (λ running stored. refl) c.wire.ensures w of)
    ∙ ap (more c.loop-lane.bytes) (sym c.bytes.ensures) ∙ sym c.saturating_add-bytes.ensures)
    c.loop-lane.invariant

pub returns : goal.returns
returns g c =
    gathered_all g.R.Replica.segments c.args.lanes.now look gather more (sums_grow look most) c.loop-lane.lane-index c.loop-lane.bytes (omega (arith, c.loop-lane-test.false)) c.loop-lane.invariant
