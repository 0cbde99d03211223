use Rattle.rk_play.proofs.Words.{◌++◌, ℕ, List, flat_map, arith, World, err_from_is_err_and, row_of, owner_in, there_read, items_of}
use Rattle.rk_play.proofs.Words.{lives_owner}
use Rattle.rk_types.specs.declared.held.Held.{Held}
use Rattle.rk_cluster.proofs.Telling.{all_but, all_next, all_past}
use Rattle.rk_play.proofs.Gathered.{gathered_all, gathered_next, lists_grow}
use Rattle.rk_play.proofs.Shown.{refused_weaker}
use Rattle.rk_play.proofs.shows.records_of.Goals as goal

pub returns-in_err-add_records-clause-err : goal.returns-in_err-add_records-clause-err
returns-in_err-add_records-clause-err g c =
    let lost = err_from_is_err_and c.from_residual.result c.from_residual.ensures.1 in
    rw (lost.1, lost.2)
    (refused_weaker _ _ c.in_err-add_records.field-0.0
    (λ code why. (
      why.0,
      all_but g.R.Replica.segments c.args.lanes.now (λ w. lives_owner w (owner_in w c.args.tablet)) c.loop-lane.lane-index c.lane-item.result c.loop-lane-test.true
          (there_read c.args.lanes.now c.loop-lane.lane-index c.lane-item.result c.loop-lane-test.true c.lane-item.is) why.1,
    ))
    c.in_err-add_records.ensures.err)

-- the records of a tablet in a lane, and whether a master that lives owns it there
abbrev look : ℕ → World → List Held
look tablet w = items_of w (row_of w.coordinator.rows tablet)

abbrev more : List Held → List Held → List Held
more all others = all ++ others

pub loop-lane-preserved : goal.loop-lane-preserved
loop-lane-preserved g c =
    let there = there_read c.args.lanes.now c.loop-lane.lane-index c.lane-item.result c.loop-lane-test.true c.lane-item.is in (
      gathered_next g.R.Replica.segments c.args.lanes.now (look c.args.tablet) (flat_map (look c.args.tablet)) more (lists_grow (look c.args.tablet))
          c.loop-lane.lane-index c.lane-item.result
          c.loop-lane.items.items c.add_records.new.into.items c.loop-lane-test.true there c.in_ok-add_records.ensures.items c.loop-lane.invariant.0,
      all_next g.R.Replica.segments c.args.lanes.now (λ w. lives_owner w (owner_in w c.args.tablet)) c.loop-lane.lane-index c.lane-item.result c.loop-lane-test.true
          there c.in_ok-add_records.ensures.owned c.loop-lane.invariant.1,
    )

pub returns-clause-items : goal.returns-clause-items
returns-clause-items g c =
    gathered_all g.R.Replica.segments c.args.lanes.now (look c.args.tablet) (flat_map (look c.args.tablet)) more (lists_grow (look c.args.tablet)) c.loop-lane.lane-index
    c.loop-lane.items.items (omega (arith, c.loop-lane-test.false)) c.loop-lane.invariant.0

pub returns-clause-owned : goal.returns-clause-owned
returns-clause-owned g c =
    all_past g.R.Replica.segments c.args.lanes.now (λ w. lives_owner w (owner_in w c.args.tablet)) c.loop-lane.lane-index (omega (arith, c.loop-lane-test.false)) c.loop-lane.invariant.1
