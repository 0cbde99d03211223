use Rattle.rk_play.proofs.Words.{◌++◌, Bor, ℕ, flat_map, map, List, Option, sym, ap, ◌∙◌, append-nil, arith, map_push, row_of, Phase, World}
use Rattle.rk_play.proofs.Words.{there_read, phase_of}
use Rattle.std.specs.Option.{option_copied}
use Rattle.rk_tablet_map.specs.declared.row.Row.{Row}
use Rattle.rk_play.proofs.Gathered.{gathered_all, gathered_next, lists_grow}
use Rattle.rk_play.proofs.shows.phases_of.Goals as goal
use Rattle.rk_play.proofs.shows.phases_of.Goals.{in-Some+in_ok-push, in_default}

-- the phase of a tablet in a lane, and the phases that references lead to
abbrev look : ℕ → World → List Phase
look tablet w = phase_of (row_of w.coordinator.rows tablet)

abbrev behind : List (Bor Phase) → List Phase
behind phases = map (λ (phase : Bor Phase). phase.now) phases

abbrev more : List Phase → List Phase → List Phase
more all others = all ++ others

pub loop-lane-preserved : goal.loop-lane-preserved
loop-lane-preserved g c =
    let so_far : List Phase = behind c.loop-lane.phases.items in
    gathered_next g.R.Replica.segments c.args.lanes.now (look c.args.tablet) (flat_map (look c.args.tablet)) more (lists_grow (look c.args.tablet))
    c.loop-lane.lane-index c.lane-item.result so_far (behind c.match-row_at.phases.items)
    c.loop-lane-test.true (there_read c.args.lanes.now c.loop-lane.lane-index c.lane-item.result c.loop-lane-test.true c.lane-item.is)
    (elim c.match-row_at.branch [
      | in-Some+in_ok-push w ↦
          λ v of.
          let grown = ap behind w.in_ok-push.ensures.items ∙ map_push (λ (phase : Bor Phase). phase.now) c.loop-lane.phases.items _ in
          ap (λ (row : Option Row). so_far ++ phase_of row) (c.row_at.ensures.row v of ∙ ap (λ (row : Option (Bor Row)). option_copied row) w.in-Some.is)
          ∙ sym grown ∙ ap (λ all. behind all.items) (sym w.phases-is)
      | in_default w ↦
          λ v of. ap (λ (row : Option Row). so_far ++ phase_of row) (c.row_at.ensures.row v of ∙ ap (λ (row : Option (Bor Row)). option_copied row) w.in_default.is) ∙ append-nil so_far ∙ ap (λ all. behind all.items) (sym w.phases-is)
    ])
    c.loop-lane.invariant

pub returns : goal.returns
returns g c =
    gathered_all g.R.Replica.segments c.args.lanes.now (look c.args.tablet) (flat_map (look c.args.tablet)) more (lists_grow (look c.args.tablet)) c.loop-lane.lane-index
    (behind c.loop-lane.phases.items) (omega (arith, c.loop-lane-test.false)) c.loop-lane.invariant
