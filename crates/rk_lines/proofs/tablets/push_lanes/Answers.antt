-- A line comes behind those of the lanes before.
use Rattle.std.proofs.Common.{◌++◌, List, map, take, sym, ap, ◌∙◌}
use Rattle.std.proofs.lemmas.List.{append_assoc}
use denote.Ref.{Bor}
use Rattle.rk_tablet_map.specs.declared.phase.Phase.{Phase}
use Rattle.rk_lines.specs.Tablets.{lane_line, lane_lines}
use Rattle.rk_lines.proofs.LaneLines.{lane_lines-more}
use Rattle.rk_lines.proofs.tablets.push_lanes.Goals as goal

pub loop-lane-preserved : goal.loop-lane-preserved
loop-lane-preserved c =
    let old = c.args.text.now.items in
    let lane = c.loop-lane.lane in
    let phases : List (Bor Phase) = c.args.phases.now in
    let before = lane_lines c.args.tablet 0 (map (λ (phase : Bor Phase). phase.now) (take lane phases)) in
    let last = lane_line c.args.tablet lane c.index-phases-lane.result.now in
    let here = ap (λ (phase : Bor Phase). lane_line c.args.tablet lane phase.now) c.index-phases-lane.is in
    c.in_ok-push_lane.ensures
    ∙ ap (λ text. text ++ last) c.loop-lane.invariant
    ∙ append_assoc old before last
    ∙ ap (λ line. old ++ (before ++ line)) here
    ∙ ap (λ text. old ++ text) (sym (lane_lines-more c.args.tablet lane phases c.index-phases-lane.result c.loop-lane-test.true))
