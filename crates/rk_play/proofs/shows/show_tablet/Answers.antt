use Rattle.rk_play.proofs.Words.{◌++◌, Bool, Bor, List, not, map, ap, ◌∙◌, Phase, code_where, Unknown}
use Rattle.rk_lines.specs.Tablets.{tablet_lines}
use Rattle.rk_play.specs.Shows.{phases_of, where_code, where_text}
use Rattle.rk_play.proofs.Shown.{in_lanes, shown_written}
use Rattle.rk_play.proofs.shows.show_tablet.Goals as goal

-- the phases that references lead to
abbrev behind : List (Bor Phase) → List Phase
behind phases = map (λ (phase : Bor Phase). phase.now) phases

pub returns-clause-ok : goal.returns-clause-ok
returns-clause-ok g c =
    let phases : List (Bor Phase) = c.in_ok-phases.phases.items in
    shown_written g.R.Replica.segments g.R.Replica.faults c.args.cluster.now (λ cluster. where_code cluster c.args.tablet) (λ cluster. where_text cluster c.args.tablet)
    (tablet_lines c.args.tablet (behind phases)) c.args.text.now.items c.push_tablet.new.text.items
    (λ cluster is. ap (λ (there : Bool). code_where (not there) Unknown) (c.is_tablet.ensures cluster is ∙ c.if-not-is_tablet.false))
    (λ cluster is. ap (tablet_lines c.args.tablet)
    (in_lanes g.R.Replica.segments c.args.cluster.now c.lanes.result.now (λ cluster. phases_of cluster c.args.tablet) (behind phases) c.lanes.ensures c.in_ok-phases.ensures cluster is))
    (c.in_ok-push_tablet.ensures ∙ ap (λ (all : List (Bor Phase)). c.args.text.now.items ++ tablet_lines c.args.tablet (behind all)) c.as_slice.ensures.value)
