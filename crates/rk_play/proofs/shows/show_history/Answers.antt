use Rattle.rk_play.proofs.Words.{◌++◌, Bor, None, List, refl, sym, ap, subst, ◌∙◌, Placed, journals_of, Cluster, LaneState, IsOf, state_of}
use Rattle.rk_model.specs.Merged.{merged}
use Rattle.rk_model.specs.declared.line.Line.{Line}
use Rattle.rk_lines.specs.History.{history_lines}
use Rattle.rk_play.specs.Shows.{history_text}
use Rattle.rk_play.proofs.Shown.{shown_written}
use Rattle.rk_play.proofs.shows.show_history.Goals as goal

pub returns-clause-ok : goal.returns-clause-ok
returns-clause-ok g c =
    let sessions = c.args.cluster.now.sessions in
    let of = λ (cluster : Cluster) (is : IsOf g.R.Replica.segments c.args.cluster.now cluster).
    subst (λ (it : List (LaneState g.row.R.Denot)). IsOf g.R.Replica.segments (state_of it sessions) cluster) (sym c.lanes.ensures) is in
    let history = c.in_ok-history.history.items in
    shown_written g.R.Replica.segments g.R.Replica.faults c.args.cluster.now (λ cluster. None) history_text (history_lines history) c.args.text.now.items c.push_history.new.text.items
    (λ cluster is. refl)
    (λ cluster is.
    ap (λ (journals : List (List Placed)). history_lines (merged journals)) (c.in_ok-journals.ensures.journals sessions cluster (of cluster is))
    ∙ ap (λ (lent : List (Bor (List Placed))). history_lines (merged (journals_of lent))) (sym c.as_slice.ensures.value)
    ∙ ap history_lines (sym c.in_ok-history.ensures))
    (c.in_ok-push_history.ensures ∙ ap (λ (lines : List Line). c.args.text.now.items ++ history_lines lines) c.as_slice-2.ensures.value)
