use Rattle.std.proofs.Common.{rules, ◌≡◌, Bool, not, filter, Some, refl, ap, ◌∙◌}
use Rattle.std.proofs.lemmas.Fn.{filter_same}
use Rattle.rk_world.specs.declared.work.Mark.{Mark}
use Rattle.rk_world.specs.Ledger.{Ledger, with_ends, with_rebuilt}
use Rattle.rk_world.specs.Marks.{is_mark_of}
use Rattle.rk_ledger.specs.Growing.{with_journal}
use Rattle.rk_ledger.specs.Lane.{ledger_of}
use Rattle.rk_ledger.proofs.Rebuilds.{rebuilt_taken}
use Rattle.rk_ledger.proofs.ledger_lane.LedgerLane.take_rebuilt.Goals as goal

pub returns-clause-ok : goal.returns-clause-ok
returns-clause-ok c =
    let before : Ledger = ledger_of c.self.inside in
    let rebuilt = c.args.rebuilt.now in
    let recorded : with_journal before c.end_all.new.journal ≡ with_ends before rebuilt.ends =
    c.in_ok-end_all.ensures.ok before refl ∙ ap (with_ends before) c.as_slice.ensures in
    let stays : Mark → Bool = λ mark. not (is_mark_of rebuilt.tenure.tablet rebuilt.tenure.term mark) in
    let left : c.retain.new.self.items ≡ filter stays c.self.inside.marks.items =
    filter_same _ _ _ (λ x b f' k. search rules) _ _ c.retain.ensures.filtered in
    rebuilt_taken before c.end_all.new.journal c.retain.new.self.items rebuilt recorded left
    ∙ ap (λ (ledger : Ledger). with_rebuilt ledger (Some rebuilt)) c.self.view_is
