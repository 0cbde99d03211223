use Rattle.rk_lane.proofs.Words.{ℕ, max, not, List, fold, length, sym, ap, subst, ◌∙◌, Coordinator, notice_one, greatest, terms_of}
use Rattle.rk_lane.proofs.Words.{MayRiseBy, Parts}
use Rattle.rk_lane.proofs.Noticed.{noticed, order_may_rise}
use Rattle.rk_lane.proofs.notices.notice.Goals as goal

pub notice_all-requires : goal.notice_all-requires
notice_all-requires c =
    let old : Parts = c.args.parts.now in
    subst (λ (list : List ℕ). MayRiseBy (length list) old.coordinator) (sym c.as_slice.ensures.value)
    (order_may_rise old c.in-Ok.order.items c.args.master c.requires.kept c.in-Ok.ensures)

pub returns-clause-ok : goal.returns-clause-ok
returns-clause-ok c =
    let old : Parts = c.args.parts.now in
    noticed old c.raise.new.self c.args.master c.in-Ok.order.items c.quiet.result c.requires
    (ap not (sym c.has_crashed.ensures ∙ c.if-not-has_crashed.false))
    c.in-Ok.ensures
    (c.raise.ensures
    ∙ ap (λ (term : ℕ). record old { coordinator = c.notice_all.new.coordinator; top = max old.top term }) c.greatest_term-term.ensures
    ∙ ap (λ (coordinator : Coordinator). record old { coordinator = coordinator; top = max old.top (greatest (terms_of coordinator.rows)) })
    (c.in-Ok-notice_all.ensures ∙ ap (fold notice_one old.coordinator) c.as_slice.ensures.value))
    c.quiet.ensures
