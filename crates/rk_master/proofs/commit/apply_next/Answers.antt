use Rattle.rk_master.proofs.Words.{drop, sym, ap, ◌∙◌, Master, told_by, changed, behind, master_of}
use Rattle.rk_master.proofs.Applying.{behind_changed, applied_quietly, applied_ending}
use Rattle.rk_master.proofs.commit.apply_next.Goals as goal

pub returns-in_default-clause-ok : goal.returns-in_default-clause-ok
returns-in_default-clause-ok c = λ entry at.
    let master : Master = master_of c.args.state.now in
    let quiet = sym (c.in_ok-end.ensures.end entry at) ∙ c.in_default.is in
    behind_changed c.args.work.now (master_of c.apply_item.new.state)
    ∙ ap (λ (m : Master). behind c.args.work.now (changed m)) (c.in_ok-end.ensures.ok entry at)
    ∙ ap (behind c.args.work.now) (applied_quietly master entry quiet)

pub returns-clause-ok : goal.returns-clause-ok
returns-clause-ok c = λ entry at.
    let master : Master = master_of c.args.state.now in
    let first = sym (c.in_ok-end.ensures.end entry at) ∙ c.in-Some.is in
    c.in_ok-end_call.ensures.ok (drop 1 (told_by entry))
    ∙ ap (behind c.args.work.now) (applied_ending master (master_of c.apply_item.new.state) entry c.in-Some.end (c.in_ok-end.ensures.ok entry at) first)
