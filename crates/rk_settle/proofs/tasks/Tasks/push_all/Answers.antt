use Rattle.std.proofs.Common.{◌++◌, ℕ, List, Ok, reverse, ap, ◌∙◌}
use Rattle.std.proofs.lemmas.Iterator.Adapters.{YieldsList-from_rev_slice, items_from_extend}
use Rattle.std.proofs.lemmas.Iterator.Consumers.{YieldsList-from_copied}
use Rattle.std.proofs.lemmas.List.{reverse-append, reverse-reverse}
use Rattle.rk_settle.specs.declared.task.Task.{Task}
use Rattle.rk_settle.proofs.tasks.Tasks.push_all.Goals as goal

pub returns : goal.returns
returns c =
    let old = c.make_room.new.stack.items in
    let all = c.args.tasks.now in
    let put = items_from_extend {E = ℕ} (Ok tt) c.in_ok-extend.ensures.ran (YieldsList-from_copied (YieldsList-from_rev_slice all (cc))) in
    ap reverse put.0
    ∙ reverse-append old (reverse all)
    ∙ ap (λ (first : List Task). first ++ reverse old) (reverse-reverse all)
    ∙ ap (λ (rest : List Task). all ++ rest) (ap reverse c.in_ok-make_room.ensures ∙ c.self.view_is)
