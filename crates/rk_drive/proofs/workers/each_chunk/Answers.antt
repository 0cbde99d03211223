use Rattle.std.proofs.Common.{◌≡◌, rules, sym, ap, ◌∙◌}
use Rattle.rk_drive.specs.Workers.{clients_in}
use Rattle.rk_drive.proofs.Passes.{all_same, client_of, same_client}
use Rattle.rk_drive.proofs.workers.each_chunk.Goals as goal

pub returns-clause-clients : goal.returns-clause-clients
returns-clause-clients g c =
    all_same c.args.passes.now c.for_each_chunk_mut.new.s (search rules)
    (λ at d inside.
    let it = (c.for_each_chunk_mut.ensures.by_index at d inside).1 in
    let same : clients_in it.after_call.now ≡ clients_in it.argument.now = search rules in
    ap client_of (sym it.new_element) ∙ same_client it.after_call.now it.argument.now it.offset d same ∙ ap client_of it.old_element)
