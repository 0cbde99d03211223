use Rattle.std.proofs.Common.{length, subst, ap, ◌∙◌}
use Rattle.rk_ledger.specs.declared.call_index.Noted.{Noted}
use Rattle.rk_ledger.specs.Noted.{IsNoted, without_record}
use Rattle.rk_ledger.proofs.Noted.{index_popped}
use Rattle.rk_ledger.proofs.journal.forget.Goals as goal

pub returns : goal.returns
returns c =
    let call = c.args.placed.now.call in
    let noted = c.without_record-fewer.ensures ∙ ap (λ (note : Noted). without_record note c.args.placed.now (length c.args.records.now)) c.get-noted.ensures in
    index_popped c.args.records.now c.args.placed.now c.args.index.now c.change.new.self c.requires
    (subst (IsNoted c.args.index.now c.change.new.self call.client call.seq) noted c.change.ensures)
