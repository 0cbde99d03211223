use Rattle.std.proofs.Common.{length, subst, ap, ◌∙◌}
use Rattle.std.proofs.lemmas.Result.{on_err_weaker, on_ok_weaker}
use Rattle.rk_ledger.specs.declared.call_index.Noted.{Noted}
use Rattle.rk_ledger.specs.Noted.{IsNoted, with_record}
use Rattle.rk_ledger.proofs.Noted.{index_pushed, index_same}
use Rattle.rk_ledger.proofs.journal.note.Goals as goal

pub returns-clause-ok : goal.returns-clause-ok
returns-clause-ok c =
    let call = c.args.placed.now.call in
    let noted = c.with_record-more.ensures ∙ ap (λ (note : Noted). with_record note c.args.placed.now (length c.args.records.now)) c.get-noted.ensures in
    on_ok_weaker c.insert.result
    (λ now. index_pushed c.args.records.now c.args.placed.now c.args.index.now c.insert.new.self c.requires.index
    (subst (IsNoted c.args.index.now c.insert.new.self call.client call.seq) noted now))
    c.insert.ensures.ok

pub returns-clause-err : goal.returns-clause-err
returns-clause-err c =
    on_err_weaker c.insert.result (index_same c.args.records.now c.args.index.now c.insert.new.self c.requires.index) c.insert.ensures.err
