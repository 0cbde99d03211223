use Rattle.std.proofs.Common.{sym, ap, ◌∙◌}
use Rattle.rk_ledger.proofs.Entries.{last_call_in, last_call_is}
use Rattle.rk_types.proofs.Places.{get_at, get_between}
use Rattle.rk_ledger.proofs.clients.last_call_of.Goals as goal

pub returns-in-Ok : goal.returns-in-Ok
returns-in-Ok c =
    c.as_ref.ensures.value
    ∙ sym (last_call_is c.args.entries.now c.args.client
    ∙ ap last_call_in (get_at c.args.client c.args.entries.now c.in-Ok.at c.index-entries-at.result c.requires c.in-Ok.ensures.found))

pub returns-in-Err : goal.returns-in-Err
returns-in-Err c =
    sym (last_call_is c.args.entries.now c.args.client ∙ ap last_call_in (get_between c.args.client c.args.entries.now c.in-Err.field-0 c.in-Err.ensures.absent))
