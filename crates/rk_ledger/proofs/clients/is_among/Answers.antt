use Rattle.std.proofs.Common.{sym, ◌∙◌}
use Rattle.rk_ledger.proofs.Entries.{same_added}
use Rattle.rk_types.proofs.Places.{is_there}
use Rattle.rk_ledger.proofs.clients.is_among.Goals as goal

pub returns : goal.returns
returns c =
    c.is_ok.ensures.value
    ∙ is_there c.args.entries.now c.args.client c.search.result c.requires c.search.ensures.found c.search.ensures.absent
    ∙ sym (same_added c.args.entries.now c.args.client)
