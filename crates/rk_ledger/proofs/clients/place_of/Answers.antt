use Rattle.std.proofs.Common.{sym, ◌∙◌}
use Rattle.rk_ledger.proofs.Entries.{same_added}
use Rattle.rk_types.proofs.Places.{is_found}
use Rattle.rk_ledger.proofs.clients.place_of.Goals as goal

pub unwrap-requires : goal.unwrap-requires
unwrap-requires c =
    is_found c.args.entries.now c.args.client c.search.result
    (sym (same_added c.args.entries.now c.args.client) ∙ c.requires.there) c.search.ensures.absent
