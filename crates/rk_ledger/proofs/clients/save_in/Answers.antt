use Rattle.std.proofs.Common.{sym, ap, ◌∙◌}
use Rattle.rk_ledger.specs.Clients.{asked_here}
use Rattle.rk_ledger.proofs.Entries.{request_put}
use Rattle.rk_types.proofs.Places.{get_at, insert_at_place, order_at}
use Rattle.rk_ledger.proofs.clients.save_in.Goals as goal

pub returns : goal.returns
returns c =
    let entries = c.args.entries.now in
    let read = c.index-entries-at.result in
    let at = c.place_of-at.ensures in
    record {
      order = order_at c.args.client c.save.new.self entries c.place_of-at.result read c.requires.order at;
      saved =
          ap asked_here (sym (insert_at_place c.args.client c.save.new.self entries c.place_of-at.result read c.requires.order at))
          ∙ request_put entries c.args.client c.save.new.self c.requires.order _ c.args.request
          (get_at c.args.client entries c.place_of-at.result read c.requires.order at) c.save.ensures.last c.save.ensures.request;
    }
