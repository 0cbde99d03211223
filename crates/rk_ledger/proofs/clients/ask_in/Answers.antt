use Rattle.std.proofs.Common.{sym, ap, ◌∙◌}
use Rattle.rk_ledger.specs.Clients.{asked_here}
use Rattle.rk_ledger.proofs.Entries.{asked_put, request_in}
use Rattle.rk_types.proofs.Places.{get_at, insert_at_place, order_at}
use Rattle.rk_ledger.proofs.clients.ask_in.Goals as goal

pub returns : goal.returns
returns c =
    let entries = c.args.entries.now in
    let read = c.index-entries-at.result in
    let at = c.place_of-at.ensures in
    record {
      order = order_at c.args.client c.ask.new.self entries c.place_of-at.result read c.requires.order at;
      asked =
          ap asked_here (sym (insert_at_place c.args.client c.ask.new.self entries c.place_of-at.result read c.requires.order at))
          ∙ asked_put entries c.args.client c.ask.new.self c.requires.order c.args.last c.ask.ensures.last
          (c.ask.ensures.request ∙ sym (ap request_in (get_at c.args.client entries c.place_of-at.result read c.requires.order at)));
    }
