use Rattle.std.proofs.Common.{Bool, cond, Err, Ok, sym, ap, ◌∙◌, subst}
use Rattle.rk_types.specs.NumberMap.{IsInOrder, NumberMap}
use Rattle.rk_ledger.specs.declared.asked.Asked.{Asked}
use Rattle.rk_ledger.specs.Clients.{asked_here, with_added}
use Rattle.rk_types.specs.Places.{IsAt, IsBetween}
use Rattle.rk_ledger.proofs.Entries.{added_put, same_added}
use Rattle.rk_types.proofs.Places.{get_between, insert_between, is_there, order_between}
use Rattle.rk_ledger.proofs.clients.add_to.Goals as goal

pub returns : goal.returns
returns c =
    let entries : NumberMap Asked = c.args.entries.now.items in
    let client = c.args.client in
    let between : IsBetween client entries c.in-Err.at =
    subst (λ (xs : NumberMap Asked). IsBetween client xs c.in-Err.at) c.as_slice.ensures.value c.in-Err.ensures.absent in
    let none = same_added entries client ∙ sym (is_there entries client (Err c.in-Err.at) c.requires tt between) in
    record {
      order = subst IsInOrder (sym c.in_ok-insert.ensures.items) (order_between client c.nothing.result entries c.in-Err.at c.requires between);
      ok =
          ap asked_here (c.in_ok-insert.ensures.items ∙ sym (insert_between client c.nothing.result entries c.in-Err.at between))
          ∙ added_put entries client c.nothing.result c.requires (get_between client entries c.in-Err.at between) c.nothing.ensures.last c.nothing.ensures.request
          ∙ sym (ap (λ (b : Bool). cond b (asked_here entries) (with_added (asked_here entries) client)) none);
      err = tt;
    }

pub returns-in_default-clause-ok : goal.returns-in_default-clause-ok
returns-in_default-clause-ok c =
    let entries : NumberMap Asked = c.args.entries.now.items in
    let client = c.args.client in
    let at : IsAt client entries c.in_default.field-0 =
    subst (λ (xs : NumberMap Asked). IsAt client xs c.in_default.field-0) c.as_slice.ensures.value c.in_default.ensures.found in
    let there = same_added entries client ∙ sym (is_there entries client (Ok c.in_default.field-0) c.requires at tt) in
    sym (ap (λ (b : Bool). cond b (asked_here entries) (with_added (asked_here entries) client)) there)
