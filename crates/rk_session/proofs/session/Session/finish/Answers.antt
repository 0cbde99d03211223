use Rattle.std.proofs.Common.{◌≡◌, max, true, is_ok, Some, [], ◌∷◌, ◌++◌, sym, ap, ◌∙◌}
use Rattle.rk_types.specs.declared.call.Call.{Call}
use Rattle.rk_types.specs.declared.history.Receipt.{Receipt}
use Rattle.rk_world.specs.Client.{Session, receipt_of}
use Rattle.rk_session.specs.Fields.{session_of}
use Rattle.rk_session.proofs.Finishing.{finished}
use Rattle.rk_session.proofs.session.Session.finish.Goals as goal

pub returns : goal.returns
returns c call reply asked place stamp =
    let held : c.self.inside.outstanding ≡ Some c.in-Some.call = sym c.take.ensures.value ∙ c.in-Some.is in
    let had : c.self.inside.outstanding ≡ Some call = ap (λ (session : Session). session.outstanding) c.self.view_is ∙ asked in
    let same : c.in-Some.call ≡ call = cc (held, had) in
    let stored : is_ok c.push.result ≡ true = c.push.ensures.succeeds (c.self.invariant.room c.in-Some.call held).receipt in
    let receipt : c.receipt_of-receipt.result ≡ receipt_of call reply c.args.outcome =
    c.receipt_of-receipt.ensures reply place stamp ∙ ap (λ (asked : Call). receipt_of asked reply c.args.outcome) same in
    let receipts : c.push.new.self.items ≡ c.self.inside.receipts.items ++ receipt_of call reply c.args.outcome ∷ [] =
    (rw stored at c.push.ensures.items) ∙ ap (λ (r : Receipt). c.self.inside.receipts.items ++ r ∷ []) receipt in
    finished (session_of c.self.inside) c.args.self.now call reply c.args.outcome c.push.new.self.items c.take.new.self c.max-self-inside.result c.self.view_is
    receipts c.take.ensures.after (c.max-self-inside.ensures ∙ ap (max c.self.inside.seen) (sym stamp))
