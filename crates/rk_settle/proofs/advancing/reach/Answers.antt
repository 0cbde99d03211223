use Rattle.std.proofs.lemmas.Result.{on_ok_weaker}
use Rattle.rk_settle.proofs.advancing.reach.Goals as goal

pub returns-in-Opening-clause-lawful : goal.returns-in-Opening-clause-lawful
returns-in-Opening-clause-lawful g c =
    let named = rw c.in-Opening.is at c.in-Some.ensures.named in
    on_ok_weaker c.push_reach.result (λ lawful there before. lawful c.args.at.now.masters there named.0 named.1 before) c.push_reach.ensures.lawful

pub returns-in-Moving-clause-lawful : goal.returns-in-Moving-clause-lawful
returns-in-Moving-clause-lawful g c =
    let named = rw c.in-Moving.is at c.in-Some.ensures.named in
    on_ok_weaker c.push_reach-in-Moving.result (λ lawful there before. lawful c.args.at.now.masters there named.0 named.1 before) c.push_reach-in-Moving.ensures.lawful
