use Rattle.rk_master.proofs.Words.{◌≡◌, List, subst, sym, IfOk, IfOk-weaker, IsFit, tablets_of, worked_of, Row, master_of}
use Rattle.rk_world.specs.declared.choice.Choice.{Choice}
use Rattle.rk_world.specs.declared.choice.Choice.TheVariants.{Reads, Refuses, Wants, Writes}
use Rattle.rk_world.specs.Requests.{chosen}
use Rattle.rk_master.proofs.Places.{there_too}
use Rattle.rk_master.proofs.requests.carry_out.Goals as goal

pub put_off-requires-clause-there : goal.put_off-requires-clause-there
put_off-requires-clause-there c =
    let rows : List Row = c.args.state.now.tablets.items in
    there_too rows c.in-Wants.number (subst (IsFit (tablets_of rows)) c.in-Wants.is c.requires.fit)

pub write-requires-clause-there : goal.write-requires-clause-there
write-requires-clause-there c =
    let rows : List Row = c.args.state.now.tablets.items in
    there_too rows c.in-Writes.number (subst (IsFit (tablets_of rows)) c.in-Writes.is c.requires.fit)

pub returns-in-Reads-clause-ok : goal.returns-in-Reads-clause-ok
returns-in-Reads-clause-ok c =
    let master = master_of c.args.state.now in
    subst (λ (choice : Choice). IfOk c.tell_read.result (λ work. worked_of master work ≡ chosen master c.args.asked c.args.call choice)) (sym c.in-Reads.is)
    (IfOk-weaker c.tell_read.result _ (λ work. worked_of master work ≡ chosen master c.args.asked c.args.call (Reads c.in-Reads.outcome)) (λ work is. is c.args.asked) c.tell_read.ensures)

pub returns-in-Wants-clause-ok : goal.returns-in-Wants-clause-ok
returns-in-Wants-clause-ok c =
    let before = master_of c.args.state.now in
    let after = master_of c.put_off.new.state in
    subst (λ (choice : Choice). IfOk c.put_off.result (λ work. worked_of after work ≡ chosen before c.args.asked c.args.call choice)) (sym c.in-Wants.is)
    (IfOk-weaker c.put_off.result _ (λ work. worked_of after work ≡ chosen before c.args.asked c.args.call (Wants c.in-Wants.number)) (λ work is. is c.args.asked) c.put_off.ensures.ok)

pub returns-in-Writes-clause-ok : goal.returns-in-Writes-clause-ok
returns-in-Writes-clause-ok c =
    let before = master_of c.args.state.now in
    let after = master_of c.write.new.state in
    subst (λ (choice : Choice). IfOk c.write.result (λ work. worked_of after work ≡ chosen before c.args.asked c.args.call choice)) (sym c.in-Writes.is)
    (IfOk-weaker c.write.result _ (λ work. worked_of after work ≡ chosen before c.args.asked c.args.call (Writes c.in-Writes.number)) (λ work is. is c.args.asked) c.write.ensures.ok)

pub returns-in-Refuses-clause-ok : goal.returns-in-Refuses-clause-ok
returns-in-Refuses-clause-ok c =
    let before = master_of c.args.state.now in
    let after = master_of c.refuse.new.state in
    subst (λ (choice : Choice). IfOk c.refuse.result (λ work. worked_of after work ≡ chosen before c.args.asked c.args.call choice)) (sym c.in-Refuses.is)
    (IfOk-weaker c.refuse.result _ (λ work. worked_of after work ≡ chosen before c.args.asked c.args.call (Refuses c.in-Refuses.found c.in-Refuses.absent)) (λ work is. is c.args.asked) c.refuse.ensures.ok)
