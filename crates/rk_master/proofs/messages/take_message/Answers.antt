use Rattle.std.proofs.Common.{◌≡◌, subst, sym}
use Rattle.std.specs.Prelude.{IfOk}
use Rattle.rk_types.specs.declared.node.Node.{Node}
use Rattle.rk_world.specs.MasterStep.{peer_message, told_master}
use Rattle.rk_master.specs.Parts.{worked_of}
use Rattle.rk_master.specs.State.{master_of}
use Rattle.rk_master.proofs.messages.take_message.Goals as goal

pub returns-in-Master-clause-ok : goal.returns-in-Master-clause-ok
returns-in-Master-clause-ok c =
    let before = master_of c.args.state.now in
    let after = master_of c.peer_message.new.state in
    subst (λ (from : Node). IfOk c.peer_message.result (λ work. worked_of after work ≡ told_master before from c.args.message.body)) (sym c.in-Master.is)
    (subst (λ (from : Node). IfOk c.peer_message.result (λ work. worked_of after work ≡ peer_message before from c.args.message.body)) c.in-Master.is c.peer_message.ensures.ok)

pub returns-in-Backup-clause-ok : goal.returns-in-Backup-clause-ok
returns-in-Backup-clause-ok c =
    let before = master_of c.args.state.now in
    let after = master_of c.backup_message.new.state in
    subst (λ (from : Node). IfOk c.backup_message.result (λ work. worked_of after work ≡ told_master before from c.args.message.body)) (sym c.in-Backup.is) c.backup_message.ensures.ok
