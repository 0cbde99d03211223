-- What a master in code needs of a message that it takes.
use Rattle.std.specs.Prelude.{ℕ, ⊤}
use Rattle.rk_types.specs.declared.node.Node.{Node}
use Rattle.rk_types.specs.declared.node.Node.TheVariants as nodes
use Rattle.rk_log.specs.Log.{IsBackup}
use Rattle.rk_message.specs.declared.message.Body.{Body}
use Rattle.rk_message.specs.declared.message.Body.TheVariants as bodies
use Rattle.rk_message.specs.declared.message.Message.{Message}
use Rattle.rk_world.specs.Master.{Master}
use Rattle.rk_world.specs.Premises.{IsLawfulCall}
use Rattle.rk_world.specs.Rebuilds.{copy_taken, rebuild_taken}
use Rattle.rk_world.specs.Requests.{call_of}
use Rattle.rk_master.specs.Parts.{IsGrantable}
use Rattle.rk_master.specs.Pulls.{HasLawfulItems}
use Rattle.rk_master.specs.Rebuilding.{CanBeSpelled}

-- the call that a client sent is lawful
abbrev pub CanTakeOfClient : ℕ → Body → Type 0
CanTakeOfClient client (bodies.Request request) = IsLawfulCall (call_of client request)
CanTakeOfClient client _ = ⊤

-- who reports what it stores is a backup of the master, and what a merge of the copies appends can be spelled
abbrev pub CanTakeOfBackup : Master → ℕ → Body → Type 0
CanTakeOfBackup master backup (bodies.Stored stored) = IsBackup master.log backup
CanTakeOfBackup master backup (bodies.Copy copy) = CanBeSpelled (copy_taken master copy).master
CanTakeOfBackup master backup _ = ⊤

-- the items that another master sent can be spelled
abbrev pub CanTakeOfPeer : Body → Type 0
CanTakeOfPeer (bodies.Pulled pulled) = HasLawfulItems pulled.entries
CanTakeOfPeer (bodies.Got message) = HasLawfulItems message.entries
CanTakeOfPeer _ = ⊤

-- what an order of the coordinator appends can be spelled
abbrev pub CanTakeOrder : Master → Body → Type 0
CanTakeOrder master (bodies.Grant grant) = IsGrantable master grant
CanTakeOrder master (bodies.Rebuild rebuild) = CanBeSpelled (rebuild_taken master rebuild).master
CanTakeOrder master _ = ⊤

-- what a sender says can be taken
abbrev pub CanTakeOf : Master → Node → Body → Type 0
CanTakeOf master (nodes.Client client) body = CanTakeOfClient client body
CanTakeOf master nodes.Coordinator body = CanTakeOrder master body
CanTakeOf master (nodes.Master other) body = CanTakeOfPeer body
CanTakeOf master (nodes.Backup backup) body = CanTakeOfBackup master backup body

-- a master can take a message
abbrev pub CanTake : Master → Message → Type 0
CanTake master message = CanTakeOf master message.from message.body
