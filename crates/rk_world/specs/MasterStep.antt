-- What a master makes of each message.
use Rattle.std.specs.Prelude.{ℕ}
use Rattle.rk_types.specs.declared.node.Node.{Node}
use Rattle.rk_types.specs.declared.node.Node.TheVariants as nodes
use Rattle.rk_log.specs.Log.{overreach}
use Rattle.rk_message.specs.declared.message.Body.{Body}
use Rattle.rk_message.specs.declared.message.Body.TheVariants as bodies
use Rattle.rk_message.specs.declared.message.Message.{Message}
use Rattle.rk_world.specs.Master.{Master}
use Rattle.rk_world.specs.Worked.{Worked, changed}
use Rattle.rk_world.specs.Requests.{request_taken}
use Rattle.rk_world.specs.Commits.{stored_taken}
use Rattle.rk_world.specs.Pulls.{pull_taken, want_taken, pulled_taken, got_taken}
use Rattle.rk_world.specs.Handovers.{prepare_taken, close_taken, grant_taken, own_taken, release_taken}
use Rattle.rk_world.specs.Rebuilds.{rebuild_taken, copy_taken}

-- a master takes what a client sent
abbrev pub client_message : Master → ℕ → Body → Worked
client_message master client (bodies.Request request) = request_taken master client request
client_message master client _ = changed master

-- a master takes what a backup sent
abbrev pub backup_message : Master → ℕ → Body → Worked
backup_message master backup (bodies.Stored stored) =
    stored_taken master backup stored (overreach master.log stored.segment stored.length)
backup_message master backup (bodies.Copy copy) = copy_taken master copy
backup_message master backup _ = changed master

-- a master takes what another master sent
abbrev pub peer_message : Master → Node → Body → Worked
peer_message master sender (bodies.Pull pull) = pull_taken master sender pull
peer_message master sender (bodies.Pulled pulled) = pulled_taken master pulled
peer_message master sender (bodies.Want want) = want_taken master sender want
peer_message master sender (bodies.Got message) = got_taken master message
peer_message master sender _ = changed master

-- a master takes what the coordinator sent
abbrev pub order : Master → Body → Worked
order master (bodies.Prepare prepare) = prepare_taken master prepare
order master (bodies.Close tenure) = close_taken master tenure
order master (bodies.Grant grant) = grant_taken master grant
order master (bodies.Own tenure) = own_taken master tenure
order master (bodies.Release tenure) = release_taken master tenure
order master (bodies.Rebuild rebuild) = rebuild_taken master rebuild
order master _ = changed master

-- a master takes a message, by its sender
abbrev pub told_master : Master → Node → Body → Worked
told_master master (nodes.Client client) body = client_message master client body
told_master master nodes.Coordinator body = order master body
told_master master (nodes.Master other) body = peer_message master (nodes.Master other) body
told_master master (nodes.Backup backup) body = backup_message master backup body

-- a master takes a message
abbrev pub master_step : Master → Message → Worked
master_step master message = told_master master message.from message.body
