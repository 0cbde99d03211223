-- What the code of a master asks of a message holds of each message on the wire.
use Rattle.rk_lane.proofs.Words.{arith, ℕ, Node, Body, IsFormedBody, Limits, limits_of, World, master_at}
use Rattle.rk_types.specs.declared.node.Node.TheVariants as nodes
use Rattle.rk_log.specs.Log.{IsBackup}
use Rattle.rk_message.specs.declared.message.Body.TheVariants as bodies
use Rattle.rk_master.specs.Taking.{CanTakeOf, CanTakeOfBackup, CanTakeOfClient, CanTakeOfPeer}
use Rattle.rk_inv_wellformed.specs.Appended.{StandsOn}
use Rattle.rk_inv_wellformed.proofs.bytes.Spelled.{copies_spell, grants_spell, rebuilds_spell}
use Rattle.rk_inv_wellformed.proofs.lanes.Worlds.{master_of}

-- what a client sends
of_client : (limits : Limits) (client : ℕ) (body : Body) → IsFormedBody limits (nodes.Client client) body → CanTakeOfClient client body
of_client limits client (bodies.Request request) says = says.call
of_client limits client _ says = tt

-- what another master sends
of_peer : (limits : Limits) (peer : ℕ) (body : Body) → IsFormedBody limits (nodes.Master peer) body → CanTakeOfPeer body
of_peer limits peer body says = grind arith

module _ (w : World) (master number : ℕ) (to : Node) where
  -- the master knows of each backup
  backup_is : (backup : ℕ) (body : Body) → StandsOn w master number (nodes.Backup backup) to body → IsBackup (master_at w master).log backup
  backup_is backup body stands = grind (arith, master_of)

  -- what a backup sends
  of_backup : (backup : ℕ) (body : Body) → StandsOn w master number (nodes.Backup backup) to body → CanTakeOfBackup (master_at w master) backup body
  of_backup backup (bodies.Stored stored) stands = backup_is backup (bodies.Stored stored) stands
  of_backup backup (bodies.Copy copy) stands = copies_spell w master number (nodes.Backup backup) to copy stands
  of_backup backup _ stands = tt

  -- by the sender
  pub takes_of : (from : Node) (body : Body) → StandsOn w master number from to body → CanTakeOf (master_at w master) from body
  takes_of from body stands = grind (arith, of_client, limits_of, of_peer, of_backup, grants_spell, rebuilds_spell)
