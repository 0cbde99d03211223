-- Worked examples: what may not be asked of a lane, when a replica is called, and a call in a cluster.
use Rattle.std.proofs.Common.{arith}
use Rattle.std.specs.Prelude.{◌≡◌, ◌≤◌, ℕ, [], ◌∷◌, None, Some, map, refl}
use Rattle.rk_types.specs.Hashing.{hash_of}
use Rattle.rk_types.specs.Held.{spelled_of}
use Rattle.rk_types.specs.declared.call.Op.TheVariants.{Put}
use Rattle.rk_types.specs.declared.call.Outcome.TheVariants.{Written}
use Rattle.rk_types.specs.declared.node.Node.TheVariants as nodes
use Rattle.rk_entry.specs.Ends.{range_bytes, outcome_bytes, end_bytes}
use Rattle.rk_entry.specs.Entries.{spelled_all}
use Rattle.rk_entry.specs.Lists.{ends_bytes, segments_bytes}
use Rattle.rk_entry.specs.Numbers.{number_bytes}
use Rattle.rk_entry.specs.Spelling.{head_bytes, held_bytes, refused_bytes, carried_bytes, joined_bytes, body_length, front_bytes, spelled, mark_of}
use Rattle.rk_entry.specs.Texts.{key_bytes, value_bytes}
use Rattle.rk_message.specs.declared.message.Body.TheVariants as bodies
use Rattle.rk_message.specs.declared.replication.Append.{Append}
use Rattle.rk_world.specs.declared.event.Event.TheVariants as events
use Rattle.rk_world.proofs.Scene.{a, x, whole}
use Rattle.rk_world.specs.Backup.{Appended, Gave, Failed, append_called, append_taken, no_segments}
use Rattle.rk_world.specs.World.{new_world}
use Rattle.rk_world.specs.Step.{quietly, to_backup}
use Rattle.rk_world.specs.Premises.{MayHappen}
use Rattle.rk_world.specs.Runs.{IsCalmEvent}
use Rattle.rk_world.specs.Cluster.{Cluster, Happens, Joins, Calls, Asks, Accepts, cluster_run, new_cluster, session_at}

-- ---- premises

-- no tablet is made of a range that is empty
no_empty_range : MayHappen (new_world 4 2 2) (events.AddTablet 1 (record { table = 1; first = 5; last = 3 }) 1) → ⊥
no_empty_range may = let last : 5 ≤ 3 = may.1.last.least_is in omega (arith, last)

-- a master that is not there takes no turn
no_stranger : MayHappen (new_world 4 2 2) (events.Turn (nodes.Master 77)) → ⊥
no_stranger may = let last : 77 ≤ 2 = may.last in omega (arith, last)

-- the last master does not crash
one_is_left : IsCalmEvent (new_world 4 1 1) (events.Crash 1) → ⊥
one_is_left calm = cc calm

-- ---- replicas

-- two bytes for segment 1, from this place on
abbrev pub two_bytes : ℕ → Append
two_bytes at = record { segment = 1; at = at; bytes = 7 ∷ 8 ∷ [] }

-- bytes that begin beyond the stored ones call no replica, so none can fail
gap_calls_none : append_called no_segments 1 (two_bytes 5) (Some 0) ≡ Appended 0
gap_calls_none = refl

-- bytes that begin at the end do, and if that fails a first part may be stored
end_may_fail : append_called no_segments 1 (two_bytes 0) (Some 1) ≡ Failed 1
end_may_fail = refl

part_is_stored : append_taken no_segments 1 (two_bytes 0) (Failed 1) 1 1 ≡ Some (7 ∷ [])
part_is_stored = refl

-- a message to a backup that is not there changes nothing
no_such_backup : to_backup (new_world 4 2 2) 3 (nodes.Master 1) (bodies.Append (two_bytes 0)) (Appended 2) ≡ quietly (new_world 4 2 2)
no_such_backup = refl

-- ---- a cluster

-- client 1 asks for a put of x at a, whose lane is 4
asked : Cluster
asked =
    cluster_run (new_cluster 2 2) (
    Happens 4 (events.AddTablet 1 whole 1) (Gave None) ∷ Joins 1 ∷ Happens 4 (events.AddClient 1) (Gave None)
    ∷ Calls 1 1 a (Put x) ∷ Asks 4 1 ∷ Happens 4 (events.Deliver 1) (Gave None) ∷ Accepts 4 2 1 ∷ Asks 4 1 ∷ [])

-- its master stages it, and both backups answer that segment 1 has 40 bytes
stored : Cluster
stored =
    cluster_run asked (
    Happens 4 (events.Deliver 3) (Gave None) ∷ Happens 4 (events.Turn (nodes.Master 1)) (Gave None)
    ∷ Happens 4 (events.Deliver 4) (Appended 40) ∷ Happens 4 (events.Deliver 5) (Appended 40) ∷ [])

-- the answers reach the master, and then the client gets its own
answered : Cluster
answered =
    cluster_run stored (
    Happens 4 (events.Deliver 6) (Gave None) ∷ Happens 4 (events.Deliver 7) (Gave None) ∷ Accepts 4 8 1 ∷ [])

-- the put is answered
put_is_answered : map (λ receipt. receipt.outcome) (session_at answered 1).receipts ≡ Written 1 ∷ []
unfolding answered stored asked hash_of spelled_of spelled_all spelled front_bytes body_length head_bytes held_bytes refused_bytes carried_bytes joined_bytes mark_of number_bytes key_bytes value_bytes range_bytes outcome_bytes end_bytes ends_bytes segments_bytes
put_is_answered = refl
