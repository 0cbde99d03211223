-- What is so at each step of a run: at the cluster that an occurrence comes to, and at each cluster that is passed.
use Rattle.std.specs.Prelude.{◌≡◌, ◌<◌, ℕ, List, [], ◌∷◌, Ok, None, Some, ⊤}
use Rattle.rk_types.specs.NumberMap.{get}
use Rattle.rk_types.specs.declared.call.Answer.TheVariants as answers
use Rattle.rk_types.specs.declared.hashing.TheConstants.{LANES}
use Rattle.rk_types.specs.declared.lineage.Member.{Member}
use Rattle.rk_tablet_map.specs.Rows.{row_of}
use Rattle.rk_tablet_map.specs.declared.phase.Phase.TheVariants.{Moving, Owned}
use Rattle.rk_tablet_map.specs.declared.row.Row.{Row}
use Rattle.rk_message.specs.declared.calls.Reply.{Reply}
use Rattle.rk_message.specs.declared.message.Body.TheVariants as bodies
use Rattle.rk_message.specs.declared.message.Message.{Message}
use Rattle.rk_world.specs.Backup.{Called}
use Rattle.rk_world.specs.Cluster.{Cluster, Happens, Occurrence, cluster_after, lane_at}
use Rattle.rk_world.specs.Justified.{MayAnswerMoved}
use Rattle.rk_world.specs.Step.{Stepped, happened, step}
use Rattle.rk_world.specs.World.{World}
use Rattle.rk_world.specs.declared.event.Event.{Event}
use Rattle.rk_sound.specs.Whole.{IsSound}
use Rattle.rk_runs.specs.history.Runs.{IsFinishedBy}
use Rattle.rk_inv_lanes.specs.late.Refused.{IsPutOff, WasRefused}

-- this holds of each occurrence, at the cluster that it comes to
abbrev pub AtEachStep : (Cluster → Occurrence → Type 0) → Cluster → List Occurrence → Type 0
AtEachStep Holds cluster [] = ⊤
AtEachStep Holds cluster (occurrence ∷ later) =
    Holds cluster occurrence × AtEachStep Holds (cluster_after cluster occurrence) later

-- this holds of each cluster that is passed, the first and the last one among them
abbrev pub AtEachCluster : (Cluster → Type 0) → Cluster → List Occurrence → Type 0
AtEachCluster Holds cluster [] = Holds cluster
AtEachCluster Holds cluster (occurrence ∷ later) =
    Holds cluster × AtEachCluster Holds (cluster_after cluster occurrence) later

-- this holds of each event of a lane
abbrev pub OfEvents : (World → Event → Called → Type 0) → Cluster → Occurrence → Type 0
OfEvents Holds cluster (Happens lane event called) = Holds (lane_at cluster lane) event called
OfEvents Holds cluster occurrence = ⊤

-- each lane is sound
abbrev pub HasSoundLanes : Cluster → Type 0
HasSoundLanes cluster = (lane : ℕ) → lane < LANES → IsSound (lane_at cluster lane)

-- if an event makes a tablet that moves owned, what counts of the target has the records of what counted of the source, overlaid by the
-- target's own writes
abbrev pub FinishesMoves : World → Event → Called → Type 0
FinishesMoves w event called =
    (stepped : Stepped) (row now : Row) (source target : Member) (owner from : ℕ)
    → row_of w.coordinator.rows row.tablet ≡ Some row
    → row.phase ≡ Moving source.master source.from target.master target.from
    → step w event called ≡ Ok stepped
    → row_of stepped.world.coordinator.rows row.tablet ≡ Some now → now.phase ≡ Owned owner from
    → IsFinishedBy w event stepped row source target

-- each refusal that an event puts on the wire answers a Request that was delivered just then, to a master that may answer so
pub record RefusesJustly (w : World) (event : Event) (called : Called) : Type 0 where
  pub moved : (new tablet : ℕ) (message : Message) (reply : Reply)
      → get w.wire.messages new ≡ None → get (happened w event called).world.wire.messages new ≡ Some message
      → message.body ≡ bodies.Reply reply → reply.answer ≡ answers.Moved tablet → WasRefused w event MayAnswerMoved
  pub not_yet : (new : ℕ) (message : Message) (reply : Reply) (key : List ℕ)
      → get w.wire.messages new ≡ None → get (happened w event called).world.wire.messages new ≡ Some message
      → message.body ≡ bodies.Reply reply → reply.answer ≡ answers.NotYet key → WasRefused w event IsPutOff
