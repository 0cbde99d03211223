-- What stays in a run of a cluster, and what finishes in it.
use Rattle.std.specs.Prelude.{◌≡◌, ℕ, true, List, Some, slice_get}
use Rattle.rk_types.specs.declared.history.Placed.{Placed}
use Rattle.rk_types.specs.declared.history.Receipt.{Receipt}
use Rattle.rk_types.specs.declared.lineage.Member.{Member}
use Rattle.rk_tablet_map.specs.declared.row.Row.{Row}
use Rattle.rk_world.specs.Cluster.{Cluster, lane_at}
use Rattle.rk_world.specs.Finished.{Finishes}
use Rattle.rk_world.specs.Step.{Stepped}
use Rattle.rk_world.specs.World.{World}
use Rattle.rk_world.specs.declared.event.Event.{Event}
use Rattle.rk_world.specs.declared.event.Event.TheVariants as events

-- a record is still at its place in a journal, and is accepted if it was
pub record IsStill (journal : List Placed) (place : ℕ) (placed : Placed) : Type 0 where
  pub now : Placed
  pub stands : slice_get journal place ≡ Some now
  pub call : now.call ≡ placed.call
  pub outcome : now.outcome ≡ placed.outcome
  pub stamp : now.stamp ≡ placed.stamp
  pub kept : placed.accepted ≡ true → now.accepted ≡ true

-- each record of a journal is still in a later one
abbrev pub StandsStill : List Placed → List Placed → Type 0
StandsStill before after =
    (place : ℕ) (placed : Placed) → slice_get before place ≡ Some placed → IsStill after place placed

-- the records of all lanes are still in a later cluster
abbrev pub RecordsStay : Cluster → Cluster → Type 0
RecordsStay before after =
    (lane : ℕ) → StandsStill (lane_at before lane).ledger.journal (lane_at after lane).ledger.journal

-- what a receipt states is in the journal of its lane, at its place, accepted
abbrev pub IsKeptIn : Cluster → Receipt → Type 0
IsKeptIn cluster receipt =
    slice_get (lane_at cluster receipt.lane).ledger.journal receipt.place
    ≡ Some (record { call = receipt.call; outcome = receipt.outcome; stamp = receipt.stamp; accepted = true })

-- an event finishes the migration of a row: it is the delivery of its target's Joined
pub record IsFinishedBy (w : World) (event : Event) (stepped : Stepped) (row : Row) (source target : Member) : Type 0 where
  pub number : ℕ
  pub event_is : event ≡ events.Deliver number
  pub finishes : Finishes w number stepped row source target
