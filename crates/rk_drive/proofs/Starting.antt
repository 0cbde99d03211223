-- The lanes and sessions that a drive gathered make a cluster that is ready to settle.
use Rattle.std.proofs.Common.{◌≡◌, ◌≤◌, ℕ, List, length, map, Option, refl, sym, ap, subst, ◌∙◌, arith}
use Rattle.std.specs.Prelude.{slice_index_or}
use Rattle.std.specs.List.{All, range_with_len, sum_by}
use Rattle.std.proofs.lemmas.List.{length-map}
use Rattle.std.proofs.lemmas.List.FromFn.{length-range_with_len}
use Rattle.rk_types.specs.NumberMap.{EachIn, IsInOrder, NumberMap}
use Rattle.rk_types.specs.declared.hashing.TheConstants.{LANES}
use Rattle.rk_outside.specs.Segments.{Segments}
use Rattle.rk_world.specs.Client.{Session}
use Rattle.rk_world.specs.Cluster.{Cluster}
use Rattle.rk_world.specs.World.{World, new_world}
use Rattle.rk_lane.specs.LaneState.{LaneState}
use Rattle.rk_cluster.specs.Masters.{HasBackups}
use Rattle.rk_cluster.specs.State.{IsOf}
use Rattle.rk_cluster.specs.Steps.{AreLanes, state_of}
use Rattle.rk_types.specs.declared.history.Receipt.{Receipt}
use Rattle.rk_laws_drives.specs.Below.{IsGoodLane}
use Rattle.rk_laws_drives.specs.Below.{IsEnded}
use Rattle.rk_laws_drives.specs.Below.{calls_in, receipts_in}
use Rattle.rk_laws_drives.specs.Ready.{AreReady}
use Rattle.rk_conclude.specs.Results.{by_client}
use Rattle.rk_conclude.proofs.Ledgers.{same_sum}
use Rattle.rk_shared_lanes.specs.Together.{asked_of, calls_of as calls_made}
use Rattle.rk_drive.specs.Driven.{AreDriven, IsDriven}
use Rattle.rk_drive.specs.declared.plan.Plan.{Plan}
use Rattle.rk_drive.specs.declared.start.TheConstants.{BACKUPS, MASTERS}
use Rattle.rk_drive.proofs.Entries.{by_numbers, entry_of}
use Rattle.rk_drive.proofs.Sessions.{entries_called, entries_ended, entries_in_order, entries_made}
use Rattle.rk_drive.proofs.Worlds.{StandForGood, are_lanes, good_at, have_backups, stand_for_good}

module _ {R : Type 0} (segments : R → Option Segments) (tells : Type 0) (plan : Plan) (lanes : List (LaneState R)) (sessions : List Session)
    (it : AreDriven segments tells plan lanes sessions) where
  pub eight_lanes : length lanes ≡ LANES
  eight_lanes = sym (length-map lanes (λ (lane : LaneState R). lane.number)) ∙ ap length it.numbers ∙ length-range_with_len 0 LANES

  pub lanes_are : AreLanes MASTERS 0 lanes
  lanes_are = are_lanes MASTERS BACKUPS 0 (range_with_len 1 plan.clients) lanes (it.numbers ∙ ap (range_with_len 0) (sym eight_lanes)) it.roster

  pub backups_are : All (HasBackups BACKUPS) lanes
  backups_are = have_backups MASTERS BACKUPS (range_with_len 1 plan.clients) lanes it.roster

  module _ (told : tells) where
    pub worlds_of : StandForGood segments MASTERS 0 lanes
    worlds_of = stand_for_good segments MASTERS 0 lanes lanes_are it.runs (it.sound told) (it.counted told)

    -- the cluster of these lanes and sessions
    abbrev pub start : Cluster
    start = record { lanes = worlds_of.worlds; sessions = by_client sessions }

    pub stands : IsOf segments (state_of lanes (by_client sessions)) start
    stands = record { lanes = worlds_of.are; sessions = refl }

    by_entries : by_client sessions ≡ map entry_of sessions
    by_entries = by_numbers sessions plan.clients it.clients

    few_asked : sum_by (λ (w : World). w.ledger.asked) worlds_of.worlds ≤ calls_in (by_client sessions)
    few_asked =
        let asked : sum_by (λ (w : World). w.ledger.asked) worlds_of.worlds ≡ asked_of lanes = same_sum segments (λ ledger. ledger.asked) lanes worlds_of.worlds worlds_of.are in
        let called : calls_in (by_client sessions) ≡ calls_made sessions = ap calls_in by_entries ∙ entries_called sessions (it.orderly told) in
        let few = it.asked in
        omega (arith, asked, called, few)

    ready : AreReady MASTERS start
    ready = record {
      lanes = λ lane inside.
          subst (λ (number : ℕ). IsGoodLane MASTERS number (slice_index_or worlds_of.worlds lane (new_world lane 0 0))) (omega arith)
          (good_at MASTERS 0 worlds_of.worlds lane (new_world lane 0 0) worlds_of.good inside);
      order = subst IsInOrder (sym by_entries) (entries_in_order sessions plan.clients it.clients);
      ended = subst (EachIn IsEnded) (sym by_entries) (entries_ended plan.calls sessions (it.orderly told) it.answered);
      counted = record { lanes = worlds_of.counted; calls = few_asked };
    }

    pub driven : IsDriven plan start
    driven = record {
      ready = ready;
      calls =
          ap (λ (all : NumberMap Session). map (λ (receipt : Receipt). receipt.call) (receipts_in all)) by_entries
          ∙ entries_made plan.clients plan.calls plan.keys sessions it.clients (it.orderly told) it.answered (it.made told);
    }
