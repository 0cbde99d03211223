-- If a rebuild may be taken, its master may own the row: what it read is the truth of the row and a first part of the rest, and what it
-- merged makes the records of just that part. So a sound lane stays sound when the rebuild is taken, and a well formed one that has room
-- when a Rebuilt is delivered.
use Rattle.std.proofs.Common.{Contains, List, Option, Some, [], ap, refl, subst, sym, ℕ, ◌==◌, ◌∙◌, ◌∷◌, ◌≡◌}
use Rattle.rk_message.specs.declared.message.Body.TheVariants as bodies
use Rattle.rk_types.specs.declared.node.Node.TheVariants as nodes
use Rattle.rk_world.specs.declared.event.Event.TheVariants as events
use Rattle.rk_inv_base.proofs.Words.{Called, Coordinated, Ended, Entry, HasRoom, IsSound, IsWellFormed, MayTakeRebuilt, Member, Message}
use Rattle.rk_inv_base.proofs.Words.{Owned, Phase, Rebuilding, Rebuilt, RebuiltIn, Row, SoundView, Tenure, View, World, cond_both}
use Rattle.rk_inv_base.proofs.Words.{delivered, get, happened, own_to, rebuilt_in, report, rests, row_at, row_owned, truths, unanswered}
use Rattle.rk_inv_base.proofs.Words.{view, with_all_sent, with_ends, with_ledger}
use Rattle.rk_inv_rows.proofs.lineage.RebuiltWorld.{sound_rebuilt_taken}
use Rattle.rk_inv_logs.proofs.made.RebuiltEnds.{ends_known, ends_reach, made_is, others_tell, records_made}
use Rattle.rk_inv_logs.proofs.Headlines.{read_of_rebuilt}
use Rattle.rk_inv_logs.specs.read.Moves.{MayTakeRebuiltFormed}
use Rattle.rk_inv_logs.specs.read.ReadBack.{IsReadBack}
use Rattle.rk_inv_events.proofs.Words.{MayOwnRebuilt, rebuilt_at, rebuilt_taken_in, row_owned_in, row_said, without_marks}
use Rattle.rk_inv_events.proofs.events.Coordinating.{rows_some}
use Rattle.rk_inv_events.proofs.events.CoordinatorTurn.{may_own as may_order_own}
use Rattle.rk_inv_events.proofs.events.Crashing.{gathered_few, readable}
use Rattle.rk_inv_events.proofs.events.Sending.{one_sent, sound_all_sent}
use Rattle.rk_inv_events.proofs.rebuilt.RebuiltOwned.{may_own, read_of}
use Rattle.rk_inv_events.proofs.reports.Reported.{IsAbout, at_phase, coordinated, sound_about, told_owner}

module _ (v : View) (row : Row) (lineage : List Member) (to place : ℕ) (ends : List Ended) (sound : SoundView v) (may : MayTakeRebuiltFormed v row lineage to place ends) where
  -- its own entries count from the place that it reported
  read_back : IsReadBack (truths v row) (rests v row) (read_of v row to place)
  read_back = rw (rebuilt_at (v.handovers to row.tablet).role (v.written to).applied place may.may.rebuilt).role_is at
      (read_of_rebuilt v row lineage to place ends sound may)

  pub owns_rebuilt : MayOwnRebuilt v row lineage to place ends
  owns_rebuilt =
      let members : List (List Entry) = read_of v row to place in
      let read : IsReadBack (truths v row) (rests v row) members = read_back in
      may_own v row lineage to place ends sound may.ranges may.may read (made_is v row members sound may.may.has_row read)
      (ends_reach v row members sound may.may.has_row read) (ends_known v row members sound may.may.has_row read)
      (records_made v row members sound may.may.has_row read) (others_tell v row members sound may.may.has_row read)

-- ---- the coordinator takes a Rebuilt

-- each master that rebuilt a row, and reported it, may own that row
abbrev TellersMayOwn : World → Type 0
TellersMayOwn w =
    (row : Row) (lineage : List Member) (to place : ℕ) (ends : List Ended) → MayTakeRebuilt (view w) row lineage to place ends
    → MayOwnRebuilt (view w) row lineage to place ends

module _ (w : World) (number sender : ℕ) (sound : IsSound w) (rebuilt : Rebuilt) (stands : get w.wire.messages number ≡ Some (record { from = nodes.Master sender; to = nodes.Coordinator; body = bodies.Rebuilt rebuilt })) where
  -- the row that it speaks of, at its term
  module _ (row : Row) (of : IsAbout w rebuilt.tenure row) where
    -- the rebuild is taken
    module _ (lineage : List Member) (to : ℕ) (is : row.phase ≡ Rebuilding lineage to) where
      its : RebuiltIn (Rebuilding lineage to) ((view w).handovers sender row.tablet) ((view w).merged sender row.tablet) ((view w).written sender).applied row.term sender rebuilt
      its = rw is at
          (row_said (view w) sound row of.stands number
          (record { from = nodes.Master sender; to = nodes.Coordinator; body = bodies.Rebuilt rebuilt }) stands of.its)

      may_take : MayTakeRebuilt (view w) row lineage to rebuilt.place rebuilt.ends
      may_take = record {
        has_row = of.stands;
        phase_is = is;
        term_is = ap (λ (m : ℕ). ((view w).handovers m row.tablet).term) its.0 ∙ its.1;
        rebuilt = rw its.0 its.2;
        ends_are = its.3 ∙ ap (λ (m : ℕ). (view w).merged m row.tablet) (sym its.0);
      }

      abbrev now : World
      now = rebuilt_taken_in w row to rebuilt.place rebuilt.ends

      abbrev owned : Row
      owned = row_at row row.term (Owned to rebuilt.place)

      at : Contains now.coordinator.rows owned
      at = at_phase w.coordinator.rows row (Owned to rebuilt.place) of.found

      told_own : MayOwnRebuilt (view w) row lineage to rebuilt.place rebuilt.ends → IsSound (with_all_sent now (own_to to row ∷ []))
      told_own may =
          let after : IsSound now = sound_rebuilt_taken w row lineage to rebuilt.place rebuilt.ends sound may in
          sound_all_sent now (own_to to row ∷ []) after
          (one_sent (view now) (own_to to row) (may_order_own (view now) owned after at to rebuilt.place refl))

      -- the marks are those of the tenure that it reports
      marks_gone : MayOwnRebuilt (view w) row lineage to rebuilt.place rebuilt.ends
          → IsSound (with_all_sent (with_ledger (row_owned_in w row to rebuilt.place) (without_marks (with_ends w.ledger rebuilt.ends) rebuilt.tenure.tablet rebuilt.tenure.term)) (own_to to row ∷ []))
      marks_gone may =
          subst
          (λ (tenure : Tenure). IsSound (with_all_sent (with_ledger (row_owned_in w row to rebuilt.place)
          (without_marks (with_ends w.ledger rebuilt.ends) tenure.tablet tenure.term)) (own_to to row ∷ [])))
          (λ i. record { tablet = sym of.its.tablet i; term = sym of.its.term i }) (told_own may)

  module _ (owns : TellersMayOwn w) where
    by_phase : (row : Row) → IsAbout w rebuilt.tenure row → (phase : Phase) → row.phase ≡ phase
        → IsSound (coordinated w (rebuilt_in w.coordinator sender rebuilt row phase))
    by_phase row of (Owned owner from) is = told_owner w row sound of.stands owner from is (sender == owner)
    by_phase row of (Rebuilding lineage to) is =
        cond_both (sender == to)
        (record { coordinator = row_owned w.coordinator row to rebuilt.place; sends = own_to to row ∷ []; rebuilt = Some rebuilt })
        (unanswered w.coordinator) (λ (taken : Coordinated). IsSound (coordinated w taken))
        (λ own. marks_gone row of lineage to is (owns row lineage to rebuilt.place rebuilt.ends (may_take row of lineage to is)))
        (λ other. sound)
    by_phase row of _ is = sound

    sound_rebuilt : IsSound (coordinated w (report w.coordinator sender (bodies.Rebuilt rebuilt)))
    sound_rebuilt = sound_about w sender rebuilt.tenure (λ row. rebuilt_in w.coordinator sender rebuilt row row.phase) sound
        (λ row of. by_phase row of row.phase refl)

-- ---- it is delivered

pub sound_rebuilt_delivered : (w : World) (number master : ℕ) (rebuilt : Rebuilt) (called : Called) → IsSound w → IsWellFormed w → HasRoom w
    → get w.wire.messages number ≡ Some (record { from = nodes.Master master; to = nodes.Coordinator; body = bodies.Rebuilt rebuilt })
    → IsSound (happened w (events.Deliver number) called).world
sound_rebuilt_delivered w number master rebuilt called sound formed room stands =
    subst (λ (message : Option Message). IsSound (delivered w message called).world) (sym stands)
    (sound_rebuilt w number master sound rebuilt stands (λ row lineage to place ends may.
    owns_rebuilt (view w) row lineage to place ends sound
    (record { may = may; ranges = rows_some w formed; readable = readable w formed room; gathered = gathered_few w formed to row.tablet })))
