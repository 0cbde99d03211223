-- What a change of one master makes of a view: one equation for each kind of change.
use Rattle.rk_inv_base.proofs.Words.{arith, ◌≡◌, ℕ, List, refl, ◌∙◌, NumberMap, Call, Ended, Held, Handover, Log, Gather, marks_of, Master}
use Rattle.rk_inv_base.proofs.Words.{tablet_at, with_tablet, with_pulling, Tablet, Pulling, World, master_at, tablet_in, with_master}
use Rattle.rk_inv_base.proofs.Words.{Written, written_by, put, put2, role_taken, View, view}
use Rattle.rk_inv_base.proofs.views.Put.{put_is, put_same, put2_same}
use Rattle.rk_inv_base.proofs.views.Masters.{master_same, master_other, same_of_all, tablet_here, tablet_apart, keeps_with}

-- a view in which one master has this log, has written this, and has these records, these calls that wait and this tablet
abbrev pub changed_view : View → ℕ → Log → Written → List Held → NumberMap Call → ℕ → Tablet → View
changed_view v master log written records calls number tablet = record v {
  logs = put v.logs master log;
  written = put v.written master written;
  records = put v.records master records;
  calls = put v.calls master calls;
  handovers = put2 v.handovers master number tablet.handover;
  completions = put2 v.completions master number tablet.completions;
  pullings = put2 v.pullings master number tablet.pulling;
  gathers = put2 v.gathers master number tablet.gather;
  merged = put2 v.merged master number tablet.merged_ends;
}

-- a view in which one master keeps this of one tablet
abbrev pub kept_view : View → ℕ → ℕ → Tablet → View
kept_view v master number tablet = record v {
  handovers = put2 v.handovers master number tablet.handover;
  completions = put2 v.completions master number tablet.completions;
  pullings = put2 v.pullings master number tablet.pulling;
  gathers = put2 v.gathers master number tablet.gather;
  merged = put2 v.merged master number tablet.merged_ends;
}

-- any change of one master that leaves it its number, and all its tablets but one
module _ (w : World) (master : ℕ) (changed : Master) (number : ℕ) (tablet : Tablet) (same : changed.number ≡ (master_at w master).number) (here : tablet_at changed number ≡ tablet) (apart : (r : ℕ) → (r ≡ number → ⊥) → tablet_at changed r ≡ tablet_in w master r) where
  seen : {X : Type 0} (f : ℕ → Master → X) (q : ℕ) → f q (master_at (with_master w master changed) q) ≡ put (λ q. f q (master_at w q)) master (f master changed) q
  seen f q = grind (arith, put_is, master_at, with_master, master_same, master_other)

  keeps : {X : Type 0} (f : Tablet → X) (q r : ℕ) → f (tablet_in (with_master w master changed) q r) ≡ put2 (λ q r. f (tablet_in w q r)) master number (f tablet) q r
  keeps f = keeps_with w master number changed tablet here apart f

  pub view_master : view (with_master w master changed) ≡ changed_view (view w) master changed.log (written_by changed (marks_of w.ledger master)) changed.records changed.calls number tablet
  view_master i = record (view w) {
    numbers = same_of_all (λ q m. m.number) w master changed same i;
    logs = λ q. seen (λ q m. m.log) q i;
    written = λ q. seen (λ q m. written_by m (marks_of w.ledger q)) q i;
    records = λ q. seen (λ q m. m.records) q i;
    calls = λ q. seen (λ q m. m.calls) q i;
    handovers = λ q r. keeps (λ t. t.handover) q r i;
    completions = λ q r. keeps (λ t. t.completions) q r i;
    pullings = λ q r. keeps (λ t. t.pulling) q r i;
    gathers = λ q r. keeps (λ t. t.gather) q r i;
    merged = λ q r. keeps (λ t. t.merged_ends) q r i;
  }

-- any change of one tablet of one master
pub view_kept : (w : World) (master number : ℕ) (tablet : Tablet) → view (with_master w master (with_tablet (master_at w master) number tablet)) ≡ kept_view (view w) master number tablet
view_kept w master number tablet =
    view_master w master (with_tablet (master_at w master) number tablet) number tablet refl
    (tablet_here (master_at w master) number tablet) (tablet_apart (master_at w master) number tablet)
    ∙ (λ i. record (kept_view (view w) master number tablet) {
      logs = put_same (view w).logs master i;
      written = put_same (view w).written master i;
      records = put_same (view w).records master i;
      calls = put_same (view w).calls master i;
    })

-- of what one tablet pulls alone
pub view_pulled : (w : World) (master number : ℕ) (pulling : Pulling) → view (with_master w master (with_tablet (master_at w master) number (with_pulling (tablet_in w master number) pulling))) ≡ record (view w) { pullings = put2 (view w).pullings master number pulling }
view_pulled w master number pulling =
    view_kept w master number (with_pulling (tablet_in w master number) pulling)
    ∙ (λ i. record (view w) {
      handovers = put2_same (view w).handovers master number i;
      completions = put2_same (view w).completions master number i;
      pullings = put2 (view w).pullings master number pulling;
      gathers = put2_same (view w).gathers master number i;
      merged = put2_same (view w).merged master number i;
    })

-- of what one tablet gathers alone
pub view_gathered : (w : World) (master number : ℕ) (gather : Gather) → view (with_master w master (with_tablet (master_at w master) number (record (tablet_in w master number) { gather = gather }))) ≡ record (view w) { gathers = put2 (view w).gathers master number gather }
view_gathered w master number gather =
    view_kept w master number (record (tablet_in w master number) { gather = gather })
    ∙ (λ i. record (view w) {
      handovers = put2_same (view w).handovers master number i;
      completions = put2_same (view w).completions master number i;
      pullings = put2_same (view w).pullings master number i;
      gathers = put2 (view w).gathers master number gather;
      merged = put2_same (view w).merged master number i;
    })

-- of the handover of one tablet, with what it gathered and merged
pub view_taken : (w : World) (master number : ℕ) (handover : Handover) (gather : Gather) (ends : List Ended) → view (with_master w master (with_tablet (master_at w master) number (record (tablet_in w master number) { handover = handover; gather = gather; merged_ends = ends }))) ≡ role_taken (view w) master number handover gather ends
view_taken w master number handover gather ends =
    view_kept w master number (record (tablet_in w master number) { handover = handover; gather = gather; merged_ends = ends })
    ∙ (λ i. record (role_taken (view w) master number handover gather ends) {
      completions = put2_same (view w).completions master number i;
      pullings = put2_same (view w).pullings master number i;
    })
