-- A view stays sound when what is gathered for a tablet goes on: it is still that of the row, and what was read of each segment is a
-- first part that holds what its master knew to be stored, and what is needed.
use Rattle.rk_inv_base.proofs.Words.{arith, ◌≡◌, ℕ, List, subst, Member, Rebuilding, Row, Gather, own_place, member_material}
use Rattle.rk_inv_base.proofs.Words.{merged_place, View, SoundView, GathersOn, MayGatherOn, gathered}
use Rattle.rk_inv_base.proofs.Base.{put2_by}
use Rattle.rk_inv_base.proofs.views.WithRecords.{RebuildsBy, view_with_gathers}

module _ (v : View) (master number : ℕ) (change : Gather → Gather) (sound : SoundView v) (may : MayGatherOn v master number change) where
  abbrev now : View
  now = gathered v master number change

  -- it goes on to gather
  gathers_on : (row : Row) (lineage : List Member) (to : ℕ) (gather new : Gather) → GathersOn v row lineage to new → RebuildsBy v row lineage to gather (v.records to) → RebuildsBy v row lineage to new (v.records to)
  gathers_on row lineage to gather new goes was = grind (arith, member_material, own_place, merged_place)

  pub view_gathers_on : SoundView now
  view_gathers_on =
      view_with_gathers v now.gathers sound
      (λ row has lineage to is term was.
      put2_by v.gathers master number change (λ gather. RebuildsBy v row lineage to gather (v.records to)) to row.tablet
      (λ at its.
      gathers_on row lineage to (v.gathers to row.tablet) (change (v.gathers to row.tablet))
      (rw at (may row lineage has its
      (subst (λ (q : ℕ). row.phase ≡ Rebuilding lineage q) at is)
      (subst (λ (q : ℕ). (v.handovers q row.tablet).term ≡ row.term) at term)))
      was)
      (λ apart. was))
