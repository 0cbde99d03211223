-- `settle` ends.
use Rattle.std.proofs.Common.{arith, ◌≡◌, ℕ, zero, suc, List, [], ◌∷◌, refl, ⊎_elim}
use Rattle.rk_scripts.proofs.Words.{LANES, Cluster, Fate, Kept, Course, moved, moved_all, is_at_rest, settled_rests, IsWell, moved_well}
use Rattle.rk_scripts.proofs.Words.{well_other, settle_are, AreAdded, Adversary, Ends, Rests, after_moves, settling}
use Rattle.rk_scripts.specs.settle.Moves.{faultless}
use Rattle.rk_scripts.proofs.play.Masters.{names_masters}
use Rattle.rk_scripts.proofs.play.Reaching.{IsReached}
use Rattle.rk_scripts.proofs.settle.Going.{Goes, comes_here, goes_then}
use Rattle.rk_scripts.proofs.settle.NoticesFirst.{AreNoticed, notices_first}
use Rattle.rk_scripts.proofs.settle.Rounds.{Never, rounds}
use Rattle.rk_scripts.proofs.settle.Setting.{IsSane, Setting}
use Rattle.rk_scripts.proofs.settle.Tasks.{settles}

-- ---- if no task is left the cluster is at rest

-- what became of the calls of replicas in so many moves
fates_of : Adversary → ℕ → Course → List Fate
fates_of adversary zero course = []
fates_of adversary (suc moves) course = adversary course ∷ fates_of adversary moves (moved course (adversary course))

fates_lead : (adversary : Adversary) (moves : ℕ) (course : Course) → after_moves adversary moves course ≡ moved_all course (fates_of adversary moves course)
unfolding fates_of
fates_lead adversary zero course = refl
fates_lead adversary (suc moves) course = fates_lead adversary moves (moved course (adversary course))

-- ---- settle ends

module _ (adversary : Adversary) (masters backups : ℕ) (cluster : Cluster) (reached : IsReached masters backups cluster) (added : AreAdded cluster) where
  abbrev s : Setting
  s = record { adversary = adversary; masters = masters; backups = backups; start = cluster; reached = reached }

  begins_sane : IsSane s (settling cluster)
  begins_sane = search (settle_are, names_masters)

  goes : Goes s cluster (settling cluster) Never
  goes =
      goes_then s cluster (settling cluster) (λ next. (next.tasks ≡ settles ∷ []) × AreNoticed LANES next.cluster) Never
      (comes_here s (settling cluster) begins_sane) (notices_first s (settling cluster) begins_sane refl)
      (λ later comes follows noticed. rounds s cluster later comes noticed.0 noticed.1)

  -- from a cluster to which a run of a new one has led
  pub reached_ends : Ends adversary (settling cluster)
  reached_ends = grind (arith, goes, after_moves, settling, fates_lead, is_at_rest, settled_rests, fates_of)

-- ---- if no replica fails

-- no replica has failed after moves at which none fails
all_well : (moves : ℕ) (course : Course) → IsWell course → IsWell (after_moves faultless moves course)
all_well zero course well = well
all_well (suc moves) course well = all_well moves (moved course Kept) (moved_well course well)

-- so `settle` comes to rest, unless a lane is worn
pub reached_rests : (masters backups : ℕ) (cluster : Cluster) → IsReached masters backups cluster → AreAdded cluster → Rests (settling cluster)
reached_rests masters backups cluster reached added =
    let ends : Ends faultless (settling cluster) = reached_ends faultless masters backups cluster reached added in
    let last : Course = after_moves faultless ends.moves (settling cluster) in
    let well : IsWell last = all_well ends.moves (settling cluster) (record { none = refl; well = refl }) in
    record {
      moves = ends.moves;
      over = grind (arith, well_other, ends.over);
    }
