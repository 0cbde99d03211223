-- How many masters and backups the lanes of a cluster have, and that an event may come to one of them.
use Rattle.rk_cluster.proofs.Words.{◌≡◌, ℕ, zero, suc, List, [], ◌∷◌, All, length, replicate, refl, arith, All-cons, All-head, All-nil}
use Rattle.rk_cluster.proofs.Words.{All-tail, LANES, MayHappen, new_world, Event, LaneState, HasBackups, backup_counts, AreLanes, IsPlain}
use Rattle.rk_cluster.proofs.Words.{MayComeAt}
use Rattle.rk_cluster.specs.Masters.{backups_in, masters_in}
use Rattle.rk_cluster.proofs.Deeds.{may_come}
use Rattle.rk_cluster.proofs.Worlds.{masters_at}

-- the first lane shows how many masters each has
pub masters_are : {R : Type 0} (masters : ℕ) (lanes : List (LaneState R)) → AreLanes masters 0 lanes → length lanes ≡ LANES → masters_in lanes ≡ masters
masters_are masters [] are eight = absurd (omega (arith, eight))
masters_are masters (lane ∷ lanes) are eight = are.1

-- an event that calls no replica may come to a lane in which the masters that it names are there
pub comes_at : {R : Type 0} (masters : ℕ) (lanes : List (LaneState R)) (place : ℕ) (event : Event) → IsPlain event → MayHappen (new_world 0 masters 0) event → AreLanes masters 0 lanes
    → MayComeAt lanes place event
comes_at masters lanes place event plain may are lane there = may_come lane masters event plain may (masters_at masters 0 lanes place lane there are)

-- ---- backups

module _ {R : Type 0} where
  -- if all have so many
  pub each_backed : (backups : ℕ) (lanes : List (LaneState R)) (count : ℕ) → backup_counts lanes ≡ replicate count backups → All (HasBackups backups) lanes
  each_backed backups [] count same = All-nil (HasBackups backups)
  each_backed backups (lane ∷ lanes) zero same = absurd (cc same)
  each_backed backups (lane ∷ lanes) (suc count) same =
      let its : length lane.backups ≡ backups = cc same in
      let rest : backup_counts lanes ≡ replicate count backups = cc same in
      All-cons (HasBackups backups) lane lanes its (each_backed backups lanes count rest)

  pub counts_alike : (backups : ℕ) (lanes : List (LaneState R)) → All (HasBackups backups) lanes → backup_counts lanes ≡ replicate (length lanes) backups
  counts_alike backups [] all = refl
  counts_alike backups (lane ∷ lanes) all =
      let its : length lane.backups ≡ backups = All-head (HasBackups backups) lane lanes all in
      let rest = counts_alike backups lanes (All-tail (HasBackups backups) lane lanes all) in
      λ i. its i ∷ rest i

  -- the first lane shows how many each has
  pub backups_are : (backups : ℕ) (lanes : List (LaneState R)) → backup_counts lanes ≡ replicate LANES backups → backups_in lanes ≡ backups
  backups_are backups [] same = absurd (cc same)
  backups_are backups (lane ∷ lanes) same = cc same
