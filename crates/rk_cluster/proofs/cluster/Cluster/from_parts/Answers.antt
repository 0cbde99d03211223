use Rattle.rk_cluster.proofs.Words.{◌≡◌, ℕ, List, All, length, replicate, ap, ◌∙◌, LANES, LaneState, HasBackups, backup_counts}
use Rattle.rk_cluster.proofs.Counting.{backups_are, counts_alike}
use Rattle.rk_cluster.proofs.cluster.Cluster.from_parts.Goals as goal

-- each of the lanes has so many backups
counted : {R : Type 0} (backups : ℕ) (lanes : List (LaneState R)) → length lanes ≡ LANES → All (HasBackups backups) lanes → backup_counts lanes ≡ replicate LANES backups
counted backups lanes eight all = counts_alike backups lanes all ∙ ap (λ (count : ℕ). replicate count backups) eight

pub invariant_of-result : goal.invariant_of-result
invariant_of-result g c = record {
  count = c.requires.eight;
  lanes = c.requires.lanes;
  masters = c.requires.masters;
  backups = counted c.args.backups c.args.lanes.items c.requires.eight c.requires.backups;
  sessions = c.requires.sessions;
}

pub returns-clause-backups : goal.returns-clause-backups
returns-clause-backups g c = backups_are c.args.backups c.args.lanes.items (counted c.args.backups c.args.lanes.items c.requires.eight c.requires.backups)
