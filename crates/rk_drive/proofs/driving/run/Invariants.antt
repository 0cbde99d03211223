use Rattle.std.specs.List.{range_with_len}
use Rattle.rk_cluster.specs.Faults.{counts_in}
use Rattle.rk_shared_lanes.specs.Together.{AllSoundOrSpent}
use Rattle.rk_drive.specs.Driven.{IsOfWorkload}
use Rattle.rk_drive.specs.declared.start.TheConstants.{BACKUPS, MASTERS}
use Rattle.rk_drive.proofs.driving.run.Given as goal

abbrev pub ghosts-run_with-L-Ledger : goal.ghosts-run_with-L-Ledger
ghosts-run_with-L-Ledger g a = record { name = a.blanks.accepted.name; parts = a.blanks.accepted.parts }

abbrev pub ghosts-run_with-M-Ledger : goal.ghosts-run_with-M-Ledger
ghosts-run_with-M-Ledger g a = record { name = a.blanks.got.name; parts = a.blanks.got.parts }

abbrev pub ghosts-run_with-A-Ledger : goal.ghosts-run_with-A-Ledger
ghosts-run_with-A-Ledger g a = record { name = a.blanks.asked.name; parts = a.blanks.asked.parts }

abbrev pub ghosts-run_with-B-Ledger : goal.ghosts-run_with-B-Ledger
ghosts-run_with-B-Ledger g a = record { name = a.blanks.made.name; parts = a.blanks.made.parts }

abbrev pub ghosts-run_with-N-Ledger : goal.ghosts-run_with-N-Ledger
ghosts-run_with-N-Ledger g a = record { name = a.blanks.numbers.name; parts = a.blanks.numbers.parts }

abbrev pub ghosts-run_with-N-Roster : goal.ghosts-run_with-N-Roster
ghosts-run_with-N-Roster g a = record {
  masters = MASTERS;
  backups = BACKUPS;
  clients = range_with_len 1 a.plan.now.clients;
  makes = IsOfWorkload a.plan.now.keys;
  counts = counts_in g.R.Replica.faults a.lanes.items;
  tells = AllSoundOrSpent g.R.Replica.segments a.lanes.items;
}
