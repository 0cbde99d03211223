-- The commands that have run have written their pieces, and the others are left.
use Rattle.rk_play.proofs.Words.{◌≡◌, [], All, length, CountsGoOn, backups_of, IsLawful, IsOn}
use Rattle.rk_play.proofs.run.run_all.Given as goal

abbrev pub invariant-commands : goal.invariant-commands
invariant-commands g l = record {
  lawful : All IsLawful l.coming;
  on : IsOn g.R.Replica.segments g.R.Replica.faults l.fn.cluster l.cluster l.fn.commands l.coming (g.K.Sink.written l.fn.sink) (g.K.Sink.written l.sink) l.held.items;
  kept : g.K.Sink.faults l.sink ≡ g.K.Sink.faults l.fn.sink;
  backups : backups_of l.cluster ≡ backups_of l.fn.cluster;
  counts : CountsGoOn g.R.Replica.faults [] l.fn.cluster l.cluster;
}

abbrev pub decreases-commands : goal.decreases-commands
decreases-commands g l = length l.coming
