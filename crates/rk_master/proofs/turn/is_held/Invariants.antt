-- What the backups that were looked at so far are sent is nothing.
use Rattle.rk_master.proofs.Words.{◌≡◌, master_of}
use Rattle.rk_master.proofs.Appends.{sent_behind}
use Rattle.rk_master.proofs.turn.is_held.Given as goal

abbrev pub invariant-loop-before : goal.invariant-loop-before
invariant-loop-before l = sent_behind (master_of l.state) l.before l.state.backups ≡ sent_behind (master_of l.state) 0 l.state.backups
