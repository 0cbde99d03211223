use Rattle.rk_master.proofs.Words.{◌≡◌, ◌++◌, master_of}
use Rattle.rk_master.proofs.Appends.{sent_behind}
use Rattle.rk_master.proofs.turn.send_pending.Given as goal

abbrev pub invariant-loop-before : goal.invariant-loop-before
invariant-loop-before l = record {
  sends : l.work.sends.items ++ sent_behind (master_of l.state) l.before l.state.backups ≡ l.fn.work.sends.items ++ sent_behind (master_of l.state) 0 l.state.backups;
  served : l.work.served.items ≡ l.fn.work.served.items;
  marked : l.work.marked ≡ l.fn.work.marked;
}
