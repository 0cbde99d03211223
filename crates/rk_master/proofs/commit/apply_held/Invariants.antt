use Rattle.rk_master.proofs.Words.{◌≡◌, ◌-◌, apply_entries, behind, IsState, master_of}
use Rattle.rk_world.specs.Commits.{newly_held}
use Rattle.rk_master.proofs.commit.apply_held.Given as goal

abbrev pub invariant-held : goal.invariant-held
invariant-held l = record {
  state : IsState l.state;
  log : l.state.log ≡ l.fn.state.log;
  rest : behind l.work (apply_entries (master_of l.state) (newly_held (master_of l.state))) ≡ behind l.fn.work (apply_entries (master_of l.fn.state) (newly_held (master_of l.fn.state)));
}

abbrev pub decreases-held : goal.decreases-held
decreases-held l = l.held - l.state.applied
