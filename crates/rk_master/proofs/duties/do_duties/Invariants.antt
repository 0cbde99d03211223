use Rattle.rk_master.proofs.Words.{◌≡◌, length, drop, duties, behind, tablets_of, IsState, master_of}
use Rattle.rk_master.proofs.duties.do_duties.Given as goal

abbrev pub invariant-loop-at : goal.invariant-loop-at
invariant-loop-at l = record {
  state : IsState l.state;
  length_is : length l.state.tablets.items ≡ l.at-end;
  rest : behind l.work (duties (master_of l.state) (tablets_of (drop l.at l.state.tablets.items))) ≡ behind l.fn.work (duties (master_of l.fn.state) (tablets_of l.fn.state.tablets.items));
}
