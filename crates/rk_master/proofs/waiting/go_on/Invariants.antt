use Rattle.rk_master.proofs.Words.{◌≡◌, length, drop, all_going_on, tablets_of, IsState, master_of}
use Rattle.rk_master.proofs.waiting.go_on.Given as goal

abbrev pub invariant-loop-at : goal.invariant-loop-at
invariant-loop-at l = record {
  state : IsState l.state;
  length_is : length l.state.tablets.items ≡ l.at-end;
  rest : all_going_on (master_of l.state) (tablets_of (drop l.at l.state.tablets.items)) ≡ all_going_on (master_of l.fn.state) (tablets_of l.fn.state.tablets.items);
}
