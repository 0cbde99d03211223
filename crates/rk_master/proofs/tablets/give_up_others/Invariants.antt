use Rattle.rk_master.proofs.Words.{◌≡◌, map, AreTablets, changing, given_up_but, tablets_of}
use Rattle.rk_master.proofs.Places.{changed_from}
use Rattle.rk_master.proofs.tablets.give_up_others.Given as goal

abbrev pub invariant-loop-entry : goal.invariant-loop-entry
invariant-loop-entry l = record {
  tablets : AreTablets l.tablets;
  rest : changed_from (given_up_but l.number l.range) l.entry-index l.tablets ≡ map (changing (given_up_but l.number l.range)) (tablets_of l.fn.tablets);
}
