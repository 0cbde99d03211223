use Rattle.rk_master.proofs.Words.{◌≡◌, map, noting, AreTablets, changing, tablets_of}
use Rattle.rk_master.proofs.Places.{changed_from}
use Rattle.rk_master.proofs.commit.note_in_each.Given as goal

abbrev pub invariant-loop-entry : goal.invariant-loop-entry
invariant-loop-entry l = record {
  tablets : AreTablets l.tablets;
  rest : changed_from (λ number. noting l.call l.end) l.entry-index l.tablets ≡ map (changing (λ number. noting l.call l.end)) (tablets_of l.fn.tablets);
}
