-- The tablets that were looked at so far add nothing to what is sent.
use Rattle.rk_master.proofs.Words.{◌≡◌, drop, Master, duties, tablets_of}
use Rattle.rk_master.proofs.duties.are_at_rest.Given as goal

abbrev pub invariant-loop-entry : goal.invariant-loop-entry
invariant-loop-entry l =
    (master : Master) → (duties master (tablets_of l.tablets)).sends ≡ (duties master (tablets_of (drop l.entry-index l.tablets))).sends
