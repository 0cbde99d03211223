use Rattle.rk_master.proofs.Words.{◌≡◌, drop, find, serves_key, tablets_of}
use Rattle.rk_master.proofs.state.serving.Given as goal

abbrev pub invariant-loop-entry : goal.invariant-loop-entry
invariant-loop-entry l =
    find (λ entry. serves_key l.table l.key entry.1) (tablets_of l.tablets)
    ≡ find (λ entry. serves_key l.table l.key entry.1) (tablets_of (drop l.entry-index l.tablets))
