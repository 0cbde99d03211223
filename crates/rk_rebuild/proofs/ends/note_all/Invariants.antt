use Rattle.rk_rebuild.proofs.Words.{◌≡◌, drop, completions_from}
use Rattle.rk_rebuild.proofs.ends.note_all.Given as goal

-- with what is left noted, all is noted
abbrev pub invariant-loop-end : goal.invariant-loop-end
invariant-loop-end l = completions_from l.last (drop l.end-index l.ends) ≡ completions_from l.fn.last l.ends
