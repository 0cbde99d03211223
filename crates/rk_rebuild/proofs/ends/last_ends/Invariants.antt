use Rattle.rk_rebuild.proofs.Words.{◌≡◌, [], drop, flat_map, completions_from}
use Rattle.rk_rebuild.proofs.ends.last_ends.Given as goal

-- with what is left noted, all is noted
abbrev pub invariant-loop-ends : goal.invariant-loop-ends
invariant-loop-ends l =
    completions_from l.last (flat_map (λ ends. ends) (drop l.ends-index l.told))
    ≡ completions_from [] (flat_map (λ ends. ends) l.told)
