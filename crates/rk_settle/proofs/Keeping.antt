-- What clients had said stays.
use Rattle.rk_settle.proofs.Words.{List, [], ◌++◌, sym, ap, ◌∙◌, Said, Keeps}
use Rattle.std.proofs.lemmas.List.{append-nil, append_assoc}

-- if nothing more is said
pub keeps_same : (had : List Said) → Keeps had had
keeps_same had = ([], sym (append-nil had))

-- meanwhile, and further on
pub keeps_then : (first now later : List Said) → Keeps first now → Keeps now later → Keeps first later
keeps_then first now later before after =
    (before.0 ++ after.0, after.1 ∙ ap (λ (list : List Said). list ++ after.0) before.1 ∙ append_assoc first before.0 after.0)
