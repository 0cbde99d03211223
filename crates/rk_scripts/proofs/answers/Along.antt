-- What clients say along occurrences: part by part, and as `all_acted` has it.
use Rattle.std.proofs.Common.{arith, ◌≡◌, ℕ, List, [], ◌∷◌, ◌++◌, Option, refl, sym, ap, ◌∙◌, append-nil, append_assoc}
use Rattle.rk_scripts.proofs.Words.{Said, accept, ask, Cluster, Occurrence, cluster_after, cluster_run, lane_at, session_at, step, acted}
use Rattle.rk_scripts.proofs.Words.{all_acted, going_on, said_in, came_is, said_along}

-- along one list and then another, what is said is that along the first, and then that along the second in the cluster that it made
pub said_joins : (start : Cluster) (before after : List Occurrence)
    → said_along start (before ++ after) ≡ said_along start before ++ said_along (cluster_run start before) after
said_joins start [] after = refl
said_joins start (occurrence ∷ before) after =
    let next : Cluster = cluster_after start occurrence in
    let first : List Said = (acted start occurrence).said in
    ap (λ (said : List Said). first ++ said) (said_joins next before after)
    ∙ sym (append_assoc first (said_along next before) (said_along (cluster_run next before) after))

then_said : (cluster : Cluster) (occurrence : Occurrence) (later : List Occurrence) (worn : Option ℕ)
    → ((next : Cluster) → (all_acted next later).said ≡ said_along next (all_acted next later).came)
    → (going_on (acted cluster occurrence) worn (λ next. all_acted next later)).said
    ≡ said_along cluster (going_on (acted cluster occurrence) worn (λ next. all_acted next later)).came
then_said cluster occurrence later worn rest =
    grind (arith, acted, all_acted, said_along, came_is, said_joins, step, lane_at, ask, session_at, accept, said_in, append-nil)

-- what clients said when occurrences were to come is what they said along those that came
pub came_said : (cluster : Cluster) (occurrences : List Occurrence)
    → (all_acted cluster occurrences).said ≡ said_along cluster (all_acted cluster occurrences).came
came_said cluster [] = refl
came_said cluster (occurrence ∷ later) =
    then_said cluster occurrence later (acted cluster occurrence).worn (λ next. came_said next later)
