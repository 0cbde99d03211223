-- Occurrences, one after the other.
use Rattle.rk_cluster.proofs.Words.{arith, ℕ, List, [], ◌∷◌, Option, None, Some, refl, sym, subst, append-nil, Said, Segments, Cluster}
use Rattle.rk_cluster.proofs.Words.{Occurrence, acted, all_acted, Acts, ActsOne, Carries, IsActedAs, ClusterState}
use Rattle.rk_cluster.specs.Acted.{Acted, going_on}
use Rattle.rk_cluster.proofs.Leading.{leads_nowhere, leads_on}

module _ {R : Type 0} (segments : R → Option Segments) where
  -- what follows on one occurrence
  pub gone_on : (before : Cluster) (next final : ClusterState R) (told : List Said) (broken : Option ℕ) (later : List Occurrence) (it : Acted)
      → IsActedAs segments before next [] None it → IsActedAs segments it.cluster final told broken (all_acted it.cluster later)
      → IsActedAs segments before final told broken (going_on it it.worn (λ cluster. all_acted cluster later))
  gone_on before next final told broken later it is after =
      search (all_acted, leads_on, is.worn, after.cluster, it.cluster, it.came, is.leads, after.leads, is.said, after.said, after.worn)

  pub first_acts : (old next final : ClusterState R) (occurrence : Occurrence) (later : List Occurrence) (told : List Said) (broken : Option ℕ)
      → ActsOne segments old next occurrence [] None → Acts segments next final later told broken → Acts segments old final (occurrence ∷ later) told broken
  first_acts old next final occurrence later told broken one acts cluster is = grind (arith, gone_on, acted)

  -- nothing follows if something is worn
  pub worn_stays : (before : Cluster) (next : ClusterState R) (told : List Said) (number : ℕ) (later : List Occurrence) (it : Acted)
      → IsActedAs segments before next told (Some number) it
      → IsActedAs segments before next told (Some number) (going_on it it.worn (λ cluster. all_acted cluster later))
  worn_stays before next told number later it is =
      subst (λ (o : Option ℕ). IsActedAs segments before next told (Some number) (going_on it o (λ cluster. all_acted cluster later))) (sym is.worn) is

  pub worn_acts : (old next : ClusterState R) (occurrence : Occurrence) (later : List Occurrence) (number : ℕ)
      → ActsOne segments old next occurrence [] (Some number) → Acts segments old next (occurrence ∷ later) [] (Some number)
  worn_acts old next occurrence later number one cluster is = worn_stays cluster next [] number later (acted cluster occurrence) (one cluster is)

  -- one occurrence alone, and none
  pub last_stays : (before : Cluster) (next : ClusterState R) (told : List Said) (it : Acted) → IsActedAs segments before next told None it
      → IsActedAs segments before next told None (going_on it it.worn (λ cluster. all_acted cluster []))
  last_stays before next told it is = grind (arith, all_acted, append-nil)

  pub only_acts : (old next : ClusterState R) (occurrence : Occurrence) (told : List Said) → ActsOne segments old next occurrence told None
      → Acts segments old next (occurrence ∷ []) told None
  only_acts old next occurrence told one cluster is = last_stays cluster next told (acted cluster occurrence) (one cluster is)

  pub none_acts : (state : ClusterState R) → Acts segments state state [] [] None
  none_acts state cluster is = record { cluster = is; leads = leads_nowhere cluster; said = refl; worn = refl }

  -- ---- what is left

  pub carries_all : (state : ClusterState R) (all : List Occurrence) → Carries segments state state all all
  carries_all state all final more told broken acts = acts
