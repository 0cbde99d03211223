-- The good lanes of a cluster: their journals are lawful, and legal.
use Rattle.std.proofs.Common.{arith, ℕ, map, slice_index_or, List, [], length, refl, subst, suc, sym, zero, ◌<◌, ◌∷◌, ◌≡◌}
use Rattle.rk_inv_base.proofs.Words.{All-nil, Base, Cluster, HasOwnKeys, IsLegal, IsRisingAbove, World, base_map, cases_lt, get_or_past}
use Rattle.rk_inv_base.proofs.Words.{journal_of, lane_at, new_world, none-some, empty_map}
use Rattle.rk_model.proofs.Lanes.{legal_merged}
use Rattle.rk_model.specs.Merged.{merged, records_of}
use Rattle.rk_world.specs.Cluster.{journals_of}
use Rattle.rk_runs.proofs.history.Clusters.{IsGoodLane, lawful_lane, ledgers_of}
use Rattle.rk_runs.proofs.history.Ordered.{IsLawfulLane}

-- what a mapped list has at a place
mapped_at : {X Y : Type 0} (f : X → Y) (xs : List X) (i : ℕ) (d : X) → slice_index_or (map f xs) i (f d) ≡ f (slice_index_or xs i d)
mapped_at f [] i d = refl
mapped_at f (x ∷ xs) zero d = refl
mapped_at f (x ∷ xs) (suc i) d = mapped_at f xs i d

module _ (cluster : Cluster) where
  -- the journals of a cluster are those of its lanes
  pub journals_are : (lane : ℕ) → journal_of (journals_of cluster) lane ≡ (ledgers_of cluster lane).journal
  journals_are lane = mapped_at (λ (w : World). w.ledger.journal) cluster.lanes lane (new_world lane 0 0)

  -- what each lane of the cluster has, and so has one in which nothing happened
  pub each_lane : (P : ℕ → World → Type 0) → ((lane : ℕ) → lane < length cluster.lanes → P lane (lane_at cluster lane))
      → ((lane : ℕ) → P lane (new_world lane 0 0)) → (lane : ℕ) → P lane (lane_at cluster lane)
  each_lane P there new lane = grind (arith, get_or_past, new_world, cases_lt)

  module _ {Steady : World → Type 0} {masters : ℕ}
      (good : (lane : ℕ) → lane < length cluster.lanes → IsGoodLane Steady masters lane (lane_at cluster lane)) where
    pub lawful : (lane : ℕ) → IsLawfulLane lane (ledgers_of cluster lane)
    lawful = each_lane (λ lane w. IsLawfulLane lane w.ledger)
        (λ lane inside. lawful_lane Steady masters lane (lane_at cluster lane) (good lane inside))
        (λ lane. record {
          rising = tt;
          own_keys = All-nil _;
          once = λ i j a b first second one. absurd (none-some a first);
          asked = All-nil _;
        })

    pub legal : IsLegal empty_map (records_of (merged (journals_of cluster)))
    legal =
        legal_merged empty_map (journals_of cluster)
        (λ lane. subst (IsRisingAbove 0) (sym (journals_are lane)) (lawful lane).rising)
        (λ lane. subst (HasOwnKeys lane) (sym (journals_are lane)) (lawful lane).own_keys)
        (λ lane.
        subst (IsLegal empty_map) (sym (journals_are lane))
        (each_lane (λ lane w. IsLegal empty_map w.ledger.journal)
        (λ lane inside.
        subst (λ (base : Base). IsLegal (base_map base) (lane_at cluster lane).ledger.journal) (good lane inside).base_is
        (good lane inside).sound.truth.legal)
        (λ lane. tt) lane))
