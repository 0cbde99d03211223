-- A message at a place of a lane's wire.
use Rattle.rk_cluster.proofs.Words.{◌≡◌, ℕ, List, [], ◌∷◌, is_none, slice_get, Option, None, Some, IfSome, sym, ap, subst, ◌∙◌, NumberMap}
use Rattle.rk_cluster.proofs.Words.{Segments, Traffic, number_at, Gave, Session, Cluster, Happens, lane_at, World, new_world, LaneState}
use Rattle.rk_cluster.proofs.Words.{Running, all_acted, code_where, place_code, ActsBy, HasCode, IsActedAs, forget_makes, IsOf, IsWorld}
use Rattle.rk_cluster.proofs.Words.{IsHappening, state_of, NoPlace}
use Rattle.rk_world.specs.declared.event.Event.TheVariants as events
use Rattle.rk_cluster.specs.Makes.{forget_by}
use Rattle.rk_cluster.proofs.Carrying.{only_acts}
use Rattle.rk_cluster.proofs.Deeds.{happens_plain}
use Rattle.rk_cluster.proofs.Worlds.{world_at}

module _ {R : Type 0} (segments : R → Option Segments) (lanes : List (LaneState R)) (sessions : NumberMap Session) (place : ℕ) (lane : LaneState R) (wire : Traffic)
    (there : slice_get lanes place ≡ Some lane) (known : IfSome lane.running (λ running. wire ≡ running.wire)) where
  -- the wire of a lane that is known is that of its world
  pub wire_is : (cluster : Cluster) → IsOf segments (state_of lanes sessions) cluster → (lane_at cluster place).wire ≡ wire
  wire_is cluster is =
      let it : IsWorld segments lane (lane_at cluster place) = world_at segments lanes cluster.lanes place lane (new_world place 0 0) is.lanes there in
      let here : wire ≡ it.running.wire = subst (λ (o : Option Running). IfSome o (λ running. wire ≡ running.wire)) it.runs known in
      ap (λ (w : World). w.wire) it.is ∙ sym here

  module _ (number : ℕ) where
    pub place_by : (found : Option ℕ) → number_at number wire ≡ found → HasCode segments (state_of lanes sessions) (λ cluster. place_code cluster place number) (code_where (is_none found) NoPlace)
    place_by found found_is cluster is =
        ap (λ (t : Traffic). code_where (is_none (number_at number t)) NoPlace) (wire_is cluster is) ∙ ap (λ (o : Option ℕ). code_where (is_none o) NoPlace) found_is

    module _ (new : List (LaneState R)) (message : ℕ) (found : number_at number wire ≡ Some message) where
      makes_it : (broken : Option ℕ) → ((cluster : Cluster) → IsOf segments (state_of lanes sessions) cluster
          → IsActedAs segments cluster (state_of new sessions) [] broken (all_acted cluster (Happens place (events.Forget message) (Gave None) ∷ [])))
          → ActsBy segments (state_of lanes sessions) (state_of new sessions) (λ cluster. forget_makes cluster place number) [] broken
      makes_it broken acts cluster is =
          subst (λ (o : Option ℕ). IsActedAs segments cluster (state_of new sessions) [] broken (all_acted cluster (forget_by place o)))
          (sym (ap (number_at number) (wire_is cluster is) ∙ found)) (acts cluster is)

      pub forgets : {faults : R → ℕ} → IsHappening segments faults lanes new place (events.Forget message) None
          → ActsBy segments (state_of lanes sessions) (state_of new sessions) (λ cluster. forget_makes cluster place number) [] None
      forgets happening =
          makes_it None
          (only_acts segments (state_of lanes sessions) (state_of new sessions) (Happens place (events.Forget message) (Gave None)) []
          (happens_plain segments lanes new place (events.Forget message) None tt happening sessions))
