-- How the coordinators learn that a master has crashed.
use Rattle.rk_cluster.proofs.Words.{◌≡◌, ◌≤◌, ℕ, Bool, true, ◌&&◌, not, List, [], ◌∷◌, nat_le, slice_get, Option, Some, IfSome, sym, ap}
use Rattle.rk_cluster.proofs.Words.{subst, ◌∙◌, arith, nat_tests, NumberMap, Segments, Session, Cluster, lane_at, World, has_crashed}
use Rattle.rk_cluster.proofs.Words.{new_world, LaneState, Running, world_with, code_where, first_code, notice_code, HasCode, is_dead}
use Rattle.rk_cluster.proofs.Words.{is_master, IsOf, IsWorld, state_of, Unknown}
use Rattle.rk_cluster.specs.Looks.{master_count}
use Rattle.rk_cluster.specs.declared.code.Code.TheVariants.{Alive}
use Rattle.rk_cluster.proofs.Worlds.{world_at}

-- a number from 1 to a count is within the count
pub is_within : (number count : ℕ) → 1 ≤ number → number ≤ count → (nat_le 1 number && nat_le number count) ≡ true
is_within number count first last = grind (arith, nat_tests, first, last)

module _ {R : Type 0} (segments : R → Option Segments) (lanes : List (LaneState R)) (sessions : NumberMap Session) where
  module _ (lane : LaneState R) (masters master : ℕ) (crashed : Bool) (there : slice_get lanes 0 ≡ Some lane) (many : lane.masters ≡ masters)
      (counted : IfSome lane.running (λ running. running.coordinator.masters ≡ lane.masters))
      (known : IfSome lane.running (λ running. crashed ≡ has_crashed (world_with lane running []) master)) (cluster : Cluster) (is : IsOf segments (state_of lanes sessions) cluster) where
    first_world : IsWorld segments lane (lane_at cluster 0)
    first_world = world_at segments lanes cluster.lanes 0 lane (new_world 0 0 0) is.lanes there

    pub count_is : master_count cluster ≡ masters
    count_is =
        ap (λ (w : World). w.coordinator.masters) first_world.is
        ∙ subst (λ (o : Option Running). IfSome o (λ running. running.coordinator.masters ≡ lane.masters)) first_world.runs counted ∙ many

    pub dead_is : is_dead cluster master ≡ crashed
    dead_is =
        ap (λ (w : World). has_crashed w master) first_world.is
        ∙ sym (subst (λ (o : Option Running). IfSome o (λ running. crashed ≡ has_crashed (world_with lane running []) master)) first_world.runs known)

  pub notice_by : (lane : LaneState R) (masters master : ℕ) (here crashed dead : Bool) → slice_get lanes 0 ≡ Some lane → lane.masters ≡ masters
      → IfSome lane.running (λ running. running.coordinator.masters ≡ lane.masters)
      → IfSome lane.running (λ running. crashed ≡ has_crashed (world_with lane running []) master)
      → (nat_le 1 master && nat_le master masters) ≡ here → crashed ≡ dead
      → HasCode segments (state_of lanes sessions) (λ cluster. notice_code cluster master) (first_code (code_where (not here) Unknown ∷ code_where (not dead) Alive ∷ []))
  notice_by lane masters master here crashed dead there many counted known tested told cluster is =
      let one : is_master cluster master ≡ here = ap (λ (n : ℕ). nat_le 1 master && nat_le master n) (count_is lane masters master crashed there many counted known cluster is) ∙ tested in
      let two : is_dead cluster master ≡ dead = dead_is lane masters master crashed there many counted known cluster is ∙ told in
      λ i. first_code (code_where (not (one i)) Unknown ∷ code_where (not (two i)) Alive ∷ [])
