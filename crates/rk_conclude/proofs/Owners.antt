-- The master that owns the tablet of a drive in all lanes, as lanes in code report it.
use Rattle.rk_conclude.proofs.Words.{arith, ◌≡◌, ℕ, Bool, List, [], ◌∷◌, Option, Some, None, slice_get, refl, ap, ◌∙◌, list_all, Segments}
use Rattle.rk_conclude.proofs.Words.{World, LaneState, AreWorlds, LanesTell, is_owner, owner_at}
use Rattle.std.proofs.Common.{cond}
use Rattle.rk_cluster.specs.Told.{LaneTells}
use Rattle.rk_conclude.specs.Results.{one_owner, owner_in_all}

module _ {R : Type 0} (segments : R → Option Segments) where
  -- if no lane is there
  none_there : (lanes : List (LaneState R)) (worlds : List World) → slice_get lanes 0 ≡ None → AreWorlds segments lanes worlds → one_owner worlds ≡ None
  none_there [] [] none are = refl
  none_there [] (w ∷ worlds) none are = absurd are
  none_there (lane ∷ lanes) worlds none are = absurd (cc none)

  -- it is the owner in the first lane, if it owns the tablet in all
  by_first : (lanes : List (LaneState R)) (worlds : List World) (first : LaneState R) (owner : Option ℕ) → slice_get lanes 0 ≡ Some first
      → LaneTells segments first owner_at owner → AreWorlds segments lanes worlds → one_owner worlds ≡ owner_in_all worlds owner
  by_first [] worlds first owner there tells are = absurd (cc there)
  by_first (lane ∷ lanes) [] first owner there tells are = absurd are
  by_first (lane ∷ lanes) (w ∷ worlds) first owner there tells are = grind (arith, are.0)

  module _ (lanes : List (LaneState R)) where
    pub nobody : slice_get lanes 0 ≡ None → LanesTell segments lanes (λ cluster. one_owner cluster.lanes) None
    nobody none sessions cluster is = none_there lanes cluster.lanes none is.lanes

    module _ (first : LaneState R) (there : slice_get lanes 0 ≡ Some first) where
      pub unowned : LaneTells segments first owner_at None → LanesTell segments lanes (λ cluster. one_owner cluster.lanes) None
      unowned tells sessions cluster is = by_first lanes cluster.lanes first None there tells is.lanes

      pub owned_by : (master : ℕ) (all : Bool) → LaneTells segments first owner_at (Some master)
          → LanesTell segments lanes (λ cluster. list_all (λ w. is_owner master (owner_at w)) cluster.lanes) all
          → LanesTell segments lanes (λ cluster. one_owner cluster.lanes) (cond all (Some master) None)
      owned_by master all tells each sessions cluster is =
          by_first lanes cluster.lanes first (Some master) there tells is.lanes
          ∙ ap (λ (b : Bool). cond b (Some master) None) (each sessions cluster is)
