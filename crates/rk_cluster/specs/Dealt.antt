-- What is dealt to eight lanes in turn.
use Rattle.std.specs.Prelude.{◌≡◌, ◌+◌, ◌*◌, ℕ, List, length, slice_get, Some}
use Rattle.std.specs.Global.{Vec}
use Rattle.rk_types.specs.declared.hashing.TheConstants.{LANES}

-- a lane has each eighth of these things, the first of them at the lane's own number
abbrev pub IsEighth : {X : Type 0} → List X → ℕ → List X → Type 0
IsEighth things lane its = (place : ℕ) → slice_get its place ≡ slice_get things (8 * place + lane)

-- things were dealt to eight lanes
pub record AreDealt {X : Type 0} (things : List X) (hands : List (Vec X)) : Type 0 where
  pub count : length hands ≡ LANES
  pub each : (lane : ℕ) (hand : Vec X) → slice_get hands lane ≡ Some hand → IsEighth things lane hand.items
