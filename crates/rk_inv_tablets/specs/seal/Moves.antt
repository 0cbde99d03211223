-- The condition under which a target seals, with what it needs of a lane that is well formed.
use Rattle.std.specs.Prelude.{◌<◌, ◌+◌, ℕ, All, length}
use Rattle.rk_entry.specs.declared.lists.TheConstants.{FIRST_SIDE_SEGMENT}
use Rattle.rk_sound.specs.View.{View}
use Rattle.rk_sound.specs.Moves.{MaySeal}

-- the side segments that each target here has sealed are there
abbrev pub AreSealedThere : View → ℕ → Type 0
AreSealedThere v master =
    (tablet : ℕ) → All (λ number. number < FIRST_SIDE_SEGMENT + length (v.logs master).sides) (v.pullings master tablet).sealed

-- the side lists of a tablet may be sealed once all is pulled. That what targets have sealed is there is so from the start: numbers of
-- side segments are given in order, and no segment goes away
pub record MaySealThere (v : View) (master tablet : ℕ) : Type 0 where
  pub may : MaySeal v master tablet
  pub there : AreSealedThere v master
