-- What is so of each lane from its start on: what targets have sealed is there.
use Rattle.std.specs.Prelude.{ℕ}
use Rattle.rk_world.specs.World.{World}
use Rattle.rk_sound.specs.View.{view}
use Rattle.rk_inv_tablets.specs.seal.Moves.{AreSealedThere}

-- the side segments that the targets of each master have sealed are there
abbrev pub AllSealedThere : World → Type 0
AllSealedThere w = (master : ℕ) → AreSealedThere (view w) master
