-- What a crash makes of a view.
use Rattle.std.specs.Prelude.{ℕ, false}
use Rattle.rk_sound.specs.View.{View}
use Rattle.rk_sound.specs.Small.{put}

-- a master crashes; the world's change is its own
abbrev pub crashed : View → ℕ → View
crashed v master = record v { live = put v.live master false }
