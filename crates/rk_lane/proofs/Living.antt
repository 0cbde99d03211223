-- Masters that live beside another one.
use Rattle.rk_lane.proofs.Words.{arith, ◌≡◌, ◌+◌, ◌==◌, ◌&&◌, ℕ, suc, Bool, false, [], not, list_any, range_with_len, world_of, Parts}
use Rattle.rk_world.specs.World.{lives}

-- whether a master lives and is another one than this
abbrev pub is_beside : Parts → ℕ → ℕ → Bool
is_beside parts master other = lives (world_of parts []) other && not (other == master)

-- if the first of some numbers does not pass a test, one of the others does or none
pub any_next : (p : ℕ → Bool) (first count rest : ℕ) → count ≡ suc rest → p first ≡ false → list_any p (range_with_len first count) ≡ list_any p (range_with_len (first + 1) rest)
any_next p first count rest more fails = grind arith
