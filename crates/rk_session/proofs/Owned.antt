-- A range with an owner is cached, and one without is not.
use Rattle.std.proofs.Common.{◌≡◌, ℕ, true, false, [], ◌∷◌, Option, Some, None, is_some, refl}
use Rattle.rk_message.specs.declared.calls.Located.{Located}
use Rattle.rk_world.specs.Client.{owned_range}

-- a range with an owner is a list of one
pub owned_is_one : (located : Located) (owner : Option ℕ) → is_some owner ≡ true → owned_range located owner ≡ located ∷ []
owned_is_one located None is = cc
owned_is_one located (Some master) is = refl

-- a range without one is none
pub unowned_is_none : (located : Located) (owner : Option ℕ) → is_some owner ≡ false → owned_range located owner ≡ []
unowned_is_none located None is = refl
unowned_is_none located (Some master) is = cc
