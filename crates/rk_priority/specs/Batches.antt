-- What is behind the reference once the borrow of a batch ends.
use Rattle.std.specs.Prelude.{◌≡◌, ⊤}
use Rattle.std.specs.Borrow.{follows_so, MutBor, Fml}
use mathlib.Core.Option.{none}
use Rattle.rk_priority.specs.Hashes.{Hashes}
use Rattle.rk_priority.specs.contracts.wanted.Wanted.{the_row}

-- the hashes behind the reference are these
abbrev pub EndsAs : MutBor Hashes → Hashes → Fml
EndsAs wanted hashes = follows_so the_row the_row wanted.ghost_name none (λ _ _. ⊤) (λ last. last ≡ hashes)
