use Rattle.std.proofs.Common.{◌≡◌, take}
use Rattle.std.specs.Prelude.{fold}
use Rattle.rk_world.specs.Material.{with_number}
use Rattle.rk_rebuild.specs.Numbers.{IsSetOf}
use Rattle.rk_rebuild.proofs.material.add_all.Given as goal

-- those so far are added
abbrev pub invariant-loop-number : goal.invariant-loop-number
invariant-loop-number l =
    (l.numbers.items ≡ fold with_number l.fn.numbers.items (take l.number-index l.more)) × IsSetOf l.seen l.numbers.items
