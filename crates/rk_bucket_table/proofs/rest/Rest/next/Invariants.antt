use Rattle.std.proofs.Common.{◌≡◌, ◌++◌, length}
use Rattle.rk_bucket_table.specs.Cells.{IsRest, chain, items_in}
use Rattle.rk_bucket_table.proofs.rest.Rest.next.Given as goal

-- only the ends of chains were passed
abbrev pub invariant-chains : goal.invariant-chains
invariant-chains l = record {
  rest : IsRest l.self-inside.heads.now l.self-inside.cells.now.slots l.self-inside.at;
  same : chain l.self-inside.cells.now.slots l.self-inside.at ++ items_in l.self-inside.heads.now l.self-inside.cells.now.slots ≡ l.fn.self;
}

abbrev pub decreases-chains : goal.decreases-chains
decreases-chains l = length l.self-inside.heads.now
