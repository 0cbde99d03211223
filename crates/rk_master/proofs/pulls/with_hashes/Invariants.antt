use Rattle.rk_master.proofs.Words.{◌≡◌, take, flat_map, records_of}
use Rattle.rk_table.specs.Items.{at_hash, live_in}
use Rattle.rk_master.proofs.pulls.with_hashes.Given as goal

abbrev pub invariant-loop-hash : goal.invariant-loop-hash
invariant-loop-hash l = l.items.items ≡ flat_map (λ hash. at_hash hash (live_in l.range (records_of l.records))) (take l.hash-index l.hashes)
