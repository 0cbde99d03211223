use Rattle.rk_bucket_table.proofs.Words.{◌≡◌, ◌++◌, [], sym, ◌∙◌, chain, items_in}
use Rattle.rk_bucket_table.proofs.Segments.{rest_ends, rest_in_chain}
use Rattle.rk_bucket_table.proofs.rest.Rest.next.Goals as goal

pub returns-in-None : goal.returns-in-None
returns-in-None c =
    let rest = c.chains.self-inside in
    let none : chain rest.cells.now.slots rest.at ++ items_in rest.heads.now rest.cells.now.slots ≡ [] =
    rest_ends rest.heads.now rest.cells.now.slots rest.at c.chains-test.true c.in-None.ensures.cases c.chains.invariant.rest in
    (sym c.chains.invariant.same ∙ none, none)

pub invariant_of-self-2 : goal.invariant_of-self-2
invariant_of-self-2 c =
    let rest = c.chains.self-inside in
    (rest_in_chain rest.heads.now rest.cells.now.slots rest.at c.index-cell.result.now c.index-cell.ensures c.chains.invariant.rest).1

pub returns : goal.returns
returns c =
    let rest = c.chains.self-inside in
    sym c.chains.invariant.same
    ∙ (rest_in_chain rest.heads.now rest.cells.now.slots rest.at c.index-cell.result.now c.index-cell.ensures c.chains.invariant.rest).0
