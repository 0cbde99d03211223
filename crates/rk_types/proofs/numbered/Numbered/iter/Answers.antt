use Rattle.std.proofs.Common.{ℕ, Some, ◌≡◌, ◌∙◌, subst, List}
use Rattle.std.specs.Prelude.{All}
use Rattle.rk_types.specs.NumberMap.{get}
use Rattle.rk_types.proofs.Trees.{get_tree}
use Rattle.rk_types.proofs.numbered.Numbered.iter.Goals as goal

pub returns-clause-found : goal.returns-clause-found
returns-clause-found g c =
    let tree = c.self.inside.values in
    subst (λ entries. All (λ entry. get entries entry.0 ≡ Some entry.1) entries) c.self.view_is
    (λ k d within. get_tree tree _ ∙ c.iter.ensures.found k d within)
