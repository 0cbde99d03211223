-- The chain tests each of the others.
use Rattle.std.proofs.Common.{◌∙◌, sym, rules, tests}
use Rattle.std.proofs.lemmas.Iterator.{YieldsList-from_slice}
use Rattle.std.proofs.lemmas.Iterator.Search.{all_from_yields_List}
use Rattle.std.proofs.lemmas.List.Folds.{list_all-map}
use denote.Ref.{Bor}
use Rattle.rk_tablet_map.specs.declared.phase.Phase.{Phase}
use Rattle.rk_lines.specs.Tablets.{is_like}
use Rattle.rk_lines.proofs.tablets.are_like.Goals as goal

pub returns : goal.returns
returns c =
    all_from_yields_List (λ (other : Bor Phase). is_like c.args.first.now other.now) _ _ c.all.result c.all.ensures.ran
    (YieldsList-from_slice c.args.others.now cc) (λ x b q k. search (rules, tests))
    ∙ sym (list_all-map (is_like c.args.first.now) (λ (other : Bor Phase). other.now) c.args.others.now)
