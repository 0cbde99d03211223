-- The chain gives the words without the first.
use Rattle.std.proofs.Common.{◌≡◌, drop, ap, ◌∙◌}
use Rattle.std.proofs.lemmas.Iterator.{items_from_collect}
use Rattle.std.proofs.lemmas.Iterator.Adapters.{YieldsList-from_skip, YieldsList-from_vec}
use Rattle.std.proofs.lemmas.Result.{IfOk-at_ok}
use Rattle.std.specs.Vec.Iter.{into_iter_items, into_iter_len}
use Rattle.rocksteady.proofs.after_name.Goals as goal

pub returns : goal.returns
returns c =
    IfOk-at_ok (λ after. after.items ≡ drop 1 (into_iter_items c.args.words)) c.in_ok-collect.was
    (items_from_collect _ c.collect.ensures.ran
    (YieldsList-from_skip 1
    (YieldsList-from_vec (into_iter_items c.args.words) (ap into_iter_items c.skip.ensures.source) (ap into_iter_len c.skip.ensures.source ∙ c.args.words.rest.ok.0))
    c.skip.ensures.count))
