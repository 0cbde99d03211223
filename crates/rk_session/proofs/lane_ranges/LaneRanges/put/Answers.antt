use Rattle.std.proofs.Common.{◌≡◌, true, false, is_ok, is_some, rules, sym, ap, ◌∙◌, arith, length, vec_len, vec_capacity, ◌++◌, ◌∷◌, []}
use Rattle.std.proofs.lemmas.Fn.{filter_same}
use Rattle.std.proofs.lemmas.List.{append-nil}
use Rattle.rk_session.specs.Cached.{Cached, apart_from}
use Rattle.rk_session.proofs.Owned.{owned_is_one, unowned_is_none}
use Rattle.rk_session.proofs.lane_ranges.LaneRanges.put.Goals as goal

pub returns-then-is_some-clause-ranges : goal.returns-then-is_some-clause-ranges
returns-then-is_some-clause-ranges c =
    let stays : c.retain.new.self.items ≡ apart_from c.args.located c.args.self.now.ranges =
    filter_same _ _ _ (λ x b f' k. search rules) _ _ c.retain.ensures.filtered
    ∙ ap (λ (cached : Cached). apart_from c.args.located cached.ranges) c.self.view_is in
    let capacity : vec_capacity c.retain.new.self ≡ c.args.self.now.capacity = c.retain.ensures.capacity ∙ ap (λ (cached : Cached). cached.capacity) c.self.view_is in
    let len : vec_len c.retain.new.self ≡ length c.retain.new.self.items = c.retain.new.self.ok.0 in
    let short : length c.retain.new.self.items ≡ length (apart_from c.args.located c.args.self.now.ranges) = ap length stays in
    let stored : is_ok c.push.result ≡ true = c.push.ensures.succeeds (omega (arith, c.requires)) in
    let owned : is_some c.args.located.owner ≡ true = sym c.is_some.ensures ∙ c.if-is_some.true in
    (rw stored at c.push.ensures.items)
    ∙ ap (λ ranges. ranges ++ c.args.located ∷ []) stays
    ∙ ap (λ ranges. apart_from c.args.located c.args.self.now.ranges ++ ranges) (sym (owned_is_one c.args.located c.args.located.owner owned))

pub returns-else-is_some-clause-ranges : goal.returns-else-is_some-clause-ranges
returns-else-is_some-clause-ranges c =
    let stays : c.retain.new.self.items ≡ apart_from c.args.located c.args.self.now.ranges =
    filter_same _ _ _ (λ x b f' k. search rules) _ _ c.retain.ensures.filtered
    ∙ ap (λ (cached : Cached). apart_from c.args.located cached.ranges) c.self.view_is in
    let unowned : is_some c.args.located.owner ≡ false = sym c.is_some.ensures ∙ c.if-is_some.false in
    stays
    ∙ sym (append-nil (apart_from c.args.located c.args.self.now.ranges))
    ∙ ap (λ ranges. apart_from c.args.located c.args.self.now.ranges ++ ranges) (sym (unowned_is_none c.args.located c.args.located.owner unowned))
