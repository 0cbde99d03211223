use Rattle.rk_side_log.proofs.Words.{◌∙◌, ◌-◌, ℕ, List, vec_len, sym, ap, subst, Held, Side, IsFilled, bytes_in, items_read}
use Rattle.rk_side_log.proofs.Filled.{items_filled, filled_again, filled_more}
use Rattle.rk_side_log.proofs.side_log.SideLog.make.Goals as goal

-- the segments with the new ones are filled with the same items
filled_now : (c : goal.After-make_segments) → IsFilled (bytes_in c.make_segments.new.segments.items) c.self.inside.used (items_read (bytes_in c.self.inside.segments.items))
filled_now c =
    let items : List Held = items_read (bytes_in c.self.inside.segments.items) in
    subst (λ (segments : List (List ℕ)). IsFilled segments c.self.inside.used items) (sym c.make_segments.ensures.empty)
    (filled_more (bytes_in c.self.inside.segments.items) c.self.inside.used (vec_len c.make_segments.new.segments - vec_len c.self.inside.segments) items c.self.invariant)

pub invariant_of-self : goal.invariant_of-self
invariant_of-self c = filled_again _ _ _ (filled_now c)

pub returns-clause-items : goal.returns-clause-items
returns-clause-items c = items_filled _ _ _ (filled_now c) ∙ ap (λ (s : Side). s.items) c.self.view_is
