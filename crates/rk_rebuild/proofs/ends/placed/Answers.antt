use Rattle.rk_rebuild.proofs.Words.{List, take, sym, ap, ◌∙◌, flat_map, Ended}
use Rattle.rk_types.specs.declared.call.End.TheVariants.{Written}
use Rattle.rk_rebuild.proofs.Placing.{placed_here, placed_elsewhere}
use Rattle.rk_rebuild.proofs.ends.placed.Goals as goal
use Rattle.rk_rebuild.proofs.ends.placed.Goals.{then-is_placed+in_ok-push, else-is_placed}

-- a default end
abbrev other : Ended
other = record { client = 0; seq = 0; end = Written 0 }

pub loop-end-preserved : goal.loop-end-preserved
loop-end-preserved c = λ all members last_is later_is.
    let later : List Ended = flat_map (λ ends. ends) members in
    let told : List Ended = c.args.told.now in
    let was = c.loop-end.invariant all members last_is later_is in
    let tested = c.is_placed.ensures all (take c.loop-end.end-index told) members last_is later_is (c.as_slice.ensures.value ∙ was) in
    elim c.if-is_placed.branch [
      | then-is_placed+in_ok-push w ↦
          ap (λ ends. ends.items) w.ends-is ∙ w.in_ok-push.ensures.items
          ∙ placed_here all later told c.loop-end.ends.items c.loop-end.end-index other c.loop-end-test.true was (sym tested ∙ w.if-is_placed.true)
      | else-is_placed w ↦
          ap (λ ends. ends.items) w.ends-is
          ∙ placed_elsewhere all later told c.loop-end.ends.items c.loop-end.end-index other c.loop-end-test.true was (sym tested ∙ w.if-is_placed.false)
    ]
