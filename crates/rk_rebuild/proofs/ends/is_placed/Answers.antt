use Rattle.rk_rebuild.proofs.Words.{◌≡◌, ◌||◌, Bool, true, false, not, sym, ap, ◌∙◌, flat_map, list_any}
use Rattle.rk_world.specs.Merge.{is_outrun_by, is_same_call}
use Rattle.rk_rebuild.proofs.Placing.{outrun_unplaced, placed_where}
use Rattle.rk_rebuild.proofs.ends.is_placed.Goals as goal

pub returns-then-is_outrun : goal.returns-then-is_outrun
returns-then-is_outrun c = λ all seen members last_is later_is here_is.
    outrun_unplaced all (flat_map (λ ends. ends) members) seen c.args.end.now (sym (c.is_outrun.ensures all last_is) ∙ c.if-is_outrun.true)

pub returns-then-has_call : goal.returns-then-has_call
returns-then-has_call c = λ all seen members last_is later_is here_is.
    let free : list_any (is_outrun_by c.args.end.now) all ≡ false = sym (c.is_outrun.ensures all last_is) ∙ c.if-is_outrun.false in
    let there : list_any (is_same_call c.args.end.now) c.args.later.now ≡ true = sym c.has_call.ensures ∙ c.if-has_call.true in
    ap (λ (b : Bool). not (b || list_any (is_same_call c.args.end.now) c.args.here.now)) (sym there)
    ∙ placed_where all seen members c.args.end.now c.args.later.now c.args.here.now free later_is here_is

pub returns : goal.returns
returns c = λ all seen members last_is later_is here_is.
    let free : list_any (is_outrun_by c.args.end.now) all ≡ false = sym (c.is_outrun.ensures all last_is) ∙ c.if-is_outrun.false in
    let there : list_any (is_same_call c.args.end.now) c.args.later.now ≡ false = sym c.has_call.ensures ∙ c.if-has_call.false in
    ap not c.has_call-2.ensures
    ∙ ap (λ (b : Bool). not (b || list_any (is_same_call c.args.end.now) c.args.here.now)) (sym there)
    ∙ placed_where all seen members c.args.end.now c.args.later.now c.args.here.now free later_is here_is
