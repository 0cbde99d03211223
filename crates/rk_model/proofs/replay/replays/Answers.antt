use Rattle.std.proofs.Common.{ℕ, List, take, refl, ap, sym, ◌∙◌}
use Rattle.rk_types.specs.declared.history.Placed.{Placed}
use Rattle.rk_model.specs.History.{Map, empty_map, map_after}
use Rattle.rk_model.specs.Standing.{entry_of}
use Rattle.rk_model.proofs.Walked.{legal_more, map_after_more, allowed_at}
use Rattle.rk_model.proofs.replay.replays.Goals as goal

-- the record was allowed, and what it leaves was taken in
pub loop-place-preserved : goal.loop-place-preserved
loop-place-preserved c =
    let history : List Placed = c.args.history.now in
    let place : ℕ = c.loop-place.place in
    let placed : Placed = c.index-history-place.result in
    let before : Map = map_after empty_map (take place history) in
    let kept = c.loop-place.invariant in
    let after = map_after_more history place placed c.loop-place-test.true c.index-history-place.is in
    record {
      legal =
          legal_more history place placed c.loop-place-test.true c.index-history-place.is kept.legal
          (allowed_at before placed (entry_of c.standing_at-standing.result)
          (c.standing_at-standing.ensures before kept.standing) (c.if-not-allows.ensures.0 refl));
      standing = λ name.
          c.in_ok-take_in.ensures before kept.standing name ∙ ap (λ (m : Map). m name.0 name.1.now) (sym after);
    }
