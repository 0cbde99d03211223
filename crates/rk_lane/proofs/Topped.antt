-- The greatest number of a lane, once all that is in it is counted: a number that all of that keeps to, and that is not above the greatest.
use Rattle.rk_lane.proofs.Words.{◌≡◌, ◌≤◌, ℕ, max, ◌∷◌, ◌++◌, ap, arith, last_stamp, Master, World, counters_of, greatest, with_top}
use Rattle.rk_lane.proofs.Words.{KeepsTo}
use Rattle.rk_world.specs.World.{standing}
use Rattle.rk_inv_wellformed.proofs.maps.Lists.{all_back, all_given}
use Rattle.rk_inv_wellformed.proofs.room.Rises.{top_within}
use Rattle.rk_inv_wellformed.proofs.lanes.Worlds.{IsLimit, counters_in, seen_within, sent_within, stamp_within, stamps_seen, terms_in, terms_within, top_is_limit}

-- if all that is in a world keeps to a number, and the greatest is not below it, it is the greatest
pub topped : (w : World) (top : ℕ) → KeepsTo top w → top ≤ (with_top w).top → with_top w ≡ record w { top = top }
topped w top keeps reached =
    let most : (with_top w).top ≤ top = top_within top w keeps in
    let same : max w.top (greatest (standing w)) ≡ top = omega arith in
    ap (λ (t : ℕ). record w { top = t }) same

-- if all that is in a world keeps to what was the greatest, it stays
pub still_topped : (w : World) → KeepsTo w.top w → with_top w ≡ w
still_topped w keeps = topped w w.top keeps (omega arith)

-- all that is in a world keeps to the greatest once it is counted
pub keeps_once_topped : (w : World) → KeepsTo (with_top w).top w
keeps_once_topped w =
    let limit : ℕ = (with_top w).top in
    let all : IsLimit limit w = top_is_limit w in
    record {
      top = omega arith;
      sent = sent_within w limit all;
      stamp = stamp_within w limit all;
      seen = seen_within w limit all;
      terms = terms_within w limit all;
      counters =
          all_given (λ (n : ℕ). n ≤ limit) (λ (entry : ℕ × Master). counters_of entry.1) w.masters
          (all_back (λ (n : ℕ). n ≤ limit) (w.wire.sent ∷ last_stamp w.ledger.journal ∷ (stamps_seen w ++ terms_in w)) (counters_in w) all);
    }
