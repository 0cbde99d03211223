-- How many messages may be sent in the lanes of a cluster before all of them are worn.
use Rattle.std.proofs.Common.{◌≡◌, ◌≤◌, ◌<◌, ◌+◌, ◌-◌, ℕ, zero, suc, subst, ⊎_elim, arith}
use Rattle.rk_scripts.proofs.Words.{cases_lt, LANES, Cluster, lane_at, WORN_NUMBER, World}

-- the sum of what the numbers below another one are mapped to
sum_below : (ℕ → ℕ) → ℕ → ℕ
sum_below f zero = 0
sum_below f (suc n) = sum_below f n + f n

-- no more is summed if none is more
no_more : (f g : ℕ → ℕ) (n : ℕ) → ((q : ℕ) → g q ≤ f q) → sum_below g n ≤ sum_below f n
unfolding sum_below
no_more f g zero each = omega arith
no_more f g (suc n) each = omega (arith, no_more f g n each, each n)

-- and less if one is less
less : (f g : ℕ → ℕ) (n at : ℕ) → ((q : ℕ) → g q ≤ f q) → at < n → g at < f at → sum_below g n < sum_below f n
unfolding sum_below
less f g zero at each inside fewer = absurd (omega (arith, inside))
less f g (suc n) at each inside fewer =
    ⊎_elim (λ (before : at < n). omega (arith, less f g n at each before fewer, each n))
    (λ (last : n ≤ at). let is : at ≡ n = omega (arith, last, inside) in omega (arith, no_more f g n each, at_last is)) (cases_lt at n)
  where
    at_last : at ≡ n → g n < f n
    at_last is = subst (λ (q : ℕ). g q < f q) is fewer

-- in a lane
abbrev sends_left_in : World → ℕ
sends_left_in w = WORN_NUMBER - w.wire.sent

-- in all
pub sends_left : Cluster → ℕ
sends_left cluster = sum_below (λ lane. sends_left_in (lane_at cluster lane)) LANES

-- no fewer were sent in each lane
abbrev pub SendNoFewer : Cluster → Cluster → Type 0
SendNoFewer before after = (q : ℕ) → (lane_at before q).wire.sent ≤ (lane_at after q).wire.sent

lower : (most before after : ℕ) → before ≤ after → most - after ≤ most - before
lower most before after more = omega (arith, more)

lowered : (most before after : ℕ) → before < most → before < after → most - after < most - before
lowered most before after below more = omega (arith, below, more)

-- no more may be sent then
pub left_no_more : (before after : Cluster) → SendNoFewer before after → sends_left after ≤ sends_left before
unfolding sends_left
left_no_more before after sent =
    no_more (λ lane. sends_left_in (lane_at before lane)) (λ lane. sends_left_in (lane_at after lane)) LANES
    (λ q. lower WORN_NUMBER (lane_at before q).wire.sent (lane_at after q).wire.sent (sent q))

-- and fewer if more were sent in a lane that was not worn
pub left_fewer : (before after : Cluster) (lane : ℕ) → SendNoFewer before after → lane < LANES → (lane_at before lane).wire.sent < WORN_NUMBER
    → (lane_at before lane).wire.sent < (lane_at after lane).wire.sent → sends_left after < sends_left before
unfolding sends_left
left_fewer before after lane sent inside below more =
    less (λ lane. sends_left_in (lane_at before lane)) (λ lane. sends_left_in (lane_at after lane)) LANES lane
    (λ q. lower WORN_NUMBER (lane_at before q).wire.sent (lane_at after q).wire.sent (sent q)) inside
    (lowered WORN_NUMBER (lane_at before lane).wire.sent (lane_at after lane).wire.sent below more)
