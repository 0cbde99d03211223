-- If no count of a replica rose, no call has failed.
use Rattle.std.proofs.Common.{◌≡◌, ◌<◌, ℕ, List, [], ◌∷◌, All, length, map, replicate, Option, IfSome, refl, ap, arith}
use Rattle.rk_scripts.proofs.Words.{All-head, Fate, Kept, faultless, all_fates}
use Rattle.rk_cluster.proofs.Faults.{is_of_it, times_both}
use Rattle.rk_cluster.specs.Faults.{Counts, GoOn, MOST_COUNT, RoseBy, times_lost}
use Rattle.rk_cluster.specs.Replicas.{IsLost, Lost}
use Rattle.rk_settle.specs.Faults.{RoseInRounds}
use Rattle.rk_scripts.specs.play.Alone.{IsFaultless, NoneRose}

-- a count that stays, and is less than the greatest, rose by nothing
stayed : (many : ℕ) (before now : Option ℕ) → RoseBy many before now → now ≡ before → IfSome now (λ count. count < MOST_COUNT) → many ≡ 0
stayed many before now rose same below = grind arith

never_lost : (fates : List Fate) (before now : Counts) → GoOn fates before now → NoneRose before now → (lane place : ℕ) → times_lost lane place fates ≡ 0
never_lost fates before now on none lane place =
    stayed (times_lost lane place fates) (before lane place) (now lane place) (on lane place) (none.same lane place) (none.below lane place)

-- the first of some fates is no loss, if there is none among them
lost_first : (lane place left : ℕ) (fates : List Fate) → times_lost lane place (Lost lane place left ∷ fates) ≡ 0 → ⊥
lost_first lane place left fates none = grind (arith, is_of_it)

all_kept : (fates : List Fate) → ((lane place : ℕ) → times_lost lane place fates ≡ 0) → fates ≡ replicate (length fates) Kept
all_kept [] none = refl
all_kept (Kept ∷ fates) none = ap (λ (rest : List Fate). Kept ∷ rest) (all_kept fates (λ lane place. omega (arith, none lane place)))
all_kept (Lost lane place left ∷ fates) none = absurd (lost_first lane place left fates (none lane place))

all_faultless : (fates : List (List Fate)) → ((lane place : ℕ) → times_lost lane place (all_fates fates) ≡ 0) → fates ≡ faultless (map length fates)
all_faultless [] none = refl
all_faultless (first ∷ later) none =
    let one = all_kept first (λ lane place. omega (arith, times_both lane place first (all_fates later), none lane place)) in
    let two = all_faultless later (λ lane place. omega (arith, times_both lane place first (all_fates later), none lane place)) in
    λ i. one i ∷ two i

pub none_lost : (fates : List (List Fate)) (before now : Counts) → GoOn (all_fates fates) before now → NoneRose before now → IsFaultless fates
none_lost fates before now on none = record { moves = map length fates; are = all_faultless fates (never_lost (all_fates fates) before now on none) }

-- no round has seen a rise
no_round : (failed : List Fate) → All IsLost failed → ((lane place : ℕ) → times_lost lane place failed ≡ 0) → length failed ≡ 0
no_round [] lost none = refl
no_round (Kept ∷ failed) lost none = absurd (All-head IsLost Kept failed lost)
no_round (Lost lane place left ∷ failed) lost none = absurd (lost_first lane place left failed (none lane place))

pub none_in_rounds : (rounds : ℕ) (before now : Counts) → RoseInRounds rounds before now → NoneRose before now → rounds ≡ 0
none_in_rounds rounds before now rose none =
    omega (arith, rose.often, no_round rose.failed rose.are_lost (never_lost rose.failed before now rose.rose none))
