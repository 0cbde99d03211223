-- The counts of faults of replicas that were dealt to eight lanes, in the order in which they were dealt.
use Rattle.rk_cluster.proofs.Words.{◌≡◌, ◌≤◌, ◌<◌, ◌+◌, ◌*◌, ℕ, zero, suc, List, [], ◌∷◌, map, length, slice_get, Option, None, Some, refl}
use Rattle.rk_cluster.proofs.Words.{sym, ap, subst, ◌∙◌, arith, option_map, slice_get_past, LANES, LaneState, replicas_of, IsEighth}
use Rattle.rk_cluster.proofs.Words.{LanesGoOn, RoseBy, counts_in, lane_counts, times_lost, Fate}
use Rattle.rk_cluster.proofs.Worlds.{something_within}

-- what is at a place of a list once each element has changed
pub get_map : {X Y : Type 0} (f : X → Y) (xs : List X) (place : ℕ) → slice_get (map f xs) place ≡ option_map f (slice_get xs place)
get_map f [] place = refl
get_map f (x ∷ xs) zero = refl
get_map f (x ∷ xs) (suc place) = get_map f xs place

module _ {R : Type 0} (faults : R → ℕ) where
  -- the counts of a lane are those of its replicas
  lane_counts_are : (lane : LaneState R) (place : ℕ) → lane_counts faults (Some lane) place ≡ option_map faults (slice_get (replicas_of lane.backups) place)
  lane_counts_are lane place = grind (arith, get_map)

  module _ (lanes : List (LaneState R)) (replicas : List R) (eight : length lanes ≡ LANES)
      (dealt : (number : ℕ) (lane : LaneState R) → slice_get lanes number ≡ Some lane → IsEighth replicas number (replicas_of lane.backups)) where
    -- so they are those of the replicas that were dealt to it
    pub dealt_count : (lane place : ℕ) → lane < LANES → counts_in faults lanes lane place ≡ slice_get (map faults replicas) (LANES * place + lane)
    dealt_count lane place within =
        let its = something_within lanes lane (omega (arith, within, eight)) in
        ap (λ (o : Option (LaneState R)). lane_counts faults o place) its.1
        ∙ lane_counts_are its.0 place
        ∙ ap (option_map faults) (dealt lane its.0 its.1 place)
        ∙ sym (get_map faults replicas (LANES * place + lane))

  module _ (fates : List Fate) (old new : List (LaneState R)) (eight : length old ≡ LANES) (eight_new : length new ≡ LANES) (on : LanesGoOn faults fates old new) where
    -- the counts of replicas go on in their order if those of the lanes do
    pub replicas_go_on : (before now : List R)
        → ((number : ℕ) (lane : LaneState R) → slice_get old number ≡ Some lane → IsEighth before number (replicas_of lane.backups))
        → ((number : ℕ) (lane : LaneState R) → slice_get new number ≡ Some lane → IsEighth now number (replicas_of lane.backups))
        → (lane place : ℕ) → lane < LANES
        → RoseBy (times_lost lane place fates) (slice_get (map faults before) (LANES * place + lane)) (slice_get (map faults now) (LANES * place + lane))
    replicas_go_on before now dealt dealt_new lane place within =
        subst (λ (count : Option ℕ). RoseBy (times_lost lane place fates) count (slice_get (map faults now) (LANES * place + lane))) (dealt_count old before eight dealt lane place within)
        (subst (λ (count : Option ℕ). RoseBy (times_lost lane place fates) (counts_in faults old lane place) count) (dealt_count new now eight_new dealt_new lane place within)
        (on lane place))

    -- no replica of a lane fails that is not there
    pub none_beyond : (lane place : ℕ) → LANES ≤ lane → times_lost lane place fates ≡ 0
    none_beyond lane place past =
        subst (λ (o : Option (LaneState R)). RoseBy (times_lost lane place fates) (lane_counts faults o place) None) (slice_get_past old lane (omega (arith, eight, past)))
        (subst (λ (o : Option (LaneState R)). RoseBy (times_lost lane place fates) (counts_in faults old lane place) (lane_counts faults o place))
        (slice_get_past new lane (omega (arith, eight_new, past))) (on lane place))
