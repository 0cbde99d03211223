-- What lies behind a lane's lock stays so, by what became of the lane.
use Rattle.rk_shared_lanes.proofs.Words.{arith, ◌≡◌, ◌^◌, ◌<◌, ℕ, List, [], ◌∷◌, Option, Some, sym, ap, subst, ◌∙◌, NumberMap, LANES}
use Rattle.rk_shared_lanes.proofs.Words.{Segments, Ledger, AreTold, IsSameLane, LaneState, Running, world_with, Counts, LanesGoOn, RoseBy}
use Rattle.rk_shared_lanes.proofs.Words.{lane_counts, HasSameClients, accepted_count, IsGoodLane, HasCountedCalls, IsKept, IsNoneBelow}
use Rattle.rk_shared_lanes.proofs.Words.{IsPart, IsSoundOrSpent, StandsFor}
use Rattle.rk_cluster.proofs.Faults.{rose_then}
use Rattle.rk_shared_lanes.specs.Kept.{HasClients}

-- the clients of a ledger are just these if those of another ledger are, and it has the same
clients_stay : (clients : List ℕ) (before after : Ledger) → HasSameClients before after → HasClients clients before → HasClients clients after
clients_stay clients before after same has = λ client. same client ∙ has client

-- no count of faults of a lane is below these if none was, and none fell
below_still : {R : Type 0} (faults : R → ℕ) (counts : Counts) (old new : LaneState R) → new.number ≡ old.number → LanesGoOn faults [] (old ∷ []) (new ∷ [])
    → IsNoneBelow faults counts old → IsNoneBelow faults counts new
below_still faults counts old new same on above place =
    subst (λ (number : ℕ). RoseBy 0 (counts number place) (lane_counts faults (Some new) place)) (sym same)
    (rose_then 0 0 (counts old.number place) (lane_counts faults (Some old) place) (lane_counts faults (Some new) place) (above place) (on 0 place))

module _ {R : Type 0} (segments : R → Option Segments) (old new : LaneState R) (same : IsSameLane old new) where
  -- the lane represents a good world with what its backups stored before
  pub stands_on : (before after : Running) → (stored : NumberMap Segments) → AreTold segments new.backups stored
      → IsGoodLane old.masters old.number (world_with new after stored) → StandsFor segments new after
  stands_on before after stored told good = grind (arith, world_with)

  -- it stays sound or spent if each good world that it represented leads to one
  pub sound_on : (before after : Running) → old.running ≡ Some before → new.running ≡ Some after
      → (StandsFor segments old before → StandsFor segments new after) → IsSoundOrSpent segments old → IsSoundOrSpent segments new
  sound_on before after was is leads sound = grind arith

module _ {R : Type 0} (segments : R → Option Segments) (faults : R → ℕ) (tells : Type 0) (masters backups : ℕ) (clients : List ℕ) (counts : Counts) (old new : LaneState R)
    (same : IsSameLane old new) where
  -- all of it stays so with these shares
  pub kept_with : (accepted asked number accepted_now asked_now : ℕ × ℕ) → IsKept segments faults tells masters backups clients counts old accepted asked number
      → HasSameClients old.ledger new.ledger → LanesGoOn faults [] (old ∷ []) (new ∷ []) → IsPart asked_now new.ledger.asked → accepted_now.0 ≡ 1
      → (tells → accepted_now.1 ≡ accepted_count new.ledger) → (tells → HasCountedCalls new.ledger) → (tells → IsSoundOrSpent segments new)
      → IsKept segments faults tells masters backups clients counts new accepted_now asked_now number
  kept_with accepted asked number accepted_now asked_now kept added on asked_is part accepted_is counted sound = record {
    masters_are = same.masters ∙ kept.masters_are;
    backups_are = same.backups ∙ kept.backups_are;
    clients_are = clients_stay clients old.ledger new.ledger added kept.clients_are;
    few = subst (λ (n : ℕ). n < LANES) (sym same.number) kept.few;
    number_is = (kept.number_is.0, kept.number_is.1 ∙ ap (λ (n : ℕ). 9 ^ n) (sym same.number));
    asked_is = asked_is;
    none_below = below_still faults counts old new same.number on kept.none_below;
    accepted_part = part;
    accepted_is = accepted_is;
    counted = counted;
    sound = sound;
  }
