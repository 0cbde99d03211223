-- What lanes and sessions keep behind locks and in passes holds of those in which nothing was asked.
use Rattle.rk_shared_lanes.proofs.Words.{◌≡◌, ◌^◌, ◌<◌, ℕ, false, List, [], Option, sym, ap, ◌∙◌, arith, false≢true, Placed, LANES}
use Rattle.rk_shared_lanes.proofs.Words.{Segments, LaneState, Counts, accepted_count, HasCountedCalls, IsKept, IsNoneBelow, IsPart}
use Rattle.rk_shared_lanes.proofs.Words.{IsSoundOrSpent, IsOfRoster, IsUnasked}

module _ {R : Type 0} (lane : LaneState R) (unasked : IsUnasked lane) where
  pub none_accepted : accepted_count lane.ledger ≡ 0
  none_accepted = ap (λ (journal : List Placed). accepted_count (record lane.ledger { journal = journal })) unasked.journal

  pub unasked_counted : HasCountedCalls lane.ledger
  unasked_counted holds apart opened = grind (arith, none_accepted, false≢true)

  -- with shares that count nothing, and that of its number
  pub unasked_kept : (segments : R → Option Segments) (faults : R → ℕ) (tells : Type 0) (masters backups : ℕ) (clients : List ℕ) (counts : Counts) (accepted asked number : ℕ × ℕ)
      → lane.number < LANES → IsOfRoster masters backups clients lane → IsNoneBelow faults counts lane → (tells → IsSoundOrSpent segments lane) → IsPart accepted 0 → IsPart asked 0
      → IsPart number (9 ^ lane.number) → IsKept segments faults tells masters backups clients counts lane accepted asked number
  unasked_kept segments faults tells masters backups clients counts accepted asked number few roster none_below sound none_of_it not_asked numbered = record {
    masters_are = roster.masters_are;
    backups_are = roster.backups_are;
    clients_are = roster.clients_are;
    few = few;
    number_is = numbered;
    asked_is = (not_asked.0, not_asked.1 ∙ sym unasked.asked);
    none_below = none_below;
    accepted_part = none_of_it.0;
    accepted_is = λ told. none_of_it.1 ∙ sym none_accepted;
    counted = λ told. unasked_counted;
    sound = sound;
  }
