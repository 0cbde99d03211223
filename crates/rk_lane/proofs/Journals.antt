-- Journals that grow: what was there before is at their front.
use Rattle.rk_lane.proofs.Words.{◌≡◌, ℕ, List, [], ◌++◌, length, take, Option, Some, None, refl, sym, append_assoc, append-nil, arith, Call}
use Rattle.rk_lane.proofs.Words.{Ended, Placed, Rebuilt, outcome_of, Ledger, asked_by, seen_of, with_all_served, with_end, with_ends}
use Rattle.rk_lane.proofs.Words.{with_rebuilt, with_record, with_served, Served}
use Rattle.std.proofs.lemmas.List.{take-append-le, take_all}
use Rattle.rk_types.specs.declared.call.Outcome.{Outcome}
use Rattle.rk_inv_wellformed.proofs.lanes.Ledgers.{ended_is, kept_by_fold, served_is}

-- a ledger has another one's journal at the front of its own, and its clients and calls
pub record IsGrownFrom (before : Ledger) (ledger : Ledger) : Type 0 where
  pub later : List Placed
  pub journal : ledger.journal ≡ before.journal ++ later
  pub asked : ledger.asked ≡ before.asked
  pub clients : ledger.clients ≡ before.clients

-- it has its own
pub grown_by_none : (before : Ledger) → IsGrownFrom before before
grown_by_none before = record { later = []; journal = sym (append-nil before.journal); asked = refl; clients = refl }

grown_by_record : (before ledger : Ledger) (call : Call) (outcome : Outcome) (seen : ℕ) → IsGrownFrom before ledger → IsGrownFrom before (with_record ledger call outcome seen)
grown_by_record before ledger call outcome seen grown = grind (arith, append_assoc)

-- it grows when calls are served
pub grown_by_served : (seen : ℕ) (before : Ledger) (served : List Served) → IsGrownFrom before (with_all_served seen before served)
grown_by_served seen before served =
    kept_by_fold (IsGrownFrom before) (with_served seen)
    (λ ledger one grown.
    served_is (IsGrownFrom before) seen ledger one grown (grown_by_record before ledger one.call one.outcome seen grown)
    (grown_by_record before ledger one.call one.outcome (seen_of (asked_by ledger one.call.client)) grown))
    served before (grown_by_none before)

grown_by_ends : (before : Ledger) (ends : List Ended) → IsGrownFrom before (with_ends before ends)
grown_by_ends before ends =
    kept_by_fold (IsGrownFrom before) with_end
    (λ ledger end grown.
    ended_is (IsGrownFrom before) ledger end grown
    (λ asked is. grown_by_record before ledger asked.call (outcome_of end.end) asked.seen grown))
    ends before (grown_by_none before)

-- and when a rebuild is taken
pub grown_by_rebuilt : (before : Ledger) (rebuilt : Option Rebuilt) → IsGrownFrom before (with_rebuilt before rebuilt)
grown_by_rebuilt before None = grown_by_none before
grown_by_rebuilt before (Some rebuilt) =
    let grown = grown_by_ends before rebuilt.ends in
    record { later = grown.later; journal = grown.journal; asked = grown.asked; clients = grown.clients }

-- as it was once it is cut back
pub cut_to : (before ledger : Ledger) → IsGrownFrom before ledger → take (length before.journal) ledger.journal ≡ before.journal
cut_to before ledger grown = grind (arith, take-append-le, take_all)
