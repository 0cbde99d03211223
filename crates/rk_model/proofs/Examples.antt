-- Worked examples: small histories for which the definitions are seen to mean what they should.
use Rattle.std.proofs.Common.{◌≡◌, ℕ, Bool, [], ◌∷◌, Some, true, false, get_or, refl, ap, arith, lit<}
use Rattle.std.specs.Prelude.{codes}
use Rattle.rk_types.specs.declared.call.Op.{Op}
use Rattle.rk_types.specs.declared.call.Op.TheVariants.{Get, Put, CondPut, Delete}
use Rattle.rk_types.specs.declared.call.Outcome.{Outcome}
use Rattle.rk_types.specs.declared.call.Outcome.TheVariants.{Found, Absent, Written, Deleted}
use Rattle.rk_types.specs.declared.history.Placed.{Placed}
use Rattle.rk_model.specs.History.{IsLegal, IsFirstWrong, empty_map, live_after}
use Rattle.rk_model.specs.Merged.{merged, journal_of}
use Rattle.rk_model.specs.Ordered.{Caller, IsAnswered, IsOrdered}
use Rattle.rk_model.proofs.Answered.{ordered_answered, ordered_at_first}
use Rattle.rk_types.specs.declared.history.Receipt.{Receipt}
use Rattle.std.proofs.lemmas.Bool.{ne_eqb}
use Rattle.std.proofs.Common.{◌<◌, None, cond, eqb, length, zero, suc}

-- a record of the key `a` of table 1, with this stamp
abbrev placed_at : ℕ → Bool → Op → Outcome → Placed
placed_at stamp accepted op outcome = record {
  call = record { client = 1; seq = stamp; table = 1; key = codes "a"; op = op };
  outcome = outcome;
  stamp = stamp;
  accepted = accepted;
}

-- the record of `x`, with version 1
abbrev written : Placed
written = placed_at 1 true (Put (codes "x")) (Written 1)

-- a write and a read of what was written are legal
write_then_read : IsLegal empty_map (written ∷ placed_at 2 true Get (Found 1 (codes "x")) ∷ [])
write_then_read = (lit< tt, (refl, tt))

-- and leave the record
left_by_them : live_after empty_map (written ∷ placed_at 2 true Get (Found 1 (codes "x")) ∷ []) 1 (codes "a") ≡ Some (1, codes "x")
left_by_them = refl

-- the first byte that a read returned, 0 if it returned none
abbrev first_byte : Outcome → ℕ
first_byte (Found version value) = get_or value 0 0
first_byte _ = 0

-- another value is the first wrong answer
wrong_value : IsFirstWrong (written ∷ placed_at 2 true Get (Found 1 (codes "y")) ∷ []) 1
wrong_value = record {
  within = lit< tt;
  legal_before = (lit< tt, tt);
  wrong = λ same. let bytes : ◌≡◌ {A = ℕ} 121 120 = ap first_byte same in omega (arith, bytes);
}

-- a removal leaves no record, but its version stays below the next
removed_and_written :
    IsLegal empty_map
    (written ∷ placed_at 2 true Delete (Deleted 2) ∷ placed_at 3 true (CondPut 0 (codes "y")) (Written 3) ∷ [])
removed_and_written = (lit< tt, (lit< tt, (lit< tt, tt)))

-- two lanes in the order of their stamps, without a read that nobody accepted
two_lanes :
    merged ((placed_at 1 true Get Absent ∷ placed_at 4 false Get Absent ∷ placed_at 5 true Get Absent ∷ [])
    ∷ (placed_at 2 true Get Absent ∷ placed_at 3 false Delete Absent ∷ []) ∷ [])
    ≡ record { lane = 0; placed = placed_at 1 true Get Absent }
    ∷ record { lane = 1; placed = placed_at 2 true Get Absent }
    ∷ record { lane = 1; placed = placed_at 3 false Delete Absent }
    ∷ record { lane = 0; placed = placed_at 5 true Get Absent }
    ∷ []
two_lanes = refl

-- at one stamp the smaller lane comes first
one_stamp :
    merged ((placed_at 7 true Get Absent ∷ []) ∷ (placed_at 7 true Get Absent ∷ []) ∷ [])
    ≡ record { lane = 0; placed = placed_at 7 true Get Absent } ∷ record { lane = 1; placed = placed_at 7 true Get Absent } ∷ []
one_stamp = refl

-- two empty journals have no record in any lane
none_there : (lane k : ℕ) → k < length (journal_of ([] ∷ [] ∷ []) lane) → ⊥
none_there zero k within = omega arith
none_there (suc zero) k within = omega arith
none_there (suc (suc lane)) k within = omega arith

-- callers of whom none has a receipt or a call
abbrev nobody : ℕ → Caller
nobody client = record { receipts = []; outstanding = None }

-- what client 1 keeps of its first answer, recorded first in lane 1
abbrev first_receipt : Receipt
first_receipt = record { call = written.call; outcome = Written 1; lane = 1; place = 0; stamp = 1 }

-- the callers after it
abbrev one_answered : ℕ → Caller
one_answered client = cond (eqb client 1) (record { receipts = first_receipt ∷ []; outstanding = None }) (nobody client)

-- the answer to a first call is one
first_answer : IsAnswered ([] ∷ [] ∷ []) nobody one_answered 1 written first_receipt
first_answer = record {
  in_range = lit< tt;
  latest = λ lane k d within. absurd (none_there lane k within);
  accepted = refl;
  settled = λ k d within. absurd (omega arith);
  next = refl;
  told = refl;
  place = refl;
  kept = record {
    own = refl;
    others = λ client apart.
        ap (λ b. cond b (record { receipts = first_receipt ∷ []; outstanding = None }) (nobody client)) (ne_eqb client 1 apart);
  };
}

-- so the history of that one call is ordered with its callers
first_ordered : IsOrdered ([] ∷ (written ∷ []) ∷ []) (record { lane = 1; placed = written } ∷ []) one_answered
first_ordered =
    ordered_answered ([] ∷ [] ∷ []) nobody one_answered 1 written first_receipt
    (ordered_at_first ([] ∷ [] ∷ []) nobody refl (λ client. refl)) first_answer
