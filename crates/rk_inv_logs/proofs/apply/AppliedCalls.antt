-- What entries record of a key, with one more of them, and of all mutations.
use Rattle.std.proofs.Common.{ℕ, List, sym, subst, inl, inr, Contains, true, ◌≡◌}
use Rattle.rk_inv_base.proofs.Words.{All-weaker, IsReached, Placed, Range, TellAll, is_mutation, is_record_in, cases_Bool, Ended, Entry}
use Rattle.rk_inv_base.proofs.Words.{of_key, tells_of, told, told_by}
use Rattle.rk_inv_logs.proofs.apply.Inserted.{IsInserted, inserted_kept, inserted_out, told_still}

-- what is recorded of a key is still recorded with one more entry
pub told_of_key : (entry : Entry) (old now : List Entry) → IsInserted entry old now → (table : ℕ) (key : List ℕ) (end : Ended) → Contains (told (of_key table key old)) end → Contains (told (of_key table key now)) end
told_of_key entry old now put table key end at = elim (cases_Bool (tells_of table key entry)) [
  | inl tells ↦ told_still entry (of_key table key old) (of_key table key now) (inserted_kept entry old now put (tells_of table key) tells)
      told_by end at
  | inr silent ↦ subst (λ (l : List Entry). Contains (told l) end) (sym (inserted_out entry old now put (tells_of table key) silent)) at
]

-- so if no less is recorded of each key, the end of each mutation still is
pub tell_then : (range : Range) (journal : List Placed) (old now : List Entry) → ((table : ℕ) (key : List ℕ) (end : Ended) → Contains (told (of_key table key old)) end → Contains (told (of_key table key now)) end)
    → TellAll range journal old → TellAll range journal now
tell_then range journal old now more =
    All-weaker
    (λ placed. is_record_in range placed ≡ true → is_mutation placed.call.op ≡ true
    → IsReached (told (of_key placed.call.table placed.call.key old)) placed)
    (λ placed. is_record_in range placed ≡ true → is_mutation placed.call.op ≡ true
    → IsReached (told (of_key placed.call.table placed.call.key now)) placed)
    (λ placed was inside is.
    let reached = was inside is in record {
      end = reached.end;
      stands = more placed.call.table placed.call.key reached.end reached.stands;
      reaches = reached.reaches;
    }) journal
