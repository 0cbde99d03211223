-- The law of the journal: a view stays sound with another journal that leaves the same and loses no record.
use Rattle.rk_inv_base.proofs.Words.{arith, ◌≡◌, ℕ, false, true, List, ◌++◌, Some, sym, ap, ◌∙◌, ⊎_elim, inl, inr, All, slice_get, ◌<◌}
use Rattle.rk_inv_base.proofs.Words.{length, slice_index_or, All-weaker, IfSome_then, hash_of, Ended, Placed, Range, IsLegal, Map}
use Rattle.rk_inv_base.proofs.Words.{map_after, IsRisingAbove, AreOneMutation, Entry, ends_of, is_covered, Row, Node, Body, base_map, told}
use Rattle.rk_inv_base.proofs.Words.{has_record, AreHandedOver, IsKnown, IsStagedEnd, ReachAll, TellAll, Says, IsLastAsked, IsRest}
use Rattle.rk_inv_base.proofs.Words.{IsStaged, call_ends, records_of, IsAfterSeen, View, truths, rests, SoundView, CallsOf, AskedOf}
use Rattle.rk_inv_base.proofs.Words.{IsTruth, Message, get, target_truth, handed_for_grant, handed_by}
use Rattle.rk_entry.specs.declared.entry.Entry.TheVariants as entries
use Rattle.rk_model.specs.History.{record_of}

-- a journal may be replaced by a lawful one that leaves the same map, and has a record of each mutation and each end that the first one
-- had; no call gets a record that is staged
pub record MayReplaceJournal (v : View) (after : List Placed) : Type 0 where
  pub covered : All (λ placed. is_covered v.rows placed.call.table (hash_of placed.call.key) ≡ true) after
  pub legal : IsLegal (base_map v.base) after
  pub rising : IsRisingAbove 0 after
  pub seen : All (λ placed. IsAfterSeen (v.asked placed.call.client) placed) after
  pub leaves : ◌≡◌ {A = Map} (map_after (base_map v.base) after) (map_after (base_map v.base) v.journal)
  pub known : (end : Ended) → IsKnown v.base v.journal end → IsKnown v.base after end
  pub reach_all : (range : Range) (ends : List Ended) → ReachAll range v.journal ends → ReachAll range after ends
  pub tell_all : (range : Range) (list : List Entry) → TellAll range v.journal list → TellAll range after list
  pub once :
      (i j : ℕ) (a b : Placed) → slice_get after i ≡ Some a → slice_get after j ≡ Some b → AreOneMutation a.call b.call → i ≡ j
  pub legal_behind : (more : List Placed) → IsLegal (base_map v.base) (v.journal ++ more) → IsLegal (base_map v.base) (after ++ more)
  pub leaves_behind :
      (more : List Placed)
      → ◌≡◌ {A = Map} (map_after (base_map v.base) (after ++ more)) (map_after (base_map v.base) (v.journal ++ more))
  pub unrecorded : (client seq : ℕ) → has_record v.journal client seq ≡ false → has_record after client seq ≡ false
  pub says : (to : Node) (body : Body) → Says v.journal to body → Says after to body
  pub asked : AskedOf (record v { journal = after })

module _ (v : View) (after : List Placed) (sound : SoundView v) (may : MayReplaceJournal v after) where
  abbrev now : View
  now = record v { journal = after }

  handed_over : (range : Range) (list : List Ended) → AreHandedOver v.base range v.journal list → AreHandedOver v.base range after list
  handed_over range list old = grind arith

  calls : CallsOf now (truths v) (rests v)
  calls = record {
    once = may.once;
    reached = All-weaker _ _ (λ row. may.tell_all row.range (truths v row)) v.rows sound.calls.reached;
    recorded = All-weaker _ _ (λ row. All-weaker (IsKnown v.base v.journal) (IsKnown v.base after) may.known (told (truths v row))) v.rows sound.calls.recorded;
    moving = λ k d within.
        let row : Row = slice_index_or v.rows k d in
        IfSome_then (target_truth v.written v.handed row row.phase) (sound.calls.moving k d within) (may.tell_all row.range);
    answering = λ q k d within counts says. may.reach_all _ _ (sound.calls.answering q k d within counts says);
    handed_on = λ k d within.
        let row : Row = slice_index_or v.rows k d in
        IfSome_then (handed_for_grant row v.handovers v.handed) (sound.calls.handed_on k d within) (λ h. handed_over row.range h.ends);
    sent = λ n m found k d within.
        let row : Row = slice_index_or v.rows k d in
        IfSome_then (handed_by row v.handovers m.body) (sound.calls.sent n m found k d within) (λ h. handed_over row.range h.ends);
    known = λ q r lives.
        All-weaker _ _
        (λ end. ⊎_elim (λ (k : IsKnown v.base v.journal end). inl (may.known end k))
        (λ (s : IsStagedEnd v.rows (rests v) q r (v.handovers q r).term end). inr s))
        (ends_of (v.completions q r)) (sound.calls.known q r lives);
  }

  -- what is staged has no record as before
  still_last : (client seq table : ℕ) (key : List ℕ) → IsLastAsked v.asked v.journal client seq table key → IsLastAsked v.asked after client seq table key
  still_last client seq table key last = grind arith

  still_staged : (entry : Entry) → IsStaged v.base v.asked v.journal entry → IsStaged v.base v.asked after entry
  unfolding still_last
  still_staged (entries.Held held) = λ staged.
      record { last = still_last held.client held.seq held.table held.key staged.last; leaves = staged.leaves }
  still_staged (entries.Refused refused) = still_last refused.client refused.seq refused.table refused.key
  still_staged (entries.Carried carried) = All-weaker (IsKnown v.base v.journal) (IsKnown v.base after) may.known carried.ends
  still_staged (entries.Joined joined) = λ staged. staged

  goes_on : (range : Range) (sure left : List Entry) → IsRest v.base range sure left v.journal v.asked → IsRest v.base range sure left after v.asked
  goes_on range sure left old = grind (arith, records_of, call_ends, record_of, still_staged)

  pub view_with_journal : SoundView now
  view_with_journal =
      let truth : All (λ row. IsTruth v.base row.range (truths v row) after) v.rows = λ k d within.
      let tells = sound.truth.true k d within in record {
        plain = tells.plain;
        live = λ table key inside. tells.live table key inside ∙ ap (λ (m : Map). record_of (m table key)) (sym may.leaves);
      } in
      assumption (
        calls,
        rw (← may.leaves) at sound.counters.low,
        rw (← may.leaves) at sound.counters.moving,
        λ (k : ℕ) (d : Row) (within : k < length v.rows). goes_on _ _ _ (sound.rest.goes_on k d within),
        λ (n : ℕ) (m : Message) (found : get v.wire n ≡ Some m). may.says m.to m.body (sound.messages.others n m found),
      )
