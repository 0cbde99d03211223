-- The entry of a call comes into the truth of a row, and its record into the journal: the row still gives its history, and so does each
-- other one.
use Rattle.std.proofs.Common.{◌≡◌, ℕ, suc, true, false, List, [], ◌∷◌, ◌++◌, Option, refl, sym, ap, ◌∙◌, subst, inl, inr, arith, ◌≢◌, All}
use Rattle.std.proofs.Common.{AllPairs, Contains}
use Rattle.rk_inv_base.proofs.Words.{false≢true, All-cons, All-contains, All-nil, All-push, All-tail, Contains-push, Call, Ended, Outcome}
use Rattle.rk_inv_base.proofs.Words.{Placed, Range, legal_back, legal_push, IsLegal, IsLegal-append, Map, map_after, map_after-append}
use Rattle.rk_inv_base.proofs.Words.{map_with, with_change, change_of, is_mutation, Entry, first_stands, none_stands, stands_cases}
use Rattle.rk_inv_base.proofs.Words.{record_of, Base, base_map, outcome_of, told, told_by, next_record, seen_of, of_key, tells_of, has_key}
use Rattle.rk_inv_base.proofs.Words.{counts, LastCall, IsEntryOf, IsKnown, IsReached, Reaches, TellAll, is_record_in, AreAboveMap}
use Rattle.rk_inv_base.proofs.Words.{IsLastAsked, IsStaged, call_ends, record_of_last, records_of}
use Rattle.rk_inv_logs.proofs.Words.{record_for, known_still, all_by, TellHistory, map_record_of}
use Rattle.rk_inv_logs.proofs.apply.AppliedCalls.{tell_then, told_of_key}
use Rattle.rk_inv_logs.proofs.apply.AppliedCounters.{low_inserted, tells_its}
use Rattle.rk_inv_logs.proofs.apply.AppliedRest.{all_staged}
use Rattle.rk_inv_logs.proofs.apply.AppliedTruth.{live_inserted, live_last}
use Rattle.rk_inv_logs.proofs.apply.Applying.{IsCallEnd, change_by}
use Rattle.rk_inv_logs.proofs.apply.Inserted.{AreNewest, IsInserted, above_first, above_inserted, inserted_kept, newest_inserted}
use Rattle.rk_inv_logs.proofs.apply.Inserted.{plain_inserted, told_cases, told_new}
use Rattle.rk_inv_logs.proofs.made.MadeOf.{IsOfLast, history_beside, map_beside}

-- the entry of a call was first in the rest of a row, and comes into its truth; the call is its client's last, has no record, and leaves
-- what its entry does
pub record Serving : Type 0 where
  pub base : Base
  pub range : Range
  pub asked : ℕ → Option LastCall
  pub journal : List Placed
  pub truth : List Entry
  pub now : List Entry
  pub rest : List Entry
  pub call : Call
  pub entry : Entry
  pub end : Ended
  pub was : TellHistory base range truth (entry ∷ rest) journal asked
  pub put : IsInserted entry truth now
  pub legal : IsLegal (base_map base) journal
  pub own : IsEntryOf call entry
  pub ended : IsCallEnd call entry end
  pub last : IsLastAsked asked journal call.client call.seq call.table call.key
  pub same_call : last.last.call ≡ call
  pub leaves : change_of call.op (outcome_of end.end) ≡ change_by entry

module _ (s : Serving) where
  abbrev outcome : Outcome
  outcome = outcome_of s.end.end

  -- its record
  abbrev pub new : Placed
  new = next_record s.journal s.call outcome (seen_of (s.asked s.call.client))

  abbrev pub after : List Placed
  after = s.journal ++ new ∷ []

  mutation : is_mutation s.call.op ≡ true
  mutation = ap (λ (c : Call). is_mutation c.op) (sym s.same_call) ∙ s.last.mutation

  -- ---- the map

  abbrev map_was : Map
  map_was = map_after (base_map s.base) s.journal

  map_with_new : ◌≡◌ {A = Map} (map_after (base_map s.base) (s.journal ++ new ∷ [])) (map_with (map_after (base_map s.base) s.journal) new)
  map_with_new = map_after-append (base_map s.base) s.journal (new ∷ [])

  map_is : ◌≡◌ {A = Map} (map_after (base_map s.base) (s.journal ++ new ∷ [])) (with_change (map_after (base_map s.base) s.journal) s.call.table s.call.key (change_by s.entry))
  map_is = map_with_new ∙ ap (with_change map_was s.call.table s.call.key) s.leaves

  -- the records that the staged calls of the row were to make begin with its own
  records_first : records_of s.asked (call_ends (s.entry ∷ s.rest)) ≡ record_for s.call (outcome_of s.end.end) ∷ records_of s.asked (call_ends s.rest)
  records_first = grind (arith, records_of, call_ends, record_of_last, record_for)

  -- so it may end so behind the journal, and the others may go on behind it
  was_legal : IsLegal (map_after (base_map s.base) s.journal) (record_for s.call (outcome_of s.end.end) ∷ records_of s.asked (call_ends s.rest))
  was_legal = legal_back (base_map s.base) s.journal (record_for s.call outcome ∷ records_of s.asked (call_ends s.rest))
      (rw records_first at s.was.goes_on.legal)

  pub legal_now : IsLegal (base_map s.base) (s.journal ++ new ∷ [])
  legal_now = legal_push (base_map s.base) s.journal new s.legal was_legal.0

  -- ---- the record of the call

  -- it is known
  pub known_new : IsKnown s.base (s.journal ++ new ∷ []) s.end
  known_new = inl (record {
    placed = new;
    stands = Contains-push s.journal new;
    fits = record {
      mutation = mutation;
      client = sym s.ended.client;
      seq = sym s.ended.seq;
      outcome = refl;
    };
  })

  pub known : (end : Ended) → IsKnown s.base s.journal end → IsKnown s.base (s.journal ++ new ∷ []) end
  known = known_still s.journal (new ∷ []) s.base

  -- its end reaches it
  pub reaches_new : Reaches s.end new
  reaches_new = record { client = s.ended.client; reached = inr (sym s.ended.seq, refl) }

  -- the entry records its end, and nothing else
  pub tells_end : (end : Ended) → Contains (told_by s.entry) end → s.end ≡ end
  tells_end end at = grind (arith, stands_cases, none_stands)

  pub tells_it : Contains (told_by s.entry) s.end
  tells_it = rw s.ended.tells (first_stands s.end [])

  -- ---- the row

  -- the entry is above all of the row
  pub newest_here : AreNewest s.truth s.entry
  newest_here = (above_first s.truth s.rest s.entry s.was.above).0

  pub tell_here : (old now : List Entry) → IsInserted s.entry old now → TellAll s.range s.journal old → TellAll s.range (s.journal ++ new ∷ []) now
  tell_here old now put tells =
      All-push
      (λ placed. is_record_in s.range placed ≡ true → is_mutation placed.call.op ≡ true
      → IsReached (told (of_key placed.call.table placed.call.key now)) placed)
      s.journal new
      (tell_then s.range s.journal old now (told_of_key s.entry old now put) tells)
      (λ inside is. record {
        end = s.end;
        stands =
            told_new s.entry (of_key s.call.table s.call.key old) (of_key s.call.table s.call.key now)
            (inserted_kept s.entry old now put (tells_of s.call.table s.call.key) (tells_its s.call s.entry s.own)) told_by s.end tells_it;
        reaches = reaches_new;
      })

  pub low_here : (old now : List Entry) → IsInserted s.entry old now → AreAboveMap s.range (map_after (base_map s.base) s.journal) old → AreAboveMap s.range (map_after (base_map s.base) (s.journal ++ new ∷ [])) now
  low_here old now put low = rw map_is (low_inserted s.range map_was s.call s.entry old now s.own put low)

  -- the other calls of the row are of other clients
  its_one : AllPairs (λ x y. x.client ≢ y.client) (s.end ∷ call_ends s.rest)
  its_one = rw s.ended.ends_it at s.was.goes_on.one

  pub its_others : All (λ end. end.client ≢ s.call.client) (call_ends s.rest)
  its_others k d within same = its_one 0 (suc k) d (omega arith) (omega (arith, within)) (s.ended.client ∙ sym same)

  pub history_here : TellHistory s.base s.range s.now s.rest (s.journal ++ new ∷ []) s.asked
  history_here =
      let start : Map = base_map s.base in
      let made : List Placed = records_of s.asked (call_ends s.rest) in
      let behind : ◌≡◌ {A = Map} (map_after start ((s.journal ++ new ∷ []) ++ made)) (map_after (map_with map_was new) made) =
      map_after-append start (s.journal ++ new ∷ []) made ∙ ap (λ (m : Map). map_after m made) map_with_new in
      record {
        leaves = record {
          plain = plain_inserted s.truth s.now s.entry s.put newest_here s.was.leaves.plain;
          live = λ table key within.
              live_inserted s.truth s.now s.entry s.put newest_here table key
              ∙ live_last map_was s.truth s.call table key s.entry s.own newest_here (s.was.leaves.live table key within)
              ∙ ap (λ (m : Map). map_record_of (m table key)) (sym map_is);
        };
        above = above_inserted s.entry s.truth s.now s.rest s.put s.was.above;
        ends = tell_here s.truth s.now s.put s.was.ends;
        known = all_by (IsKnown s.base (s.journal ++ new ∷ [])) (told s.now) (λ end at.
            elim (told_cases s.entry s.truth s.now s.put told_by end at) [
              | inl own ↦ subst (IsKnown s.base (s.journal ++ new ∷ [])) (tells_end end own) known_new
              | inr old ↦ known end (All-contains (IsKnown s.base s.journal) (told s.truth) end s.was.known old)
            ]);
        low = low_here s.truth s.now s.put s.was.low;
        goes_on = record {
          legal = IsLegal-append start (s.journal ++ new ∷ []) made legal_now (rw map_with_new was_legal.1);
          live = λ table key inside.
              ap record_of (newest_inserted s.truth s.now s.entry s.rest s.put newest_here table key)
              ∙ s.was.goes_on.live table key inside
              ∙ ap (λ (m : Map). map_record_of (m table key))
              (ap (λ (l : List Placed). map_after start (s.journal ++ l)) records_first ∙ map_after-append start s.journal _ ∙ sym behind);
          staged = all_staged s.base s.journal s.asked new s.rest its_others
              (All-tail (IsStaged s.base s.asked s.journal) s.entry s.rest s.was.goes_on.staged);
          one = λ i j d before within. its_one (suc i) (suc j) d (omega (arith, before)) (omega (arith, within));
        };
      }

  -- ---- other rows

  module _ (range : Range) (outside : has_key range s.call.table s.call.key ≡ false) where
    apart : All (λ placed. is_record_in range placed ≡ false) (new ∷ [])
    apart = All-cons (λ (placed : Placed). is_record_in range placed ≡ false) new [] outside
        (All-nil (λ (placed : Placed). is_record_in range placed ≡ false))

    lasts : All (IsOfLast s.asked) (new ∷ [])
    lasts =
        All-cons (IsOfLast s.asked) new [] (record { last = s.last.last; asked_is = s.last.asked_is; call_is = sym s.same_call })
        (All-nil (IsOfLast s.asked))

    pub history_there : (truth rest : List Entry) → All (λ entry. counts range entry ≡ true) rest → TellHistory s.base range truth rest s.journal s.asked → TellHistory s.base range truth rest (s.journal ++ new ∷ []) s.asked
    history_there = history_beside s.base range s.journal (new ∷ []) s.asked apart lasts legal_now

    -- a statement of the records of the range holds with the new one
    pub all_there : (P : Placed → Type 0) → All (λ placed. is_record_in range placed ≡ true → P placed) s.journal → All (λ placed. is_record_in range placed ≡ true → P placed) (s.journal ++ new ∷ [])
    all_there P old =
        All-push (λ placed. is_record_in range placed ≡ true → P placed) s.journal new old
        (λ inside. absurd (false≢true (sym outside ∙ inside)))

    pub tell_there : (list : List Entry) → TellAll range s.journal list → TellAll range (s.journal ++ new ∷ []) list
    tell_there list = all_there
        (λ placed. is_mutation placed.call.op ≡ true → IsReached (told (of_key placed.call.table placed.call.key list)) placed)

    pub low_there : (list : List Entry) → AreAboveMap range (map_after (base_map s.base) s.journal) list → AreAboveMap range (map_after (base_map s.base) (s.journal ++ new ∷ [])) list
    low_there list low table key within =
        rw (map_beside s.base range s.journal (new ∷ []) s.asked apart lasts legal_now table key within) (low table key within)
