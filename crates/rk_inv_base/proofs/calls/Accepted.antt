-- A lane stays sound when the record of a client's last call is accepted, if no record of it was.
use Rattle.rk_inv_base.proofs.Words.{◌≡◌, ℕ, true, List, ◌++◌, Option, Some, sym, ap, ◌∙◌, subst, ⊎_elim, inl, inr, arith, slice_get}
use Rattle.rk_inv_base.proofs.Words.{slice_set, IfSome, Contains, All-weaker, slice_get-get_or, slice_get_within, get_or_from_slice_get}
use Rattle.rk_inv_base.proofs.Words.{hash_of, Call, Ended, Placed, Range, is_mutation, lane_of_key, AreOneMutation, Entry, is_covered}
use Rattle.rk_inv_base.proofs.Words.{Reply, Request, base_map, ends_told, told, accepted_at, as_accepted, of_key, IsAfterStart, has_key}
use Rattle.rk_inv_base.proofs.Words.{LastCall, AreOneAccepted, IsAccepted, RequestFits, WasAsked, IsKnown, IsReached, IsRecorded, ReachAll}
use Rattle.rk_inv_base.proofs.Words.{TellAll, is_record_in, MayAccept, IsAfterSeen, View, AskedOf, SoundView, IsRecordAt, Outcome, accepted}
use Rattle.rk_inv_base.proofs.calls.OtherJournals.{asked_by_other, is_request_by, request_by_other, request_says_by, says_by}
use Rattle.rk_inv_base.proofs.calls.Journals.{view_with_journal}
use Rattle.rk_inv_base.proofs.calls.SameRecords.{AreSameRecords, IsSameRecord, accepted_cases, accepted_same, all_records_same}
use Rattle.rk_inv_base.proofs.calls.SameRecords.{has_record_same, legal_same, map_after_same, reached_same, record_after, record_before}
use Rattle.rk_inv_base.proofs.calls.SameRecords.{record_of_same, records_behind, rising_same}

-- a record that is in a journal is at a place of it
pub stands_at : (journal : List Placed) (placed : Placed) → Contains journal placed → (k : ℕ) × (slice_get journal k ≡ Some placed)
stands_at journal placed (k, within, is) = (k, slice_get-get_or journal k placed within ∙ ap Some is)

pub stands_there : (journal : List Placed) (k : ℕ) (placed : Placed) → slice_get journal k ≡ Some placed → Contains journal placed
stands_there journal k placed at = (k, slice_get_within journal k placed at, get_or_from_slice_get journal k placed placed at)

module _ (v : View) (place : ℕ) (sound : SoundView v) (may : MayAccept v place) where
  -- the journal with the accepted record
  abbrev after : List Placed
  after = slice_set v.journal place (as_accepted may.placed)

  same : AreSameRecords v.journal after
  same = accepted_same v.journal place may.placed may.stands

  -- each record is still there
  stands_still : (old : Placed) → Contains v.journal old → (new : Placed) × Contains after new × IsSameRecord old new
  stands_still old stands =
      let at = stands_at v.journal old stands in
      let new = record_after v.journal after at.0 old same at.1 in
      (new.0, stands_there after at.0 new.0 new.1, new.2)

  -- what was seen is below the stamp of the same record
  after_seen : (last : Option LastCall) (old new : Placed) → IsSameRecord old new → IsAfterSeen last old → IsAfterSeen last new
  after_seen last old new is above = grind arith

  known : (end : Ended) → IsKnown v.base v.journal end → IsKnown v.base after end
  known end =
      ⊎_elim
      (λ (recorded : IsRecorded v.journal end).
      let new = stands_still recorded.placed recorded.stands in
      inl (record { placed = new.0; stands = new.1; fits = record_of_same end recorded.placed new.0 new.2 recorded.fits }))
      (λ (start : Contains (ends_told v.base) end). inr start)

  reach_all : (range : Range) (ends : List Ended) → ReachAll range v.journal ends → ReachAll range after ends
  reach_all range ends =
      all_records_same
      (λ placed. is_record_in range placed ≡ true → is_mutation placed.call.op ≡ true → IsReached ends placed)
      (λ old new is reach inside mutation.
      reached_same ends old new is
      (reach (ap (λ (c : Call). has_key range c.table c.key) (sym is.call) ∙ inside) (ap (λ (c : Call). is_mutation c.op) (sym is.call) ∙ mutation)))
      v.journal after same

  tell_all : (range : Range) (list : List Entry) → TellAll range v.journal list → TellAll range after list
  tell_all range list =
      all_records_same
      (λ placed. is_record_in range placed ≡ true → is_mutation placed.call.op ≡ true
      → IsReached (told (of_key placed.call.table placed.call.key list)) placed)
      (λ old new is tell inside mutation.
      subst (λ (c : Call). IsReached (told (of_key c.table c.key list)) new) (sym is.call)
      (reached_same (told (of_key old.call.table old.call.key list)) old new is
      (tell (ap (λ (c : Call). has_key range c.table c.key) (sym is.call) ∙ inside) (ap (λ (c : Call). is_mutation c.op) (sym is.call) ∙ mutation))))
      v.journal after same

  -- a Reply names the same record
  told_still : (client : ℕ) (reply : Reply) (outcome : Outcome) → IsRecordAt v.journal client reply outcome → IsRecordAt after client reply outcome
  told_still client reply outcome fits = grind (arith, record_after, same)

  -- what was asked was so before
  accepted_still : (call : Call) → IsAccepted v.journal call → IsAccepted after call
  accepted_still call was =
      let new = stands_still was.placed was.stands in
      let is : IsSameRecord was.placed new.0 = new.2 in
      record { placed = new.0; stands = new.1; call_is = is.call ∙ was.call_is; accepted = is.kept was.accepted }

  request_fits : (client : ℕ) (request : Request) → RequestFits v.asked v.journal client request → RequestFits v.asked after client request
  request_fits = request_by_other v.journal after accepted_still v.asked

  -- a call of the client with the seq of its last one is that
  is_last : (last : Option LastCall) (call : Call) → IfSome last (λ l. l.call ≡ may.placed.call) → WasAsked last v.journal call → call.seq ≡ may.placed.call.seq → call ≡ may.placed.call
  is_last last call of_last was seq = grind arith

  -- no other record of it is accepted
  none_accepted : (i : ℕ) (other : Placed) → slice_get v.journal i ≡ Some other → other.accepted ≡ true → other.call.client ≡ may.placed.call.client → other.call.seq ≡ may.placed.call.seq → ⊥
  none_accepted i other at accepted client seq = grind (arith, stands_there, is_last)

  once : (i j : ℕ) (a b : Placed) → slice_get after i ≡ Some a → slice_get after j ≡ Some b → AreOneAccepted a b → i ≡ j
  once i j a b at_i at_j one = grind (arith, as_accepted, none_accepted, accepted_cases, one.second, one.client, one.seq, one.first)

  asked : AskedOf (record v { journal = after })
  asked = record {
    last = sound.asked.last;
    own_keys =
        all_records_same (λ placed. lane_of_key placed.call.key ≡ v.lane)
        (λ old new is own. ap (λ (c : Call). lane_of_key c.key) is.call ∙ own) v.journal after same sound.asked.own_keys;
    recorded =
        all_records_same (λ placed. WasAsked (v.asked placed.call.client) after placed.call)
        (λ old new is. subst (λ (c : Call). WasAsked (v.asked c.client) after c) (sym is.call)) v.journal after same
        (All-weaker _ _ (λ placed. asked_by_other v.journal after accepted_still (v.asked placed.call.client) placed.call) v.journal
        sound.asked.recorded);
    after_start =
        all_records_same (λ placed. IsAfterStart v.base placed.call)
        (λ old new is. subst (IsAfterStart v.base) (sym is.call)) v.journal after same sound.asked.after_start;
    once = once;
    sent = λ n m found. request_says_by v.asked v.asked v.journal after request_fits m.from m.body (sound.asked.sent n m found);
    again = λ n m found. is_request_by v.asked v.asked v.journal after request_fits n m.from m.body (sound.asked.again n m found);
  }

  pub view_accepted : SoundView (accepted v place)
  view_accepted =
      subst (λ (journal : List Placed). SoundView (record v { journal = journal })) (sym (ap (accepted_at v.journal place) may.stands))
      (view_with_journal v after sound
      (record {
        covered =
            all_records_same (λ placed. is_covered v.rows placed.call.table (hash_of placed.call.key) ≡ true)
            (λ old new is covered. ap (λ (c : Call). is_covered v.rows c.table (hash_of c.key)) is.call ∙ covered)
            v.journal after same sound.rows.covered;
        legal = legal_same (base_map v.base) v.journal after same sound.truth.legal;
        rising = rising_same 0 v.journal after same sound.truth.rising;
        seen =
            all_records_same (λ placed. IsAfterSeen (v.asked placed.call.client) placed)
            (λ old new is above.
            subst (λ (c : Call). IsAfterSeen (v.asked c.client) new) (sym is.call) (after_seen (v.asked old.call.client) old new is above))
            v.journal after same sound.truth.seen;
        leaves = map_after_same (base_map v.base) v.journal after same;
        known = known;
        reach_all = reach_all;
        tell_all = tell_all;
        once = λ i j a b at_i at_j one.
            let x = record_before v.journal after i a same at_i in
            let y = record_before v.journal after j b same at_j in
            let first : IsSameRecord x.0 a = x.2 in
            let second : IsSameRecord y.0 b = y.2 in
            sound.calls.once i j x.0 y.0 x.1 y.1
            (subst (λ (c : Call). AreOneMutation x.0.call c) second.call
            (subst (λ (c : Call). AreOneMutation c b.call) first.call one));
        legal_behind = λ more. legal_same (base_map v.base) (v.journal ++ more) (after ++ more) (records_behind v.journal after more same);
        leaves_behind = λ more.
            map_after_same (base_map v.base) (v.journal ++ more) (after ++ more) (records_behind v.journal after more same);
        unrecorded = λ client seq none. has_record_same v.journal after client seq same ∙ none;
        says = says_by v.journal after told_still;
        asked = asked;
      }))
