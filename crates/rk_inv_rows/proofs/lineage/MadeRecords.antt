-- Records that ends make: each is of the last call of its client, with a stamp above all before it and above what the client had seen.
use Rattle.std.proofs.Common.{◌≡◌, ℕ, eqb, List, [], ◌∷◌, ◌++◌, Option, Some, refl, sym, ap, subst}
use Rattle.std.proofs.Common.{◌∙◌, ⊎_elim, arith, inl, append-nil, append_assoc, All, IfSome, length, slice_get}
use Rattle.rk_inv_base.proofs.Words.{false≢true, All-push, All-weaker, Ended, Placed, IsRisingAbove, lane_of_key, outcome_of, has_record}
use Rattle.rk_inv_base.proofs.Words.{next_record, IsAfterStart, LastCall, IsLastCall, WasAsked, IsAfterSeen, View, AskedOf}
use Rattle.rk_inv_rows.proofs.Words.{asked_still, got_cases, is_request_still, request_says_still, rising_push, made_by, made_of}

-- what each such record keeps, all of them keep
module _ (asked : ℕ → Option LastCall) (P : List Placed → Type 0) (keeps : (journal : List Placed) (end : Ended) (last : LastCall) → asked end.client ≡ Some last → P journal → P (journal ++ next_record journal last.call (outcome_of end.end) last.seen ∷ [])) where
  one_keeps : (journal : List Placed) (end : Ended) (last : Option LastCall) → asked end.client ≡ last → P journal → P (journal ++ made_by journal end last)
  one_keeps journal end last is was = grind (arith, append-nil, eqb, has_record, next_record, outcome_of)

  pub made_keeps : (journal : List Placed) (ends : List Ended) → P journal → P (journal ++ made_of asked journal ends)
  made_keeps journal [] was = subst P (sym (append-nil journal)) was
  made_keeps journal (end ∷ ends) was =
      let made : List Placed = made_by journal end (asked end.client) in
      rw (← append_assoc journal made (made_of asked (journal ++ made) ends))
      (made_keeps (journal ++ made) ends (one_keeps journal end (asked end.client) refl was))

module _ (v : View) (sound_asked : AskedOf v) where
  -- the last call of a client is its own, and lies here
  last_is : (client : ℕ) (last : LastCall) → v.asked client ≡ Some last → IsLastCall v.base v.lane client last
  last_is client last is = subst (λ (o : Option LastCall). IfSome o (IsLastCall v.base v.lane client)) is (sound_asked.last client)

  own_last : (client : ℕ) (last : LastCall) → v.asked client ≡ Some last → v.asked last.call.client ≡ Some last
  own_last client last is = ap v.asked (last_is client last is).own ∙ is

  -- stamps rise
  pub made_rising : (ends : List Ended) → IsRisingAbove 0 v.journal → IsRisingAbove 0 (v.journal ++ made_of v.asked v.journal ends)
  made_rising =
      made_keeps v.asked (IsRisingAbove 0)
      (λ journal end last is rising.
      rising_push 0 journal (next_record journal last.call (outcome_of end.end) last.seen) rising (omega arith)) v.journal

  -- and each is above what its client had seen
  abbrev AreAfterSeen : List Placed → Type 0
  AreAfterSeen journal = All (λ placed. IsAfterSeen (v.asked placed.call.client) placed) journal

  pub made_seen : (ends : List Ended) → AreAfterSeen v.journal → AreAfterSeen (v.journal ++ made_of v.asked v.journal ends)
  made_seen =
      made_keeps v.asked AreAfterSeen
      (λ journal end last is seen.
      All-push (λ placed. IsAfterSeen (v.asked placed.call.client) placed) journal
      (next_record journal last.call (outcome_of end.end) last.seen) seen
      (subst (λ (o : Option LastCall). IsAfterSeen o (next_record journal last.call (outcome_of end.end) last.seen))
      (sym (own_last end.client last is)) (λ same. omega arith))) v.journal

  -- each was asked, and none is accepted
  abbrev AskedWith : List Placed → Type 0
  AskedWith journal = AskedOf (record v { journal = journal })

  one_asked : (journal : List Placed) (end : Ended) (last : LastCall) → v.asked end.client ≡ Some last → AskedWith journal → AskedWith (journal ++ next_record journal last.call (outcome_of end.end) last.seen ∷ [])
  one_asked journal end last is was =
      let new : Placed = next_record journal last.call (outcome_of end.end) last.seen in
      record {
        last = was.last;
        own_keys = All-push (λ placed. lane_of_key placed.call.key ≡ v.lane) journal new was.own_keys (last_is end.client last is).here;
        recorded =
            All-push (λ placed. WasAsked (v.asked placed.call.client) (journal ++ new ∷ []) placed.call) journal new
            (All-weaker (λ placed. WasAsked (v.asked placed.call.client) journal placed.call)
            (λ placed. WasAsked (v.asked placed.call.client) (journal ++ new ∷ []) placed.call)
            (λ placed. asked_still journal (new ∷ []) (v.asked placed.call.client) placed.call) journal was.recorded)
            (subst (λ (o : Option LastCall). WasAsked o (journal ++ new ∷ []) last.call) (sym (own_last end.client last is)) (inl refl));
        after_start = All-push (λ placed. IsAfterStart v.base placed.call) journal new was.after_start (last_is end.client last is).after;
        once = λ i j a b at_i at_j one.
            ⊎_elim
            (λ (first : slice_get journal i ≡ Some a).
            ⊎_elim (λ (second : slice_get journal j ≡ Some b). was.once i j a b first second one)
            (λ (second : (j ≡ length journal) × (new ≡ b)).
            absurd (false≢true (ap (λ (p : Placed). p.accepted) second.1 ∙ one.second)))
            (got_cases journal new j b at_j))
            (λ (first : (i ≡ length journal) × (new ≡ a)).
            absurd (false≢true (ap (λ (p : Placed). p.accepted) first.1 ∙ one.first)))
            (got_cases journal new i a at_i);
        sent = λ n m found. request_says_still journal (new ∷ []) v.asked m.from m.body (was.sent n m found);
        again = λ n m found. is_request_still journal (new ∷ []) v.asked n m.from m.body (was.again n m found);
      }

  pub made_asked : (ends : List Ended) → AskedWith (v.journal ++ made_of v.asked v.journal ends)
  made_asked ends = made_keeps v.asked AskedWith one_asked v.journal ends sound_asked
