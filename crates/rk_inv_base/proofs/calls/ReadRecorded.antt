-- A lane stays sound when a read gets its record, which gives what the journal leaves and changes nothing of it.
use Rattle.rk_inv_base.proofs.Words.{◌≡◌, ℕ, true, false, List, [], ◌∷◌, ◌++◌, Option, Some, None, sym, ap, ◌∙◌, subst, ⊎_elim, arith}
use Rattle.rk_inv_base.proofs.Words.{slice_get, IfSome, length, All, All-weaker, All-contains, All-push, list_any-append, slice_get-get_or}
use Rattle.rk_inv_base.proofs.Words.{slice_get_within, get_or_from_slice_get, hash_of, Call, Ended, Outcome, Placed, Range, IsLegal-append}
use Rattle.rk_inv_base.proofs.Words.{legal_back, legal_push, map_after-append, IsLegal, Map, map_after, with_change, is_mutation}
use Rattle.rk_inv_base.proofs.Words.{lane_of_key, AreOneMutation, Entry, is_covered, base_map, told, has_record, is_of_call, is_of_mutation}
use Rattle.rk_inv_base.proofs.Words.{next_record, of_key, IsAfterStart, LastCall, AreOneAccepted, HasSeen, WasAsked, IsReached, ReachAll}
use Rattle.rk_inv_base.proofs.Words.{TellAll, is_record_in, IsAfterSeen, View, AskedOf, SoundView, IfSome_then, unkept_changes_nothing}
use Rattle.rk_inv_base.proofs.Words.{MayRead, recorded}
use Rattle.rk_inv_base.proofs.Base.{covered_by}
use Rattle.rk_inv_base.proofs.calls.Journals.{view_with_journal}
use Rattle.rk_inv_base.proofs.calls.MoreRecords.{asked_still, got_cases, is_request_still, known_still, request_says_still, rising_push}
use Rattle.rk_inv_base.proofs.calls.MoreRecords.{says_still}

-- no call has two accepted records in a journal
abbrev pub AcceptsOnce : List Placed → Type 0
AcceptsOnce journal =
    (i j : ℕ) (a b : Placed) → slice_get journal i ≡ Some a → slice_get journal j ≡ Some b → AreOneAccepted a b → i ≡ j

-- so calls of one client with one seq are one call
module _ (journal : List Placed) (once : AcceptsOnce journal) (a b : Call) (client : a.client ≡ b.client) (seq : a.seq ≡ b.seq) where
  -- if both were asked
  one_asked : (last : Option LastCall) → WasAsked last journal a → WasAsked last journal b → a ≡ b
  one_asked last first second = grind (arith, slice_get-get_or)

module _ (v : View) (master : ℕ) (call : Call) (seen : ℕ) (outcome : Outcome) (sound : SoundView v) (may : MayRead v master call seen outcome) where
  -- the record of the read, and the journal with it
  abbrev new : Placed
  new = next_record v.journal call outcome seen

  abbrev after : List Placed
  after = v.journal ++ new ∷ []

  -- it is of no mutation
  no_mutation : is_mutation call.op ≡ true → ⊥
  no_mutation mutation = absurd (cc (sym may.read ∙ mutation))

  -- ---- the map that the journal leaves

  leaves : ◌≡◌ {A = Map} (map_after (base_map v.base) after) (map_after (base_map v.base) v.journal)
  leaves = grind (arith, map_after-append, base_map, with_change, map_after, unkept_changes_nothing)

  leaves_behind : (more : List Placed) → ◌≡◌ {A = Map} (map_after (base_map v.base) (after ++ more)) (map_after (base_map v.base) (v.journal ++ more))
  leaves_behind more = grind (arith, map_after-append, base_map, map_after, leaves)

  legal : IsLegal (base_map v.base) after
  legal = legal_push (base_map v.base) v.journal new sound.truth.legal may.allowed

  legal_behind : (more : List Placed) → IsLegal (base_map v.base) (v.journal ++ more) → IsLegal (base_map v.base) (after ++ more)
  legal_behind more old =
      IsLegal-append (base_map v.base) after more legal
      (subst (λ (m : Map). IsLegal m more) (sym leaves) (legal_back (base_map v.base) v.journal more old))

  -- what its client had seen is below its stamp
  after_seen : (last : Option LastCall) → HasSeen last call seen → IsAfterSeen last new
  after_seen None has = tt
  after_seen (Some last) has = λ of_call. let is : seen ≡ last.seen = has of_call in omega (arith, is)

  -- ---- ends

  reach_all : (range : Range) (ends : List Ended) → ReachAll range v.journal ends → ReachAll range after ends
  reach_all range ends old =
      All-push (λ placed. is_record_in range placed ≡ true → is_mutation placed.call.op ≡ true → IsReached ends placed)
      v.journal new old (λ inside mutation. absurd (no_mutation mutation))

  tell_all : (range : Range) (list : List Entry) → TellAll range v.journal list → TellAll range after list
  tell_all range list old =
      All-push
      (λ placed. is_record_in range placed ≡ true → is_mutation placed.call.op ≡ true
      → IsReached (told (of_key placed.call.table placed.call.key list)) placed)
      v.journal new old (λ inside mutation. absurd (no_mutation mutation))

  -- no mutation of its client has its seq
  none_of_it : (i : ℕ) (other : Placed) → slice_get v.journal i ≡ Some other → AreOneMutation other.call call → ⊥
  none_of_it i other at one =
      let was : WasAsked (v.asked other.call.client) v.journal other.call =
      All-contains (λ (placed : Placed). WasAsked (v.asked placed.call.client) v.journal placed.call) v.journal other
      sound.asked.recorded
      (i, slice_get_within v.journal i other at, get_or_from_slice_get v.journal i other other at) in
      let is : other.call ≡ call =
      one_asked v.journal sound.asked.once other.call call one.client one.seq (v.asked call.client)
      (subst (λ (n : ℕ). WasAsked (v.asked n) v.journal other.call) one.client was) may.was_asked in
      no_mutation (ap (λ (c : Call). is_mutation c.op) (sym is) ∙ one.mutation)

  once_mutation : (i j : ℕ) (a b : Placed) → slice_get after i ≡ Some a → slice_get after j ≡ Some b → AreOneMutation a.call b.call → i ≡ j
  once_mutation i j a b at_i at_j one =
      ⊎_elim
      (λ (there : slice_get v.journal i ≡ Some a).
      ⊎_elim
      (λ (both : slice_get v.journal j ≡ Some b). sound.calls.once i j a b there both one)
      (λ (last : (j ≡ length v.journal) × (new ≡ b)).
      absurd (none_of_it i a there (subst (λ (p : Placed). AreOneMutation a.call p.call) (sym last.1) one)))
      (got_cases v.journal new j b at_j))
      (λ (last : (i ≡ length v.journal) × (new ≡ a)).
      absurd (no_mutation (ap (λ (p : Placed). is_mutation p.call.op) last.1 ∙ one.mutation)))
      (got_cases v.journal new i a at_i)

  -- ---- what is staged

  still_unrecorded : (client seq : ℕ) → has_record v.journal client seq ≡ false → has_record after client seq ≡ false
  still_unrecorded client seq none = grind (arith, list_any-append, is_of_mutation, is_of_call)

  -- ---- what was asked

  -- what holds of its client's last call, and of each call that has a record, holds of a call that was asked
  of_asked : (P : Call → Type 0) (last : Option LastCall) → IfSome last (λ l. P l.call) → All (λ (placed : Placed). P placed.call) v.journal → WasAsked last v.journal call → P call
  of_asked P last of_last each was = grind arith

  -- the record of the read is not accepted
  once : (i j : ℕ) (a b : Placed) → slice_get after i ≡ Some a → slice_get after j ≡ Some b → AreOneAccepted a b → i ≡ j
  once i j a b at_i at_j one = grind (arith, got_cases, one.second, one.first)

  asked : AskedOf (record v { journal = after })
  asked = record {
    last = sound.asked.last;
    own_keys =
        All-push (λ placed. lane_of_key placed.call.key ≡ v.lane) v.journal new sound.asked.own_keys
        (of_asked (λ c. lane_of_key c.key ≡ v.lane) (v.asked call.client)
        (IfSome_then (v.asked call.client) (sound.asked.last call.client) (λ last its. its.here)) sound.asked.own_keys may.was_asked);
    recorded =
        All-push (λ placed. WasAsked (v.asked placed.call.client) after placed.call) v.journal new
        (All-weaker _ _ (λ placed. asked_still v.journal (new ∷ []) (v.asked placed.call.client) placed.call) v.journal sound.asked.recorded)
        (asked_still v.journal (new ∷ []) (v.asked call.client) call may.was_asked);
    after_start =
        All-push (λ placed. IsAfterStart v.base placed.call) v.journal new sound.asked.after_start
        (of_asked (IsAfterStart v.base) (v.asked call.client)
        (IfSome_then (v.asked call.client) (sound.asked.last call.client) (λ last its. its.after)) sound.asked.after_start may.was_asked);
    once = once;
    sent = λ n m found. request_says_still v.journal (new ∷ []) v.asked m.from m.body (sound.asked.sent n m found);
    again = λ n m found. is_request_still v.journal (new ∷ []) v.asked n m.from m.body (sound.asked.again n m found);
  }

  pub view_recorded : SoundView (recorded v call outcome seen)
  view_recorded =
      view_with_journal v after sound
      (record {
        covered =
            All-push (λ placed. is_covered v.rows placed.call.table (hash_of placed.call.key) ≡ true) v.journal new sound.rows.covered
            (covered_by v.rows may.served.row call.table (hash_of call.key) may.served.has_row may.served.in_row);
        legal = legal;
        rising = rising_push 0 v.journal new sound.truth.rising (omega arith);
        seen =
            All-push (λ placed. IsAfterSeen (v.asked placed.call.client) placed) v.journal new sound.truth.seen
            (after_seen (v.asked call.client) may.has_seen);
        leaves = leaves;
        known = known_still v.journal (new ∷ []) v.base;
        reach_all = reach_all;
        tell_all = tell_all;
        once = once_mutation;
        legal_behind = legal_behind;
        leaves_behind = leaves_behind;
        unrecorded = still_unrecorded;
        says = says_still v.journal (new ∷ []);
        asked = asked;
      })
