-- The ends of calls once the entry of a call is applied: each end that masters keep is known still, and those that its master keeps reach
-- the new record, too.
use Rattle.std.proofs.Common.{◌≡◌, ℕ, ◌<◌, true, List, ◌∷◌, sym, ap, ◌∙◌, subst, ⊎_elim, inl, inr, ◌⊎◌, arith, All, Contains, ◌≢◌}
use Rattle.rk_inv_base.proofs.Words.{All-contains, All-push, All-tail, All-weaker, Contains-append_cases, Ended, Placed, is_mutation, Entry}
use Rattle.rk_inv_base.proofs.Words.{Completions, ends_of, noted, Row, outcome_of, told, told_by, IsKnown, IsReached, IsStagedEnd, ReachAll}
use Rattle.rk_inv_base.proofs.Words.{Reaches, is_record_in, IsStaged, call_ends, View, truths, rests}
use Rattle.rk_inv_logs.proofs.Words.{all_by, put2_by}
use Rattle.rk_inv_logs.proofs.apply.Applies.{IsKnownIn, end_then}
use Rattle.rk_inv_logs.proofs.apply.Applying.{Applying, after, entry, its_last, its_row, leaves, lives, new, rest_beside_row, rest_here}
use Rattle.rk_inv_logs.proofs.apply.Applying.{row_cases, same_call, same_row, truth_here, was_history}
use Rattle.rk_inv_logs.proofs.apply.CallHistory.{Serving, its_others, known, known_new, reaches_new, tells_end}
use Rattle.rk_inv_logs.proofs.made.LastCalls.{IsLatest, IsReplaced, noted_from, noted_still, noted_there, told_staged, known_early}
use Rattle.rk_inv_logs.proofs.made.LastCalls.{none_recorded, IsWaiting}
use Rattle.rk_inv_logs.proofs.made.MadeOf.{AreOnce, once_push}

-- what is applied of a row, as a change of its history
abbrev pub serving : (v : View) → Applying v → Serving
serving v a = record {
  base = v.base;
  range = (its_row v a).range;
  asked = v.asked;
  journal = v.journal;
  truth = truths v (its_row v a);
  now = truths (after v a) (its_row v a);
  rest = rests (after v a) (its_row v a);
  call = a.call;
  entry = entry v a;
  end = a.end;
  was = was_history v a;
  put = truth_here v a;
  legal = a.sound.truth.legal;
  own = a.waits.own;
  ended = a.ended;
  last = its_last v a;
  same_call = same_call v a;
  leaves = leaves v a;
}

module _ (v : View) (a : Applying v) where
  pub of_completions : (P : Completions → Type 0) (q r : ℕ) → (q ≡ a.master → r ≡ (its_row v a).tablet → P (noted (v.completions q r) a.end)) → ((q ≡ a.master → r ≡ (its_row v a).tablet → ⊥) → P (v.completions q r)) → P ((after v a).completions q r)
  of_completions P q r here was = put2_by v.completions a.master (its_row v a).tablet (λ c. noted c a.end) P q r here was

  -- the call waits for its record
  abbrev its_wait : IsWaiting v.journal a.call.client a.call.seq (v.asked a.call.client)
  its_wait = record {
    last = (its_last v a).last;
    asked_is = (its_last v a).asked_is;
    seq_is = (its_last v a).seq_is;
    unrecorded = (its_last v a).unrecorded;
  }

  -- no mutation has two records
  pub once : AreOnce (after v a).journal
  once = once_push v.journal (new v a) a.sound.calls.once
      (none_recorded v.base v.lane v.asked v.journal a.sound.asked.last a.sound.asked.recorded a.call.client a.call.seq its_wait
      (its_last v a).mutation)

  -- a known end of the client is that of an earlier call
  known_before : (end : Ended) → end.client ≡ a.call.client → IsKnown v.base v.journal end → end.seq < a.call.seq
  known_before end client is =
      known_early v.base v.lane v.asked v.journal a.sound.asked.last a.sound.asked.recorded end a.call.seq
      (subst (λ (n : ℕ). IsWaiting v.journal n a.call.seq (v.asked n)) (sym client) its_wait) is

  -- so is each other end that the master keeps of it
  latest : IsLatest (v.completions a.master (its_row v a).tablet) a.end
  latest end at client =
      let of_client : end.client ≡ a.call.client = client ∙ a.ended.client in
      let seq : a.end.seq ≡ a.call.seq = a.ended.seq in
      elim
      (All-contains
      (λ (e : Ended).
      IsKnown v.base v.journal e
      ⊎ IsStagedEnd v.rows (rests v) a.master (its_row v a).tablet (v.handovers a.master (its_row v a).tablet).term e)
      (ends_of (v.completions a.master (its_row v a).tablet)) end (a.sound.calls.known a.master (its_row v a).tablet (lives v a)) at) [
        | inl is ↦ let before : end.seq < a.call.seq = known_before end of_client is in inl (omega (arith, before, seq))
        | inr staged ↦ of_staged end of_client (rw (same_row v a staged.row staged.stands staged.number) at staged.told)
      ]
    where
      of_staged : (end : Ended) → end.client ≡ a.call.client → Contains (told (rests v (its_row v a))) end → (end.seq < a.end.seq) ⊎ (end ≡ a.end)
      of_staged end client at =
          let rest : List Entry = rests (after v a) (its_row v a) in
          let here : Contains (told (entry v a ∷ rest)) end = subst (λ (l : List Entry). Contains (told l) end) (rest_here v a) at in
          let seq : a.end.seq ≡ a.call.seq = a.ended.seq in
          ⊎_elim
          (λ (own : Contains (told_by (entry v a)) end). inr (sym (tells_end (serving v a) end own)))
          (λ (later : Contains (told rest) end).
          ⊎_elim
          (λ (other : Contains (call_ends rest) end).
          absurd (All-contains (λ (e : Ended). e.client ≢ a.call.client) (call_ends rest) end (its_others (serving v a)) other client))
          (λ (is : IsKnown v.base v.journal end).
          let before : end.seq < a.call.seq = known_before end client is in inl (omega (arith, before, seq)))
          (told_staged v.base v.journal v.asked rest
          (All-tail (IsStaged v.base v.asked v.journal) (entry v a) rest (was_history v a).goes_on.staged) end later))
          (Contains-append_cases (told_by (entry v a)) (told rest) end here)

  -- what is kept reaches what it reached, and the new record
  pub reach_noted : ReachAll (its_row v a).range v.journal (ends_of (v.completions a.master (its_row v a).tablet)) → ReachAll (its_row v a).range (after v a).journal (ends_of (noted (v.completions a.master (its_row v a).tablet) a.end))
  reach_noted old =
      let was : Completions = v.completions a.master (its_row v a).tablet in
      let now : Completions = noted was a.end in
      All-push (λ placed. is_record_in (its_row v a).range placed ≡ true → is_mutation placed.call.op ≡ true → IsReached (ends_of now) placed)
      v.journal (new v a)
      (All-weaker
      (λ placed. is_record_in (its_row v a).range placed ≡ true → is_mutation placed.call.op ≡ true → IsReached (ends_of was) placed)
      (λ placed. is_record_in (its_row v a).range placed ≡ true → is_mutation placed.call.op ≡ true → IsReached (ends_of now) placed)
      (λ placed reach inside is. still placed (reach inside is)) v.journal old)
      (λ inside is. record { end = a.end; stands = noted_there was a.end latest; reaches = reaches_new (serving v a) })
    where
      still : (placed : Placed) → IsReached (ends_of (v.completions a.master (its_row v a).tablet)) placed → IsReached (ends_of (noted (v.completions a.master (its_row v a).tablet) a.end)) placed
      still placed reached =
          let was : Completions = v.completions a.master (its_row v a).tablet in
          ⊎_elim
          (λ (kept : Contains (ends_of (noted was a.end)) reached.end).
          record { end = reached.end; stands = kept; reaches = reached.reaches })
          (λ (gone : IsReplaced (ends_of (noted was a.end)) a.end reached.end).
          ⊎_elim
          (λ (before : reached.end.seq < a.end.seq).
          record {
            end = a.end;
            stands = gone.there;
            reaches = record {
              client = sym gone.client ∙ reached.reaches.client;
              reached = grind (arith, outcome_of, reached.end.seq, reached.end.end, reached.reaches.reached);
            };
          })
          (λ (same : reached.end ≡ a.end).
          record { end = a.end; stands = gone.there; reaches = subst (λ (e : Ended). Reaches e placed) same reached.reaches })
          (latest reached.end reached.stands gone.client))
          (noted_still was a.end reached.end reached.stands)

  -- each end that is kept is known, or staged still
  staged_still : (end : Ended) (other : Row) → Contains v.rows other → Contains (told (rests v other)) end → IsKnown v.base (after v a).journal end ⊎ Contains (told (rests (after v a) other)) end
  staged_still end other has at = elim (row_cases v a other has) [
    | inl same ↦
        let rest : List Entry = rests (after v a) (its_row v a) in
        let here : Contains (told (entry v a ∷ rest)) end =
        subst (λ (l : List Entry). Contains (told l) end) (ap (rests v) same ∙ rest_here v a) at in
        elim (Contains-append_cases (told_by (entry v a)) (told rest) end here) [
          | inl own ↦ inl (subst (IsKnown v.base (after v a).journal) (tells_end (serving v a) end own) (known_new (serving v a)))
          | inr later ↦ inr (subst (λ (r : Row). Contains (told (rests (after v a) r)) end) (sym same) later)
        ]
    | inr differs ↦ inr (subst (λ (l : List Entry). Contains (told l) end) (sym (rest_beside_row v a other has differs)) at)
  ]

  pub known_at : (q r : ℕ) → v.live q ≡ true → All (IsKnownIn v (after v a) q r) (ends_of ((after v a).completions q r))
  known_at q r alive =
      let was = a.sound.calls.known q r alive in
      let then : (end : Ended) → IsKnownIn v v q r end → IsKnownIn v (after v a) q r end =
      λ end. end_then v (after v a) q r end (known (serving v a) end) (staged_still end) in
      of_completions (λ c. All (IsKnownIn v (after v a) q r) (ends_of c)) q r
      (λ at its.
      all_by (IsKnownIn v (after v a) q r) (ends_of (noted (v.completions q r) a.end)) (λ end there.
      elim (noted_from (v.completions q r) a.end end there) [
        | inl is ↦ inl (subst (IsKnown v.base (after v a).journal) is (known_new (serving v a)))
        | inr old ↦ then end (All-contains (IsKnownIn v v q r) (ends_of (v.completions q r)) end was old)
      ])) (λ apart. All-weaker (IsKnownIn v v q r) (IsKnownIn v (after v a) q r) then (ends_of (v.completions q r)) was)
