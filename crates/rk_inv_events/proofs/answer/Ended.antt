-- A call that a serving master knows to have ended has a record in the journal, with that end as its outcome.
use Rattle.std.proofs.Common.{All, Contains, IfSome, List, Option, Some, ap, arith, eqb, eqb-true, inl, inr}
use Rattle.std.proofs.Common.{nat_lt, subst, sym, true, ℕ, ⊎_elim, ◌∙◌, ◌≡◌, ◌⊎◌}
use Rattle.rk_done.specs.declared.completion.Look.TheVariants as looks
use Rattle.rk_inv_base.proofs.Words.{All-contains, Call, Completion, Completions, End, Ended, IsInOrder, IsKnown, IsLastCall, IsReached}
use Rattle.rk_inv_base.proofs.Words.{IsRecorded, IsStagedEnd, LastCall, Placed, ReachAll, Row, SoundView, View, WasAsked}
use Rattle.rk_inv_base.proofs.Words.{ended_of, ends_of, ends_told, get, has_key, is_mutation, is_record_in, is_serving, lineage_of, look}
use Rattle.rk_inv_base.proofs.Words.{outcome_of, post_of, rests}
use Rattle.rk_inv_base.proofs.rows.Apart.{same_number}
use Rattle.rk_inv_events.proofs.Words.{All_pairs, each_from_pairs, ends_from_pairs, pairs_from_ends, role_fits, row_in, speaks_serving}
use Rattle.rk_inv_events.proofs.Words.{by_found}
use Rattle.rk_inv_events.proofs.events.PostsOf.{has_post, serves_in}

-- ---- completions that record the end of a call have that end, and no other one of its client

-- the last completion of a client is that of a seq, with this end
pub record IsLastOf (last : Completion) (seq : ℕ) (end : End) : Type 0 where
  pub seq_is : last.seq ≡ seq
  pub end_is : last.end ≡ end

-- the end of a client's call
abbrev pub end_of : ℕ → ℕ → End → Ended
end_of client seq end = record { client = client; seq = seq; end = end }

module _ (completions : Completions) (client seq : ℕ) (end : End) (looked : look completions client seq ≡ looks.Same end) where
  record IsLast : Type 0 where
    last : Completion
    got : get completions client ≡ Some last
    is : IsLastOf last seq end

  last_is : IsLast
  last_is = grind (arith, by_found, nat_lt, eqb, eqb-true)

  -- what holds of all ends holds of this one
  pub of_this : (P : Ended → Type 0) → All P (ends_of completions) → P (end_of client seq end)
  of_this P all = subst P (λ i. end_of client (last_is.is.seq_is i) (last_is.is.end_is i))
      (each_from_pairs (λ number completion. P (ended_of (number, completion))) completions (pairs_from_ends P completions all) client
      last_is.last last_is.got)

  -- each other end of the client is this one
  pub one_end : IsInOrder completions → All (λ other. other.client ≡ client → other ≡ end_of client seq end) (ends_of completions)
  one_end order = ends_from_pairs (λ other. other.client ≡ client → other ≡ end_of client seq end) completions
      (All_pairs (λ number completion. number ≡ client → ended_of (number, completion) ≡ end_of client seq end) completions order
      (λ number completion got is.
      let here : get completions client ≡ Some completion = rw is at got in
      let one : Some completion ≡ Some last_is.last = sym here ∙ last_is.got in
      let same : completion ≡ last_is.last = cc one in
      (λ i. ended_of (is i, same i)) ∙ (λ i. end_of client (last_is.is.seq_is i) (last_is.is.end_is i))))

-- ---- the record

-- the journal has the record of a mutation, with this outcome
pub record HasRecord (journal : List Placed) (call : Call) (end : End) : Type 0 where
  pub placed : Placed
  pub stands : Contains journal placed
  pub mutation : is_mutation placed.call.op ≡ true
  pub client : placed.call.client ≡ call.client
  pub seq : placed.call.seq ≡ call.seq
  pub outcome : placed.outcome ≡ outcome_of end

module _ (v : View) (sound : SoundView v) (row : Row) (master : ℕ) (call : Call) (end : End) (has : Contains v.rows row) (lives : v.live master ≡ true) (serves : is_serving (v.handovers master row.tablet).role ≡ true)
    (looked : look (v.completions master row.tablet) call.client call.seq ≡ looks.Same end) (order : IsInOrder (v.completions master row.tablet)) (mutation : is_mutation call.op ≡ true)
    (inside : has_key row.range call.table call.key ≡ true) (was_asked : WasAsked (v.asked call.client) v.journal call) where
  -- the call's own record has that end
  outcome_is : (placed : Placed) → Contains v.journal placed → placed.call ≡ call → placed.outcome ≡ outcome_of end
  outcome_is placed stands is =
      let reach : ReachAll row.range v.journal (ends_of (v.completions master row.tablet)) =
      (row_in v sound row has).calls.answering master (inl lives)
      (speaks_serving (post_of row.phase master) (v.handovers master row.tablet) row.term serves) in
      let reached : IsReached (ends_of (v.completions master row.tablet)) placed =
      All-contains
      (λ (p : Placed).
      is_record_in row.range p ≡ true → is_mutation p.call.op ≡ true → IsReached (ends_of (v.completions master row.tablet)) p) v.journal
      placed reach stands (ap (λ (c : Call). has_key row.range c.table c.key) is ∙ inside)
      (ap (λ (c : Call). is_mutation c.op) is ∙ mutation) in
      let same : reached.end ≡ end_of call.client call.seq end =
      All-contains (λ (other : Ended). other.client ≡ call.client → other ≡ end_of call.client call.seq end)
      (ends_of (v.completions master row.tablet)) reached.end
      (one_end (v.completions master row.tablet) call.client call.seq end looked order) reached.stands
      (reached.reaches.client ∙ ap (λ (c : Call). c.client) is) in
      let seq : reached.end.seq ≡ call.seq = ap (λ (e : Ended). e.seq) same in
      let mine : placed.call.seq ≡ call.seq = ap (λ (c : Call). c.seq) is in
      elim reached.reaches.reached [
        | inl later ↦ absurd (omega (arith, later, seq, mine))
        | inr it ↦ sym it.1 ∙ ap (λ (e : Ended). outcome_of e.end) same
      ]

  of_own : (placed : Placed) → Contains v.journal placed → placed.call ≡ call → HasRecord v.journal call end
  of_own placed stands is = record {
    placed = placed;
    stands = stands;
    mutation = ap (λ (c : Call). is_mutation c.op) is ∙ mutation;
    client = ap (λ (c : Call). c.client) is;
    seq = ap (λ (c : Call). c.seq) is;
    outcome = outcome_is placed stands is;
  }

  -- an end of the start is not that of the client's last call
  of_start : (last : Option LastCall) → IfSome last (IsLastCall v.base v.lane call.client) → WasAsked last v.journal call
      → Contains (ends_told v.base) (end_of call.client call.seq end) → HasRecord v.journal call end
  of_start last fits asked told = grind (arith, ends_told, of_own)

  -- nor is it one of a rebuild, since the master serves
  of_rebuild : IsStagedEnd v.rows (rests v) master row.tablet (v.handovers master row.tablet).term (end_of call.client call.seq end) → ⊥
  of_rebuild staged = grind (arith, same_number, lineage_of, role_fits, has_post, serves_in, post_of)

  pub has_record : HasRecord v.journal call end
  has_record =
      ⊎_elim
      (⊎_elim
      (λ (recorded : IsRecorded v.journal (end_of call.client call.seq end)). record {
        placed = recorded.placed;
        stands = recorded.stands;
        mutation = recorded.fits.mutation;
        client = recorded.fits.client;
        seq = recorded.fits.seq;
        outcome = recorded.fits.outcome;
      }) (λ (told : Contains (ends_told v.base) (end_of call.client call.seq end)).
      of_start (v.asked call.client) (sound.asked.last call.client) was_asked told))
      (λ (staged : IsStagedEnd v.rows (rests v) master row.tablet (v.handovers master row.tablet).term (end_of call.client call.seq end)).
      absurd (of_rebuild staged))
      (of_this (v.completions master row.tablet) call.client call.seq end looked
      (λ e. IsKnown v.base v.journal e ⊎ IsStagedEnd v.rows (rests v) master row.tablet (v.handovers master row.tablet).term e)
      (sound.calls.known master row.tablet lives))
