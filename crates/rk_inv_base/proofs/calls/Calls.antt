-- The part Calls through small changes.
use Rattle.rk_inv_base.proofs.Words.{◌≡◌, ℕ, List, Option, sym, subst, ◌∙◌, ⊎_elim, inl, inr, All, IfSome, ◌⊎◌, Contains, slice_index_or}
use Rattle.rk_inv_base.proofs.Words.{All-weaker, Ended, Member, Range, Entry, ends_of, Handover, Row, Handed, told, Written, member_truth}
use Rattle.rk_inv_base.proofs.Words.{AreHandedOver, IsKnown, IsStagedEnd, post_of, View, CallsOf}
use Rattle.rk_inv_base.proofs.Base.{AreAlike, still_counts, speaks_alike, handed_for_grant_alike, handed_by_alike, target_truth_same}
use Rattle.rk_inv_base.proofs.Base.{staged_as}

-- tablets become others that answer alike
pub calls_alike : (v : View) (truths rests : Row → List Entry) (now : ℕ → ℕ → Handover) → CallsOf v truths rests → AreAlike v.handovers now → CallsOf (record v { handovers = now }) truths rests
calls_alike v truths rests now old alike =
    let Ends : Row → Option Handed → Type 0 = λ row given. IfSome given (λ h. AreHandedOver v.base row.range v.journal h.ends) in
    record {
      once = old.once;
      reached = old.reached;
      recorded = old.recorded;
      moving = old.moving;
      answering = λ q k d within counts says.
          let row : Row = slice_index_or v.rows k d in
          let was : Handover = v.handovers q row.tablet in
          old.answering q k d within
          (still_counts (v.live q) was.term (now q row.tablet).term row.term (alike q row.tablet).same_term counts)
          (sym (speaks_alike (post_of row.phase q) row.term was (now q row.tablet) (alike q row.tablet)) ∙ says);
      handed_on = λ k d within.
          let row : Row = slice_index_or v.rows k d in
          subst (Ends row) (sym (handed_for_grant_alike row v.handovers now v.handed alike)) (old.handed_on k d within);
      sent = λ n m there k d within.
          let row : Row = slice_index_or v.rows k d in
          subst (Ends row) (sym (handed_by_alike row v.handovers now m.body alike)) (old.sent n m there k d within);
      known = λ q number lives.
          subst
          (λ (term : ℕ). All (λ end. IsKnown v.base v.journal end ⊎ IsStagedEnd v.rows rests q number term end) (ends_of (v.completions q number)))
          (sym (alike q number).same_term) (old.known q number lives);
    }

-- what is behind the truths records what it recorded, and more; what is applied counts as before
pub calls_more : (v : View) (truths rests more : Row → List Entry) (written : ℕ → Written) → CallsOf v truths rests
    → ((row : Row) (end : Ended) → Contains v.rows row → Contains (told (rests row)) end → Contains (told (more row)) end)
    → ((range : Range) (member : Member) → member_truth written range member ≡ member_truth v.written range member)
    → CallsOf (record v { written = written }) truths more
calls_more v truths rests more written old tells same = record {
  once = old.once;
  reached = old.reached;
  recorded = old.recorded;
  moving = λ k d within.
      let row : Row = slice_index_or v.rows k d in
      rw (target_truth_same v.written written v.handed row row.phase same) (old.moving k d within);
  answering = old.answering;
  handed_on = old.handed_on;
  sent = old.sent;
  known = λ master tablet lives.
      All-weaker
      (λ end. IsKnown v.base v.journal end ⊎ IsStagedEnd v.rows rests master tablet (v.handovers master tablet).term end)
      (λ end. IsKnown v.base v.journal end ⊎ IsStagedEnd v.rows more master tablet (v.handovers master tablet).term end)
      (λ end known.
      ⊎_elim (λ (k : IsKnown v.base v.journal end). inl k)
      (λ (s : IsStagedEnd v.rows rests master tablet (v.handovers master tablet).term end).
      inr (staged_as _ _ _ _ _ _ _ _ _ s s.stands (tells s.row end s.stands s.told) s.at_term)) known)
      (ends_of (v.completions master tablet)) (old.known master tablet lives);
}
