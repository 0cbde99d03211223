-- The next entry of a master's log is applied, and a call ends with it: what is known of the call and of its row, and what stays as it
-- was.
use Rattle.std.proofs.Common.{◌≡◌, ℕ, ◌≤◌, Bool, true, false, List, [], ◌∷◌, Option, Some, None, refl, sym, ap, ◌∙◌, subst, inl, inr, ◌⊎◌}
use Rattle.std.proofs.Common.{if◌then◌else◌, Contains, arith}
use Rattle.rk_inv_base.proofs.Words.{cases_eq, All-head, Call, Ended, Op, Outcome, Placed, Member, Range, change_of, is_mutation, Entry}
use Rattle.rk_inv_base.proofs.Words.{lineage_of, Row, Base, map_entry_of, item_end, outcome_of, refusal_end, told_by, has_record}
use Rattle.rk_inv_base.proofs.Words.{next_record, seen_of, is_member, last_of, is_marked, counts, named_by, has_key, LastCall, IsEntryOf}
use Rattle.rk_inv_base.proofs.Words.{IsLast, IsLastAsked, IsStaged, Waits, call_end, RoleFits, AreApart, View, truths, rests, SoundView}
use Rattle.rk_inv_base.proofs.Words.{post_of}
use Rattle.rk_inv_logs.proofs.Words.{first_not_last, formed_apart, in_one_row, last_member, counts_call, names_call, speaker_of, row_in}
use Rattle.rk_inv_logs.proofs.Words.{history_of, TellHistory, quiet_others, same_number}
use Rattle.rk_model.specs.Machine.{Entry as MapEntry}
use Rattle.rk_inv_logs.specs.apply.Small.{MayApplyCall, call_applied}
use Rattle.rk_inv_logs.proofs.apply.Inserted.{IsInserted, inserted_before, inserted_behind}
use Rattle.rk_inv_logs.proofs.apply.Members.{IsStill, Takes, has_last, next_at, rest_grows, still, takes, truth_grows, truth_still}
use Rattle.rk_types.specs.declared.call.End.TheVariants as ends
use Rattle.rk_entry.specs.declared.entry.Entry.TheVariants as entries

-- ---- a call and its entry

-- how a call ended that left an entry
pub record IsCallEnd (call : Call) (entry : Entry) (end : Ended) : Type 0 where
  pub tells : told_by entry ≡ end ∷ []
  pub ends_it : call_end entry ≡ end ∷ []
  pub client : end.client ≡ call.client
  pub seq : end.seq ≡ call.seq

pub call_ended : (call : Call) (entry : Entry) → IsEntryOf call entry → (end : Ended) × IsCallEnd call entry end
call_ended call (entries.Held held) own =
    (item_end held, record { tells = refl; ends_it = refl; client = sym own.client_is; seq = sym own.seq_is })
call_ended call (entries.Refused refused) own =
    (refusal_end refused, record { tells = refl; ends_it = refl; client = sym own.client_is; seq = sym own.seq_is })
call_ended call _ own = absurd own

-- the entry of the map that an entry leaves, if it does
abbrev pub change_by : Entry → Option MapEntry
change_by (entries.Held held) = Some (map_entry_of held held.value)
change_by _ = None

module _ (base : Base) (journal : List Placed) (asked : ℕ → Option LastCall) (call : Call) where
  -- the call of a staged entry is its client's last, and has no record
  asked_by : {client seq table : ℕ} {key : List ℕ} → call.client ≡ client → call.seq ≡ seq → call.table ≡ table → call.key ≡ key → IsLastAsked asked journal client seq table key → IsLastAsked asked journal call.client call.seq call.table call.key
  asked_by client seq table key last = grind (arith, has_record)

  pub last_asked : (entry : Entry) → IsEntryOf call entry → IsStaged base asked journal entry → IsLastAsked asked journal call.client call.seq call.table call.key
  last_asked entry own staged = grind (arith, asked_by)

  -- a refusal leaves the map as it was
  refusal_leaves : (op : Op) (absent : Bool) (found : ℕ) → change_of op (outcome_of (if absent then ends.Absent else ends.Mismatch found)) ≡ None
  refusal_leaves op absent found = grind arith

  -- a call leaves what its entry does
  pub leaves_so : (entry : Entry) (end : Ended) → IsLast (asked call.client) call → IsEntryOf call entry → IsCallEnd call entry end → IsStaged base asked journal entry → change_of call.op (outcome_of end.end) ≡ change_by entry
  leaves_so entry end is own ended staged = grind (arith, item_end, change_of, outcome_of, refusal_end, refusal_leaves)

-- ---- a view

-- an entry with which a call ends may be applied, in a sound view: for this row the call waited, and so it ended
pub record Applying (v : View) : Type 0 where
  pub master : ℕ
  pub call : Call
  pub end : Ended
  pub sound : SoundView v
  pub may : MayApplyCall v master call
  pub waits : Waits v.rows (v.handovers master) (v.written master) master (v.written master).applied call
  pub ended : IsCallEnd call waits.entry end

-- so it is if the entry may be applied
abbrev pub applying : (v : View) (master : ℕ) (call : Call) → SoundView v → MayApplyCall v master call → Applying v
applying v master call sound may =
    let waits = sound.rest.waiting master may.held.lives (v.written master).applied call may.waits in
    let ended = call_ended call waits.entry waits.own in
    record { master = master; call = call; end = ended.0; sound = sound; may = may; waits = waits; ended = ended.1 }

module _ (v : View) (a : Applying v) where
  -- the row of the key, the entry and its place
  abbrev pub its_row : Row
  its_row = a.waits.row

  abbrev pub entry : Entry
  entry = a.waits.entry

  abbrev pub place : ℕ
  place = (v.written a.master).applied

  -- how the call ended, and its record
  abbrev pub outcome : Outcome
  outcome = outcome_of a.end.end

  abbrev pub new : Placed
  new = next_record v.journal a.call outcome (seen_of (v.asked a.call.client))

  -- the view with the entry applied
  abbrev pub after : View
  after = call_applied v a.master its_row.tablet a.call entry a.end

  pub lives : v.live a.master ≡ true
  lives = a.may.held.lives

  -- ---- the row of the key

  -- it is the only one of its number
  pub same_row : (other : Row) → Contains v.rows other → other.tablet ≡ its_row.tablet → other ≡ its_row
  same_row other stands same = same_number v.rows other its_row a.sound.rows.apart stands a.waits.has_row same

  -- a row is that one, or it has another number
  pub row_cases : (other : Row) → Contains v.rows other → (other ≡ its_row) ⊎ (other.tablet ≡ its_row.tablet → ⊥)
  row_cases other stands =
      elim (cases_eq other.tablet its_row.tablet) [ inl same ↦ inl (same_row other stands same) | inr apart ↦ inr apart ]

  -- it has the entry, and no other row does
  pub inside : counts its_row.range entry ≡ true
  inside = counts_call its_row.range a.call entry a.waits.own ∙ a.waits.in_row

  pub key_outside : (other : Row) → Contains v.rows other → (other.tablet ≡ its_row.tablet → ⊥) → has_key other.range a.call.table a.call.key ≡ false
  key_outside other stands apart =
      in_one_row v.rows its_row other a.call.table a.call.key a.sound.rows.apart a.waits.has_row stands apart a.waits.in_row

  pub outside : (other : Row) → Contains v.rows other → (other.tablet ≡ its_row.tablet → ⊥) → counts other.range entry ≡ false
  outside other stands apart = counts_call other.range a.call entry a.waits.own ∙ key_outside other stands apart

  pub names : (range : Range) → named_by range entry ≡ []
  names range = names_call range a.call entry a.waits.own

  -- its lineage has one member, or two
  pub apart_in : (other : Row) → Contains v.rows other → AreApart (lineage_of other.phase)
  apart_in other stands = formed_apart other.phase (row_in v a.sound other stands).rows.formed

  -- if the first of two members is the master, the entry is not of the range
  pub first_apart : (other : Row) → Contains v.rows other → (first second : Member) (more : List Member) → lineage_of other.phase ≡ first ∷ second ∷ more → first.master ≡ a.master → counts other.range entry ≡ false
  first_apart other has first second more lineage at = elim (row_cases other has) [
    | inl same ↦
        let last = ap last_of (sym lineage) ∙ ap (λ (r : Row). last_of (lineage_of r.phase)) same ∙ a.waits.is_last in
        absurd
        (first_not_last first second more a.waits.last (subst AreApart lineage (apart_in other has)) last (at ∙ sym a.waits.here))
    | inr differs ↦ outside other has differs
  ]

  -- the role of the master fits its post, it keeps the row's range, and it speaks for the row
  pub its_fits : RoleFits its_row a.master (v.handovers a.master its_row.tablet) place
  its_fits = (row_in v a.sound its_row a.waits.has_row).roles.fitting a.master (inl lives)

  pub its_member : is_member (lineage_of its_row.phase) a.master ≡ true
  its_member = last_member (lineage_of its_row.phase) a.waits.last a.master a.waits.is_last a.waits.here

  pub its_range : (v.handovers a.master its_row.tablet).range ≡ its_row.range
  its_range = (row_in v a.sound its_row a.waits.has_row).roles.ranged a.master (inl lives) its_member

  pub its_speaker : a.master ≡ speaker_of its_row.phase
  its_speaker = grind (arith, its_fits, cases_eq, speaker_of, post_of, quiet_others)

  -- ---- what counts of a row

  -- a member has what it had, unless the entry is of the range, and then has that
  pub still_beside : (range : Range) (member : Member) → (member.master ≡ a.master → counts range entry ≡ false) → IsStill v.written after.written range member
  still_beside range member beside =
      still v.written a.master entry a.waits.stands range member (λ at free. (beside at, names range))

  pub last_takes : (last : Member) → last_of (lineage_of its_row.phase) ≡ Some last → Takes entry v.written after.written its_row.range last
  last_takes last is =
      let same : a.waits.last ≡ last = cc (sym a.waits.is_last ∙ is) in
      let at : last.master ≡ a.master = ap (λ (m : Member). m.master) (sym same) ∙ a.waits.here in
      let from : last.from ≤ place = subst (λ (m : Member). m.from ≤ place) same a.waits.from in
      takes v.written a.master entry a.waits.stands its_row.range last
      (next_at v.written a.master entry a.waits.stands its_row.range last at
      (subst (λ (n : ℕ). last.from ≤ (v.written n).applied) (sym at) from))
      (ap (λ (n : ℕ). is_marked (v.written n).marks (v.written n).applied) at ∙ a.waits.unmarked) inside (names its_row.range)

  -- so another row has what it had
  pub truth_beside_row : (other : Row) → Contains v.rows other → (other.tablet ≡ its_row.tablet → ⊥) → truths after other ≡ truths v other
  truth_beside_row other stands apart = search (truth_still, lineage_of, apart_in, still_beside, outside, other.range, other.phase)

  pub rest_beside_row : (other : Row) → Contains v.rows other → (other.tablet ≡ its_row.tablet → ⊥) → rests after other ≡ rests v other
  rest_beside_row other stands apart =
      let last = has_last (lineage_of other.phase) (apart_in other stands) in
      sym
      (rest_grows v.written after.written other.range (lineage_of other.phase) last.0 [] last.1
      (sym (still_beside other.range last.0 (λ at. outside other stands apart)).rest))

  -- the truth of the row has the entry now, which was the first of its rest
  pub truth_here : IsInserted entry (truths v its_row) (truths after its_row)
  truth_here =
      truth_grows v.base v.written after.written its_row.range (IsInserted entry)
      (λ front old now put. inserted_behind entry old now put front) (λ old now put. inserted_before entry old now put [])
      (lineage_of its_row.phase) (apart_in its_row a.waits.has_row)
      (λ first second more is. still_beside its_row.range first (first_apart its_row a.waits.has_row first second more is))
      (λ last is. (last_takes last is).truth)

  pub rest_here : rests v its_row ≡ entry ∷ rests after its_row
  rest_here = grind (arith, rest_grows, lineage_of, last_takes)

  pub was_history : TellHistory v.base its_row.range (truths v its_row) (entry ∷ rests after its_row) v.journal v.asked
  was_history = rw rest_here at (history_of v its_row a.sound a.waits.has_row)

  -- ---- the call

  was_staged : IsStaged v.base v.asked v.journal entry
  was_staged = All-head (IsStaged v.base v.asked v.journal) entry (rests after its_row) was_history.goes_on.staged

  -- the call is its client's last, a mutation, and has no record
  pub is_last : IsLast (v.asked a.call.client) a.call
  is_last = a.sound.rest.are_last a.master lives place a.call a.may.waits

  pub its_last : IsLastAsked v.asked v.journal a.call.client a.call.seq a.call.table a.call.key
  its_last = last_asked v.base v.journal v.asked a.call entry a.waits.own was_staged

  pub same_call : its_last.last.call ≡ a.call
  same_call = rw its_last.asked_is at is_last

  pub mutation : is_mutation a.call.op ≡ true
  mutation = ap (λ (c : Call). is_mutation c.op) (sym same_call) ∙ its_last.mutation

  pub leaves : change_of a.call.op outcome ≡ change_by entry
  leaves = leaves_so v.base v.journal v.asked a.call entry a.end is_last a.waits.own a.ended was_staged
