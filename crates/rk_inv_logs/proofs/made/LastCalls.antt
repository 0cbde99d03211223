-- What ends of calls show: of staged entries, of calls that wait for their records, of last calls, and of the ends that masters note.
use Rattle.std.proofs.Common.{◌≡◌, ℕ, false, eqb, List, [], ◌++◌, Option, ◌∙◌, inl, inr, ◌⊎◌, ◌≢◌, All, Contains, ne_eqb, Bool, true, not}
use Rattle.std.proofs.Common.{◌∷◌, filter, Some, None, refl, sym, ap, subst, append_assoc, eq-eqb, eqb-true, ◌<◌, ◌≤◌, arith, IfSome, cond}
use Rattle.std.proofs.Common.{⊎_elim, nat_cmp, ltb-false}
use Rattle.rk_inv_base.proofs.Words.{and_left, and_right, All-contains, All-head, All-weaker, list_any-append, list_any_none, Ended, Placed}
use Rattle.rk_inv_base.proofs.Words.{is_mutation, Entry, none_stands, Base, item_end, refusal_end, told, told_by, has_record, is_of_call}
use Rattle.rk_inv_base.proofs.Words.{is_of_mutation, LastCall, IsKnown, IsLastAsked, IsStaged, call_end, call_ends, and_from, and_parts}
use Rattle.rk_inv_base.proofs.Words.{cases_Bool, false≢true, All-tail, filter_kept, filter_left_out, outcome_of, next_record}
use Rattle.rk_inv_base.proofs.Words.{false_from_ne_true, list_any_at, ends_told, IsLastCall, WasAsked, ranked, by_order, eq_by_cmp}
use Rattle.rk_inv_base.proofs.Words.{Ordering, Less, Equal, Greater, same_number, get, insert, Completions, ended_of, ends_of, is_later}
use Rattle.rk_inv_base.proofs.Words.{noted, Completion, behind_stands, first_stands, stands_cases, completions_from, get_same}
use Rattle.rk_inv_logs.proofs.Words.{known_still, all_by, flat_from, flat_of, not-true, append_nil, made_by, made_of, noted_later}
use Rattle.rk_inv_logs.proofs.Words.{noted_older, mapped, mapped_from}
use Rattle.rk_inv_tablets.proofs.Words.{All_insert}
use Rattle.rk_inv_logs.specs.made.Made.{waits, waits_for}
use Rattle.rk_entry.specs.declared.entry.Entry.TheVariants as entries

-- staged entries record the ends of their calls, or what is known
pub told_staged : (base : Base) (journal : List Placed) (asked : ℕ → Option LastCall) (list : List Entry) → All (IsStaged base asked journal) list → (end : Ended) → Contains (told list) end → Contains (call_ends list) end ⊎ IsKnown base journal end
told_staged base journal asked list staged end at =
    let by = flat_from told_by list end at in
    one by.0 (All-contains (IsStaged base asked journal) list by.0 staged by.1) by.1 by.2
  where
    one : (entry : Entry) → IsStaged base asked journal entry → Contains list entry → Contains (told_by entry) end → Contains (call_ends list) end ⊎ IsKnown base journal end
    one (entries.Carried carried) staged there here = inr (All-contains (IsKnown base journal) carried.ends end staged here)
    one (entries.Joined joined) staged there here = absurd (none_stands end here)
    one (entries.Held held) staged there here = inl (flat_of call_end list (entries.Held held) end there here)
    one (entries.Refused refused) staged there here = inl (flat_of call_end list (entries.Refused refused) end there here)

module _ (base : Base) (journal more : List Placed) (asked : ℕ → Option LastCall) where
  -- a record of another client is none of a call
  pub still_unrecorded : (client seq : ℕ) → All (λ placed. placed.call.client ≢ client) more → has_record journal client seq ≡ false → has_record (journal ++ more) client seq ≡ false
  still_unrecorded client seq others none =
      grind (arith, list_any-append, is_of_mutation, list_any_none, all_by, and_right, is_mutation, is_of_call, and_left, eqb, ne_eqb)

  still_last : (client seq table : ℕ) (key : List ℕ) → All (λ placed. placed.call.client ≢ client) more → IsLastAsked asked journal client seq table key → IsLastAsked asked (journal ++ more) client seq table key
  still_last client seq table key others last = search (still_unrecorded client seq others last.unrecorded, last)

  -- the records are of other clients than an end
  abbrev pub AreOfOthers : Ended → Type 0
  AreOfOthers end = All (λ placed. placed.call.client ≢ end.client) more

  pub still_staged : (entry : Entry) → All AreOfOthers (call_end entry) → IsStaged base asked journal entry → IsStaged base asked (journal ++ more) entry
  unfolding still_last
  still_staged (entries.Held held) others staged = record {
    last = still_last held.client held.seq held.table held.key (All-head AreOfOthers (item_end held) [] others) staged.last;
    leaves = staged.leaves;
  }
  still_staged (entries.Refused refused) others staged =
      still_last refused.client refused.seq refused.table refused.key (All-head AreOfOthers (refusal_end refused) [] others) staged
  still_staged (entries.Carried carried) others staged =
      All-weaker (IsKnown base journal) (IsKnown base (journal ++ more)) (known_still journal more base) carried.ends staged
  still_staged (entries.Joined joined) others staged = staged

-- ---- one end

-- the call with a seq is the last of its client, and has no record
pub record IsWaiting (journal : List Placed) (client seq : ℕ) (asked : Option LastCall) : Type 0 where
  pub last : LastCall
  pub asked_is : asked ≡ Some last
  pub seq_is : last.call.seq ≡ seq
  pub unrecorded : has_record journal client seq ≡ false

pub waiting_parts : (journal : List Placed) (client seq : ℕ) (asked : Option LastCall) → waits_for journal client seq asked ≡ true → IsWaiting journal client seq asked
waiting_parts journal client seq asked is = grind (arith, false≢true, and_parts, eqb, has_record, eqb-true, not-true)

pub waiting_from : (journal : List Placed) (client seq : ℕ) (asked : Option LastCall) → IsWaiting journal client seq asked → waits_for journal client seq asked ≡ true
waiting_from journal client seq asked w = rw w.asked_is
    (and_from (eqb w.last.call.seq seq) (not (has_record journal client seq)) (eq-eqb w.last.call.seq seq w.seq_is) (ap not w.unrecorded))

-- ends of one call wait together
pub waits_alike : (asked : ℕ → Option LastCall) (journal : List Placed) (a b : Ended) → a.client ≡ b.client → a.seq ≡ b.seq → waits asked journal a ≡ waits asked journal b
waits_alike asked journal a b client seq = λ i. waits_for journal (client i) (seq i) (asked (client i))

pub waits_no_more : (journal more : List Placed) (client seq : ℕ) (asked : Option LastCall) → waits_for journal client seq asked ≡ false → waits_for (journal ++ more) client seq asked ≡ false
waits_no_more journal more client seq asked is = grind (arith, eqb, list_any-append, is_of_mutation, has_record, false≢true)

-- an end makes a record if its call waits for one, and else none
pub makes_none : (journal : List Placed) (end : Ended) (asked : Option LastCall) → waits_for journal end.client end.seq asked ≡ false → made_by journal end asked ≡ []
makes_none journal end None is = refl
makes_none journal end (Some last) is = rw is refl

pub makes_one : (journal : List Placed) (end : Ended) (asked : Option LastCall) (w : IsWaiting journal end.client end.seq asked) → made_by journal end asked ≡ next_record journal w.last.call (outcome_of end.end) w.last.seen ∷ []
makes_one journal end asked w = grind (arith, waiting_from)

-- ---- many

module _ (asked : ℕ → Option LastCall) (journal : List Placed) where
  -- only ends that wait make records
  pub sifted : (more : List Placed) (ends : List Ended) → made_of asked (journal ++ more) ends ≡ made_of asked (journal ++ more) (filter (waits asked journal) ends)
  sifted more [] = refl
  sifted more (end ∷ ends) =
      let made : List Placed = made_by (journal ++ more) end (asked end.client) in
      let later : made_of asked ((journal ++ more) ++ made) ends ≡ made_of asked ((journal ++ more) ++ made) (filter (waits asked journal) ends) =
      rw (append_assoc journal more made) (sifted (more ++ made) ends) in
      elim (cases_Bool (waits asked journal end)) [
        | inl is ↦ ap (λ (l : List Placed). made ++ l) later
            ∙ ap (made_of asked (journal ++ more)) (sym (filter_kept (waits asked journal) end ends is))
        | inr is ↦
            let none : made ≡ [] =
            makes_none (journal ++ more) end (asked end.client) (waits_no_more journal more end.client end.seq (asked end.client) is) in
            ap (λ (l : List Placed). l ++ made_of asked ((journal ++ more) ++ l) ends) none
            ∙ subst (λ (l : List Placed). made_of asked l ends ≡ made_of asked (journal ++ more) (filter (waits asked journal) ends))
            (sym (append_nil (journal ++ more))) (sifted more ends)
            ∙ ap (made_of asked (journal ++ more)) (sym (filter_left_out (waits asked journal) end ends is))
      ]

  pub only_waiting : (ends : List Ended) → made_of asked journal ends ≡ made_of asked journal (filter (waits asked journal) ends)
  only_waiting ends = rw (append_nil journal) at (sifted [] ends)

  -- none of these waits
  pub none_wait : (ends : List Ended) → All (λ end. waits asked journal end ≡ false) ends → filter (waits asked journal) ends ≡ []
  none_wait [] all = refl
  none_wait (end ∷ ends) all = filter_left_out (waits asked journal) end ends (All-head (λ e. waits asked journal e ≡ false) end ends all)
      ∙ none_wait ends (All-tail (λ e. waits asked journal e ≡ false) end ends all)

-- no record is of the call of a client with a seq
abbrev pub HasNone : List Placed → ℕ → ℕ → Type 0
HasNone journal client seq = (placed : Placed) → Contains journal placed → placed.call.client ≡ client → placed.call.seq ≡ seq → ⊥

module _ (base : Base) (lane : ℕ) (asked : ℕ → Option LastCall) (journal : List Placed) (last_calls : (client : ℕ) → IfSome (asked client) (IsLastCall base lane client)) (recorded : All (λ placed. WasAsked (asked placed.call.client) journal placed.call) journal) where
  -- a record is of its client's last call, or of an earlier one
  was_asked : (placed : Placed) (client : ℕ) (last : LastCall) → Contains journal placed → placed.call.client ≡ client → asked client ≡ Some last → WasAsked (Some last) journal placed.call
  was_asked placed client last stands own is = grind arith

  -- an end that is known is of an earlier call, or of the last one, which has a record
  known_cases : (end : Ended) (last : LastCall) → asked end.client ≡ Some last → IsKnown base journal end → (end.seq < last.call.seq) ⊎ ((end.seq ≡ last.call.seq) × (has_record journal end.client end.seq ≡ true))
  known_cases end last is known = grind (arith, was_asked, ends_told, list_any_at, is_of_mutation, and_from, is_mutation, eq-eqb)

  pub known_low : (end : Ended) (last : LastCall) → asked end.client ≡ Some last → IsKnown base journal end → end.seq ≤ last.call.seq
  known_low end last is known = elim (known_cases end last is known)
      [ inl before ↦ omega (arith, before) | inr same ↦ let seq : end.seq ≡ last.call.seq = same.0 in omega (arith, seq) ]

  -- if the last call waits for its record, the end is of an earlier one
  pub known_early : (end : Ended) (seq : ℕ) → IsWaiting journal end.client seq (asked end.client) → IsKnown base journal end → end.seq < seq
  known_early end seq w known = grind (arith, known_cases, false≢true, has_record)

  -- so an end that is known does not wait
  pub known_waits_not : (end : Ended) → IsKnown base journal end → waits asked journal end ≡ false
  known_waits_not end known =
      false_from_ne_true (waits asked journal end) (λ is.
      let early = known_early end end.seq (waiting_parts journal end.client end.seq (asked end.client) is) known in
      absurd (omega (arith, early)))

  -- and no record is of a mutation that waits for its own
  pub none_recorded : (client seq : ℕ) (w : IsWaiting journal client seq (asked client)) → is_mutation w.last.call.op ≡ true → HasNone journal client seq
  none_recorded client seq w mutates placed stands own its =
      grind (arith, was_asked, false≢true, is_mutation, list_any_at, is_of_mutation, and_from, eq-eqb)

-- an end of a client has gone, and another one of the client has come
pub record IsReplaced (now : List Ended) (end other : Ended) : Type 0 where
  pub client : other.client ≡ end.client
  pub there : Contains now end

-- what is found is there
pub found_end : (c : Completions) (client : ℕ) (last : Completion) → get c client ≡ Some last → Contains (ends_of c) (ended_of (client, last))
found_end [] client last is = absurd (cc is)
found_end (e ∷ c) client last is = go (eq_by_cmp nat_cmp client e.0) refl (found_end c client last) is
  where
    go : (b : Bool) → eq_by_cmp nat_cmp client e.0 ≡ b → (get c client ≡ Some last → Contains (ends_of c) (ended_of (client, last)))
        → cond b (Some e.1) (get c client) ≡ Some last → Contains (ends_of (e ∷ c)) (ended_of (client, last))
    go true same later is =
        let here : e.1 ≡ last = cc is in
        let its : e.0 ≡ client = sym (same_number client e.0 same) in
        subst (Contains (ends_of (e ∷ c))) (λ i. ended_of (its i, here i)) (first_stands (ended_of e) (ends_of c))
    go false same later is = behind_stands (ended_of e) (ends_of c) (ended_of (client, last)) (later is)

module _ (client : ℕ) (new : Completion) where
  -- the end that is put
  abbrev end : Ended
  end = ended_of (client, new)

  -- each end is that one, or was there
  put_from : (c : Completions) (x : Ended) → Contains (ends_of (insert c client new)) x → (end ≡ x) ⊎ Contains (ends_of c) x
  put_from c x at =
      let Is : ℕ × Completion → Type 0 = λ e. (end ≡ ended_of e) ⊎ Contains (ends_of c) (ended_of e) in
      let found = mapped_from ended_of (insert c client new) x at in
      let each = All_insert Is c client new (all_by Is c (λ e there. inr (mapped ended_of c e there))) (inl refl) in
      subst (λ (y : Ended). (end ≡ y) ⊎ Contains (ends_of c) y) found.2 (All-contains Is (insert c client new) found.0 each found.1)

  -- it is there
  put_there : (c : Completions) → Contains (ends_of (insert c client new)) end
  put_there c = found_end (insert c client new) client new (get_same c client new client refl)

  -- and what was there is, or was of the same client
  put_still : (c : Completions) (x : Ended) → Contains (ends_of c) x → Contains (ends_of (insert c client new)) x ⊎ (x.client ≡ client)
  put_still [] x at = absurd (none_stands x at)
  put_still (e ∷ c) x at = go (nat_cmp client e.0) refl (put_still c x)
    where
      go : (r : Ordering) → nat_cmp client e.0 ≡ r → (Contains (ends_of c) x → Contains (ends_of (insert c client new)) x ⊎ (x.client ≡ client))
          → Contains (ends_of (by_order r ((client, new) ∷ e ∷ c) ((e.0, new) ∷ c) (e ∷ insert c client new))) x ⊎ (x.client ≡ client)
      go Less is later = inl (behind_stands end (ends_of (e ∷ c)) x at)
      go Equal is later =
          ⊎_elim
          (λ (here : ended_of e ≡ x). inr (ap (λ (y : Ended). y.client) (sym here) ∙ sym (ranked client e.0 Equal (sym is))))
          (λ (there : Contains (ends_of c) x). inl (behind_stands (ended_of (e.0, new)) (ends_of c) x there))
          (stands_cases (ended_of e) (ends_of c) x at)
      go Greater is later =
          ⊎_elim
          (λ (here : ended_of e ≡ x).
          inl (subst (Contains (ends_of (e ∷ insert c client new))) here (first_stands (ended_of e) (ends_of (insert c client new)))))
          (λ (there : Contains (ends_of c) x).
          ⊎_elim
          (λ (kept : Contains (ends_of (insert c client new)) x). inl (behind_stands (ended_of e) (ends_of (insert c client new)) x kept))
          (λ (same : x.client ≡ client). inr same) (later there))
          (stands_cases (ended_of e) (ends_of c) x at)

-- ---- an end is noted

module _ (c : Completions) (end : Ended) where
  -- each end is that one, or was there
  pub noted_from : (x : Ended) → Contains (ends_of (noted c end)) x → (end ≡ x) ⊎ Contains (ends_of c) x
  noted_from x at = elim (cases_Bool (is_later (get c end.client) end.seq)) [
    | inl later ↦ put_from end.client (record { seq = end.seq; end = end.end }) c x
        (subst (λ (l : Completions). Contains (ends_of l) x) (noted_later c end later) at)
    | inr older ↦ inr (subst (λ (l : Completions). Contains (ends_of l) x) (noted_older c end older) at)
  ]

  -- what was there is, or was of the same client, whose end is there now
  pub noted_still : (x : Ended) → Contains (ends_of c) x → Contains (ends_of (noted c end)) x ⊎ IsReplaced (ends_of (noted c end)) end x
  noted_still x at = elim (cases_Bool (is_later (get c end.client) end.seq)) [
    | inl later ↦
        let new : Completion = record { seq = end.seq; end = end.end } in
        let back = sym (noted_later c end later) in
        elim (put_still end.client new c x at) [
          | inl kept ↦ inl (rw back at kept)
          | inr same ↦ inr (record { client = same; there = rw back at (put_there end.client new c) })
        ]
    | inr older ↦ inl (subst (λ (l : Completions). Contains (ends_of l) x) (sym (noted_older c end older)) at)
  ]

  -- an end that is not after those of its client, or is among them
  abbrev pub IsLatest : Type 0
  IsLatest = (x : Ended) → Contains (ends_of c) x → x.client ≡ end.client → (x.seq < end.seq) ⊎ (x ≡ end)

  -- is there once it is noted
  pub noted_there : IsLatest → Contains (ends_of (noted c end)) end
  noted_there latest = elim (cases_Bool (is_later (get c end.client) end.seq)) [
    | inl later ↦ rw (noted_later c end later) (put_there end.client (record { seq = end.seq; end = end.end }) c)
    | inr older ↦ rw (noted_older c end older) (there (get c end.client) refl older)
  ]
    where
      there : (found : Option Completion) → get c end.client ≡ found → is_later found end.seq ≡ false → Contains (ends_of c) end
      there None is older = absurd (cc older)
      there (Some last) is older =
          let at = found_end c end.client last is in
          ⊎_elim
          (λ (before : last.seq < end.seq).
          let not : end.seq ≤ last.seq = ltb-false last.seq end.seq older in absurd (omega (arith, before, not)))
          (λ (same : ended_of (end.client, last) ≡ end). subst (Contains (ends_of c)) same at)
          (latest (ended_of (end.client, last)) at refl)

-- each last end was there, or was noted
pub noted_ends : (c : Completions) (list : List Ended) (end : Ended) → Contains (ends_of (completions_from c list)) end → Contains (ends_of c) end ⊎ Contains list end
noted_ends c [] end at = inl at
noted_ends c (first ∷ list) end at = elim (noted_ends (noted c first) list end at) [
  | inl before ↦ elim (noted_from c first end before) [
    | inl is ↦ inr (subst (Contains (first ∷ list)) is (first_stands first list))
    | inr was ↦ inl was
  ]
  | inr later ↦ inr (behind_stands first list end later)
]

pub last_ends : (list : List Ended) (end : Ended) → Contains (ends_of (completions_from [] list)) end → Contains list end
last_ends list end at = elim (noted_ends [] list end at) [ inl none ↦ absurd (none_stands end none) | inr told ↦ told ]

-- so what is found of a client is the end that was noted
pub found_told : (list : List Ended) (client : ℕ) (last : Completion) → get (completions_from [] list) client ≡ Some last → Contains list (ended_of (client, last))
found_told list client last is = last_ends list (ended_of (client, last)) (found_end (completions_from [] list) client last is)
