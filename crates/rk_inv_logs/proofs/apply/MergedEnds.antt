-- What a rebuild merged records of each client an end that is not before any that its members record: so noting one of these again changes
-- nothing.
use Rattle.std.proofs.Common.{◌≡◌, ℕ, ◌≤◌, ◌<◌, Bool, true, false, cond, not, ◌&&◌, ◌||◌, eqb, ltb, List, [], ◌∷◌, ◌++◌, Option, Some, None}
use Rattle.std.proofs.Common.{refl, sym, ap, ◌∙◌, subst, inl, inr, ◌⊎◌, arith, map, Contains, flat_map, eq-eqb, eqb-true, le-ltb, ltb-false}
use Rattle.std.proofs.Common.{ltb-true}
use Rattle.rk_inv_base.proofs.Words.{and_from, and_parts, cases_Bool, cases_eq, false≢true, false_from_ne_true, Contains-append_cases}
use Rattle.rk_inv_base.proofs.Words.{Contains-append_left, Contains-append_right, Any-from_list_any, list_any-append, list_any_at}
use Rattle.rk_inv_base.proofs.Words.{list_any_none, list_any, get_other, get_same, get, Ended, Entry, Completions, completions_from}
use Rattle.rk_inv_base.proofs.Words.{is_later, noted, Completion, behind_stands, first_stands, none_stands, stands_cases, told}
use Rattle.rk_inv_base.proofs.Words.{ends_by_place, first_told, is_outrun_by, is_placed, merged_ends, placed_ends}
use Rattle.rk_inv_logs.proofs.Words.{noted_later, noted_older, is_same_call, all_by, mapped}

-- ---- the last end of a client

-- the last end of a client is that of a call with as great a seq
pub record HasReached (c : Completions) (client seq : ℕ) : Type 0 where
  pub last : Completion
  pub found : get c client ≡ Some last
  pub as_late : seq ≤ last.seq

-- noting an end leaves it so, and makes it so of the end
reached_noted : (c : Completions) (end : Ended) (client seq : ℕ) → HasReached c client seq → HasReached (noted c end) client seq
reached_noted c end client seq has = elim (cases_Bool (is_later (get c end.client) end.seq)) [
  | inl later ↦
      let new : Completion = record { seq = end.seq; end = end.end } in
      rw (noted_later c end later)
      (elim (cases_eq client end.client) [
        | inl same ↦ record {
          last = new;
          found = get_same c end.client new client same;
          as_late = grind (arith, ltb-true, is_later, end.client, has.last, has.found, has.last.seq, end.seq, has.as_late);
        }
        | inr other ↦ record { last = has.last; found = get_other c end.client new client other ∙ has.found; as_late = has.as_late }
      ])
  | inr older ↦ rw (noted_older c end older) has
]

reached_new : (c : Completions) (end : Ended) → HasReached (noted c end) end.client end.seq
reached_new c end = elim (cases_Bool (is_later (get c end.client) end.seq)) [
  | inl later ↦
      let new : Completion = record { seq = end.seq; end = end.end } in
      rw (noted_later c end later) (record { last = new; found = get_same c end.client new end.client refl; as_late = omega arith })
  | inr older ↦ rw (noted_older c end older) (go (get c end.client) refl older)
]
  where
    go : (o : Option Completion) → get c end.client ≡ o → is_later o end.seq ≡ false → HasReached c end.client end.seq
    go None is older = absurd (cc older)
    go (Some last) is older = record { last = last; found = is; as_late = ltb-false last.seq end.seq older }

reached_from : (c : Completions) (list : List Ended) (client seq : ℕ) → HasReached c client seq → HasReached (completions_from c list) client seq
reached_from c [] client seq has = has
reached_from c (end ∷ list) client seq has = reached_from (noted c end) list client seq (reached_noted c end client seq has)

pub reached_told : (c : Completions) (list : List Ended) (end : Ended) → Contains list end → HasReached (completions_from c list) end.client end.seq
reached_told c [] end at = absurd (none_stands end at)
reached_told c (first ∷ list) end at = elim (stands_cases first list end at) [
  | inl same ↦ subst (λ (e : Ended). HasReached (completions_from (noted c first) list) e.client e.seq) same
      (reached_from (noted c first) list first.client first.seq (reached_new c first))
  | inr later ↦ reached_told (noted c first) list end later
]

-- an end of a list is of a client with a seq
pub record IsTold (list : List Ended) (client seq : ℕ) : Type 0 where
  pub end : Ended
  pub stands : Contains list end
  pub client_is : end.client ≡ client
  pub seq_is : end.seq ≡ seq

told_behind : (first : Ended) (list : List Ended) (client seq : ℕ) → IsTold list client seq → IsTold (first ∷ list) client seq
told_behind first list client seq told = grind (arith, behind_stands)

-- the last end of a client was there, or is that of an end in the list
comes_from : (c : Completions) (list : List Ended) (client : ℕ) (last : Completion) → get (completions_from c list) client ≡ Some last → (get c client ≡ Some last) ⊎ IsTold list client last.seq
comes_from c [] client last is = inl is
comes_from c (end ∷ list) client last is =
    grind (
      arith,
      noted,
      cases_Bool,
      is_later,
      noted_later,
      cases_eq,
      get_same,
      first_stands,
      get_other,
      noted_older,
      told,
      told_behind,
      end.client,
      end.seq,
      end.end,
      last.seq,
      (comes_from (noted c end) list client last is),
    )

-- ---- the places of ends

module _ (all : List Ended) (g : Ended) (free : list_any (is_outrun_by g) all ≡ false) where
  same_itself : is_same_call g g ≡ true
  same_itself = and_from (eqb g.client g.client) (eqb g.seq g.seq) (eq-eqb g.client g.client refl) (eq-eqb g.seq g.seq refl)

  -- if no other end of the call is there, its first one has its place
  placed_here : (later seen ends : List Ended) → list_any (is_same_call g) later ≡ false → list_any (is_same_call g) seen ≡ false → Contains ends g → IsTold (placed_ends all later seen ends) g.client g.seq
  placed_here later seen [] none unseen at = absurd (none_stands g at)
  placed_here later seen (first ∷ ends) none unseen at = elim (cases_Bool (is_same_call g first)) [
    | inl same ↦
        let parts = and_parts (eqb g.client first.client) (eqb g.seq first.seq) same in
        let client : g.client ≡ first.client = eqb-true g.client first.client parts.0 in
        let seq : g.seq ≡ first.seq = eqb-true g.seq first.seq parts.1 in
        let untold : list_any (is_same_call g) (later ++ seen) ≡ false =
        list_any-append (is_same_call g) later seen ∙ ap (λ (b : Bool). b || list_any (is_same_call g) seen) none ∙ unseen in
        let place : is_placed all later seen first ≡ true =
        (λ i.
        not (list_any (λ (other : Ended). eqb (sym client i) other.client && ltb (sym seq i) other.seq) all) && not
        (list_any (λ (other : Ended). eqb (sym client i) other.client && eqb (sym seq i) other.seq) (later ++ seen)))
        ∙ ap (λ (b : Bool). not b && not (list_any (is_same_call g) (later ++ seen))) free ∙ ap not untold in
        rw place
        (record {
          end = first;
          stands = first_stands first (placed_ends all later (seen ++ first ∷ []) ends);
          client_is = sym client;
          seq_is = sym seq;
        })
    | inr other ↦
        let unseen_now : list_any (is_same_call g) (seen ++ first ∷ []) ≡ false =
        list_any-append (is_same_call g) seen (first ∷ []) ∙ ap (λ (b : Bool). b || (is_same_call g first || false)) unseen
        ∙ ap (λ (b : Bool). b || false) other in
        let behind : Contains ends g = elim (stands_cases first ends g at) [
          | inl is ↦ absurd (false≢true (sym other ∙ ap (is_same_call g) is ∙ same_itself))
          | inr there ↦ there
        ] in
        either (is_placed all later seen first) (placed_here later (seen ++ first ∷ []) ends none unseen_now behind)
  ]
    where
      either : (b : Bool) → IsTold (placed_ends all later (seen ++ first ∷ []) ends) g.client g.seq
          → IsTold (cond b (first ∷ placed_ends all later (seen ++ first ∷ []) ends) (placed_ends all later (seen ++ first ∷ []) ends)) g.client g.seq
      either true told = told_behind first (placed_ends all later (seen ++ first ∷ []) ends) g.client g.seq told
      either false told = told

-- an end that none outruns has its place at some member
placed_somewhere : (all : List Ended) (members : List (List Ended)) (g : Ended) → list_any (is_outrun_by g) all ≡ false → Contains (flat_map (λ ends. ends) members) g → IsTold (ends_by_place all members) g.client g.seq
placed_somewhere all [] g free at = absurd (none_stands g at)
placed_somewhere all (ends ∷ members) g free at =
    let later : List Ended = flat_map (λ told. told) members in
    let here : List Ended = placed_ends all later [] ends in
    let there : List Ended = ends_by_place all members in
    elim (cases_Bool (list_any (is_same_call g) later)) [
      | inl told_later ↦
          let other = Any-from_list_any (is_same_call g) later told_later in
          let x : Ended = other.1 in
          let same : is_same_call g x ≡ true = other.4 in
          let parts = and_parts (eqb g.client x.client) (eqb g.seq x.seq) same in
          let client : g.client ≡ x.client = eqb-true g.client x.client parts.0 in
          let seq : g.seq ≡ x.seq = eqb-true g.seq x.seq parts.1 in
          let free_x : list_any (is_outrun_by x) all ≡ false =
          (λ i. list_any (λ (o : Ended). eqb (sym client i) o.client && ltb (sym seq i) o.seq) all) ∙ free in
          let found = placed_somewhere all members x free_x (other.0, other.2, other.3) in
          record {
            end = found.end;
            stands = Contains-append_right here there found.end found.stands;
            client_is = found.client_is ∙ sym client;
            seq_is = found.seq_is ∙ sym seq;
          }
      | inr not_later ↦
          let own : Contains ends g = elim (Contains-append_cases ends later g at) [
            | inl mine ↦ mine
            | inr theirs ↦
                absurd
                (false≢true
                (sym not_later
                ∙ list_any_at (is_same_call g) later theirs.0 g theirs.1 (ap (is_same_call g) theirs.2 ∙ same_itself all g free)))
          ] in
          let found = placed_here all g free later [] ends not_later refl own in
          record {
            end = found.end;
            stands = Contains-append_left here there found.end found.stands;
            client_is = found.client_is;
            seq_is = found.seq_is;
          }
    ]

-- ---- what was merged

-- all that members record, member by member
pub told_each : (members : List (List Entry)) → flat_map (λ (ends : List Ended). ends) (map told members) ≡ flat_map told members
told_each [] = refl
told_each (first ∷ members) = ap (λ (l : List Ended). told first ++ l) (told_each members)

module _ (members : List (List Entry)) (client seq : ℕ) (last : Completion) (found : get (completions_from [] (flat_map told members)) client ≡ Some last) where
  abbrev all : List Ended
  all = flat_map told members

  -- none outruns the last end of the client
  outrun_none : (g : Ended) → g.client ≡ client → g.seq ≡ last.seq → list_any (is_outrun_by g) (flat_map told members) ≡ false
  outrun_none g client_is seq_is = list_any_none (is_outrun_by g) all
      (all_by (λ other. is_outrun_by g other ≡ false) all (λ other at.
      false_from_ne_true (is_outrun_by g other) (λ outrun.
      let parts = and_parts (eqb g.client other.client) (ltb g.seq other.seq) outrun in
      let same : g.client ≡ other.client = eqb-true g.client other.client parts.0 in
      let above : g.seq < other.seq = ltb-true g.seq other.seq parts.1 in
      let has = reached_told [] all other at in
      let one : has.last ≡ last = cc (sym has.found ∙ ap (get (completions_from [] all)) (sym same ∙ client_is) ∙ found) in
      let late : other.seq ≤ last.seq = rw one at has.as_late in absurd (omega (arith, above, late, seq_is)))))

  -- so what was merged has an end of the client with its seq
  merged_last : IsTold (merged_ends members) client last.seq
  merged_last = elim (comes_from [] all client last found) [
    | inl none ↦ absurd (cc none)
    | inr told_it ↦
        let g : Ended = told_it.end in
        let place =
        placed_somewhere all (map told members) g (outrun_none g told_it.client_is told_it.seq_is)
        (rw (told_each members) told_it.stands) in
        let x : Ended = place.end in
        let its : x.client ≡ client = place.client_is ∙ told_it.client_is in
        let is = ap (first_told x) (ap (get (completions_from [] all)) its ∙ found) in
        record {
          end = first_told x (get (completions_from [] all) x.client);
          stands = mapped (λ end. first_told end (get (completions_from [] all) end.client)) (ends_by_place all (map told members)) x
              place.stands;
          client_is = ap (λ (e : Ended). e.client) is ∙ its;
          seq_is = ap (λ (e : Ended). e.seq) is;
        }
  ]

-- for each end that a member records, what was merged has reached the seq
pub merged_reaches : (members : List (List Entry)) (end : Ended) → Contains (flat_map told members) end → HasReached (completions_from [] (merged_ends members)) end.client end.seq
merged_reaches members end at =
    let has = reached_told [] (flat_map told members) end at in
    let told_it = merged_last members end.client end.seq has.last has.found in
    let reached = reached_told [] (merged_ends members) told_it.end told_it.stands in
    let here = ap (get (completions_from [] (merged_ends members))) (sym told_it.client_is) ∙ reached.found in
    record {
      last = reached.last;
      found = here;
      as_late = grind (arith, told_it.end.seq, reached.last.seq, reached.as_late, has.last.seq, told_it.seq_is, end.seq, has.as_late);
    }

-- so noting it once more changes nothing
pub noted_again : (c : Completions) (end : Ended) → HasReached c end.client end.seq → noted c end ≡ c
noted_again c end has =
    noted_older c end (ap (λ (o : Option Completion). is_later o end.seq) has.found ∙ le-ltb has.last.seq end.seq has.as_late)
