-- Truth and rest of a row, if what was applied records nothing new: a block of entries came into the truth that were there already, or
-- were first in the rest, with no item and of no call.
use Rattle.std.proofs.Common.{arith, ◌≡◌, ◌≤◌, List, [], ◌∷◌, ◌++◌, refl, ap, ◌∙◌, subst, inl, inr, ◌⊎◌, All, Contains, flat_map}
use Rattle.rk_inv_base.proofs.Words.{flat_map-append, All-contains, All-head, All-tail, Contains-append_cases}
use Rattle.rk_inv_base.proofs.Words.{Contains-append_left, Contains-append_right, Ended, Held, Placed, Entry, none_stands, IsPlain, Base}
use Rattle.rk_inv_base.proofs.Words.{items_in, items_of, told, told_by, floor_of, IsKnown, AreAbove, call_end, call_ends}
use Rattle.rk_inv_logs.proofs.Words.{HaveSame, floor_among, flat_from, flat_of, plain_above}
use Rattle.rk_inv_logs.proofs.apply.Inserted.{HasMore, more_cases, more_still, told_among}

-- ---- truth and rest

-- an entry with no item and of no call, whose ends are known
pub record IsQuietEntry (base : Base) (journal : List Placed) (entry : Entry) : Type 0 where
  pub items : items_in entry ≡ []
  pub ends : call_end entry ≡ []
  pub known : All (IsKnown base journal) (told_by entry)

-- what came into the truth was there, or came first in the rest, which adds nothing new
pub record KeepsRow (base : Base) (journal : List Placed) (truth rest truth' rest' : List Entry) : Type 0 where
  pub more : HasMore truth truth'
  pub head : List Entry
  pub rest_is : rest ≡ head ++ rest'
  pub quiet : All (IsQuietEntry base journal) head
  pub from : (e : Entry) → Contains more.block e → Contains truth e ⊎ Contains head e

-- a function that makes nothing of each makes nothing of all
none_made : {X : Type 0} (f : Entry → List X) (list : List Entry) → All (λ e. f e ≡ []) list → flat_map f list ≡ []
none_made f [] none = refl
none_made {X} f (first ∷ list) none = ap (λ (l : List X). l ++ flat_map f list) (All-head (λ (e : Entry). f e ≡ []) first list none)
    ∙ none_made f list (All-tail (λ (e : Entry). f e ≡ []) first list none)

module _ {base : Base} {journal : List Placed} {truth rest truth' rest' : List Entry} (keeps : KeepsRow base journal truth rest truth' rest') where
  -- an entry of the truth now was one of it, or of the first of the rest
  truth_from : (e : Entry) → Contains truth' e → Contains truth e ⊎ Contains keeps.head e
  truth_from e at = elim (more_cases keeps.more e at) [ inl new ↦ keeps.from e new | inr old ↦ inl old ]

  quiet_at : (e : Entry) → Contains keeps.head e → IsQuietEntry base journal e
  quiet_at e at = All-contains (IsQuietEntry base journal) keeps.head e keeps.quiet at

  -- items
  pub items_keep : HaveSame (items_of truth) (items_of truth')
  items_keep x = (
    told_among items_in truth truth' (more_still keeps.more) x,
    λ at.
        let told_it = flat_from items_in truth' x at in
        elim (truth_from told_it.0 told_it.1) [
          | inl old ↦ flat_of items_in truth told_it.0 x old told_it.2
          | inr first ↦ absurd (none_stands x (subst (λ (l : List Held). Contains l x) (quiet_at told_it.0 first).items told_it.2))
        ],
  )

  pub rest_items : items_of rest ≡ items_of rest'
  rest_items = grind (arith, items_of, flat_map-append, items_in, none_made)

  pub all_keep : HaveSame (items_of (truth ++ rest)) (items_of (truth' ++ rest'))
  all_keep x =
      let old = flat_map-append items_in truth rest ∙ ap (λ (l : List Held). items_of truth ++ l) rest_items in
      let now : items_of (truth' ++ rest') ≡ items_of truth' ++ items_of rest' = flat_map-append items_in truth' rest' in (
        λ at.
            rw now
            (elim (Contains-append_cases (items_of truth) (items_of rest') x (subst (λ (l : List Held). Contains l x) old at)) [
              | inl a ↦ Contains-append_left (items_of truth') (items_of rest') x ((items_keep x).0 a)
              | inr b ↦ Contains-append_right (items_of truth') (items_of rest') x b
            ]),
        λ at.
            rw old
            (elim (Contains-append_cases (items_of truth') (items_of rest') x (subst (λ (l : List Held). Contains l x) now at)) [
              | inl a ↦ Contains-append_left (items_of truth) (items_of rest') x ((items_keep x).1 a)
              | inr b ↦ Contains-append_right (items_of truth) (items_of rest') x b
            ]),
      )

  -- ends
  pub rest_ends : call_ends rest ≡ call_ends rest'
  rest_ends = grind (arith, call_ends, flat_map-append, call_end, none_made)

  pub truth_tells : (end : Ended) → Contains (told truth') end → Contains (told truth) end ⊎ IsKnown base journal end
  truth_tells end at =
      let told_it = flat_from told_by truth' end at in
      elim (truth_from told_it.0 told_it.1) [
        | inl old ↦ inl (flat_of told_by truth told_it.0 end old told_it.2)
        | inr first ↦
            inr (All-contains (IsKnown base journal) (told_by told_it.0) end (quiet_at told_it.0 first).known told_it.2)
      ]

  pub rest_tells : (end : Ended) → Contains (told rest) end → IsKnown base journal end ⊎ Contains (told rest') end
  rest_tells end at =
      let told_it = flat_from told_by rest end at in
      elim
      (Contains-append_cases keeps.head rest' told_it.0
      (subst (λ (l : List Entry). Contains l told_it.0) keeps.rest_is told_it.1)) [
        | inl first ↦
            inl (All-contains (IsKnown base journal) (told_by told_it.0) end (quiet_at told_it.0 first).known told_it.2)
        | inr later ↦ inr (flat_of told_by rest' told_it.0 end later told_it.2)
      ]

  -- floors
  pub floor_keeps : floor_of (truth' ++ rest') ≤ floor_of (truth ++ rest)
  floor_keeps =
      floor_among (truth' ++ rest') (truth ++ rest) (λ e at. elim (Contains-append_cases truth' rest' e at) [
        | inl told_it ↦ elim (truth_from e told_it) [
          | inl old ↦ Contains-append_left truth rest e old
          | inr first ↦ Contains-append_right truth rest e (rw keeps.rest_is (Contains-append_left keeps.head rest' e first))
        ]
        | inr later ↦ Contains-append_right truth rest e (rw keeps.rest_is (Contains-append_right keeps.head rest' e later))
      ])

-- ---- truth and rest together are plain

pub plain_all : (truth rest : List Entry) → IsPlain (items_of truth) → AreAbove (items_of truth) (items_of rest) → IsPlain (items_of (truth ++ rest))
plain_all truth rest plain above = rw (flat_map-append items_in truth rest) (plain_above (items_of truth) (items_of rest) plain above)
