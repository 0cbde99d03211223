-- The ends that a rebuild merged make just the records of the calls of the part that was read behind the truth of its row; other rows are
-- as they were, those ends are known then, and they reach each mutation of the row.
use Rattle.std.proofs.Common.{◌≡◌, ℕ, ◌<◌, ◌≤◌, Bool, true, false, eqb, ltb, List, [], ◌∷◌, ◌++◌, filter, map, Option, Some, refl, sym, ap}
use Rattle.std.proofs.Common.{◌∙◌, subst, ⊎_elim, inl, inr, ◌⊎◌, arith, IfSome, All, AllPairs, Contains, flat_map, eqb-true, ltb-true}
use Rattle.std.proofs.Common.{slice_get, eq-eqb, lt-ltb}
use Rattle.rk_inv_base.proofs.Words.{and_parts, false≢true, false_from_ne_true, flat_map-append, All-contains, All-head, All-tail}
use Rattle.rk_inv_base.proofs.Words.{Contains-append_cases, Contains-append_left, Contains-append_right, filter-append, filter_passes}
use Rattle.rk_inv_base.proofs.Words.{list_any_none, list_any, Ended, Placed, Entry, filter_kept, none_stands, Base, item_end, refusal_end}
use Rattle.rk_inv_base.proofs.Words.{told, told_by, ends_by_place, is_outrun_by, placed_ends, LastCall, IsLastCall, WasAsked, IsKnown}
use Rattle.rk_inv_base.proofs.Words.{IsLastAsked, IsStaged, call_end, call_ends, IsAfterStart, and_from, cases_Bool, cases_lt, All-append}
use Rattle.rk_inv_base.proofs.Words.{All-contains_itself, list_any_at, ⊤, get, Call, Range, is_mutation, filter_left_out, Completions}
use Rattle.rk_inv_base.proofs.Words.{completions_from, ended_of, ends_of, ends_told, outcome_of, of_key, tells_of, first_told, merged_ends}
use Rattle.rk_inv_base.proofs.Words.{has_key, IsReached, Reaches, ReachAll, TellAll, is_record_in, IsLegal-append, legal_back, IsLegal, Map}
use Rattle.rk_inv_base.proofs.Words.{map_after, lineage_of, Row, base_map, counts, record_of_last, records_of, View, rests, truths}
use Rattle.rk_inv_base.proofs.Words.{SoundView}
use Rattle.rk_inv_logs.proofs.Words.{all_by, filter_stands, append_nil, flat_from, AllZip, known_still, filter_from, made_of, place_there}
use Rattle.rk_inv_logs.proofs.Words.{AllPairs-cons, in_one_row, TellHistory, MakeRecords, journal_with, history_of, mapped_from}
use Rattle.rk_inv_logs.specs.read.ReadBack.{TellInOrder, all_of, IsReadBack}
use Rattle.rk_inv_logs.specs.made.Made.{waits, without_stamp}
use Rattle.rk_inv_logs.proofs.made.MadeOf.{AreOfOneCall, Differ, all_placed, none_before, none_placed, nothing_flat, nothing_placed}
use Rattle.rk_inv_logs.proofs.made.MadeOf.{placed_append, IsEndOfLast, IsOfLast, last_inside, AreOnce, HasMade, IsMadeOf, made_each}
use Rattle.rk_inv_logs.proofs.made.MadeOf.{made_for, makes_all, once_made, IsPlacedOf, by_place_stands, one_of_client, history_beside}
use Rattle.rk_inv_logs.proofs.made.MadeOf.{staged_ends, legal_unstamped, made_unstamped, first_differs, later_differ}
use Rattle.rk_inv_logs.proofs.made.LastCalls.{none_wait, waiting_from, waiting_parts, waits_alike, told_staged, known_low, known_waits_not}
use Rattle.rk_inv_logs.proofs.made.LastCalls.{found_told, last_ends, HasNone, none_recorded, only_waiting, found_end}
use Rattle.rk_inv_logs.proofs.apply.MergedEnds.{told_each, HasReached, merged_reaches, reached_told}
use Rattle.rk_inv_logs.proofs.apply.Inserted.{told_among}
use Rattle.rk_model.proofs.Histories.{legal_front}
use Rattle.rk_inv_logs.proofs.apply.AppliedRest.{rest_counts}
use Rattle.std.proofs.lemmas.List.Folds.{map_fixed}
use Rattle.rk_entry.specs.declared.entry.Entry.TheVariants as entries

-- ---- lists

-- what a function makes that passes is made of what passes, if it changes no answer of the test
filter_mapped : {X : Type 0} (p : X → Bool) (f : X → X) (xs : List X) → All (λ x. p (f x) ≡ p x) xs → filter p (map f xs) ≡ map f (filter p xs)
filter_mapped p f [] same = refl
filter_mapped {X} p f (x ∷ xs) same =
    let later : filter p (map f xs) ≡ map f (filter p xs) = filter_mapped p f xs (All-tail (λ x. p (f x) ≡ p x) x xs same) in
    let here : p (f x) ≡ p x = All-head (λ x. p (f x) ≡ p x) x xs same in
    elim (cases_Bool (p x)) [
      | inl is ↦ filter_kept p (f x) (map f xs) (here ∙ is) ∙ ap (λ (l : List X). f x ∷ l) later ∙ ap (map f) (sym (filter_kept p x xs is))
      | inr is ↦ filter_left_out p (f x) (map f xs) (here ∙ is) ∙ later ∙ ap (map f) (sym (filter_left_out p x xs is))
    ]

-- what the entries of members record, member by member
told_all_of : (members : List (List Entry)) → told (all_of members) ≡ flat_map told members
told_all_of [] = refl
told_all_of (first ∷ members) = grind (arith, flat_map-append, told_by, told, (told_all_of members))

-- two records of one mutation are one
one_record : (journal : List Placed) (a b : Placed) → AreOnce journal → Contains journal a → Contains journal b → is_mutation a.call.op ≡ true → a.call.client ≡ b.call.client → a.call.seq ≡ b.call.seq → a ≡ b
one_record journal a b once at_a at_b is client seq =
    let x = place_there journal a at_a in
    let y = place_there journal b at_b in
    let same : x.0 ≡ y.0 = once x.0 y.0 a b x.1 y.1 (assumption) in
    cc (sym x.1 ∙ ap (slice_get journal) same ∙ y.1)

-- ---- what was read of a row

-- of a row were read its truth and a part behind it, whose ends of calls are of different clients; last calls come after the start,
-- and each record is of a call that was asked and does too
pub record Reads : Type 0 where
  pub base : Base
  pub lane : ℕ
  pub asked : ℕ → Option LastCall
  pub journal : List Placed
  pub truth : List Entry
  pub part : List Entry
  pub members : List (List Entry)
  pub last_calls : (client : ℕ) → IfSome (asked client) (IsLastCall base lane client)
  pub recorded : All (λ placed. WasAsked (asked placed.call.client) journal placed.call) journal
  pub after_start : All (λ placed. IsAfterStart base placed.call) journal
  pub order : TellInOrder truth part members
  pub known : All (IsKnown base journal) (told truth)
  pub staged : All (IsStaged base asked journal) part
  pub one : AllPairs Differ (call_ends part)

module _ (r : Reads) where
  abbrev all : List Ended
  all = flat_map told r.members

  abbrev waiting : Ended → Bool
  waiting = waits r.asked r.journal

  -- an end that is known does not wait
  waits_not : (end : Ended) → IsKnown r.base r.journal end → waits r.asked r.journal end ≡ false
  waits_not = known_waits_not r.base r.lane r.asked r.journal r.last_calls r.recorded

  -- the call of an entry that is staged waits
  staged_waits : (end : Ended) {table : ℕ} {key : List ℕ} → IsLastAsked r.asked r.journal end.client end.seq table key → waits r.asked r.journal end ≡ true
  staged_waits end its = grind (arith, waiting_from)

  one_waits : (end : Ended) → waits r.asked r.journal end ≡ true → filter (waits r.asked r.journal) (end ∷ []) ≡ end ∷ []
  one_waits end is = filter_kept (waits r.asked r.journal) end [] is

  entry_waits : (entry : Entry) → IsStaged r.base r.asked r.journal entry → filter (waits r.asked r.journal) (told_by entry) ≡ call_end entry
  entry_waits (entries.Held held) staged = one_waits (item_end held) (staged_waits (item_end held) staged.last)
  entry_waits (entries.Refused refused) staged = one_waits (refusal_end refused) (staged_waits (refusal_end refused) staged)
  entry_waits (entries.Carried carried) staged = grind (arith, none_wait, waits_not, carried.ends)
  entry_waits (entries.Joined joined) staged = refl

  -- of what staged entries record just the ends of their calls wait
  pub staged_wait : (part : List Entry) → All (IsStaged r.base r.asked r.journal) part → filter (waits r.asked r.journal) (told part) ≡ call_ends part
  staged_wait [] staged = refl
  staged_wait (entry ∷ part) staged = filter-append (waits r.asked r.journal) (told_by entry) (told part)
      ∙ (λ i.
      entry_waits entry (All-head (IsStaged r.base r.asked r.journal) entry part staged) i
      ++ staged_wait part (All-tail (IsStaged r.base r.asked r.journal) entry part staged) i)

  pub part_waits : filter waiting (told r.part) ≡ call_ends r.part
  part_waits = staged_wait r.part r.staged

  -- ---- what was read

  -- the ends that members record, but for those of the part
  abbrev middle : List Ended
  middle = r.order.first ++ told r.part ++ r.order.behind

  -- all that members record is recorded by truth and part
  told_in : (end : Ended) → Contains (told (r.truth ++ r.part)) end → Contains (told r.truth) end ⊎ Contains (told r.part) end
  told_in end at = Contains-append_cases (told r.truth) (told r.part) end
      (subst (λ (l : List Ended). Contains l end) (flat_map-append told_by r.truth r.part) at)

  flat_split : flat_map (λ (ends : List Ended). ends) (map told r.members) ≡ flat_map (λ ends. ends) r.order.before ++ (middle ++ flat_map (λ ends. ends) r.order.after)
  flat_split = ap (flat_map (λ (ends : List Ended). ends)) r.order.split
      ∙ flat_map-append (λ (ends : List Ended). ends) r.order.before (middle ∷ r.order.after)

  flat_stands : (groups : List (List Ended)) (P : Ended → Type 0) → All (All P) groups → (end : Ended) → Contains (flat_map (λ ends. ends) groups) end → P end
  flat_stands groups P each end at =
      let of = flat_from (λ (ends : List Ended). ends) groups end at in All-contains P of.0 end
      (All-contains (All P) groups of.0 each of.1) of.2

  pub all_told : (end : Ended) → Contains all end → Contains (told r.truth) end ⊎ Contains (told r.part) end
  all_told end at =
      let after : List Ended = flat_map (λ ends. ends) r.order.after in
      ⊎_elim
      (λ (early : Contains (flat_map (λ ends. ends) r.order.before) end).
      told_in end (flat_stands r.order.before (Contains (told (r.truth ++ r.part))) r.order.before_told end early))
      (λ (from : Contains (middle ++ after) end). elim (Contains-append_cases middle after end from) [
        | inl mid ↦ elim (Contains-append_cases (r.order.first ++ told r.part) r.order.behind end mid) [
          | inl x ↦ elim (Contains-append_cases r.order.first (told r.part) end x) [
            | inl early ↦ inl (All-contains (Contains (told r.truth)) r.order.first end r.order.first_told early)
            | inr own ↦ inr own
          ]
          | inr later ↦ told_in end (All-contains (Contains (told (r.truth ++ r.part))) r.order.behind end r.order.behind_told later)
        ]
        | inr late ↦ absurd (none_stands end (rw (nothing_flat r.order.after r.order.after_none) at late))
      ])
      (Contains-append_cases (flat_map (λ ends. ends) r.order.before) (middle ++ after) end
      (subst (λ (l : List Ended). Contains l end) (sym (told_each r.members) ∙ flat_split) at))

  -- all that the part records, the members record
  pub part_told : (end : Ended) → Contains (told r.part) end → Contains all end
  part_told end at =
      let after : List Ended = flat_map (λ ends. ends) r.order.after in
      rw (sym flat_split ∙ told_each r.members) at
      (Contains-append_right (flat_map (λ ends. ends) r.order.before) (middle ++ after) end
      (Contains-append_left middle after end
      (Contains-append_left (r.order.first ++ told r.part) r.order.behind end (Contains-append_right r.order.first (told r.part) end at))))

  -- an end that waits is recorded by the part, and is that of a call there
  truth_waits_not : (end : Ended) → Contains (told r.truth) end → waiting end ≡ true → ⊥
  truth_waits_not end at is = false≢true (sym (waits_not end (All-contains (IsKnown r.base r.journal) (told r.truth) end r.known at)) ∙ is)

  pub in_part : (end : Ended) → Contains (told r.truth) end ⊎ Contains (told r.part) end → waiting end ≡ true → Contains (told r.part) end
  in_part end at is = elim at [ inl old ↦ absurd (truth_waits_not end old is) | inr new ↦ new ]

  pub calls_end : (end : Ended) → Contains (told r.part) end → waiting end ≡ true → Contains (call_ends r.part) end
  calls_end end at is = rw part_waits at (filter_stands waiting (told r.part) end at is)

  pub call_waits : (end : Ended) → Contains (call_ends r.part) end → waiting end ≡ true
  call_waits end at =
      All-contains (λ e. waiting e ≡ true) (call_ends r.part) end (rw part_waits at (filter_passes waiting (told r.part))) at

  before_last : (end : Ended) (last : LastCall) → r.asked end.client ≡ Some last → IsKnown r.base r.journal end → end.seq ≤ last.call.seq
  before_last = known_low r.base r.lane r.asked r.journal r.last_calls r.recorded

  -- no end that members record is of a later call than the last of its client
  low : (end : Ended) (last : LastCall) → r.asked end.client ≡ Some last → Contains all end → end.seq ≤ last.call.seq
  low end last is at = elim (all_told end at) [
    | inl old ↦ before_last end last is (All-contains (IsKnown r.base r.journal) (told r.truth) end r.known old)
    | inr new ↦ elim (told_staged r.base r.journal r.asked r.part r.staged end new) [
      | inl own ↦
          let w = waiting_parts r.journal end.client end.seq (r.asked end.client) (call_waits end own) in
          let same : w.last ≡ last = cc (sym w.asked_is ∙ is) in
          let seq : last.call.seq ≡ end.seq = ap (λ (l : LastCall). l.call.seq) (sym same) ∙ w.seq_is in
          omega (arith, seq)
      | inr old ↦ before_last end last is old
    ]
  ]

  -- so none outruns an end that waits
  pub outrun_none : (end : Ended) → waiting end ≡ true → list_any (is_outrun_by end) all ≡ false
  outrun_none end is =
      let w = waiting_parts r.journal end.client end.seq (r.asked end.client) is in
      list_any_none (is_outrun_by end) all
      (all_by (λ other. is_outrun_by end other ≡ false) all (λ other at.
      false_from_ne_true (is_outrun_by end other) (λ outrun.
      let parts = and_parts (eqb end.client other.client) (ltb end.seq other.seq) outrun in
      let same : end.client ≡ other.client = eqb-true end.client other.client parts.0 in
      let above : end.seq < other.seq = ltb-true end.seq other.seq parts.1 in
      let below : other.seq ≤ w.last.call.seq = low other w.last (ap r.asked (sym same) ∙ w.asked_is) at in
      let seq : w.last.call.seq ≡ end.seq = w.seq_is in omega (arith, above, below, seq))))

  -- ---- places

  -- of those that have their place at the member of the part
  middle_placed : filter waiting (placed_ends all [] [] middle) ≡ call_ends r.part
  middle_placed =
      let front : List Ended = placed_ends all [] [] (r.order.first ++ told r.part) in
      let late : List Ended = placed_ends all [] (r.order.first ++ told r.part) r.order.behind in
      ap (filter waiting) (placed_append all [] [] (r.order.first ++ told r.part) r.order.behind) ∙ filter-append waiting front late
      ∙ (λ i. filter waiting (placed_append all [] [] r.order.first (told r.part) i) ++ later i)
      ∙ append_nil (filter waiting (placed_ends all [] [] r.order.first ++ placed_ends all [] r.order.first (told r.part)))
      ∙ filter-append waiting (placed_ends all [] [] r.order.first) (placed_ends all [] r.order.first (told r.part))
      ∙ (λ i. early i ++ own i)
    where
      early : filter waiting (placed_ends all [] [] r.order.first) ≡ []
      early =
          none_placed waiting (waits_alike r.asked r.journal) all [] [] r.order.first
          (all_by (λ end. waiting end ≡ true → Contains [] end) r.order.first
          (λ end at is. absurd (truth_waits_not end (All-contains (Contains (told r.truth)) r.order.first end r.order.first_told at) is)))

      own : filter waiting (placed_ends all [] r.order.first (told r.part)) ≡ call_ends r.part
      own = all_placed waiting (waits_alike r.asked r.journal) all [] r.order.first (told r.part)
          (all_by (λ end. waiting end ≡ true → list_any (is_outrun_by end) all ≡ false) (told r.part) (λ end at. outrun_none end))
          (all_by (λ end. waiting end ≡ true → (x : Ended) → Contains r.order.first x → AreOfOneCall end x → ⊥) (told r.part)
          (λ end at is x seen same.
          truth_waits_not x (All-contains (Contains (told r.truth)) r.order.first x r.order.first_told seen)
          (sym (waits_alike r.asked r.journal end x same.client same.seq) ∙ is))) (rw (← part_waits) at r.one) ∙ part_waits

      later : filter waiting (placed_ends all [] (r.order.first ++ told r.part) r.order.behind) ≡ []
      later = none_placed waiting (waits_alike r.asked r.journal) all [] (r.order.first ++ told r.part) r.order.behind
          (all_by (λ end. waiting end ≡ true → Contains (r.order.first ++ told r.part) end) r.order.behind (λ end at is.
          Contains-append_right r.order.first (told r.part) end
          (in_part end (told_in end (All-contains (Contains (told (r.truth ++ r.part))) r.order.behind end r.order.behind_told at)) is)))

  -- of all that have a place, just those of the calls of the part wait, in their order
  pub placed_wait : filter waiting (ends_by_place all (map told r.members)) ≡ call_ends r.part
  placed_wait =
      let after : List Ended = flat_map (λ ends. ends) r.order.after in
      let none : after ≡ [] = nothing_flat r.order.after r.order.after_none in
      ap (λ (l : List (List Ended)). filter waiting (ends_by_place all l)) r.order.split
      ∙ none_before waiting (waits_alike r.asked r.journal) all r.order.before (middle ∷ r.order.after)
      (all_by (All (λ end. waiting end ≡ true → Contains (middle ++ after) end)) r.order.before (λ group has.
      all_by (λ end. waiting end ≡ true → Contains (middle ++ after) end) group (λ end at is.
      Contains-append_left middle after end
      (Contains-append_left (r.order.first ++ told r.part) r.order.behind end
      (Contains-append_right r.order.first (told r.part) end
      (in_part end
      (told_in end
      (All-contains (Contains (told (r.truth ++ r.part))) group end
      (All-contains (All (Contains (told (r.truth ++ r.part)))) r.order.before group r.order.before_told has) at)) is))))))
      ∙ (λ i. filter waiting (placed_ends all (none i) [] middle ++ nothing_placed all r.order.after r.order.after_none i))
      ∙ ap (filter waiting) (append_nil (placed_ends all [] [] middle)) ∙ middle_placed

  -- ---- what is merged

  -- the end that counts for an end that was recorded
  abbrev as_told : Ended → Ended
  as_told end = first_told end (get (completions_from [] all) end.client)

  abbrev places : List Ended
  places = ends_by_place all (map told r.members)

  in_calls : (end : Ended) → Contains all end → waiting end ≡ true → Contains (call_ends r.part) end
  in_calls end at is = calls_end end (in_part end (all_told end at) is) is

  -- an end is of the same call as another one, and is recorded
  record CountsFor (end counted : Ended) : Type 0 where
    same : AreOfOneCall counted end
    stands : Contains all counted

  -- so is the end that counts for an end that has its place
  counts_for : (end : Ended) → IsPlacedOf all all end → CountsFor end (as_told end)
  counts_for end placed =
      let has : HasReached (completions_from [] all) end.client end.seq = reached_told [] all end placed.stands in
      let it : Ended = ended_of (end.client, has.last) in
      let is : as_told end ≡ it = ap (first_told end) has.found in
      let stands : Contains all it = found_told all end.client has.last has.found in
      let late : end.seq ≤ has.last.seq = has.as_late in
      let seq : has.last.seq ≡ end.seq = elim (cases_lt end.seq has.last.seq) [
        | inl above ↦
            let outrun : list_any (is_outrun_by end) all ≡ true =
            list_any_at (is_outrun_by end) all stands.0 it stands.1
            (ap (is_outrun_by end) stands.2
            ∙ and_from (eqb end.client end.client) (ltb end.seq has.last.seq) (eq-eqb end.client end.client refl)
            (lt-ltb end.seq has.last.seq above)) in
            absurd (false≢true (sym placed.free ∙ outrun))
        | inr below ↦ omega (arith, late, below)
      ] in
      rw is (record { same = record { client = refl; seq = seq }; stands = stands })

  places_told : (end : Ended) → Contains places end → IsPlacedOf all all end
  places_told end at =
      let found = by_place_stands all (map told r.members) end at in
      record { stands = rw (told_each r.members) at found.stands; free = found.free }

  -- what is merged was recorded
  pub merged_told : (end : Ended) → Contains (merged_ends r.members) end → Contains all end
  merged_told end at =
      let found = mapped_from as_told places end at in
      rw found.2 at (counts_for found.0 (places_told found.0 found.1)).stands

  -- each end of a call of the part counts for itself
  call_counts : (end : Ended) → Contains (call_ends r.part) end → as_told end ≡ end
  call_counts end at =
      let has_place = filter_from waiting places end (subst (λ (l : List Ended). Contains l end) (sym placed_wait) at) in
      let counts = counts_for end (places_told end has_place) in
      one_of_client (call_ends r.part) (as_told end) end r.one
      (in_calls (as_told end) counts.stands
      (waits_alike r.asked r.journal (as_told end) end counts.same.client counts.same.seq ∙ call_waits end at)) at
      counts.same.client

  -- of what is merged just the ends of the calls of the part wait
  pub merged_wait : filter waiting (merged_ends r.members) ≡ call_ends r.part
  merged_wait = filter_mapped waiting as_told places
      (all_by (λ end. waiting (as_told end) ≡ waiting end) places (λ end at.
      let counts = counts_for end (places_told end at) in
      waits_alike r.asked r.journal (as_told end) end counts.same.client counts.same.seq)) ∙ ap (map as_told) placed_wait
      ∙ map_fixed as_told (call_ends r.part) (all_by (λ end. as_told end ≡ end) (call_ends r.part) call_counts)

  -- so these make all records
  pub made_merged : made_of r.asked r.journal (merged_ends r.members) ≡ made_of r.asked r.journal (call_ends r.part)
  made_merged = only_waiting r.asked r.journal (merged_ends r.members) ∙ ap (made_of r.asked r.journal) merged_wait

  pub made_zip : AllZip (IsMadeOf r.asked) (call_ends r.part) (made_of r.asked r.journal (call_ends r.part))
  made_zip =
      makes_all r.base r.lane r.asked r.last_calls r.journal (call_ends r.part)
      (all_by (λ end. waiting end ≡ true) (call_ends r.part) call_waits) r.one

  -- ---- the records

  module _ (range : Range) (ends : All (IsEndOfLast r.asked r.journal range) (call_ends r.part)) where
    abbrev made : List Placed
    made = made_of r.asked r.journal (call_ends r.part)

    its_end : (end : Ended) → Contains (call_ends r.part) end → IsEndOfLast r.asked r.journal range end
    its_end end at = All-contains (IsEndOfLast r.asked r.journal range) (call_ends r.part) end ends at

    -- each is of the end of a call of the part
    record IsMadeBy (placed : Placed) : Type 0 where
      end : Ended
      stands : Contains (call_ends r.part) end
      its : IsMadeOf r.asked end placed

    made_from : All IsMadeBy made
    made_from = made_each r.asked (Contains (call_ends r.part)) IsMadeBy (λ end placed its at. record { end = end; stands = at; its = its })
        (call_ends r.part) made made_zip (All-contains_itself (call_ends r.part))

    -- each is of a key in the range
    pub made_inside : All (λ placed. is_record_in range placed ≡ true) made
    made_inside = made_each r.asked (IsEndOfLast r.asked r.journal range) (λ placed. is_record_in range placed ≡ true)
        (λ end placed its last.
        let one : its.last ≡ last.last.last = cc (sym its.asked_is ∙ last.last.asked_is) in
        (λ i. has_key range (its.call_is i).table (its.call_is i).key) ∙ (λ i. has_key range (one i).call.table (one i).call.key)
        ∙ last_inside r.base r.asked r.journal range end last) (call_ends r.part) made made_zip ends

    -- and of the last call of its client
    pub made_last : All (IsOfLast r.asked) made
    made_last = made_each r.asked (λ end. ⊤) (IsOfLast r.asked)
        (λ end placed its none. record {
          last = its.last;
          asked_is = ap r.asked (ap (λ (c : Call). c.client) its.call_is ∙ its.own) ∙ its.asked_is;
          call_is = its.call_is;
        }) (call_ends r.part) made made_zip (all_by (λ end. ⊤) (call_ends r.part) (λ end at. tt))

    -- no record was of such a call
    none_was_before : (end : Ended) → IsEndOfLast r.asked r.journal range end → HasNone r.journal end.client end.seq
    none_was_before end its =
        let last = its.last in
        none_recorded r.base r.lane r.asked r.journal r.last_calls r.recorded end.client end.seq
        (record { last = last.last; asked_is = last.asked_is; seq_is = last.seq_is; unrecorded = last.unrecorded }) last.mutation

    pub made_once : AreOnce r.journal → AreOnce (r.journal ++ made)
    made_once once = once_made r.asked r.journal (call_ends r.part) made made_zip once r.one
        (all_by (λ end. HasNone r.journal end.client end.seq) (call_ends r.part) (λ end at. none_was_before end (its_end end at)))

    -- ---- the ends

    -- each end that is recorded is known then
    pub known_now : (end : Ended) → Contains all end → IsKnown r.base (r.journal ++ made) end
    known_now end at = elim (all_told end at) [
      | inl old ↦ known_still r.journal made r.base end (All-contains (IsKnown r.base r.journal) (told r.truth) end r.known old)
      | inr new ↦ elim (told_staged r.base r.journal r.asked r.part r.staged end new) [
        | inl own ↦
            let has : HasMade r.asked made end = made_for r.asked (call_ends r.part) made made_zip end own in
            let last = its_end end own in
            let one : has.its.last ≡ last.last.last = cc (sym has.its.asked_is ∙ last.last.asked_is) in
            inl
            (record {
              placed = has.placed;
              stands = Contains-append_right r.journal made has.placed has.stands;
              fits = record {
                mutation = ap (λ (c : Call). is_mutation c.op) has.its.call_is ∙ ap (λ (l : LastCall). is_mutation l.call.op) one
                    ∙ last.last.mutation;
                client = ap (λ (c : Call). c.client) has.its.call_is ∙ has.its.own;
                seq = ap (λ (c : Call). c.seq) has.its.call_is ∙ has.its.seq_is;
                outcome = has.its.outcome_is;
              };
            })
        | inr known ↦ known_still r.journal made r.base end known
      ]
    ]

    abbrev last_of_each : Completions
    last_of_each = completions_from [] (merged_ends r.members)

    pub lasts_known : All (IsKnown r.base (r.journal ++ made)) (ends_of last_of_each)
    lasts_known = all_by (IsKnown r.base (r.journal ++ made)) (ends_of last_of_each)
        (λ end at. known_now end (merged_told end (last_ends (merged_ends r.members) end at)))

    -- what an end that is recorded reaches, the last end of its client reaches too
    module _ (once : AreOnce r.journal) where
      after_now : All (λ placed. IsAfterStart r.base placed.call) (r.journal ++ made)
      after_now = All-append (λ (placed : Placed). IsAfterStart r.base placed.call) r.journal made r.after_start
          (all_by (λ (placed : Placed). IsAfterStart r.base placed.call) made (λ placed stands.
          let one : IsOfLast r.asked placed = All-contains (IsOfLast r.asked) made placed made_last stands in
          let its : IsLastCall r.base r.lane placed.call.client one.last = rw one.asked_is at (r.last_calls placed.call.client) in
          rw one.call_is its.after))

      -- a known end of the call of a record has its outcome
      same_outcome : (placed : Placed) → Contains (r.journal ++ made) placed → is_mutation placed.call.op ≡ true → (end : Ended) → IsKnown r.base (r.journal ++ made) end → end.client ≡ placed.call.client → end.seq ≡ placed.call.seq → outcome_of end.end ≡ placed.outcome
      same_outcome placed stands is end known client seq = elim known [
        | inl found ↦
            let one : placed ≡ found.placed =
            one_record (r.journal ++ made) placed found.placed (made_once once) stands found.stands is (sym client ∙ sym found.fits.client)
            (sym seq ∙ sym found.fits.seq) in
            sym found.fits.outcome ∙ ap (λ (p : Placed). p.outcome) (sym one)
        | inr start ↦
            let before : end.seq < placed.call.seq =
            All-contains (λ (e : Ended). e.client ≡ placed.call.client → e.seq < placed.call.seq) (ends_told r.base) end
            (All-contains (λ (p : Placed). IsAfterStart r.base p.call) (r.journal ++ made) placed after_now stands) start client in
            absurd (omega (arith, before, seq))
      ]

      reach_on : (placed : Placed) → Contains (r.journal ++ made) placed → is_mutation placed.call.op ≡ true → (end : Ended) → Contains all end → Reaches end placed → IsReached (ends_of last_of_each) placed
      reach_on placed stands is end at reaches =
          let has : HasReached last_of_each end.client end.seq = merged_reaches r.members end at in
          let last : Ended = ended_of (end.client, has.last) in
          let here : Contains (ends_of last_of_each) last = found_end last_of_each end.client has.last has.found in
          let late : end.seq ≤ has.last.seq = has.as_late in
          let under : placed.call.seq ≤ end.seq = elim reaches.reached [
            | inl before ↦ omega (arith, before)
            | inr same ↦ let seq : placed.call.seq ≡ end.seq = same.0 in omega (arith, seq)
          ] in
          record {
            end = last;
            stands = here;
            reaches = record {
              client = reaches.client;
              reached = elim (cases_lt placed.call.seq has.last.seq) [
                | inl above ↦ inl above
                | inr not_above ↦
                    let seq : placed.call.seq ≡ has.last.seq = omega (arith, not_above, under, late) in
                    inr (
                      seq,
                      same_outcome placed stands is last
                          (All-contains (IsKnown r.base (r.journal ++ made)) (ends_of last_of_each) last lasts_known here) reaches.client
                          (sym seq),
                    )
              ];
            };
          }

      -- the last ends reach a record, if it is of a mutation in the range
      abbrev AreReached : Placed → Type 0
      AreReached placed = is_record_in range placed ≡ true → is_mutation placed.call.op ≡ true → IsReached (ends_of last_of_each) placed

      made_reached : All AreReached made
      made_reached =
          all_by AreReached made (λ placed stands inside is.
          let from : IsMadeBy placed = All-contains IsMadeBy made placed made_from stands in
          reach_on placed (Contains-append_right r.journal made placed stands) is from.end
          (part_told from.end
          (filter_from waiting (told r.part) from.end
          (rw part_waits from.stands)))
          (record {
            client = sym (ap (λ (c : Call). c.client) from.its.call_is ∙ from.its.own);
            reached = inr (ap (λ (c : Call). c.seq) from.its.call_is ∙ from.its.seq_is, sym from.its.outcome_is);
          }))

      -- so they reach each mutation in the range
      pub lasts_reach : All (Contains (told (all_of r.members))) (told r.truth) → TellAll range r.journal r.truth → ReachAll range (r.journal ++ made) (ends_of last_of_each)
      lasts_reach told_all tells = All-append AreReached r.journal made
          (all_by AreReached r.journal (λ placed stands inside is.
          let was : IsReached (told (of_key placed.call.table placed.call.key r.truth)) placed =
          All-contains
          (λ (p : Placed).
          is_record_in range p ≡ true → is_mutation p.call.op ≡ true → IsReached (told (of_key p.call.table p.call.key r.truth)) p)
          r.journal
          placed tells stands inside is in
          reach_on placed (Contains-append_left r.journal made placed stands) is was.end
          (rw (told_all_of r.members) at
          (All-contains (Contains (told (all_of r.members))) (told r.truth) was.end told_all
          (told_among told_by (of_key placed.call.table placed.call.key r.truth) r.truth
          (filter_from (tells_of placed.call.table placed.call.key) r.truth) was.end was.stands))) was.reaches)) made_reached

-- what holds of all, or of each pair, holds so of a first part
all_front : {X : Type 0} (P : X → Type 0) (front back : List X) → All P (front ++ back) → All P front
all_front P front back all = all_by P front (λ x at. All-contains P (front ++ back) x all (Contains-append_left front back x at))

pairs_front : (front back : List Ended) → AllPairs Differ (front ++ back) → AllPairs Differ front
pairs_front [] back one = λ i j d before within. absurd (omega (arith, within))
pairs_front (end ∷ front) back one =
    AllPairs-cons Differ end front (all_front (Differ end) front back (first_differs end (front ++ back) one))
    (pairs_front front back (later_differ end (front ++ back) one))

module _ (v : View) (row : Row) (members : List (List Entry)) (sound : SoundView v) (has : Contains v.rows row) (read : IsReadBack (truths v row) (rests v row) members) where
  abbrev truth : List Entry
  truth = truths v row

  abbrev part : List Entry
  part = read.part

  abbrev start : Map
  start = base_map v.base

  -- the records of the calls of the part
  abbrev made_of_part : List Placed
  made_of_part = made_of v.asked v.journal (call_ends part)

  history : TellHistory v.base row.range (truths v row) (rests v row) v.journal v.asked
  history = history_of v row sound has

  split : rests v row ≡ part ++ read.left
  split = read.split

  staged : All (IsStaged v.base v.asked v.journal) part
  staged = all_front (IsStaged v.base v.asked v.journal) part read.left (rw split at history.goes_on.staged)

  counted : (r : Row) → All (λ entry. counts r.range entry ≡ true) (rests v r)
  counted r = rest_counts v.written r.range (lineage_of r.phase)

  ends_split : call_ends (rests v row) ≡ call_ends part ++ call_ends read.left
  ends_split = ap call_ends split ∙ flat_map-append call_end part read.left

  abbrev reads : Reads
  reads = record {
    base = v.base;
    lane = v.lane;
    asked = v.asked;
    journal = v.journal;
    truth = truths v row;
    part = read.part;
    members = members;
    last_calls = sound.asked.last;
    recorded = sound.asked.recorded;
    after_start = sound.asked.after_start;
    order = read.ends;
    known = history.known;
    staged = staged;
    one = pairs_front (call_ends part) (call_ends read.left) (rw ends_split at history.goes_on.one);
  }

  ends : All (IsEndOfLast v.asked v.journal row.range) (call_ends part)
  ends = staged_ends v.base v.asked v.journal row.range part
      (all_front (λ entry. counts row.range entry ≡ true) part read.left (rw split at (counted row))) staged

  -- ---- the records

  -- the ends that are merged make the records of the calls of the part
  pub made_is : made_of v.asked v.journal (merged_ends members) ≡ made_of v.asked v.journal (call_ends read.part)
  made_is = made_merged reads

  -- those that the staged calls will make, but for their stamps
  pub made_staged : map without_stamp (made_of v.asked v.journal (call_ends read.part)) ≡ records_of v.asked (call_ends read.part)
  made_staged = made_unstamped v.asked (call_ends part) made_of_part (made_zip reads)

  pub records_staged : map without_stamp (made_of v.asked v.journal (merged_ends members)) ≡ records_of v.asked (call_ends read.part)
  records_staged = ap (map without_stamp) made_is ∙ made_staged

  inside : All (λ placed. is_record_in row.range placed ≡ true) made_of_part
  inside = made_inside reads row.range ends

  records_split : records_of v.asked (call_ends (rests v row)) ≡ records_of v.asked (call_ends part) ++ records_of v.asked (call_ends read.left)
  records_split = ap (records_of v.asked) ends_split
      ∙ flat_map-append (λ (end : Ended). record_of_last end (v.asked end.client)) (call_ends part) (call_ends read.left)

  legal : IsLegal start (v.journal ++ made_of_part)
  legal = IsLegal-append start v.journal made_of_part sound.truth.legal
      (legal_unstamped (map_after start v.journal) made_of_part
      (rw made_staged
      (legal_front (map_after start v.journal) (records_of v.asked (call_ends part)) (records_of v.asked (call_ends read.left))
      (rw records_split at (legal_back start v.journal (records_of v.asked (call_ends (rests v row))) history.goes_on.legal)))))

  pub records_made : MakeRecords v row.range (merged_ends members)
  records_made = record {
    inside = rw made_is inside;
    legal = rw made_is legal;
    once = rw made_is (made_once reads row.range ends sound.calls.once);
  }

  -- ---- other rows

  pub others_tell : (other : Row) → Contains v.rows other → (other.tablet ≡ row.tablet → ⊥)
      → TellHistory v.base other.range (truths v other) (rests v other) (journal_with v (merged_ends members)) v.asked
  others_tell other stands unlike = rw made_is
      (history_beside v.base other.range v.journal made_of_part v.asked
      (all_by (λ placed. is_record_in other.range placed ≡ false) made_of_part (λ placed at.
      in_one_row v.rows row other placed.call.table placed.call.key sound.rows.apart has stands unlike
      (All-contains (λ p. is_record_in row.range p ≡ true) made_of_part placed inside at)))
      (made_last reads row.range ends) legal (truths v other) (rests v other)
      (counted other) (history_of v other sound stands))

  -- ---- the ends

  pub ends_known : All (IsKnown v.base (journal_with v (merged_ends members))) (ends_of (completions_from [] (merged_ends members)))
  ends_known = rw made_is (lasts_known reads row.range ends)

  pub ends_reach : ReachAll row.range (journal_with v (merged_ends members)) (ends_of (completions_from [] (merged_ends members)))
  ends_reach = rw made_is
      (lasts_reach reads row.range ends sound.calls.once read.told_all
      history.ends)
