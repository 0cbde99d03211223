-- The records that are made of the ends that a rebuild merged: which ends have a place, what they make, and that the records of other
-- rows stay.
use Rattle.std.proofs.Common.{◌≡◌, suc, Bool, true, false, cond, not, ◌&&◌, eqb, List, [], ◌∷◌, ◌++◌, filter, refl, sym, ap, ◌∙◌, subst}
use Rattle.std.proofs.Common.{⊎_elim, arith, append_assoc, ◌≢◌, All, AllPairs, Contains, flat_map, eq-eqb, eqb-true, inl, inr, ℕ, map}
use Rattle.std.proofs.Common.{Option, Some, IfSome, slice_get}
use Rattle.rk_inv_base.proofs.Words.{and_from, and_parts, cases_Bool, false≢true, false_from_ne_true, flat_map-append, All-contains}
use Rattle.rk_inv_base.proofs.Words.{All-head, All-tail, Contains-append_cases, Contains-append_left, Contains-append_right}
use Rattle.rk_inv_base.proofs.Words.{Contains-push_cases, filter-append, list_any_at, list_any_none, list_any, Ended, filter_kept}
use Rattle.rk_inv_base.proofs.Words.{filter_left_out, behind_stands, first_stands, none_stands, stands_cases, ends_by_place, is_outrun_by}
use Rattle.rk_inv_base.proofs.Words.{is_placed, placed_ends, All-cons, All-nil, All-push, Call, Placed, IsLegal, Map, map_after, map_with}
use Rattle.rk_inv_base.proofs.Words.{AreOneMutation, Base, outcome_of, next_record, LastCall, IsLastCall, record_of_last, records_of}
use Rattle.rk_inv_base.proofs.Words.{All-append, All-weaker, Range, IsLegal-append, legal_back, map_after-append, is_at_parts, is_at}
use Rattle.rk_inv_base.proofs.Words.{last_version, is_mutation, Entry, base_map, item_end, refusal_end, told, counts, of_key, has_key}
use Rattle.rk_inv_base.proofs.Words.{IsKnown, IsReached, is_record_in, IsLastAsked, IsRest, IsStaged, call_end, call_ends}
use Rattle.rk_inv_logs.proofs.Words.{not-true, is_same_call, all_by, filter_stands, append_nil, AllZip, got_cases, made_of, allowed_same}
use Rattle.rk_inv_logs.proofs.Words.{is_at_own, map_after-same, map_with-same, known_still, flat_from, TellHistory, map_record_of}
use Rattle.rk_inv_base.proofs.calls.Accepted.{stands_there}
use Rattle.rk_inv_logs.specs.made.Made.{waits, without_stamp}
use Rattle.rk_inv_logs.proofs.made.LastCalls.{HasNone, still_unrecorded, IsWaiting, makes_one, waiting_parts, still_staged}
use Rattle.rk_inv_base.proofs.logs.Missed.{map_elsewhere}

-- ---- pairs

-- ends are of different clients
abbrev pub Differ : Ended → Ended → Type 0
Differ a b = a.client ≢ b.client

pub first_differs : (first : Ended) (list : List Ended) → AllPairs Differ (first ∷ list) → All (Differ first) list
first_differs first list one = λ k d within. one 0 (suc k) d (omega arith) (omega (arith, within))

pub later_differ : (first : Ended) (list : List Ended) → AllPairs Differ (first ∷ list) → AllPairs Differ list
later_differ first list one = λ i j d before within. one (suc i) (suc j) d (omega (arith, before)) (omega (arith, within))

-- so two of one client are one
pub one_of_client : (list : List Ended) (a b : Ended) → AllPairs Differ list → Contains list a → Contains list b → a.client ≡ b.client → a ≡ b
one_of_client [] a b one at_a at_b same = absurd (none_stands a at_a)
one_of_client (first ∷ list) a b one at_a at_b same =
    let others = first_differs first list one in
    elim (stands_cases first list a at_a) [
      | inl is_a ↦ elim (stands_cases first list b at_b) [
        | inl is_b ↦ sym is_a ∙ is_b
        | inr later_b ↦ absurd (All-contains (Differ first) list b others later_b (ap (λ (e : Ended). e.client) is_a ∙ same))
      ]
      | inr later_a ↦ elim (stands_cases first list b at_b) [
        | inl is_b ↦ absurd (All-contains (Differ first) list a others later_a (ap (λ (e : Ended). e.client) is_b ∙ sym same))
        | inr later_b ↦ one_of_client list a b (later_differ first list one) later_a later_b same
      ]
    ]

-- ---- one call

pub same_itself : (end : Ended) → is_same_call end end ≡ true
same_itself end =
    and_from (eqb end.client end.client) (eqb end.seq end.seq) (eq-eqb end.client end.client refl) (eq-eqb end.seq end.seq refl)

-- an end is of the client and the seq of another one
pub record AreOfOneCall (a b : Ended) : Type 0 where
  pub client : a.client ≡ b.client
  pub seq : a.seq ≡ b.seq

pub one_call : (a b : Ended) → is_same_call a b ≡ true → AreOfOneCall a b
one_call a b is = grind (arith, and_parts, eqb, eqb-true)

-- ---- the places of ends at one member

-- ends that follow others have their places with these seen
pub placed_append : (all later seen first second : List Ended) → placed_ends all later seen (first ++ second) ≡ placed_ends all later seen first ++ placed_ends all later (seen ++ first) second
placed_append all later seen [] second = ap (λ (l : List Ended). placed_ends all later l second) (sym (append_nil seen))
placed_append all later seen (end ∷ first) second =
    grind (arith, placed_ends, append_assoc, cases_Bool, is_placed, (placed_append all later (seen ++ end ∷ []) first second))

-- what is placed is there, and is outrun by none
pub record IsPlacedOf (all ends : List Ended) (end : Ended) : Type 0 where
  pub stands : Contains ends end
  pub free : list_any (is_outrun_by end) all ≡ false

placed_free : (all later seen : List Ended) (end : Ended) → is_placed all later seen end ≡ true → list_any (is_outrun_by end) all ≡ false
placed_free all later seen end is = grind (arith, not-true, is_outrun_by, and_parts, is_same_call)

pub placed_stands : (all later seen ends : List Ended) (end : Ended) → Contains (placed_ends all later seen ends) end → IsPlacedOf all ends end
placed_stands all later seen [] end at = absurd (none_stands end at)
placed_stands all later seen (first ∷ ends) end at =
    let rest : List Ended = placed_ends all later (seen ++ first ∷ []) ends in
    let behind : Contains rest end → IsPlacedOf all (first ∷ ends) end =
    λ there.
    let found = placed_stands all later (seen ++ first ∷ []) ends end there in
    record { stands = behind_stands first ends end found.stands; free = found.free } in
    elim (cases_Bool (is_placed all later seen first)) [
      | inl is ↦
          ⊎_elim
          (λ (same : first ≡ end). record {
            stands = subst (Contains (first ∷ ends)) same (first_stands first ends);
            free = subst (λ (e : Ended). list_any (is_outrun_by e) all ≡ false) same (placed_free all later seen first is);
          }) behind (stands_cases first rest end (subst (λ (b : Bool). Contains (cond b (first ∷ rest) rest) end) is at))
      | inr is ↦ behind (subst (λ (b : Bool). Contains (cond b (first ∷ rest) rest) end) is at)
    ]

-- so it is at several members
pub by_place_stands : (all : List Ended) (members : List (List Ended)) (end : Ended) → Contains (ends_by_place all members) end → IsPlacedOf all (flat_map (λ ends. ends) members) end
by_place_stands all [] end at = absurd (none_stands end at)
by_place_stands all (ends ∷ members) end at =
    let later : List Ended = flat_map (λ ends. ends) members in
    elim (Contains-append_cases (placed_ends all later [] ends) (ends_by_place all members) end at) [
      | inl here ↦
          let found = placed_stands all later [] ends end here in
          record { stands = Contains-append_left ends later end found.stands; free = found.free }
      | inr there ↦
          let found = by_place_stands all members end there in
          record { stands = Contains-append_right ends later end found.stands; free = found.free }
    ]

-- the ends of members, member by member
abbrev flat : List (List Ended) → List Ended
flat members = flat_map (λ ends. ends) members

-- nothing is placed at members that record nothing
pub nothing_placed : (all : List Ended) (members : List (List Ended)) → All (λ ends. ends ≡ []) members → ends_by_place all members ≡ []
nothing_placed all [] none = refl
nothing_placed all (ends ∷ members) none = ap (λ (l : List Ended). placed_ends all (flat members) [] l ++ ends_by_place all members)
    (All-head (λ (l : List Ended). l ≡ []) ends members none)
    ∙ nothing_placed all members (All-tail (λ (l : List Ended). l ≡ []) ends members none)

pub nothing_flat : (members : List (List Ended)) → All (λ ends. ends ≡ []) members → flat_map (λ ends. ends) members ≡ []
nothing_flat [] none = refl
nothing_flat (ends ∷ members) none = ap (λ (l : List Ended). l ++ flat members) (All-head (λ (l : List Ended). l ≡ []) ends members none)
    ∙ nothing_flat members (All-tail (λ (l : List Ended). l ≡ []) ends members none)

-- ---- ends that wait

module _ (waits : Ended → Bool) (alike : (a b : Ended) → a.client ≡ b.client → a.seq ≡ b.seq → waits a ≡ waits b) (all : List Ended) where
  -- an end that does not wait is left out, whether it is placed or not
  left_out : (end : Ended) (list : List Ended) (placed : Bool) → waits end ≡ false → filter waits (cond placed (end ∷ list) list) ≡ filter waits list
  left_out end list true is = filter_left_out waits end list is
  left_out end list false is = refl

  -- no end that waits is placed if it is at a later member, or was seen
  pub none_placed : (later seen ends : List Ended) → All (λ end. waits end ≡ true → Contains (later ++ seen) end) ends → filter waits (placed_ends all later seen ends) ≡ []
  none_placed later seen [] there = refl
  none_placed later seen (end ∷ ends) there =
      let rest : List Ended = placed_ends all later (seen ++ end ∷ []) ends in
      let none : filter waits rest ≡ [] =
      none_placed later (seen ++ end ∷ []) ends
      (all_by (λ e. waits e ≡ true → Contains (later ++ (seen ++ end ∷ [])) e) ends (λ e at is.
      rw (append_assoc later seen (end ∷ [])) at
      (Contains-append_left (later ++ seen) (end ∷ []) e
      (All-contains (λ e. waits e ≡ true → Contains (later ++ seen) e) ends e
      (All-tail (λ e. waits e ≡ true → Contains (later ++ seen) e) end ends there) at is)))) in
      elim (cases_Bool (waits end)) [
        | inl is ↦
            let stands : Contains (later ++ seen) end = All-head (λ e. waits e ≡ true → Contains (later ++ seen) e) end ends there is in
            let again : list_any (is_same_call end) (later ++ seen) ≡ true =
            list_any_at (is_same_call end) (later ++ seen) stands.0 end stands.1 (ap (is_same_call end) stands.2 ∙ same_itself end) in
            let out : is_placed all later seen end ≡ false =
            ap (λ (b : Bool). not (list_any (is_outrun_by end) all) && not b) again ∙ and_none (not (list_any (is_outrun_by end) all)) in
            ap (λ (b : Bool). filter waits (cond b (end ∷ rest) rest)) out ∙ none
        | inr is ↦ left_out end rest (is_placed all later seen end) is ∙ none
      ]
    where
      and_none : (b : Bool) → (b && false) ≡ false
      and_none true = refl
      and_none false = refl

  -- an end that none outruns is placed if none of its call is at a later member or was seen
  placed_now : (later seen : List Ended) (end : Ended) → list_any (is_outrun_by end) all ≡ false → ((x : Ended) → Contains (later ++ seen) x → AreOfOneCall end x → ⊥) → is_placed all later seen end ≡ true
  placed_now later seen end free unseen =
      let unlike : list_any (is_same_call end) (later ++ seen) ≡ false =
      list_any_none (is_same_call end) (later ++ seen)
      (all_by (λ x. is_same_call end x ≡ false) (later ++ seen)
      (λ x at. false_from_ne_true (is_same_call end x) (λ same. unseen x at (one_call end x same)))) in
      ap (λ (b : Bool). not b && not (list_any (is_same_call end) (later ++ seen))) free ∙ ap not unlike

  -- if an end waits, none of these is of its call
  abbrev pub IsNew : List Ended → Ended → Type 0
  IsNew list end = waits end ≡ true → (x : Ended) → Contains list x → AreOfOneCall end x → ⊥

  -- with one more that is seen it is so still, if none of the ends that wait is of that call
  new_still : (later seen : List Ended) (end : Ended) (ends : List Ended) → ((e : Ended) → Contains ends e → waits e ≡ true → AreOfOneCall e end → ⊥) → All (IsNew (later ++ seen)) ends → All (IsNew (later ++ (seen ++ end ∷ []))) ends
  new_still later seen end ends apart unseen = all_by (IsNew (later ++ (seen ++ end ∷ []))) ends
      (λ e at is x there same. elim (Contains-push_cases (later ++ seen) end x (rw (append_assoc later seen (end ∷ [])) there)) [
        | inl before ↦ All-contains (IsNew (later ++ seen)) ends e unseen at is x before same
        | inr last ↦ apart e at is (rw last same)
      ])

  -- each is placed that none outruns, if none of its call is at a later member, was seen or comes before it
  pub all_placed : (later seen ends : List Ended) → All (λ end. waits end ≡ true → list_any (is_outrun_by end) all ≡ false) ends → All (IsNew (later ++ seen)) ends → AllPairs Differ (filter waits ends)
      → filter waits (placed_ends all later seen ends) ≡ filter waits ends
  all_placed later seen [] free unseen one = refl
  all_placed later seen (end ∷ ends) free unseen one =
      let rest : List Ended = placed_ends all later (seen ++ end ∷ []) ends in
      let go_on : ((e : Ended) → Contains ends e → waits e ≡ true → AreOfOneCall e end → ⊥) → AllPairs Differ (filter waits ends) → filter waits rest ≡ filter waits ends =
      λ apart one_later.
      all_placed later (seen ++ end ∷ []) ends (All-tail (λ e. waits e ≡ true → list_any (is_outrun_by e) all ≡ false) end ends free)
      (new_still later seen end ends apart (All-tail (IsNew (later ++ seen)) end ends unseen)) one_later in
      elim (cases_Bool (waits end)) [
        | inl is ↦
            let its : AllPairs Differ (end ∷ filter waits ends) = rw (filter_kept waits end ends is) at one in
            let placed : is_placed all later seen end ≡ true =
            placed_now later seen end (All-head (λ e. waits e ≡ true → list_any (is_outrun_by e) all ≡ false) end ends free is)
            (All-head (IsNew (later ++ seen)) end ends unseen is) in
            ap (λ (b : Bool). filter waits (cond b (end ∷ rest) rest)) placed ∙ filter_kept waits end rest is
            ∙ ap (λ (l : List Ended). end ∷ l)
            (go_on
            (λ e at waiting same.
            All-contains (Differ end) (filter waits ends) e (first_differs end (filter waits ends) its)
            (filter_stands waits ends e at waiting) (sym same.client)) (later_differ end (filter waits ends) its))
            ∙ sym (filter_kept waits end ends is)
        | inr is ↦ left_out end rest (is_placed all later seen end) is
            ∙ go_on (λ e at waiting same. false≢true (sym is ∙ sym (alike e end same.client same.seq) ∙ waiting))
            (rw (filter_left_out waits end ends is) at one) ∙ sym (filter_left_out waits end ends is)
      ]

  -- ---- several members

  -- no end that waits is placed at members before others that record it
  pub none_before : (before after : List (List Ended)) → All (All (λ end. waits end ≡ true → Contains (flat_map (λ ends. ends) after) end)) before
      → filter waits (ends_by_place all (before ++ after)) ≡ filter waits (ends_by_place all after)
  none_before [] after there = refl
  none_before (ends ∷ before) after there =
      let later : List Ended = flat (before ++ after) in
      let split : later ≡ flat before ++ flat after = flat_map-append (λ (ends : List Ended). ends) before after in
      let each = All-head (All (λ end. waits end ≡ true → Contains (flat after) end)) ends before there in
      filter-append waits (placed_ends all later [] ends) (ends_by_place all (before ++ after))
      ∙ ap (λ (l : List Ended). l ++ filter waits (ends_by_place all (before ++ after)))
      (none_placed later [] ends
      (all_by (λ end. waits end ≡ true → Contains (later ++ []) end) ends (λ end at is.
      Contains-append_left later [] end
      (rw split
      (Contains-append_right (flat before) (flat after) end
      (All-contains (λ e. waits e ≡ true → Contains (flat after) e) ends end each at is))))))
      ∙ none_before before after (All-tail (All (λ end. waits end ≡ true → Contains (flat after) end)) ends before there)

-- ---- stamps

pub legal_unstamped : (start : Map) (list : List Placed) → IsLegal start (map without_stamp list) → IsLegal start list
legal_unstamped start [] legal = tt
legal_unstamped start (placed ∷ list) legal = (legal.0, legal_unstamped (map_with start placed) list legal.1)

-- ---- records and their ends

-- a record is that of the last call of an end's client, with the end's outcome
pub record IsMadeOf (asked : ℕ → Option LastCall) (end : Ended) (placed : Placed) : Type 0 where
  pub last : LastCall
  pub asked_is : asked end.client ≡ Some last
  pub seq_is : last.call.seq ≡ end.seq
  pub own : last.call.client ≡ end.client
  pub call_is : placed.call ≡ last.call
  pub outcome_is : placed.outcome ≡ outcome_of end.end
  pub new : placed.accepted ≡ false

module _ (base : Base) (lane : ℕ) (asked : ℕ → Option LastCall) (last_calls : (client : ℕ) → IfSome (asked client) (IsLastCall base lane client)) where
  abbrev Makes : List Ended → List Placed → Type 0
  Makes = AllZip (IsMadeOf asked)

  -- each end makes the record of its client's last call
  pub makes : (journal more : List Placed) (ends : List Ended) → All (λ end. waits asked journal end ≡ true) ends → AllPairs Differ ends
      → All (λ end. All (λ placed. placed.call.client ≢ end.client) more) ends → Makes ends (made_of asked (journal ++ more) ends)
  makes journal more [] waiting one others = tt
  makes journal more (end ∷ ends) waiting one others =
      let w : IsWaiting journal end.client end.seq (asked end.client) =
      waiting_parts journal end.client end.seq (asked end.client) (All-head (λ e. waits asked journal e ≡ true) end ends waiting) in
      let its : IsLastCall base lane end.client w.last = rw w.asked_is at (last_calls end.client) in
      let free = still_unrecorded base journal more asked end.client end.seq
      (All-head (λ e. All (λ p. p.call.client ≢ e.client) more) end ends others) w.unrecorded in
      let now : IsWaiting (journal ++ more) end.client end.seq (asked end.client) = search (free, w) in
      let new : Placed = next_record (journal ++ more) w.last.call (outcome_of end.end) w.last.seen in
      rw (makes_one (journal ++ more) end (asked end.client) now) (
        record {
          last = w.last;
          asked_is = w.asked_is;
          seq_is = w.seq_is;
          own = its.own;
          call_is = refl;
          outcome_is = refl;
          new = refl;
        },
        rw (append_assoc journal more (new ∷ []))
            (makes journal (more ++ new ∷ []) ends (All-tail (λ e. waits asked journal e ≡ true) end ends waiting) (later_differ end ends one)
            (all_by (λ e. All (λ p. p.call.client ≢ e.client) (more ++ new ∷ [])) ends (λ e at.
            All-push (λ p. p.call.client ≢ e.client) more new
            (All-contains (λ e. All (λ p. p.call.client ≢ e.client) more) ends e
            (All-tail (λ e. All (λ p. p.call.client ≢ e.client) more) end ends others) at)
            (λ same. All-contains (Differ end) ends e (first_differs end ends one) at (sym its.own ∙ same))))),
      )

  -- so all of them do from a journal on
  pub makes_all : (journal : List Placed) (ends : List Ended) → All (λ end. waits asked journal end ≡ true) ends → AllPairs Differ ends → Makes ends (made_of asked journal ends)
  makes_all journal ends waiting one = rw (append_nil journal) at
      (makes journal [] ends waiting one
      (all_by (λ (end : Ended). All (λ (placed : Placed). placed.call.client ≢ end.client) []) ends
      (λ end at. All-nil (λ (placed : Placed). placed.call.client ≢ end.client))))

-- ---- what the records are

module _ (asked : ℕ → Option LastCall) where
  -- without their stamps they are those that the ends will make
  pub made_unstamped : (ends : List Ended) (made : List Placed) → AllZip (IsMadeOf asked) ends made → map without_stamp made ≡ records_of asked ends
  made_unstamped [] [] zip = refl
  made_unstamped [] (placed ∷ made) zip = absurd zip
  made_unstamped (end ∷ ends) [] zip = absurd zip
  made_unstamped (end ∷ ends) (placed ∷ made) zip =
      grind (arith, record_of_last, records_of, zip.0, zip.1, (made_unstamped ends made zip.1))

  -- what holds of each end holds so of each record
  pub made_each : (P : Ended → Type 0) (Q : Placed → Type 0) → ((end : Ended) (placed : Placed) → IsMadeOf asked end placed → P end → Q placed) → (ends : List Ended) (made : List Placed) → AllZip (IsMadeOf asked) ends made → All P ends → All Q made
  made_each P Q gives [] [] zip all = All-nil Q
  made_each P Q gives [] (placed ∷ made) zip all = absurd zip
  made_each P Q gives (end ∷ ends) [] zip all = absurd zip
  made_each P Q gives (end ∷ ends) (placed ∷ made) zip all = All-cons Q placed made (gives end placed zip.0 (All-head P end ends all))
      (made_each P Q gives ends made zip.1 (All-tail P end ends all))

  -- each end has its record
  pub record HasMade (made : List Placed) (end : Ended) : Type 0 where
    pub placed : Placed
    pub stands : Contains made placed
    pub its : IsMadeOf asked end placed

  pub made_for : (ends : List Ended) (made : List Placed) → AllZip (IsMadeOf asked) ends made → (end : Ended) → Contains ends end → HasMade made end
  made_for [] made zip end at = absurd (none_stands end at)
  made_for (first ∷ ends) [] zip end at = absurd zip
  made_for (first ∷ ends) (placed ∷ made) zip end at = elim (stands_cases first ends end at) [
    | inl is ↦ record { placed = placed; stands = first_stands placed made; its = rw is at zip.0 }
    | inr later ↦
        let found = made_for ends made zip.1 end later in
        record { placed = found.placed; stands = behind_stands placed made found.placed found.stands; its = found.its }
  ]

-- ---- no mutation has two records

abbrev pub AreOnce : List Placed → Type 0
AreOnce journal =
    (i j : ℕ) (a b : Placed) → slice_get journal i ≡ Some a → slice_get journal j ≡ Some b → AreOneMutation a.call b.call → i ≡ j

pub once_push : (journal : List Placed) (new : Placed) → AreOnce journal → HasNone journal new.call.client new.call.seq → AreOnce (journal ++ new ∷ [])
once_push journal new once none i j a b at_i at_j one = elim (got_cases journal new i a at_i) [
  | inl first ↦ elim (got_cases journal new j b at_j) [
    | inl second ↦ once i j a b first second one
    | inr last ↦
        absurd
        (none a (stands_there journal i a first) (one.client ∙ ap (λ (p : Placed). p.call.client) (sym last.1))
        (one.seq ∙ ap (λ (p : Placed). p.call.seq) (sym last.1)))
  ]
  | inr last ↦ elim (got_cases journal new j b at_j) [
    | inl second ↦
        absurd
        (none b (stands_there journal j b second) (sym one.client ∙ ap (λ (p : Placed). p.call.client) (sym last.1))
        (sym one.seq ∙ ap (λ (p : Placed). p.call.seq) (sym last.1)))
    | inr both ↦ last.0 ∙ sym both.0
  ]
]

-- the records of ends of different clients whose calls have none keep it so
pub once_made : (asked : ℕ → Option LastCall) (journal : List Placed) (ends : List Ended) (made : List Placed) → AllZip (IsMadeOf asked) ends made → AreOnce journal → AllPairs Differ ends
    → All (λ end. HasNone journal end.client end.seq) ends → AreOnce (journal ++ made)
once_made asked journal [] [] zip once one none = rw (append_nil journal) once
once_made asked journal [] (placed ∷ made) zip once one none = absurd zip
once_made asked journal (end ∷ ends) [] zip once one none = absurd zip
once_made asked journal (end ∷ ends) (placed ∷ made) zip once one none =
    let its = zip.0 in
    let client : placed.call.client ≡ end.client = ap (λ (c : Call). c.client) its.call_is ∙ its.own in
    let seq : placed.call.seq ≡ end.seq = ap (λ (c : Call). c.seq) its.call_is ∙ its.seq_is in
    rw (append_assoc journal (placed ∷ []) made) at
    (once_made asked (journal ++ placed ∷ []) ends made zip.1
    (once_push journal placed once (λ p at same_client same_seq.
    All-head (λ e. HasNone journal e.client e.seq) end ends none p at (same_client ∙ client) (same_seq ∙ seq))) (later_differ end ends one)
    (all_by (λ e. HasNone (journal ++ placed ∷ []) e.client e.seq) ends (λ e at p stands same_client same_seq.
    elim (Contains-push_cases journal placed p stands) [
      | inl before ↦ All-contains (λ e. HasNone journal e.client e.seq) ends e
          (All-tail (λ e. HasNone journal e.client e.seq) end ends none) at p before same_client same_seq
      | inr is ↦ All-contains (Differ end) ends e (first_differs end ends one) at
          (sym client ∙ ap (λ (p : Placed). p.call.client) is ∙ same_client)
    ])))

-- ---- staged calls

-- an end is that of its client's last call, which is of a key in the range and has no record
pub record IsEndOfLast (asked : ℕ → Option LastCall) (journal : List Placed) (range : Range) (end : Ended) : Type 0 where
  pub table : ℕ
  pub key : List ℕ
  pub last : IsLastAsked asked journal end.client end.seq table key
  pub inside : has_key range table key ≡ true

module _ (base : Base) (asked : ℕ → Option LastCall) (journal : List Placed) (range : Range) where
  -- the end of the call of a staged entry is so
  pub entry_ends : (entry : Entry) → counts range entry ≡ true → IsStaged base asked journal entry → All (IsEndOfLast asked journal range) (call_end entry)
  entry_ends entry inside staged = grind (arith, item_end, refusal_end)

  pub staged_ends : (list : List Entry) → All (λ entry. counts range entry ≡ true) list → All (IsStaged base asked journal) list → All (IsEndOfLast asked journal range) (call_ends list)
  staged_ends list counted staged =
      all_by (IsEndOfLast asked journal range) (call_ends list) (λ end at.
      let of = flat_from call_end list end at in
      All-contains (IsEndOfLast asked journal range) (call_end of.0) end
      (entry_ends of.0 (All-contains (λ (e : Entry). counts range e ≡ true) list of.0 counted of.1)
      (All-contains (IsStaged base asked journal) list of.0 staged of.1)) of.2)

  -- the last call is of a key in the range
  pub last_inside : (end : Ended) (its : IsEndOfLast asked journal range end) → has_key range its.last.last.call.table its.last.last.call.key ≡ true
  last_inside end its = (λ i. has_key range (its.last.table_is i) (its.last.key_is i)) ∙ its.inside

  -- so are the records that they will make
  pub records_inside : (ends : List Ended) → All (IsEndOfLast asked journal range) ends → All (λ placed. is_record_in range placed ≡ true) (records_of asked ends)
  records_inside [] all = All-nil (λ placed. is_record_in range placed ≡ true)
  records_inside (end ∷ ends) all =
      let its = All-head (IsEndOfLast asked journal range) end ends all in
      let made : Placed = record { call = its.last.last.call; outcome = outcome_of end.end; stamp = 0; accepted = false } in
      rw its.last.asked_is
      (All-cons (λ placed. is_record_in range placed ≡ true) made (records_of asked ends) (last_inside end its)
      (records_inside ends (All-tail (IsEndOfLast asked journal range) end ends all)))

-- ---- histories

-- two maps agree in a range
abbrev AgreeOn : Range → Map → Map → Type 0
AgreeOn range m n = (table : ℕ) (key : List ℕ) → has_key range table key ≡ true → m table key ≡ n table key

-- records of a range are legal from the one map if they are from the other
legal_on : (range : Range) (m n : Map) (list : List Placed) → AgreeOn range m n → All (λ placed. is_record_in range placed ≡ true) list → IsLegal m list → IsLegal n list
legal_on range m n [] agree all legal = tt
legal_on range m n (placed ∷ list) agree all legal = (
  allowed_same m n placed.call.table placed.call.key placed (is_at_own placed)
      (agree placed.call.table placed.call.key (All-head (λ p. is_record_in range p ≡ true) placed list all)) legal.0,
  legal_on range (map_with m placed) (map_with n placed) list
      (λ table key inside. map_with-same m n placed table key (agree table key inside))
      (All-tail (λ p. is_record_in range p ≡ true) placed list all) legal.1,
)

-- ---- records of other keys

-- a record is of its client's last call
pub record IsOfLast (asked : ℕ → Option LastCall) (placed : Placed) : Type 0 where
  pub last : LastCall
  pub asked_is : asked placed.call.client ≡ Some last
  pub call_is : placed.call ≡ last.call

module _ (base : Base) (range : Range) (journal made : List Placed) (asked : ℕ → Option LastCall) (outside : All (λ placed. is_record_in range placed ≡ false) made) (of_last : All (IsOfLast asked) made) (legal : IsLegal (base_map base) (journal ++ made)) where
  abbrev start : Map
  start = base_map base

  -- they are at no key of the range
  elsewhere : (table : ℕ) (key : List ℕ) → has_key range table key ≡ true → All (λ placed. is_at table key placed ≡ false) made
  elsewhere table key inside = grind (arith, all_by, is_at, false_from_ne_true, is_at_parts, false≢true, is_record_in, has_key)

  pub map_beside : (table : ℕ) (key : List ℕ) → has_key range table key ≡ true → map_after start (journal ++ made) table key ≡ map_after start journal table key
  map_beside table key inside = ap (λ (m : Map). m table key) (map_after-append start journal made)
      ∙ map_elsewhere (map_after start journal) made table key (elsewhere table key inside)

  -- they are of other clients than a staged call of the range
  other_clients : (end : Ended) → IsEndOfLast asked journal range end → All (λ placed. placed.call.client ≢ end.client) made
  other_clients end its = grind (arith, all_by, false≢true, is_record_in, has_key, last_inside)

  pub rest_beside : (truth rest : List Entry) → All (λ entry. counts range entry ≡ true) rest → IsRest base range truth rest journal asked → IsRest base range truth rest (journal ++ made) asked
  rest_beside truth rest counted was =
      let records : List Placed = records_of asked (call_ends rest) in
      let agree : AgreeOn range (map_after start journal) (map_after start (journal ++ made)) =
      λ table key inside. sym (map_beside table key inside) in
      record {
        legal = IsLegal-append start (journal ++ made) records legal
            (legal_on range (map_after start journal) (map_after start (journal ++ made)) records agree
            (records_inside base asked journal range (call_ends rest) (staged_ends base asked journal range rest counted was.staged))
            (legal_back start journal records was.legal));
        live = λ table key inside.
            was.live table key inside
            ∙ ap map_record_of
            (ap (λ (m : Map). m table key) (map_after-append start journal records)
            ∙ map_after-same (map_after start journal) (map_after start (journal ++ made)) records table key (agree table key inside)
            ∙ ap (λ (m : Map). m table key) (sym (map_after-append start (journal ++ made) records)));
        staged = grind (arith, all_by, still_staged, other_clients, call_end, entry_ends, counts, was.staged);
        one = was.one;
      }

  -- so truth and rest of the range still record all of it
  pub history_beside : (truth rest : List Entry) → All (λ entry. counts range entry ≡ true) rest → TellHistory base range truth rest journal asked → TellHistory base range truth rest (journal ++ made) asked
  history_beside truth rest counted was = record {
    leaves = record {
      plain = was.leaves.plain;
      live = λ table key inside. was.leaves.live table key inside ∙ ap map_record_of (sym (map_beside table key inside));
    };
    above = was.above;
    ends =
        All-append
        (λ placed.
        is_record_in range placed ≡ true → is_mutation placed.call.op ≡ true
        → IsReached (told (of_key placed.call.table placed.call.key truth)) placed) journal made was.ends
        (all_by
        (λ placed.
        is_record_in range placed ≡ true → is_mutation placed.call.op ≡ true
        → IsReached (told (of_key placed.call.table placed.call.key truth)) placed) made (λ placed stands inside.
        absurd (false≢true (sym (All-contains (λ p. is_record_in range p ≡ false) made placed outside stands) ∙ inside))));
    known = All-weaker (IsKnown base journal) (IsKnown base (journal ++ made)) (known_still journal made base) (told truth) was.known;
    low = λ table key inside. let same = ap last_version (map_beside table key inside) in omega (arith, was.low table key inside, same);
    goes_on = rest_beside truth rest counted was.goes_on;
  }
