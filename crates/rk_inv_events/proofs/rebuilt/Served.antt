-- The first entries of a rest are served: each call that left one gets its record, and the entry comes to the end of the truth. Truth and
-- rest then give the history with these records.
use Rattle.std.proofs.Common.{All, AllPairs, Contains, List, Option, Some, [], ap, append-nil, append_assoc, arith, eq-eqb, eqb, false, inl}
use Rattle.std.proofs.Common.{inr, not, refl, subst, suc, sym, true, ℕ, ◌&&◌, ◌++◌, ◌∙◌, ◌∷◌, ◌≡◌, ◌≢◌}
use Rattle.rk_entry.specs.declared.entry.Entry.TheVariants as entries
use Rattle.rk_model.specs.History.{record_of as map_record_of}
use Rattle.rk_overlay.specs.Live.{live as live_items}
use Rattle.rk_inv_base.proofs.Words.{All-contains, All-head, All-nil, All-push, All-tail, Base, Call, Contains-push, Ended, Entry, Held}
use Rattle.rk_inv_base.proofs.Words.{IsEntryOf, IsKnown, IsLastAsked, IsLegal, IsLegal-append, IsReached, IsRest, IsStaged, LastCall, Map}
use Rattle.rk_inv_base.proofs.Words.{Outcome, Placed, Range, TellAll, and_from, base_map, call_end, call_ends, change_of, cond-true}
use Rattle.rk_inv_base.proofs.Words.{first_stands, has_record, is_mutation, is_record_in, item_end, items_in, items_of, legal_back}
use Rattle.rk_inv_base.proofs.Words.{legal_push, map_after, map_after-append, map_with, next_record, none_stands, of_key, outcome_of}
use Rattle.rk_inv_base.proofs.Words.{record_of_last, records_of, refusal_end, stands_cases, tells_of, told, told_by, with_change}
use Rattle.rk_inv_base.proofs.calls.Histories.{record_for}
use Rattle.rk_inv_base.proofs.calls.MoreRecords.{known_still}
use Rattle.rk_inv_logs.proofs.apply.AppliedCalls.{tell_then, told_of_key}
use Rattle.rk_inv_logs.proofs.apply.AppliedCounters.{key_floor, low_inserted, tells_its}
use Rattle.rk_inv_logs.proofs.apply.AppliedRest.{all_staged}
use Rattle.rk_inv_logs.proofs.apply.AppliedTruth.{live_last}
use Rattle.rk_inv_logs.proofs.apply.Inserted.{AreNewest, IsInserted, above_first, above_inserted, inserted_kept, inserted_last}
use Rattle.rk_inv_logs.proofs.apply.Inserted.{plain_inserted, same_items, told_cases, told_new}
use Rattle.rk_inv_events.proofs.Words.{IsCallEnd, IsOfCall, TellHistory, all_by, call_ended, change_by, leaves_so, made_by, made_of}

-- a call left an entry, ended so, and is the last that its client asked
pub record HasLeft (asked : ℕ → Option LastCall) (journal : List Placed) (entry : Entry) : Type 0 where
  pub call : Call
  pub seen : ℕ
  pub asked_is : asked call.client ≡ Some (record { call = call; seen = seen })
  pub own : IsEntryOf call entry
  pub end : Ended
  pub ended : IsCallEnd call entry end
  pub mutation : is_mutation call.op ≡ true
  pub unrecorded : has_record journal call.client call.seq ≡ false
  pub leaves : change_of call.op (outcome_of end.end) ≡ change_by entry

-- entries still record all with one more of them
tell_with : (range : Range) (journal : List Placed) (entry : Entry) (old now : List Entry) → IsInserted entry old now → TellAll range journal old → TellAll range journal now
tell_with range journal entry old now put =
    tell_then range journal old now (λ table key end stands. told_of_key entry old now put table key end stands)

module _ (base : Base) (range : Range) (asked : ℕ → Option LastCall) where
  abbrev Tells : List Entry → List Entry → List Placed → Type 0
  Tells truth rest journal = TellHistory base range truth rest journal asked

  -- ---- the entry of a call

  module _ (truth rest : List Entry) (entry : Entry) (journal : List Placed) (was : Tells truth (entry ∷ rest) journal) (legal : IsLegal (base_map base) journal) (left : HasLeft asked journal entry) where
    abbrev call : Call
    call = left.call

    abbrev last : LastCall
    last = record { call = left.call; seen = left.seen }

    abbrev outcome : Outcome
    outcome = outcome_of left.end.end

    -- its record
    abbrev new : Placed
    new = next_record journal left.call outcome left.seen

    abbrev now : List Entry
    now = truth ++ entry ∷ []

    put : IsInserted entry truth now
    put = inserted_last entry truth

    -- the end makes it
    makes : made_by journal left.end (asked left.end.client) ≡ new ∷ []
    makes = ap (made_by journal left.end) (ap asked left.ended.client ∙ left.asked_is)
        ∙ cond-true ((eqb left.call.seq left.end.seq) && not (has_record journal left.end.client left.end.seq)) (new ∷ []) []
        (and_from (eqb left.call.seq left.end.seq) (not (has_record journal left.end.client left.end.seq))
        (eq-eqb left.call.seq left.end.seq (sym left.ended.seq))
        ((λ i. not (has_record journal (left.ended.client i) (left.ended.seq i))) ∙ ap not left.unrecorded))

    -- ---- the maps

    abbrev map_was : Map
    map_was = map_after (base_map base) journal

    map_with_new : ◌≡◌ {A = Map} (map_after (base_map base) (journal ++ new ∷ [])) (map_with map_was new)
    map_with_new = map_after-append (base_map base) journal (new ∷ [])

    map_is : ◌≡◌ {A = Map} (map_after (base_map base) (journal ++ new ∷ [])) (with_change map_was left.call.table left.call.key (change_by entry))
    map_is = map_with_new ∙ ap (with_change map_was left.call.table left.call.key) left.leaves

    -- the records that the staged calls were to make begin with its own
    records_first : records_of asked (call_ends (entry ∷ rest)) ≡ record_for left.call outcome ∷ records_of asked (call_ends rest)
    records_first =
        let more : List Placed = records_of asked (call_ends rest) in
        ap (λ (l : List Ended). records_of asked (l ++ call_ends rest)) left.ended.ends_it
        ∙ ap (λ (o : Option LastCall). record_of_last left.end o ++ more) (ap asked left.ended.client ∙ left.asked_is)

    was_legal : IsLegal map_was (record_for left.call outcome ∷ records_of asked (call_ends rest))
    was_legal = legal_back (base_map base) journal (record_for left.call outcome ∷ records_of asked (call_ends rest))
        (rw records_first at was.goes_on.legal)

    legal_now : IsLegal (base_map base) (journal ++ new ∷ [])
    legal_now = legal_push (base_map base) journal new legal was_legal.0

    -- ---- what is recorded

    newest_here : AreNewest truth entry
    newest_here = (above_first truth rest entry was.above).0

    known_new : IsKnown base (journal ++ new ∷ []) left.end
    known_new = inl (record {
      placed = new;
      stands = Contains-push journal new;
      fits = record {
        mutation = left.mutation;
        client = sym left.ended.client;
        seq = sym left.ended.seq;
        outcome = refl;
      };
    })

    tells_it : Contains (told_by entry) left.end
    tells_it = rw left.ended.tells (first_stands left.end [])

    tells_end : (end : Ended) → Contains (told_by entry) end → left.end ≡ end
    tells_end end at = elim (stands_cases left.end [] end (subst (λ (l : List Ended). Contains l end) left.ended.tells at)) [
      | inl is ↦ is
      | inr none ↦ absurd (none_stands end none)
    ]

    ends_now : TellAll range (journal ++ new ∷ []) now
    ends_now =
        All-push
        (λ placed.
        is_record_in range placed ≡ true → is_mutation placed.call.op ≡ true
        → IsReached (told (of_key placed.call.table placed.call.key now)) placed) journal new
        (tell_with range journal entry truth now put was.ends) (λ inside is. record {
          end = left.end;
          stands = told_new entry (of_key left.call.table left.call.key truth) (of_key left.call.table left.call.key now)
              (inserted_kept entry truth now put (tells_of left.call.table left.call.key) (tells_its left.call entry left.own)) told_by
              left.end tells_it;
          reaches = record { client = left.ended.client; reached = inr (sym left.ended.seq, refl) };
        })

    known_now : All (IsKnown base (journal ++ new ∷ [])) (told now)
    known_now =
        all_by (IsKnown base (journal ++ new ∷ [])) (told now) (λ end at. elim (told_cases entry truth now put told_by end at) [
          | inl own ↦ subst (IsKnown base (journal ++ new ∷ [])) (tells_end end own) known_new
          | inr old ↦ known_still journal (new ∷ []) base end (All-contains (IsKnown base journal) (told truth) end was.known old)
        ])

    -- ---- what goes on

    its_one : AllPairs (λ x y. x.client ≢ y.client) (left.end ∷ call_ends rest)
    its_one = rw left.ended.ends_it at was.goes_on.one

    its_others : All (λ end. end.client ≢ left.call.client) (call_ends rest)
    its_others k d within same = its_one 0 (suc k) d (omega arith) (omega (arith, within)) (left.ended.client ∙ sym same)

    goes_on : IsRest base range now rest (journal ++ new ∷ []) asked
    goes_on =
        let start : Map = base_map base in
        let made : List Placed = records_of asked (call_ends rest) in
        let behind = map_after-append start (journal ++ new ∷ []) made ∙ ap (λ (m : Map). map_after m made) map_with_new in
        record {
          legal = IsLegal-append start (journal ++ new ∷ []) made legal_now (rw map_with_new was_legal.1);
          live = λ table key inside.
              ap (λ (l : List Entry). live_items (items_of l) table key) (append_assoc truth (entry ∷ []) rest)
              ∙ was.goes_on.live table key inside
              ∙ ap (λ (m : Map). map_record_of (m table key))
              (ap (λ (l : List Placed). map_after start (journal ++ l)) records_first
              ∙ map_after-append start journal (record_for left.call outcome ∷ made) ∙ sym behind);
          staged = all_staged base journal asked new rest its_others (All-tail (IsStaged base asked journal) entry rest was.goes_on.staged);
          one = λ i j d before within. its_one (suc i) (suc j) d (omega (arith, before)) (omega (arith, within));
        }

    pub call_served : Tells now rest (journal ++ new ∷ [])
    call_served = record {
      leaves = record {
        plain = plain_inserted truth now entry put newest_here was.leaves.plain;
        live = λ table key inside.
            live_last map_was truth left.call table key entry left.own newest_here (was.leaves.live table key inside)
            ∙ ap (λ (m : Map). map_record_of (m table key)) (sym map_is);
      };
      above = above_inserted entry truth now rest put was.above;
      ends = ends_now;
      known = known_now;
      low = rw map_is (low_inserted range map_was left.call entry truth now left.own put was.low);
      goes_on = goes_on;
    }

  -- ---- an entry with which no call ends

  module _ (truth rest : List Entry) (entry : Entry) (journal : List Placed) (was : Tells truth (entry ∷ rest) journal) (no_end : call_end entry ≡ []) (no_item : items_in entry ≡ []) (known : All (IsKnown base journal) (told_by entry)) where
    abbrev with_it : List Entry
    with_it = truth ++ entry ∷ []

    put_last : IsInserted entry truth with_it
    put_last = inserted_last entry truth

    items_are : items_of with_it ≡ items_of truth
    items_are = same_items entry truth with_it put_last no_item

    records_are : records_of asked (call_ends (entry ∷ rest)) ≡ records_of asked (call_ends rest)
    records_are = ap (λ (l : List Ended). records_of asked (l ++ call_ends rest)) no_end

    pub quiet_served : Tells with_it rest journal
    quiet_served = record {
      leaves = record {
        plain = rw items_are was.leaves.plain;
        live = λ table key inside. ap (λ (items : List Held). live_items items table key) items_are ∙ was.leaves.live table key inside;
      };
      above = above_inserted entry truth with_it rest put_last was.above;
      ends = tell_with range journal entry truth with_it put_last was.ends;
      known =
          all_by (IsKnown base journal) (told with_it) (λ end at. elim (told_cases entry truth with_it put_last told_by end at) [
            | inl own ↦ All-contains (IsKnown base journal) (told_by entry) end known own
            | inr old ↦ All-contains (IsKnown base journal) (told truth) end was.known old
          ]);
      low = λ table key inside. omega (arith, was.low table key inside, key_floor entry truth with_it put_last table key);
      goes_on = record {
        legal = rw records_are at was.goes_on.legal;
        live = λ table key inside.
            ap (λ (l : List Entry). live_items (items_of l) table key) (append_assoc truth (entry ∷ []) rest)
            ∙ was.goes_on.live table key inside
            ∙ ap (λ (more : List Placed). map_record_of (map_after (base_map base) (journal ++ more) table key)) records_are;
        staged = All-tail (IsStaged base asked journal) entry rest was.goes_on.staged;
        one = rw no_end at was.goes_on.one;
      };
    }

  -- ---- entry by entry

  -- truth and rest record the history that these records make
  pub record IsServed (truth rest : List Entry) (journal : List Placed) : Type 0 where
    pub legal : IsLegal (base_map base) journal
    pub history : Tells truth rest journal

  module _ (own : (client : ℕ) (last : LastCall) → asked client ≡ Some last → last.call.client ≡ client) where
    -- the last call that its client asked left the entry
    of_last : (journal : List Placed) (entry : Entry) (client seq table : ℕ) (key : List ℕ) (last : IsLastAsked asked journal client seq table key) → ((call : Call) → IsOfCall call client seq table key → IsEntryOf call entry) → IsStaged base asked journal entry → HasLeft asked journal entry
    of_last journal entry client seq table key last of staged =
        let call : Call = last.last.call in
        let client_is : call.client ≡ client = own client last.last last.asked_is in
        let its =
        of call
        (record {
          client_is = client_is;
          seq_is = last.seq_is;
          table_is = last.table_is;
          key_is = last.key_is;
        }) in
        let asked_is : asked call.client ≡ Some last.last = ap asked client_is ∙ last.asked_is in
        let ended = call_ended call entry its in
        record {
          call = call;
          seen = last.last.seen;
          asked_is = asked_is;
          own = its;
          end = ended.0;
          ended = ended.1;
          mutation = last.mutation;
          unrecorded = (λ i. has_record journal (client_is i) (last.seq_is i)) ∙ last.unrecorded;
          leaves = leaves_so base journal asked call entry ended.0 (rw asked_is refl) its ended.1 staged;
        }

    abbrev made : List Placed → List Ended → List Placed
    made = made_of asked

    -- the first entry is that of a call, which gets its record before the others get theirs
    call_first : (truth part left : List Entry) (entry : Entry) (journal : List Placed) (end : Ended)
        (was : IsServed truth (entry ∷ part ++ left) journal)
        (its : HasLeft asked journal entry) → its.end ≡ end
        → ((later : List Placed) → IsServed (truth ++ entry ∷ []) (part ++ left) later
        → IsServed ((truth ++ entry ∷ []) ++ part) left (later ++ made later (call_ends part)))
        → IsServed (truth ++ entry ∷ part) left (journal ++ made journal (end ∷ call_ends part))
    call_first truth part left entry journal end was its end_is others =
        let new : Placed = next_record journal its.call (outcome_of its.end.end) its.seen in
        let makes_it : made_by journal end (asked end.client) ≡ new ∷ [] =
        subst (λ (e : Ended). made_by journal e (asked e.client) ≡ new ∷ []) end_is
        (makes truth (part ++ left) entry journal was.history was.legal its) in
        let done =
        others (journal ++ new ∷ []) (record {
          legal = legal_now truth (part ++ left) entry journal was.history was.legal its;
          history = call_served truth (part ++ left) entry journal was.history was.legal its;
        }) in
        rw
        (append_assoc journal (new ∷ []) (made (journal ++ new ∷ []) (call_ends part))
        ∙ ap (λ (l : List Placed). journal ++ (l ++ made (journal ++ l) (call_ends part))) (sym makes_it)) at
        (rw (append_assoc truth (entry ∷ []) part) at done)

    pub all_served : (truth part left : List Entry) (journal : List Placed) → IsServed truth (part ++ left) journal → IsServed (truth ++ part) left (journal ++ made journal (call_ends part))
    all_served truth [] left journal was = rw (append-nil truth) (rw (append-nil journal) was)
    all_served truth (entries.Held held ∷ part) left journal was =
        let entry : Entry = entries.Held held in
        let staged = All-head (IsStaged base asked journal) entry (part ++ left) was.history.goes_on.staged in
        let its = of_last journal entry held.client held.seq held.table held.key staged.last (λ call of. of) staged in
        call_first truth part left entry journal (item_end held) was its (cc its.ended.ends_it) (all_served (truth ++ entry ∷ []) part left)
    all_served truth (entries.Refused refused ∷ part) left journal was =
        let entry : Entry = entries.Refused refused in
        let staged = All-head (IsStaged base asked journal) entry (part ++ left) was.history.goes_on.staged in
        let its = of_last journal entry refused.client refused.seq refused.table refused.key staged (λ call of. of) staged in
        call_first truth part left entry journal (refusal_end refused) was its (cc its.ended.ends_it) (all_served (truth ++ entry ∷ []) part left)
    all_served truth (entries.Carried carried ∷ part) left journal was =
        let entry : Entry = entries.Carried carried in
        let staged = All-head (IsStaged base asked journal) entry (part ++ left) was.history.goes_on.staged in
        rw (append_assoc truth (entry ∷ []) part) at
        (all_served (truth ++ entry ∷ []) part left journal
        (record { legal = was.legal; history = quiet_served truth (part ++ left) entry journal was.history refl refl staged }))
    all_served truth (entries.Joined joining ∷ part) left journal was =
        let entry : Entry = entries.Joined joining in
        rw (append_assoc truth (entry ∷ []) part) at
        (all_served (truth ++ entry ∷ []) part left journal
        (record {
          legal = was.legal;
          history = quiet_served truth (part ++ left) entry journal was.history refl refl (All-nil (IsKnown base journal));
        }))
