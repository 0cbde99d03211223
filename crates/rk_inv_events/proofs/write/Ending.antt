-- What a serving master knows of a mutation that is new to it: what it has staged of the key, that the call is its client's last one
-- without a record, and what truth and rest leave at the key.
use Rattle.std.proofs.Common.{All, Bool, Contains, List, None, Option, Some, [], ap, append-nil, append_assoc, arith, cond, drop, eq-eqb}
use Rattle.std.proofs.Common.{eqb-true, false, if◌then◌else◌, inl, inr, ltb-true, max, nat_cmp, nat_lt, refl, slice_get, subst, sym, true}
use Rattle.std.proofs.Common.{ℕ, ◌&&◌, ◌++◌, ◌+◌, ◌<◌, ◌==◌, ◌||◌, ◌∙◌, ◌∷◌, ◌≡◌, ◌≢◌, ◌≤◌}
use Rattle.rk_entry.specs.declared.entry.Entry.TheVariants as entries
use Rattle.rk_done.specs.declared.completion.Look.TheVariants as looks
use Rattle.rk_types.specs.declared.call.End.TheVariants as ends
use Rattle.rk_overlay.proofs.Folds.{newest_from-none}
use Rattle.rk_inv_base.proofs.Words.{All-contains, All-contains_itself, All-head, All-tail, Allowed, Any-from_list_any, AreAbove}
use Rattle.rk_inv_base.proofs.Words.{AreAboveMap, Base, Call, Completion, Completions, Contains-append_cases, Contains-append_left}
use Rattle.rk_inv_base.proofs.Words.{Contains-append_right, Contains-push, Ended, Entry, Handover, HasArrived, Held, IsEntryOf, IsInOrder}
use Rattle.rk_inv_base.proofs.Words.{IsLastAsked, IsPlain, IsRest, IsServedIn, IsStaged, LastCall, Map, Member, NumberMap, Op, Outcome}
use Rattle.rk_inv_base.proofs.Words.{Placed, Pulling, Range, ReachAll, Role, Row, SoundView, Tablet, View, Waits, WasAsked, Written}
use Rattle.rk_inv_base.proofs.Words.{and_from, and_parts, base_map, call_end, call_ends, cases_eq, change_of, cond_both, counting, counts}
use Rattle.rk_inv_base.proofs.Words.{ends_of, eq_by_cmp, false_from_ne_true, false≢true, flat_map-append, floor_of, found, get, has_key}
use Rattle.rk_inv_base.proofs.Words.{has_record, hash_of, is_call_entry, is_in, is_known, is_mutation, is_of, is_of_call, is_of_from}
use Rattle.rk_inv_base.proofs.Words.{is_of_mutation, is_of_parts, is_record_in, is_serving, item_end, items_in, items_of, last_of}
use Rattle.rk_inv_base.proofs.Words.{last_version, lineage_of, list_any, live, look, map_after, map_after-append, newest, newest_found}
use Rattle.rk_inv_base.proofs.Words.{newest_from-append, newest_is, newest_none, none_found, none_stands, of_key, option_or, or_left}
use Rattle.rk_inv_base.proofs.Words.{or_right, outcome_of, post_of, record_of, record_of_last, records_of, refusal_end, rests, stands_cases}
use Rattle.rk_inv_base.proofs.Words.{tells_of, truths, unmarked_from, with_change}
use Rattle.rk_inv_base.proofs.logs.MarkedApart.{place_of}
use Rattle.rk_inv_base.proofs.rows.Apart.{same_number}
use Rattle.rk_inv_logs.proofs.apply.Keeps.{plain_all}
use Rattle.rk_done.specs.Completions.{look_of}
use Rattle.rk_model.specs.History.{record_of as map_record_of}
use Rattle.rk_model.specs.Machine.{Entry as MapEntry}
use Rattle.rk_inv_base.proofs.calls.Counters.{counter_low}
use Rattle.rk_inv_base.proofs.logs.FloorsOf.{floor_among}
use Rattle.rk_inv_logs.proofs.apply.AppliedCounters.{key_floor, low_inserted}
use Rattle.rk_inv_logs.proofs.apply.Inserted.{inserted_last}
use Rattle.rk_inv_events.proofs.Words.{All_pairs, HasCall, MayEndIn, all_by, by_found, change_by, ends_from_pairs, filter_from, flat_among}
use Rattle.rk_inv_events.proofs.Words.{from_flat, in_one_row, later_stands, lineage_last, of_waiting, place_in, row_goes_on, row_in}
use Rattle.rk_inv_events.proofs.Words.{row_true, speaks_serving, to_flat, unmarked_place, unmarked_stood}
use Rattle.rk_inv_events.proofs.answer.OwnCounts.{bare_at}
use Rattle.rk_inv_events.proofs.answer.RecordFound.{Knows, record_found}
use Rattle.rk_inv_events.proofs.answer.FoundItems.{has_arrived}

-- ---- What a master that serves a row has staged of a key is what the row's rest has, so what it finds of a key leaves the record that
-- truth and rest leave together.

-- ---- items above those before them

-- an item is above each of its key before all
pub above_before : (before items : List Held) (x y : Held) → AreAbove before items → Contains items x → Contains before y → is_of x.table x.key y ≡ true → y.version < x.version
above_before before [] x y above at there of = absurd (none_stands x at)
above_before before (item ∷ items) x y above at there of = elim (stands_cases item items x at) [
  | inl is ↦
      All-contains (λ (other : Held). is_of x.table x.key other ≡ true → other.version < x.version) before y (rw is at above.0) there of
  | inr later ↦ above_before (before ++ item ∷ []) items x y above.1 later (Contains-append_left before (item ∷ []) y there) of
]

-- ---- what truth and rest leave, by what some items that have just those of the rest of a key leave

module _ (truth rest staged : List Held) (table : ℕ) (key : List ℕ) (plain : IsPlain (truth ++ rest)) (above : AreAbove truth rest)
    (back : (x : Held) → Contains staged x → is_of table key x ≡ true → Contains rest x) (forth : (x : Held) → Contains rest x → Contains staged x) where
  -- the newest staged item is the newest of all
  staged_newest : (x : Held) → newest staged table key ≡ Some x → newest (truth ++ rest) table key ≡ Some x
  staged_newest x is =
      let best = newest_is staged table key x is in
      let stands : Contains rest x = back x best.stands best.of_record in
      let mine = is_of_parts table key x best.of_record in
      newest_found (truth ++ rest) table key x plain
      (record {
        stands = Contains-append_right truth rest x stands;
        of_record = best.of_record;
        greatest = λ other at of. elim (Contains-append_cases truth rest other at) [
          | inl there ↦
              let its = is_of_parts table key other of in
              let less =
              above_before truth rest x other above stands there
              (is_of_from x.table x.key other (its.0 ∙ sym mine.0) (its.1 ∙ sym mine.1)) in
              omega (arith, less)
          | inr there ↦ best.greatest other (forth other there) of
        ];
      })

  -- if none is staged, that of the truth is
  none_newest : newest staged table key ≡ None → newest (truth ++ rest) table key ≡ newest truth table key
  none_newest none = ap (λ (f : ℕ → List ℕ → Option Held). f table key) (newest_from-append none_found truth rest)
      ∙ newest_from-none (newest truth) rest table key (λ x at. (newest_none staged table key).0 none x (forth x at))

  pub state_record : (here : Option Held) → (newest staged table key ≡ None → record_of here ≡ live truth table key)
      → record_of (option_or (newest staged table key) here) ≡ live (truth ++ rest) table key
  state_record here found = grind (arith, by_found, record_of, live, newest, none_newest, staged_newest)

-- an entry that has an item is that item
held_in : (entry : Entry) (item : Held) → Contains (items_in entry) item → entry ≡ entries.Held item
held_in entry item at = grind (arith, stands_cases, none_stands)

-- ---- a master that serves a row

-- a place has just one entry
one_at : (list : List Entry) (place : ℕ) (a b : Entry) → slice_get list place ≡ Some a → slice_get list place ≡ Some b → a ≡ b
one_at list place a b first second = let both : Some a ≡ Some b = sym first ∙ second in cc both

-- a range has an item if it has its key
has_by_key : (range : Range) (a b : ℕ) (x y : List ℕ) → a ≡ b → x ≡ y → has_key range a x ≡ has_key range b y
has_by_key range a b x y table key i = has_key range (table i) (key i)

module _ (v : View) (sound : SoundView v) (row : Row) (has_row : Contains v.rows row) (master : ℕ) (lives : v.live master ≡ true)
    (serves : is_serving (v.handovers master row.tablet).role ≡ true) (last : Member) (is_last : last_of (lineage_of row.phase) ≡ Some last)
    (here : last.master ≡ master) where
  abbrev w : Written
  w = v.written master

  -- what is staged
  abbrev pub waiting : List Entry
  waiting = drop (v.written master).applied (v.written master).entries

  rest_is : rests v row ≡ counting row.range (unmarked_from w.marks (max last.from w.applied) w.entries)
  rest_is = grind (arith, lineage_last, lineage_of, counting, unmarked_from)

  -- what the rest has is staged
  pub rest_waits : (entry : Entry) → Contains (rests v row) entry → Contains waiting entry
  rest_waits entry stands = later_stands w.applied (max last.from w.applied) w.entries entry (omega arith)
      (unmarked_stood w.marks (max last.from w.applied) (drop (max last.from w.applied) w.entries) entry
      (filter_from (counts row.range) (unmarked_from w.marks (max last.from w.applied) w.entries) entry (rw rest_is at stands)))

  -- the call of each of its entries waits
  pub rest_calls : (entry : Entry) → Contains (rests v row) entry → is_call_entry entry ≡ true → (place : ℕ) × HasCall (v.calls master) place entry
  rest_calls entry stands of_call =
      let free =
      unmarked_place w.marks (max last.from w.applied) (drop (max last.from w.applied) w.entries) entry
      (filter_from (counts row.range) (unmarked_from w.marks (max last.from w.applied) w.entries) entry (rw rest_is at stands)) in (
        max last.from w.applied + free.k,
        sound.rest.found master lives (max last.from w.applied + free.k) entry (omega arith)
            (place_of w.entries (max last.from w.applied) free.k (max last.from w.applied + free.k) entry refl free.at) of_call free.free,
      )

  -- two rows that have a key are one
  one_row : (other : Row) → Contains v.rows other → (table : ℕ) (key : List ℕ) → has_key row.range table key ≡ true → has_key other.range table key ≡ true → other ≡ row
  one_row other stands table key first second = elim (cases_eq other.tablet row.tablet) [
    | inl same ↦ same_number v.rows other row sound.rows.apart stands has_row same
    | inr apart ↦ absurd (false≢true (sym (in_one_row v.rows row other table key sound.rows.apart has_row stands apart first) ∙ second))
  ]

  -- the rest has an item of the row whose call waits
  call_rest : (place : ℕ) (x : Held) (call : Call) → IsEntryOf call (entries.Held x) → Waits v.rows (v.handovers master) w master place call
      → slice_get w.entries place ≡ Some (entries.Held x) → is_in row.range x ≡ true → Contains (rests v row) (entries.Held x)
  call_rest place x call own waits there inside =
      let in_row = has_by_key row.range call.table x.table call.key x.key own.table_is own.key_is ∙ inside in
      let same : waits.row ≡ row = one_row waits.row waits.has_row call.table call.key in_row waits.in_row in
      let rest : Contains (rests v waits.row) waits.entry =
      of_waiting (Contains (rests v waits.row)) v.rows (v.handovers master) v.written master place call waits
      (All-contains_itself (rests v waits.row)) in
      rw same at (rw (one_at w.entries place waits.entry (entries.Held x) waits.stands there) at rest)

  -- so it has each staged item of the row
  placed_rest : (place : ℕ) (x : Held) → w.applied ≤ place → slice_get w.entries place ≡ Some (entries.Held x) → is_in row.range x ≡ true
      → Contains (rests v row) (entries.Held x)
  placed_rest place x behind there inside =
      let has : HasCall (v.calls master) place (entries.Held x) =
      sound.rest.found master lives place (entries.Held x) behind there refl
      (bare_at v row master sound has_row lives serves place x there inside) in
      call_rest place x has.call has.own (sound.rest.waiting master lives place has.call has.waits) there inside

  waits_rest : (x : Held) → Contains (items_of waiting) x → is_in row.range x ≡ true → Contains (items_of (rests v row)) x
  waits_rest x stands inside =
      let found = from_flat items_in waiting x stands in
      let at = place_in waiting found.0 found.1 in
      to_flat items_in (rests v row) (entries.Held x) x
      (placed_rest (w.applied + at.0) x (omega arith)
      (place_of w.entries w.applied at.0 (w.applied + at.0) found.0 refl at.1 ∙ ap Some (held_in found.0 x found.2)) inside)
      (Contains-push [] x)

  module _ (table : ℕ) (key : List ℕ) (in_row : has_key row.range table key ≡ true) where
    -- the item that a mutation finds of a key
    abbrev pub state : Option Held
    state = option_or (newest (items_of waiting) table key) (found table key (v.records master))

    pub state_tells : (newest (items_of waiting) table key ≡ None → Knows v sound row master has_row lives serves table key in_row)
        → record_of state ≡ live (items_of (truths v row ++ rests v row)) table key
    state_tells knows =
        let all : items_of (truths v row ++ rests v row) ≡ items_of (truths v row) ++ items_of (rests v row) =
        flat_map-append items_in (truths v row) (rests v row) in
        let above : AreAbove (items_of (truths v row)) (items_of (rests v row)) = (row_in v sound row has_row).order in
        let plain : IsPlain (items_of (truths v row)) = (row_true v sound row has_row).plain in
        state_record (items_of (truths v row)) (items_of (rests v row)) (items_of waiting) table key
        (subst IsPlain all (plain_all (truths v row) (rests v row) plain above)) above
        (λ x at of.
        let parts = is_of_parts table key x of in
        waits_rest x at (has_by_key row.range x.table table x.key key parts.0 parts.1 ∙ in_row))
        (flat_among items_in (rests v row) waiting rest_waits) (found table key (v.records master))
        (λ none. record_found v sound row master has_row lives serves table key in_row (knows none))
        ∙ sym (ap (λ (l : List Held). live l table key) all)

-- ---- A mutation that was asked, and that the tablet which has its key does not know, is the last call of its client and has no record;
-- and nothing is staged of its row for its client, if its master has not staged it.

-- ---- completions

-- an end of completions is that of its client's last call
abbrev IsLastEnd : Completions → Ended → Type 0
IsLastEnd completions end = get completions end.client ≡ Some (record { seq = end.seq; end = end.end })

each_last : (completions : Completions) → IsInOrder completions → All (IsLastEnd completions) (ends_of completions)
each_last completions order = ends_from_pairs (IsLastEnd completions) completions
    (All_pairs (λ client last. get completions client ≡ Some last) completions order (λ client last found. found))

-- a call that is new comes after its client's last one
newer : (last : Completion) (seq : ℕ) → look_of (Some last) seq ≡ looks.New → last.seq < seq
newer last seq new = grind (arith, cond_both, nat_lt, ltb-true)

-- ---- the call

module _ (asked : ℕ → Option LastCall) (journal : List Placed) (range : Range) (completions : Completions) (call : Call) (order : IsInOrder completions)
    (new : look completions call.client call.seq ≡ looks.New) (reach : ReachAll range journal (ends_of completions))
    (inside : has_key range call.table call.key ≡ true) (mutates : is_mutation call.op ≡ true)
    (recorded : All (λ placed. WasAsked (asked placed.call.client) journal placed.call) journal) where
  -- no record is of the call
  none_placed : (placed : Placed) → Contains journal placed → placed.call ≡ call → ⊥
  none_placed placed stands same = grind (arith, look, is_record_in, is_mutation, ends_of, has_key, each_last, found, newer)

  -- nor of its client and its seq
  none_recorded : (last : LastCall) → asked call.client ≡ Some last → last.call ≡ call → has_record journal call.client call.seq ≡ false
  none_recorded last asked_is same =
      false_from_ne_true (has_record journal call.client call.seq) (λ has.
      let found = Any-from_list_any (is_of_mutation call.client call.seq) journal has in
      let placed : Placed = found.1 in
      let stands : Contains journal found.1 = (found.0, found.2, found.3) in
      let parts =
      and_parts (found.1.call.client == call.client) (found.1.call.seq == call.seq)
      (and_parts (is_mutation found.1.call.op) (is_of_call call.client call.seq found.1) found.4).1 in
      let client : found.1.call.client ≡ call.client = eqb-true found.1.call.client call.client parts.0 in
      let seq : found.1.call.seq ≡ call.seq = eqb-true found.1.call.seq call.seq parts.1 in
      let own : WasAsked (Some last) journal found.1.call =
      rw (ap asked client ∙ asked_is) at
      (All-contains (λ (p : Placed). WasAsked (asked p.call.client) journal p.call) journal found.1 recorded stands) in
      elim own [
        | inl is ↦ none_placed found.1 stands (sym is ∙ same)
        | inr older ↦ let at = ap (λ (c : Call). c.seq) same in omega (arith, older.0, at, seq)
      ])

  -- so it is its client's last one
  pub new_is_last : WasAsked (asked call.client) journal call
      → (last : IsLastAsked asked journal call.client call.seq call.table call.key) × (last.last.call ≡ call)
  new_is_last =
      by_found
      (λ o. WasAsked o journal call → (last : IsLastAsked asked journal call.client call.seq call.table call.key) × (last.last.call ≡ call))
      (asked call.client) (λ none was. absurd was)
      (λ last asked_is was. elim was [
        | inl same ↦ (
          record {
            last = last;
            asked_is = asked_is;
            seq_is = ap (λ (c : Call). c.seq) same;
            table_is = ap (λ (c : Call). c.table) same;
            key_is = ap (λ (c : Call). c.key) same;
            mutation = ap (λ (c : Call). is_mutation c.op) same ∙ mutates;
            unrecorded = none_recorded last asked_is same;
          },
          same,
        )
        | inr older ↦ absurd (none_placed older.1.placed older.1.stands older.1.call_is)
      ])

-- ---- a call that is not staged

-- a thing of a map that passes a test is one of the map that does
any_of_got : {X : Type 0} (p : ℕ × X → Bool) (things : NumberMap X) (number : ℕ) (x : X) → get things number ≡ Some x → ((n : ℕ) → p (n, x) ≡ true)
    → list_any p things ≡ true
any_of_got p [] number x found passes = absurd (cc found)
any_of_got {X} p (entry ∷ things) number x found passes = go (eq_by_cmp nat_cmp number entry.0) found (any_of_got p things number x)
  where
    go : (here : Bool) → cond here (Some entry.1) (get things number) ≡ Some x
        → (get things number ≡ Some x → ((n : ℕ) → p (n, x) ≡ true) → list_any p things ≡ true) → (p entry || list_any p things) ≡ true
    go true is later =
        let same : entry.1 ≡ x = cc is in
        or_left (p entry) (list_any p things) (ap (λ (y : X). p (entry.0, y)) same ∙ passes entry.0)
    go false is later = or_right (p entry) (list_any p things) (later is passes)

-- whether a call that waits is that of a client with a seq
abbrev pub is_waiting_call : ℕ → ℕ → ℕ × Call → Bool
is_waiting_call client seq entry = entry.1.client == client && (entry.1.seq == seq)

module _ (v : View) (sound : SoundView v) (row : Row) (has_row : Contains v.rows row) (master : ℕ) (lives : v.live master ≡ true)
    (serves : is_serving (v.handovers master row.tablet).role ≡ true) (last : Member) (is_last : last_of (lineage_of row.phase) ≡ Some last)
    (here : last.master ≡ master) (call : Call) (unstaged : list_any (is_waiting_call call.client call.seq) (v.calls master) ≡ false)
    (own : IsLastAsked v.asked v.journal call.client call.seq call.table call.key) where
  -- an entry of the rest is that of a call with this client and seq
  abbrev IsOf : Entry → ℕ → ℕ → Type 0
  IsOf entry client seq = (other : Call) → IsEntryOf other entry → (other.client ≡ client) × (other.seq ≡ seq)

  apart : (entry : Entry) (client seq table : ℕ) (key : List ℕ) → Contains (rests v row) entry → is_call_entry entry ≡ true → IsOf entry client seq
      → IsLastAsked v.asked v.journal client seq table key → client ≡ call.client → ⊥
  apart entry client seq table key stands of_call of its same = grind (arith, found, rest_calls, false≢true, any_of_got, and_from, eq-eqb)

  of_entry : (entry : Entry) (end : Ended) → Contains (rests v row) entry → IsStaged v.base v.asked v.journal entry → Contains (call_end entry) end → end.client ≡ call.client → ⊥
  of_entry (entries.Held held) end stands staged ends same = elim (stands_cases (item_end held) [] end ends) [
    | inl is ↦ apart (entries.Held held) held.client held.seq held.table held.key stands refl (λ other own. (own.client_is, own.seq_is))
        staged.last (ap (λ (e : Ended). e.client) is ∙ same)
    | inr none ↦ absurd (none_stands end none)
  ]
  of_entry (entries.Refused refused) end stands staged ends same = elim (stands_cases (refusal_end refused) [] end ends) [
    | inl is ↦ apart (entries.Refused refused) refused.client refused.seq refused.table refused.key stands refl
        (λ other own. (own.client_is, own.seq_is)) staged (ap (λ (e : Ended). e.client) is ∙ same)
    | inr none ↦ absurd (none_stands end none)
  ]
  of_entry _ end stands staged ends same = absurd (none_stands end ends)

  -- so the calls that are staged are of other clients
  pub none_staged : All (λ end. end.client ≢ call.client) (call_ends (rests v row))
  none_staged =
      all_by (λ end. end.client ≢ call.client) (call_ends (rests v row)) (λ end stands.
      let found = from_flat call_end (rests v row) end stands in
      let staged : All (IsStaged v.base v.asked v.journal) (rests v row) = (row_goes_on v sound row has_row).staged in
      of_entry found.0 end found.1 (All-contains (IsStaged v.base v.asked v.journal) (rests v row) found.0 staged found.1) found.2)

-- ---- What a master knows of a mutation that is new to the tablet which it serves, and that it has not staged: the call is its client's
-- last and has no record, nothing is staged for its client, and what the master finds of the key is what truth and rest leave there.

-- a refusal leaves the map as it was
refusal_leaves : (op : Op) (absent : Bool) (found : ℕ) → change_of op (outcome_of (if absent then ends.Absent else ends.Mismatch found)) ≡ None
refusal_leaves op absent found = grind arith

module _ (base : Base) (journal : List Placed) (asked : ℕ → Option LastCall) (range : Range) where
  -- the records that the calls of some entries make
  abbrev made : List Entry → List Placed
  made rest = records_of asked (call_ends rest)

  -- the call that left a staged entry, as a call of the entry's client
  abbrev as_call : LastCall → ℕ → ℕ → Call
  as_call last client seq = record last.call { client = client; seq = seq }

  -- an entry that makes a record
  pub low_behind : (map : Map) (truth : List Entry) (entry : Entry) (end : Ended) (last : LastCall) (call : Call) → IsEntryOf call entry
      → asked end.client ≡ Some last → call.table ≡ last.call.table → call.key ≡ last.call.key
      → change_of last.call.op (outcome_of end.end) ≡ change_by entry
      → AreAboveMap range map truth
      → AreAboveMap range (map_after map (record_of_last end (asked end.client))) (truth ++ entry ∷ [])
  low_behind map truth entry end last call own kept table key leaves low =
      subst (λ (o : Option LastCall). AreAboveMap range (map_after map (record_of_last end o)) (truth ++ entry ∷ [])) (sym kept)
      (subst (λ (m : Map). AreAboveMap range m (truth ++ entry ∷ [])) (λ i. with_change map (table i) (key i) (sym leaves i))
      (low_inserted range map call entry truth (truth ++ entry ∷ []) own (inserted_last entry truth) low))

  -- and an entry that makes none
  low_beside : (map : Map) (truth : List Entry) (entry : Entry) → AreAboveMap range map truth → AreAboveMap range map (truth ++ entry ∷ [])
  low_beside map truth entry low table key inside =
      let was : last_version (map table key) < floor_of (of_key table key truth) = low table key inside in
      let grows = key_floor entry truth (truth ++ entry ∷ []) (inserted_last entry truth) table key in
      omega (arith, was, grows)

  -- one more entry, whatever it is
  low_one : (map : Map) (truth : List Entry) (entry : Entry) → IsStaged base asked journal entry → AreAboveMap range map truth
      → AreAboveMap range (map_after map (records_of asked (call_end entry))) (truth ++ entry ∷ [])
  low_one map truth (entries.Held held) staged low =
      let last : LastCall = staged.last.last in
      rw (append-nil (record_of_last (item_end held) (asked held.client)))
      (low_behind map truth (entries.Held held) (item_end held) staged.last.last (as_call staged.last.last held.client held.seq)
      (record {
        client_is = refl;
        seq_is = refl;
        table_is = staged.last.table_is;
        key_is = staged.last.key_is;
      }) staged.last.asked_is refl refl staged.leaves low)
  low_one map truth (entries.Refused refused) staged low = rw (append-nil (record_of_last (refusal_end refused) (asked refused.client)))
      (low_behind map truth (entries.Refused refused) (refusal_end refused) staged.last (as_call staged.last refused.client refused.seq)
      (record { client_is = refl; seq_is = refl; table_is = staged.table_is; key_is = staged.key_is }) staged.asked_is refl refl
      (refusal_leaves staged.last.call.op refused.absent refused.found) low)
  low_one map truth (entries.Carried carried) staged low = low_beside map truth (entries.Carried carried) low
  low_one map truth (entries.Joined joined) staged low = low_beside map truth (entries.Joined joined) low

  -- and all of them
  pub low_staged : (map : Map) (truth rest : List Entry) → All (IsStaged base asked journal) rest → AreAboveMap range map truth
      → AreAboveMap range (map_after map (made rest)) (truth ++ rest)
  low_staged map truth [] staged low = rw (append-nil truth) low
  low_staged map truth (entry ∷ rest) staged low =
      let first = low_one map truth entry (All-head (IsStaged base asked journal) entry rest staged) low in
      let all =
      low_staged (map_after map (records_of asked (call_end entry))) (truth ++ entry ∷ []) rest
      (All-tail (IsStaged base asked journal) entry rest staged) first in
      let parts = flat_map-append (λ end. record_of_last end (asked end.client)) (call_end entry) (call_ends rest) in
      subst (λ (list : List Entry). AreAboveMap range (map_after map (made (entry ∷ rest))) list) (append_assoc truth (entry ∷ []) rest)
      (rw (ap (map_after map) parts ∙ map_after-append map (records_of asked (call_end entry)) (made rest)) all)

-- ---- a new mutation

-- a master has a tablet
pub record HasTablet (v : View) (master number : ℕ) (tablet : Tablet) : Type 0 where
  pub handover : tablet.handover ≡ v.handovers master number
  pub pulling : tablet.pulling ≡ v.pullings master number
  pub completions : tablet.completions ≡ v.completions master number

module _ (v : View) (sound : SoundView v) (master : ℕ) (call : Call) (served : IsServedIn v master call) where
  -- what truth and rest leave at the key
  abbrev pub left_at_key : MapEntry
  left_at_key = map_after (base_map v.base) (v.journal ++ records_of v.asked (call_ends (rests v served.row))) call.table call.key

  -- what is staged of the row goes on lawfully
  goes_on : IsRest v.base served.row.range (truths v served.row) (rests v served.row) v.journal v.asked
  goes_on = row_goes_on v sound served.row served.has_row

  -- the next version is above the last one of the key
  pub version_above : last_version left_at_key < (v.handovers master served.row.tablet).counter
  version_above =
      let low : AreAboveMap served.row.range (map_after (base_map v.base) v.journal) (truths v served.row) =
      (row_in v sound served.row served.has_row).counters.low in
      let staged =
      low_staged v.base v.journal v.asked served.row.range (map_after (base_map v.base) v.journal) (truths v served.row)
      (rests v served.row) goes_on.staged low call.table call.key served.in_row in
      let here : last_version left_at_key < floor_of (of_key call.table call.key (truths v served.row ++ rests v served.row)) =
      rw (map_after-append (base_map v.base) v.journal (records_of v.asked (call_ends (rests v served.row)))) staged in
      let among : floor_of (of_key call.table call.key (truths v served.row ++ rests v served.row)) ≤ floor_of (truths v served.row ++ rests v served.row) =
      floor_among (of_key call.table call.key (truths v served.row ++ rests v served.row)) (truths v served.row ++ rests v served.row)
      (filter_from (tells_of call.table call.key) (truths v served.row ++ rests v served.row)) in
      let next = counter_low v master call.table call.key sound.counters served in omega (arith, here, among, next)

  -- ---- what the master finds of the key

  abbrev pub found_state : Option Held
  found_state = option_or (newest (items_of (waiting v sound served.row served.has_row master served.lives served.serves served.last served.is_last served.here)) call.table call.key)
      (found call.table call.key (v.records master))

  -- what a target's source has of the key has arrived
  abbrev Arrives : Role → Pulling → Type 0
  Arrives role pulling =
      (items : List Held) (x : Held) → Contains items x → is_of call.table call.key x ≡ true → HasArrived role pulling items x

  pub found_tells : (tablet : Tablet) → HasTablet v master served.row.tablet tablet → is_known tablet (hash_of call.key) found_state ≡ true
      → record_of found_state ≡ map_record_of left_at_key
  found_tells tablet has known = state_tells v sound served.row served.has_row master served.lives served.serves served.last served.is_last
      served.here call.table call.key served.in_row (λ none gone.
      subst (λ (h : Handover). Arrives h.role (v.pullings master served.row.tablet)) has.handover
      (subst (λ (p : Pulling). Arrives tablet.handover.role p) has.pulling
      (has_arrived tablet call.table call.key
      (subst (λ (o : Option Held). is_known tablet (hash_of call.key) o ≡ true)
      (ap (λ (o : Option Held). option_or o (found call.table call.key (v.records master))) none ∙ gone) known))))
      ∙ goes_on.live call.table call.key served.in_row

  -- ---- how the call may end

  module _ (completions : Completions) (is : completions ≡ v.completions master served.row.tablet) (order : IsInOrder completions)
      (new : look completions call.client call.seq ≡ looks.New) (mutates : is_mutation call.op ≡ true)
      (unstaged : list_any (is_waiting_call call.client call.seq) (v.calls master) ≡ false)
      (was_asked : WasAsked (v.asked call.client) v.journal call) where
    reach : ReachAll served.row.range v.journal (ends_of completions)
    reach =
        rw is
        ((row_in v sound served.row served.has_row).calls.answering master (inl served.lives)
        (speaks_serving (post_of served.row.phase master) (v.handovers master served.row.tablet) served.row.term served.serves))

    its_last : (last : IsLastAsked v.asked v.journal call.client call.seq call.table call.key) × (last.last.call ≡ call)
    its_last =
        new_is_last v.asked v.journal served.row.range completions call order new reach served.in_row mutates sound.asked.recorded was_asked

    pub may_end : (outcome : Outcome) → Allowed left_at_key call.op outcome → MayEndIn v served.row call outcome
    may_end outcome allowed = record {
      last = its_last.0;
      same_call = its_last.1;
      unstaged = none_staged v sound served.row served.has_row master served.lives served.serves served.last served.is_last served.here call
          unstaged its_last.0;
      allowed = allowed;
    }
