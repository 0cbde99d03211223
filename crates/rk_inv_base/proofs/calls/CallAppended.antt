-- A view stays sound when the entry of a call is appended to the log of a master that answers calls for its key.
use Rattle.rk_inv_base.proofs.Words.{◌≡◌, ℕ, ◌≤◌, ◌<◌, true, false, List, [], ◌∷◌, ◌++◌, length, Option, None, Some, refl, sym, ap, subst}
use Rattle.rk_inv_base.proofs.Words.{◌∙◌, ⊎_elim, inl, arith, slice_get, IfSome, All, Contains, append-nil, append_assoc, cond-false}
use Rattle.rk_inv_base.proofs.Words.{flat_map-append, All-head, All-tail, All-weaker, Contains-append_left, each_insert, get_same}
use Rattle.rk_inv_base.proofs.Words.{get_other, slice_get_within, NumberMap, EachIn, insert, get, hash_of, has_key, meets, Call, Ended}
use Rattle.rk_inv_base.proofs.Words.{Held, Member, Range, slice_get_push_cases, Entry, is_serving, Handover, lineage_of, Row, Handed}
use Rattle.rk_inv_base.proofs.Words.{items_in, items_of, told, told_by, floor_of, touches, counts, Written, member_material, IsNext}
use Rattle.rk_inv_base.proofs.Words.{IsEntryWithin, IsOfWholeRows, AreAbove, post_of, handed_by, handed_for_grant, IsEntryOf, IsPlaced}
use Rattle.rk_inv_base.proofs.Words.{IsRest, MembersFit, FirstIsDone, EachHasCall, IsLast, Waits, MayAppend, with_counter, with_one_more}
use Rattle.rk_inv_base.proofs.Words.{View, truths, rests, SoundView, All-contains, AreApart, is_granted, is_marked, last_of, lineage_truth}
use Rattle.rk_inv_base.proofs.Words.{may_have_staged, member_truth, put, false_from_ne_true, is_of, IsAboveAll, slice_get_end, appended}
use Rattle.rk_inv_base.proofs.Base.{none_stored, counts_call, joins_call, marked_none, names_call, segments_call, touches_call, in_one_row}
use Rattle.rk_inv_base.proofs.Base.{no_meeting, speaker_of, speaker_is, speaks_serving, none_waits, none_hands, CountsFor, SoundRow}
use Rattle.rk_inv_base.proofs.Base.{SpeaksFor, row_in, covered_by, put_by, put2_by, counted_looks, first_not_last, formed_apart}
use Rattle.rk_inv_base.proofs.Base.{last_stands, IsTargetIn, above_source, AreBelow, target_counted, all_by, floor_above}
use Rattle.rk_inv_base.proofs.logs.EntryAppended.{view_with_entry, waits_on, IsAtEnd}
use Rattle.rk_inv_base.proofs.logs.OneMore.{of_written, within, applied_same, lineage_grown}
use Rattle.rk_inv_base.proofs.rows.RowAppended.{RestFits, StaysAs, names_grown, target_grown}
use Rattle.rk_inv_base.proofs.rows.Serving.{serving_stages}

-- one more item at the end, above all before it
pub above_push : (before items : List Held) (item : Held) → AreAbove before items → IsAboveAll (before ++ items) item → AreAbove before (items ++ item ∷ [])
above_push before [] item above new = (subst (λ (l : List Held). IsAboveAll l item) (append-nil before) new, tt)
above_push before (first ∷ items) item above new =
    (above.0, above_push (before ++ first ∷ []) items item above.1 (subst (λ (l : List Held). IsAboveAll l item) (sym (append_assoc before (first ∷ []) items)) new))

-- an item whose version is no less than the floor of entries is above all of them
pub above_floor : (truth rest : List Entry) (item : Held) → floor_of (truth ++ rest) ≤ item.version → IsAboveAll (items_of truth ++ items_of rest) item
above_floor truth rest item low =
    subst (λ (l : List Held). IsAboveAll l item) (flat_map-append items_in truth rest)
    (All-weaker (λ (other : Held). other.version < floor_of (truth ++ rest)) (λ (other : Held). is_of item.table item.key other ≡ true → other.version < item.version)
    (λ other below same. omega (arith, below)) (items_of (truth ++ rest)) (all_by (λ (other : Held). other.version < floor_of (truth ++ rest)) (items_of (truth ++ rest)) (floor_above (truth ++ rest))))

-- an entry of a call that counts for a row lies in rows
pub within_rows : (rows : List Row) (row : Row) (call : Call) (entry : Entry) → IsEntryOf call entry → Contains rows row → counts row.range entry ≡ true → IsEntryWithin rows entry
within_rows rows row call entry own stands has = grind (arith, covered_by, hash_of)

-- and nothing is asked of it as of a Carried or a Joined
pub whole_rows : (rows : List Row) (call : Call) (entry : Entry) → IsEntryOf call entry → IsOfWholeRows rows entry
whole_rows rows call entry own = grind arith

-- the rest of a row gets an item at its end that is above all that counts for the row, or none
pub above_pushed : (truth rest : List Entry) (call : Call) (entry : Entry) → IsEntryOf call entry → All (λ item. IsNext (truth ++ rest) item.version) (items_in entry) → AreAbove (items_of truth) (items_of rest) → AreAbove (items_of truth) (items_of (rest ++ entry ∷ []))
above_pushed truth rest call entry own low above = grind (arith, items_of, flat_map-append, items_in, above_push, above_floor, append-nil)

-- each entry of a call has it, with one more entry and its call
pub calls_push : (calls : NumberMap Call) (written : Written) (call : Call) (entry : Entry) → IsEntryOf call entry → EachHasCall calls written → EachHasCall (insert calls (length written.entries) call) (with_one_more written entry)
calls_push calls written call entry own old place e behind stands is unmarked =
    ⊎_elim
    (λ (before : slice_get written.entries place ≡ Some e).
    let has = old place e behind before is unmarked in
    let within : place < length written.entries = slice_get_within written.entries place e before in
    record {
      call = has.call;
      waits = get_other calls (length written.entries) call place (λ same. omega (arith, same, within)) ∙ has.waits;
      own = has.own;
    })
    (λ (last : (place ≡ length written.entries) × (entry ≡ e)).
    record {
      call = call;
      waits = get_same calls (length written.entries) call place last.0;
      own = subst (IsEntryOf call) last.1 own;
    })
    (slice_get_push_cases written.entries entry e place stands)

module _ (v : View) (master : ℕ) (call : Call) (entry : Entry) (counter : ℕ) (sound : SoundView v) (may : MayAppend v master call entry counter) where
  abbrev row : Row
  row = may.served.row

  abbrev old : Handover
  old = v.handovers master may.served.row.tablet

  -- the place of the entry, and the calls that wait then
  abbrev place : ℕ
  place = length (v.written master).entries

  abbrev calls : ℕ → NumberMap Call
  calls = put v.calls master (insert (v.calls master) place call)

  abbrev now : View
  now = appended v master may.served.row.tablet call entry counter

  stays : StaysAs old (with_counter counter old)
  stays = assumption (counted_looks counter old may.served.serves)

  was : SoundRow v row
  was = row_in v sound row may.served.has_row

  inside : counts row.range entry ≡ true
  inside = counts_call row.range call entry may.own ∙ may.served.in_row

  untouched : (range : Range) → meets row.range range ≡ false → touches range entry ≡ false
  untouched range apart = grind (arith, touches_call, counts_call, false_from_ne_true, has_key, no_meeting)

  uncounted : (x : Row) → Contains v.rows x → (x.tablet ≡ row.tablet → ⊥) → counts x.range entry ≡ false
  uncounted x has apart = grind (arith, counts_call, in_one_row)

  -- ---- what is staged of the row

  rest_is : rests now row ≡ rests v row ++ entry ∷ []
  rest_is = lineage_grown v master entry sound.logs row.range (lineage_of row.phase) may.served.last was.rows.placed may.served.is_last may.served.here inside

  -- a master that counts for the row and speaks for it is the speaker that its phase names
  speaker_at : (q : ℕ) → CountsFor v row q → SpeaksFor v row q → q ≡ speaker_of row.phase
  speaker_at q counts = speaker_is row q (v.handovers q row.tablet) (v.written q).applied (was.roles.fitting q counts)

  -- so the master that serves it is that one
  speaker : master ≡ speaker_of row.phase
  speaker = speaker_at master (inl may.served.lives) (speaks_serving (post_of row.phase master) old row.term may.served.serves)

  serves_last : is_serving (v.handovers may.served.last.master row.tablet).role ≡ true
  serves_last = ap (λ (n : ℕ). is_serving (v.handovers n row.tablet).role) may.served.here ∙ may.served.serves

  -- and nothing is handed over for the row
  none_kept : handed_for_grant row v.handovers v.handed ≡ None
  none_kept = grind (arith, cond-false, none_waits, was, serves_last)

  rest : RestFits v now row
  rest =
      let grown : List Entry = rests v row ++ entry ∷ [] in
      record {
        above = grind (arith, rest_is, above_pushed, truths, rests, was, may.own, may.above);
        counted = λ q counts says.
            let same : q ≡ master = speaker_at q counts says ∙ sym speaker in
            subst (λ (list : List Entry). IsNext (truths v row ++ list) (now.handovers q row.tablet).counter) (sym rest_is)
            (put2_by v.handovers master row.tablet (with_counter counter) (λ (h : Handover). IsNext (truths v row ++ grown) h.counter) q row.tablet
            (λ at its. may.next) (λ apart. absurd (apart same refl)));
        floor_granted = rw none_kept tt;
        floor_sent = λ n m there.
            let none : handed_by row v.handovers m.body ≡ None =
            none_hands row v.logs v.written v.stored v.handovers v.completions v.merged v.live v.handed m.from m.to m.body may.served.last
            (was.messages n m there) was.rows.formed may.served.is_last (may.served.here ∙ speaker) serves_last in
            subst (λ (o : Option Handed). IfSome o (λ h. IsNext (truths v row ++ rests now row) h.floor)) (sym none) tt;
        goes_on = subst (λ (list : List Entry). IsRest v.base row.range (truths v row) list v.journal v.asked) (sym rest_is) may.goes_on;
        tells = λ end there.
            rw rest_is (subst (λ (l : List Ended). Contains l end) (sym (flat_map-append told_by (rests v row) (entry ∷ [])))
            (Contains-append_left (told (rests v row)) (told (entry ∷ [])) end there));
      }

  -- ---- a target of the row

  -- each item of the entry is above each one of its source
  above_its_source : (source target : Member) → lineage_of row.phase ≡ source ∷ target ∷ [] → All (AreBelow (items_of (member_material v.written row.range source))) (items_in entry)
  above_its_source source target is =
      let first : FirstIsDone v.written row.range (source ∷ target ∷ []) = subst (FirstIsDone v.written row.range) is was.rest.done in
      All-weaker (λ (item : Held). IsNext (truths v row ++ rests v row) item.version)
      (AreBelow (items_of (member_material v.written row.range source)))
      (λ item low.
      rw first.all (above_source v.base row.range v.written (rests v row) source target item
      (subst (λ (members : List Member). floor_of (lineage_truth v.base v.written row.range members ++ rests v row) ≤ item.version) is low)))
      (items_in entry) may.above

  members : (lineage : List Member) → lineage_of row.phase ≡ lineage → All (IsPlaced v.written) lineage → MembersFit row v.written v.handovers v.pullings v.records v.handed lineage → MembersFit row now.written now.handovers v.pullings v.records v.handed lineage
  members (source ∷ target ∷ []) is placed fit = λ granted.
      let q : ℕ = target.master in
      let apart : source.master ≡ master → ⊥ = λ at.
      first_not_last source target [] may.served.last (subst AreApart is (formed_apart row.phase was.rows.formed))
      (ap last_of (sym is) ∙ may.served.is_last) (at ∙ sym may.served.here) in
      let Fits : Handover → Type 0 = λ h. IsTargetIn now.written row source target h (v.pullings q row.tablet) (get v.handed row.tablet)
      (v.records q) in
      let grown : Fits (v.handovers q row.tablet) =
      target_grown v master row.tablet entry calls (with_counter counter old) sound.logs may.served.lives stays row source target
      (v.handovers q row.tablet)
      (λ at. absurd (apart at)) (All-head (IsPlaced v.written) target [] (All-tail (IsPlaced v.written) source (target ∷ []) placed))
      (λ _. joins_call row.range call entry may.own) (λ _ _. above_its_source source target is)
      (fit (put2_by v.handovers master row.tablet (with_counter counter)
      (λ (h : Handover). is_granted h.role ≡ true → is_granted (v.handovers q row.tablet).role ≡ true) q row.tablet
      (λ at its granted. granted) (λ _ granted. granted) granted)) in
      put2_by v.handovers master row.tablet (with_counter counter) Fits q row.tablet
      (λ at its.
      target_counted row.range source.master (member_truth now.written row.range source) (member_material now.written row.range source) target.from
      (v.handovers q row.tablet) (v.pullings q row.tablet) (get v.handed row.tablet) (v.records q) counter (now.written q) grown)
      (λ _. grown)
  members _ is placed fit = tt

  -- ---- the calls that wait

  of_calls : (P : NumberMap Call → Type 0) (q : ℕ) → (q ≡ master → P (insert (v.calls q) place call)) → ((q ≡ master → ⊥) → P (v.calls q)) → P (calls q)
  of_calls P q here apart = put_by v.calls master (λ calls. insert calls place call) P q here apart

  abbrev WaitsAt : ℕ → ℕ → Call → Type 0
  WaitsAt q = Waits v.rows (now.handovers q) (now.written q) q

  -- the new call waits
  waits_new : (q : ℕ) → q ≡ master → WaitsAt q place call
  waits_new q at = subst (λ (n : ℕ). WaitsAt n place call) (sym at) (record {
    behind = omega (arith, within v master entry sound.logs master, applied_same v master entry sound.logs master);
    entry = entry;
    stands = grind (arith, of_written, slice_get_end, sound.logs, v.written);
    own = may.own;
    unmarked = grind (arith, of_written, is_marked, marked_none, sound.logs, v.written, sound.logs.each);
    row = row;
    has_row = may.served.has_row;
    in_row = may.served.in_row;
    last = may.served.last;
    is_last = may.served.is_last;
    here = may.served.here;
    from =
        let at : IsPlaced v.written may.served.last =
        All-contains (IsPlaced v.written) (lineage_of row.phase) may.served.last was.rows.placed
        (last_stands (lineage_of row.phase) may.served.last may.served.is_last) in
        subst (λ (n : ℕ). may.served.last.from ≤ length (v.written n).entries) may.served.here at;
    may_stage =
        put2_by v.handovers master row.tablet (with_counter counter) (λ (h : Handover). may_have_staged h.role ≡ true) master row.tablet
        (λ _ _. serving_stages old.role may.served.serves) (λ apart. absurd (apart refl refl));
  })

  waiting : (q : ℕ) → v.live q ≡ true → EachIn (WaitsAt q) (calls q)
  waiting q lives =
      let each : EachIn (WaitsAt q) (v.calls q) = λ k c there.
      waits_on v master row.tablet entry calls (with_counter counter old) sound may.served.lives stays q k c (sound.rest.waiting q lives k c there) in
      of_calls (EachIn (WaitsAt q)) q (λ at. each_insert (WaitsAt q) (v.calls q) place call each (waits_new q at)) (λ _. each)

  are_last : (q : ℕ) → v.live q ≡ true → EachIn (λ _ c. IsLast (v.asked c.client) c) (calls q)
  are_last q lives =
      of_calls (EachIn (λ _ c. IsLast (v.asked c.client) c)) q
      (λ at. each_insert (λ _ c. IsLast (v.asked c.client) c) (v.calls q) place call (sound.rest.are_last q lives) may.last)
      (λ _. sound.rest.are_last q lives)

  found : (q : ℕ) → v.live q ≡ true → EachHasCall (calls q) (now.written q)
  found q lives =
      let was : EachHasCall (v.calls q) (v.written q) = sound.rest.found q lives in
      of_calls (λ calls. EachHasCall calls (now.written q)) q
      (λ at.
      of_written v master entry sound.logs (EachHasCall (insert (v.calls q) place call)) q
      (λ _.
      subst (λ (n : ℕ). EachHasCall (insert (v.calls q) (length (v.written n).entries) call) (with_one_more (v.written q) entry)) at
      (calls_push (v.calls q) (v.written q) call entry may.own was))
      (λ apart. absurd (apart at)))
      (λ apart. of_written v master entry sound.logs (EachHasCall (v.calls q)) q (λ at. absurd (apart at)) (λ _. was))

  pub view_appended : SoundView now
  view_appended =
      let at_end : IsAtEnd (lineage_of row.phase) master =
      record { last = may.served.last; is_last = may.served.is_last; here = may.served.here } in
      view_with_entry v row master entry calls (with_counter counter old) sound
      (assumption (
        stays,
        none_stored (v.logs master) entry (segments_call call entry may.own),
        within_rows v.rows row call entry may.own may.served.has_row inside,
        whole_rows v.rows call entry may.own,
        untouched,
        uncounted,
        joins_call row.range call entry may.own,
        rest,
        members (lineage_of row.phase) refl was.rows.placed was.receives.target,
        names_grown v master row.tablet entry calls (with_counter counter old) sound.logs may.served.lives stays row (lineage_of row.phase)
            was.rows.placed (names_call row.range call entry may.own) was.receives.named,
        waiting,
        are_last,
        found,
      ))
