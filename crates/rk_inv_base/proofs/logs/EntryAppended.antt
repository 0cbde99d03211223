-- The law of entries: a view stays sound when a master appends an entry to its log for a tablet that it serves, if the entry is of no
-- other row, and what it adds to its own row fits. What is said of other rows, masters and logs is not shown again.
use Rattle.rk_inv_base.proofs.Words.{◌≡◌, ℕ, ◌≤◌, false, true, List, [], ◌∷◌, length, Some, refl, sym, ap, subst, ◌∙◌, ⊎_elim, inl, inr}
use Rattle.rk_inv_base.proofs.Words.{◌⊎◌, All, Contains, slice_get, arith, cases_eq, All-push, All-weaker, EachIn, NumberMap, Call, Ended}
use Rattle.rk_inv_base.proofs.Words.{meets, Range, slice_get_front, Entry, Handover, Row, Known, ends_of, touches, counts, is_absent}
use Rattle.rk_inv_base.proofs.Words.{is_marked, Written, IsKnown, IsStagedEnd, HasSegmentLeft, IsEntryWithin, IsOfWholeRows, IsBare}
use Rattle.rk_inv_base.proofs.Words.{MembersFit, NamedFit, EachHasCall, IsLast, Waits, View, rests, SoundView, CoverOf, put2, Member}
use Rattle.rk_inv_base.proofs.Words.{last_of, lineage_of, Rebuilding, both_ways, is_serving, is_joined_in, bond_of, post_of}
use Rattle.rk_inv_base.proofs.Words.{false_from_ne_true, IsMaster}
use Rattle.rk_inv_base.proofs.Base.{SoundBeside, SoundRow, row_in, view_by_rows, staged_as, cover_looks, cover_written, all_by, put2_by}
use Rattle.rk_inv_base.proofs.Base.{first_not_last, formed_apart, last_member, serving_unmerged, IsBareOf, serving_waits, waits_then}
use Rattle.rk_inv_base.proofs.Base.{bare_pushed, AreStored, logs_grown, rows_apart, same_number, not_begun}
use Rattle.rk_inv_base.proofs.views.Terms.{terms_looks}
use Rattle.rk_inv_base.proofs.logs.OneMore.{IsBeside, applied_same, known_same, of_written, written_with}
use Rattle.rk_inv_base.proofs.rows.Serving.{present}
use Rattle.rk_inv_base.proofs.rows.RowAppended.{RestFits, RowGrows, StaysAs, beside_grows, each_stays, entry_appended, row_appended}

-- rows of other numbers do not meet
pub row_beside : (v : View) (row x : Row) → SoundView v → Contains v.rows row → Contains v.rows x → (x.tablet ≡ row.tablet → ⊥) → meets row.range x.range ≡ false
row_beside v row x sound has_row has apart =
    false_from_ne_true (meets row.range x.range) (rows_apart v row x sound has_row has (λ same. apart (sym same)))

-- a master is the last member of a lineage
pub record IsAtEnd (lineage : List Member) (master : ℕ) : Type 0 where
  pub last : Member
  pub is_last : last_of lineage ≡ Some last
  pub here : last.master ≡ master

-- a living master that serves the tablet of a row, as the last member of its lineage, may append an entry for it, if its log has room, and
-- the entry names only what is stored, lies in rows, touches no range that the row does not meet, and counts for no other row. With it what
-- is staged of the row goes on as it should, and so do a target of the row, what the target names, and the calls that wait
pub record MayAddEntry (v : View) (row : Row) (master : ℕ) (entry : Entry) (calls : ℕ → NumberMap Call) (new : Handover) : Type 0 where
  pub lives : v.live master ≡ true
  pub has_row : Contains v.rows row
  pub at_end : IsAtEnd (lineage_of row.phase) master
  pub serves : is_serving (v.handovers master row.tablet).role ≡ true
  pub stays : StaysAs (v.handovers master row.tablet) new
  pub room : HasSegmentLeft (v.logs master)
  pub stored : AreStored (v.logs master) entry
  pub within : IsEntryWithin v.rows entry
  pub whole : IsOfWholeRows v.rows entry
  pub untouched : (range : Range) → meets row.range range ≡ false → touches range entry ≡ false
  pub uncounted : (x : Row) → Contains v.rows x → (x.tablet ≡ row.tablet → ⊥) → counts x.range entry ≡ false
  pub only : (only : Member) → lineage_of row.phase ≡ only ∷ [] → is_joined_in row.range entry ≡ false
  pub rest : RestFits v (entry_appended v master row.tablet entry calls new) row
  pub target :
      MembersFit row (written_with v master entry) (put2 v.handovers master row.tablet new) v.pullings v.records v.handed
      (lineage_of row.phase)
  pub named : NamedFit (written_with v master entry) row.range (lineage_of row.phase)
  pub waiting :
      (q : ℕ) → v.live q ≡ true
      → EachIn (λ place call. Waits v.rows (put2 v.handovers master row.tablet new q) (written_with v master entry q) q place call) (calls q)
  pub are_last : (q : ℕ) → v.live q ≡ true → EachIn (λ place call. IsLast (v.asked call.client) call) (calls q)
  pub found : (q : ℕ) → v.live q ≡ true → EachHasCall (calls q) (written_with v master entry q)

module _ (v : View) (row : Row) (master : ℕ) (entry : Entry) (calls : ℕ → NumberMap Call) (new : Handover) (sound : SoundView v) (may : MayAddEntry v row master entry calls new) where
  abbrev now : View
  now = entry_appended v master row.tablet entry calls new

  was : SoundRow v row
  was = row_in v sound row may.has_row

  -- the first of two members is another one
  first_apart : (first last : Member) (more : List Member) → lineage_of row.phase ≡ first ∷ last ∷ more → first.master ≡ master → ⊥
  first_apart first last more is at = grind (arith, first_not_last, formed_apart, was, last_of)

  -- and if the master is to rebuild the row, it has not begun
  idles : (lineage : List Member) → row.phase ≡ Rebuilding lineage master → (v.handovers master row.tablet).term ≡ row.term → ⊥
  idles lineage is term = grind (arith, not_begun, bond_of, post_of, was)

  grows : RowGrows v now master row.tablet entry row
  grows = grind (arith, first_apart, idles, both_ways, serving_unmerged)

  -- the master keeps the row's range
  range_is : (v.handovers master row.tablet).range ≡ row.range
  range_is =
      was.roles.ranged master (inl may.lives) (last_member (lineage_of row.phase) may.at_end.last master may.at_end.is_last may.at_end.here)

  stays_each : (q r : ℕ) → StaysAs (v.handovers q r) (now.handovers q r)
  stays_each = each_stays v master row.tablet entry calls new sound.logs may.lives may.stays

  -- the entry is of no other row
  beside_row : (x : Row) → Contains v.rows x → (x.tablet ≡ row.tablet → ⊥) → IsBeside x.range entry
  beside_row x has apart = grind (arith, row_beside)

  -- each row goes on as it should
  rows_grow : (x : Row) → Contains v.rows x → RowGrows v now master row.tablet entry x
  rows_grow x has =
      ⊎_elim
      (λ (its : x.tablet ≡ row.tablet).
      subst (RowGrows v now master row.tablet entry) (sym (same_number v.rows x row sound.rows.apart has may.has_row its)) grows)
      (λ (apart : x.tablet ≡ row.tablet → ⊥).
      beside_grows v master row.tablet entry calls new sound.logs may.lives may.stays x (row_in v sound x has) apart (beside_row x has apart))
      (cases_eq x.tablet row.tablet)

  cover : CoverOf now
  cover =
      cover_written v.rows v.written now.written now.handovers v.records v.wire
      (cover_looks v.rows v.written v.handovers now.handovers v.records v.wire sound.cover (λ q r. (stays_each q r).looks))
      (λ q. of_written v master entry sound.logs (λ (w : Written). w.marks ≡ (v.written q).marks) q (λ at. refl) (λ apart. refl))
      (λ q. of_written v master entry sound.logs (λ (w : Written). w.sides ≡ (v.written q).sides) q (λ at. refl) (λ apart. refl))
      (λ q.
      of_written v master entry sound.logs (λ (w : Written). All (IsEntryWithin v.rows) w.entries) q
      (λ at. All-push (IsEntryWithin v.rows) (v.written q).entries entry (sound.cover.entries q) may.within)
      (λ apart. sound.cover.entries q))
      (λ q.
      of_written v master entry sound.logs (λ (w : Written). All (IsOfWholeRows v.rows) w.entries) q
      (λ at. All-push (IsOfWholeRows v.rows) (v.written q).entries entry (sound.cover.wholes q) may.whole)
      (λ apart. sound.cover.wholes q))

  -- what a master made ready for is of another tablet, and so of another range
  bare : (q r : ℕ) → IsBareOf (v.handovers q r) (v.written q) (v.records q) → IsBareOf (now.handovers q r) (now.written q) (v.records q)
  bare q r is =
      let Bare : Handover → Type 0 = λ h. IsBareOf h (now.written q) (v.records q) in
      put2_by v.handovers master row.tablet (λ _. new) Bare q r
      (λ at its.
      rw may.stays.wanted (serving_waits (v.handovers master row.tablet).role _ may.serves))
      (λ apart.
      of_written v master entry sound.logs (λ (w : Written). IsBareOf (v.handovers q r) w (v.records q)) q
      (λ at.
      waits_then (v.handovers q r).role (λ from. IsBare (v.handovers q r).range from (v.written q) (v.records q)) _
      (λ there from.
      bare_pushed (v.handovers q r).range from (v.written q) (v.records q) entry
      (may.untouched (v.handovers q r).range
      (ap (λ (range : Range). meets range (v.handovers q r).range) (sym range_is)
      ∙ ap (λ (n : ℕ). meets (v.handovers master row.tablet).range (v.handovers n r).range) at
      ∙ sound.terms.apart master row.tablet r (λ same. apart at (sym same)) (present (v.handovers master row.tablet).role may.serves)
      (ap (λ (n : ℕ). is_absent (v.handovers n r).role) (sym at) ∙ there))))
      is)
      (λ _. is))

  -- an end that is to be made a record of is staged still
  end_known : (q r : ℕ) (end : Ended) → IsKnown v.base v.journal end ⊎ IsStagedEnd v.rows (rests v) q r (v.handovers q r).term end → IsKnown v.base v.journal end ⊎ IsStagedEnd v.rows (rests now) q r (now.handovers q r).term end
  end_known q r end =
      ⊎_elim (λ (k : IsKnown v.base v.journal end). inl k)
      (λ (s : IsStagedEnd v.rows (rests v) q r (v.handovers q r).term end).
      inr
      (staged_as _ _ _ _ _ _ _ _ _ s s.stands ((rows_grow s.row s.stands).rest.tells end s.told) ((stays_each q r).looks.term ∙ s.at_term)))

  beside : SoundBeside now
  beside =
      assumption (
        λ (q : ℕ) (there : IsMaster v.masters q).
            ap (λ (known : List Known). length known) (known_same v master entry sound.logs q) ∙ sound.nodes.known q there,
        terms_looks v.rows v.handovers now.handovers v.wire sound.terms (λ q r. (stays_each q r).looks),
        cover,
        λ (q r : ℕ) (alive : v.live q ≡ true) (there : is_absent (now.handovers q r).role ≡ false).
            sound.roles.known q r alive (sym (stays_each q r).looks.role.absent ∙ there),
        logs_grown v master entry may.room sound.logs may.stored,
        λ (q r : ℕ) (alive : v.live q ≡ true).
            All-weaker _ _ (end_known q r) (ends_of (v.completions q r)) (sound.calls.known q r alive),
        λ (q r : ℕ). bare q r (sound.receives.bare q r),
      )

  pub view_with_entry : SoundView now
  view_with_entry =
      view_by_rows now beside
      (all_by (SoundRow now) v.rows
      (λ x has.
      row_appended v master row.tablet entry calls new sound.logs may.lives may.stays x (row_in v sound x has) (rows_grow x has)))

-- a call that waits goes on to wait with one more entry in its log
module _ (v : View) (master tablet : ℕ) (entry : Entry) (calls : ℕ → NumberMap Call) (new : Handover) (sound : SoundView v) (lives : v.live master ≡ true) (stays : StaysAs (v.handovers master tablet) new) where
  abbrev after : View
  after = entry_appended v master tablet entry calls new

  pub waits_on : (q k : ℕ) (call : Call) → Waits v.rows (v.handovers q) (v.written q) q k call → Waits v.rows (after.handovers q) (after.written q) q k call
  waits_on q k call was = record {
    behind = subst (λ (n : ℕ). n ≤ k) (sym (applied_same v master entry sound.logs q)) was.behind;
    entry = was.entry;
    stands =
        of_written v master entry sound.logs (λ (w : Written). slice_get w.entries k ≡ Some was.entry) q
        (λ at. slice_get_front (v.written q).entries (entry ∷ []) k was.entry was.stands) (λ apart. was.stands);
    own = was.own;
    unmarked = grind (arith, of_written, is_marked, sound.logs);
    row = was.row;
    has_row = was.has_row;
    in_row = was.in_row;
    last = was.last;
    is_last = was.is_last;
    here = was.here;
    from = was.from;
    may_stage = (each_stays v master tablet entry calls new sound.logs lives stays q was.row.tablet).stages ∙ was.may_stage;
  }
