-- The law of rows: what the invariant says of a row, row by row, and what it says beside that. A view whose rows all have the one and
-- which has the other is sound; so a change of one row is shown by what is to hold of that row.
use Rattle.rk_inv_base.proofs.Words.{arith, None, eqb, List, Contains, ◌≡◌, ◌≢◌, ℕ, ◌≤◌, true, false, ◌⊎◌, Some, All, IfSome, is_some}
use Rattle.rk_inv_base.proofs.Words.{length, slice_get, Range, Owned, All-contains, Handover, Written, Call, has_key, last_of}
use Rattle.rk_inv_base.proofs.Words.{may_have_staged, hash_of, EachIn, meets, IsLegal, IsRisingAbove, Placed, AreOneMutation, ends_of}
use Rattle.rk_inv_base.proofs.Words.{lineage_of, IsTabletMap, is_covered, row_of, Row, Body, base_map, told, IsMaster, is_absent, IsKnown}
use Rattle.rk_inv_base.proofs.Words.{IsStagedEnd, handed_by, Says, RowIsRebuilt, IsBare, wanted_place, IsLast, EachHasCall, Waits}
use Rattle.rk_inv_base.proofs.Words.{IsInScanOrder, HandoverFits, IsAfterSeen, View, truths, rests, SoundView, CoverOf, LogsOf, AskedOf}
use Rattle.rk_inv_base.proofs.Words.{Entry, Ended, All-weaker, Message, get, Phase, SomeLives, SoundRow}

-- what is said of a row in a phase in which it may be rebuilt
abbrev pub IsRebuiltIn : View → Row → Phase → Type 0
IsRebuiltIn v row phase =
    RowIsRebuilt row phase (truths v row) v.logs v.written v.stored v.handovers v.completions v.gathers v.merged v.records v.live

-- what the invariant says beside it
pub record SoundBeside (v : View) : Type 0 where
  pub numbered : (q : ℕ) → v.numbers q ≡ q
  pub backed : 1 ≤ v.backups
  pub known_backups : (q : ℕ) → IsMaster v.masters q → length (v.logs q).known ≡ v.backups
  pub crashed : All (λ q. v.live q ≡ false) v.noticed
  pub left : (q : ℕ) → v.live q ≡ false → SomeLives v.masters v.live
  pub rows_apart : IsTabletMap v.rows
  pub covered : All (λ entry. is_covered v.rows entry.call.table (hash_of entry.call.key) ≡ true) v.journal
  pub kept : (q number : ℕ) → All (λ row. HandoverFits row number (v.handovers q number)) v.rows
  pub begun : (q number : ℕ) → is_absent (v.handovers q number).role ≡ false → 1 ≤ (v.handovers q number).term
  pub apart :
      (q a b : ℕ) → a ≢ b → is_absent (v.handovers q a).role ≡ false → is_absent (v.handovers q b).role ≡ false
      → meets (v.handovers q a).range (v.handovers q b).range ≡ false
  pub cover : CoverOf v
  pub has_row : (q number : ℕ) → v.live q ≡ true → is_absent (v.handovers q number).role ≡ false → is_some (row_of v.rows number) ≡ true
  pub logs : LogsOf v
  pub legal : IsLegal (base_map v.base) v.journal
  pub rising : IsRisingAbove 0 v.journal
  pub seen : All (λ placed. IsAfterSeen (v.asked placed.call.client) placed) v.journal
  pub once :
      (i j : ℕ) (a b : Placed) → slice_get v.journal i ≡ Some a → slice_get v.journal j ≡ Some b → AreOneMutation a.call b.call → i ≡ j
  pub known :
      (q number : ℕ) → v.live q ≡ true
      → All (λ end. IsKnown v.base v.journal end ⊎ IsStagedEnd v.rows (rests v) q number (v.handovers q number).term end)
      (ends_of (v.completions q number))
  pub waiting :
      (q : ℕ) → v.live q ≡ true → EachIn (λ place call. Waits v.rows (v.handovers q) (v.written q) q place call) (v.calls q)
  pub are_last : (q : ℕ) → v.live q ≡ true → EachIn (λ place call. IsLast (v.asked call.client) call) (v.calls q)
  pub found : (q : ℕ) → v.live q ≡ true → EachHasCall (v.calls q) (v.written q)
  pub ordered : (q : ℕ) → IsInScanOrder (v.records q)
  pub bare :
      (q number : ℕ)
      → IfSome (wanted_place (v.handovers q number).role)
      (λ from. IsBare (v.handovers q number).range from (v.written q) (v.records q))
  pub others : EachIn (λ n m. Says v.journal m.to m.body) v.wire
  pub asked : AskedOf v

-- each row of a sound view
pub each_row : (v : View) → SoundView v → All (SoundRow v) v.rows
each_row v sound k d within = record {
  nodes = λ q. sound.nodes.named q k d within;
  rows = search (sound.rows.begun, sound.rows.formed, sound.rows.placed);
  terms = λ n m there. sound.terms.sent n m there k d within;
  roles = search (sound.roles.fitting, sound.roles.ranged, sound.roles.at_term);
  truth = sound.truth.true k d within;
  order = sound.order.above k d within;
  calls = let of = sound.calls in search (of.reached, of.recorded, of.moving, of.answering, of.handed_on, of.sent);
  counters = let of = sound.counters in search (of.low, of.moving, of.counted, of.handed_on, of.sent);
  rest = search (sound.rest.goes_on, sound.rest.done, sound.rest.unnamed, sound.rest.idle);
  tables = λ q lives. sound.records.items q lives k d within;
  receives = search (sound.receives.targets, sound.receives.handed_on, sound.receives.named);
  rebuilds = search (sound.rebuilds.rebuilt, sound.rebuilds.marks, sound.rebuilds.pieces);
  messages = λ n m there. sound.messages.of_rows n m there k d within;
}

-- and any row that is in it
pub row_in : (v : View) → SoundView v → (row : Row) → Contains v.rows row → SoundRow v row
row_in v sound row has = All-contains (SoundRow v) v.rows row (each_row v sound) has

-- a call that waited waits for a row that covers its key and whose lineage ends with the same member
pub waits_for : (rows now : List Row) (old new : ℕ → Handover) (written : Written) (q place : ℕ) (call : Call) (wait : Waits rows old written q place call) (row : Row) → Contains now row → has_key row.range call.table call.key ≡ true → last_of (lineage_of row.phase) ≡ Some wait.last → may_have_staged (new row.tablet).role ≡ true → Waits now new written q place call
waits_for rows now old new written q place call wait row stands inside is stages = grind arith

-- an end that was staged still is if its row is there, has it in its rest, and has the term of the tablet
pub staged_as : (rows now : List Row) (rest more : Row → List Entry) (q number old new : ℕ) (end : Ended) (staged : IsStagedEnd rows rest q number old end) → Contains now staged.row → Contains (told (more staged.row)) end → new ≡ staged.row.term → IsStagedEnd now more q number new end
staged_as rows now rest more q number old new end staged stands tells at_term = grind (arith, told)

-- a view is sound by its rows, and by what is beside them
pub of_rows : {v : View} {P : Row → Type 0} → ((row : Row) → SoundRow v row → P row) → All (SoundRow v) v.rows → All P v.rows
of_rows {v} {P} gives each = All-weaker (SoundRow v) P gives v.rows each

pub view_by_rows : (v : View) → SoundBeside v → All (SoundRow v) v.rows → SoundView v
view_by_rows v beside each =
    assumption (
      λ (q : ℕ). of_rows (λ row was. was.nodes q) each,
      of_rows (λ row was. was.rows.begun) each,
      of_rows (λ row was. was.rows.formed) each,
      of_rows (λ row was. was.rows.placed) each,
      λ (n : ℕ) (m : Message) (there : get v.wire n ≡ Some m). of_rows (λ row was. was.terms n m there) each,
      λ (q : ℕ). of_rows (λ row was. was.roles.fitting q) each,
      λ (q : ℕ). of_rows (λ row was. was.roles.ranged q) each,
      of_rows (λ row was. was.roles.at_term) each,
      of_rows (λ row was. was.truth) each,
      of_rows (λ row was. was.order) each,
      of_rows (λ row was. was.calls.reached) each,
      of_rows (λ row was. was.calls.recorded) each,
      of_rows (λ row was. was.calls.moving) each,
      λ (q : ℕ). of_rows (λ row was. was.calls.answering q) each,
      of_rows (λ row was. was.calls.granted) each,
      λ (n : ℕ) (m : Message) (there : get v.wire n ≡ Some m). of_rows (λ row was. was.calls.sent n m there) each,
      of_rows (λ row was. was.counters.low) each,
      of_rows (λ row was. was.counters.moving) each,
      λ (q : ℕ). of_rows (λ row was. was.counters.counted q) each,
      of_rows (λ row was. was.counters.granted) each,
      λ (n : ℕ) (m : Message) (there : get v.wire n ≡ Some m). of_rows (λ row was. was.counters.sent n m there) each,
      of_rows (λ row was. was.rest.goes_on) each,
      of_rows (λ row was. was.rest.done) each,
      of_rows (λ row was. was.rest.unnamed) each,
      λ (q : ℕ). of_rows (λ row was. was.rest.idle q) each,
      λ (q : ℕ) (lives : v.live q ≡ true). of_rows (λ row was. was.tables q lives) each,
      of_rows (λ row was. was.receives.target) each,
      of_rows (λ row was. was.receives.handed_on) each,
      of_rows (λ row was. was.receives.named) each,
      of_rows (λ row was. was.rebuilds.rebuilt) each,
      λ (q : ℕ). of_rows (λ row was. was.rebuilds.marks q) each,
      λ (q : ℕ). of_rows (λ row was. was.rebuilds.pieces q) each,
      λ (n : ℕ) (m : Message) (there : get v.wire n ≡ Some m). of_rows (λ row was. was.messages n m there) each,
    )

-- no message hands over for a row that is owned
pub none_for_owned : (number term : ℕ) (range : Range) (owner from : ℕ) (handovers : ℕ → ℕ → Handover) (body : Body) → handed_by (record { tablet = number; range = range; term = term; phase = Owned owner from }) handovers body ≡ None
none_for_owned number term range owner from handovers body = grind (arith, eqb)
