-- The part Logs when a master appends a piece of more entries than one.
use Rattle.std.proofs.Common.{◌≡◌, ◌≢◌, ℕ, ◌-◌, ◌<◌, ◌≤◌, true, List, [], ◌∷◌, ◌++◌, length, get_or, All, refl, sym, ap, ◌∙◌, subst, ⊎_elim}
use Rattle.std.proofs.Common.{arith, append_assoc, lt-ltb, ltb-true, append-nil, length-append, length-set}
use Rattle.rk_inv_base.proofs.Words.{cases_eq, cases_lt, cond_both, get_or_past, All-append, All-push, All-weaker, Node, spelled, Entry}
use Rattle.rk_inv_base.proofs.Words.{FIRST_SIDE_SEGMENT, cut_push, cut, has_room, in_last, with_bytes, Log, bytes_of, committed}
use Rattle.rk_inv_base.proofs.Words.{is_side_stored, known_of, with_entry, Body, Written, Mark, IsFirstPart, IsFromLog, IsLog, LogSays}
use Rattle.rk_inv_base.proofs.Words.{Logs, is_main, segments_in, stored_of, put, View, LogsOf, committed_entry}
use Rattle.rk_inv_tablets.proofs.Words.{last_of, put_by, put_here, put_other, copy_grown, first_part_more, piece_grown, Grows, bytes_main}
use Rattle.rk_inv_tablets.proofs.Words.{bytes_side, bytes_zero, first_part_same, with_bytes_front, with_bytes_full, with_entries}
use Rattle.rk_inv_tablets.proofs.Words.{with_piece}
use Rattle.rk_types.specs.declared.node.Node.TheVariants as nodes
use Rattle.rk_message.specs.declared.message.Body.TheVariants as bodies

-- ---- one more entry, if the main segments then are few

-- segments with more bytes are no fewer
with_bytes_more : (segments : List (List ℕ)) (bytes : List ℕ) → length segments ≤ length (with_bytes segments bytes)
with_bytes_more segments bytes = grind (arith, cond_both, has_room, in_last, length-set, last_of, length-append)

module _ (log : Log) (entry : Entry) (few : length (cut (log.entries ++ entry ∷ [])) < FIRST_SIDE_SEGMENT) where
  abbrev more : Log
  more = with_entry log entry

  -- so they were few
  was_few : length (cut log.entries) < FIRST_SIDE_SEGMENT
  was_few = omega (arith, few, ap length (cut_push [] log.entries entry), with_bytes_more (cut log.entries) (spelled entry))

  grown_side : (number : ℕ) → FIRST_SIDE_SEGMENT ≤ number → bytes_of more number ≡ bytes_of log number
  grown_side number side = bytes_side more number few side ∙ sym (bytes_side log number was_few side)

  grown_main : (number : ℕ) → 1 ≤ number → number < FIRST_SIDE_SEGMENT → bytes_of more number ≡ get_or (with_bytes (cut log.entries) (spelled entry)) (number - 1) []
  grown_main number some less =
      bytes_main more number some less ∙ ap (λ (s : List (List ℕ)). get_or s (number - 1) []) (cut_push [] log.entries entry)

  grown_zero : (number : ℕ) → number < 1 → bytes_of more number ≡ bytes_of log number
  grown_zero number less = bytes_zero more number less ∙ sym (bytes_zero log number less)

  grown_front : (number : ℕ) → IsFirstPart (bytes_of log number) (bytes_of more number)
  grown_front number =
      grind (arith, first_part_same, bytes_of, grown_zero, bytes_main, grown_main, with_bytes_front, cut, spelled, cases_lt, grown_side)

  -- a main segment that has bytes is one of those that were cut
  within_cut : (later : ℕ) → 1 ≤ later → later < FIRST_SIDE_SEGMENT → bytes_of log later ≢ [] → later - 1 < length (cut log.entries)
  within_cut later some less filled = grind (arith, cut, bytes_main, get_or_past, cases_lt)

  grown_full : (earlier later : ℕ) → earlier < later → is_main earlier ≡ is_main later → bytes_of log later ≢ [] → bytes_of more earlier ≡ bytes_of log earlier
  grown_full earlier later before sort filled =
      grind (arith, grown_zero, ltb-true, lt-ltb, cut, within_cut, grown_main, with_bytes_full, spelled, bytes_main, cases_lt, grown_side)

  -- and the log grew
  pub grows_one : Grows log (with_entry log entry)
  grows_one = record { front = grown_front; full = grown_full }

-- ---- more entries

-- a log that grew, and grew again, grew
pub grows_then : (old mid new : Log) → Grows old mid → Grows mid new → Grows old new
grows_then old mid new first next = record {
  front = λ n. first_part_more (bytes_of old n) (bytes_of mid n) (bytes_of new n) (first.front n) (next.front n);
  full = λ earlier later before sort filled.
      next.full earlier later before sort (λ none. filled (nothing (bytes_of old later) (first.front later).more (sym (first.front later).parts ∙ none)))
      ∙ first.full earlier later before sort filled;
}
  where
    nothing : (bytes more : List ℕ) → bytes ++ more ≡ [] → bytes ≡ []
    nothing [] more none = refl
    nothing (b ∷ bytes) more none = absurd (cc none)

-- fewer entries have no more main segments
cut_less : (list more : List Entry) → length (cut list) ≤ length (cut (list ++ more))
cut_less list [] = subst (λ (all : List Entry). length (cut list) ≤ length (cut all)) (sym (append-nil list)) (omega arith)
cut_less list (entry ∷ more) = grind (arith, with_bytes_more, cut, spelled, cut_push, append_assoc, (cut_less (list ++ entry ∷ []) more))

-- so a log with more entries grew, if its main segments then are few
pub grows_more : (log : Log) (list : List Entry) → length (cut (log.entries ++ list)) < FIRST_SIDE_SEGMENT → Grows log (with_entries log list)
grows_more log [] few = grind (arith, append-nil, first_part_same, bytes_of, log.entries)
grows_more log (entry ∷ list) few =
    let same : (log.entries ++ entry ∷ []) ++ list ≡ log.entries ++ (entry ∷ list) = append_assoc log.entries (entry ∷ []) list in
    let left : length (cut ((log.entries ++ entry ∷ []) ++ list)) < FIRST_SIDE_SEGMENT =
    rw same few in
    let first : Grows log (with_entry log entry) =
    grows_one log entry (omega (arith, left, cut_less (log.entries ++ entry ∷ []) list)) in
    subst (Grows log) (λ i. record log { entries = same i })
    (grows_then log (with_entry log entry) (with_entries (with_entry log entry) list) first (grows_more (with_entry log entry) list left))

-- no fewer of a log's entries are committed
committed_more : (log : Log) (list : List Entry) → committed log ≤ committed (with_entries log list)
committed_more log [] = subst (λ (all : Log). committed log ≤ committed all) (λ i. record log { entries = sym (append-nil log.entries) i }) (omega arith)
committed_more log (entry ∷ list) =
    grind (arith, committed_entry, with_entry, committed, append_assoc, log.entries, (committed_more (with_entry log entry) list))

-- every backup is known to hold the side segments that these entries name
abbrev pub AreStored : Log → List Entry → Type 0
AreStored log list = All (λ entry. All (λ segment. is_side_stored log segment ≡ true) (segments_in entry)) list

-- a piece may be at the end of a log: its main segments are few then, and the piece names only side segments that are stored
pub record MayStand (log : Log) (written : Written) (list : List Entry) (mark : Mark) : Type 0 where
  pub few : length (cut (log.entries ++ list)) < FIRST_SIDE_SEGMENT
  pub held : AreStored log list
  pub past : mark.past ≤ length (written.entries ++ list)

-- a log with such a piece at its end
pub log_piece : (log : Log) (written : Written) (stored : ℕ → ℕ → List ℕ) (list : List Entry) (mark : Mark) → MayStand log written list mark → IsLog log written stored → IsLog (with_entries log list) (with_piece written list mark) stored
log_piece log written stored list mark may old = record {
  entries_are = ap (λ (all : List Entry). all ++ list) old.entries_are;
  held = omega (arith, old.held, committed_more log list);
  copies = λ backup numbered.
      copy_grown log (with_entries log list) (stored backup) (known_of log backup) (grows_more log list may.few)
      (old.copies backup (record { first = numbered.first; last = numbered.last }));
  spelled = old.spelled;
  named = All-append (λ entry. All (λ segment. is_side_stored log segment ≡ true) (segments_in entry)) written.entries list old.named may.held;
  marked =
      All-push (λ (m : Mark). m.past ≤ length (written.entries ++ list)) written.marks mark
      (All-weaker (λ (m : Mark). m.past ≤ length written.entries) (λ (m : Mark). m.past ≤ length (written.entries ++ list))
      (λ m within. omega (arith, within, length-append written.entries list)) written.marks old.marked) may.past;
}

module _ (v : View) (master : ℕ) (list : List Entry) (mark : Mark) (may : MayStand (v.logs master) (v.written master) list mark) where
  -- the logs with the piece at one master
  abbrev logs : ℕ → Log
  logs = put v.logs master (with_entries (v.logs master) list)

  -- a message says of a log that grew what it said
  says_more : (from to : Node) (body : Body) → LogSays v.logs v.stored from to body → LogSays logs v.stored from to body
  says_more (nodes.Master q) (nodes.Backup backup) (bodies.Append append) piece =
      put_by v.logs master (λ log. with_entries log list) (λ log. IsFromLog log (known_of log backup) append) q
      (λ here.
      rw here (piece_grown (v.logs master) (with_entries (v.logs master) list) (known_of (v.logs master) backup) append
      (grows_more (v.logs master) list may.few)
      (rw (← here) piece)))
      (λ apart. piece)
  says_more _ _ _ says = says

  pub logs_more : LogsOf v → Logs logs (put v.written master (with_piece (v.written master) list mark)) v.stored v.wire
  logs_more old = record {
    each = λ q.
        ⊎_elim
        (λ (here : q ≡ master).
        rw (
          here,
          put_here v.logs master (with_entries (v.logs master) list) master refl,
          put_here v.written master (with_piece (v.written master) list mark) master refl,
        )
        (log_piece (v.logs master) (v.written master) (stored_of v.stored master) list mark may (old.each master)))
        (λ (apart : q ≡ master → ⊥).
        rw (
          put_other v.logs master (with_entries (v.logs master) list) q apart,
          put_other v.written master (with_piece (v.written master) list mark) q apart,
        ) (old.each q))
        (cases_eq q master);
    sent = λ n m found. says_more m.from m.to m.body (old.sent n m found);
  }
