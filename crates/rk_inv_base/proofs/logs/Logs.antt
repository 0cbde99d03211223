-- The part Logs through small changes.
use Rattle.rk_inv_base.proofs.Words.{◌≡◌, ℕ, true, List, [], ◌∷◌, ◌++◌, length, refl, sym, ap, subst, ◌∙◌, arith, append_assoc}
use Rattle.rk_inv_base.proofs.Words.{length-append, ◌≢◌, All, All-nil, All-push, Node, Entry, Known, Log, bytes_of, is_side_stored}
use Rattle.rk_inv_base.proofs.Words.{known_of, with_entry, Body, Append, Written, HasSegmentLeft, IsFirstPart, IsCopy, IsKnownBefore, IsLog}
use Rattle.rk_inv_base.proofs.Words.{IsFromLog, Logs, LogSays, segments_in, stored_of, put, with_one_more, View, LogsOf, committed_entry}
use Rattle.rk_types.specs.declared.node.Node.TheVariants as nodes
use Rattle.rk_message.specs.declared.message.Body.TheVariants as bodies
use Rattle.rk_inv_base.proofs.views.Put.{put_by}
use Rattle.rk_inv_base.proofs.logs.Segments.{Grows, grows_entry}

-- ---- a log grows at its end

-- every backup is known to hold the side segments that an entry names
abbrev pub AreStored : Log → Entry → Type 0
AreStored log entry = All (λ segment. is_side_stored log segment ≡ true) (segments_in entry)

-- as it is if the entry names none
pub none_stored : (log : Log) (entry : Entry) → segments_in entry ≡ [] → AreStored log entry
none_stored log entry none =
    subst (All (λ segment. is_side_stored log segment ≡ true)) (sym none) (All-nil (λ segment. is_side_stored log segment ≡ true))

pub first_part_more : (a b c : List ℕ) → IsFirstPart a b → IsFirstPart b c → IsFirstPart a c
first_part_more a b c first next = grind (arith, append_assoc)

-- bytes behind others are none if all are
pub none_behind : (before bytes behind : List ℕ) → before ++ (bytes ++ behind) ≡ [] → bytes ≡ []
none_behind [] [] behind none = refl
none_behind _ _ behind none = absurd (cc)

-- what is known of the segments before a segment with bytes is known then
pub known_before_grown : (old new : Log) (known : Known) (later : ℕ) → Grows old new → bytes_of old later ≢ [] → IsKnownBefore old known later → IsKnownBefore new known later
known_before_grown old new known later grows filled before segment less sort =
    omega (arith, before segment less sort, ap length (grows.full segment later less sort filled))

pub copy_grown : (old new : Log) (stored : ℕ → List ℕ) (known : Known) → Grows old new → IsCopy old stored known → IsCopy new stored known
copy_grown old new stored known grows copy = record {
  front = λ segment. first_part_more (stored segment) (bytes_of old segment) (bytes_of new segment) (copy.front segment) (grows.front segment);
  in_order = λ segment some.
      known_before_grown old new known segment grows
      (λ none. some (none_behind [] (stored segment) (copy.front segment).more (sym (copy.front segment).parts ∙ none)))
      (copy.in_order segment some);
  told = copy.told;
}

pub piece_grown : (old new : Log) (known : Known) (append : Append) → Grows old new → IsFromLog old known append → IsFromLog new known append
piece_grown old new known append grows piece =
    let more : List ℕ = (grows.front append.segment).more in
    record {
      before = piece.before;
      behind = piece.behind ++ more;
      bytes =
          (grows.front append.segment).parts
          ∙ ap (λ (l : List ℕ). l ++ more) piece.bytes
          ∙ append_assoc piece.before (append.bytes ++ piece.behind) more
          ∙ ap (λ (l : List ℕ). piece.before ++ l) (append_assoc append.bytes piece.behind more);
      place = piece.place;
      in_order = λ some.
          known_before_grown old new known append.segment grows
          (λ none. some (none_behind piece.before append.bytes piece.behind (sym piece.bytes ∙ none)))
          (piece.in_order some);
    }

-- one more entry, which names only side segments that every backup is known to hold
pub log_grown : (log : Log) (written : Written) (stored : ℕ → ℕ → List ℕ) (entry : Entry) → Grows log (with_entry log entry) → AreStored log entry → IsLog log written stored → IsLog (with_entry log entry) (with_one_more written entry) stored
log_grown log written stored entry grows held old = record {
  entries_are = ap (λ (list : List Entry). list ++ entry ∷ []) old.entries_are;
  held = omega (arith, old.held, committed_entry log entry);
  copies = λ backup numbered.
      copy_grown log (with_entry log entry) (stored backup) (known_of log backup) grows
      (old.copies backup (record { first = numbered.first; last = numbered.last }));
  spelled = old.spelled;
  named =
      All-push (λ entry. All (λ segment. is_side_stored log segment ≡ true) (segments_in entry)) written.entries entry old.named held;
  marked = grind (arith, length-append, written.entries, written.marks, old.marked);
}

module _ (v : View) (master : ℕ) (entry : Entry) (few : HasSegmentLeft (v.logs master)) where
  -- the logs with one more entry at one master
  abbrev logs : ℕ → Log
  logs = put v.logs master (with_entry (v.logs master) entry)

  -- a message says of a log that grew what it said
  says_grown : (from to : Node) (body : Body) → LogSays v.logs v.stored from to body → LogSays logs v.stored from to body
  says_grown (nodes.Master q) (nodes.Backup backup) (bodies.Append append) piece =
      put_by v.logs master (λ log. with_entry log entry) (λ log. IsFromLog log (known_of log backup) append) q
      (λ here.
      rw here (piece_grown (v.logs master) (with_entry (v.logs master) entry) (known_of (v.logs master) backup) append
      (grows_entry (v.logs master) entry few)
      (subst (λ (m : ℕ). IsFromLog (v.logs m) (known_of (v.logs m) backup) append) here piece)))
      (λ apart. piece)
  says_grown _ _ _ says = says

  -- one more entry at the end of a master's log, which names only side segments that every backup is known to hold
  pub logs_grown : LogsOf v → AreStored (v.logs master) entry → Logs logs (put v.written master (with_one_more (v.written master) entry)) v.stored v.wire
  logs_grown old held =
      let Grown : Log → Written → ℕ → Type 0 = λ l w q. IsLog l w (stored_of v.stored q) in
      let grown : (q : ℕ) → q ≡ master → Grown (with_entry (v.logs q) entry) (with_one_more (v.written q) entry) q = λ q at.
      rw at (log_grown (v.logs master) (v.written master) (stored_of v.stored master) entry (grows_entry (v.logs master) entry few) held
      (old.each master)) in
      let now : ℕ → Written = put v.written master (with_one_more (v.written master) entry) in
      let more : (l : Log) (q : ℕ) → (q ≡ master → Grown l (with_one_more (v.written q) entry) q) → ((q ≡ master → ⊥) → Grown l (v.written q) q) → Grown l (now q) q = λ l q.
      put_by v.written master (λ w. with_one_more w entry) (λ (w : Written). Grown l w q) q in
      record {
        each = λ q.
            put_by v.logs master (λ l. with_entry l entry) (λ (l : Log). Grown l (now q) q) q
            (λ at. more (with_entry (v.logs q) entry) q (grown q) (λ apart. absurd (apart at)))
            (λ apart. more (v.logs q) q (λ at. absurd (apart at)) (λ _. old.each q));
        sent = λ n m there. says_grown m.from m.to m.body (old.sent n m there);
      }
