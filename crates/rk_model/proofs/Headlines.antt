-- The laws of legal, merged and ordered histories.
use Rattle.std.specs.Prelude.{◌≡◌, ◌↔◌, ◌<◌, ℕ, List, [], ◌∷◌, ◌++◌, filter, length, true, false, Some, None, All, map}
use Rattle.std.proofs.Common.{sym, ap, ◌∙◌, subst, ◌≢◌, ⊎_elim}
use Rattle.std.proofs.lemmas.Bool.{cases_eq}
use Rattle.rk_types.specs.declared.call.Call.{Call}
use Rattle.rk_types.specs.declared.history.Placed.{Placed}
use Rattle.rk_types.specs.declared.history.Receipt.{Receipt}
use Rattle.rk_model.specs.History.{ChangesNothing, IsAllowedIn, IsLegal, Map, is_at, map_after, records_at, map_with}
use Rattle.rk_model.specs.Merged.{HasOwnKeys, IsLatest, IsMergedFrom, IsRisingAbove, appended, is_kept, journal_of, lane_of_key, merged, records_of, in_order}
use Rattle.rk_model.specs.declared.line.Line.{Line}
use Rattle.rk_model.specs.Ordered.{Caller, IsAnswered, IsOrdered, KeepsNow, told_by, IsNumberedFrom, IsRecorded, IsSettled}
use Rattle.rk_model.proofs.Histories.{IsLegal-append, legal_front, legal_back, map_after-append}
use Rattle.rk_model.proofs.Keys.{legal_at, legal_from_keys, map_with-other, map_after-same}
use Rattle.rk_model.proofs.Between.{legal_apart, agree_with, map_with_nothing}
use Rattle.rk_model.proofs.Appended.{lines_from_unkept}
use Rattle.rk_model.proofs.Places.{all_at}
use Rattle.rk_model.proofs.Answered.{IsSettledLine, settled_if_idle, receipts_asked}

-- Two histories in a row are legal exactly when the first is legal, and the second from the map that the first leaves;
-- and the map after both is the map after the second, from there.
pub joined_histories_are_legal : (m : Map) (front back : List Placed)
    → IsLegal m (front ++ back) ↔ IsLegal m front × IsLegal (map_after m front) back
joined_histories_are_legal m front back =
    (λ legal. (legal_front m front back legal, legal_back m front back legal), λ parts. IsLegal-append m front back parts.0 parts.1)

pub joined_histories_leave_a_map : (m : Map) (front back : List Placed) → map_after m (front ++ back) ≡ map_after (map_after m front) back
joined_histories_leave_a_map = Rattle.rk_model.proofs.Histories.map_after-append

-- A history is legal exactly when the records of each key of each table are, and the map after it has at a key what the
-- map after the records of that key has there. So nothing that happens at one key bears on another.
pub each_key_is_legal_by_itself : (m : Map) (history : List Placed)
    → IsLegal m history ↔ ((table : ℕ) (key : List ℕ) → IsLegal m (records_at table key history))
each_key_is_legal_by_itself m history = (λ legal table key. legal_at m table key history legal, legal_from_keys m history)

pub each_key_is_mapped_by_itself : (m : Map) (history : List Placed) (table : ℕ) (key : List ℕ)
    → map_after m history table key ≡ map_after m (records_at table key history) table key
each_key_is_mapped_by_itself = Rattle.rk_model.proofs.Keys.map_after_by_key

-- A record that is allowed after the first part of a legal history may be put in there if the rest has no record of its
-- key, and such a record may be taken out; the map after changes at its key alone.
pub record_of_another_key_put_in : (m : Map) (front back : List Placed) (placed : Placed) → IsLegal m (front ++ back)
    → IsAllowedIn (map_after m front) placed → records_at placed.call.table placed.call.key back ≡ [] → IsLegal m (front ++ placed ∷ back)
record_of_another_key_put_in m front back placed legal allowed none =
    IsLegal-append m front (placed ∷ back) (legal_front m front back legal) (
      allowed,
      legal_apart placed (map_after m front) (map_with (map_after m front) placed) back
          (agree_with (map_after m front) placed) none (legal_back m front back legal),
    )

pub record_of_another_key_taken_out : (m : Map) (front back : List Placed) (placed : Placed) → IsLegal m (front ++ placed ∷ back)
    → records_at placed.call.table placed.call.key back ≡ [] → IsLegal m (front ++ back)
record_of_another_key_taken_out m front back placed legal none =
    let after = legal_back m front (placed ∷ back) legal in
    IsLegal-append m front back (legal_front m front (placed ∷ back) legal)
    (legal_apart placed (map_with (map_after m front) placed) (map_after m front) back
    (λ table key apart. map_with-other (map_after m front) placed table key apart) none after.1)

pub map_at_another_key_stays : (m : Map) (front back : List Placed) (placed : Placed) (table : ℕ) (key : List ℕ)
    → is_at table key placed ≡ false → map_after m (front ++ placed ∷ back) table key ≡ map_after m (front ++ back) table key
map_at_another_key_stays m front back placed table key apart =
    ap (λ (n : Map). n table key) (map_after-append m front (placed ∷ back))
    ∙ map_after-same (map_with (map_after m front) placed) (map_after m front) back table key
    (map_with-other (map_after m front) placed table key apart)
    ∙ ap (λ (n : Map). n table key) (sym (map_after-append m front back))

-- A record that changes nothing, as a read, may be put in wherever its outcome is allowed, and taken out anywhere; the
-- map after stays. So a legal history without the reads that nobody accepted is legal, and leaves the same map.
pub read_put_in : (m : Map) (front back : List Placed) (read : Placed) → ChangesNothing read → IsLegal m (front ++ back)
    → IsAllowedIn (map_after m front) read → IsLegal m (front ++ read ∷ back)
read_put_in m front back read nothing legal allowed =
    IsLegal-append m front (read ∷ back) (legal_front m front back legal) (
      allowed,
      subst (λ (n : Map). IsLegal n back) (sym (map_with_nothing (map_after m front) read nothing))
          (legal_back m front back legal),
    )

pub read_taken_out : (m : Map) (front back : List Placed) (read : Placed) → ChangesNothing read → IsLegal m (front ++ read ∷ back)
    → IsLegal m (front ++ back)
read_taken_out m front back read nothing legal =
    let after = legal_back m front (read ∷ back) legal in
    IsLegal-append m front back (legal_front m front (read ∷ back) legal)
    (subst (λ (n : Map). IsLegal n back) (map_with_nothing (map_after m front) read nothing) after.1)

pub read_leaves_the_map : (m : Map) (front back : List Placed) (read : Placed) → ChangesNothing read
    → map_after m (front ++ read ∷ back) ≡ map_after m (front ++ back)
read_leaves_the_map m front back read nothing =
    map_after-append m front (read ∷ back)
    ∙ ap (λ (n : Map). map_after n back) (map_with_nothing (map_after m front) read nothing)
    ∙ sym (map_after-append m front back)

pub kept_history_is_legal : (m : Map) (history : List Placed) → IsLegal m history → IsLegal m (filter is_kept history)
kept_history_is_legal = Rattle.rk_model.proofs.Between.legal_kept

pub kept_history_leaves_the_map : (m : Map) (history : List Placed) → map_after m (filter is_kept history) ≡ map_after m history
kept_history_leaves_the_map = Rattle.rk_model.proofs.Between.map_after_kept

-- The merged history of journals whose stamps rise is in the order of stamp and lane, and has of each lane the records
-- of its journal without the reads that nobody accepted; and no other history is so.
pub journals_merge_in_order : (journals : List (List Placed)) → ((lane : ℕ) → IsRisingAbove 0 (journal_of journals lane))
    → IsMergedFrom journals (merged journals)
journals_merge_in_order = Rattle.rk_model.proofs.Merging.merged-IsMergedFrom

pub journals_merge_into_one_history : (journals : List (List Placed)) (a b : List Line) → IsMergedFrom journals a → IsMergedFrom journals b
    → a ≡ b
journals_merge_into_one_history = Rattle.rk_model.proofs.Lanes.merged_once

-- Legal journals whose stamps rise, each with the keys of its own lane alone, merge into a legal history; and the map
-- after it has at a key what the map after the journal of that key's lane has there.
pub legal_journals_merge_into_a_legal_history : (m : Map) (journals : List (List Placed))
    → ((lane : ℕ) → IsRisingAbove 0 (journal_of journals lane)) → ((lane : ℕ) → HasOwnKeys lane (journal_of journals lane))
    → ((lane : ℕ) → IsLegal m (journal_of journals lane)) → IsLegal m (records_of (merged journals))
legal_journals_merge_into_a_legal_history = Rattle.rk_model.proofs.Lanes.legal_merged

pub map_after_the_merged_history : (m : Map) (journals : List (List Placed)) (table : ℕ) (key : List ℕ)
    → ((lane : ℕ) → IsRisingAbove 0 (journal_of journals lane)) → ((lane : ℕ) → HasOwnKeys lane (journal_of journals lane))
    → map_after m (records_of (merged journals)) table key ≡ map_after m (journal_of journals (lane_of_key key)) table key
map_after_the_merged_history = Rattle.rk_model.proofs.Lanes.map_after_merged

-- A record with a stamp above all others, appended to the journal of its lane, is at the end of the merged history,
-- unless it is a read that nobody accepted.
pub latest_record_stands_last : (journals : List (List Placed)) (lane : ℕ) (placed : Placed) → lane < length journals
    → IsLatest placed.stamp journals → is_kept placed ≡ true
    → merged (appended journals lane placed) ≡ merged journals ++ record { lane = lane; placed = placed } ∷ []
latest_record_stands_last = Rattle.rk_model.proofs.Appended.merged_appended

-- A read that nobody accepted, appended to a journal, changes nothing in the merged history.
pub unaccepted_read_is_left_out : (journals : List (List Placed)) (lane : ℕ) (placed : Placed) → is_kept placed ≡ false
    → merged (appended journals lane placed) ≡ merged journals
unaccepted_read_is_left_out journals lane placed unkept = ap in_order (lines_from_unkept 0 lane journals placed unkept)

-- An empty history is ordered with callers that have no receipt.
pub empty_history_is_ordered : (journals : List (List Placed)) (callers : ℕ → Caller) → merged journals ≡ []
    → ((client : ℕ) → (callers client).receipts ≡ []) → IsOrdered journals (merged journals) callers
empty_history_is_ordered = Rattle.rk_model.proofs.Answered.ordered_at_first

-- A history that is ordered with its callers stays so when a caller that has no call outstanding asks one.
pub asking_keeps_order : (journals : List (List Placed)) (history : List Line) (before after : ℕ → Caller) (client : ℕ) (call : Call)
    → IsOrdered journals history before → (before client).outstanding ≡ None
    → KeepsNow before after client (record { receipts = (before client).receipts; outstanding = Some call })
    → IsOrdered journals history after
asking_keeps_order journals history before after client call ordered idle kept =
    let receipts = receipts_asked before after client call kept in
    let settled : IsSettled client history = settled_if_idle journals history before client ordered idle in
    record {
      numbered = λ other. subst (IsNumberedFrom 1) (sym (receipts other)) (ordered.numbered other);
      recorded = λ other. subst (All (IsRecorded journals)) (sym (receipts other)) (ordered.recorded other);
      answered = λ other. ordered.answered other ∙ ap (map told_by) (sym (receipts other));
      once = ordered.once;
      asked = λ place line there unaccepted.
          ⊎_elim
          (λ (same : line.placed.call.client ≡ client).
          let accepted : line.placed.accepted ≡ true = all_at (IsSettledLine client) history place line settled there same in
          absurd (cc))
          (λ (apart : line.placed.call.client ≢ client).
          ap (λ (caller : Caller). caller.outstanding) (kept.others line.placed.call.client apart)
          ∙ ordered.asked place line there unaccepted)
          (cases_eq line.placed.call.client client);
    }

-- A history that is ordered with its callers stays so when the next call of a caller is recorded with a stamp above
-- all others, accepted, and reported to the caller, who then has no call outstanding.
pub told_answer_keeps_order : (journals : List (List Placed)) (before after : ℕ → Caller) (lane : ℕ) (placed : Placed) (receipt : Receipt)
    → IsOrdered journals (merged journals) before → IsAnswered journals before after lane placed receipt
    → IsOrdered (appended journals lane placed) (merged (appended journals lane placed)) after
told_answer_keeps_order = Rattle.rk_model.proofs.Answered.ordered_answered
