-- Merged histories lane by lane: there is one, and it is legal if the journals are.
use Rattle.std.proofs.Common.{◌<◌, length, ◌≡◌, ◌≢◌, ℕ, true, false, eqb, List, [], ◌∷◌, refl, sym, ap, ◌∙◌, subst, ⊎_elim}
use Rattle.std.proofs.lemmas.Bool.{cases_Bool, cases_eq, eqb-true, eq-eqb, ne_eqb}
use Rattle.std.proofs.lemmas.List.Elements.{All-nil, All-cons, All-head, All-tail, All-weaker, All-filter}
use Rattle.std.specs.Prelude.{All, filter}
use Rattle.rk_types.specs.declared.history.Placed.{Placed}
use Rattle.rk_model.specs.declared.line.Line.{Line}
use Rattle.rk_model.proofs.Histories.{legal_push}
use Rattle.rk_model.proofs.Appended.{merged_appended}
use Rattle.rk_model.specs.Machine.{Entry, Allowed}
use Rattle.std.proofs.lemmas.List.{map-append}
use Rattle.rk_model.specs.History.{IsAllowedIn, Map, map_after, IsLegal, is_at, records_at}
use Rattle.rk_model.specs.Merged.{IsLatest, appended, is_kept, is_before, merged, journal_of, records_of, records_in, IsInOrder, IsMergedFrom, IsRisingAbove, lane_of_key, HasOwnKeys}
use Rattle.rk_model.proofs.Order.{before-asymmetric}
use Rattle.rk_model.proofs.Keys.{is_at_parts, legal_at, legal_from_keys, map_after_by_key}
use Rattle.rk_model.proofs.Between.{legal_kept, map_after_kept}
use Rattle.rk_model.proofs.Merging.{line_of, merged-IsMergedFrom}

-- two lines of one lane and one record are one
same_line : (a b : Line) → a.lane ≡ b.lane → a.placed ≡ b.placed → a ≡ b
same_line a b lanes records = ap (λ lane. line_of lane a.placed) lanes ∙ ap (line_of b.lane) records

-- what holds of each line holds of the first record of a lane
first_of_lane :
    (P : Line → Type 0) (lane : ℕ) (lines : List Line) (placed : Placed) (rest : List Placed)
    → All P lines → records_in lane lines ≡ placed ∷ rest → P (line_of lane placed)
first_of_lane P lane [] placed rest all first = absurd (cc)
first_of_lane P lane (line ∷ lines) placed rest all first =
    ⊎_elim
    (λ (own : eqb line.lane lane ≡ true).
    let first' : line.placed ∷ records_in lane lines ≡ placed ∷ rest = rw own at first in
    let record' : line.placed ≡ placed = cc in
    subst P (same_line line (line_of lane placed) (eqb-true line.lane lane own) record') (All-head P line lines all))
    (λ (other : eqb line.lane lane ≡ false).
    first_of_lane P lane lines placed rest (All-tail P line lines all) (rw other at first))
    (cases_Bool (eqb line.lane lane))

-- the records of a line's own lane begin with its record
own_records : (line : Line) (lines : List Line) → records_in line.lane (line ∷ lines) ≡ line.placed ∷ records_in line.lane lines
own_records line lines = rw (eq-eqb line.lane line.lane refl)

-- the records of another lane go on without it
other_records :
    (lane : ℕ) (line : Line) (lines : List Line) → line.lane ≢ lane → records_in lane (line ∷ lines) ≡ records_in lane lines
other_records lane line lines apart = rw (ne_eqb line.lane lane apart)

-- two histories with one first line, and the same records of a lane, have the same records of it after that line
rest_of_lane :
    (lane : ℕ) (line : Line) (a b : List Line)
    → records_in lane (line ∷ a) ≡ records_in lane (line ∷ b) → records_in lane a ≡ records_in lane b
rest_of_lane lane line a b same =
    ⊎_elim
    (λ (own : eqb line.lane lane ≡ true).
    let both : line.placed ∷ records_in lane a ≡ line.placed ∷ records_in lane b = rw own at same in cc)
    (λ (other : eqb line.lane lane ≡ false). rw other at same)
    (cases_Bool (eqb line.lane lane))

-- of two histories in order, with the same records of each lane, the first lines are of one lane
first_lanes :
    (x y : Line) (a b : List Line)
    → IsInOrder (x ∷ a) → IsInOrder (y ∷ b)
    → ((lane : ℕ) → records_in lane (x ∷ a) ≡ records_in lane (y ∷ b)) → x.lane ≢ y.lane → ⊥
first_lanes x y a b a_ordered b_ordered same apart =
    let in_b : records_in x.lane b ≡ x.placed ∷ records_in x.lane a =
    sym (other_records x.lane y b (λ lanes. apart (sym lanes))) ∙ sym (same x.lane) ∙ own_records x a in
    let in_a : records_in y.lane a ≡ y.placed ∷ records_in y.lane b =
    sym (other_records y.lane x a apart) ∙ same y.lane ∙ own_records y b in
    before-asymmetric x y
    (first_of_lane (λ (later : Line). is_before x later ≡ true) y.lane a y.placed (records_in y.lane b) a_ordered.0 in_a)
    (first_of_lane (λ (later : Line). is_before y later ≡ true) x.lane b x.placed (records_in x.lane a) b_ordered.0 in_b)

-- and so the first lines are one
first_lines :
    (x y : Line) (a b : List Line)
    → IsInOrder (x ∷ a) → IsInOrder (y ∷ b)
    → ((lane : ℕ) → records_in lane (x ∷ a) ≡ records_in lane (y ∷ b)) → x ≡ y
first_lines x y a b a_ordered b_ordered same =
    ⊎_elim
    (λ (lanes : x.lane ≡ y.lane).
    let in_y : records_in y.lane (y ∷ b) ≡ y.placed ∷ records_in y.lane b = own_records y b in
    let in_x : records_in x.lane (x ∷ a) ≡ x.placed ∷ records_in x.lane a = own_records x a in
    let moved : records_in x.lane (y ∷ b) ≡ records_in y.lane (y ∷ b) = ap (λ lane. records_in lane (y ∷ b)) lanes in
    let both : x.placed ∷ records_in x.lane a ≡ y.placed ∷ records_in y.lane b = sym in_x ∙ same x.lane ∙ moved ∙ in_y in
    let records : x.placed ≡ y.placed = cc in
    same_line x y lanes records)
    (λ (apart : x.lane ≢ y.lane). absurd (first_lanes x y a b a_ordered b_ordered same apart))
    (cases_eq x.lane y.lane)

-- two histories in order, with the same records of each lane, are one
same_histories :
    (a b : List Line)
    → IsInOrder a → IsInOrder b → ((lane : ℕ) → records_in lane a ≡ records_in lane b) → a ≡ b
same_histories [] [] a_ordered b_ordered same = refl
same_histories [] (y ∷ b) a_ordered b_ordered same =
    let none : [] ≡ y.placed ∷ records_in y.lane b = same y.lane ∙ own_records y b in absurd (cc)
same_histories (x ∷ a) [] a_ordered b_ordered same =
    let none : [] ≡ x.placed ∷ records_in x.lane a = sym (same x.lane) ∙ own_records x a in absurd (cc)
same_histories (x ∷ a) (y ∷ b) a_ordered b_ordered same =
    let first : x ≡ y = first_lines x y a b a_ordered b_ordered same in
    let rest : a ≡ b =
    same_histories a b a_ordered.1 b_ordered.1
    (λ lane. rest_of_lane lane x a b (same lane ∙ ap (λ line. records_in lane (line ∷ b)) (sym first))) in
    ap (λ line. line ∷ a) first ∙ ap (λ lines. y ∷ lines) rest

-- two histories that are merged from the same journals are one
pub merged_once :
    (journals : List (List Placed)) (a b : List Line) → IsMergedFrom journals a → IsMergedFrom journals b → a ≡ b
merged_once journals a b from_a from_b =
    same_histories a b from_a.ordered from_b.ordered (λ lane. from_a.complete lane ∙ sym (from_b.complete lane))

-- what holds of each record of each lane holds of each line
lines_from_records :
    (P : ℕ → Placed → Type 0) (lines : List Line)
    → ((lane : ℕ) → All (P lane) (records_in lane lines)) → All (λ line. P line.lane line.placed) lines
lines_from_records P [] each = All-nil (λ (line : Line). P line.lane line.placed)
lines_from_records P (line ∷ lines) each =
    let own = subst (All (P line.lane)) (own_records line lines) (each line.lane) in
    All-cons (λ (l : Line). P l.lane l.placed) line lines
    (All-head (P line.lane) line.placed (records_in line.lane lines) own)
    (lines_from_records P lines
    (λ lane.
    ⊎_elim
    (λ (same : line.lane ≡ lane).
    subst (λ (l : ℕ). All (P l) (records_in l lines)) same
    (All-tail (P line.lane) line.placed (records_in line.lane lines) own))
    (λ (apart : line.lane ≢ lane). subst (All (P lane)) (other_records lane line lines apart) (each lane))
    (cases_eq line.lane lane)))

-- if all lines of a key are of one lane, the records of the key are those among the records of that lane
records_at_lane :
    (table : ℕ) (key : List ℕ) (lane : ℕ) (lines : List Line)
    → All (λ line. is_at table key line.placed ≡ true → line.lane ≡ lane) lines
    → records_at table key (records_of lines) ≡ records_at table key (records_in lane lines)
records_at_lane table key lane [] own = refl
records_at_lane table key lane (line ∷ lines) own =
    let OwnLane : Line → Type 0 = λ (l : Line). is_at table key l.placed ≡ true → l.lane ≡ lane in
    let rest = records_at_lane table key lane lines (All-tail OwnLane line lines own) in
    ⊎_elim
    (λ (here : is_at table key line.placed ≡ true).
    let same : line.lane ≡ lane = All-head OwnLane line lines own here in
    rw (eq-eqb line.lane lane same, here) (ap (λ records. line.placed ∷ records) rest))
    (λ (apart : is_at table key line.placed ≡ false).
    ⊎_elim
    (λ (own_lane : eqb line.lane lane ≡ true). rw (own_lane, apart) rest)
    (λ (other : eqb line.lane lane ≡ false). rw (other, apart) rest)
    (cases_Bool (eqb line.lane lane)))
    (cases_Bool (is_at table key line.placed))

-- if each journal has the keys of its own lane, the merged history has of a key what the journal of its lane has
records_at_merged :
    (journals : List (List Placed)) (history : List Line) (table : ℕ) (key : List ℕ)
    → IsMergedFrom journals history → ((lane : ℕ) → HasOwnKeys lane (journal_of journals lane))
    → records_at table key (records_of history)
    ≡ records_at table key (filter is_kept (journal_of journals (lane_of_key key)))
records_at_merged journals history table key from own_keys =
    let OwnLane : ℕ → Placed → Type 0 = λ (lane : ℕ) (placed : Placed). lane_of_key placed.call.key ≡ lane in
    let lanes : All (λ (line : Line). OwnLane line.lane line.placed) history =
    lines_from_records OwnLane history
    (λ lane.
    subst (All (OwnLane lane)) (sym (from.complete lane))
    (All-filter is_kept (OwnLane lane) (journal_of journals lane) (own_keys lane))) in
    let of_key : All (λ (line : Line). is_at table key line.placed ≡ true → line.lane ≡ lane_of_key key) history =
    All-weaker (λ (line : Line). OwnLane line.lane line.placed)
    (λ (line : Line). is_at table key line.placed ≡ true → line.lane ≡ lane_of_key key)
    (λ line own here. sym own ∙ ap lane_of_key (is_at_parts table key line.placed here).1) history lanes in
    records_at_lane table key (lane_of_key key) history of_key
    ∙ ap (records_at table key) (from.complete (lane_of_key key))

-- what is merged from legal journals, each with the keys of its own lane, is legal
pub legal_merged_from :
    (m : Map) (journals : List (List Placed)) (history : List Line)
    → IsMergedFrom journals history
    → ((lane : ℕ) → HasOwnKeys lane (journal_of journals lane)) → ((lane : ℕ) → IsLegal m (journal_of journals lane))
    → IsLegal m (records_of history)
legal_merged_from m journals history from own_keys legal =
    legal_from_keys m (records_of history)
    (λ table key.
    let journal : List Placed = journal_of journals (lane_of_key key) in
    subst (IsLegal m) (sym (records_at_merged journals history table key from own_keys))
    (legal_at m table key (filter is_kept journal) (legal_kept m journal (legal (lane_of_key key)))))

-- and the map after it has at a key what the map after the journal of the key's lane has there
pub map_after_merged_from :
    (m : Map) (journals : List (List Placed)) (history : List Line) (table : ℕ) (key : List ℕ)
    → IsMergedFrom journals history → ((lane : ℕ) → HasOwnKeys lane (journal_of journals lane))
    → map_after m (records_of history) table key ≡ map_after m (journal_of journals (lane_of_key key)) table key
map_after_merged_from m journals history table key from own_keys =
    let journal : List Placed = journal_of journals (lane_of_key key) in
    map_after_by_key m (records_of history) table key
    ∙ ap (λ records. map_after m records table key) (records_at_merged journals history table key from own_keys)
    ∙ sym (map_after_by_key m (filter is_kept journal) table key)
    ∙ ap (λ (n : Map). n table key) (map_after_kept m journal)

-- the merged history of legal journals with rising stamps, each with the keys of its own lane, is legal
pub legal_merged :
    (m : Map) (journals : List (List Placed))
    → ((lane : ℕ) → IsRisingAbove 0 (journal_of journals lane))
    → ((lane : ℕ) → HasOwnKeys lane (journal_of journals lane)) → ((lane : ℕ) → IsLegal m (journal_of journals lane))
    → IsLegal m (records_of (merged journals))
legal_merged m journals rising own_keys legal =
    legal_merged_from m journals (merged journals) (merged-IsMergedFrom journals rising) own_keys legal

-- and the map after it has at a key what the map after the journal of the key's lane has there
pub map_after_merged :
    (m : Map) (journals : List (List Placed)) (table : ℕ) (key : List ℕ)
    → ((lane : ℕ) → IsRisingAbove 0 (journal_of journals lane))
    → ((lane : ℕ) → HasOwnKeys lane (journal_of journals lane))
    → map_after m (records_of (merged journals)) table key ≡ map_after m (journal_of journals (lane_of_key key)) table key
map_after_merged m journals table key rising own_keys =
    map_after_merged_from m journals (merged journals) table key (merged-IsMergedFrom journals rising) own_keys

-- what the map after the journal of a key's lane allows, the map after the merged history allows
pub allowed_merged :
    (m : Map) (journals : List (List Placed)) (placed : Placed)
    → ((lane : ℕ) → IsRisingAbove 0 (journal_of journals lane))
    → ((lane : ℕ) → HasOwnKeys lane (journal_of journals lane))
    → IsAllowedIn (map_after m (journal_of journals (lane_of_key placed.call.key))) placed
    → IsAllowedIn (map_after m (records_of (merged journals))) placed
allowed_merged m journals placed rising own_keys allowed =
    subst (λ (entry : Entry). Allowed entry placed.call.op placed.outcome)
    (sym (map_after_merged m journals placed.call.table placed.call.key rising own_keys)) allowed

-- a legal merged history stays legal with a record of the latest stamp that the map after it allows
pub legal_appended :
    (m : Map) (journals : List (List Placed)) (lane : ℕ) (placed : Placed)
    → lane < length journals → IsLatest placed.stamp journals → is_kept placed ≡ true
    → IsLegal m (records_of (merged journals)) → IsAllowedIn (map_after m (records_of (merged journals))) placed
    → IsLegal m (records_of (merged (appended journals lane placed)))
legal_appended m journals lane placed in_range latest kept legal allowed =
    subst (IsLegal m)
    (sym
    (ap records_of (merged_appended journals lane placed in_range latest kept)
    ∙ map-append (λ (line : Line). line.placed) (merged journals) (line_of lane placed ∷ [])))
    (legal_push m (records_of (merged journals)) placed legal allowed)
