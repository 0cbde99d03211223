-- A record with the latest stamp, appended to a lane's journal, is at the end of the merged history.
use Rattle.std.proofs.Common.{◌≡◌, ℕ, ◌+◌, ◌<◌, true, false, cond, List, [], ◌∷◌, ◌++◌, length, zero, suc, refl, sym, ap, ◌∙◌, arith, append_assoc, add-zero}
use Rattle.std.proofs.lemmas.List.{append-nil}
use Rattle.std.proofs.lemmas.Bool.{cond-true, cond-false}
use Rattle.std.proofs.lemmas.List.Elements.{All-push, All-weaker, All-cons, All-head, All-tail, All-nil, All-append, All-filter, All-map, filter-append}
use Rattle.std.specs.Prelude.{All, map, filter}
use Rattle.rk_types.specs.declared.history.Placed.{Placed}
use Rattle.rk_model.specs.declared.line.Line.{Line}
use Rattle.rk_model.specs.Merged.{is_before, is_kept, lines_of, lines_from, put_in_order, in_order, merged, journal_of, IsLatest, IsRisingAbove, appended}
use Rattle.rk_model.proofs.Places.{each_appended}
use Rattle.rk_model.proofs.Order.{before_by_stamp, not_before_by_stamp}

-- the stamp of a line is below this one
abbrev pub IsEarlier : ℕ → Line → Type 0
IsEarlier stamp line = line.placed.stamp < stamp

-- what holds of a line and of each of the others holds of each once it is put in
pub All-put_in_order : (P : Line → Type 0) (line : Line) (lines : List Line) → P line → All P lines → All P (put_in_order line lines)
All-put_in_order P line [] here all = All-cons P line [] here all
All-put_in_order P line (first ∷ lines) here all =
    elim (is_before line first)
    as (λ b. All P (cond b (line ∷ first ∷ lines) (first ∷ put_in_order line lines))) [
      | true ↦ All-cons P line (first ∷ lines) here all
      | false ↦
          All-cons P first (put_in_order line lines) (All-head P first lines all)
          (All-put_in_order P line lines here (All-tail P first lines all))
    ]

-- what holds of each line holds of each in order
pub All-in_order : (P : Line → Type 0) (lines : List Line) → All P lines → All P (in_order lines)
All-in_order P [] all = all
All-in_order P (line ∷ lines) all =
    All-put_in_order P line (in_order lines) (All-head P line lines all)
    (All-in_order P lines (All-tail P line lines all))

-- a line later than all others goes to the end
put_last : (last : Line) (lines : List Line) → All (IsEarlier last.placed.stamp) lines → put_in_order last lines ≡ lines ++ last ∷ []
put_last last [] earlier = refl
put_last last (first ∷ lines) earlier =
    cond-false (is_before last first) (last ∷ first ∷ lines) (first ∷ put_in_order last lines)
    (not_before_by_stamp last first (All-head (IsEarlier last.placed.stamp) first lines earlier))
    ∙ ap (λ rest. first ∷ rest) (put_last last lines (All-tail (IsEarlier last.placed.stamp) first lines earlier))

-- a line before the last one goes in before it
put_before_last :
    (line last : Line) (lines : List Line)
    → is_before line last ≡ true → put_in_order line (lines ++ last ∷ []) ≡ put_in_order line lines ++ last ∷ []
put_before_last line last [] before = cond-true (is_before line last) (line ∷ last ∷ []) (last ∷ line ∷ []) before
put_before_last line last (first ∷ lines) before =
    elim (is_before line first)
    as (λ b. cond b (line ∷ first ∷ (lines ++ last ∷ [])) (first ∷ put_in_order line (lines ++ last ∷ []))
    ≡ cond b (line ∷ first ∷ lines) (first ∷ put_in_order line lines) ++ last ∷ [])
    [ true ↦ refl | false ↦ ap (λ rest. first ∷ rest) (put_before_last line last lines before) ]

-- a line later than all others comes last, wherever it was
in_order_last :
    (last : Line) (front back : List Line)
    → All (IsEarlier last.placed.stamp) front → All (IsEarlier last.placed.stamp) back
    → in_order (front ++ last ∷ back) ≡ in_order (front ++ back) ++ last ∷ []
in_order_last last [] back before after =
    put_last last (in_order back) (All-in_order (IsEarlier last.placed.stamp) back after)
in_order_last last (line ∷ front) back before after =
    ap (put_in_order line)
    (in_order_last last front back (All-tail (IsEarlier last.placed.stamp) line front before) after)
    ∙ put_before_last line last (in_order (front ++ back))
    (before_by_stamp line last (All-head (IsEarlier last.placed.stamp) line front before))

-- lines with one more among them, at some place
record IsPutInto (line : Line) (lines more : List Line) : Type 0 where
  front : List Line
  back : List Line
  without : lines ≡ front ++ back
  with' : more ≡ front ++ line ∷ back

-- the lines of a lane with one more record
lines_of_push :
    (lane : ℕ) (journal : List Placed) (placed : Placed)
    → is_kept placed ≡ true
    → lines_of lane (journal ++ placed ∷ []) ≡ lines_of lane journal ++ record { lane = lane; placed = placed } ∷ []
lines_of_push lane [] placed kept =
    ap (map (λ (p : Placed). let line : Line = record { lane = lane; placed = p } in line)) (cond-true (is_kept placed) (placed ∷ []) [] kept)
lines_of_push lane (first ∷ journal) placed kept =
    elim (is_kept first)
    as (λ b. map (λ (p : Placed). let line : Line = record { lane = lane; placed = p } in line)
    (cond b (first ∷ filter is_kept (journal ++ placed ∷ [])) (filter is_kept (journal ++ placed ∷ [])))
    ≡ map (λ (p : Placed). let line : Line = record { lane = lane; placed = p } in line)
    (cond b (first ∷ filter is_kept journal) (filter is_kept journal))
    ++ record { lane = lane; placed = placed } ∷ []) [
      | true ↦ ap (λ rest. record { lane = lane; placed = first } ∷ rest) (lines_of_push lane journal placed kept)
      | false ↦ lines_of_push lane journal placed kept
    ]

-- the lines of journals, the first of this lane, with one more record at the end of a journal
lines_from_appended :
    (first lane : ℕ) (journals : List (List Placed)) (placed : Placed)
    → lane < length journals → is_kept placed ≡ true
    → IsPutInto (record { lane = first + lane; placed = placed }) (lines_from first journals)
    (lines_from first (appended journals lane placed))
lines_from_appended first lane [] placed in_range kept = absurd (omega arith)
lines_from_appended first zero (journal ∷ journals) placed in_range kept = record {
  front = lines_of first journal;
  back = lines_from (first + 1) journals;
  without = refl;
  with' =
      rw (add-zero first)
      (ap (λ lines. lines ++ lines_from (first + 1) journals) (lines_of_push first journal placed kept)
      ∙ append_assoc (lines_of first journal) (record { lane = first; placed = placed } ∷ []) (lines_from (first + 1) journals));
}
lines_from_appended first (suc lane) (journal ∷ journals) placed in_range kept =
    let rest = lines_from_appended (first + 1) lane journals placed (omega arith) kept in
    let moved : first + 1 + lane ≡ first + suc lane = omega arith in
    record {
      front = lines_of first journal ++ rest.front;
      back = rest.back;
      without =
          ap (λ lines. lines_of first journal ++ lines) rest.without
          ∙ sym (append_assoc (lines_of first journal) rest.front rest.back);
      with' =
          rw (← moved)
          (ap (λ lines. lines_of first journal ++ lines) rest.with'
          ∙ sym (append_assoc (lines_of first journal) rest.front (record { lane = first + 1 + lane; placed = placed } ∷ rest.back)));
    }

-- what holds of each journal's records holds of each line's record
All-lines_from :
    (P : Placed → Type 0) (first : ℕ) (journals : List (List Placed))
    → ((lane : ℕ) → All P (journal_of journals lane)) → All (λ line. P line.placed) (lines_from first journals)
All-lines_from P first [] each = All-nil (λ (line : Line). P line.placed)
All-lines_from P first (journal ∷ journals) each =
    All-append (λ (line : Line). P line.placed) (lines_of first journal) (lines_from (first + 1) journals)
    (All-map (λ (line : Line). P line.placed) (λ (p : Placed). let line : Line = record { lane = first; placed = p } in line)
    (filter is_kept journal) (All-filter is_kept P journal (each 0)))
    (All-lines_from P (first + 1) journals (λ lane. each (suc lane)))

-- and of each line's of the merged history
pub All-merged :
    (P : Placed → Type 0) (journals : List (List Placed))
    → ((lane : ℕ) → All P (journal_of journals lane)) → All (λ line. P line.placed) (merged journals)
All-merged P journals each =
    All-in_order (λ (line : Line). P line.placed) (lines_from 0 journals) (All-lines_from P 0 journals each)

-- all lines are earlier than a stamp that is above all stamps of the journals
earlier_lines :
    (stamp first : ℕ) (journals : List (List Placed))
    → IsLatest stamp journals → All (IsEarlier stamp) (lines_from first journals)
earlier_lines stamp first journals latest = All-lines_from (λ (p : Placed). p.stamp < stamp) first journals latest

-- what holds of each of two lists' elements holds of the first list's
all_front : (P : Line → Type 0) (front back : List Line) → All P (front ++ back) → All P front
all_front P [] back all = All-nil P
all_front P (line ∷ front) back all =
    All-cons P line front (All-head P line (front ++ back) all)
    (all_front P front back (All-tail P line (front ++ back) all))

-- and of the second list's
all_back : (P : Line → Type 0) (front back : List Line) → All P (front ++ back) → All P back
all_back P [] back all = all
all_back P (line ∷ front) back all = all_back P front back (All-tail P line (front ++ back) all)

-- a line later than all others, put among them, comes last in order
in_order_put_into :
    (last : Line) (lines more : List Line)
    → All (IsEarlier last.placed.stamp) lines → IsPutInto last lines more → in_order more ≡ in_order lines ++ last ∷ []
in_order_put_into last lines more earlier put =
    let parts : All (IsEarlier last.placed.stamp) (put.front ++ put.back) = rw (← put.without) earlier in
    rw (put.without, put.with')
    (in_order_last last put.front put.back
    (all_front (IsEarlier last.placed.stamp) put.front put.back parts)
    (all_back (IsEarlier last.placed.stamp) put.front put.back parts))

-- a record that is kept and has the latest stamp, at the end of its lane's journal, comes last in the merged history
pub merged_appended :
    (journals : List (List Placed)) (lane : ℕ) (placed : Placed)
    → lane < length journals → IsLatest placed.stamp journals → is_kept placed ≡ true
    → merged (appended journals lane placed) ≡ merged journals ++ record { lane = lane; placed = placed } ∷ []
merged_appended journals lane placed in_range latest kept =
    in_order_put_into (record { lane = lane; placed = placed }) (lines_from 0 journals)
    (lines_from 0 (appended journals lane placed))
    (earlier_lines placed.stamp 0 journals latest)
    (let put = lines_from_appended 0 lane journals placed in_range kept in
    let same : 0 + lane ≡ lane = omega arith in
    rw same at put)

-- a lane's lines do not change with a record that is not kept
lines_of_unkept :
    (lane : ℕ) (journal : List Placed) (placed : Placed)
    → is_kept placed ≡ false → lines_of lane (journal ++ placed ∷ []) ≡ lines_of lane journal
lines_of_unkept lane journal placed unkept =
    ap (map (λ (p : Placed). let line : Line = record { lane = lane; placed = p } in line))
    (filter-append is_kept journal (placed ∷ [])
    ∙ ap (λ rest. filter is_kept journal ++ rest) (cond-false (is_kept placed) (placed ∷ []) [] unkept)
    ∙ append-nil (filter is_kept journal))

-- nor do the lines of all lanes
pub lines_from_unkept :
    (first lane : ℕ) (journals : List (List Placed)) (placed : Placed)
    → is_kept placed ≡ false → lines_from first (appended journals lane placed) ≡ lines_from first journals
lines_from_unkept first lane [] placed unkept = refl
lines_from_unkept first zero (journal ∷ journals) placed unkept =
    ap (λ lines. lines ++ lines_from (first + 1) journals) (lines_of_unkept first journal placed unkept)
lines_from_unkept first (suc lane) (journal ∷ journals) placed unkept =
    ap (λ lines. lines_of first journal ++ lines) (lines_from_unkept (first + 1) lane journals placed unkept)

-- a later stamp is above all stamps of the journals also after the record
pub latest_appended :
    (journals : List (List Placed)) (lane : ℕ) (placed : Placed) (stamp : ℕ)
    → lane < length journals → IsLatest placed.stamp journals → placed.stamp < stamp → IsLatest stamp (appended journals lane placed)
latest_appended journals lane placed stamp in_range latest later =
    let Below : ℕ → Placed → Type 0 = λ (bound : ℕ) (p : Placed). p.stamp < bound in
    let before : IsLatest stamp journals = λ other.
    All-weaker (Below placed.stamp) (Below stamp) (λ (p : Placed) below. omega arith) (journal_of journals other) (latest other) in
    each_appended (λ (other : ℕ) (journal : List Placed). All (Below stamp) journal) journals lane placed in_range before
    (All-push (Below stamp) (journal_of journals lane) placed (before lane) later)

-- a journal whose stamps rise goes on rising with a later record
pub rising_push :
    (stamp : ℕ) (journal : List Placed) (placed : Placed)
    → IsRisingAbove stamp journal → stamp < placed.stamp → All (λ p. p.stamp < placed.stamp) journal
    → IsRisingAbove stamp (journal ++ placed ∷ [])
rising_push stamp [] placed rising above below = (above, tt)
rising_push stamp (first ∷ journal) placed rising above below = (
  rising.0,
  rising_push first.stamp journal placed rising.1
      (All-head (λ (p : Placed). p.stamp < placed.stamp) first journal below)
      (All-tail (λ (p : Placed). p.stamp < placed.stamp) first journal below),
)
