-- The merged history is merged from its journals, and nothing else is.
use Rattle.std.proofs.Common.{◌≡◌, ◌≢◌, ℕ, ◌+◌, ◌<◌, ◌≤◌, Bool, true, false, cond, eqb, List, [], ◌∷◌, ◌++◌, zero, suc, refl, sym, ap, ◌∙◌, ⊎_elim, arith, add-zero}
use Rattle.std.proofs.lemmas.Bool.{cases_Bool, eqb-true, eq-eqb, ne_eqb}
use Rattle.std.proofs.lemmas.List.{append-nil, map-append}
use Rattle.std.proofs.lemmas.List.Elements.{All-nil, All-cons, All-head, All-tail, All-append, All-weaker, filter-append}
use Rattle.std.specs.Prelude.{All, map, filter}
use Rattle.rk_types.specs.declared.history.Placed.{Placed}
use Rattle.rk_model.specs.declared.line.Line.{Line}
use Rattle.rk_model.specs.Merged.{is_kept, is_before, lines_of, lines_from, put_in_order, in_order, merged, journal_of, records_of, records_in, IsInOrder, IsMergedFrom, IsRisingAbove}
use Rattle.rk_model.proofs.Order.{before_by_stamp, before-transitive, before-either}
use Rattle.rk_model.proofs.Appended.{All-put_in_order, All-in_order}

-- a line comes before another if they are of one lane
abbrev pub Precedes : Line → Line → Type 0
Precedes a b = a.lane ≡ b.lane → is_before a b ≡ true

-- the lines of each lane are in order
abbrev pub IsOrderedByLane : List Line → Type 0
IsOrderedByLane [] = Unit {0}
IsOrderedByLane (line ∷ lines) = All (Precedes line) lines × IsOrderedByLane lines

-- of two lines that are not in order the lanes differ
lanes_differ : (a b : Line) → Precedes a b → is_before a b ≡ false → a.lane ≢ b.lane
lanes_differ a b precedes second same = let first : is_before a b ≡ true = precedes same in absurd (cc)

-- a line put into lines in order leaves them in order
put_keeps_order :
    (line : Line) (lines : List Line) → All (Precedes line) lines → IsInOrder lines → IsInOrder (put_in_order line lines)
put_keeps_order line [] precedes ordered = (All-nil (λ later. is_before line later ≡ true), tt)
put_keeps_order line (first ∷ lines) precedes ordered =
    ⊎_elim
    (λ (before : is_before line first ≡ true).
    rw before (
      All-cons (λ (later : Line). is_before line later ≡ true) first lines before
          (All-weaker (λ (later : Line). is_before first later ≡ true) (λ (later : Line). is_before line later ≡ true)
          (λ later then'. before-transitive line first later before then') lines ordered.0),
      ordered,
    ))
    (λ (after : is_before line first ≡ false).
    let here : is_before first line ≡ true =
    before-either line first (lanes_differ line first (All-head (Precedes line) first lines precedes) after) after in
    rw after (
      All-put_in_order (λ (later : Line). is_before first later ≡ true) line lines here ordered.0,
      put_keeps_order line lines (All-tail (Precedes line) first lines precedes) ordered.1,
    ))
    (cases_Bool (is_before line first))

-- lines of which each lane's are in order come into order
in_order-IsInOrder : (lines : List Line) → IsOrderedByLane lines → IsInOrder (in_order lines)
in_order-IsInOrder [] by_lane = tt
in_order-IsInOrder (line ∷ lines) by_lane =
    put_keeps_order line (in_order lines) (All-in_order (Precedes line) lines by_lane.0) (in_order-IsInOrder lines by_lane.1)

-- a line of another lane does not show among the lines of a lane
put_other :
    (lane : ℕ) (line : Line) (lines : List Line)
    → eqb line.lane lane ≡ false
    → filter (λ l. eqb l.lane lane) (put_in_order line lines) ≡ filter (λ l. eqb l.lane lane) lines
put_other lane line [] other = rw other
put_other lane line (first ∷ lines) other =
    let own : Line → Bool = λ (l : Line). eqb l.lane lane in
    ⊎_elim
    (λ (before : is_before line first ≡ true). rw (before, other))
    (λ (after : is_before line first ≡ false).
    rw after (ap (λ rest. cond (own first) (first ∷ rest) rest) (put_other lane line lines other)))
    (cases_Bool (is_before line first))

-- and a line of that lane comes first among them, if it precedes them
put_own :
    (lane : ℕ) (line : Line) (lines : List Line)
    → eqb line.lane lane ≡ true → All (Precedes line) lines
    → filter (λ l. eqb l.lane lane) (put_in_order line lines) ≡ line ∷ filter (λ l. eqb l.lane lane) lines
put_own lane line [] own precedes = rw own
put_own lane line (first ∷ lines) own precedes =
    ⊎_elim
    (λ (before : is_before line first ≡ true). rw (before, own))
    (λ (after : is_before line first ≡ false).
    let apart = lanes_differ line first (All-head (Precedes line) first lines precedes) after in
    let other : eqb first.lane lane ≡ false =
    ne_eqb first.lane lane (λ same. apart (eqb-true line.lane lane own ∙ sym same)) in
    rw (after, other) (put_own lane line lines own (All-tail (Precedes line) first lines precedes)))
    (cases_Bool (is_before line first))

-- the lines of each lane stay as they are when all lines come into order
filter-in_order :
    (lane : ℕ) (lines : List Line) → IsOrderedByLane lines
    → filter (λ l. eqb l.lane lane) (in_order lines) ≡ filter (λ l. eqb l.lane lane) lines
filter-in_order lane [] by_lane = refl
filter-in_order lane (line ∷ lines) by_lane =
    let rest = filter-in_order lane lines by_lane.1 in
    ⊎_elim
    (λ (own : eqb line.lane lane ≡ true).
    rw own
    (put_own lane line (in_order lines) own (All-in_order (Precedes line) lines by_lane.0)
    ∙ ap (λ others. line ∷ others) rest))
    (λ (other : eqb line.lane lane ≡ false). rw other (put_other lane line (in_order lines) other ∙ rest))
    (cases_Bool (eqb line.lane lane))

-- the line of a lane's record
abbrev pub line_of : ℕ → Placed → Line
line_of lane placed = record { lane = lane; placed = placed }

-- lines of one lane whose stamps are above this one, in order
record IsRisingIn (lane stamp : ℕ) (lines : List Line) : Type 0 where
  by_lane : IsOrderedByLane lines
  above : All (λ line. (line.lane ≡ lane) × (stamp < line.placed.stamp)) lines

-- a lower bound on the stamps serves too
rising_weaker : (lane low high : ℕ) (lines : List Line) → low ≤ high → IsRisingIn lane high lines → IsRisingIn lane low lines
rising_weaker lane low high lines below rising = grind (arith, rising.by_lane, rising.above)

-- a first line with a stamp below those of the others
rising_cons :
    (lane stamp : ℕ) (placed : Placed) (lines : List Line)
    → stamp < placed.stamp → IsRisingIn lane placed.stamp lines → IsRisingIn lane stamp (line_of lane placed ∷ lines)
rising_cons lane stamp placed lines above rising =
    let lower = rising_weaker lane stamp placed.stamp lines (omega arith) rising in
    record {
      by_lane = (
        All-weaker (λ (line : Line). (line.lane ≡ lane) × (placed.stamp < line.placed.stamp))
            (Precedes (line_of lane placed))
            (λ line after same. before_by_stamp (line_of lane placed) line after.1) lines rising.above,
        rising.by_lane,
      );
      above =
          All-cons (λ (line : Line). (line.lane ≡ lane) × (stamp < line.placed.stamp)) (line_of lane placed) lines
          (refl, above) lower.above;
    }

-- the lines of a journal whose stamps rise
lines_of-rising :
    (lane stamp : ℕ) (journal : List Placed) → IsRisingAbove stamp journal → IsRisingIn lane stamp (lines_of lane journal)
lines_of-rising lane stamp [] rising = record {
  by_lane = tt;
  above = All-nil (λ (line : Line). (line.lane ≡ lane) × (stamp < line.placed.stamp));
}
lines_of-rising lane stamp (placed ∷ journal) rising =
    let rest = lines_of-rising lane placed.stamp journal rising.1 in
    ⊎_elim
    (λ (kept : is_kept placed ≡ true). rw kept (rising_cons lane stamp placed (lines_of lane journal) rising.0 rest))
    (λ (unkept : is_kept placed ≡ false).
    rw unkept (rising_weaker lane stamp placed.stamp (lines_of lane journal) (omega (arith, rising.0)) rest))
    (cases_Bool (is_kept placed))

-- two lists of lines in order by lane, of which no line of the first has a lane of the second
by_lane-append :
    (front back : List Line)
    → IsOrderedByLane front → IsOrderedByLane back → All (λ line. All (Precedes line) back) front
    → IsOrderedByLane (front ++ back)
by_lane-append [] back front_ordered back_ordered apart = back_ordered
by_lane-append (line ∷ front) back front_ordered back_ordered apart = (
  All-append (Precedes line) front back front_ordered.0 (All-head (λ (l : Line). All (Precedes l) back) line front apart),
  by_lane-append front back front_ordered.1 back_ordered (All-tail (λ (l : Line). All (Precedes l) back) line front apart),
)

-- the lines of journals, the first of this lane, are of this lane and later ones
lines_from-lanes :
    (first : ℕ) (journals : List (List Placed))
    → ((lane : ℕ) → IsRisingAbove 0 (journal_of journals lane)) → All (λ line. first ≤ line.lane) (lines_from first journals)
lines_from-lanes first [] rising = All-nil (λ (line : Line). first ≤ line.lane)
lines_from-lanes first (journal ∷ journals) rising =
    let here = lines_of-rising first 0 journal (rising 0) in
    All-append (λ (line : Line). first ≤ line.lane) (lines_of first journal) (lines_from (first + 1) journals)
    (All-weaker (λ (line : Line). (line.lane ≡ first) × (0 < line.placed.stamp)) (λ (line : Line). first ≤ line.lane)
    (λ line above. omega (arith, above.0)) (lines_of first journal) here.above)
    (All-weaker (λ (line : Line). first + 1 ≤ line.lane) (λ (line : Line). first ≤ line.lane)
    (λ line above. omega arith) (lines_from (first + 1) journals)
    (lines_from-lanes (first + 1) journals (λ lane. rising (suc lane))))

-- the lines of journals whose stamps rise are in order by lane
lines_from-ordered :
    (first : ℕ) (journals : List (List Placed))
    → ((lane : ℕ) → IsRisingAbove 0 (journal_of journals lane)) → IsOrderedByLane (lines_from first journals)
lines_from-ordered first [] rising = tt
lines_from-ordered first (journal ∷ journals) rising =
    let here = lines_of-rising first 0 journal (rising 0) in
    let later = lines_from-lanes (first + 1) journals (λ lane. rising (suc lane)) in
    by_lane-append (lines_of first journal) (lines_from (first + 1) journals) here.by_lane
    (lines_from-ordered (first + 1) journals (λ lane. rising (suc lane)))
    (All-weaker (λ (line : Line). (line.lane ≡ first) × (0 < line.placed.stamp))
    (λ (line : Line). All (Precedes line) (lines_from (first + 1) journals))
    (λ (line : Line) own.
    All-weaker (λ (other : Line). first + 1 ≤ other.lane) (Precedes line)
    (λ (other : Line) above same. absurd (omega (arith, own.0))) (lines_from (first + 1) journals) later)
    (lines_of first journal) here.above)

-- the records of a lane, of two lists of lines
records_in-append :
    (lane : ℕ) (front back : List Line) → records_in lane (front ++ back) ≡ records_in lane front ++ records_in lane back
records_in-append lane front back =
    ap records_of (filter-append (λ (line : Line). eqb line.lane lane) front back)
    ∙ map-append (λ (line : Line). line.placed) (filter (λ (line : Line). eqb line.lane lane) front)
    (filter (λ (line : Line). eqb line.lane lane) back)

-- the records of a lane among its own lines are those records
records_in-own :
    (lane : ℕ) (records : List Placed) → records_in lane (map (λ placed. line_of lane placed) records) ≡ records
records_in-own lane [] = refl
records_in-own lane (placed ∷ records) =
    rw (eq-eqb lane lane refl) (ap (λ rest. placed ∷ rest) (records_in-own lane records))

-- and among the lines of another lane there are none
records_in-other :
    (lane other : ℕ) (records : List Placed)
    → other ≢ lane → records_in lane (map (λ placed. line_of other placed) records) ≡ []
records_in-other lane other [] apart = refl
records_in-other lane other (placed ∷ records) apart =
    rw (ne_eqb other lane apart) (records_in-other lane other records apart)

-- among the lines of later lanes there are none
records_in-later :
    (lane first : ℕ) (journals : List (List Placed)) → lane < first → records_in lane (lines_from first journals) ≡ []
records_in-later lane first [] later = refl
records_in-later lane first (journal ∷ journals) later =
    let here = records_in-other lane first (filter is_kept journal) (λ same. absurd (omega arith)) in
    let rest = records_in-later lane (first + 1) journals (omega arith) in
    records_in-append lane (lines_of first journal) (lines_from (first + 1) journals)
    ∙ ap (λ front. front ++ records_in lane (lines_from (first + 1) journals)) here ∙ rest

-- the records of a lane among the lines of journals are those of its journal that are kept
records_in-lines_from :
    (first lane : ℕ) (journals : List (List Placed))
    → records_in (first + lane) (lines_from first journals) ≡ filter is_kept (journal_of journals lane)
records_in-lines_from first lane [] = refl
records_in-lines_from first zero (journal ∷ journals) =
    let rest = records_in-later first (first + 1) journals (omega arith) in
    rw (add-zero first)
    (records_in-append first (lines_of first journal) (lines_from (first + 1) journals)
    ∙ ap (λ front. front ++ records_in first (lines_from (first + 1) journals)) (records_in-own first (filter is_kept journal))
    ∙ ap (λ back. filter is_kept journal ++ back) rest
    ∙ append-nil (filter is_kept journal))
records_in-lines_from first (suc lane) (journal ∷ journals) =
    let moved : first + 1 + lane ≡ first + suc lane = omega arith in
    let here = records_in-other (first + suc lane) first (filter is_kept journal) (λ same. absurd (omega arith)) in
    records_in-append (first + suc lane) (lines_of first journal) (lines_from (first + 1) journals)
    ∙ ap (λ front. front ++ records_in (first + suc lane) (lines_from (first + 1) journals)) here
    ∙ ap (λ l. records_in l (lines_from (first + 1) journals)) (sym moved)
    ∙ records_in-lines_from (first + 1) lane journals

-- the merged history is merged from its journals, if their stamps rise
pub merged-IsMergedFrom :
    (journals : List (List Placed))
    → ((lane : ℕ) → IsRisingAbove 0 (journal_of journals lane)) → IsMergedFrom journals (merged journals)
merged-IsMergedFrom journals rising =
    let by_lane = lines_from-ordered 0 journals rising in
    record {
      ordered = in_order-IsInOrder (lines_from 0 journals) by_lane;
      complete = λ lane.
          let same : 0 + lane ≡ lane = omega arith in
          let records = records_in-lines_from 0 lane journals in
          ap records_of (filter-in_order lane (lines_from 0 journals) by_lane) ∙ rw same at records;
    }
