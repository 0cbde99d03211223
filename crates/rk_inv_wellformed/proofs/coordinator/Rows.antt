-- Rows of a tablet map that are well formed stay so when one of them takes another term and phase, when one is added and when one is
-- split. They cover then what they covered, and their terms stay below what bounds the old ones and the new.
use Rattle.std.proofs.Common.{◌≡◌, ◌≤◌, ◌<◌, ℕ, w32, Bool, true, false, ◌||◌, cond, ◌==◌, nat_le, nat_lt, List, [], ◌∷◌, All, length}
use Rattle.std.proofs.Common.{Option, None, Some, is_some, refl, sym, ap, subst, ◌∙◌, arith, eqb-true, leb-true, ltb-true, unwrap_or}
use Rattle.rk_inv_wellformed.proofs.Words.{and_parts, All-cons, All-head, All-nil, All-tail, has, Range, IsLawfulRange}
use Rattle.rk_inv_wellformed.proofs.Words.{IsNumber, IsTabletMap, add_fault, is_covered, row_of, Phase, Row, new_row, IsFormedRow}
use Rattle.rk_inv_wellformed.proofs.Words.{named_in, IsFormedMember, Limits, IsMaster, range_below, range_from, number_of, changed_rows}
use Rattle.rk_inv_wellformed.proofs.Words.{split_fault, split_rows, cond_both, All-push, Member, Moving, Opening, Owned, Rebuilding}
use Rattle.rk_inv_wellformed.proofs.Words.{member, eqb-false, or_right, IsNew, covered_split, lawful_placed, lawful_split, lawful_turned}
use Rattle.rk_inv_wellformed.proofs.Words.{lineage_of, cut_fault, divided, is_split, lower_part, meets_any, placed, replaced, upper_part}
use Rattle.std.proofs.Math.Nat.{le_trans}
use Rattle.rk_tablet_map.specs.Rows.{turned}
use Rattle.rk_inv_wellformed.proofs.maps.{all_find, all_front, all_last, by_found, either_way}

-- ---- what all rows have

-- the row that is found is the first, or is found among the rest
pub found_cases : (P : Type 0) (first row : Row) (rest : List Row) (tablet : ℕ) → row_of (first ∷ rest) tablet ≡ Some row → ((first.tablet == tablet) ≡ true → first ≡ row → P) → ((first.tablet == tablet) ≡ false → row_of rest tablet ≡ Some row → P) → P
found_cases P first row rest tablet found here later = grind (arith, row_of)

-- and so the row that is found
pub all_found : (P : Row → Type 0) (row : Row) (tablet : ℕ) (rows : List Row) → row_of rows tablet ≡ Some row → All P rows → P row
all_found P row tablet rows found all = all_find P (λ r. r.tablet == tablet) rows row all found

-- what all rows have, and the new one, all have with the new one in the place of that of its tablet
pub all_replaced : (P : Row → Type 0) (new : Row) (tablet : ℕ) (rows : List Row) → P new → All P rows → All P (replaced tablet new rows)
all_replaced P new tablet [] it all = all
all_replaced P new tablet (first ∷ rest) it all = either_way (All P) (first.tablet == tablet) (All-cons P new rest it (All-tail P first rest all))
    (All-cons P first (replaced tablet new rest) (All-head P first rest all) (all_replaced P new tablet rest it (All-tail P first rest all)))

-- what all rows have, and a new one, all have with the new one placed
pub all_placed : (P : Row → Type 0) (row : Row) (rows : List Row) → P row → All P rows → All P (placed row rows)
all_placed P row [] it all = All-cons P row [] it all
all_placed P row (first ∷ rest) it all = either_way (All P) (nat_le row.tablet first.tablet) (All-cons P row (first ∷ rest) it all)
    (All-cons P first (placed row rest) (All-head P first rest all) (all_placed P row rest it (All-tail P first rest all)))

-- what all have with a new row placed, it has
pub placed_has : (P : Row → Type 0) (row : Row) (rows : List Row) → All P (placed row rows) → P row
placed_has P row [] all = All-head P row [] all
placed_has P row (first ∷ rest) all = either_way (λ (now : List Row). All P now → P row) (nat_le row.tablet first.tablet)
    (λ here. All-head P row (first ∷ rest) here) (λ later. placed_has P row rest (All-tail P first (placed row rest) later)) all

-- what all have with a row in the place of another that is there, that row has
replaced_has : (P : Row → Type 0) (row new : Row) (tablet : ℕ) (rows : List Row) → row_of rows tablet ≡ Some row → All P (replaced tablet new rows) → P new
replaced_has P row new tablet [] found all = absurd (cc found)
replaced_has P row new tablet (first ∷ rest) found all = found_cases _ first row rest tablet found
    (λ is same. All-head P new rest (subst (λ b. All P (cond b (new ∷ rest) (first ∷ replaced tablet new rest))) is all))
    (λ apart later. replaced_has P row new tablet rest later (All-tail P first (replaced tablet new rest)
    (subst (λ b. All P (cond b (new ∷ rest) (first ∷ replaced tablet new rest))) apart all)))

-- ---- which tablets have rows

-- a tablet has a row
abbrev pub IsKnown : List Row → ℕ → Type 0
IsKnown rows tablet = is_some (row_of rows tablet) ≡ true

-- if the first row is that of the tablet, or a later row is
known_by : (first : Row) (rest : List Row) (tablet : ℕ) → ((first.tablet == tablet) ≡ false → IsKnown rest tablet) → IsKnown (first ∷ rest) tablet
known_by first rest tablet later = cond_both _ _ _ (λ (found : Option Row). is_some found ≡ true) (λ is. refl) later

-- a row that is placed is there
pub known_placed : (row : Row) (rows : List Row) → IsKnown (placed row rows) row.tablet
known_placed row [] = known_by row [] row.tablet (λ apart. absurd (eqb-false row.tablet row.tablet apart refl))
known_placed row (first ∷ rest) =
    grind (arith, either_way, nat_le, known_by, eqb-false, placed, row.tablet, first.tablet, (known_placed row rest))

-- a row in the place of another one leaves all tablets known
known_replaced : (new : Row) (tablet : ℕ) (rows : List Row) (other : ℕ) → new.tablet ≡ tablet → IsKnown rows other → IsKnown (replaced tablet new rows) other
known_replaced new tablet [] other same known = known
known_replaced new tablet (first ∷ rest) other same known = cond_both _ _ _ (λ (now : List Row). IsKnown now other)
    (λ is. known_by new rest other (λ apart. behind (ap (λ (n : ℕ). n == other) (eqb-true first.tablet tablet is ∙ sym same) ∙ apart)))
    (λ not_it. known_by first (replaced tablet new rest) other (λ apart. known_replaced new tablet rest other same (behind apart)))
  where
    behind : (first.tablet == other) ≡ false → IsKnown rest other
    behind apart = subst (λ b. is_some (cond b (Some first) (row_of rest other)) ≡ true) apart known

-- ---- what rows cover

-- what these rows cover, the others cover too
abbrev pub Cover : List Row → List Row → Type 0
Cover others rows = (table hash : ℕ) → is_covered rows table hash ≡ true → is_covered others table hash ≡ true

-- a row of the same range in another one's place covers what that one covers
covered_replaced : (row new : Row) (tablet : ℕ) (rows : List Row) (table hash : ℕ) → row_of rows tablet ≡ Some row → new.range ≡ row.range → is_covered (replaced tablet new rows) table hash ≡ is_covered rows table hash
covered_replaced row new tablet [] table hash found range = refl
covered_replaced row new tablet (first ∷ rest) table hash found range = found_cases _ first row rest tablet found
    (λ is same. rw is (ap (λ r. has r table hash || is_covered rest table hash) (range ∙ ap (λ (r : Row). r.range) (sym same))))
    (λ apart later. rw apart (ap (λ b. has first.range table hash || b)
    (covered_replaced row new tablet rest table hash later range)))

-- a disjunction still holds once its right side is replaced by what follows from it
or_later : (a b c : Bool) → (a || b) ≡ true → (b ≡ true → c ≡ true) → (a || c) ≡ true
or_later true b c is later = refl
or_later false b c is later = later is

-- what is covered is covered with another row too
pub covered_placed : (row : Row) (rows : List Row) → Cover (placed row rows) rows
covered_placed row [] table hash covered = absurd (cc covered)
covered_placed row (first ∷ rest) table hash covered =
    either_way (λ (now : List Row). is_covered now table hash ≡ true) (nat_le row.tablet first.tablet)
    (or_right (has row.range table hash) (is_covered (first ∷ rest) table hash) covered)
    (or_later (has first.range table hash) (is_covered rest table hash) (is_covered (placed row rest) table hash) covered
    (covered_placed row rest table hash))

-- ---- rows that are well formed

-- a phase whose masters are there, and whose lineage has at most two members
abbrev pub IsFormedPhase : Limits → Phase → Type 0
IsFormedPhase limits (Owned master from) = IsFormedMember limits (member master from)
IsFormedPhase limits (Opening source sfrom target dfrom) =
    IsFormedMember limits (member source sfrom) × IsFormedMember limits (member target (unwrap_or dfrom 0))
IsFormedPhase limits (Moving source sfrom target dfrom) = IsFormedMember limits (member source sfrom) × IsFormedMember limits (member target dfrom)
IsFormedPhase limits (Rebuilding lineage to) = All (IsFormedMember limits) lineage × IsMaster limits.masters to × (length lineage ≤ 2)

-- rows that are a tablet map, each of them well formed
pub record AreFormedRows (limits : Limits) (rows : List Row) : Type 0 where
  pub map : IsTabletMap rows
  pub each : All (IsFormedRow limits) rows

-- no term of the rows is greater than this number
abbrev pub AreTermsUpTo : ℕ → List Row → Type 0
AreTermsUpTo most rows = All (λ row. row.term ≤ most) rows

-- a number greater than a bound of theirs bounds them too
pub terms_below : (most greater : ℕ) (rows : List Row) → most ≤ greater → AreTermsUpTo most rows → AreTermsUpTo greater rows
terms_below most greater rows less all place other within = le_trans (all place other within) less

-- one member that is there, and two of them
pub one_named : (limits : Limits) (a : Member) → IsFormedMember limits a → All (IsFormedMember limits) (a ∷ [])
one_named limits a it = All-cons (IsFormedMember limits) a [] it (All-nil (IsFormedMember limits))

pub two_named : (limits : Limits) (a b : Member) → IsFormedMember limits a → IsFormedMember limits b → All (IsFormedMember limits) (a ∷ b ∷ [])
two_named limits a b first second = All-cons (IsFormedMember limits) a (b ∷ []) first (one_named limits b second)

both_named : (limits : Limits) (a b : Member) → All (IsFormedMember limits) (a ∷ b ∷ []) → IsFormedMember limits a × IsFormedMember limits b
both_named limits a b all =
    (All-head (IsFormedMember limits) a (b ∷ []) all, All-head (IsFormedMember limits) b [] (All-tail (IsFormedMember limits) a (b ∷ []) all))

-- the phase of a row that is well formed
pub phase_of_formed : {limits : Limits} {row : Row} → IsFormedRow limits row → IsFormedPhase limits row.phase
phase_of_formed {limits} {row} formed = go row.phase formed.named formed.few
  where
    go : (phase : Phase) → All (IsFormedMember limits) (named_in phase) → length (lineage_of phase) ≤ 2 → IsFormedPhase limits phase
    go (Owned master from) named few = All-head (IsFormedMember limits) (member master from) [] named
    go (Opening source sfrom target dfrom) named few = both_named limits (member source sfrom) (member target (unwrap_or dfrom 0)) named
    go (Moving source sfrom target dfrom) named few = both_named limits (member source sfrom) (member target dfrom) named
    go (Rebuilding lineage to) named few = (
      all_front (IsFormedMember limits) lineage (member to 0 ∷ []) named,
      (all_last (IsFormedMember limits) lineage (member to 0) named).master,
      few,
    )

-- and what such a phase names
phase_named : (limits : Limits) (phase : Phase) → IsFormedPhase limits phase → All (IsFormedMember limits) (named_in phase) × (length (lineage_of phase) ≤ 2)
phase_named limits (Owned master from) there = (one_named limits (member master from) there, omega arith)
phase_named limits (Opening source sfrom target dfrom) there = grind (arith, two_named, member, there.0, there.1)
phase_named limits (Moving source sfrom target dfrom) there = grind (arith, two_named, member, there.0, there.1)
phase_named limits (Rebuilding lineage to) there =
    (All-push (IsFormedMember limits) lineage (member to 0) there.0 (record { master = there.1; from = omega arith }), there.2)

-- a row at another term and phase
abbrev pub at_phase : Row → ℕ → Phase → Row
at_phase row term phase = record row { term = term; phase = phase }

-- ---- another term and phase

-- a row that is well formed is at another term, from 1 on, and another phase
pub formed_at_phase : {limits : Limits} {row : Row} {term : ℕ} {phase : Phase} → 1 ≤ term → IsFormedPhase limits phase → IsFormedRow limits row
    → IsFormedRow limits (at_phase row term phase)
formed_at_phase {limits} {phase = phase} first there formed = assumption (phase_named limits phase there)

-- rows of which one takes another term, from 1 on, and another phase
pub formed_changed_rows : {limits : Limits} {rows : List Row} (tablet term : ℕ) (phase : Phase) → 1 ≤ term → IsFormedPhase limits phase → AreFormedRows limits rows → AreFormedRows limits (changed_rows rows tablet term phase)
formed_changed_rows {limits} {rows} tablet term phase first there formed =
    by_found (λ found. AreFormedRows limits (turned found rows tablet term phase)) (row_of rows tablet) (λ none. formed)
    (λ row found.
    let old = all_found (IsFormedRow limits) row tablet rows found formed.each in
    assumption (
      lawful_turned rows tablet row (at_phase row term phase) found refl refl formed.map,
      all_replaced (IsFormedRow limits) (at_phase row term phase) tablet rows (formed_at_phase first there old) formed.each,
    ))

-- they cover what they covered
pub covered_changed : (rows : List Row) (tablet term : ℕ) (phase : Phase) → Cover (changed_rows rows tablet term phase) rows
covered_changed rows tablet term phase = grind (arith, by_found, row_of, covered_replaced)

-- and their terms stay below what bounds the new one too
pub terms_changed : (most : ℕ) (rows : List Row) (tablet term : ℕ) (phase : Phase) → term ≤ most → AreTermsUpTo most rows → AreTermsUpTo most (changed_rows rows tablet term phase)
terms_changed most rows tablet term phase below all =
    by_found (λ found. AreTermsUpTo most (turned found rows tablet term phase)) (row_of rows tablet) (λ none. all)
    (λ row found. all_replaced (λ r. r.term ≤ most) (at_phase row term phase) tablet rows below all)

-- all tablets are known that were
pub known_changed : (rows : List Row) (tablet term : ℕ) (phase : Phase) (other : ℕ) → IsKnown rows other → IsKnown (changed_rows rows tablet term phase) other
known_changed rows tablet term phase other known = grind (arith, by_found, row_of, known_replaced, number_of)

-- if the tablet is known, its new term is among theirs
pub term_changed : (most : ℕ) (rows : List Row) (tablet term : ℕ) (phase : Phase) → IsKnown rows tablet → AreTermsUpTo most (changed_rows rows tablet term phase) → term ≤ most
term_changed most rows tablet term phase known all =
    by_found (λ found. is_some found ≡ true → AreTermsUpTo most (turned found rows tablet term phase) → term ≤ most) (row_of rows tablet)
    (λ none some below. absurd (cc some))
    (λ row found some below. replaced_has (λ r. r.term ≤ most) row (at_phase row term phase) tablet rows found below) known all

-- ---- one more row

-- a row that is not refused is new
pub not_refused : (rows : List Row) (row : Row) → add_fault rows row ≡ None → IsNew row rows
not_refused rows row none = grind (arith, row_of, meets_any)

-- a row that is not refused is added to rows that are well formed
pub formed_placed : {limits : Limits} {row : Row} {rows : List Row} → add_fault rows row ≡ None → IsFormedRow limits row → AreFormedRows limits rows → AreFormedRows limits (placed row rows)
formed_placed {limits} {row} {rows} none new formed =
    assumption (lawful_placed row rows formed.map (not_refused rows row none), all_placed (IsFormedRow limits) row rows new formed.each)

-- the row of a new tablet at a master that is there
pub formed_new_row : (limits : Limits) {tablet : ℕ} {range : Range} {master : ℕ} → IsNumber w32 1 tablet → IsLawfulRange range → IsMaster limits.masters master → IsFormedRow limits (new_row tablet range master)
formed_new_row limits {range} {master} number lawful there = grind arith

-- ---- a row is split

-- the part of a range below a hash that splits it is not empty
pub lawful_below : (range : Range) (at : ℕ) → range.first < at → at ≤ range.last → IsLawfulRange range → IsLawfulRange (range_below range at)
lawful_below range at above within lawful = record { table = lawful.table; first = lawful.first; last = omega (arith, lawful.last) }

-- neither is the part from there on
pub lawful_from : (range : Range) (at : ℕ) → range.first < at → at ≤ range.last → IsLawfulRange range → IsLawfulRange (range_from range at)
lawful_from range at above within lawful =
    record { table = lawful.table; first = omega (arith, lawful.last); last = omega (arith, lawful.last) }

-- what a split that is not refused says: the new number is free, and the hash splits the range
pub record IsFree (rows : List Row) (row : Row) (at new : ℕ) : Type 0 where
  pub unknown : is_some (row_of rows new) ≡ false
  pub above : row.range.first < at
  pub within : at ≤ row.range.last
  pub splits : is_split row.range at ≡ true

-- it says that of the row that is found
pub split_is_free : (rows : List Row) (tablet at new : ℕ) (row : Row) → row_of rows tablet ≡ Some row → split_fault rows tablet at new ≡ None → IsFree rows row at new
split_is_free rows tablet at new row found none = grind (arith, row_of, cut_fault, is_split, and_parts, nat_lt, nat_le, ltb-true, leb-true)

-- rows of which one is split, if that is not refused
pub formed_split_rows : (limits : Limits) (rows : List Row) (tablet at new : ℕ) → IsNumber w32 1 new → split_fault rows tablet at new ≡ None → AreFormedRows limits rows → AreFormedRows limits (split_rows rows tablet at new)
formed_split_rows limits rows tablet at new number none formed =
    by_found (λ found. AreFormedRows limits (divided found rows tablet at new)) (row_of rows tablet) (λ nothing. formed)
    (λ row found.
    let free = split_is_free rows tablet at new row found none in
    let old = all_found (IsFormedRow limits) row tablet rows found formed.each in
    let lower : IsFormedRow limits (lower_part row at) = assumption (lawful_below row.range at free.above free.within old.range, old) in
    let upper : IsFormedRow limits (upper_part row at new) = assumption (lawful_from row.range at free.above free.within old.range, number, old) in
    assumption (
      lawful_split rows tablet at new row found free.unknown free.splits formed.map,
      all_placed (IsFormedRow limits) (upper_part row at new) (replaced tablet (lower_part row at) rows) upper
          (all_replaced (IsFormedRow limits) (lower_part row at) tablet rows lower formed.each),
    ))

-- they cover what they covered
pub covered_split_rows : (rows : List Row) (tablet at new : ℕ) → split_fault rows tablet at new ≡ None → Cover (split_rows rows tablet at new) rows
covered_split_rows rows tablet at new none table hash covered =
    grind (arith, by_found, is_covered, divided, row_of, covered_split, split_is_free)

-- and no term is greater than before
pub terms_split_rows : (most : ℕ) (rows : List Row) (tablet at new : ℕ) → AreTermsUpTo most rows → AreTermsUpTo most (split_rows rows tablet at new)
terms_split_rows most rows tablet at new all =
    by_found (λ found. AreTermsUpTo most (divided found rows tablet at new)) (row_of rows tablet) (λ nothing. all)
    (λ row found.
    let old : row.term ≤ most = all_found (λ r. r.term ≤ most) row tablet rows found all in
    all_placed (λ r. r.term ≤ most) (upper_part row at new) (replaced tablet (lower_part row at) rows) old
    (all_replaced (λ r. r.term ≤ most) (lower_part row at) tablet rows old all))

-- the new tablet has a row
pub known_split : (rows : List Row) (tablet at new : ℕ) → IsKnown rows tablet → IsKnown (split_rows rows tablet at new) new
known_split rows tablet at new known =
    by_found (λ found. is_some found ≡ true → IsKnown (divided found rows tablet at new) new) (row_of rows tablet) (λ none some. absurd (cc some))
    (λ row found some. known_placed (upper_part row at new) (replaced tablet (lower_part row at) rows)) known
