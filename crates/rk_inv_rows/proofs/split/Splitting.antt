-- An owned row that is split, with its halves: the rows then, and what masters have of tablets before and after.
use Rattle.std.proofs.Common.{◌≡◌, ℕ, ◌+◌, ◌-◌, ◌<◌, ◌≤◌, Bool, true, false, cond, ◌||◌, ◌&&◌, List, [], ◌∷◌, Some, None, eqb, leb, refl}
use Rattle.std.proofs.Common.{sym, ap, subst, ◌∙◌, ⊎_elim, arith, ◌⊎◌, is_some, nat_le, nat_lt, All, Contains, eq-eqb, ne_eqb, leb-true}
use Rattle.std.proofs.Common.{ltb-true}
use Rattle.rk_inv_base.proofs.Words.{and_parts, cases_Bool, cases_eq, false≢true, nat_tests, or_left, or_right, All-contains, has, meets}
use Rattle.rk_inv_base.proofs.Words.{Ended, Range, Completions, Handover, lawful_turned, IsTabletMap, Precedes, is_covered, is_split}
use Rattle.rk_inv_base.proofs.Words.{lower_part, placed, replaced, row_of, upper_part, Owned, Row, Gather, is_member, is_absent, Pulling}
use Rattle.rk_inv_base.proofs.Words.{Bystander, Owner, Post, Holds, StillCounts, bond_of, View, SoundView}
use Rattle.rk_inv_rows.proofs.Words.{one_precedes, meets_either, IsHalf, as_half, lower_row, rows_halved, upper_row, SoundRow, row_in}
use Rattle.rk_inv_rows.proofs.Words.{known_placed, new_placed, stands_placed, stood_placed, same_number, all_by, covered_turned}
use Rattle.rk_inv_rows.proofs.Words.{known_turned, new_stands, stands_found, stands_still, stood}
use Rattle.rk_inv_base.proofs.rows.BeforeTurn.{at_most}
use Rattle.rk_tablet_map.proofs.Lawful.{covered_split, lawful_split}
use Rattle.rk_inv_rows.proofs.split.HalfOfRow.{meets_whole}

-- an owned row of a sound view that may be split at a hash, with the number of its upper half
pub record Splitting (v : View) : Type 0 where
  pub tablet : ℕ
  pub range : Range
  pub term : ℕ
  pub owner : ℕ
  pub from : ℕ
  pub at : ℕ
  pub new : ℕ
  pub sound : SoundView v
  pub has_row : Contains v.rows (record { tablet = tablet; range = range; term = term; phase = Owned owner from })
  pub free : is_some (row_of v.rows new) ≡ false
  pub splits : is_split range at ≡ true

-- what is the one row or something else is the latter if it has another number
unless_same : {P : Type 0} (x y : Row) → (x.tablet ≡ y.tablet → ⊥) → (x ≡ y) ⊎ P → P
unless_same {P} x y apart = ⊎_elim (λ (same : x ≡ y). absurd (apart (ap (λ (r : Row). r.tablet) same))) (λ (there : P). there)

module _ (v : View) (cut : Splitting v) where
  open cut use {tablet, range, term, owner, from, at, new, sound, has_row, free, splits}

  abbrev pub row : Row
  row = record { tablet = tablet; range = range; term = term; phase = Owned owner from }

  abbrev pub low : Row
  low = lower_row row at

  abbrev pub high : Row
  high = upper_row row at new

  abbrev pub rows' : List Row
  rows' = rows_halved v.rows row at new

  pub map : IsTabletMap v.rows
  map = sound.rows.apart

  pub split_row : SoundRow v row
  split_row = row_in v sound row has_row

  pub in_row : (P : Row → Type 0) → All P v.rows → P row
  in_row P all = All-contains P v.rows row all has_row

  -- ---- the rows, one change after the other

  -- the parts at the row's term
  abbrev first : Row
  first = lower_part row at

  abbrev second : Row
  second = upper_part row at new

  abbrev shrunk : List Row
  shrunk = replaced tablet first v.rows

  abbrev divided : List Row
  divided = placed second shrunk

  abbrev risen : List Row
  risen = replaced tablet low divided

  pub found : row_of v.rows tablet ≡ Some row
  found = stands_found v.rows row map has_row

  -- no row has the new number
  pub unknown_new : (n : ℕ) → is_some (row_of v.rows n) ≡ true → n ≡ new → ⊥
  unknown_new n known is = false≢true (sym free ∙ ap (λ (n : ℕ). is_some (row_of v.rows n)) (sym is) ∙ known)

  pub none_new : (x : Row) → Contains v.rows x → x.tablet ≡ new → ⊥
  none_new x there = unknown_new x.tablet (ap is_some (stands_found v.rows x map there))

  pub new_apart : new ≡ tablet → ⊥
  new_apart is = none_new row has_row (sym is)

  divided_map : IsTabletMap divided
  divided_map = lawful_split v.rows tablet at new row found free splits map

  pub lower_found : row_of divided tablet ≡ Some first
  lower_found = stands_found divided first divided_map (stands_placed second first shrunk (new_stands v.rows tablet row first found))

  risen_map : IsTabletMap risen
  risen_map = lawful_turned divided tablet first low lower_found refl refl divided_map

  pub upper_found : row_of risen new ≡ Some second
  upper_found =
      stands_found risen second risen_map
      (unless_same second first new_apart (stands_still divided tablet first low second lower_found (new_placed second shrunk)))

  pub halved_map : IsTabletMap rows'
  halved_map = lawful_turned risen new second high upper_found refl refl risen_map

  pub high_stands : Contains rows' high
  high_stands = new_stands risen new second high upper_found

  pub low_stands : Contains rows' low
  low_stands =
      unless_same low second (λ same. new_apart (sym same))
      (stands_still risen new second high low upper_found (new_stands divided tablet first low lower_found))

  -- each other row is still there
  pub other_stands : (x : Row) → Contains v.rows x → (x.tablet ≡ tablet → ⊥) → Contains rows' x
  other_stands x there unlike =
      let one : Contains shrunk x = unless_same x row unlike (stands_still v.rows tablet row first x found there) in
      let two : Contains risen x =
      unless_same x first unlike (stands_still divided tablet first low x lower_found (stands_placed second x shrunk one)) in
      unless_same x second (none_new x there) (stands_still risen new second high x upper_found two)

  -- what is there is a half, or was there before
  stood_before : (x : Row) → Contains rows' x → (x.tablet ≡ tablet → ⊥) → (x.tablet ≡ new → ⊥) → Contains v.rows x
  stood_before x there unlike other =
      let one : Contains risen x = unless_same x high other (stood risen new high x there) in
      let two : Contains divided x = unless_same x low unlike (stood divided tablet low x one) in
      let three : Contains shrunk x = unless_same x second other (stood_placed second x shrunk two) in
      unless_same x first unlike (stood v.rows tablet first x three)

  -- what holds of both halves and of each other row holds of each
  pub each : (P : Row → Type 0) → P low → P high → ((x : Row) → Contains v.rows x → (x.tablet ≡ tablet → ⊥) → P x) → All P rows'
  each P of_low of_high others =
      all_by P rows'
      (λ x there.
      ⊎_elim
      (λ (same : x.tablet ≡ tablet). rw (same_number rows' x low halved_map there low_stands same) of_low)
      (λ (unlike : x.tablet ≡ tablet → ⊥).
      ⊎_elim
      (λ (same : x.tablet ≡ new). rw (same_number rows' x high halved_map there high_stands same) of_high)
      (λ (other : x.tablet ≡ new → ⊥). others x (stood_before x there unlike other) unlike)
      (cases_eq x.tablet new))
      (cases_eq x.tablet tablet))

  pub kept : (P : Row → Type 0) → P low → P high → All P v.rows → All P rows'
  kept P of_low of_high all = each P of_low of_high (λ x has unlike. All-contains P v.rows x all has)

  -- the same hashes are covered
  pub covered_same : (table hash : ℕ) → is_covered rows' table hash ≡ is_covered v.rows table hash
  covered_same table hash = grind (arith, covered_turned, upper_found, lower_found, covered_split, found)

  -- and the same numbers known, and the new one
  known_now : (n : ℕ) → is_some (row_of rows' n) ≡ (eqb new n || is_some (row_of v.rows n))
  known_now n = grind (arith, known_turned, upper_found, lower_found, known_placed, eqb, found)

  pub known_on : (n : ℕ) → is_some (row_of v.rows n) ≡ true → is_some (row_of rows' n) ≡ true
  known_on n known = known_now n ∙ or_right (eqb new n) (is_some (row_of v.rows n)) known

  pub known_new : is_some (row_of rows' new) ≡ true
  known_new = known_now new ∙ or_left (eqb new new) (is_some (row_of v.rows new)) (eq-eqb new new refl)

  pub known_low : is_some (row_of rows' tablet) ≡ true
  known_low = known_on tablet (ap is_some found)

  pub still_none : (n : ℕ) → row_of rows' n ≡ None → row_of v.rows n ≡ None
  still_none n none = grind (arith, row_of, known_on, false≢true)

  none_found : row_of v.rows new ≡ None
  none_found = grind (arith, row_of)

  -- ---- ranges

  within : (range.first < at) × (at ≤ range.last)
  within = grind (arith, and_parts, nat_lt, nat_le, ltb-true, leb-true)

  pub low_half : IsHalf range low.range
  low_half = record { table = refl; first = omega arith; last = omega (arith, within.1); some = omega (arith, within.0) }

  pub high_half : IsHalf range high.range
  high_half = record { table = refl; first = omega (arith, within.0); last = omega arith; some = within.1 }

  -- the halves meet neither each other nor the other rows
  pub low_apart : meets low.range high.range ≡ false
  low_apart = go range.table range.first range.last at within.0
    where
      go : (t f l at : ℕ) → f < at → (eqb t t && leb f l && leb at (at - 1)) ≡ false
      go t f l at first = grind (arith, nat_tests)

  pub high_apart : meets high.range low.range ≡ false
  high_apart = go range.table range.first range.last at within.0
    where
      go : (t f l at : ℕ) → f < at → (eqb t t && leb at (at - 1) && leb f l) ≡ false
      go t f l at first = grind (arith, nat_tests)

  -- what meets a half meets the row
  pub half_met : (half a : Range) → IsHalf range half → meets half a ≡ true → meets range a ≡ true
  half_met half a is met = meets_either a range (meets_whole range half is a (meets_either half a met))

  -- no half meets another row
  pub half_apart : (half : Range) → IsHalf range half → (x : Row) → Contains v.rows x → (x.tablet ≡ tablet → ⊥) → meets x.range half ≡ true → ⊥
  half_apart half is x has unlike met =
      let whole : meets x.range range ≡ true = meets_whole range half is x.range met in
      ⊎_elim (λ (same : x ≡ row). unlike (ap (λ (r : Row). r.tablet) same))
      (λ (p : Precedes x row ⊎ Precedes row x).
      ⊎_elim (λ (h : Precedes x row). false≢true (sym h.apart ∙ whole)) (λ (h : Precedes row x). false≢true (sym h.apart ∙ meets_either x.range range whole)) p)
      (one_precedes v.rows x row map has has_row)

  -- ---- what masters have of the two tablets

  -- what masters had of the two tablets
  pub at_most_row : (q : ℕ) → (v.handovers q tablet).term ≤ term
  at_most_row q = at_most v row q sound has_row

  pub term_none : (q : ℕ) → (v.handovers q new).term ≡ 0
  term_none q = sound.cover.unknown q new none_found

  pub absent_before : (q : ℕ) → is_absent (v.handovers q new).role ≡ true
  absent_before q = grind (arith, is_absent, term_none, cases_Bool)

  -- the halves that a living owner has
  abbrev pub low_half_of : ℕ → Handover
  low_half_of q = as_half (v.handovers q tablet) low.range (term + 1)

  abbrev pub high_half_of : ℕ → Handover
  high_half_of q = as_half (v.handovers q tablet) high.range (term + 1)

  -- the tablet is the owner's that lives
  abbrev pub Serves : ℕ → Type 0
  Serves q = (v.live q ≡ true) × (q ≡ owner)

  -- a tablet of a master beside the halves of a living owner
  abbrev pub Beside : ℕ → ℕ → Type 0
  Beside q n = Serves q → (n ≡ tablet → ⊥) × (n ≡ new → ⊥)

  -- so it is of the halves of a living owner
  abbrev pub AtLow : (Handover → Type 0) → ℕ → ℕ → Type 0
  AtLow P q n = Serves q → n ≡ tablet → P (low_half_of q)

  abbrev pub AtHigh : (Handover → Type 0) → ℕ → ℕ → Type 0
  AtHigh P q n = Serves q → n ≡ new → P (high_half_of q)

  -- or of a living master that is not the owner
  abbrev pub AtOther : (Handover → Type 0) → ℕ → ℕ → Type 0
  AtOther P q n = v.live q ≡ true → eqb owner q ≡ false → P (v.handovers q n)

  -- the number of one of the halves
  abbrev pub IsOfHalves : ℕ → Type 0
  IsOfHalves n = (n ≡ tablet) ⊎ (n ≡ new)

  -- what a master is to the row, and to its halves
  abbrev pub post_now : ℕ → Post
  post_now q = cond (eqb owner q) (Owner from) Bystander

  -- another one than the halves has what it had
  abbrev pub IsAway : {X : Type 0} → (ℕ → ℕ → X) → (ℕ → ℕ → X) → Type 0
  IsAway was is = (q n : ℕ) → Beside q n → is q n ≡ was q n

  pub apart_of : (x : Row) → Contains v.rows x → (x.tablet ≡ tablet → ⊥) → (q : ℕ) → Beside q x.tablet
  apart_of x has unlike q serves = (unlike, none_new x has)

  -- what a master has of a tablet: a living owner the halves, and else what it had
  pub data Has (q n : ℕ) (h : Handover) : Type 0 where
    Old : h ≡ v.handovers q n → Beside q n → Has q n h
    Low : Serves q → n ≡ tablet → h ≡ low_half_of q → Has q n h
    High : Serves q → n ≡ new → h ≡ high_half_of q → Has q n h

  -- ---- what a master is to the row

  -- the owner that lives
  pub owner_fits : (q : ℕ) → Serves q → Holds (bond_of (Owner from) (v.handovers q tablet).role) term (v.handovers q tablet).term (v.written q).applied
  owner_fits q serves = grind (arith, bond_of, eq-eqb, split_row)

  pub owner_range : (q : ℕ) → Serves q → (v.handovers q tablet).range ≡ range
  owner_range q serves = grind (arith, split_row, or_left, eqb, eq-eqb)

  abbrev pub Counts : ℕ → Handover → Type 0
  Counts q h = StillCounts (v.live q) h.term (term + 1)

  -- a master that has what it had is no owner
  pub not_owner : (q n : ℕ) → Beside q n → v.live q ≡ true → IsOfHalves n → eqb owner q ≡ false
  not_owner q n unlike lives its = grind (arith, ne_eqb)

  pub bystands : (q : ℕ) → v.live q ≡ true → eqb owner q ≡ false → Holds (bond_of Bystander (v.handovers q tablet).role) term (v.handovers q tablet).term (v.written q).applied
  bystands q lives away = grind (arith, bond_of, split_row)

  pub no_owner : (q : ℕ) → eqb owner q ≡ false → is_member (record { master = owner; from = from } ∷ []) q ≡ true → ⊥
  no_owner q away inside = false≢true (sym (ap (λ (b : Bool). b || false) away) ∙ inside)

-- what masters have of tablets once the row is split
pub record Halved (v : View) (cut : Splitting v) : Type 0 where
  pub handovers' : ℕ → ℕ → Handover
  pub completions' : ℕ → ℕ → Completions
  pub pullings' : ℕ → ℕ → Pulling
  pub gathers' : ℕ → ℕ → Gather
  pub merged' : ℕ → ℕ → List Ended
  pub halved : (q n : ℕ) → Has v cut q n (handovers' q n)
  pub completions_away : IsAway v cut v.completions completions'
  pub pullings_away : IsAway v cut v.pullings pullings'
  pub gathers_away : IsAway v cut v.gathers gathers'
  pub merged_away : IsAway v cut v.merged merged'
  pub ends_stay : (q n : ℕ) → Serves v cut q → IsOfHalves v cut n → completions' q n ≡ v.completions q cut.tablet

module _ (v : View) (cut : Splitting v) (after : Halved v cut) where
  open cut use {tablet, term, owner, from, new}
  open after use {handovers', halved}

  pub by : (P : Handover → Type 0) (q n : ℕ) → (Beside v cut q n → P (v.handovers q n)) → AtLow v cut P q n → AtHigh v cut P q n → P (handovers' q n)
  by P q n = grind arith

  -- of another row's tablet it is what it was
  pub of_row : (x : Row) → Contains v.rows x → (x.tablet ≡ tablet → ⊥) → (q : ℕ) → v.handovers q x.tablet ≡ handovers' q x.tablet
  of_row x has unlike q =
      by (λ h. v.handovers q x.tablet ≡ h) q x.tablet (λ _. refl) (λ _ its. absurd (unlike its)) (λ _ its. absurd (none_new v cut x has its))

  pub by_row : (x : Row) → Contains v.rows x → (x.tablet ≡ tablet → ⊥) → (q : ℕ) (P : Handover → Type 0) → P (v.handovers q x.tablet) → P (handovers' q x.tablet)
  by_row x has unlike q P = subst P (of_row x has unlike q)

  -- what a master is to a half, and has of it
  pub by_post : (P : Post → Handover → Type 0) (q n : ℕ) → IsOfHalves v cut n → AtLow v cut (P (Owner from)) q n → AtHigh v cut (P (Owner from)) q n → AtOther v cut (P Bystander) q n → Counts v cut q (handovers' q n) → P (post_now v cut q) (handovers' q n)
  by_post P q n its first second old = grind (arith, by, at_most_row, term_none, not_owner, eq-eqb)
