-- A view stays sound when an owned row is split in two, and its owner, if it lives, serves both halves: terms and cover, what is staged,
-- the records and the calls.
use Rattle.std.proofs.Common.{◌≡◌, ℕ, ◌+◌, ◌≤◌, true, false, Some, refl, sym, ap, ◌∙◌, ⊎_elim, arith, IfSome, is_some, All, Contains}
use Rattle.std.proofs.Common.{flat_map, Bool, cond, List, [], ◌∷◌, ◌++◌, eqb, leb, ◌⊎◌, inl, inr, drop, filter, max, eq-eqb, slice_index_or}
use Rattle.rk_inv_base.proofs.Words.{cases_eq, false≢true, All-contains, All-weaker, IfSome_then, hash_of, has, meets, Held, Range, Entry}
use Rattle.rk_inv_base.proofs.Words.{Handover, Role, row_of, Row, Body, has_all, is_absent, HasWholeRows, IsEntryWithin, IsItemWithin}
use Rattle.rk_inv_base.proofs.Words.{IsOfWholeRows, IsWithinRows, Bystander, Owner, Holds, bond_of, HandoverFits, SentFits, range_in}
use Rattle.rk_inv_base.proofs.Words.{tenure_in, View, false_from_ne_true, cases_lt, or_from, or_parts, nat_tests, list_any, Call, Ended}
use Rattle.rk_inv_base.proofs.Words.{Member, ends_of, is_serving, lineage_of, Owned, Rebuilding, last_of, touches, is_joined_in, is_idle}
use Rattle.rk_inv_base.proofs.Words.{may_have_staged, Written, member_truth, IsKnown, IsStagedEnd, ReachAll, IsNext, speaks, OnlyIsUnnamed}
use Rattle.rk_inv_base.proofs.Words.{Waits, IsTableOf, has_all_items, truths, rests, is_covered, Message, get, Post, HasOwnRange, MarkFits}
use Rattle.rk_inv_base.proofs.Words.{SoundView, Cover, tablet_seen}
use Rattle.rk_inv_base.proofs.rows.RowAdded.{meets_turned}
use Rattle.rk_inv_rows.proofs.Words.{covered_by, IsHalf, all_by, same_number, waits_for, none_for_owned, row_in, IsNextOf, SoundBeside}
use Rattle.rk_inv_rows.proofs.Words.{SoundRow, view_by_rows, as_half, bystander_stays}
use Rattle.rk_inv_rows.proofs.split.Splitting.{Splitting, Halved, row, low, high, rows', in_row, each, kept, none_new, unknown_new}
use Rattle.rk_inv_rows.proofs.split.Splitting.{low_half, high_half, covered_same, known_on, known_new, known_low, still_none, term_none}
use Rattle.rk_inv_rows.proofs.split.Splitting.{Serves, half_met, half_apart, owner_fits, owner_range, low_apart, high_apart, by, split_row}
use Rattle.rk_inv_rows.proofs.split.Splitting.{map, Beside, IsOfHalves, post_now, bystands, new_apart, low_stands, high_stands}
use Rattle.rk_inv_rows.proofs.split.Splitting.{other_stands, of_row, by_row, Counts, absent_before, apart_of, by_post, halved_map, no_owner}
use Rattle.rk_inv_rows.proofs.split.HalfOfRow.{all_of_half, in_whole, meets_whole, filter_finer, table_of_half, low_of_half, next_of_half}
use Rattle.rk_inv_rows.proofs.split.HalfOfRow.{order_of_half, reached_of_half, recorded_of_half, rest_of_half, truth_of_half}
use Rattle.rk_inv_base.proofs.calls.Receives.{IsBareOf}
use Rattle.rk_inv_base.proofs.views.OwnTablet.{row_kept}
use Rattle.rk_inv_rows.proofs.split.HalvedMessages.{SpokeOf, no_mark, says_half}
use Rattle.rk_inv_base.proofs.views.ByRows.{staged_as}
use Rattle.rk_entry.specs.declared.entry.Entry.TheVariants as entries
use Rattle.rk_transfer.specs.declared.role.Role.TheVariants as roles

-- what has not begun is a bystander's
pub absent_fits : (role : Role) (term own applied : ℕ) → own ≡ 0 → is_absent role ≡ true → Holds (bond_of Bystander role) term own applied
absent_fits roles.Absent term own applied none is = omega (arith, none)
absent_fits _ term own applied none is = absurd (cc is)

-- an owner has the tablet
owner_present : (role : Role) (place term own applied : ℕ) → Holds (bond_of (Owner place) role) term own applied → is_absent role ≡ false
owner_present roles.Absent place term own applied holds = absurd holds
owner_present role place term own applied holds = refl

-- a bystander does not speak, and has nothing staged
pub bystander_quiet : (role : Role) (term own applied : ℕ) → Holds (bond_of Bystander role) term own applied → (is_serving role ≡ false) × (is_idle role ≡ true)
bystander_quiet role term own applied holds = grind arith

-- what a test that implies another one finds
any_finer : (p q : Entry → Bool) (list : List Entry) → ((entry : Entry) → p entry ≡ true → q entry ≡ true) → list_any q list ≡ false → list_any p list ≡ false
any_finer p q [] finer none = refl
any_finer p q (entry ∷ list) finer none =
    let parts = or_parts (q entry) (list_any q list) none in
    or_from (p entry) (list_any p list)
    (false_from_ne_true (p entry) (λ passes. false≢true (sym parts.0 ∙ finer entry passes)))
    (any_finer p q list finer parts.1)

module _ (v : View) (cut : Splitting v) (after : Halved v cut) where
  open cut use {tablet, range, term, owner, from, at, new, sound, has_row}
  open after use {handovers', completions', pullings', gathers', merged', completions_away, pullings_away, gathers_away, merged_away, ends_stay}

  -- ---- terms

  old_fits : (q n : ℕ) (x : Row) → Contains v.rows x → HandoverFits x n (v.handovers q n)
  old_fits q n x has = All-contains (λ r. HandoverFits r n (v.handovers q n)) v.rows x (sound.terms.kept q n) has

  -- a tablet beside the halves
  fits_low : (q n : ℕ) → HandoverFits (low v cut) n (handovers' q n)
  fits_low q n =
      by v cut after (λ h. HandoverFits (low v cut) n h) q n
      (λ unlike. record {
        within = λ is. let was = (old_fits q n (row v cut) has_row).within is in omega (arith, was);
        below = λ apart met. let was = (old_fits q n (row v cut) has_row).below apart (half_met v cut (low v cut).range (v.handovers q n).range (low_half v cut) met) in omega (arith, was);
        exact = λ is its. let was = (old_fits q n (row v cut) has_row).within is in absurd (omega (arith, was, its));
      })
      (λ serves its. record { within = λ is. omega arith; below = λ apart met. absurd (apart (sym its)); exact = λ is term. refl })
      (λ serves its. record {
        within = λ is. absurd (none_new v cut (row v cut) has_row (is ∙ its));
        below = λ apart met. absurd (false≢true (sym (low_apart v cut) ∙ met));
        exact = λ is term. absurd (none_new v cut (row v cut) has_row (is ∙ its));
      })

  fits_high : (q n : ℕ) → HandoverFits (high v cut) n (handovers' q n)
  fits_high q n =
      by v cut after (λ h. HandoverFits (high v cut) n h) q n
      (λ unlike. record {
        within = λ is. let none : (v.handovers q n).term ≡ 0 = ap (λ (m : ℕ). (v.handovers q m).term) (sym is) ∙ term_none v cut q in omega (arith, none);
        below = λ apart met.
            ⊎_elim (λ (is : tablet ≡ n). let was = (old_fits q n (row v cut) has_row).within is in omega (arith, was))
            (λ (away : tablet ≡ n → ⊥).
            let was = (old_fits q n (row v cut) has_row).below away (half_met v cut (high v cut).range (v.handovers q n).range (high_half v cut) met) in omega (arith, was))
            (cases_eq tablet n);
        exact = λ is its.
            let none : (v.handovers q n).term ≡ 0 = ap (λ (m : ℕ). (v.handovers q m).term) (sym is) ∙ term_none v cut q in absurd (omega (arith, none, its));
      })
      (λ serves its. record {
        within = λ is. absurd (none_new v cut (row v cut) has_row (sym (is ∙ its)));
        below = λ apart met. absurd (false≢true (sym (high_apart v cut) ∙ met));
        exact = λ is term. absurd (none_new v cut (row v cut) has_row (sym (is ∙ its)));
      })
      (λ serves its. record { within = λ is. omega arith; below = λ apart met. absurd (apart (sym its)); exact = λ is term. refl })

  fits_other : (q n : ℕ) (x : Row) → Contains v.rows x → (x.tablet ≡ tablet → ⊥) → HandoverFits x n (handovers' q n)
  fits_other q n x has unlike =
      by v cut after (λ h. HandoverFits x n h) q n (λ _. old_fits q n x has)
      (λ serves its. record {
        within = λ is. absurd (unlike (is ∙ its));
        below = λ apart met. absurd (half_apart v cut (low v cut).range (low_half v cut) x has unlike met);
        exact = λ is term. absurd (unlike (is ∙ its));
      })
      (λ serves its. record {
        within = λ is. absurd (none_new v cut x has (is ∙ its));
        below = λ apart met. absurd (half_apart v cut (high v cut).range (high_half v cut) x has unlike met);
        exact = λ is term. absurd (none_new v cut x has (is ∙ its));
      })

  -- a half that it has meets none of its other tablets
  beside_half : (half : Range) → IsHalf range half → (q n : ℕ) → Serves v cut q → (n ≡ tablet → ⊥) → is_absent (v.handovers q n).role ≡ false → meets half (v.handovers q n).range ≡ false
  beside_half half is q n serves unlike there =
      false_from_ne_true (meets half (v.handovers q n).range)
      (λ met. let whole : meets (v.handovers q tablet).range (v.handovers q n).range ≡ true =
      ap (λ (r : Range). meets r (v.handovers q n).range) (owner_range v cut q serves) ∙ half_met v cut half (v.handovers q n).range is met in
      false≢true
      (sym (sound.terms.apart q tablet n (λ same. unlike (sym same))
      (owner_present (v.handovers q tablet).role from term (v.handovers q tablet).term (v.written q).applied (owner_fits v cut q serves)) there)
      ∙ whole))

  abbrev ApartFrom : ℕ → ℕ → ℕ → Handover → Type 0
  ApartFrom q a b h = is_absent h.role ≡ false → is_absent (handovers' q b).role ≡ false → meets h.range (handovers' q b).range ≡ false

  pub ranges_apart : (q a b : ℕ) → (a ≡ b → ⊥) → ApartFrom q a b (handovers' q a)
  ranges_apart q a b unlike =
      by v cut after (ApartFrom q a b) q a
      (λ one first.
      by v cut after (λ h. is_absent h.role ≡ false → meets (v.handovers q a).range h.range ≡ false) q b
      (λ other second. sound.terms.apart q a b unlike first second)
      (λ serves its second. meets_turned (low v cut).range (v.handovers q a).range (beside_half (low v cut).range (low_half v cut) q a serves (one serves).0 first))
      (λ serves its second. meets_turned (high v cut).range (v.handovers q a).range (beside_half (high v cut).range (high_half v cut) q a serves (one serves).0 first)))
      (λ serves its first.
      by v cut after (λ h. is_absent h.role ≡ false → meets (low v cut).range h.range ≡ false) q b
      (λ other second. beside_half (low v cut).range (low_half v cut) q b serves (other serves).0 second)
      (λ _ too second. absurd (unlike (its ∙ sym too)))
      (λ _ too second. low_apart v cut))
      (λ serves its first.
      by v cut after (λ h. is_absent h.role ≡ false → meets (high v cut).range h.range ≡ false) q b
      (λ other second. beside_half (high v cut).range (high_half v cut) q b serves (other serves).0 second)
      (λ _ too second. high_apart v cut)
      (λ _ too second. absurd (unlike (its ∙ sym too))))

  pub sent_low : (body : Body) → SentFits (row v cut) body → SentFits (low v cut) body
  sent_low body was = grind (arith, tenure_in, range_in, half_met, low, low_half)

  pub sent_high : (body : Body) → IfSome (tenure_in body) (λ tenure. is_some (row_of v.rows tenure.tablet) ≡ true) → SentFits (row v cut) body → SentFits (high v cut) body
  sent_high body knows was = grind (arith, tenure_in, unknown_new, range_in, half_met, high, high_half, cases_eq)

  pub kept_fits : (q n : ℕ) → All (λ r. HandoverFits r n (handovers' q n)) (rows' v cut)
  kept_fits q n = each v cut (λ r. HandoverFits r n (handovers' q n)) (fits_low q n) (fits_high q n) (fits_other q n)

  -- ---- cover

  range_within : (r : Range) → IsWithinRows v.rows r → IsWithinRows (rows' v cut) r
  range_within r within hash inside = covered_same v cut r.table hash ∙ within hash inside

  half_within : (half : Range) → IsHalf range half → IsWithinRows (rows' v cut) half
  half_within half is hash inside = search (covered_same, covered_by, row, in_whole, half.table)

  item_within : (item : Held) → IsItemWithin v.rows item → IsItemWithin (rows' v cut) item
  item_within item within = covered_same v cut item.table (hash_of item.key) ∙ within

  entry_within : (entry : Entry) → IsEntryWithin v.rows entry → IsEntryWithin (rows' v cut) entry
  entry_within entry within = grind (arith, item_within, covered_same, hash_of, range_within)

  half_whole : (half r : Range) → IsHalf range half → HasWholeRows v.rows r → meets half r ≡ true → has_all r half ≡ true
  half_whole half r is wholes met =
      all_of_half range half is r (in_row v cut (λ x. meets x.range r ≡ true → has_all r x.range ≡ true) wholes (half_met v cut half r is met))

  whole : (r : Range) → HasWholeRows v.rows r → HasWholeRows (rows' v cut) r
  whole r wholes = kept v cut (λ x. meets x.range r ≡ true → has_all r x.range ≡ true) (half_whole (low v cut).range r (low_half v cut) wholes) (half_whole (high v cut).range r (high_half v cut) wholes) wholes

  entry_whole : (entry : Entry) → IsOfWholeRows v.rows entry → IsOfWholeRows (rows' v cut) entry
  entry_whole entry wholes = grind (arith, whole)

  pub cover : Cover (rows' v cut) v.written handovers' v.records v.wire
  cover = record {
    unknown = λ q n none.
        by v cut after (λ h. h.term ≡ 0) q n (λ _. sound.cover.unknown q n (still_none v cut n none))
        (λ _ its. absurd (false≢true (sym (ap is_some none) ∙ ap (λ (m : ℕ). is_some (row_of (rows' v cut) m)) its ∙ known_low v cut)))
        (λ _ its. absurd (false≢true (sym (ap is_some none) ∙ ap (λ (m : ℕ). is_some (row_of (rows' v cut) m)) its ∙ known_new v cut)));
    marks = λ q.
        All-weaker _ _ (λ mark knows. known_on v cut mark.tablet knows) (v.written q).marks (sound.cover.marks q);
    sent = λ n m there. IfSome_then (tenure_in m.body) (sound.cover.sent n m there) (λ tenure knows. known_on v cut tenure.tablet knows);
    ranges = λ q n.
        by v cut after (λ h. 1 ≤ h.term → IsWithinRows (rows' v cut) h.range) q n
        (λ _ begun. range_within (v.handovers q n).range (sound.cover.ranges q n begun))
        (λ _ _ _. half_within (low v cut).range (low_half v cut)) (λ _ _ _. half_within (high v cut).range (high_half v cut));
    ordered = λ n m there. IfSome_then (range_in m.body) (sound.cover.ordered n m there) range_within;
    entries = λ q. All-weaker _ _ entry_within (v.written q).entries (sound.cover.entries q);
    sides = λ q. All-weaker _ _ item_within (flat_map (λ items. items) (v.written q).sides) (sound.cover.sides q);
    items = λ q. All-weaker _ _ item_within (v.records q) (sound.cover.items q);
    wholes = λ q. All-weaker _ _ entry_whole (v.written q).entries (sound.cover.wholes q);
  }

  -- ---- roles

  pub row_known : (q n : ℕ) → v.live q ≡ true → is_absent (handovers' q n).role ≡ false → is_some (row_of (rows' v cut) n) ≡ true
  row_known q n lives = grind (arith, by, is_absent, row_of, rows', known_on, known_low, known_new)

  -- ---- counters

  -- the counter of the owner is next for the row
  pub owner_next : (q : ℕ) → Serves v cut q → IsNext (truths v (row v cut) ++ rests v (row v cut)) (v.handovers q tablet).counter
  owner_next q serves = grind (arith, split_row, speaks, eq-eqb)

  -- ---- what is staged

  joined_row : (half : Range) → IsHalf range half → (entry : Entry) → is_joined_in half entry ≡ true → is_joined_in range entry ≡ true
  joined_row half is (entries.Joined joined) met = meets_whole range half is joined.range met
  joined_row half is _ met = met

  pub unnamed_half : (half : Range) → IsHalf range half → OnlyIsUnnamed v.written half (record { master = owner; from = from } ∷ [])
  unnamed_half half is =
      let w : Written = v.written owner in
      let list : List Entry = drop (max from w.applied) w.entries in
      let none : filter (is_joined_in range) list ≡ [] = (split_row v cut).rest.unnamed in
      filter_finer (is_joined_in half) (is_joined_in range) list
      (all_by _ list (λ entry _. joined_row half is entry))
      ∙ ap (filter (is_joined_in half)) none

  pub idle_half : (half : Range) → IsHalf range half → (q : ℕ) → v.live q ≡ true → eqb owner q ≡ false → list_any (touches half) (drop (v.written q).applied (v.written q).entries) ≡ false
  idle_half half is q lives away = grind (arith, any_finer, touches, split_row, bystander_quiet, bystands, in_whole, hash_of, meets_whole)

  -- a key of the row is in one of the halves
  in_a_half : (table hash : ℕ) → has range table hash ≡ true → (has (low v cut).range table hash ≡ true) ⊎ (has (high v cut).range table hash ≡ true)
  in_a_half table hash inside = grind (arith, cases_lt, eqb, leb, nat_tests)

  abbrev WaitsNow : ℕ → ℕ → Call → Type 0
  WaitsNow q place call = Waits (rows' v cut) (handovers' q) (v.written q) q place call

  waits_half : (q place : ℕ) (call : Call) → v.live q ≡ true → (wait : Waits v.rows (v.handovers q) (v.written q) q place call) → wait.row ≡ row v cut → WaitsNow q place call
  waits_half q place call lives wait same =
      let last_is : Some (record { master = owner; from = from }) ≡ Some wait.last = sym (ap (λ (r : Row). last_of (lineage_of r.phase)) same) ∙ wait.is_last in
      let own : record { master = owner; from = from } ≡ wait.last = cc last_is in
      let serves : Serves v cut q = (lives, sym wait.here ∙ ap (λ (m : Member). m.master) (sym own)) in
      let inside : has range call.table (hash_of call.key) ≡ true = ap (λ (r : Row). has r.range call.table (hash_of call.key)) (sym same) ∙ wait.in_row in
      ⊎_elim
      (λ (below : has (low v cut).range call.table (hash_of call.key) ≡ true).
      waits_for v.rows (rows' v cut) (v.handovers q) (handovers' q) (v.written q) q place call wait (low v cut) (low_stands v cut) below last_is
      (by v cut after (λ h. may_have_staged h.role ≡ true) q tablet (λ unlike. absurd ((unlike serves).0 refl)) (λ _ _. refl) (λ _ its. absurd (new_apart v cut (sym its)))))
      (λ (above : has (high v cut).range call.table (hash_of call.key) ≡ true).
      waits_for v.rows (rows' v cut) (v.handovers q) (handovers' q) (v.written q) q place call wait (high v cut) (high_stands v cut) above last_is
      (by v cut after (λ h. may_have_staged h.role ≡ true) q new (λ unlike. absurd ((unlike serves).1 refl)) (λ _ its. absurd (new_apart v cut its)) (λ _ _. refl)))
      (in_a_half call.table (hash_of call.key) inside)

  pub waits_on : (q place : ℕ) (call : Call) → v.live q ≡ true → Waits v.rows (v.handovers q) (v.written q) q place call → WaitsNow q place call
  waits_on q place call lives wait =
      ⊎_elim
      (λ (same : wait.row.tablet ≡ tablet). waits_half q place call lives wait (same_number v.rows wait.row (row v cut) (map v cut) wait.has_row has_row same))
      (λ (unlike : wait.row.tablet ≡ tablet → ⊥).
      waits_for v.rows (rows' v cut) (v.handovers q) (handovers' q) (v.written q) q place call wait wait.row (other_stands v cut wait.row wait.has_row unlike) wait.in_row wait.is_last
      (by_row v cut after wait.row wait.has_row unlike q (λ h. may_have_staged h.role ≡ true) wait.may_stage))
      (cases_eq wait.row.tablet tablet)

  -- ---- records

  -- what is certain of the owner's log
  abbrev own_truth : Range → List Entry
  own_truth half = member_truth v.written half (record { master = owner; from = from })

  pub table_of_owner : (half : Row) → half.phase ≡ Owned owner from → IsHalf range half.range → (q : ℕ) → v.live q ≡ true → (h : Handover) → has_all_items (post_now v cut q) h (term + 1) ≡ true → IsTableOf half.range (own_truth half.range) (v.records q)
  table_of_owner half phase is q lives h has_all = go (eqb owner q) refl has_all
    where
      go : (b : Bool) → eqb owner q ≡ b → has_all_items (cond b (Owner from) Bystander) h (term + 1) ≡ true → IsTableOf half.range (own_truth half.range) (v.records q)
      go true e has_all =
          table_of_half v sound (row v cut) half has_row owner from refl phase is (v.records q)
          ((split_row v cut).tables q lives
          (ap (λ (b : Bool). has_all_items (cond b (Owner from) Bystander) (v.handovers q tablet) term) e))
      go false e has_all = absurd (false≢true has_all)

  -- ---- calls

  pub reached_half : (half : Range) → IsHalf range half → (list : List Ended) → ReachAll range v.journal list → ReachAll half v.journal list
  reached_half half is list all k d within inside = grind (arith, slice_index_or, in_whole, hash_of)

  owner_answers : (q : ℕ) → Serves v cut q → ReachAll range v.journal (ends_of (v.completions q tablet))
  owner_answers q serves = grind (arith, split_row, speaks, eq-eqb)

  pub owner_answers_now : (q n : ℕ) → Serves v cut q → IsOfHalves v cut n → ReachAll range v.journal (ends_of (completions' q n))
  owner_answers_now q n serves its = rw (ends_stay q n serves its) (owner_answers q serves)

  -- no end of the row is staged by a rebuild of it
  not_staged : (q n : ℕ) (t : ℕ) (end : Ended) → n ≡ tablet → IsStagedEnd v.rows (rests v) q n t end → ⊥
  not_staged q n t end its s =
      let same : s.row ≡ row v cut = same_number v.rows s.row (row v cut) (map v cut) s.stands has_row (s.number ∙ its) in
      let clash : Owned owner from ≡ Rebuilding (lineage_of s.row.phase) q = sym (ap (λ (r : Row). r.phase) same) ∙ s.rebuilt in
      absurd (cc clash)

  abbrev KnownAt : ℕ → ℕ → Ended → Type 0
  KnownAt q n end = IsKnown v.base v.journal end ⊎ IsStagedEnd (rows' v cut) (rests v) q n (handovers' q n).term end

  end_known : (q n : ℕ) (end : Ended) → IsKnown v.base v.journal end ⊎ IsStagedEnd v.rows (rests v) q n (v.handovers q n).term end → KnownAt q n end
  end_known q n end =
      ⊎_elim (λ (knows : IsKnown v.base v.journal end). inl knows)
      (λ (s : IsStagedEnd v.rows (rests v) q n (v.handovers q n).term end).
      let unlike : s.row.tablet ≡ tablet → ⊥ = λ its. not_staged q n (v.handovers q n).term end (sym s.number ∙ its) s in
      inr
      (staged_as v.rows (rows' v cut) (rests v) (rests v) q n (v.handovers q n).term (handovers' q n).term end s
      (other_stands v cut s.row s.stands unlike) s.told
      (ap (λ (m : ℕ). (handovers' q m).term) (sym s.number) ∙ sym (ap (λ (h : Handover). h.term) (of_row v cut after s.row s.stands unlike q))
      ∙ ap (λ (m : ℕ). (v.handovers q m).term) s.number ∙ s.at_term)))

  known_served : (q n : ℕ) → Serves v cut q → IsOfHalves v cut n → All (KnownAt q n) (ends_of (completions' q n))
  known_served q n serves its =
      rw (ends_stay q n serves its)
      (All-weaker (λ end. IsKnown v.base v.journal end ⊎ IsStagedEnd v.rows (rests v) q tablet (v.handovers q tablet).term end) (KnownAt q n)
      (λ end.
      ⊎_elim (λ (knows : IsKnown v.base v.journal end). inl knows)
      (λ (s : IsStagedEnd v.rows (rests v) q tablet (v.handovers q tablet).term end). absurd (not_staged q tablet (v.handovers q tablet).term end refl s)))
      (ends_of (v.completions q tablet)) (sound.calls.known q tablet serves.0))

  known_away : (q n : ℕ) → v.live q ≡ true → Beside v cut q n → All (KnownAt q n) (ends_of (completions' q n))
  known_away q n lives unlike = grind (arith, end_known, ends_of)

  pub known_all : (q n : ℕ) → v.live q ≡ true → All (KnownAt q n) (ends_of (completions' q n))
  known_all q n lives =
      ⊎_elim
      (λ (is : q ≡ owner).
      ⊎_elim (λ (its : n ≡ tablet). known_served q n (lives, is) (inl its))
      (λ (one : n ≡ tablet → ⊥).
      ⊎_elim (λ (its : n ≡ new). known_served q n (lives, is) (inr its)) (λ (other : n ≡ new → ⊥). known_away q n lives (λ _. (one, other)))
      (cases_eq n new))
      (cases_eq n tablet))
      (λ (away : q ≡ owner → ⊥). known_away q n lives (λ serves. absurd (away serves.1)))
      (cases_eq q owner)

  -- ---- the whole

  abbrev pub now : View
  now = record v {
    rows = rows' v cut;
    handovers = handovers';
    completions = completions';
    pullings = pullings';
    gathers = gathers';
    merged = merged';
  }

  was : SoundRow v (row v cut)
  was = row_in v sound (row v cut) has_row

  -- what a master is to a half, and has of it: a living owner the half, and each other one what it had
  abbrev ByHalf : ℕ → Range → Type 1
  ByHalf n r =
      (P : Post → Handover → Type 0) (q : ℕ) → (Serves v cut q → P (Owner from) (as_half (v.handovers q tablet) r (term + 1)))
      → (v.live q ≡ true → eqb owner q ≡ false → P Bystander (v.handovers q n)) → Counts v cut q (handovers' q n)
      → P (post_now v cut q) (handovers' q n)

  by_low : ByHalf tablet (low v cut).range
  by_low P q here others =
      by_post v cut after P q tablet (inl refl) (λ serves _. here serves) (λ _ its. absurd (new_apart v cut (sym its))) others

  by_high : ByHalf new (high v cut).range
  by_high P q here others = by_post v cut after P q new (inr refl) (λ _ its. absurd (new_apart v cut its)) (λ serves _. here serves) others

  -- what a master that is not the owner has of a half
  abbrev FitsAway : ℕ → Type 0
  FitsAway n =
      (q : ℕ) → v.live q ≡ true → eqb owner q ≡ false
      → Holds (bond_of Bystander (v.handovers q n).role) (term + 1) (v.handovers q n).term (v.written q).applied

  low_away : FitsAway tablet
  low_away q lives away =
      bystander_stays (v.handovers q tablet).role term (v.handovers q tablet).term (v.written q).applied (bystands v cut q lives away)

  high_away : FitsAway new
  high_away q lives away =
      absent_fits (v.handovers q new).role (term + 1) (v.handovers q new).term (v.written q).applied (term_none v cut q) (absent_before v cut q)

  module _ (n : ℕ) (r : Range) (is_half : IsHalf range r) (which : IsOfHalves v cut n) (by_half : ByHalf n r) (away_fits : FitsAway n) where
    abbrev half : Row
    half = record { tablet = n; range = r; term = term + 1; phase = Owned owner from }

    -- a master that is not the owner does not speak for it
    silent : (q : ℕ) → v.live q ≡ true → eqb owner q ≡ false → speaks Bystander (v.handovers q n) (term + 1) ≡ false
    silent q lives away =
        (bystander_quiet (v.handovers q n).role (term + 1) (v.handovers q n).term (v.written q).applied (away_fits q lives away)).0

    half_holds : ((i : ℕ) (m : Message) → get v.wire i ≡ Some m → SentFits half m.body) → ((i : ℕ) (m : Message) → get v.wire i ≡ Some m → IfSome (tenure_in m.body) (SpokeOf v cut after n r is_half which)) → SoundRow now half
    half_holds sent spoke = record {
      nodes = was.nodes;
      rows = record { begun = omega arith; formed = tt; placed = was.rows.placed };
      terms = sent;
      roles = record {
        fitting = λ q.
            by_half (λ post h. Holds (bond_of post h.role) (term + 1) h.term (v.written q).applied) q (λ _. refl) (away_fits q);
        ranged = λ q counts inside.
            by_half (λ post h. h.range ≡ r) q (λ _. refl) (λ lives away. absurd (no_owner v cut q away inside)) counts;
        at_term = tt;
      };
      truth = truth_of_half v sound (row v cut) half has_row owner from refl refl is_half;
      order = order_of_half v sound (row v cut) half has_row owner from refl refl is_half;
      calls = record {
        reached = reached_of_half v sound (row v cut) half has_row owner from refl refl is_half;
        recorded = recorded_of_half v sound (row v cut) half has_row owner from refl refl is_half;
        moving = tt;
        answering = λ q.
            by_half (λ post h. speaks post h (term + 1) ≡ true → ReachAll r v.journal (ends_of (completions' q n))) q
            (λ serves says. reached_half r is_half (ends_of (completions' q n)) (owner_answers_now q n serves which))
            (λ lives away says. absurd (false≢true (sym (silent q lives away) ∙ says)));
        granted = tt;
        sent = λ i m there. rw (none_for_owned n (term + 1) r owner from handovers' m.body) tt;
      };
      counters = record {
        low = low_of_half v sound (row v cut) half has_row owner from refl refl is_half;
        moving = tt;
        counted = λ q.
            by_half (λ post h. speaks post h (term + 1) ≡ true → IsNextOf v half h.counter) q
            (λ serves says.
            next_of_half v sound (row v cut) half has_row owner from refl refl is_half (v.handovers q tablet).counter (owner_next q serves))
            (λ lives away says. absurd (false≢true (sym (silent q lives away) ∙ says)));
        granted = tt;
        sent = λ i m there. rw (none_for_owned n (term + 1) r owner from handovers' m.body) tt;
      };
      rest = record {
        goes_on = rest_of_half v sound (row v cut) half has_row owner from refl refl is_half;
        done = tt;
        unnamed = unnamed_half r is_half;
        idle = λ q.
            by_half (λ post h. is_idle h.role ≡ true → list_any (touches r) (drop (v.written q).applied (v.written q).entries) ≡ false) q
            (λ _ idles. absurd (false≢true idles)) (λ lives away idles. idle_half r is_half q lives away);
      };
      tables = λ q lives. table_of_owner half refl is_half q lives (handovers' q n);
      receives = record { target = tt; handed_on = tt; named = tt };
      rebuilds = record {
        rebuilt = tt;
        marks = λ q. no_mark v cut after (MarkFits half q (handovers' q n) (v.live q) (v.written q)) q n which;
        pieces = λ q. no_mark v cut after (HasOwnRange r (v.written q).entries) q n which;
      };
      messages = λ i m there. says_half v cut after n r is_half which m.from m.to m.body (spoke i m there) (was.messages i m there);
    }

  low_holds : SoundRow now (low v cut)
  low_holds =
      half_holds tablet (low v cut).range (low_half v cut) (inl refl) by_low low_away (λ i m there. sent_low m.body (was.terms i m there))
      (λ i m there. IfSome_then (tenure_in m.body) (was.terms i m there).within (λ tenure few its. (its, refl, few (sym its))))

  high_holds : SoundRow now (high v cut)
  high_holds =
      half_holds new (high v cut).range (high_half v cut) (inr refl) by_high high_away
      (λ i m there. sent_high m.body (sound.cover.sent i m there) (was.terms i m there))
      (λ i m there. IfSome_then (tenure_in m.body) (sound.cover.sent i m there) (λ tenure known its. absurd (unknown_new v cut tenure.tablet known its)))

  -- of each other row masters have what they had
  other_holds : (x : Row) → Contains v.rows x → (x.tablet ≡ tablet → ⊥) → SoundRow now x
  other_holds x has unlike = row_kept v now x (λ seen. refl) same (row_in v sound x has)
    where
      same : (q : ℕ) → tablet_seen now q x.tablet ≡ tablet_seen v q x.tablet
      same q i =
          let away = apart_of v cut x has unlike q in
          record {
            handover = sym (of_row v cut after x has unlike q) i;
            completions = completions_away q x.tablet away i;
            pulling = pullings_away q x.tablet away i;
            gather = gathers_away q x.tablet away i;
            merged_ends = merged_away q x.tablet away i;
          }

  beside : SoundBeside now
  beside =
      assumption (
        halved_map v cut,
        All-weaker (λ p. is_covered v.rows p.call.table (hash_of p.call.key) ≡ true)
            (λ p. is_covered (rows' v cut) p.call.table (hash_of p.call.key) ≡ true)
            (λ p covered. covered_same v cut p.call.table (hash_of p.call.key) ∙ covered) v.journal sound.rows.covered,
        kept_fits,
        λ (q n : ℕ).
            by v cut after (λ h. is_absent h.role ≡ false → 1 ≤ h.term) q n (λ _. sound.terms.begun q n) (λ _ _ _. omega arith) (λ _ _ _. omega arith),
        ranges_apart,
        cover,
        row_known,
        known_all,
        λ (q : ℕ) (lives : v.live q ≡ true) (place : ℕ) (call : Call) (there : get (v.calls q) place ≡ Some call).
            waits_on q place call lives (sound.rest.waiting q lives place call there),
        λ (q n : ℕ).
            by v cut after (λ h. IsBareOf h (v.written q) (v.records q)) q n (λ _. sound.receives.bare q n) (λ _ _. tt) (λ _ _. tt),
        sound,
      )

  pub view_row_split : SoundView now
  view_row_split = view_by_rows now beside (each v cut (SoundRow now) low_holds high_holds other_holds)
