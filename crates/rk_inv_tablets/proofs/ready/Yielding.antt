-- Yielding: a living master yields what it has of tablets to an order of a greater term. Of one tablet it takes a new role, in which it
-- waits for the tablet or begins to rebuild it; it gives up others, and may drop items. So are calls, counters and rests then.
use Rattle.std.proofs.Common.{◌≡◌, ℕ, ◌<◌, ◌≤◌, true, false, List, None, refl, sym, ◌∙◌, ⊎_elim, ◌⊎◌, arith, is_some, All, Contains, ap}
use Rattle.std.proofs.Common.{inl, inr, IfSome, drop}
use Rattle.rk_inv_base.proofs.Words.{cases_eq, false≢true, meets, Ended, Held, Member, is_in, IsInScanOrder, Handover, lineage_of, row_of}
use Rattle.rk_inv_base.proofs.Words.{Phase, Rebuilding, Row, Gather, is_member, is_absent, Pulling, Tablet, IsItemWithin, IsWithinRows}
use Rattle.rk_inv_base.proofs.Words.{is_wanting, KeepTerm, RoleFits, HandoverFits, View, truths, CoverOf, SoundView, both_ways, list_any}
use Rattle.rk_inv_base.proofs.Words.{is_serving, Body, Handed, second_of, touches, is_idle, may_have_staged, IsKnown, IsStagedEnd}
use Rattle.rk_inv_base.proofs.Words.{handed_by, handed_for_grant, is_waiting, second_has, post_of, rebuilder_post, speaks, rests}
use Rattle.rk_inv_tablets.proofs.Words.{put_by, put_here, put_other, IsRebuilderIn, IsBareOf, tablets_taken, outside_post, heir_post}
use Rattle.rk_inv_tablets.proofs.Words.{row_in, staged_as}
use Rattle.rk_inv_tablets.proofs.ready.OwnItems.{all_remain}
use Rattle.rk_inv_tablets.proofs.ready.Outside.{is_quiet, begun_silent, outside_idle, rebuilder_is, second_member}
use Rattle.rk_transfer.specs.declared.role.Role.TheVariants as roles

-- ---- what it is

-- a tablet of a master is as it was
pub record StaysSo (v : View) (master number : ℕ) (tablet : Tablet) : Type 0 where
  pub handover_is : tablet.handover ≡ v.handovers master number
  pub pulling_is : tablet.pulling ≡ v.pullings master number
  pub gather_is : tablet.gather ≡ v.gathers master number
  pub merged_is : tablet.merged_ends ≡ v.merged master number

-- a master that is not of a row's lineage does nothing for the tablet, or waits for it
pub record StandsBy (row : Row) (master : ℕ) (new : Handover) : Type 0 where
  pub outside : is_member (lineage_of row.phase) master ≡ false
  pub quiet : is_quiet new.role ≡ true

-- a master begins to rebuild a row, at the row's term
pub record Begins (row : Row) (master : ℕ) (new : Handover) : Type 0 where
  pub lineage : List Member
  pub phase_is : row.phase ≡ Rebuilding lineage master
  pub term_is : new.term ≡ row.term
  pub range_is : new.range ≡ row.range
  pub from : ℕ
  pub role_is : new.role ≡ roles.Rebuilding from None

-- beside its row, a tablet is yielded below the row's term
pub record YieldsBeside (row : Row) (master applied : ℕ) (old new : Handover) : Type 0 where
  pub below : old.term < row.term
  pub grows : old.term ≤ new.term
  pub within : new.term ≤ row.term
  pub greater : is_wanting new.role ≡ true → old.term < new.term
  pub fits : RoleFits row master new applied
  pub kind : StandsBy row master new ⊎ Begins row master new

-- a tablet of a master is yielded, if these records are left
pub record Yields (v : View) (master : ℕ) (records : List Held) (number : ℕ) (new : Tablet) : Type 0 where
  pub beside :
      (row : Row) → Contains v.rows row → row.tablet ≡ number
      → YieldsBeside row master (v.written master).applied (v.handovers master number) new.handover
  pub formed : (row : Row) → Contains v.rows row → HandoverFits row number new.handover
  pub begun : is_absent new.handover.role ≡ false → 1 ≤ new.handover.term
  pub known : is_absent new.handover.role ≡ false → is_some (row_of v.rows number) ≡ true
  pub unknown : row_of v.rows number ≡ None → new.handover.term ≡ 0
  pub ranges : 1 ≤ new.handover.term → IsWithinRows v.rows new.handover.range
  pub bare : IsBareOf new.handover (v.written master) records
  pub rebuilds :
      (row : Row) (lineage : List Member) → Contains v.rows row → row.tablet ≡ number → row.phase ≡ Rebuilding lineage master
      → new.handover.term ≡ row.term
      → IsRebuilderIn v.logs v.written v.stored row lineage master (truths v row) new.handover (v.completions master row.tablet)
      new.gather new.merged_ends records

-- records are left to a master: of a row that it is a member of, or whose term it keeps, it has all that it had
pub record AreLeft (v : View) (master : ℕ) (records : List Held) : Type 0 where
  pub ordered : IsInScanOrder records
  pub stood : (item : Held) → Contains records item → Contains (v.records master) item
  pub stays :
      (row : Row) → Contains v.rows row
      → (is_member (lineage_of row.phase) master ≡ true) ⊎ ((v.handovers master row.tablet).term ≡ row.term)
      → (item : Held) → is_in row.range item ≡ true → Contains (v.records master) item → Contains records item

-- a living master yields, in a sound view: it has these tablets then, and these records
pub record Yielding (v : View) : Type 0 where
  pub sound : SoundView v
  pub master : ℕ
  pub lives : v.live master ≡ true
  pub records : List Held
  pub tablets : ℕ → Tablet
  pub left : AreLeft v master records
  pub step : (number : ℕ) → StaysSo v master number (tablets number) ⊎ Yields v master records number (tablets number)
  pub apart :
      (a b : ℕ) → (a ≡ b → ⊥)
      → is_absent (tablets a).handover.role ≡ false → is_absent (tablets b).handover.role ≡ false
      → meets (tablets a).handover.range (tablets b).handover.range ≡ false

-- ---- what is kept

-- what is said of a master and of what it has of a tablet
abbrev pub Said : Type 1
Said = ℕ → Handover → Pulling → Gather → List Ended → Type 0

abbrev pub SaidIn : Said → View → ℕ → ℕ → Type 0
SaidIn P w q r = P q (w.handovers q r) (w.pullings q r) (w.gathers q r) (w.merged q r)

abbrev pub SaidOf : Said → ℕ → Tablet → Type 0
SaidOf P q tablet = P q tablet.handover tablet.pulling tablet.gather tablet.merged_ends

module _ (v : View) (a : Yielding v) where
  abbrev pub yielded : View
  yielded = tablets_taken v a.master a.records a.tablets

  -- a tablet is yielded by the master
  abbrev pub IsYielded : ℕ → Type 0
  IsYielded number = Yields v a.master a.records number (a.tablets number)

  -- what holds of a tablet, and then of what the master makes of it, holds of what is kept
  pub of_tablet : (P : Said) (q r : ℕ) → (IsYielded r → SaidIn P v a.master r → SaidOf P a.master (a.tablets r)) → SaidIn P v q r → SaidIn P yielded q r
  of_tablet P q r gives was = grind (arith, put_here, put_other, cases_eq)

  -- so it is of handovers alone
  pub by : (P : ℕ → Handover → Type 0) (q r : ℕ) → (IsYielded r → P a.master (v.handovers a.master r) → P a.master (a.tablets r).handover) → P q (v.handovers q r) → P q (yielded.handovers q r)
  by P q r gives was = of_tablet (λ q h p g e. P q h) q r gives was

  -- a row's tablet is yielded by the master
  abbrev pub IsBeside : Row → Type 0
  IsBeside x = YieldsBeside x a.master (v.written a.master).applied (v.handovers a.master x.tablet) (a.tablets x.tablet).handover

  -- and beside a row
  pub by_row : (P : Row → ℕ → Handover → Type 0) (x : Row) → Contains v.rows x → (q : ℕ) → (IsBeside x → P x a.master (v.handovers a.master x.tablet) → P x a.master (a.tablets x.tablet).handover) → P x q (v.handovers q x.tablet) → P x q (yielded.handovers q x.tablet)
  by_row P x has q gives was = by (P x) q x.tablet (λ yields. gives (yields.beside x has refl)) was

  -- what holds of the records holds of what is left
  pub of_records : (P : ℕ → List Held → Type 0) (q : ℕ) → (P a.master (v.records a.master) → P a.master a.records) → P q (v.records q) → P q (yielded.records q)
  of_records P q gives was = grind (arith, put_by)

  -- ---- Roles

  -- those who have to keep the row's term do
  keep_term : (phase : Phase) (before after : ℕ → ℕ) (term : ℕ) → ((q : ℕ) → before q ≡ term → after q ≡ term) → KeepTerm phase before term → KeepTerm phase after term
  keep_term phase before after term same at = grind arith

  -- a member of the lineage has the row's range
  pub member_range : (x : Row) → IsBeside x → is_member (lineage_of x.phase) a.master ≡ true → (a.tablets x.tablet).handover.range ≡ x.range
  member_range x beside member = grind (arith, false≢true)

  pub term_kept : (x : Row) → Contains v.rows x → KeepTerm x.phase (λ q. (v.handovers q x.tablet).term) x.term → KeepTerm x.phase (λ q. (yielded.handovers q x.tablet).term) x.term
  term_kept x has =
      keep_term x.phase (λ q. (v.handovers q x.tablet).term) (λ q. (yielded.handovers q x.tablet).term) x.term
      (λ q. by_row (λ x q h. h.term ≡ x.term) x has q (λ beside was. absurd (omega (arith, beside.below, was))))

  -- tablets of one master that are not absent do not meet
  pub apart_still : (q one other : ℕ) → (one ≡ other → ⊥) → is_absent (yielded.handovers q one).role ≡ false → is_absent (yielded.handovers q other).role ≡ false → meets (yielded.handovers q one).range (yielded.handovers q other).range ≡ false
  apart_still q one other differ = grind (arith, is_absent, meets, put_here, put_other, cases_eq)

  -- ---- Cover

  pub cover : CoverOf yielded
  cover =
      assumption (
        a.sound.cover,
        λ (q r : ℕ). by (λ q h. row_of v.rows r ≡ None → h.term ≡ 0) q r (λ yields was. yields.unknown) (a.sound.cover.unknown q r),
        λ (q r : ℕ). by (λ q h. 1 ≤ h.term → IsWithinRows v.rows h.range) q r (λ yields was. yields.ranges) (a.sound.cover.ranges q r),
        λ (q : ℕ).
            of_records (λ q items. All (IsItemWithin v.rows) items) q
            (all_remain (IsItemWithin v.rows) (v.records a.master) a.records a.left.stood) (a.sound.cover.items q),
      )

  -- ---- calls, counters and rests

  abbrev now : View
  now = yielded

  -- what the master has of a row's tablet, before and then
  abbrev old : Row → Handover
  old x = v.handovers a.master x.tablet

  abbrev new : Row → Handover
  new x = (a.tablets x.tablet).handover

  -- ---- members of a row's lineage

  -- a member has the tablet as it was, or begins to rebuild the row
  pub member_keeps : (x : Row) → Contains v.rows x → (q : ℕ) → is_member (lineage_of x.phase) q ≡ true → (now.handovers q x.tablet ≡ v.handovers q x.tablet) ⊎ Begins x q (now.handovers q x.tablet)
  member_keeps x has q member =
      by_row (λ x q h. is_member (lineage_of x.phase) q ≡ true → (h ≡ v.handovers q x.tablet) ⊎ Begins x q h) x has q
      (λ beside was inside.
      ⊎_elim (λ (stands : StandsBy x a.master (new x)). absurd (false≢true (sym stands.outside ∙ inside)))
      (λ (begins : Begins x a.master (new x)). inr begins) beside.kind)
      (λ inside. inl refl) member

  pub of_lineage : (x : Row) (lineage : List Member) → lineage_of x.phase ≡ lineage → (q : ℕ) → is_member lineage q ≡ true → is_member (lineage_of x.phase) q ≡ true
  of_lineage x lineage is q member = ap (λ (list : List Member). is_member list q) is ∙ member

  -- so if it waits for a grant, it did before
  waited : (x : Row) → Contains v.rows x → (q : ℕ) → is_member (lineage_of x.phase) q ≡ true → is_wanting (now.handovers q x.tablet).role ≡ true → is_wanting (v.handovers q x.tablet).role ≡ true
  waited x has q member waits = grind (arith, is_wanting, both_ways, member_keeps)

  -- and what is handed over was handed over before
  pub for_grant_on : (P : Handed → Type 0) (x : Row) → Contains v.rows x → IfSome (handed_for_grant x v.handovers v.handed) P → IfSome (handed_for_grant x now.handovers v.handed) P
  for_grant_on P x has = grind (arith, is_waiting, second_has, second_of, lineage_of, waited, of_lineage, second_member)

  pub by_message_on : (P : Handed → Type 0) (x : Row) → Contains v.rows x → (body : Body) → IfSome (handed_by x v.handovers body) P → IfSome (handed_by x now.handovers body) P
  by_message_on P x has body =
      grind (arith, second_member, member_keeps)

  -- ---- who answers

  -- the master answers for nothing that it yielded
  pub silent : (x : Row) → IsBeside x → speaks (post_of x.phase a.master) (new x) x.term ≡ true → ⊥
  silent x beside says = grind (arith, post_of, outside_post, begun_silent, rebuilder_post, heir_post, is_serving, rebuilder_is)

  -- an end that is kept is known as before
  pub end_known : (q r : ℕ) (end : Ended) → IsKnown v.base v.journal end ⊎ IsStagedEnd v.rows (rests v) q r (v.handovers q r).term end → IsKnown v.base v.journal end ⊎ IsStagedEnd v.rows (rests v) q r (now.handovers q r).term end
  end_known q r end =
      ⊎_elim (λ (known : IsKnown v.base v.journal end). inl known)
      (λ (staged : IsStagedEnd v.rows (rests v) q r (v.handovers q r).term end).
      inr (staged_as v.rows v.rows (rests v) (rests v) q r (v.handovers q r).term (now.handovers q r).term end staged staged.stands staged.told
      (rw (← staged.number) (by_row (λ x q h. h.term ≡ x.term) staged.row staged.stands q
      (λ beside at. absurd (omega (arith, beside.below, at)))
      (rw staged.number staged.at_term)))))

  -- ---- what is staged

  -- what the master had fitted the row
  pub fitted : (x : Row) → Contains v.rows x → RoleFits x a.master (old x) (v.written a.master).applied
  fitted x has = (row_in v a.sound x has).roles.fitting a.master (inl a.lives)

  -- so outside the lineage nothing was staged
  idled : (x : Row) → Contains v.rows x → IsBeside x → is_member (lineage_of x.phase) a.master ≡ false → is_idle (old x).role ≡ true
  idled x has beside outside = grind (arith, outside_idle, post_of, outside_post, fitted)

  pub settled : (x : Row) → Contains v.rows x → IsBeside x → is_idle (new x).role ≡ true → list_any (touches x.range) (drop (v.written a.master).applied (v.written a.master).entries) ≡ false
  settled x has beside idles = grind (arith, row_in, idled, both_ways, is_idle)

  -- if something may be staged, it may be still
  pub stages : (x : Row) → Contains v.rows x → IsBeside x → may_have_staged (old x).role ≡ true → may_have_staged (new x).role ≡ true
  stages x has beside staged = grind (arith, idled, may_have_staged)
