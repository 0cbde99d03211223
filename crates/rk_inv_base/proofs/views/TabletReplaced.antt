-- The law of a tablet: a view stays sound when one tablet of one master is replaced, by what is to hold of that tablet and of its row.
use Rattle.rk_inv_base.proofs.Words.{◌≡◌, ◌≢◌, ℕ, ◌≤◌, ◌⊎◌, true, false, refl, subst, cases_eq, sym, ⊎_elim, None, Some, All, Contains}
use Rattle.rk_inv_base.proofs.Words.{is_some, drop, get, list_any, Call, meets, row_of, Row, ends_of, is_absent, touches, may_have_staged}
use Rattle.rk_inv_base.proofs.Words.{IsKnown, IsStagedEnd, IsWithinRows, Waits, HandoverFits, View, rests, CoverOf, SoundView, SoundRow}
use Rattle.rk_inv_base.proofs.Words.{SoundTablet, Tablet, tablet_seen, Handover}
use Rattle.rk_inv_base.proofs.calls.Receives.{IsBareOf}
use Rattle.rk_inv_base.proofs.calls.Rest.{own_touches}
use Rattle.rk_inv_base.proofs.rows.Apart.{apart_either, same_number}
use Rattle.rk_inv_base.proofs.views.ByRows.{SoundBeside, row_in, view_by_rows, waits_for}
use Rattle.rk_inv_base.proofs.views.Lists.{all_by}
use Rattle.rk_inv_base.proofs.views.OwnTablet.{row_kept, with_tablets}
use Rattle.rk_inv_base.proofs.views.Places.{behind_any}
use Rattle.rk_inv_base.proofs.views.Turned.{IsTurned, of_tablet}

-- a master may have this of a row's tablet, and each other tablet stay as it was: it is sound there, and so is the row; and if
-- something of the row waits to be applied, the new role may have staged it if the old one may
pub record MayReplaceTablet (v : View) (row : Row) (master : ℕ) (new : Tablet) (tablets : ℕ → ℕ → Tablet) : Type 0 where
  pub has_row : Contains v.rows row
  pub turned : IsTurned v (with_tablets v tablets) master row.tablet new
  pub tablet : SoundTablet v master row.tablet new
  pub stages :
      list_any (touches row.range) (drop (v.written master).applied (v.written master).entries) ≡ true
      → may_have_staged (v.handovers master row.tablet).role ≡ true → may_have_staged new.handover.role ≡ true
  pub holds : SoundRow (with_tablets v tablets) row

module _ (v : View) (row : Row) (master : ℕ) (new : Tablet) (tablets : ℕ → ℕ → Tablet) (sound : SoundView v) (may : MayReplaceTablet v row master new tablets) where
  abbrev now : View
  now = with_tablets v tablets

  -- what holds of the new tablet, and held of each other one, holds of all
  each : (P : ℕ → ℕ → Tablet → Type 0) (q r : ℕ) → P master row.tablet new → P q r (tablet_seen v q r) → P q r (tablets q r)
  each P q r here was = of_tablet v now master row.tablet new may.turned P q r here (λ apart. was)

  -- two tablets of a master have no hash in common: one as it was and one as it is, and so two as they are
  abbrev AreApart : ℕ → ℕ → Handover → ℕ → Handover → Type 0
  AreApart q a one b other = a ≢ b → is_absent one.role ≡ false → is_absent other.role ≡ false → meets one.range other.range ≡ false

  apart_before : (q a b : ℕ) → AreApart q a (v.handovers q a) b (now.handovers q b)
  apart_before q a b =
      each (λ q b t. AreApart q a (v.handovers q a) b t.handover) q b
      (λ other there b_there. apart_either new.handover.range (v.handovers master a).range (may.tablet.terms.apart a (λ same. other (sym same)) b_there there))
      (sound.terms.apart q a b)

  apart : (q a b : ℕ) → AreApart q a (now.handovers q a) b (now.handovers q b)
  apart q a b =
      each (λ q a t. AreApart q a t.handover b (now.handovers q b)) q a
      (λ other.
      subst (λ (t : Tablet). is_absent new.handover.role ≡ false → is_absent t.handover.role ≡ false → meets new.handover.range t.handover.range ≡ false)
      (sym (may.turned.apart master b (λ _ its. other (sym its)))) (may.tablet.terms.apart b other))
      (apart_before q a b)

  stages : (q : ℕ) (x : Row) → Contains v.rows x → list_any (touches x.range) (drop (v.written q).applied (v.written q).entries) ≡ true → may_have_staged (v.handovers q x.tablet).role ≡ true → may_have_staged (now.handovers q x.tablet).role ≡ true
  stages q x has =
      each
      (λ q r t. r ≡ x.tablet → list_any (touches x.range) (drop (v.written q).applied (v.written q).entries) ≡ true
      → may_have_staged (v.handovers q r).role ≡ true → may_have_staged t.handover.role ≡ true)
      q x.tablet
      (λ its some. may.stages (rw (← same_number v.rows x row sound.rows.apart has may.has_row (sym its)) some))
      (λ its some staged. staged) refl

  -- a call that waits for a row may be staged there
  waits : (q place : ℕ) (call : Call) → Waits v.rows (v.handovers q) (v.written q) q place call → Waits v.rows (now.handovers q) (v.written q) q place call
  waits q place call wait =
      waits_for v.rows v.rows (v.handovers q) (now.handovers q) (v.written q) q place call wait wait.row wait.has_row wait.in_row wait.is_last
      (stages q wait.row wait.has_row
      (behind_any (touches wait.row.range) (v.written q).entries (v.written q).applied place wait.entry wait.behind wait.stands
      (own_touches wait.row.range call wait.entry wait.own wait.in_row))
      wait.may_stage)

  beside : SoundBeside now
  beside =
      let its = may.tablet in
      let cover : CoverOf now = assumption (
        sound.cover,
        λ (q r : ℕ). each (λ q r t. row_of v.rows r ≡ None → t.handover.term ≡ 0) q r its.cover.unknown (sound.cover.unknown q r),
        λ (q r : ℕ). each (λ q r t. 1 ≤ t.handover.term → IsWithinRows v.rows t.handover.range) q r its.cover.ranges (sound.cover.ranges q r),
      ) in
      assumption (
        sound,
        cover,
        apart,
        λ (q r : ℕ). each (λ q r t. All (λ x. HandoverFits x r t.handover) v.rows) q r its.terms.kept (sound.terms.kept q r),
        λ (q r : ℕ). each (λ q r t. is_absent t.handover.role ≡ false → 1 ≤ t.handover.term) q r its.terms.begun (sound.terms.begun q r),
        λ (q r : ℕ).
            each (λ q r t. v.live q ≡ true → is_absent t.handover.role ≡ false → is_some (row_of v.rows r) ≡ true) q r its.roles
            (sound.roles.known q r),
        λ (q r : ℕ).
            each
            (λ q r t. v.live q ≡ true
            → All (λ end. IsKnown v.base v.journal end ⊎ IsStagedEnd v.rows (rests v) q r t.handover.term end) (ends_of t.completions))
            q r its.calls (sound.calls.known q r),
        λ (q : ℕ) (lives : v.live q ≡ true) (place : ℕ) (call : Call) (there : get (v.calls q) place ≡ Some call).
            waits q place call (sound.rest.waiting q lives place call there),
        λ (q r : ℕ). each (λ q r t. IsBareOf t.handover (v.written q) (v.records q)) q r its.receives (sound.receives.bare q r),
      )

  -- of another row each master has what it had
  row_on : (x : Row) → Contains v.rows x → SoundRow now x
  row_on x has =
      ⊎_elim
      (λ (its : x.tablet ≡ row.tablet). subst (SoundRow now) (sym (same_number v.rows x row sound.rows.apart has may.has_row its)) may.holds)
      (λ (apart : x.tablet ≡ row.tablet → ⊥).
      row_kept v now x (λ tablets. refl) (λ q. may.turned.apart q x.tablet (λ at its. apart its)) (row_in v sound x has))
      (cases_eq x.tablet row.tablet)

  pub view_with_tablet : SoundView now
  view_with_tablet = view_by_rows now beside (all_by (SoundRow now) v.rows row_on)
