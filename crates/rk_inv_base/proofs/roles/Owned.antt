-- A lane stays sound when the owner of a row, or a master that owned it at the term it keeps, serves once its closing entry is applied.
use Rattle.rk_inv_base.proofs.Words.{◌≡◌, ℕ, false, [], refl, sym, ap, ◌∙◌, arith, lt-ltb, false≢true, get, Handover, Row}
use Rattle.rk_inv_base.proofs.Words.{no_gather, Pulling, pulling_from, without_merged, World, tablet_in, MayTakeRole, post_of, speaks}
use Rattle.rk_inv_base.proofs.Words.{is_granted, role_taken, View, view, SoundView, MayOwn, as_serving, pulled, tablet_owned_in}
use Rattle.rk_inv_base.proofs.Base.{put2_by, put2_here, put2_same, IsTargetIn, view_role_taken, view_kept, row_in, at_most}
use Rattle.rk_inv_base.proofs.views.WithRecords.{view_with_pullings}

module _ (v : View) (row : Row) (master : ℕ) (sound : SoundView v) (may : MayOwn v row master) where
  abbrev old : Handover
  old = v.handovers master row.tablet

  abbrev applied : ℕ
  applied = (v.written master).applied

  pub serves : MayTakeRole v row master (as_serving old)
  serves = grind (arith, at_most, post_of, row_in, speaks, lt-ltb)

-- ---- what was pulled

-- a view stays sound when what is pulled of a tablet changes at a master that was not granted it
module _ (v : View) (master number : ℕ) (pulling : Pulling) (sound : SoundView v) (ungranted : is_granted (v.handovers master number).role ≡ false) where
  abbrev now : View
  now = pulled v master number (λ old. pulling)

  pub view_forgets_pulled : SoundView now
  view_forgets_pulled =
      view_with_pullings v now.pullings sound
      (λ row has source target is granted was.
      put2_by v.pullings master number (λ old. pulling)
      (λ p.
      IsTargetIn v.written row source target (v.handovers target.master row.tablet) p (get v.handed row.tablet)
      (v.records target.master))
      target.master row.tablet
      (λ at its.
      let not_here : is_granted (v.handovers target.master row.tablet).role ≡ false =
      (λ i. is_granted (v.handovers (at i) (its i)).role) ∙ ungranted in
      absurd (false≢true (sym not_here ∙ granted)))
      (λ apart. was))

-- ---- the world

-- a view in which a tablet serves, and nothing of it is pulled, gathered or merged
abbrev pub owned_view : View → ℕ → ℕ → View
owned_view v master number =
    pulled (role_taken v master number (as_serving (v.handovers master number)) no_gather []) master number (λ old. pulling_from 0)

pub view_owned : (w : World) (master number : ℕ) → view (tablet_owned_in w master number) ≡ owned_view (view w) master number
view_owned w master number =
    view_kept w master number
    (record (without_merged (tablet_in w master number)) {
      handover = as_serving (tablet_in w master number).handover;
      pulling = pulling_from 0;
    })
    ∙ (λ i. record (owned_view (view w) master number) { completions = put2_same (view w).completions master number i })

pub view_serves : (v : View) (row : Row) (master : ℕ) → SoundView v → MayOwn v row master → SoundView (owned_view v master row.tablet)
view_serves v row master sound may =
    let new : Handover = as_serving (v.handovers master row.tablet) in
    view_forgets_pulled (role_taken v master row.tablet new no_gather []) master row.tablet (pulling_from 0)
    (view_role_taken v row master new no_gather [] sound (serves v row master sound may))
    (ap (λ (h : Handover). is_granted h.role) (put2_here v.handovers master row.tablet new master row.tablet refl refl))
