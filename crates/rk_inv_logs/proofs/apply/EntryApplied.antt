-- A lane stays sound when the next entry of a living master's log is applied, whichever it is: that of a call, or one with which no call
-- ends.
use Rattle.std.proofs.Common.{◌≡◌, ℕ, Bool, true, false, Option, Some, None, refl, sym, ◌∙◌, arith, slice_get}
use Rattle.rk_inv_base.proofs.Words.{get, Call, Entry, is_marked, World, log_in, master_at, written_in, MayApply, is_call_entry, view}
use Rattle.rk_inv_base.proofs.Words.{IsSound, SoundView}
use Rattle.rk_inv_logs.specs.apply.Small.{entry_applied, entry_applied_in}
use Rattle.rk_inv_logs.proofs.apply.CallApplied.{sound_call_applied}
use Rattle.rk_inv_logs.proofs.apply.Passing.{view_carried, view_marked}
use Rattle.rk_inv_logs.proofs.apply.EntryPassed.{sound_passed}
use Rattle.rk_inv_logs.proofs.apply.JoinedApplied.{view_joined}
use Rattle.rk_entry.specs.declared.entry.Entry.TheVariants as entries

module _ (w : World) (master : ℕ) (sound : IsSound w) (may : MayApply (view w) master) where
  -- if no call waits
  module _ (none : get (master_at w master).calls (master_at w master).applied ≡ None) where
    -- the entry is none of a call, if it bears no mark
    no_call : (entry : Entry) → slice_get (log_in w master).entries (master_at w master).applied ≡ Some entry → is_marked (written_in w master).marks (master_at w master).applied ≡ false → is_call_entry entry ≡ true → ⊥
    no_call entry stands free is =
        let has = sound.rest.found master may.lives (master_at w master).applied entry (omega arith) stands is free in
        absurd (cc (sym none ∙ has.waits))

    passed : (entry : Entry) → slice_get (log_in w master).entries (master_at w master).applied ≡ Some entry → (marked : Bool) → is_marked (written_in w master).marks (master_at w master).applied ≡ marked → SoundView (entry_applied (view w) master entry)
    passed entry stands true is = view_marked (view w) master entry sound (assumption)
    passed (entries.Held held) stands false is = absurd (no_call (entries.Held held) stands is refl)
    passed (entries.Refused refused) stands false is = absurd (no_call (entries.Refused refused) stands is refl)
    passed (entries.Carried carried) stands false is =
        view_carried (view w) master carried sound (assumption)
    passed (entries.Joined joined) stands false is =
        view_joined (view w) master joined sound (assumption)

  pub sound_applied : (entry : Entry) → slice_get (log_in w master).entries (master_at w master).applied ≡ Some entry → IsSound (entry_applied_in w master entry)
  sound_applied entry stands = go (get (master_at w master).calls (master_at w master).applied) refl
    where
      go : (waits : Option Call) → get (master_at w master).calls (master_at w master).applied ≡ waits → IsSound (entry_applied_in w master entry)
      go (Some call) is = sound_call_applied w master call entry sound (record { held = may; waits = is }) stands
      go None is =
          sound_passed w master entry is
          (passed is entry stands (is_marked (written_in w master).marks (master_at w master).applied) refl)
