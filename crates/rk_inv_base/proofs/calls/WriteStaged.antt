-- A view stays sound when a write is staged that its master may serve and that goes on lawfully.
use Rattle.rk_inv_base.proofs.Words.{arith, ◌≡◌, ℕ, ◌+◌, List, Option, refl, ◌∙◌, ◌++◌, Call, Held, Row, counted_up, item_of}
use Rattle.rk_inv_base.proofs.Words.{with_staged, World, master_at, tablet_in, MayAppend, IsNext, View, view, truths, rests, SoundView}
use Rattle.rk_inv_base.proofs.Words.{write_staged, MayStage, write_staged_in}
use Rattle.rk_entry.specs.declared.entry.Entry.TheVariants as entries
use Rattle.rk_sound.specs.Small.{staged}
use Rattle.rk_inv_base.proofs.Base.{put_same, put2_same, tablet_here, tablet_apart, view_master, next_push, counter_low, row_in}
use Rattle.rk_inv_base.proofs.calls.Histories.{last_asked, write_goes_on}
use Rattle.rk_inv_base.proofs.calls.CallAppended.{view_appended}

module _ (v : View) (master : ℕ) (call : Call) (value : Option (List ℕ)) (sound : SoundView v) (may : MayStage v master call value) where
  abbrev row : Row
  row = may.served.row

  -- the version that the item gets
  abbrev version : ℕ
  version = (v.handovers master may.served.row.tablet).counter

  -- the item that the call leaves
  abbrev item : Held
  item = item_of call (v.handovers master may.served.row.tablet).counter value

  -- its master speaks for the row, so the version is above all that counts for it
  low : IsNext (truths v row ++ rests v row) version
  low = counter_low v master call.table call.key sound.counters may.served

  -- so the item may be appended, and the counter rises above its version
  may_append : MayAppend v master call (entries.Held item) (version + 1)
  may_append = record {
    served = may.served;
    room = may.room;
    own = record { client_is = refl; seq_is = refl; table_is = refl; key_is = refl };
    above = grind (arith, truths, rests, low);
    next = next_push (truths v row) (rests v row) version item refl low;
    last = last_asked v.asked v.journal call may.ends.last may.ends.same_call;
    goes_on =
        write_goes_on v.base row.range (truths v row) (rests v row) v.journal v.asked call version value
        (row_in v sound row may.served.has_row).rest.goes_on
        may.ends may.leaves low;
  }

  pub view_staged : SoundView (staged v master may.served.row.tablet call value)
  unfolding may_append
  view_staged = view_appended v master call (entries.Held item) (version + 1) sound may_append

-- what a staged write makes of a view
pub staged_is : (w : World) (master number : ℕ) (call : Call) (value : Option (List ℕ)) → view (write_staged_in w master number call value) ≡ staged (view w) master number call value
staged_is w master number call value =
    let old = master_at w master in
    let tablet = tablet_in w master number in
    let more = with_staged old call (entries.Held (item_of call tablet.handover.counter value)) in
    view_master w master (write_staged old number call value) number (counted_up tablet) refl
    (tablet_here more number (counted_up tablet)) (tablet_apart more number (counted_up tablet))
    ∙ (λ i. record (staged (view w) master number call value) {
      records = put_same (view w).records master i;
      completions = put2_same (view w).completions master number i;
      pullings = put2_same (view w).pullings master number i;
      gathers = put2_same (view w).gathers master number i;
      merged = put2_same (view w).merged master number i;
    })
