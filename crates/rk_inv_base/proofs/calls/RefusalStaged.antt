-- A view stays sound when a refusal is staged that its master may serve and that goes on lawfully.
use Rattle.rk_inv_base.proofs.Words.{◌≡◌, ℕ, Bool, refl, ◌∙◌, ◌++◌, All-nil, Call, Held, Row, refusal_of, World, master_at, tablet_in}
use Rattle.rk_inv_base.proofs.Words.{MayAppend, refused_as, IsNext, View, view, truths, rests, SoundView, refusal_staged, MayRefuse}
use Rattle.rk_inv_base.proofs.Words.{refused, refusal_staged_in}
use Rattle.rk_inv_base.proofs.Base.{put_same, put2_same, view_master, next_stays, counter_low, row_in}
use Rattle.rk_inv_base.proofs.calls.Histories.{last_asked, refusal_goes_on}
use Rattle.rk_inv_base.proofs.calls.CallAppended.{view_appended}

module _ (v : View) (master : ℕ) (call : Call) (found : ℕ) (absent : Bool) (sound : SoundView v) (may : MayRefuse v master call (refused_as found absent)) where
  abbrev row : Row
  row = may.served.row

  abbrev counter : ℕ
  counter = (v.handovers master may.served.row.tablet).counter

  -- the refusal has no version, so the counter may stay what it is
  may_append : MayAppend v master call (refusal_of call found absent) counter
  may_append = record {
    served = may.served;
    room = may.room;
    own = record { client_is = refl; seq_is = refl; table_is = refl; key_is = refl };
    above = All-nil (λ (held : Held). IsNext (truths v row ++ rests v row) held.version);
    next = next_stays (truths v row) (rests v row) counter _ (counter_low v master call.table call.key sound.counters may.served);
    last = last_asked v.asked v.journal call may.ends.last may.ends.same_call;
    goes_on =
        refusal_goes_on v.base row.range (truths v row) (rests v row) v.journal v.asked call found absent
        (row_in v sound row may.served.has_row).rest.goes_on
        may.ends may.leaves;
  }

  pub view_refused : SoundView (refused v master may.served.row.tablet call found absent)
  unfolding may_append
  view_refused = view_appended v master call (refusal_of call found absent) counter sound may_append

-- what a staged refusal makes of a view: the tablet may be any, since its counter stays
pub refused_is : (w : World) (master number : ℕ) (call : Call) (found : ℕ) (absent : Bool) → view (refusal_staged_in w master call found absent) ≡ refused (view w) master number call found absent
refused_is w master number call found absent =
    view_master w master (refusal_staged (master_at w master) call found absent) number (tablet_in w master number) refl refl (λ r apart. refl)
    ∙ (λ i. record (refused (view w) master number call found absent) {
      records = put_same (view w).records master i;
      completions = put2_same (view w).completions master number i;
      pullings = put2_same (view w).pullings master number i;
      gathers = put2_same (view w).gathers master number i;
      merged = put2_same (view w).merged master number i;
    })
