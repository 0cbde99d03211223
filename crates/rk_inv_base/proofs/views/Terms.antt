-- Laws of the part Terms: what a message that is sent, and a tablet that looks the same, keep of it.
use Rattle.rk_inv_base.proofs.Words.{arith, sym, ◌∙◌, ℕ, List, slice_index_or, NumberMap, meets, Handover, Row, Message, HandoverFits}
use Rattle.rk_inv_base.proofs.Words.{Terms}
use Rattle.rk_inv_base.proofs.Base.{LooksAs}

-- a tablet that looks as before fits beside a row as before
pub handover_looks : (row : Row) (number : ℕ) (old new : Handover) → LooksAs old new → HandoverFits row number old → HandoverFits row number new
handover_looks row number old new looks fits = grind (arith, meets)

-- each tablet looks as before
pub terms_looks : (rows : List Row) (handovers handovers' : ℕ → ℕ → Handover) (wire : NumberMap Message) → Terms rows handovers wire → ((q r : ℕ) → LooksAs (handovers q r) (handovers' q r)) → Terms rows handovers' wire
terms_looks rows handovers handovers' wire old looks = record {
  kept = λ master number k d within.
      handover_looks (slice_index_or rows k d) number (handovers master number) (handovers' master number) (looks master number)
      (old.kept master number k d within);
  begun = λ master number there.
      rw (looks master number).term (old.begun master number (sym (looks master number).role.absent ∙ there));
  apart = λ master a b other a_there b_there.
      (λ i. meets ((looks master a).range i) ((looks master b).range i))
      ∙ old.apart master a b other (sym (looks master a).role.absent ∙ a_there) (sym (looks master b).role.absent ∙ b_there);
  sent = old.sent;
}
