-- What holds of a wire, through what is sent and forgotten.
use Rattle.std.proofs.Common.{◌≡◌, ℕ, ◌+◌, ◌-◌, ◌^◌, ◌<◌, ◌≤◌, Option, Some, None, refl, sym, ap, ◌∙◌, arith}
use Rattle.rk_types.specs.NumberMap.{get}
use Rattle.rk_types.proofs.NumberMaps.{each_insert, each_less, each_weaker, remove_less, in_order_insert, in_order_remove}
use Rattle.rk_message.specs.declared.message.Message.{Message}
use Rattle.rk_message.specs.Frames.{frame_len, IsLawfulMessage}
use Rattle.rk_message.specs.Wire.{HasSentNumbers, IsConsistent, Traffic, silent, with_message, without_message}
use Rattle.rk_message.proofs.Sums.{weight_of-insert, weight_of-remove}

-- the next number has no message
free : (wire : Traffic) → HasSentNumbers wire → (found : Option Message) → get wire.messages (wire.sent + 1) ≡ found → found ≡ None
free wire numbers None is = refl
free wire numbers (Some message) is = let past = (numbers (wire.sent + 1) message is).1 in absurd (omega arith)

pub IsConsistent-silent : IsConsistent silent 0
IsConsistent-silent = grind arith

pub IsConsistent-with_message : (message : Message) (wire : Traffic) (bytes : ℕ) → IsLawfulMessage message → frame_len message < 2 ^ 32 → IsConsistent wire bytes
    → IsConsistent (with_message message wire) (bytes + frame_len message)
IsConsistent-with_message message wire bytes lawful short kept = record {
  order = in_order_insert wire.messages (wire.sent + 1) message kept.order;
  numbers = each_insert (λ n _. (1 ≤ n) × (n ≤ wire.sent + 1)) wire.messages (wire.sent + 1) message
      (each_weaker (λ n _. (1 ≤ n) × (n ≤ wire.sent)) (λ n _. (1 ≤ n) × (n ≤ wire.sent + 1)) wire.messages (λ n _ old. (old.0, omega (arith, old.1))) kept.numbers)
      (omega arith, omega arith);
  lawful = each_insert (λ _ m. IsLawfulMessage m) wire.messages (wire.sent + 1) message kept.lawful lawful;
  counted = ap (λ n. n + frame_len message) kept.counted
      ∙ sym (weight_of-insert frame_len wire.messages (wire.sent + 1) message (free wire kept.numbers (get wire.messages (wire.sent + 1)) refl));
  within = omega (arith, kept.within);
}

pub IsConsistent-without_message : (n : ℕ) (message : Message) (wire : Traffic) (bytes : ℕ) → get wire.messages n ≡ Some message → IsConsistent wire bytes
    → (frame_len message ≤ bytes) × IsConsistent (without_message n wire) (bytes - frame_len message)
IsConsistent-without_message n message wire bytes there kept =
    let parts = weight_of-remove frame_len wire.messages n message kept.order there in
    let counted = kept.counted in (
      omega arith,
      record {
        order = in_order_remove wire.messages n kept.order;
        numbers = each_less _ _ wire.messages (remove_less wire.messages n) kept.numbers;
        lawful = each_less _ _ wire.messages (remove_less wire.messages n) kept.lawful;
        counted = omega arith;
        within = omega (arith, kept.within);
      },
    )
