-- The numbers of the small world have room.
use Rattle.rk_inv_base.proofs.Words.{◌≡◌, ◌≤◌, refl, arith, All, flat_map, All-nil, All-from_recursion, bytes_of_logs, standing, AreAtMost}
use Rattle.rk_inv_base.proofs.Words.{numbers_of, numbers_told}
use Rattle.rk_entry.specs.Entries.{spelled_all}
use Rattle.rk_entry.specs.Numbers.{number_bytes}
use Rattle.rk_entry.specs.Spelling.{head_bytes, held_bytes, body_length, front_bytes, spelled, mark_of}
use Rattle.rk_entry.specs.Texts.{key_bytes, value_bytes}
use Rattle.rk_sound.specs.Whole.{HasRoom}
use Rattle.rk_inv_base.proofs.example.SmallWorld.{small_entry, small_request, small_world}
use Rattle.rk_inv_base.proofs.example.SmallWorldLooks.{all_one, each_master, each_message, each_none, each_request}

-- the log has 40 bytes
pub small_size : bytes_of_logs small_world ≡ 40
unfolding spelled_all spelled front_bytes body_length head_bytes held_bytes mark_of number_bytes key_bytes value_bytes
small_size = refl

-- the request carries what its client had seen
pub told_one : AreAtMost 4 (numbers_told small_request.body)
told_one = all_one (λ number. number ≤ 4) 0 (omega arith)

-- no number is above the greatest so far, and all are far below the bounds
pub small_has_room : HasRoom small_world
small_has_room = record {
  standing = All-from_recursion (λ number. number ≤ 4) (standing small_world) (omega arith, (omega arith, (omega arith, (omega arith, (omega arith, tt)))));
  entries = each_master (λ q m. All (λ entry. AreAtMost 4 (numbers_of entry)) m.log.entries)
      (all_one (λ entry. AreAtMost 4 (numbers_of entry)) small_entry (all_one (λ number. number ≤ 4) 1 (omega arith))) (λ q apart. All-nil _);
  sides = each_master (λ q m. All (λ item. item.version ≤ 4) (flat_map (λ items. items) m.sides)) (All-nil _) (λ q apart. All-nil _);
  floors = each_none _;
  sent = each_message (λ number message. AreAtMost 4 (numbers_told message.body)) told_one (All-nil _) (All-nil _) (All-nil _);
  again = each_request (λ client message. AreAtMost 4 (numbers_told message.body)) told_one;
  number_bound = omega arith;
  bytes_bound = omega (arith, small_size);
}
