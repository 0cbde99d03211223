-- A target that takes a batch has room to seal behind it, if the lane has room once the batch is taken.
use Rattle.std.proofs.Common.{Bool, List, [], ap, arith, cond, fold, length, refl, true, ℕ, ◌+◌, ◌∙◌, ◌∷◌, ◌≡◌}
use Rattle.rk_inv_base.proofs.Words.{HasRoom, Held, IsWellFormed, Master, Pulled, Tablet, World, batch_taken, changed, end, get_same}
use Rattle.rk_inv_base.proofs.Words.{insert, is_token, items_of, joined, joining_by, log_bytes, master_at, pulled_all, sealed_sides}
use Rattle.rk_inv_base.proofs.Words.{sealing, tablet_at, token_passed, view, with_side_segment, worked_at}
use Rattle.rk_inv_wellformed.proofs.bytes.Sizes.{side_bytes}
use Rattle.rk_inv_events.proofs.Words.{AreSealedThere, length_push, tablet_here, within_sum_of}
use Rattle.rk_inv_events.proofs.events.Crashing.{segments_left}
use Rattle.rk_inv_events.proofs.pulls.Batches.{keeps_all}
use Rattle.rk_inv_events.proofs.stored.StoredTaken.{sides_few}
use Rattle.rk_inv_events.specs.pulls.Moves.{MaySealBehind, batch_replayed}

-- ---- side segments

-- each piece is one side segment more
pieces_counted : (pieces : List (List Held)) (master : Master) → length (fold with_side_segment master pieces).log.sides ≡ length master.log.sides + length pieces
pieces_counted [] master = omega arith
pieces_counted (items ∷ pieces) master =
    let next = with_side_segment master items in
    let later = pieces_counted pieces next in
    let here : length next.log.sides ≡ length master.log.sides + 1 = length_push master.log.sides _ in
    omega (arith, later, here)

pub joined_sides : (master : Master) (number : ℕ) (tablet : Tablet) (sealed : List ℕ) → (joining_by master number tablet sealed).log.sides ≡ master.log.sides
joined_sides master number tablet sealed = grind (arith, joined)

-- ---- a target that takes the last batch

module _ (master : Master) (pulled : Pulled) where
  abbrev tablet : ℕ
  tablet = pulled.tenure.tablet

  abbrev replayed : Master
  replayed = batch_replayed master pulled

  abbrev passed : Master
  passed = token_passed (batch_replayed master pulled) pulled.tenure.tablet pulled.next

  abbrev pieces : List (List Held)
  pieces = sealed_sides (tablet_at (batch_replayed master pulled) pulled.tenure.tablet).pulling.sides

  -- the side segments that it has then
  sides_then : length (pulled_all passed pulled.tenure.tablet).log.sides ≡ length master.log.sides + length pieces
  sides_then = grind (arith, sealing, tablet_at, sealed_sides, joined_sides, pieces_counted, keeps_all, items_of, tablet_here)

  pub sides_behind : is_token pulled.next end ≡ true → length (batch_taken master pulled.tenure.tablet pulled).log.sides ≡ length master.log.sides + length pieces
  sides_behind last = ap (λ (b : Bool). length (cond b (pulled_all passed tablet) passed).log.sides) last ∙ sides_then

-- the same token
itself : is_token end end ≡ true
itself = refl

module _ (w : World) (master : ℕ) (pulled : Pulled) (formed : IsWellFormed w) (room : HasRoom w) (there : AreSealedThere (view w) master) where
  abbrev now : Master
  now = batch_taken (master_at w master) pulled.tenure.tablet pulled

  abbrev after : World
  after = (worked_at w master 0 (changed (batch_taken (master_at w master) pulled.tenure.tablet pulled))).world

  pub may_seal_behind : IsWellFormed after → HasRoom after → pulled.next ≡ end → MaySealBehind w master pulled
  may_seal_behind formed_after room_after last =
      let its = formed_after.masters master now (get_same w.masters master now master refl) in
      let part = within_sum_of log_bytes (insert w.masters master now) master now (get_same w.masters master now master refl) in
      let count = sides_behind (master_at w master) pulled (rw last itself) in
      record {
        there = there;
        sides = omega (arith, sides_few now.log.sides its.sides, part, room_after.bytes, side_bytes now, count);
        room = segments_left w formed room master;
      }
