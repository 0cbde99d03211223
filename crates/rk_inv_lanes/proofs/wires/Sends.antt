-- What a master sends, and how many calls wait at it then, when it takes a message: together they come to less than the message itself.
use Rattle.std.proofs.Common.{◌≡◌, ◌≤◌, ◌<◌, ◌+◌, ℕ, List, [], length, Option, Some, None, ap, arith, sum_by, refl}
use Rattle.rk_inv_base.proofs.Words.{sum_by-append, NumberMap, Call, Overreach, Body, Message, Stored, apply_entries, newly_held}
use Rattle.rk_inv_base.proofs.Words.{stored_taken, Master, with_known, chosen, Worked, Choice, ⊤}
use Rattle.rk_inv_lanes.specs.wires.Emptied.{deliveries_of}
use Rattle.rk_inv_lanes.proofs.masters.Changes.{IsLasting, all_going_on_has, of_lasting}
use Rattle.rk_inv_lanes.proofs.wires.Sums.{length_inserted, length_removed}
use Rattle.rk_inv_events.proofs.stored.StoredTaken.{AnyNext, Passes, entries_pass}

-- the deliveries that messages bring
abbrev pub deliveries_in : List Message → ℕ
deliveries_in messages = sum_by (λ (message : Message). deliveries_of message.body) messages

-- what a master sends, and the calls that wait then, come to less than so many deliveries and the calls that waited
abbrev pub Spends : ℕ → Master → Worked → Type 0
Spends most master worked = deliveries_in worked.sends + length worked.master.calls < most + length master.calls

-- each message brings its own delivery
pub one_delivery : (body : Body) → 1 ≤ deliveries_of body
one_delivery (Body.Joined tenure) = omega arith
one_delivery body = omega arith

-- calls that wait stay the same in all that a master does but taking a Request and applying entries
pub same_calls : (calls : NumberMap Call) → IsLasting (λ log applied now sides records. now ≡ calls) (λ item. ⊤)
same_calls calls = grind arith

-- ---- a Request

pub chosen_spends : (master : Master) (asked : ℕ) (call : Call) (choice : Choice) → Spends 2 master (chosen master asked call choice)
chosen_spends master asked call choice = grind (arith, length_inserted)

-- ---- a Stored: each call that is answered waits no more

-- the replies and the calls that wait then are no more than the calls that waited
abbrev Answers : Master → Worked → Type 0
Answers master worked = deliveries_in worked.sends + length worked.master.calls ≤ length master.calls

answers : Passes AnyNext Answers
answers = grind (arith, length_removed, sum_by-append)

pub stored_spends : (master : Master) (backup : ℕ) (stored : Stored) (over : Option Overreach) → Spends 1 master (stored_taken master backup stored over)
stored_spends master backup stored (Some beyond) = omega arith
stored_spends master backup stored None =
    let known = with_known master backup stored.segment stored.length in
    let worked = apply_entries known (newly_held known) in
    omega (
      arith,
      entries_pass answers (newly_held known) known (λ place none inside. tt),
      sum_by-append (λ (message : Message). deliveries_of message.body) worked.sends [],
      ap (λ (calls : NumberMap Call). length calls) (all_going_on_has (of_lasting (same_calls worked.master.calls)) worked.master refl),
    )
