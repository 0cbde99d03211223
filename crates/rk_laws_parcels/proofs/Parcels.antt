-- What the laws of parcels rest on: numbers that are not given again, and what is known of a lane once a parcel was replayed.
use Rattle.std.proofs.Common.{◌≡◌, ◌≤◌, ◌+◌, ℕ, Bool, true, false, cond, eqb, Option, Some, None, Result, Ok, Err, refl}
use Rattle.std.proofs.Common.{sym, ap, ◌∙◌, arith}
use Rattle.rk_world.specs.declared.event.Event.{Event}
use Rattle.rk_types.proofs.NumberMaps.{get_other, get_remove, get_removed}
use Rattle.rk_types.specs.NumberMap.{get}
use Rattle.rk_message.specs.Wire.{HasSentNumbers, Traffic, with_message, without_message}
use Rattle.rk_message.specs.declared.message.Message.{Message}
use Rattle.rk_world.specs.Backup.{Called, Gave}
use Rattle.rk_world.specs.Refusals.{delivery_fault, wire_fault}
use Rattle.rk_world.specs.Runs.{Happens, after, world_stepped}
use Rattle.rk_world.specs.Step.{Stepped, step, stepped_by}
use Rattle.rk_world.specs.World.{World}
use Rattle.rk_world.specs.declared.error.StepError.{StepError}
use Rattle.rk_laws_parcels.specs.Replayed.{forgotten, forgotten_after, passed_over, replayed, replayed_by}

-- ---- numbers that are not given again

-- a message was sent under this number
abbrev pub WasSent : ℕ → Traffic → Type 0
WasSent number wire = number ≤ wire.sent

pub sent_before : (number : ℕ) (message : Message) (wire : Traffic) → WasSent number wire → WasSent number (with_message message wire)
sent_before number message wire before = omega (arith, before)

-- and it was forgotten
abbrev pub IsGone : ℕ → Traffic → Type 0
IsGone number wire = WasSent number wire × (get wire.messages number ≡ None)

pub gone_sent : (number : ℕ) (message : Message) (wire : Traffic) → IsGone number wire → IsGone number (with_message message wire)
gone_sent number message wire (before, none) = (
  omega (arith, before),
  get_other wire.messages (wire.sent + 1) message number (λ same. absurd (omega (arith, same, before))) ∙ none,
)

pub gone_forgotten : (number other : ℕ) (wire : Traffic) → IsGone number wire → IsGone number (without_message other wire)
gone_forgotten number other wire (before, none) = (before, get_remove wire.messages other number ∙ go (eqb number other))
  where
    go : (b : Bool) → cond b None (get wire.messages number) ≡ None
    go true = refl
    go false = none

-- ---- one parcel

-- what is forgotten is not on the wire
pub forgets : (w : World) (number : ℕ) → get (forgotten w number).wire.messages number ≡ None
forgets w number = go (get w.wire.messages number) refl
  where
    go : (found : Option Message) → get w.wire.messages number ≡ found
        → get (world_stepped w (stepped_by w (Event.Forget number) (Gave None) (wire_fault number found))).wire.messages number ≡ None
    go None there = there
    go (Some message) there = get_removed w.wire.messages number

abbrev pub ok_world : World → Result World StepError
ok_world w = Ok w

-- what is known of the lane after that
pub record Replays (w : World) (number : ℕ) (called : Called) (now : World) : Type 0 where
  pub is : now ≡ forgotten (after w (Happens (Event.Deliver number) called)) number

pub replays : (w : World) (number : ℕ) (called : Called) (now : World) → passed_over w number ≡ None → replayed w number called ≡ Ok now
    → Replays w number called now
replays w number called now taken makes = go (step w (Event.Deliver number) called) refl
  where
    go : (it : Result Stepped StepError) → step w (Event.Deliver number) called ≡ it → Replays w number called now
    go (Err error) comes =
        let one : replayed w number called ≡ Err error = ap (replayed_by w number called) taken ∙ ap (forgotten_after number) comes in
        absurd (cc)
    go (Ok stepped) comes =
        let one : replayed w number called ≡ Ok (forgotten stepped.world number) =
        ap (replayed_by w number called) taken ∙ ap (forgotten_after number) comes in
        let world : forgotten stepped.world number ≡ now = cc in
        record { is = sym world ∙ ap (λ (it : Result Stepped StepError). forgotten (world_stepped w it) number) (sym comes) }

-- ---- whatever happens in between

-- a message on the wire was sent
pub was_sent : (w : World) (number : ℕ) → HasSentNumbers w.wire → passed_over w number ≡ None → WasSent number w.wire
was_sent w number numbers taken = go (get w.wire.messages number) refl taken
  where
    go : (found : Option Message) → get w.wire.messages number ≡ found → delivery_fault number found ≡ None → WasSent number w.wire
    go None there wrong = absurd (cc)
    go (Some message) there free = (numbers number message there).1
