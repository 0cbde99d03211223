-- The headline laws of parcels: a parcel that is replayed twice, or by two workers, delivers its message once.
use Rattle.std.proofs.Common.{◌≡◌, ℕ, Option, None, Ok, ap, [], ◌∷◌, Result, sym, ◌∙◌, subst, Some, refl, List}
use Rattle.rk_types.specs.NumberMap.{get}
use Rattle.rk_message.specs.Wire.{HasSentNumbers}
use Rattle.rk_message.specs.declared.message.Message.{Message}
use Rattle.rk_world.specs.Backup.{Called, Gave}
use Rattle.rk_world.specs.Refusals.{delivery_fault}
use Rattle.rk_world.specs.Runs.{Happens, run, world_stepped, after, Happening}
use Rattle.rk_world.specs.Step.{Stepped, step}
use Rattle.rk_world.specs.World.{World}
use Rattle.rk_world.specs.declared.error.StepError.{StepError}
use Rattle.rk_world.specs.declared.event.Event.{Event}
use Rattle.rk_laws_parcels.specs.Replayed.{replayed, replayed_by, forgotten, forgotten_after, passed_over}
use Rattle.rk_laws_parcels.proofs.Parcels.{ok_world, replays, forgets, gone_sent, gone_forgotten, WasSent, sent_before, IsGone, was_sent}
use Rattle.rk_laws_parcels.proofs.Wires.{run_keeps}

-- Whatever lane it is, and whatever the calls of replicas come to: a parcel delivers its message once, however often it is replayed.
-- A parcel whose message is not on the wire changes nothing and is not refused (`missing`). If a parcel is replayed that is not passed
-- over, its message reaches its receiver and is forgotten, as in a run (`delivers`), and is on the wire no more (`gone`). So replaying the
-- same parcel again changes nothing (`twice`), whatever happened in the lane in between: its number is not given to another message
-- (`later`), since the numbers of the wire are those of messages that were sent.

-- if there is no message nothing changes
pub missing : (w : World) (number : ℕ) (called : Called) → get w.wire.messages number ≡ None → replayed w number called ≡ Ok w
missing w number called none = ap (λ (found : Option Message). replayed_by w number called (delivery_fault number found)) none

-- a parcel that is not passed over is delivered and forgotten
pub delivers : (w : World) (number : ℕ) (called : Called) (stepped : Stepped) → passed_over w number ≡ None
    → step w (Event.Deliver number) called ≡ Ok stepped
    → replayed w number called ≡ Ok (run w (Happens (Event.Deliver number) called ∷ Happens (Event.Forget number) (Gave None) ∷ []))
delivers w number called stepped taken comes =
    ap (replayed_by w number called) taken
    ∙ ap (forgotten_after number) comes
    ∙ ap (λ (it : Result Stepped StepError). ok_world (forgotten (world_stepped w it) number)) (sym comes)

pub gone : (w : World) (number : ℕ) (called : Called) (now : World) → passed_over w number ≡ None → replayed w number called ≡ Ok now
    → get now.wire.messages number ≡ None
gone w number called now taken makes =
    let made = replays w number called now taken makes in
    subst (λ (it : World). get it.wire.messages number ≡ None) (sym made.is)
    (forgets (after w (Happens (Event.Deliver number) called)) number)

pub twice : (w : World) (number : ℕ) (called : Called) (now : World) (again : Called) → replayed w number called ≡ Ok now
    → replayed now number again ≡ Ok now
twice w number called now again makes = go (passed_over w number) refl
  where
    go : (why : Option StepError) → passed_over w number ≡ why → replayed now number again ≡ Ok now
    go None taken = missing now number again (gone w number called now taken makes)
    go (Some error) passed =
        let one : replayed w number called ≡ Ok w = ap (replayed_by w number called) passed in
        let world : w ≡ now = cc in
        subst (λ (it : World). replayed it number again ≡ Ok it) world (ap (replayed_by w number again) passed)

pub later : (w : World) (number : ℕ) (called : Called) (now : World) (happenings : List Happening) (again : Called) → HasSentNumbers w.wire
    → passed_over w number ≡ None → replayed w number called ≡ Ok now → replayed (run now happenings) number again ≡ Ok (run now happenings)
later w number called now happenings again numbers taken makes =
    let made = replays w number called now taken makes in
    let start : WasSent number w.wire = was_sent w number numbers taken in
    let kept : WasSent number now.wire =
    subst (λ (it : World). WasSent number it.wire) (sym made.is)
    (run_keeps (WasSent number) (sent_before number) (λ other wire before. before) w
    (Happens (Event.Deliver number) called ∷ Happens (Event.Forget number) (Gave None) ∷ []) start) in
    let none = gone w number called now taken makes in
    missing (run now happenings) number again
    (run_keeps (IsGone number) (gone_sent number) (gone_forgotten number) now happenings (kept, none)).1
