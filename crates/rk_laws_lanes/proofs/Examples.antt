-- Worked examples of what a lane counts.
use Rattle.std.proofs.Common.{◌≡◌, Bool, true, false, [], ◌∷◌, refl}
use Rattle.rk_inv_base.proofs.Words.{Event, Call, Outcome, Placed}
use Rattle.rk_world.specs.Ledger.{new_ledger}
use Rattle.rk_laws_lanes.specs.Counts.{AddsNoClient, accepted_count}

pub accepted_count-new : accepted_count new_ledger ≡ 0
accepted_count-new = refl

-- of two records the first is accepted
pub accepted_count-two : (call : Call) (outcome : Outcome) → let placed : Bool → Placed = λ accepted. record { call = call; outcome = outcome; stamp = 1; accepted = accepted } in
    accepted_count (record new_ledger { journal = placed true ∷ placed false ∷ [] }) ≡ 1
accepted_count-two call outcome = refl

pub adds_no_client-crash : AddsNoClient (Event.Crash 1)
adds_no_client-crash = tt

pub adds_no_client-client : AddsNoClient (Event.AddClient 1) → ⊥
adds_no_client-client adds = adds
