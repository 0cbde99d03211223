-- A request that is sent again in a lane.
use Rattle.std.specs.Prelude.{◌≡◌, ℕ, ◌+◌, List, [], ◌∷◌, IfSome, Option, slice_get, Some}
use Rattle.rk_types.specs.NumberMap.{NumberMap}
use Rattle.rk_outside.specs.Segments.{Segments}
use Rattle.rk_message.specs.Wire.{HasSentNumbers}
use Rattle.rk_world.specs.Client.{Session}
use Rattle.rk_world.specs.Cluster.{Occurrence}
use Rattle.rk_world.specs.declared.event.Event.TheVariants as events
use Rattle.rk_lane.specs.LaneState.{LaneState}
use Rattle.rk_lane.specs.Requests.{AreForMasters}
use Rattle.rk_cluster.specs.Effects.{Acts, AreCutShort}
use Rattle.rk_cluster.specs.Makes.{in_lane}
use Rattle.rk_cluster.specs.Steps.{state_of}

-- the last request of a client is sent again in a lane, under this number, delivered and forgotten
abbrev pub again_at : ℕ → ℕ → ℕ → List Occurrence
again_at lane client number =
    in_lane lane (events.Again client) ∷ in_lane lane (events.Deliver number) ∷ in_lane lane (events.Forget number) ∷ []

-- what is sent next in a lane gets this number, and its requests are for masters
pub record IsNextIn {R : Type 0} (number : ℕ) (lane : LaneState R) : Type 0 where
  pub next : IfSome lane.running (λ running. number ≡ running.wire.sent + 1)
  pub numbered : IfSome lane.running (λ running. HasSentNumbers running.wire)
  pub requests : IfSome lane.running (λ _. AreForMasters lane.ledger.requests)

-- so it is in the lane at a place
abbrev pub IsNextAt : {R : Type 0} → List (LaneState R) → ℕ → ℕ → Type 0
IsNextAt {R} lanes place number = (lane : LaneState R) → slice_get lanes place ≡ Some lane → IsNextIn number lane

-- the last request of a client was sent again in a lane, up to the step at which a number is worn, if one is
abbrev pub IsSentAgain : {R : Type 0} → (R → Option Segments) → List (LaneState R) → List (LaneState R) → ℕ → ℕ → ℕ → Option ℕ → Type 0
IsSentAgain segments old new lane client number broken =
    (sessions : NumberMap Session) → Acts segments (state_of old sessions) (state_of new sessions) (again_at lane client number) [] broken

-- or that was cut short by want of memory
abbrev pub IsAgainCutShort : {R : Type 0} → (R → Option Segments) → List (LaneState R) → List (LaneState R) → ℕ → ℕ → ℕ → Type 0
IsAgainCutShort segments old new lane client number =
    (sessions : NumberMap Session) → AreCutShort segments (state_of old sessions) (state_of new sessions) (again_at lane client number)
