-- The coordinator's turn: it sends a message for each row that is not owned.
use Rattle.std.proofs.Common.{◌≡◌, ◌≤◌, ◌<◌, ℕ, false, List, [], ◌∷◌, length, refl, ap, ◌∙◌, ⊎_elim, arith, All, Contains, ◌≢◌}
use Rattle.std.proofs.Common.{flat_map, length-append}
use Rattle.rk_inv_base.proofs.Words.{Event, Node, false≢true, All-contains, Phase, Owned, Row, Message, Called, Coordinator}
use Rattle.rk_inv_base.proofs.Words.{coordinator_turn, row_duty, happened, World, has_crashed}
use Rattle.rk_world.specs.Quiet.{IsOwnedLive}
use Rattle.rk_inv_wellformed.proofs.room.Rises.{sent_all}
use Rattle.rk_inv_base.proofs.rows.Apart.{contains_cases}
use Rattle.rk_inv_base.proofs.views.Lists.{all_by}
use Rattle.rk_runs.specs.duties.Owners.{AllNoticed, IsNotOwnedBy, NoDeadOwner, is_owned}

-- ---- rows that are not owned

-- there is a message for such a row
duty_sends : (coordinator : Coordinator) (row : Row) (phase : Phase) → is_owned phase ≡ false → 1 ≤ length (row_duty coordinator row phase)
duty_sends coordinator row phase unowned = grind arith

duties_send : (coordinator : Coordinator) (rows : List Row) (row : Row) → Contains rows row → is_owned row.phase ≡ false
    → 1 ≤ length (flat_map (λ (r : Row). row_duty coordinator r r.phase) rows)
duties_send coordinator [] row stands unowned = absurd (omega (arith, stands.1))
duties_send coordinator (first ∷ rest) row stands unowned =
    let long = length-append (row_duty coordinator first first.phase) (flat_map (λ (r : Row). row_duty coordinator r r.phase) rest) in
    ⊎_elim
    (λ (is : first ≡ row).
    omega (arith, long, duty_sends coordinator first first.phase (ap (λ (r : Row). is_owned r.phase) is ∙ unowned)))
    (λ (later : Contains rest row). omega (arith, long, duties_send coordinator rest row later unowned))
    (contains_cases first rest row stands)

-- so the coordinator has something to send on its turn
pub turn_sends : (coordinator : Coordinator) (row : Row) → Contains coordinator.rows row → is_owned row.phase ≡ false → 1 ≤ length (coordinator_turn coordinator)
turn_sends coordinator row stands unowned = duties_send coordinator coordinator.rows row stands unowned

pub turn_says : (coordinator : Coordinator) (row : Row) → Contains coordinator.rows row → is_owned row.phase ≡ false → coordinator_turn coordinator ≢ []
turn_says coordinator row stands unowned none =
    omega (arith, turn_sends coordinator row stands unowned, ap (λ (messages : List Message). length messages) none)

-- ---- a coordinator that has nothing to send

module _ (w : World) (free : NoDeadOwner w.coordinator) (noticed : AllNoticed w) where
  -- an owner lives
  owner_lives : (master from : ℕ) → IsNotOwnedBy w.coordinator.noticed (Owned master from) → IsOwnedLive w.crashed (Owned master from)
  owner_lives master from heard = grind (arith, has_crashed, false≢true)

  row_lives : (row : Row) (phase : Phase) → row.phase ≡ phase → coordinator_turn w.coordinator ≡ [] → Contains w.coordinator.rows row → IsNotOwnedBy w.coordinator.noticed phase
      → IsOwnedLive w.crashed phase
  row_lives row (Owned master from) is none stands heard = owner_lives master from heard
  row_lives row phase is none stands heard = absurd (turn_says w.coordinator row stands (ap is_owned is) none)

  pub silent_owned : coordinator_turn w.coordinator ≡ [] → All (λ row. IsOwnedLive w.crashed row.phase) w.coordinator.rows
  silent_owned none =
      all_by (λ (row : Row). IsOwnedLive w.crashed row.phase) w.coordinator.rows
      (λ row stands.
      row_lives row row.phase refl none stands
      (All-contains (λ (r : Row). IsNotOwnedBy w.coordinator.noticed r.phase) w.coordinator.rows row free stands))

  pub disowned_sends : (called : Called) → (All (λ row. IsOwnedLive w.crashed row.phase) w.coordinator.rows → ⊥)
      → w.wire.sent < (happened w (Event.Turn Node.Coordinator) called).world.wire.sent
  disowned_sends called disowned = go (coordinator_turn w.coordinator) refl
    where
      go : (messages : List Message) → coordinator_turn w.coordinator ≡ messages → w.wire.sent < (happened w (Event.Turn Node.Coordinator) called).world.wire.sent
      go [] none = absurd (disowned (silent_owned none))
      go (message ∷ messages) some =
          omega (arith, sent_all w.wire (coordinator_turn w.coordinator), ap (λ (list : List Message). length list) some)
