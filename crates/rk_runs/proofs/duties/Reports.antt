-- What the coordinator takes gives no row to a master that was noticed dead, since it does not hear one; and it notices none.
use Rattle.std.proofs.Common.{arith, ◌≡◌, ℕ, List, Option, Some, None, refl, All}
use Rattle.rk_inv_base.proofs.Words.{Node, changed_rows, row_of, Phase, Row, Body, Coordinator, told_coordinator}
use Rattle.rk_tablet_map.specs.Rows.{turned}
use Rattle.rk_inv_wellformed.proofs.coordinator.Rows.{all_replaced}
use Rattle.rk_inv_lanes.proofs.lanes.Reports.{IsMade, told_made}
use Rattle.rk_runs.specs.duties.Owners.{IsNotOwnedBy, NoDeadOwner}

-- none of these rows is owned by one of these masters
abbrev pub AreNotOwnedBy : List ℕ → List Row → Type 0
AreNotOwnedBy masters rows = All (λ row. IsNotOwnedBy masters row.phase) rows

-- a row is at another phase
pub changed_free : (masters : List ℕ) (rows : List Row) (tablet term : ℕ) (phase : Phase) → IsNotOwnedBy masters phase → AreNotOwnedBy masters rows
    → AreNotOwnedBy masters (changed_rows rows tablet term phase)
changed_free masters rows tablet term phase new all = go (row_of rows tablet)
  where
    go : (found : Option Row) → AreNotOwnedBy masters (turned found rows tablet term phase)
    go None = all
    go (Some row) =
        all_replaced (λ (r : Row). IsNotOwnedBy masters r.phase) (record row { term = term; phase = phase }) tablet rows new all

-- what rows and those who were noticed have, and still have once a row is at a phase in which none of these owns it
keeps : (P : List Row → List ℕ → Type 0) (coordinator : Coordinator) → P coordinator.rows coordinator.noticed
    → ((row : Row) (phase : Phase) → IsNotOwnedBy coordinator.noticed phase
    → P (changed_rows coordinator.rows row.tablet row.term phase) coordinator.noticed)
    → IsMade (λ body made. P made.coordinator.rows made.coordinator.noticed) coordinator
keeps P coordinator now at_phase = grind arith

-- no row comes to be owned by a master that was noticed dead
pub told_free : (coordinator : Coordinator) → NoDeadOwner coordinator → (sender : Node) (body : Body) → NoDeadOwner (told_coordinator coordinator sender body).coordinator
told_free coordinator free sender body = grind (arith, told_made, keeps, changed_free)

-- and nobody is noticed
pub told_same : (coordinator : Coordinator) (sender : Node) (body : Body) → (told_coordinator coordinator sender body).coordinator.noticed ≡ coordinator.noticed
told_same coordinator sender body =
    told_made (keeps (λ rows noticed. noticed ≡ coordinator.noticed) coordinator refl (λ row phase new. refl)) sender body
