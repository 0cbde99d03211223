-- A turn of a master that sends nothing: the master is as it was, and so is the lane.
use Rattle.rk_lane.proofs.Words.{arith}
use Rattle.std.proofs.Common.{◌≡◌, ◌-◌, ℕ, false, List, [], ◌∷◌, ◌++◌, length, set, Option, Some, None, refl, ap, subst, ◌∙◌, append-nil}
use Rattle.std.proofs.lemmas.List.{set-get_or}
use Rattle.std.proofs.lemmas.Option.{get_or_from_slice_get}
use Rattle.rk_types.specs.NumberMap.{NumberMap}
use Rattle.rk_types.specs.declared.node.Node.TheVariants as nodes
use Rattle.rk_transfer.specs.declared.role.Role.{Role}
use Rattle.rk_message.specs.declared.message.Message.{Message}
use Rattle.rk_world.specs.Backup.{Gave}
use Rattle.rk_world.specs.Master.{Master}
use Rattle.rk_world.specs.MasterTurn.{duties, master_turn, tablet_duty}
use Rattle.rk_world.specs.Premises.{IsMaster}
use Rattle.rk_world.specs.Step.{quietly, worked_at}
use Rattle.rk_world.specs.Tablet.{Tablet}
use Rattle.rk_world.specs.World.{has_crashed, with_ledger, with_master}
use Rattle.rk_world.specs.Worked.{Worked, changed, then_works}
use Rattle.rk_world.specs.declared.error.StepError.TheVariants as errors
use Rattle.rk_world.specs.declared.event.Event.TheVariants as events
use Rattle.rk_world.specs.declared.event.Seen.{Seen}
use Rattle.rk_lane.specs.Made.{IsMade, IsReady}
use Rattle.rk_lane.specs.Masters.{IsAt}
use Rattle.rk_lane.specs.Parts.{masters_from, world_of}
use Rattle.rk_lane.specs.declared.parts.Parts.{Parts}
use Rattle.rk_lane.proofs.MasterWork.{inserted, turn_is}
use Rattle.rk_lane.proofs.Quiet.{alive, quiet_seen, stays_made}

-- ---- the master is as it was

-- two parts that send nothing together send nothing
neither_sends : (first more : List Message) → first ++ more ≡ [] → (first ≡ []) × (more ≡ [])
neither_sends [] more none = (refl, none)
neither_sends (one ∷ first) more none = absurd (cc none)

duty_nothing : (master : Master) (number : ℕ) (tablet : Tablet) (role : Role) → (tablet_duty master number tablet role).sends ≡ []
    → tablet_duty master number tablet role ≡ changed master
duty_nothing master number tablet role none = grind (arith, neither_sends)

duties_nothing : (tablets : NumberMap Tablet) (master : Master) → (duties master tablets).sends ≡ [] → duties master tablets ≡ changed master
duties_nothing [] master none = refl
duties_nothing ((number, tablet) ∷ others) master none =
    let first : Worked = tablet_duty master number tablet tablet.handover.role in
    let parts = neither_sends first.sends (duties first.master others).sends none in
    let is : first ≡ changed master = duty_nothing master number tablet tablet.handover.role parts.0 in
    let rest : duties master others ≡ changed master =
    duties_nothing others master (subst (λ (worked : Worked). (duties worked.master others).sends ≡ []) is parts.1) in
    (λ i. then_works (is i) (λ next. duties next others))
    ∙ (λ i. record { master = (rest i).master; sends = (rest i).sends; served = (rest i).served; marked = (rest i).marked })

-- a master that sends nothing on its turn is as it was, and nothing else comes of it
turn_nothing : (master : Master) → (master_turn master).sends ≡ [] → master_turn master ≡ changed master
turn_nothing master none = grind (arith, neither_sends, duties_nothing)

-- ---- the lane is as it was

pub rests_made : (parts : Parts) (number : ℕ) (it : Master) (seen : Seen) → IsReady parts (events.Turn (nodes.Master number)) → has_crashed (world_of parts []) number ≡ false
    → IsMaster (length parts.masters.items) number → IsAt parts.masters.items number it → (master_turn it).sends ≡ [] → seen ≡ quiet_seen
    → IsMade parts (events.Turn (nodes.Master number)) (Gave None) parts seen
rests_made parts number it seen ready lives there at none quiet =
    stays_made parts (events.Turn (nodes.Master number)) seen ready (alive _ (errors.Dead number) lives)
    (λ stored.
    turn_is parts number it there at stored
    ∙ ap (worked_at (world_of parts stored) number 0) (turn_nothing it none)
    ∙ (λ i. quietly (with_ledger (with_master (world_of parts stored) number it) (record parts.ledger { marks = append-nil parts.ledger.marks i })))
    ∙ ap (λ (masters : NumberMap Master). quietly (record (world_of parts stored) { masters = masters }))
    (inserted parts.masters.items number there it ∙ ap (masters_from 1) same))
    quiet
  where
    same : set parts.masters.items (number - 1) (Some it) ≡ parts.masters.items
    same =
        subst (λ (o : Option Master). set parts.masters.items (number - 1) o ≡ parts.masters.items) (get_or_from_slice_get parts.masters.items (number - 1) (Some it) None at)
        (set-get_or parts.masters.items (number - 1) None)
