use Rattle.rk_lane.proofs.Words.{◌≡◌, ℕ, List, All, Some, length, slice_get, subst, sym, ap, ◌∙◌, arith, length-map, replica_of}
use Rattle.rk_lane.proofs.Words.{no_segments, AreTold}
use Rattle.rk_world.specs.World.{new_backups}
use Rattle.rk_lane.proofs.Lanes.{told_new}
use Rattle.rk_lane.proofs.lane.Lane.new.Goals as goal

pub returns-clause-told : goal.returns-clause-told
returns-clause-told g c =
    λ tell.
    let replicas = c.in_ok-numbered.ensures.replicas in
    let count : length c.in_ok-numbered.field-0.items ≡ length c.args.replicas.items =
    sym (length-map c.in_ok-numbered.field-0.items replica_of) ∙ ap (λ (list : List g.row.R.Denot). length list) replicas in
    subst (λ (n : ℕ). AreTold g.R.Replica.segments c.in_ok-numbered.field-0.items (new_backups n)) count
    (told_new g.R.Replica.segments c.in_ok-numbered.field-0.items 0 c.in_ok-numbered.field-0.items (λ place backup there. ap (slice_get c.in_ok-numbered.field-0.items) (omega arith) ∙ there)
    (subst (All (λ replica. g.R.Replica.segments replica ≡ Some no_segments)) (sym replicas) tell))
