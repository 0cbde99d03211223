-- A tablet is split: who owns it, and what the event makes.
use Rattle.rk_lane.proofs.Words.{◌≡◌, ◌≤◌, ◌<◌, ◌+◌, ◌^◌, ℕ, max, Bool, true, false, cond, List, [], length, All, None, Some, sym, ap}
use Rattle.rk_lane.proofs.Words.{subst, ◌∙◌, arith, option_map, All-head, NumberMap, Segments, row_of, Phase, Owned, Row, Gave, limits_of}
use Rattle.rk_lane.proofs.Words.{Master, IsMaster, fault_of, owner_split, row_split, rows_split, with_split, happened, quietly, greatest}
use Rattle.rk_lane.proofs.Words.{has_crashed, master_at, with_coordinator, with_master, Seen, keeps_to_top, terms_of, IsMade, IsReady, IsAt}
use Rattle.rk_lane.proofs.Words.{owner_in, IsKept, world_of, Parts, Owner}
use Rattle.rk_tablet_map.proofs.Lawful.{number_of}
use Rattle.rk_tablet_map.specs.Phase.{member}
use Rattle.rk_world.specs.Formed.{IsFormedRow, named_in}
use Rattle.rk_world.specs.Limits.{IsFormedMember}
use Rattle.rk_world.specs.Splits.{tablet_split_fault}
use Rattle.rk_world.specs.declared.error.StepError.TheVariants as errors
use Rattle.rk_world.specs.declared.event.Event.TheVariants as events
use Rattle.rk_inv_wellformed.proofs.coordinator.Rows.{all_found}
use Rattle.rk_lane.specs.Owners.{owner_by}
use Rattle.rk_lane.proofs.MasterWork.{master_is}
use Rattle.rk_lane.proofs.Moved.{made_by_change}
use Rattle.rk_lane.proofs.Quiet.{masters_counted, quiet_seen}

-- the row of a tablet, which this master owns
pub record IsOwned (rows : List Row) (tablet : ℕ) (owner : Owner) : Type 0 where
  pub row : Row
  pub from : ℕ
  pub found : row_of rows tablet ≡ Some row
  pub phase : row.phase ≡ Owned owner.master from
  pub term : row.term ≡ owner.term

owned_by : (rows : List Row) (tablet : ℕ) (owner : Owner) (row : Row) (phase : Phase) → row_of rows tablet ≡ Some row → row.phase ≡ phase
    → owner_by row.term phase ≡ Some owner → IsOwned rows tablet owner
owned_by rows tablet owner row (Owned master from) found phase is =
    let made : Owner = record { master = master; term = row.term } in
    let same : made ≡ owner = cc is in
    record {
      row = row;
      from = from;
      found = found;
      phase = phase ∙ ap (λ (o : Owner). Owned o.master from) same;
      term = ap (λ (o : Owner). o.term) same;
    }
owned_by rows tablet owner row _ found phase is = absurd (cc is)

-- who is found to own a tablet does
pub owned : (rows : List Row) (tablet : ℕ) (owner : Owner) → owner_in (row_of rows tablet) ≡ Some owner → IsOwned rows tablet owner
owned rows tablet owner is = grind (arith, row_of, owner_in, owned_by)

module _ (parts : Parts) (tablet : ℕ) (owner : Owner) (kept : IsKept parts) (own : IsOwned parts.coordinator.rows tablet owner) where
  -- the owner is one of the masters
  pub owner_is_there : IsMaster (length parts.masters.items) owner.master
  owner_is_there =
      let row = all_found (IsFormedRow (limits_of (world_of parts []))) own.row tablet parts.coordinator.rows own.found kept.formed.formed.coordinator.rows in
      let named = subst (λ (phase : Phase). All (IsFormedMember (limits_of (world_of parts []))) (named_in phase)) own.phase row.named in
      subst (λ (n : ℕ). IsMaster n owner.master) (masters_counted parts kept)
      (All-head (IsFormedMember (limits_of (world_of parts []))) (member owner.master own.from) [] named).master

  -- the term of the row may rise
  pub owner_may_rise : owner.term < 2 ^ 63
  owner_may_rise =
      let low = all_found (λ (row : Row). row.term ≤ parts.top) own.row tablet parts.coordinator.rows own.found (keeps_to_top (world_of parts []) kept.formed.formed).terms in
      omega (arith, low, own.term, kept.formed.room.number)

  -- and by whether it has crashed
  by_crash : (at new : ℕ) (stored : NumberMap Segments) (crashed : Bool) → has_crashed (world_of parts []) owner.master ≡ crashed
      → happened (world_of parts stored) (events.Split tablet at new) (Gave None)
      ≡ quietly (with_coordinator (cond crashed (world_of parts stored)
      (with_master (world_of parts stored) owner.master (with_split (master_at (world_of parts stored) owner.master) tablet at new (owner.term + 1))))
      (rows_split parts.coordinator tablet at new))
  by_crash at new stored crashed is =
      grind (arith, quietly, with_coordinator, world_of, with_master, with_split, master_at, rows_split, row_split, owner_split, number_of)

  -- a master that has crashed splits nothing
  pub split_crashed : (at new : ℕ) → has_crashed (world_of parts []) owner.master ≡ true → (stored : NumberMap Segments)
      → happened (world_of parts stored) (events.Split tablet at new) (Gave None) ≡ quietly (with_coordinator (world_of parts stored) (rows_split parts.coordinator tablet at new))
  split_crashed at new dead stored = by_crash at new stored true dead

  -- a master that lives does
  pub split_alive : (at new : ℕ) (it : Master) → IsAt parts.masters.items owner.master it → has_crashed (world_of parts []) owner.master ≡ false → (stored : NumberMap Segments)
      → happened (world_of parts stored) (events.Split tablet at new) (Gave None)
      ≡ quietly (with_coordinator (with_master (world_of parts stored) owner.master (with_split it tablet at new (owner.term + 1))) (rows_split parts.coordinator tablet at new))
  split_alive at new it there lives stored =
      by_crash at new stored false lives
      ∙ ap (λ (m : Master). quietly (with_coordinator (with_master (world_of parts stored) owner.master (with_split m tablet at new (owner.term + 1))) (rows_split parts.coordinator tablet at new)))
      (master_is parts stored owner.master it owner_is_there there)

-- it is not refused if the coordinator does not refuse it
pub split_allowed : (parts : Parts) (tablet at new : ℕ) → tablet_split_fault parts.coordinator tablet at new ≡ None → fault_of (world_of parts []) (events.Split tablet at new) ≡ None
split_allowed parts tablet at new none = ap (option_map errors.Move) none

-- the owner has crashed: the coordinator alone splits
pub split_by_coordinator : (old new_parts : Parts) (tablet at new : ℕ) (owner : Owner) (seen : Seen) → IsReady old (events.Split tablet at new) → IsOwned old.coordinator.rows tablet owner
    → tablet_split_fault old.coordinator tablet at new ≡ None → has_crashed (world_of old []) owner.master ≡ true
    → new_parts ≡ record old { coordinator = rows_split old.coordinator tablet at new; top = max old.top (greatest (terms_of (rows_split old.coordinator tablet at new).rows)) }
    → seen ≡ quiet_seen → IsMade old (events.Split tablet at new) (Gave None) new_parts seen
split_by_coordinator old new_parts tablet at new owner seen ready own none dead is quiet =
    subst (λ (parts : Parts). IsMade old (events.Split tablet at new) (Gave None) parts seen) (sym is)
    (made_by_change old (events.Split tablet at new) (rows_split old.coordinator tablet at new) seen ready (split_allowed old tablet at new none)
    (split_crashed old tablet owner ready.kept own at new dead) quiet)
