-- A replay on a master is one into its records and the items of a worker of the tablet.
use Rattle.rk_side_log.proofs.Words.{arith}
use Rattle.std.proofs.Common.{◌≡◌, ℕ, ◌<◌, Bool, cond, List, [], ◌∷◌, ◌++◌, length, get_or, set, Option, Some, refl, sym, ap, ◌∙◌, ⊎_elim}
use Rattle.std.specs.Prelude.{unwrap_or}
use Rattle.std.proofs.lemmas.Bool.{cases_eq}
use Rattle.std.proofs.lemmas.List.{get_or-set_same, set-set, set-get_or}
use Rattle.rk_types.specs.NumberMap.{NumberMap, IsInOrder, get, insert}
use Rattle.rk_types.specs.declared.held.Held.{Held}
use Rattle.rk_types.proofs.NumberMaps.{get_same, get_other, in_order_insert, same_map}
use Rattle.rk_table.specs.Items.{with_newer}
use Rattle.rk_world.specs.Master.{Master, tablet_at}
use Rattle.rk_world.specs.Pulls.{with_pulling, item_replayed, replay}
use Rattle.rk_world.specs.Tablet.{Tablet, no_tablet}
use Rattle.rk_side_log.specs.Replayed.{Replayed, with_replayed, side_replayed, master_with}

-- ---- maps

module _ {X : Type 0} where
  -- what is there may be put there again
  insert_there : (things : NumberMap X) (number : ℕ) (thing : X) → IsInOrder things → get things number ≡ Some thing → insert things number thing ≡ things
  insert_there things number thing order there = grind (arith, same_map, in_order_insert, get_same, get_other, cases_eq)

  -- the last thing that is put stays
  pub insert_twice : (things : NumberMap X) (number : ℕ) (first last : X) → IsInOrder things → insert (insert things number first) number last ≡ insert things number last
  insert_twice things number first last order = grind (arith, same_map, in_order_insert, get_same, get_other, cases_eq)

-- ---- a replay

-- the tablet with these items of the worker
abbrev tablet_with : Tablet → ℕ → List Held → Tablet
tablet_with tablet worker items = with_pulling tablet (record tablet.pulling { sides = set tablet.pulling.sides worker items })

module _ (master : Master) (number worker : ℕ) (tablet : Tablet) (order : IsInOrder master.tablets) (within : worker < length tablet.pulling.sides) where
  -- it is the tablet that is found
  there : (now : Replayed) → tablet_at (master_with master number tablet worker now) number ≡ tablet_with tablet worker now.items
  there now = ap (λ (o : Option Tablet). unwrap_or o no_tablet) (get_same master.tablets number (tablet_with tablet worker now.items) number refl)

  -- its items and one more
  sides_then : (items : List Held) (item : Held)
      → set (set tablet.pulling.sides worker items) worker (get_or (set tablet.pulling.sides worker items) worker [] ++ item ∷ []) ≡ set tablet.pulling.sides worker (items ++ item ∷ [])
  sides_then items item = grind (arith, set-set, get_or-set_same)

  step_by : (b : Bool) (now : Replayed) (item : Held)
      → cond b (item_replayed number worker (master_with master number tablet worker now) item) (master_with master number tablet worker now)
      ≡ master_with master number tablet worker (cond b (record { records = with_newer item now.records; items = now.items ++ item ∷ [] }) now)
  step_by b now item = grind (arith, there, sides_then, insert_twice)

  -- one after the other
  replay_from : (now : Replayed) (items : List Held)
      → replay (master_with master number tablet worker now) number worker items ≡ master_with master number tablet worker (side_replayed now.records now.items items)
  replay_from now [] = refl
  replay_from now (item ∷ items) = grind (arith, step_by, item.table, item.key, now.records, (replay_from (with_replayed now item) items))

  -- before the first
  none_yet : get master.tablets number ≡ Some tablet → master_with master number tablet worker (record { records = master.records; items = get_or tablet.pulling.sides worker [] }) ≡ master
  none_yet is = grind (arith, set-get_or, insert_there)

-- a replay on a master that has the tablet
pub replay_is : (master : Master) (number worker : ℕ) (tablet : Tablet) (items : List Held) → IsInOrder master.tablets → get master.tablets number ≡ Some tablet → worker < length tablet.pulling.sides
    → replay master number worker items ≡ master_with master number tablet worker (side_replayed master.records (get_or tablet.pulling.sides worker []) items)
replay_is master number worker tablet items order is within =
    let first : Replayed = record { records = master.records; items = get_or tablet.pulling.sides worker [] } in
    ap (λ (m : Master). replay m number worker items) (sym (none_yet master number worker tablet order within is))
    ∙ replay_from master number worker tablet order within first items
