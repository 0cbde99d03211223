-- Truth: the journal is a lawful history, and the applied logs of a row's lineage give just the records that it leaves. A
-- read answers from them, and a rebuild has nothing else; each step that applies, joins or takes a rebuild needs it.
use Rattle.std.specs.Prelude.{◌≡◌, ◌<◌, ℕ, List, Option, Some, None, All, ⊤}
use Rattle.rk_types.specs.declared.history.Placed.{Placed}
use Rattle.rk_types.specs.declared.range.Range.{Range}
use Rattle.rk_model.specs.History.{IsLegal, live_after}
use Rattle.rk_model.specs.Merged.{IsRisingAbove}
use Rattle.rk_entry.specs.declared.entry.Entry.{Entry}
use Rattle.rk_tablet_map.specs.declared.row.Row.{Row}
use Rattle.rk_overlay.specs.Live.{live as live_items}
use Rattle.rk_overlay.specs.Plain.{IsPlain}
use Rattle.rk_world.specs.Ranges.{AgreeIn}
use Rattle.rk_world.specs.Ends.{items_of}
use Rattle.rk_world.specs.Base.{Base, base_map}
use Rattle.rk_world.specs.declared.ledger.LastCall.{LastCall}

-- the truth of a row gives the records that the journal leaves in the row's range
pub record IsTruth (base : Base) (range : Range) (truth : List Entry) (journal : List Placed) : Type 0 where
  pub plain : IsPlain (items_of truth)
  pub live : AgreeIn range (live_items (items_of truth)) (live_after (base_map base) journal)

-- a record of the last call that its client asked has a stamp above the highest that the client had seen then
abbrev pub IsAfterSeen : Option LastCall → Placed → Type 0
IsAfterSeen None placed = ⊤
IsAfterSeen (Some last) placed = last.call ≡ placed.call → last.seen < placed.stamp

pub record Truth (base : Base) (rows : List Row) (truths : Row → List Entry) (journal : List Placed) (asked : ℕ → Option LastCall) : Type 0 where
  pub legal : IsLegal (base_map base) journal
  pub rising : IsRisingAbove 0 journal
  pub seen : All (λ placed. IsAfterSeen (asked placed.call.client) placed) journal
  pub true : All (λ row. IsTruth base row.range (truths row) journal) rows
