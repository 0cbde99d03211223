-- Order: an item that is not applied is above every version of its key in the truth, and above those staged before it. So
-- an entry that is applied is the newest of its key, and the newest staged item is the newest of all; the steps that
-- apply and that choose what a call does need it.
use Rattle.std.specs.Prelude.{◌≡◌, ◌<◌, true, List, [], ◌∷◌, ◌++◌, All, ⊤}
use Rattle.rk_types.specs.declared.held.Held.{Held}
use Rattle.rk_entry.specs.declared.entry.Entry.{Entry}
use Rattle.rk_tablet_map.specs.declared.row.Row.{Row}
use Rattle.rk_overlay.specs.Newest.{is_of}
use Rattle.rk_world.specs.Ends.{items_of}

-- an item is above each other one of its key
abbrev pub IsAboveAll : List Held → Held → Type 0
IsAboveAll others item = All (λ other. is_of item.table item.key other ≡ true → other.version < item.version) others

-- each item is above those of its key before it; the items of `before` come before all
abbrev pub AreAbove : List Held → List Held → Type 0
AreAbove before [] = ⊤
AreAbove before (item ∷ items) = IsAboveAll before item × AreAbove (before ++ item ∷ []) items

pub record Order (rows : List Row) (truths rests : Row → List Entry) : Type 0 where
  pub above : All (λ row. AreAbove (items_of (truths row)) (items_of (rests row))) rows
