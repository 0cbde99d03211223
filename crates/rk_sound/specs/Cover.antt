-- Cover: what masters and messages speak of lies in rows. So a new row finds nothing of its number and nothing of its range; the
-- steps that add and split a row need it.
use Rattle.std.specs.Prelude.{◌≡◌, ◌≤◌, ℕ, true, List, None, IfSome, All, is_some, ⊤}
use Rattle.std.specs.List.{flat_map}
use Rattle.rk_types.specs.Hashing.{hash_of}
use Rattle.rk_types.specs.NumberMap.{NumberMap, EachIn}
use Rattle.rk_types.specs.Range.{has, meets}
use Rattle.rk_types.specs.declared.held.Held.{Held}
use Rattle.rk_types.specs.declared.range.Range.{Range}
use Rattle.rk_entry.specs.declared.entry.Entry.{Entry}
use Rattle.rk_entry.specs.declared.entry.Entry.TheVariants as entries
use Rattle.rk_transfer.specs.declared.handover.Handover.{Handover}
use Rattle.rk_tablet_map.specs.Rows.{row_of, is_covered}
use Rattle.rk_tablet_map.specs.declared.row.Row.{Row}
use Rattle.rk_message.specs.declared.message.Message.{Message}
use Rattle.rk_world.specs.Ranges.{has_all}
use Rattle.rk_world.specs.Written.{Written}
use Rattle.rk_sound.specs.Terms.{tenure_in, range_in}

-- each hash of a range lies in a row
abbrev pub IsWithinRows : List Row → Range → Type 0
IsWithinRows rows range = (hash : ℕ) → has range range.table hash ≡ true → is_covered rows range.table hash ≡ true

-- the key of an item lies in a row
abbrev pub IsItemWithin : List Row → Held → Type 0
IsItemWithin rows item = is_covered rows item.table (hash_of item.key) ≡ true

-- what an entry is of lies in rows
abbrev pub IsEntryWithin : List Row → Entry → Type 0
IsEntryWithin rows (entries.Held held) = IsItemWithin rows held
IsEntryWithin rows (entries.Refused refused) = is_covered rows refused.table (hash_of refused.key) ≡ true
IsEntryWithin rows (entries.Carried carried) = IsWithinRows rows carried.range
IsEntryWithin rows (entries.Joined joined) = IsWithinRows rows joined.range

-- a range has all of each row that it meets
abbrev pub HasWholeRows : List Row → Range → Type 0
HasWholeRows rows range = All (λ row. meets row.range range ≡ true → has_all range row.range ≡ true) rows

-- a Carried or a Joined is of whole rows
abbrev pub IsOfWholeRows : List Row → Entry → Type 0
IsOfWholeRows rows (entries.Carried carried) = HasWholeRows rows carried.range
IsOfWholeRows rows (entries.Joined joined) = HasWholeRows rows joined.range
IsOfWholeRows rows entry = ⊤

pub record Cover (rows : List Row) (written : ℕ → Written) (handovers : ℕ → ℕ → Handover) (records : ℕ → List Held) (wire : NumberMap Message) : Type 0 where
  -- a tablet without a row is known to no master, no mark and no message
  pub unknown : (master tablet : ℕ) → row_of rows tablet ≡ None → (handovers master tablet).term ≡ 0
  pub marks : (master : ℕ) → All (λ mark. is_some (row_of rows mark.tablet) ≡ true) (written master).marks
  pub sent :
      EachIn (λ number message. IfSome (tenure_in message.body) (λ tenure. is_some (row_of rows tenure.tablet) ≡ true)) wire
  -- ranges that masters have, or that orders bear, entries, side items and records lie in rows
  pub ranges :
      (master tablet : ℕ) → 1 ≤ (handovers master tablet).term → IsWithinRows rows (handovers master tablet).range
  pub ordered : EachIn (λ number message. IfSome (range_in message.body) (IsWithinRows rows)) wire
  pub entries : (master : ℕ) → All (IsEntryWithin rows) (written master).entries
  pub sides : (master : ℕ) → All (IsItemWithin rows) (flat_map (λ items. items) (written master).sides)
  pub items : (master : ℕ) → All (IsItemWithin rows) (records master)
  -- a Carried or a Joined has all of each row that its range meets
  pub wholes : (master : ℕ) → All (IsOfWholeRows rows) (written master).entries
