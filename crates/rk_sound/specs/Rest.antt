-- Rest: what is staged goes on lawfully from the journal, call by call, in the order of one log. So whatever part of it every
-- backup comes to hold, before or after a crash, may become records; the steps that apply entries, crash and rebuild need it.
use Rattle.std.specs.Prelude.{◌≡◌, ◌≢◌, ◌≤◌, ℕ, Bool, true, false, List, [], ◌∷◌, ◌++◌, Option, Some, None, All, drop, slice_get, ⊤, max}
use Rattle.std.specs.List.{AllPairs, Contains, flat_map, list_any}
use Rattle.rk_types.specs.NumberMap.{NumberMap, EachIn, get}
use Rattle.rk_types.specs.declared.call.Call.{Call}
use Rattle.rk_types.specs.declared.call.Ended.{Ended}
use Rattle.rk_types.specs.declared.held.Held.{Held}
use Rattle.rk_types.specs.declared.history.Placed.{Placed}
use Rattle.rk_types.specs.declared.lineage.Member.{Member}
use Rattle.rk_types.specs.declared.range.Range.{Range}
use Rattle.rk_model.specs.History.{IsLegal, live_after}
use Rattle.rk_model.specs.Machine.{change_of}
use Rattle.rk_model.specs.Merged.{is_mutation}
use Rattle.rk_entry.specs.declared.entry.Entry.{Entry}
use Rattle.rk_entry.specs.declared.entry.Entry.TheVariants as entries
use Rattle.rk_transfer.specs.declared.handover.Handover.{Handover}
use Rattle.rk_tablet_map.specs.Phase.{lineage_of}
use Rattle.rk_tablet_map.specs.declared.row.Row.{Row}
use Rattle.rk_overlay.specs.Live.{live as live_items}
use Rattle.rk_world.specs.Ranges.{has_key, AgreeIn}
use Rattle.rk_world.specs.Ends.{end_of_item, item_end, refusal_end, items_of, outcome_of}
use Rattle.rk_world.specs.Marks.{is_marked}
use Rattle.rk_world.specs.Material.{joined_from}
use Rattle.rk_world.specs.Lineage.{last_of}
use Rattle.rk_world.specs.Base.{Base, base_map, map_entry_of}
use Rattle.rk_world.specs.RoleTests.{is_idle, may_have_staged}
use Rattle.rk_world.specs.Master.{touches}
use Rattle.rk_world.specs.Journal.{has_record}
use Rattle.rk_world.specs.declared.ledger.LastCall.{LastCall}
use Rattle.rk_world.specs.Written.{Written, member_rest, member_truth, member_material}
use Rattle.rk_sound.specs.Posts.{StillCounts}
use Rattle.rk_sound.specs.Calls.{IsKnown}

-- the end of the call that left an entry, if one did
abbrev pub call_end : Entry → List Ended
call_end (entries.Held held) = item_end held ∷ []
call_end (entries.Refused refused) = refusal_end refused ∷ []
call_end (entries.Carried carried) = []
call_end (entries.Joined joined) = []

-- the ends of the calls that left entries
abbrev pub call_ends : List Entry → List Ended
call_ends list = flat_map call_end list

-- the record that an end will make, but for its stamp, for the last call that its client asked
abbrev pub record_of_last : Ended → Option LastCall → List Placed
record_of_last end None = []
record_of_last end (Some last) =
    (record { call = last.call; outcome = outcome_of end.end; stamp = 0; accepted = false }) ∷ []

-- the records that ends will make
abbrev pub records_of : (ℕ → Option LastCall) → List Ended → List Placed
records_of asked ends = flat_map (λ end. record_of_last end (asked end.client)) ends

-- the call of a client with a seq is the last that it asked, a mutation of this key, and has no record
pub record IsLastAsked (asked : ℕ → Option LastCall) (journal : List Placed) (client seq table : ℕ) (key : List ℕ) : Type 0 where
  pub last : LastCall
  pub asked_is : asked client ≡ Some last
  pub seq_is : last.call.seq ≡ seq
  pub table_is : last.call.table ≡ table
  pub key_is : last.call.key ≡ key
  pub mutation : is_mutation last.call.op ≡ true
  pub unrecorded : has_record journal client seq ≡ false

-- the call that left an item that is not applied is the last of its client, and the item is what it leaves
pub record IsStagedItem (asked : ℕ → Option LastCall) (journal : List Placed) (held : Held) : Type 0 where
  pub last : IsLastAsked asked journal held.client held.seq held.table held.key
  pub leaves :
      change_of last.last.call.op (outcome_of (end_of_item held.version held.value)) ≡ Some (map_entry_of held held.value)

-- what an entry that is not applied is: that of the last call of its client, a Carried whose ends are known, or any Joined
abbrev pub IsStaged : Base → (ℕ → Option LastCall) → List Placed → Entry → Type 0
IsStaged base asked journal (entries.Held held) = IsStagedItem asked journal held
IsStaged base asked journal (entries.Refused refused) =
    IsLastAsked asked journal refused.client refused.seq refused.table refused.key
IsStaged base asked journal (entries.Carried carried) = All (IsKnown base journal) carried.ends
IsStaged base asked journal (entries.Joined joined) = ⊤

-- the rest of a row, behind its truth
pub record IsRest (base : Base) (range : Range) (truth rest : List Entry) (journal : List Placed) (asked : ℕ → Option LastCall) : Type 0 where
  pub legal : IsLegal (base_map base) (journal ++ records_of asked (call_ends rest))
  -- truth and rest together leave the records that the journal leaves with the staged calls
  pub live :
      AgreeIn range (live_items (items_of (truth ++ rest)))
      (live_after (base_map base) (journal ++ records_of asked (call_ends rest)))
  pub staged : All (IsStaged base asked journal) rest
  -- one call a client
  pub one : AllPairs (λ a b. a.client ≢ b.client) (call_ends rest)

-- a member has nothing of a range behind what it has applied
pub record IsDone (written : ℕ → Written) (range : Range) (member : Member) : Type 0 where
  pub rest : member_rest written range member ≡ []
  pub all : member_material written range member ≡ member_truth written range member

-- of two members the first has nothing behind what it has applied
abbrev pub FirstIsDone : (ℕ → Written) → Range → List Member → Type 0
FirstIsDone written range (first ∷ last ∷ more) = IsDone written range first
FirstIsDone written range _ = ⊤

-- the only member of a lineage has no Joined of the range behind what it has applied
abbrev pub OnlyIsUnnamed : (ℕ → Written) → Range → List Member → Type 0
OnlyIsUnnamed written range (only ∷ []) =
    joined_from range (max only.from (written only.master).applied) (written only.master).entries ≡ []
OnlyIsUnnamed written range lineage = ⊤

-- a call is the last that its client asked
abbrev pub IsLast : Option LastCall → Call → Type 0
IsLast None call = ⊥
IsLast (Some last) call = last.call ≡ call

-- a call is of a client with a seq, and of this key
pub record IsOfCall (call : Call) (client seq table : ℕ) (key : List ℕ) : Type 0 where
  pub client_is : call.client ≡ client
  pub seq_is : call.seq ≡ seq
  pub table_is : call.table ≡ table
  pub key_is : call.key ≡ key

-- an entry is that of a call
abbrev pub IsEntryOf : Call → Entry → Type 0
IsEntryOf call (entries.Held held) = IsOfCall call held.client held.seq held.table held.key
IsEntryOf call (entries.Refused refused) = IsOfCall call refused.client refused.seq refused.table refused.key
IsEntryOf call _ = ⊥

-- whether an entry is that of a call
abbrev pub is_call_entry : Entry → Bool
is_call_entry (entries.Held held) = true
is_call_entry (entries.Refused refused) = true
is_call_entry _ = false

-- a call that waits for the entry at a place: the entry is its own and not applied, a tablet has it that may stage, and
-- the row of its key ends its lineage with this master, at or before the place
pub record Waits (rows : List Row) (handovers : ℕ → Handover) (written : Written) (master place : ℕ) (call : Call) : Type 0 where
  pub behind : written.applied ≤ place
  pub entry : Entry
  pub stands : slice_get written.entries place ≡ Some entry
  pub own : IsEntryOf call entry
  pub unmarked : is_marked written.marks place ≡ false
  pub row : Row
  pub has_row : Contains rows row
  pub in_row : has_key row.range call.table call.key ≡ true
  pub last : Member
  pub is_last : last_of (lineage_of row.phase) ≡ Some last
  pub here : last.master ≡ master
  pub from : last.from ≤ place
  pub may_stage : may_have_staged (handovers row.tablet).role ≡ true

-- the entry at a place has its call
pub record HasCall (calls : NumberMap Call) (place : ℕ) (entry : Entry) : Type 0 where
  pub call : Call
  pub waits : get calls place ≡ Some call
  pub own : IsEntryOf call entry

-- each entry of a call that is not applied and bears no mark has its call
abbrev pub EachHasCall : NumberMap Call → Written → Type 0
EachHasCall calls written =
    (place : ℕ) (entry : Entry) → written.applied ≤ place → slice_get written.entries place ≡ Some entry
    → is_call_entry entry ≡ true → is_marked written.marks place ≡ false → HasCall calls place entry

pub record Rest (base : Base) (rows : List Row) (truths rests : Row → List Entry) (written : ℕ → Written) (handovers : ℕ → ℕ → Handover) (calls : ℕ → NumberMap Call) (live : ℕ → Bool) (journal : List Placed) (asked : ℕ → Option LastCall) : Type 0 where
  pub goes_on : All (λ row. IsRest base row.range (truths row) (rests row) journal asked) rows
  pub done : All (λ row. FirstIsDone written row.range (lineage_of row.phase)) rows
  pub unnamed : All (λ row. OnlyIsUnnamed written row.range (lineage_of row.phase)) rows
  -- a master that is Absent, Frozen or Wanting has nothing of the tablet that is not applied
  pub idle :
      (master : ℕ)
      → All (λ row. StillCounts (live master) (handovers master row.tablet).term row.term
      → is_idle (handovers master row.tablet).role ≡ true
      → list_any (touches row.range) (drop (written master).applied (written master).entries) ≡ false) rows
  -- the calls that wait at a living master are those whose entries are not applied there
  pub waiting :
      (master : ℕ) → live master ≡ true
      → EachIn (λ place call. Waits rows (handovers master) (written master) master place call) (calls master)
  pub are_last :
      (master : ℕ) → live master ≡ true → EachIn (λ place call. IsLast (asked call.client) call) (calls master)
  pub found : (master : ℕ) → live master ≡ true → EachHasCall (calls master) (written master)
