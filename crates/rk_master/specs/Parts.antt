-- What the parts of a master in code represent.
use Rattle.std.specs.Prelude.{IfSome, ⊤, ℕ, ◌==◌, ◌&&◌, not, if◌then◌else◌, List, [], ◌∷◌, ◌++◌, Option, Some, None, map}
use Rattle.std.specs.Int.{w64}
use Rattle.std.specs.List.{AllByRecursion}
use Rattle.rk_types.specs.declared.held.Held.{Held}
use Rattle.rk_types.specs.Range.{meets}
use Rattle.rk_types.specs.declared.range.Range.{Range}
use Rattle.rk_types.specs.NumberMap.{NumberMap, IsInOrder, get_or}
use Rattle.rk_entry.specs.declared.entry.Entry.{Entry}
use Rattle.rk_entry.specs.declared.entry.Entry.TheVariants as entries
use Rattle.rk_entry.specs.declared.entry.Joined.{Joined}
use Rattle.rk_entry.specs.Ends.{IsLawfulRange}
use Rattle.rk_entry.specs.Lawful.{IsLawfulEntry, IsLawfulJoined}
use Rattle.rk_entry.specs.Numbers.{IsNumber}
use Rattle.rk_table.specs.Items.{with_newer}
use Rattle.rk_transfer.specs.Handover.{granted}
use Rattle.rk_transfer.specs.declared.handover.Handover.{Handover}
use Rattle.rk_transfer.specs.declared.role.Role.{Role}
use Rattle.rk_transfer.specs.declared.role.Role.TheVariants as roles
use Rattle.rk_message.specs.declared.handover.Grant.{Grant}
use Rattle.rk_world.specs.Tablet.{Tablet, no_tablet}
use Rattle.rk_world.specs.Master.{Master, tablet_at}
use Rattle.rk_world.specs.Handovers.{carried_entry, given_up}
use Rattle.rk_world.specs.Worked.{Worked}
use Rattle.rk_world.specs.declared.work.Mark.{Mark}
use Rattle.rk_master.specs.declared.work.Worked.{Worked as Work}
use Rattle.rk_tablet.specs.Tablets.{tablet_of}
use Rattle.rk_tablet.specs.declared.tablet_lane.TabletLane.{TabletLane}

-- the tablets by number
abbrev pub tablets_of : List (ℕ × TabletLane) → NumberMap Tablet
tablets_of tablets = map (λ entry. (entry.0, tablet_of entry.1)) tablets

-- what the master has of the tablet of a number
abbrev pub tablet_in : List (ℕ × TabletLane) → ℕ → Tablet
tablet_in tablets number = get_or no_tablet (tablets_of tablets) number

-- the pieces of a log that a rebuild made, of which there is one at most
abbrev pub marks_of : Option Mark → List Mark
marks_of None = []
marks_of (Some mark) = mark ∷ []

-- the work of a master that is so now
abbrev pub worked_of : Master → Work → Worked
worked_of master work = record {
  master = master;
  sends = work.sends.items;
  served = work.served.items;
  marked = marks_of work.marked;
}

-- work behind what was sent, served and marked before
abbrev pub behind : Work → Worked → Worked
behind before worked = record {
  master = worked.master;
  sends = before.sends.items ++ worked.sends;
  served = before.served.items ++ worked.served;
  marked = marks_of before.marked ++ worked.marked;
}

-- the records after an entry was applied: an item goes into them if it is newer
abbrev pub with_items_of : Entry → List Held → List Held
with_items_of (entries.Held held) records = with_newer held records
with_items_of entry records = records

-- the entry that closes the role of a target can be spelled: if the target pulls, its range and its term can, and if it has
-- all, the entry
abbrev pub can_close : Role → Joined → Type 0
can_close roles.Receiving joined = IsLawfulRange joined.range × IsNumber w64 1 joined.term
can_close (roles.Joining None) joined = IsLawfulJoined joined
can_close role joined = ⊤

-- the role of a tablet can be closed, if it is that of a target
abbrev pub IsClosable : Tablet → Type 0
IsClosable tablet = can_close tablet.handover.role (record {
  range = tablet.handover.range;
  term = tablet.handover.term;
  segments = tablet.pulling.sealed;
})

-- so can that of each of them
abbrev pub AreClosable : NumberMap Tablet → Type 0
AreClosable tablets = AllByRecursion (λ entry. IsClosable entry.1) tablets

-- the tablets of a master are in order of rising number, and what closes their roles can be spelled
pub record AreTablets (tablets : List (ℕ × TabletLane)) : Type 0 where
  pub order : IsInOrder tablets
  pub closable : AreClosable (tablets_of tablets)

-- the handover of a tablet that is served from the start
abbrev pub served : Range → Handover
served range = record { role = roles.Serving; term = 1; range = range; counter = 1 }

-- a tablet of a map is changed, by its number
abbrev pub changing : (ℕ → Tablet → Tablet) → ℕ × Tablet → ℕ × Tablet
changing change entry = (entry.0, change entry.0 entry.1)

-- a tablet that is not that of this number is given up, if its range meets this one
abbrev pub given_up_but : ℕ → Range → ℕ → Tablet → Tablet
given_up_but kept range number tablet =
    if not (number == kept) && meets tablet.handover.range range then given_up tablet else tablet

-- if a Grant applies, the entry that begins what the target has of the tablet can be spelled
abbrev pub IsGrantable : Master → Grant → Type 0
IsGrantable master grant =
    IfSome (granted (tablet_at master grant.tenure.tablet).handover grant.tenure.term grant.floor)
    (λ handover. IsLawfulEntry (carried_entry handover grant))
