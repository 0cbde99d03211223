-- What a tablet waits for: a tablet that closes freezes once nothing of it is staged, and a target that has all appends its closing
-- entry once its side segments are stored.
use Rattle.std.specs.Prelude.{ℕ, Bool, if◌then◌else◌, length, fold, Option, Some, None}
use Rattle.std.specs.List.{list_all}
use Rattle.rk_types.specs.NumberMap.{NumberMap}
use Rattle.rk_entry.specs.declared.entry.Entry.{Entry}
use Rattle.rk_entry.specs.declared.entry.Entry.TheVariants as entries
use Rattle.rk_log.specs.Log.{is_side_stored}
use Rattle.rk_transfer.specs.Handover.{frozen, joined}
use Rattle.rk_transfer.specs.declared.handover.Handover.{Handover}
use Rattle.rk_transfer.specs.declared.role.Role.{Role}
use Rattle.rk_transfer.specs.declared.role.Role.TheVariants as roles
use Rattle.rk_world.specs.Tablet.{Tablet, with_handover}
use Rattle.rk_world.specs.Master.{Master, is_settled, with_tablet, with_appended}

-- a tablet freezes
abbrev pub tablet_frozen : Master → ℕ → Tablet → Handover → Master
tablet_frozen master number tablet handover = with_tablet master number (with_handover tablet handover)

-- a tablet that closes freezes, if nothing of it is staged
abbrev pub freezing : Master → ℕ → Tablet → Option Handover → Master
freezing master number tablet None = master
freezing master number tablet (Some handover) =
    if is_settled master tablet.handover.range then tablet_frozen master number tablet handover else master

-- the entry that closes the role of a target that has all
abbrev pub joined_entry : Tablet → Entry
joined_entry tablet = entries.Joined (record {
  range = tablet.handover.range;
  term = tablet.handover.term;
  segments = tablet.pulling.sealed;
})

-- the entry that closes the role of a target is appended
abbrev pub closing_appended : Master → ℕ → Tablet → Handover → Master
closing_appended master number tablet handover =
    with_appended (with_tablet master number (with_handover tablet handover)) (joined_entry tablet)

-- a target that has all appends the entry that closes its role, if that move applies
abbrev pub closing_entry : Master → ℕ → Tablet → Option Handover → Master
closing_entry master number tablet None = master
closing_entry master number tablet (Some handover) = closing_appended master number tablet handover

-- whether every backup is known to hold the side segments that a target sealed
abbrev pub is_sealed_stored : Master → Tablet → Bool
is_sealed_stored master tablet = list_all (is_side_stored master.log) tablet.pulling.sealed

-- what was waited for at one tablet goes on, by its role: a tablet that closes freezes, and a target whose side segments
-- are stored appends its closing entry
abbrev pub going_on_in : Master → ℕ → Tablet → Role → Master
going_on_in master number tablet roles.Closing =
    freezing master number tablet (frozen tablet.handover tablet.handover.term)
going_on_in master number tablet (roles.Joining None) =
    if is_sealed_stored master tablet
    then closing_entry master number tablet (joined tablet.handover tablet.handover.term (Some (length master.log.entries)))
    else master
going_on_in master number tablet _ = master

-- what was waited for goes on, by rising tablet
abbrev pub all_going_on : Master → NumberMap Tablet → Master
all_going_on master tablets = fold (λ now entry. going_on_in now entry.0 entry.1 entry.1.handover.role) master tablets
