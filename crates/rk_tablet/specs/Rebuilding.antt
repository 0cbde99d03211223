-- What a tablet gathers for a rebuild, and what it merges.
use Rattle.std.specs.Prelude.{ℕ, ◌==◌, ◌&&◌, Bool, List, [], Option, Some, None}
use Rattle.rk_entry.specs.declared.entry.Entry.{Entry}
use Rattle.rk_transfer.specs.declared.role.Role.{Role}
use Rattle.rk_transfer.specs.declared.role.Role.TheVariants as roles
use Rattle.rk_message.specs.declared.rebuilding.CopySegment.{CopySegment}
use Rattle.rk_world.specs.declared.work.Merged.{Merged}
use Rattle.rk_world.specs.declared.work.Reading.{Reading}
use Rattle.rk_world.specs.Gather.{Gather, by_member, is_awaited, next_reading}
use Rattle.rk_world.specs.Merge.{merge}
use Rattle.rk_world.specs.RoleTests.{is_gathering}
use Rattle.rk_world.specs.Tablet.{Tablet, pulling_from}

-- what a tablet merges of what it gathered and of own entries that count
abbrev pub merged_with : Tablet → List Entry → Merged
merged_with tablet own = merge own (by_member tablet.gather own)

-- the place from which the own log counts, of a tablet in this role that has this to read next; none while there is a segment to
-- read, and in other roles
abbrev pub gathered_from : Role → Option Reading → Option ℕ
gathered_from (roles.Rebuilding from None) None = Some from
gathered_from role reading = None

-- whether a tablet gathers at the term of this copy of a segment, and awaits just that
abbrev pub is_awaiting : Tablet → CopySegment → Bool
is_awaiting tablet copy =
    is_gathering tablet.handover.role && (tablet.handover.term == copy.tenure.term)
    && is_awaited (next_reading tablet.gather) copy.master copy.segment

-- a tablet begins to gather: what was pulled and is not sealed, and what was merged, is dropped
abbrev pub with_gather : Tablet → Gather → Tablet
with_gather tablet gather = record tablet {
  pulling = pulling_from tablet.pulling.source;
  gather = gather;
  merged_ends = [];
}
