-- The headline laws of a master's tablets. A sound lane stays sound when one is made ready or rebuilt, granted, sealed or merged, and when
-- a master crashes; and each lane is steady from its start on: backups report what they store, and what targets have sealed is there.
use Rattle.std.proofs.Common.{◌≡◌, ◌<◌, ℕ, sym, ap, subst, arith}
use Rattle.rk_inv_base.proofs.Words.{Member, number_of, Row, Grant, Prepare, Rebuild, Called, accept, ask, Session, IsWellFormed, AllTell}
use Rattle.rk_inv_base.proofs.Words.{is_absent, world_visited, happened, World, new_world, tablet_in, Event, view, IsSound, SoundView}
use Rattle.rk_inv_tablets.proofs.Words.{found_stands, granted, MayCrashFormed, MayGrantFormed, tablet_granted_in, MayMergeFormed}
use Rattle.rk_inv_tablets.proofs.Words.{rebuild_merged_in, rebuild_begun_in, tablet_prepared_in, MaySealThere, side_lists_sealed_in}
use Rattle.rk_inv_tablets.proofs.Words.{MayBegin, MayPrepare}
use Rattle.rk_inv_tablets.specs.steady.Steady.{AllSealedThere}
use Rattle.rk_world.specs.World.{with_crash}
use Rattle.rk_inv_tablets.proofs.crash.Crashed.{crash_seen, view_crashed}
use Rattle.rk_inv_tablets.proofs.crash.MarkedPieces.{row_there}
use Rattle.rk_inv_tablets.proofs.grant.Granted.{granted_is, view_granted}
use Rattle.rk_inv_tablets.proofs.grant.Granting.{Granting}
use Rattle.rk_inv_tablets.proofs.merge.RebuildMerged.{sound_merged}
use Rattle.rk_inv_tablets.proofs.ready.Begun.{view_begun, view_begun_in}
use Rattle.rk_inv_tablets.proofs.ready.Prepared.{greater, view_prepared, view_prepared_in}
use Rattle.rk_inv_tablets.proofs.seal.Sealed.{sealed_is, view_sealed}
use Rattle.rk_inv_tablets.proofs.steady.Lanes.{sealed_accepted, sealed_asked, sealed_event, sealed_new, tell_accepted, tell_asked}
use Rattle.rk_inv_tablets.proofs.steady.Lanes.{tell_event, tell_new}

-- ---- what changes at a master

-- A sound lane stays sound when a master makes ready for a tablet. Each other tablet that it has in that range is given up, and its items
-- there are dropped.
pub sound_prepared : (w : World) (row : Row) (master : ℕ) (prepare : Prepare)
    → IsSound w → MayPrepare (view w) row master prepare → IsSound (tablet_prepared_in w master prepare)
sound_prepared w row master prepare sound may =
    subst SoundView
    (sym (view_prepared_in w master prepare (greater (view w) row master prepare sound may)))
    (view_prepared (view w) row master prepare sound may)

-- So it does when a master begins to rebuild one; it drops nothing if it is of the tablet's lineage.
pub sound_begun : (w : World) (row : Row) (master : ℕ) (rebuild : Rebuild)
    → IsSound w → MayBegin (view w) row master rebuild → IsSound (rebuild_begun_in w master rebuild)
sound_begun w row master rebuild sound may =
    let here : ((view w).handovers master rebuild.tenure.tablet).term < row.term = rw may.tablet_is may.greater in
    let greater : (tablet_in w master rebuild.tenure.tablet).handover.term < rebuild.tenure.term = omega (arith, here, may.term_is) in
    subst SoundView (sym (view_begun_in w master rebuild (sound.nodes.numbered master) greater))
    (view_begun (view w) row master rebuild sound may)

-- So it does when a living target that waits for a row's tablet is granted it, by what the row's source handed over: it then has that in
-- its log, and pulls.
pub sound_granted : (w : World) (row : Row) (source target : Member) (grant : Grant)
    → IsSound w → MayGrantFormed (view w) row source target grant
    → IsSound (tablet_granted_in w target.master grant)
sound_granted w row source target grant sound may =
    let a : Granting (view w) = record { row = row; source = source; target = target; grant = grant; sound = sound; may = may } in
    subst SoundView (sym (granted_is w target.master grant))
    (subst (λ (number : ℕ). SoundView (granted (view w) target.master number grant)) (sym may.tablet_is) (view_granted (view w) a))

-- So it does when a living target that has pulled all seals its side lists: they are cut into side segments of its master's log, and the
-- target joins. What the targets of that master had sealed before has to be there.
pub sound_sealed : (w : World) (master tablet : ℕ)
    → IsSound w → MaySealThere (view w) master tablet → IsSound (side_lists_sealed_in w master tablet)
sound_sealed w master tablet sound may =
    let found = row_there (view w).rows tablet (sound.roles.known master tablet may.may.lives (ap is_absent may.may.receiving)) in
    let number_is : found.0.tablet ≡ tablet = number_of (view w).rows tablet found.0 found.1 in
    rw (← number_is) (subst SoundView (sym (sealed_is w master found.0.tablet))
    (view_sealed (view w) found.0 master sound (found_stands (view w).rows tablet found.0 found.1) (rw number_is may)))

-- So it does when a living master that has gathered all for a tablet merges it: the copies and the entry that closes the rebuild are at
-- the end of its log as one piece, which bears a mark and counts for nobody yet.
pub a_merge_keeps_lanes_sound : (w : World) (master tablet : ℕ)
    → IsSound w → MayMergeFormed (view w) master tablet → IsSound (rebuild_merged_in w master tablet)
a_merge_keeps_lanes_sound = sound_merged

-- So it does when a master crashes while another one lives, if the rows have ranges that are not empty, what logs hold can be read
-- again, and the master has gathered no more main segments of another one than there can be, as it is in each well formed lane.
pub sound_crashed : (w : World) (master : ℕ) → IsSound w → MayCrashFormed (view w) master → IsSound (with_crash w master)
sound_crashed w master sound may = rw (crash_seen w master) (view_crashed (view w) master sound may)

-- ---- what is so from the start on

-- In a lane where nothing has happened each backup reports what it stores.
pub new_lanes_tell : (lane masters backups : ℕ) → AllTell (new_world lane masters backups)
new_lanes_tell = tell_new

-- No target has sealed anything there.
pub new_lanes_are_sealed : (lane masters backups : ℕ) → AllSealedThere (new_world lane masters backups)
new_lanes_are_sealed = sealed_new

-- Each backup goes on to report what it stores at each event, whatever is sent.
pub lanes_tell_on : (w : World) (event : Event) (called : Called) → AllTell w → AllTell (happened w event called).world
lanes_tell_on = tell_event

-- What targets have sealed goes on to be there, in a well formed lane: a master goes through its tablets in turn, and each of them has to
-- be there once.
pub lanes_stay_sealed : (w : World) (event : Event) (called : Called)
    → IsWellFormed w → AllSealedThere w → AllSealedThere (happened w event called).world
lanes_stay_sealed = sealed_event

-- Backups go on to report when a client takes its turn.
pub asked_lanes_tell : (w : World) (session : Session) → AllTell w → AllTell (world_visited w (ask w session))
asked_lanes_tell = tell_asked

-- What is sealed is there still, then.
pub asked_lanes_are_sealed : (w : World) (session : Session)
    → AllSealedThere w → AllSealedThere (world_visited w (ask w session))
asked_lanes_are_sealed = sealed_asked

-- Backups go on to report when a client takes an answer.
pub answered_lanes_tell : (w : World) (number : ℕ) (session : Session)
    → AllTell w → AllTell (world_visited w (accept w number session))
answered_lanes_tell = tell_accepted

-- What is sealed is there still, then, too.
pub answered_lanes_are_sealed : (w : World) (number : ℕ) (session : Session)
    → AllSealedThere w → AllSealedThere (world_visited w (accept w number session))
answered_lanes_are_sealed = sealed_accepted
