-- What a master makes of the messages that hand a tablet over.
use Rattle.std.specs.Prelude.{[], ℕ, ◌==◌, ◌&&◌, ◌||◌, Bool, not, nat_lt, if◌then◌else◌, length, map, Option, Some, None}
use Rattle.std.specs.List.{list_all}
use Rattle.rk_types.specs.Range.{meets}
use Rattle.rk_types.specs.declared.node.Node.TheVariants as nodes
use Rattle.rk_types.specs.declared.range.Range.{Range}
use Rattle.rk_entry.specs.declared.entry.Entry.{Entry}
use Rattle.rk_entry.specs.declared.entry.Entry.TheVariants as entries
use Rattle.rk_done.specs.Completions.{completions_from, ends_of}
use Rattle.rk_transfer.specs.Handover.{prepared, closed, frozen, granted, owned, released}
use Rattle.rk_transfer.specs.declared.handover.Handover.{Handover}
use Rattle.rk_transfer.specs.declared.role.Role.{Role}
use Rattle.rk_transfer.specs.declared.role.Role.TheVariants as roles
use Rattle.rk_message.specs.declared.handover.Grant.{Grant}
use Rattle.rk_message.specs.declared.handover.Prepare.{Prepare}
use Rattle.rk_message.specs.declared.handover.Tenure.{Tenure}
use Rattle.rk_message.specs.declared.message.Body.TheVariants as bodies
use Rattle.rk_message.specs.declared.message.Message.{Message}
use Rattle.rk_world.specs.Tablet.{Tablet, with_handover, without_merged, without_pulled, pulling_from}
use Rattle.rk_world.specs.RoleTests.{is_frozen_at}
use Rattle.rk_world.specs.Master.{Master, tablet_at, with_tablet, with_appended, without_items}
use Rattle.rk_world.specs.Worked.{Worked, changed, sending, from_master}
use Rattle.rk_world.specs.Waiting.{freezing}

-- whether a term is above that of a tablet, if its range meets this one
abbrev pub is_above : Range → ℕ → ℕ × Tablet → Bool
is_above range term entry = not (meets entry.1.handover.range range) || nat_lt entry.1.handover.term term

-- whether a term is greater than that of the tablet and of each tablet that it has with a range that meets this one,
-- absent ones too: so a message from before a split cannot take what a newer tablet has
abbrev pub is_greater : Master → ℕ → ℕ → Range → Bool
is_greater master number term range =
    nat_lt (tablet_at master number).handover.term term && list_all (is_above range term) master.tablets

-- a tablet that is given up: it is absent, and its term and range stay
abbrev pub given_up : Tablet → Tablet
given_up tablet =
    record (without_merged (without_pulled tablet)) { handover = record tablet.handover { role = roles.Absent } }

-- each other tablet whose range meets this one is given up
abbrev pub with_others_given_up : Master → ℕ → Range → Master
with_others_given_up master number range = record master {
  tablets =
      map
      (λ entry.
      (entry.0, if not (entry.0 == number) && meets entry.1.handover.range range then given_up entry.1 else entry.1))
      master.tablets;
}

-- a tablet makes a move, if it applies; what was gathered and merged is needed no more
abbrev pub with_move : Master → ℕ → Option Handover → Master
with_move master number None = master
with_move master number (Some handover) =
    with_tablet master number (without_merged (with_handover (tablet_at master number) handover))

-- a master is ready for a tablet: its entries of the tablet begin at this place
abbrev pub ready : Master → Tenure → ℕ → Message
ready master tenure place = from_master master nodes.Coordinator (bodies.Ready (record { tenure = tenure; place = place }))

-- a master makes ready for a tablet: it drops the items of the range, each other tablet there is given up, and its entries of the
-- tablet begin at the end of its log
abbrev pub tablet_prepared : Master → Prepare → Master
tablet_prepared master prepare =
    let number = prepare.tenure.tablet in
    let now = with_others_given_up (without_items master prepare.range) number prepare.range in
    with_move now number (prepared (tablet_at now number).handover prepare.tenure.term prepare.range (length master.log.entries))

-- a master makes ready for a tablet, and says so
abbrev pub preparing : Master → Prepare → Worked
preparing master prepare =
    sending (tablet_prepared master prepare) (ready master prepare.tenure (length master.log.entries))

-- a master that made ready at this term says so again
abbrev pub ready_again : Master → Tenure → Role → ℕ → Worked
ready_again master tenure (roles.Wanting from) term =
    if term == tenure.term then sending master (ready master tenure from) else changed master
ready_again master tenure _ term = changed master

-- a master takes a Prepare
abbrev pub prepare_taken : Master → Prepare → Worked
prepare_taken master prepare =
    let handover = (tablet_at master prepare.tenure.tablet).handover in
    if is_greater master prepare.tenure.tablet prepare.tenure.term prepare.range
    then preparing master prepare
    else ready_again master prepare.tenure handover.role handover.term

-- what the next owner of a frozen tablet has to know: a number above each version, and the last end of each client
abbrev pub transfer : Master → Tenure → Tablet → Message
transfer master tenure tablet =
    from_master master nodes.Coordinator
    (bodies.Transfer (record { tenure = tenure; floor = tablet.handover.counter; ends = ends_of tablet.completions }))

-- a master whose tablet is frozen at this term reports what the next owner has to know
abbrev pub transferring : Master → Tenure → Worked
transferring master tenure =
    let tablet = tablet_at master tenure.tablet in
    if is_frozen_at tablet tenure.term then sending master (transfer master tenure tablet) else changed master

-- a tablet closes
abbrev pub tablet_closed : Master → ℕ → Handover → Master
tablet_closed master number handover = with_move master number (Some handover)

-- a tablet closes, and is frozen at once if nothing of it is staged
abbrev pub closing : Master → ℕ → Option Handover → Master
closing master number None = master
closing master number (Some handover) =
    let now = tablet_closed master number handover in
    freezing now number (tablet_at now number) (frozen handover handover.term)

-- a master takes a Close
abbrev pub close_taken : Master → Tenure → Worked
close_taken master tenure =
    transferring (closing master tenure.tablet (closed (tablet_at master tenure.tablet).handover tenure.term)) tenure

-- the entry that begins what a target has of a tablet
abbrev pub carried_entry : Handover → Grant → Entry
carried_entry handover grant = entries.Carried (record {
  range = handover.range;
  term = handover.term;
  floor = grant.floor;
  ends = grant.ends;
})

-- a tablet is served from now on, by what its source handed over
abbrev pub tablet_granted : Master → Grant → Handover → Master
tablet_granted master grant handover =
    with_tablet (with_appended master (carried_entry handover grant)) grant.tenure.tablet
    (record (without_merged (tablet_at master grant.tenure.tablet)) {
      handover = handover;
      completions = completions_from [] grant.ends;
      pulling = pulling_from grant.source;
    })

-- a target is granted its tablet, if that move applies
abbrev pub granting : Master → Grant → Option Handover → Worked
granting master grant None = changed master
granting master grant (Some handover) = changed (tablet_granted master grant handover)

-- a master takes a Grant
abbrev pub grant_taken : Master → Grant → Worked
grant_taken master grant =
    granting master grant (granted (tablet_at master grant.tenure.tablet).handover grant.tenure.term grant.floor)

-- a tablet is owned: what was pulled, gathered and merged is needed no more
abbrev pub tablet_owned : Master → ℕ → Handover → Master
tablet_owned master number handover =
    with_tablet master number
    (record (without_merged (tablet_at master number)) { handover = handover; pulling = pulling_from 0 })

-- a master owns its tablet, if that move applies
abbrev pub owning : Master → ℕ → Option Handover → Worked
owning master number None = changed master
owning master number (Some handover) = changed (tablet_owned master number handover)

-- a master takes an Own
abbrev pub own_taken : Master → Tenure → Worked
own_taken master tenure =
    owning master tenure.tablet (owned (tablet_at master tenure.tablet).handover tenure.term master.applied)

-- a tablet is another's: its items are dropped
abbrev pub tablet_released : Master → ℕ → Handover → Master
tablet_released master number handover = with_move (without_items master handover.range) number (Some handover)

-- a master gives its tablet up, if that move applies
abbrev pub releasing : Master → ℕ → Option Handover → Worked
releasing master number None = changed master
releasing master number (Some handover) = changed (tablet_released master number handover)

-- a master takes a Release
abbrev pub release_taken : Master → Tenure → Worked
release_taken master tenure =
    releasing master tenure.tablet (released (tablet_at master tenure.tablet).handover tenure.term)
