-- What the coordinator's orders do, at the place of their tablet.
use Rattle.rk_master.proofs.Words.{◌≡◌, ℕ, ◌<◌, Bool, true, false, cond, not, ◌&&◌, eqb, ltb, map, subst, List, [], ◌∷◌, length, get_or}
use Rattle.rk_master.proofs.Words.{set, slice_get, Option, Some, None, is_some, unwrap_or, refl, sym, ap, ◌∙◌, arith, w64, list_all}
use Rattle.rk_master.proofs.Words.{nat_cmp, is_eq, cond-true, cond-false, eq-eqb, false≢true, slice_get-get_or, NumberMap, IsInOrder, get}
use Rattle.rk_master.proofs.Words.{insert, get_same, Held, Range, Handover, Role, IsLawfulEntry, Log, with_entry, completions_from, Message}
use Rattle.rk_master.proofs.Words.{is_above, Master, tablet_at, Tablet, no_tablet, pulling_from, with_handover, without_merged, Worked}
use Rattle.rk_master.proofs.Words.{changed, TabletLane, Work, IsClosable, changing, given_up_but, marks_of, tablet_in, tablet_of}
use Rattle.rk_master.proofs.Words.{tablets_of, worked_of, IsAt, IsBetween, Row, items_of_sides}
use Rattle.std.specs.Prelude.{IfSome}
use Rattle.std.proofs.lemmas.Bool.{lt-ltb}
use Rattle.std.proofs.lemmas.List.{get_or-set_same, set-get_or}
use Rattle.std.proofs.Math.ListN.{length-set}
use Rattle.rk_types.proofs.NumberMaps.{same_number}
use Rattle.rk_types.specs.Range.{meets}
use Rattle.rk_table.specs.Items.{without}
use Rattle.rk_transfer.specs.Handover.{closed, frozen, granted, owned, prepared, released, in_role}
use Rattle.rk_transfer.specs.declared.role.Role.TheVariants as roles
use Rattle.rk_message.specs.declared.handover.Grant.{Grant}
use Rattle.rk_message.specs.declared.handover.Prepare.{Prepare}
use Rattle.rk_message.specs.declared.handover.Tenure.{Tenure}
use Rattle.rk_world.specs.Handovers.{carried_entry, close_taken, closing, given_up, grant_taken, granting, own_taken, owning, prepare_taken, ready, ready_again, release_taken, releasing, tablet_prepared, transfer, transferring, with_move}
use Rattle.rk_world.specs.Master.{without_items}
use Rattle.rk_world.specs.RoleTests.{is_frozen_at}
use Rattle.rk_world.specs.Waiting.{freezing}
use Rattle.rk_world.specs.Worked.{sending}
use Rattle.rk_master.specs.Parts.{IsGrantable}
use Rattle.rk_master.proofs.Closable.{closable_as}
use Rattle.rk_master.proofs.Places.{changed_there, none_there, tablet_there}

-- ---- a move

-- a move that applied
pub has_moved : (moved : Option Handover) (old new : Handover) → is_some moved ≡ true → new ≡ unwrap_or moved old → moved ≡ Some new
has_moved None old new applied is = absurd (false≢true applied)
has_moved (Some after) old new applied is = ap Some (sym is)

-- a move that did not apply
pub not_moved : (moved : Option Handover) → is_some moved ≡ false → moved ≡ None
not_moved None failed = refl
not_moved (Some after) failed = absurd (false≢true (sym failed))

-- leaves the handover as it was
pub stays_so : (moved : Option Handover) (old new : Handover) → is_some moved ≡ false → new ≡ unwrap_or moved old → new ≡ old
stays_so None old new failed is = is
stays_so (Some after) old new failed is = absurd (false≢true (sym failed))

-- the role that a move turns to
pub role_is : (handover after : Handover) (role : Role) → in_role handover (Some role) ≡ Some after → after.role ≡ role
role_is handover after role is =
    let same : record handover { role = role } ≡ after = cc is in sym (ap (λ (h : Handover). h.role) same)

-- the role after a close
pub closed_role : (handover after : Handover) (term : ℕ) → closed handover term ≡ Some after → after.role ≡ roles.Closing
closed_role handover after term is = grind (arith, ltb, role_is)

-- after an own
pub owned_role : (handover after : Handover) (term applied : ℕ) → owned handover term applied ≡ Some after → after.role ≡ roles.Serving
owned_role handover after term applied is = grind (arith, eqb, role_is, ltb)

-- and after a release
pub released_role : (handover after : Handover) (term : ℕ) → released handover term ≡ Some after → after.role ≡ roles.Absent
released_role handover after term is = grind (arith, eqb, role_is)

-- ---- the tablet at a place

-- the tablet with another handover
abbrev pub moved_lane : TabletLane → Handover → TabletLane
moved_lane lane handover = record lane { handover = handover }

-- a master with these tablets
abbrev pub with_rows : Master → List Row → Master
with_rows master rows = record master { tablets = tablets_of rows }

-- the tablet of a number is at the place it was at, after it was changed there
pub at_set : (rows : List Row) (number i : ℕ) (read : Row) (lane : TabletLane) → IsAt number rows i → read ≡ get_or rows i read → IsAt number (set rows i (read.0, lane)) i
at_set rows number i read lane at is = grind (arith, length-set, get_or-set_same)

-- what is read at its place is what the master has of it
pub tablet_read : (rows : List Row) (number i : ℕ) (read : Row) → IsInOrder rows → IsAt number rows i → read ≡ get_or rows i read → tablet_in rows number ≡ tablet_of read.1
tablet_read rows number i read order at is = tablet_there rows number i read order at ∙ ap (λ (r : Row). tablet_of r.1) (sym is)

-- a tablet changed where it was read is put under its number
pub changed_read : (rows : List Row) (number i : ℕ) (read : Row) (lane : TabletLane) → IsInOrder rows → IsAt number rows i → read ≡ get_or rows i read
    → tablets_of (set rows i (read.0, lane)) ≡ insert (tablets_of rows) number (tablet_of lane)
changed_read rows number i read lane order at is =
    ap (λ (r : Row). tablets_of (set rows i (r.0, lane))) is ∙ changed_there rows number i read lane order at

-- and is what the master has of it then
pub tablet_set : (rows : List Row) (number i : ℕ) (read : Row) (lane : TabletLane) → IsInOrder rows → IsAt number rows i → read ≡ get_or rows i read
    → tablet_in (set rows i (read.0, lane)) number ≡ tablet_of lane
tablet_set rows number i read lane order at is =
    ap (λ (tablets : NumberMap Tablet). unwrap_or (get tablets number) no_tablet) (changed_read rows number i read lane order at is)
    ∙ ap (λ (o : Option Tablet). unwrap_or o no_tablet) (get_same (tablets_of rows) number (tablet_of lane) number refl)

-- what was put at a place is there
pub set_there : (rows : List Row) (i : ℕ) (row : Row) → i < length rows → slice_get (set rows i row) i ≡ Some row
set_there rows i row within =
    slice_get-get_or (set rows i row) i row (omega (arith, length-set rows i row, within)) ∙ ap Some (get_or-set_same rows i row row within)

-- a tablet whose handover stays is as it was
pub same_set : (rows : List Row) (i : ℕ) (read : Row) (handover : Handover) → handover ≡ read.1.handover → read ≡ get_or rows i read
    → set rows i (read.0, moved_lane read.1 handover) ≡ rows
same_set rows i read handover same is =
    ap (λ (h : Handover). set rows i (read.0, moved_lane read.1 h)) same ∙ ap (set rows i) is ∙ set-get_or rows i read

-- a tablet that moved at its place
pub move_made : (master : Master) (rows : List Row) (number i : ℕ) (read : Row) (handover : Handover) (lane : TabletLane) → IsInOrder rows → IsAt number rows i → read ≡ get_or rows i read
    → tablet_of lane ≡ without_merged (tablet_of (moved_lane read.1 handover))
    → with_rows master (set rows i (read.0, lane)) ≡ with_move (with_rows master rows) number (Some handover)
move_made master rows number i read handover lane order at is lane_is =
    grind (arith, changed_read, insert, tablets_of, without_merged, with_handover, tablet_read)

-- ---- a Close

-- a tablet that closed, and was frozen if nothing of it is staged
pub closing_so : (master after : Master) (rows : List Row) (number i : ℕ) (read : Row) (handover : Handover) (moved : Option Handover) (lane : TabletLane)
    → IsInOrder rows → IsAt number rows i → read ≡ get_or rows i read
    → moved ≡ Some handover → tablet_of lane ≡ without_merged (tablet_of (moved_lane read.1 handover))
    → after ≡ freezing (with_rows master (set rows i (read.0, lane))) read.0 (tablet_of lane) (frozen lane.handover lane.handover.term)
    → after ≡ closing (with_rows master rows) number moved
closing_so master after rows number i read handover moved lane order at is moved_is lane_is after_is =
    let now : Master = with_rows master (set rows i (read.0, lane)) in
    let named : read.0 ≡ number = ap (λ (r : Row). r.0) is ∙ at.same read in
    after_is
    ∙ ap (λ (t : Tablet). freezing now read.0 (tablet_of lane) (frozen t.handover t.handover.term)) lane_is
    ∙ ap (λ (n : ℕ). freezing now n (tablet_of lane) (frozen handover handover.term)) named
    ∙ ap (λ (tablet : Tablet). freezing now number tablet (frozen handover handover.term)) (sym (tablet_set rows number i read lane order at is))
    ∙ ap (λ (m : Master). freezing m number (tablet_at m number) (frozen handover handover.term)) (move_made master rows number i read handover lane order at is lane_is)
    ∙ sym (ap (closing (with_rows master rows) number) moved_is)

-- what is sent of a tablet
abbrev telling : Master → Tenure → Tablet → Worked
telling master tenure tablet = cond (is_frozen_at tablet tenure.term) (sending master (transfer master tenure tablet)) (changed master)

-- what the next owner of a frozen tablet has to know is sent
pub is_told : (master : Master) (tenure : Tenure) (tablet : Tablet) → tablet_at master tenure.tablet ≡ tablet → is_frozen_at tablet tenure.term ≡ true
    → sending master (transfer master tenure tablet) ≡ transferring master tenure
is_told master tenure tablet there frozen_now =
    sym (ap (telling master tenure) there ∙ cond-true (is_frozen_at tablet tenure.term) (sending master (transfer master tenure tablet)) (changed master) frozen_now)

-- and of a tablet that is not frozen nothing is
pub not_told : (master : Master) (tenure : Tenure) (tablet : Tablet) → tablet_at master tenure.tablet ≡ tablet → is_frozen_at tablet tenure.term ≡ false
    → changed master ≡ transferring master tenure
not_told master tenure tablet there not_frozen =
    sym (ap (telling master tenure) there ∙ cond-false (is_frozen_at tablet tenure.term) (sending master (transfer master tenure tablet)) (changed master) not_frozen)

-- ---- an Own

-- an Own that does not apply
pub own_failed : (master : Master) (tenure : Tenure) (tablet : Tablet) → tablet_at master tenure.tablet ≡ tablet → owned tablet.handover tenure.term master.applied ≡ None
    → changed master ≡ own_taken master tenure
own_failed master tenure tablet there none =
    sym (ap (owning master tenure.tablet) (ap (λ (t : Tablet). owned t.handover tenure.term master.applied) there ∙ none))

-- a tablet that is owned
pub own_made : (master : Master) (rows : List Row) (i : ℕ) (read : Row) (handover : Handover) (lane : TabletLane) (tenure : Tenure)
    → IsInOrder rows → IsAt tenure.tablet rows i → read ≡ get_or rows i read → owned read.1.handover tenure.term master.applied ≡ Some handover
    → tablet_of lane ≡ record (without_merged (tablet_of (moved_lane read.1 handover))) { pulling = pulling_from 0 }
    → changed (with_rows master (set rows i (read.0, lane))) ≡ own_taken (with_rows master rows) tenure
own_made master rows i read handover lane tenure order at is moved lane_is =
    grind (arith, tablet_read, changed, changed_read, insert, tablets_of, without_merged, pulling_from)

-- ---- a Release

-- a Release that does not apply
pub release_failed : (master : Master) (tenure : Tenure) (tablet : Tablet) → tablet_at master tenure.tablet ≡ tablet → released tablet.handover tenure.term ≡ None
    → changed master ≡ release_taken master tenure
release_failed master tenure tablet there none =
    sym (ap (releasing master tenure.tablet) (ap (λ (t : Tablet). released t.handover tenure.term) there ∙ none))

-- a tablet that is released
pub release_made : (master : Master) (records : List Held) (rows : List Row) (i : ℕ) (read : Row) (handover : Handover) (lane : TabletLane) (tenure : Tenure)
    → IsInOrder rows → IsAt tenure.tablet rows i → read ≡ get_or rows i read → released read.1.handover tenure.term ≡ Some handover
    → tablet_of lane ≡ without_merged (tablet_of (moved_lane read.1 handover)) → records ≡ without handover.range master.records
    → changed (with_rows (record master { records = records }) (set rows i (read.0, lane))) ≡ release_taken (with_rows master rows) tenure
release_made master records rows i read handover lane tenure order at is moved lane_is dropped =
    let tablet = tablet_read rows tenure.tablet i read order at is in
    ap (λ (items : List Held). changed (with_rows (record master { records = items }) (set rows i (read.0, lane)))) dropped
    ∙ ap changed (move_made (without_items master handover.range) rows tenure.tablet i read handover lane order at is lane_is)
    ∙ sym (ap (releasing (with_rows master rows) tenure.tablet) (ap (λ (t : Tablet). released t.handover tenure.term) tablet ∙ moved))

-- ---- a Prepare

-- it applies by a greater term
pub begins : (handover : Handover) (term : ℕ) (range : Range) (from : ℕ) → handover.term < term → is_some (prepared handover term range from) ≡ true
begins handover term range from greater =
    ap (λ (b : Bool). is_some (cond b (Some (record handover { role = roles.Wanting from; term = term; range = range })) None)) (lt-ltb handover.term term greater)

-- a tablet that stays as it is is found as it was
pub kept_itself : (change : ℕ → Tablet → Tablet) (number : ℕ) (tablets : NumberMap Tablet) → ((tablet : Tablet) → change number tablet ≡ tablet)
    → get (map (changing change) tablets) number ≡ get tablets number
kept_itself change number [] stays = refl
kept_itself change number (entry ∷ tablets) stays =
    grind (arith, is_eq, nat_cmp, changing, same_number, entry.0, entry.1, (kept_itself change number tablets stays))

-- the tablet that a Prepare is about is not given up
pub stays_itself : (number : ℕ) (range : Range) (tablet : Tablet) → given_up_but number range number tablet ≡ tablet
stays_itself number range tablet =
    ap (λ (b : Bool). cond (not b && meets tablet.handover.range range) (given_up tablet) tablet) (eq-eqb number number refl)

-- a master that made ready for a tablet
pub prepared_so : (master : Master) (rows others after : List Row) (records : List Held) (prepare : Prepare) (before handover : Handover)
    → before ≡ (tablet_in rows prepare.tenure.tablet).handover → prepared before prepare.tenure.term prepare.range (length master.log.entries) ≡ Some handover
    → records ≡ without prepare.range master.records
    → tablets_of others ≡ map (changing (given_up_but prepare.tenure.tablet prepare.range)) (tablets_of rows)
    → tablets_of after ≡ insert (tablets_of others) prepare.tenure.tablet (without_merged (with_handover (tablet_in others prepare.tenure.tablet) handover))
    → with_rows (record master { records = records }) after ≡ tablet_prepared (with_rows master rows) prepare
prepared_so master rows others after records prepare before handover before_is moved dropped others_are after_is =
    grind (arith, tablet_at, no_tablet, kept_itself, given_up_but, tablets_of, stays_itself)

-- it says so
pub prepare_made : (master now : Master) (prepare : Prepare) (place : ℕ) → now ≡ tablet_prepared master prepare → place ≡ length master.log.entries
    → (tablet_at master prepare.tenure.tablet).handover.term < prepare.tenure.term → list_all (is_above prepare.range prepare.tenure.term) master.tablets ≡ true
    → sending now (ready master prepare.tenure place) ≡ prepare_taken master prepare
prepare_made master now prepare place now_is place_is greater above = grind (arith, tablet_at, lt-ltb, cond-true)

-- a master that made ready says so again
pub ready_so : (master : Master) (tenure : Tenure) (role : Role) (term from : ℕ) → role ≡ roles.Wanting from → term ≡ tenure.term
    → sending master (ready master tenure from) ≡ ready_again master tenure role term
ready_so master tenure role term from role_is term_is = grind (arith, cond-true, eqb, changed, eq-eqb)

-- ---- a Grant

-- the role after it
pub granted_role : (handover after : Handover) (term counter : ℕ) → granted handover term counter ≡ Some after → after.role ≡ roles.Receiving
granted_role handover after term counter is = grind (arith, eqb, role_is)

-- a Grant that does not apply
pub grant_failed : (master : Master) (grant : Grant) (tablet : Tablet) → tablet_at master grant.tenure.tablet ≡ tablet → granted tablet.handover grant.tenure.term grant.floor ≡ None
    → changed master ≡ grant_taken master grant
grant_failed master grant tablet there none =
    sym (ap (granting master grant) (ap (λ (t : Tablet). granted t.handover grant.tenure.term grant.floor) there ∙ none))

-- a target that is granted its tablet
pub grant_made : (master : Master) (log : Log) (rows : List Row) (i : ℕ) (read : Row) (handover : Handover) (lane : TabletLane) (grant : Grant)
    → master.sides ≡ items_of_sides master.log.sides → IsInOrder rows → IsAt grant.tenure.tablet rows i → read ≡ get_or rows i read → granted read.1.handover grant.tenure.term grant.floor ≡ Some handover
    → log ≡ with_entry master.log (carried_entry handover grant)
    → tablet_of lane ≡ record (without_merged (tablet_of (moved_lane read.1 handover))) { completions = completions_from [] grant.ends; pulling = pulling_from grant.source }
    → changed (with_rows (record master { log = log; sides = items_of_sides log.sides }) (set rows i (read.0, lane))) ≡ grant_taken (with_rows master rows) grant
grant_made master log rows i read handover lane grant here order at is moved log_is lane_is =
    grind (arith, tablet_read, changed_read, insert, tablets_of, without_merged, completions_from, pulling_from, items_of_sides, changed)

-- the role that it has then can be closed
pub grant_closable : (lane : TabletLane) (handover : Handover) (grant : Grant) → lane.handover ≡ handover → handover.role ≡ roles.Receiving → IsLawfulEntry (carried_entry handover grant)
    → IsClosable (tablet_of lane)
grant_closable lane handover grant same role lawful = grind (arith, tablet_of, closable_as, w64)

-- its entry can be spelled
pub grant_lawful : (rows : List Row) (i : ℕ) (read : Row) (master : Master) (handover : Handover) (grant : Grant)
    → IsInOrder rows → IsAt grant.tenure.tablet rows i → read ≡ get_or rows i read → granted read.1.handover grant.tenure.term grant.floor ≡ Some handover
    → IsGrantable (with_rows master rows) grant → IsLawfulEntry (carried_entry handover grant)
grant_lawful rows i read master handover grant order at is moved lawful =
    subst (λ (o : Option Handover). IfSome o (λ after. IsLawfulEntry (carried_entry after grant)))
    (ap (λ (t : Tablet). granted t.handover grant.tenure.term grant.floor) (tablet_read rows grant.tenure.tablet i read order at is) ∙ moved) lawful

-- ---- what was worked

-- nothing is sent, and nothing served
pub worked_quietly : (master : Master) (work : Work) → work.sends.items ≡ [] → work.served.items ≡ [] → work.marked ≡ None → worked_of master work ≡ changed master
worked_quietly master work sends served marked = λ i. record { master = master; sends = sends i; served = served i; marked = marks_of (marked i) }

-- a message is sent
pub worked_sending : (master : Master) (work : Work) (message : Message) → work.sends.items ≡ message ∷ [] → work.served.items ≡ [] → work.marked ≡ None
    → worked_of master work ≡ sending master message
worked_sending master work message sends served marked = λ i. record { master = master; sends = sends i; served = served i; marked = marks_of (marked i) }

-- ---- a tablet that the master does not know

-- one whose number was not found among the rows, as they were lent
pub none_lent : (rows lent : List Row) (number i : ℕ) → lent ≡ rows → IsBetween number lent i → tablet_in rows number ≡ no_tablet
none_lent rows lent number i is between = none_there rows number i (subst (λ (xs : List Row). IsBetween number xs i) is between)

-- no move but a prepare applies to it
none_either : (b : Bool) (moved : Option Handover) → cond b moved moved ≡ moved
none_either true moved = refl
none_either false moved = refl

-- a Close of it does nothing
pub close_absent : (master : Master) (tenure : Tenure) → tablet_at master tenure.tablet ≡ no_tablet → changed master ≡ close_taken master tenure
close_absent master tenure absent = grind (arith, not_told, no_tablet, none_either, ltb)

-- nor an Own
pub own_absent : (master : Master) (tenure : Tenure) → tablet_at master tenure.tablet ≡ no_tablet → changed master ≡ own_taken master tenure
own_absent master tenure absent = own_failed master tenure no_tablet absent (none_either (eqb 0 tenure.term) None)

-- nor a Release
pub release_absent : (master : Master) (tenure : Tenure) → tablet_at master tenure.tablet ≡ no_tablet → changed master ≡ release_taken master tenure
release_absent master tenure absent = release_failed master tenure no_tablet absent (none_either (eqb 0 tenure.term) None)

-- nor a Grant
pub grant_absent : (master : Master) (grant : Grant) → tablet_at master grant.tenure.tablet ≡ no_tablet → changed master ≡ grant_taken master grant
grant_absent master grant absent = grant_failed master grant no_tablet absent (none_either (eqb 0 grant.tenure.term) None)
