-- What a master makes of its turn is well formed: what it sends to backups, and its duty for each tablet; and so is what it makes of any
-- message, by the kinds of messages.
use Rattle.std.proofs.Common.{◌≡◌, ◌≤◌, ◌<◌, ◌+◌, ℕ, true, not, nat_lt, All, List, [], ◌∷◌, length, flat_map, is_some, Option, None, Some}
use Rattle.std.proofs.Common.{◌*◌, ◌^◌, length-append, refl, arith, IfSome, w32, w64, option_map, w8, inr}
use Rattle.rk_inv_wellformed.proofs.Words.{All-from_recursion, cond_both, All-cons, All-head, All-nil, All-push, All-tail}
use Rattle.rk_inv_wellformed.proofs.Words.{recursion_from_All, range_with_len, NumberMap, get, meets, Range, IsNumber, Entry}
use Rattle.rk_inv_wellformed.proofs.Words.{FIRST_SIDE_SEGMENT, Role, pending, segments, PlacedBytes, IsFormedGathered, IsFormedMaster}
use Rattle.rk_inv_wellformed.proofs.Words.{IsFormedTablet, place_in, Gathered, next_reading, IsFormedEntry, IsFormedMessage}
use Rattle.rk_inv_wellformed.proofs.Words.{IsFormedTenure, Limits, Master, duties, master_turn, reading_duty, tablet_duty}
use Rattle.rk_inv_wellformed.proofs.Words.{with_outstanding, with_tablet, IsMaster, is_receiving, Tablet, Worked, Reading, Message, Body}
use Rattle.rk_inv_wellformed.proofs.Words.{IsLawfulBody, IsFormedBody, IsThere, from_master, sending, length-range_with_len, main_entries}
use Rattle.rk_inv_wellformed.proofs.Words.{append_of, appends, pull_of, want_of, named, Node, overreach, backup_message, client_message}
use Rattle.rk_inv_wellformed.proofs.Words.{master_step, order, peer_message, told_master, changed, Stored, stored_taken, Pulled}
use Rattle.rk_inv_wellformed.proofs.Words.{pulled_taken, IsLawfulToken, IsFormedHeld, items_of, next_of, next_segment, next_side}
use Rattle.rk_inv_wellformed.proofs.Words.{reading_of, append_to, rebuilt_duty, receiving_duty, tenure_at, named_by, with_number}
use Rattle.rk_inv_wellformed.proofs.bytes.Segments.{IsTold, IsToldPiece, pending_told, segments_told}
use Rattle.rk_inv_wellformed.proofs.masters.Work.{formed_from, tenure_fits, AreLimits, HasLogRoom, IsFormedWork, MOST_AT_ONCE}
use Rattle.rk_inv_wellformed.proofs.masters.Work.{formed_changed, formed_more, formed_sending, formed_then, Rises, WorkFits}
use Rattle.rk_inv_wellformed.proofs.maps.{all_find, all_flat, fold_keeps_all, by_found, either_way, All_pairs, few_in_order, one_of_each}
use Rattle.rk_inv_wellformed.proofs.masters.Changes.{formed_with_tablet}
use Rattle.rk_inv_wellformed.proofs.masters.Requests.{either_formed, formed_request}
use Rattle.rk_inv_wellformed.proofs.masters.Tablets.{formed_with_outstanding, none_waits_in}
use Rattle.rk_inv_wellformed.proofs.masters.Handovers.{ends_are_lawful, formed_close, formed_grant, formed_own, formed_prepare}
use Rattle.rk_inv_wellformed.proofs.masters.Handovers.{formed_release}
use Rattle.rk_inv_wellformed.proofs.masters.Rebuilding.{main_formed, formed_copy, formed_rebuild}
pub use Rattle.rk_inv_wellformed.proofs.maps.Lists.{range_within}
use Rattle.rk_inv_wellformed.proofs.bytes.Sizes.{entries_few, place_fits}
use Rattle.rk_inv_wellformed.proofs.lanes.More.{IsMore, more_body, more_master, more_self, more_there}
use Rattle.rk_inv_wellformed.proofs.masters.Commits.{formed_stored}
use Rattle.rk_inv_wellformed.proofs.masters.Pulls.{formed_pull, formed_want}
use Rattle.rk_inv_wellformed.proofs.masters.Sealing.{formed_got, formed_pulled}

-- ---- what a rebuild reads next

-- a segment of a master that is there, with a number that fits
pub record IsFormedReading (limits : Limits) (reading : Reading) : Type 0 where
  pub master : IsMaster limits.masters reading.master
  pub segment : IsNumber w32 0 reading.segment

-- the side segments that a well formed entry names
named_by_formed : (limits : Limits) (range : Range) (entry : Entry) → IsFormedEntry limits entry
    → All (IsNumber w32 FIRST_SIDE_SEGMENT) (named_by range entry)
named_by_formed limits range (Entry.Joined joined) formed =
    either_way (All (IsNumber w32 FIRST_SIDE_SEGMENT)) (meets joined.range range)
    (All-from_recursion (IsNumber w32 FIRST_SIDE_SEGMENT) joined.segments formed.lawful.each) (All-nil (IsNumber w32 FIRST_SIDE_SEGMENT))
named_by_formed limits range _ formed = All-nil (IsNumber w32 FIRST_SIDE_SEGMENT)

-- and those that well formed entries name
pub named_formed : (limits : Limits) (range : Range) (entries : List Entry) → All (IsFormedEntry limits) entries
    → All (IsNumber w32 FIRST_SIDE_SEGMENT) (named range entries)
named_formed limits range entries each =
    fold_keeps_all (All (IsNumber w32 FIRST_SIDE_SEGMENT)) (IsNumber w32 FIRST_SIDE_SEGMENT) with_number (flat_map (named_by range) entries) []
    (All-nil (IsNumber w32 FIRST_SIDE_SEGMENT))
    (all_flat (IsNumber w32 FIRST_SIDE_SEGMENT) (named_by range) entries (λ place other within. named_by_formed limits range _ (each place other within)))
    (λ numbers number all new. cond_both _ _ _ (All (IsNumber w32 FIRST_SIDE_SEGMENT)) (λ there. all)
    (λ absent. All-push (IsNumber w32 FIRST_SIDE_SEGMENT) numbers number all new))

side_fits : {limits : Limits} (range : Range) {gathered : Gathered} → IsFormedGathered limits gathered
    → IfSome (next_side range gathered) (IsNumber w32 0)
side_fits {limits} range {gathered} formed = by_found (λ found. IfSome found (IsNumber w32 0)) (next_side range gathered) (λ is. tt)
    (λ segment is. omega (
      arith,
      all_find (IsNumber w32 FIRST_SIDE_SEGMENT) (λ segment. not (is_some (get gathered.sides segment)))
          (named range (main_entries gathered)) segment (named_formed limits range (main_entries gathered) (main_formed formed)) is,
    ))

segment_fits : {limits : Limits} (range : Range) {gathered : Gathered} → IsFormedGathered limits gathered
    → IfSome (next_segment range gathered) (IsNumber w32 0)
segment_fits range {gathered} formed =
    cond_both gathered.main_read (next_side range gathered) (Some (length gathered.main + 1)) (λ segment. IfSome segment (IsNumber w32 0))
    (λ passed. side_fits range formed) (λ reads. omega (arith, formed.more reads))

reading_of_formed : (limits : Limits) (gathered : Gathered) (segment : Option ℕ) → IsMaster limits.masters gathered.member.master
    → IfSome segment (IsNumber w32 0) → IfSome (option_map (reading_of gathered) segment) (IsFormedReading limits)
reading_of_formed limits gathered None there fits = tt
reading_of_formed limits gathered (Some segment) there fits = record { master = there; segment = fits }

-- what is read next of well formed members
pub next_formed : (limits : Limits) (range : Range) (members : List Gathered) → All (IsFormedGathered limits) members
    → IfSome (next_of range members) (IsFormedReading limits)
next_formed limits range [] each = tt
next_formed limits range (gathered ∷ others) each =
    let here = All-head (IsFormedGathered limits) gathered others each in
    either_formed (IsFormedReading limits) (option_map (reading_of gathered) (next_segment range gathered)) (next_of range others)
    (reading_of_formed limits gathered (next_segment range gathered) here.member_is (segment_fits range here))
    (next_formed limits range others (All-tail (IsFormedGathered limits) gathered others each))

-- ---- what a master sends

want_one : (master : Master) (id : ℕ) (tablet : Tablet) (hashes : List ℕ) → length (want_of master id tablet hashes) ≤ 1
want_one master id tablet [] = omega arith
want_one master id tablet (hash ∷ hashes) = omega arith

module _ (limits : Limits) (number : ℕ) (master : Master) (are : AreLimits limits) (there : IsMaster limits.masters number)
    (formed : IsFormedMaster limits number master) where
  sent : (to : Node) (body : Body) → IsThere limits to → IsLawfulBody body → IsFormedBody limits (Node.Master master.number) body
      → IsFormedMessage limits (from_master master to body)
  sent to body receiver lawful says = formed_from limits master to body there formed.number_is receiver lawful says

  -- a duty that sends this
  tells : (to : Node) (body : Body) → IsThere limits to → IsLawfulBody body → IsFormedBody limits (Node.Master master.number) body
      → IsFormedWork limits number 2 (sending master (from_master master to body))
  tells to body receiver lawful says = formed_more 1 2 (omega arith) (formed_sending formed (sent to body receiver lawful says))

  -- what is sent to a backup
  append_formed : (backup : ℕ) (piece : Option PlacedBytes) → (1 ≤ backup) × (backup ≤ limits.backups) → IfSome piece IsToldPiece
      → All (IsFormedMessage limits) (append_of master backup piece)
  append_formed backup piece is told = grind (arith, append_to, sent)

  -- what is sent to the backups, if a message can carry each segment
  appends_formed : All IsTold (segments master.log) → All (IsFormedMessage limits) (appends master)
  appends_formed told = all_flat (IsFormedMessage limits) (λ backup. append_of master backup (pending master.log backup))
      (range_with_len 1 (length master.log.known))
      (λ place other within.
      let is = range_within 1 (length master.log.known) place other within in
      append_formed _ _ (is.0, omega (arith, is.1, formed.known)) (pending_told master.log _ told))

  -- what a master sends for a tablet
  module _ (id : ℕ) (tablet : Tablet) (held : IsFormedTablet limits id tablet) where
    its_tenure : IsFormedTenure limits (tenure_at id tablet)
    its_tenure = record { tablet = held.number_is; term = held.term }

    -- a target asks for the batch from its token on
    pull_formed : IsMaster limits.masters tablet.pulling.source → IsFormedMessage limits (pull_of master id tablet)
    pull_formed source = sent (Node.Master tablet.pulling.source) _ source (tenure_fits are its_tenure, held.pulled.token) its_tenure

    -- and for the outstanding hashes
    want_formed : (hashes : List ℕ) → IsMaster limits.masters tablet.pulling.source → All (IsNumber w64 0) hashes
        → All (IsFormedMessage limits) (want_of master id tablet hashes)
    want_formed [] source each = All-nil (IsFormedMessage limits)
    want_formed (hash ∷ more) source each = All-cons (IsFormedMessage limits) _ []
        (sent (Node.Master tablet.pulling.source) _ source
        (tenure_fits are its_tenure, recursion_from_All (IsNumber w64 0) (hash ∷ more) each) its_tenure)
        (All-nil (IsFormedMessage limits))

    -- a rebuilding master whose closing entry is applied reports its place and the ends
    rebuilt_formed : {from : ℕ} (entry : ℕ) → IsNumber w64 0 from → IsFormedWork limits number 2 (rebuilt_duty master id tablet from entry)
    rebuilt_formed {from} entry place = either_way (IsFormedWork limits number 2) (nat_lt entry master.applied)
        (tells Node.Coordinator _ tt (assumption (tenure_fits are its_tenure, ends_are_lawful limits tablet.merged_ends held.merged))
        (its_tenure, held.merged, held.merged_once))
        (formed_changed formed)

    -- a rebuilding master reads the next segment
    reading_formed : (reading : Option Reading) → IfSome reading (IsFormedReading limits)
        → IsFormedWork limits number 2 (reading_duty master id tablet reading)
    reading_formed None reads = formed_changed formed
    reading_formed (Some reading) reads =
        let master_fits : IsNumber w8 0 reading.master = omega (arith, reads, are) in
        tells (Node.Backup 1) _ (omega (arith, are)) (assumption (tenure_fits are its_tenure, reads)) (its_tenure, reads.master)

  -- a target asks for what it lacks
  receiving_formed : (id : ℕ) (tablet : Tablet) → tablet.handover.role ≡ Role.Receiving → IsFormedTablet limits id tablet
      → IsMaster limits.masters tablet.pulling.source → IsFormedWork limits number 2 (receiving_duty master id tablet)
  receiving_formed id tablet is held source =
      let now = with_outstanding tablet in
      let asks = formed_with_outstanding held in
      record {
        master = formed_with_tablet formed asks (none_waits_in tablet.handover.role Role.Receiving _ _ is (λ sealed. refl));
        sends = All-push (IsFormedMessage limits) (want_of master id now now.pulling.hashes.outstanding) (pull_of master id now)
            (want_formed id now asks now.pulling.hashes.outstanding source asks.pulled.outstanding) (pull_formed id now asks source);
        few = omega (arith, want_one master id now now.pulling.hashes.outstanding, length-append {A = Message});
        served = omega arith;
      }

  -- what a master does for a tablet, by its role
  duty_formed : (id : ℕ) (tablet : Tablet) (role : Role) → tablet.handover.role ≡ role → IsFormedTablet limits id tablet → IsNumber w64 0 (place_in role)
      → (is_receiving role ≡ true → IsMaster limits.masters tablet.pulling.source) → IsFormedWork limits number 2 (tablet_duty master id tablet role)
  duty_formed id tablet Role.Receiving is held place source = receiving_formed id tablet is held (source refl)
  duty_formed id tablet (Role.Joining (Some entry)) is held place source =
      grind (arith, either_way, nat_lt, tells, tenure_fits, formed_changed)
  duty_formed id tablet (Role.Rebuilding from None) is held place source =
      reading_formed id tablet held (next_reading tablet.gather) (next_formed limits tablet.gather.range tablet.gather.members held.gathered)
  duty_formed id tablet (Role.Rebuilding from (Some entry)) is held place source = rebuilt_formed id tablet held entry place
  duty_formed id tablet _ is held place source = formed_changed formed

-- what a master does for these tablets
duties_formed : {limits : Limits} {number : ℕ} (tablets : NumberMap Tablet) {master : Master} → AreLimits limits → IsMaster limits.masters number
    → IsFormedMaster limits number master → All (λ entry. IsFormedTablet limits entry.0 entry.1) tablets
    → IsFormedWork limits number (2 * length tablets) (duties master tablets)
duties_formed [] are there formed each = formed_changed formed
duties_formed {limits} {number} ((id, tablet) ∷ others) {master} are there formed each =
    let held = All-head (λ entry. IsFormedTablet limits entry.0 entry.1) (id, tablet) others each in
    let first = duty_formed limits number master are there formed id tablet tablet.handover.role refl held held.place held.source in
    formed_then limits number 2 (2 * length others) (2 * length ((id, tablet) ∷ others)) (tablet_duty master id tablet tablet.handover.role)
    (λ next. duties next others) first
    (duties_formed others are there first.master
    (All-tail (λ entry. IsFormedTablet limits entry.0 entry.1) (id, tablet) others each))
    (omega arith)

-- ---- what a duty changes

-- what a master has before a duty, and with the wanted hashes of a tablet as a batch, it has after it
pub duty_is : (P : Master → Type 0) (master : Master) (id : ℕ) (tablet : Tablet) (role : Role) → P master
    → P (with_tablet master id (with_outstanding tablet)) → P (tablet_duty master id tablet role).master
duty_is P master id tablet role stays asks = grind (arith, either_way, nat_lt, by_found, reading_duty, next_reading)

-- ---- the turn

appends_few : (master : Master) → length (appends master) ≤ length master.log.known
appends_few master = grind (arith, one_of_each, append_of, pending, length-range_with_len)

-- the number of a tablet can be spelled, so there are not too many
tablets_few : {limits : Limits} {number : ℕ} {master : Master} → IsFormedMaster limits number master → length master.tablets ≤ 2 ^ 32
tablets_few {limits} {master} formed = few_in_order (2 ^ 32) master.tablets formed.tablets_order
    (All_pairs (λ id tablet. id < 2 ^ 32) master.tablets formed.tablets_order (λ id tablet is. omega (arith, (formed.tablets id tablet is).number_is)))

-- what a master does on its turn is well formed
pub formed_turn : {limits : Limits} {number : ℕ} {master : Master} → AreLimits limits → IsMaster limits.masters number
    → IsFormedMaster limits number master → HasLogRoom master → IsFormedWork limits number MOST_AT_ONCE (master_turn master)
formed_turn {limits} {number} {master} are there formed room =
    formed_then limits number (length master.log.known) (2 * length master.tablets) MOST_AT_ONCE
    (record { master = master; sends = appends master; served = []; marked = [] }) (λ next. duties next next.tablets)
    (record {
      master = formed;
      sends = appends_formed limits number master are there formed (segments_told master.log room.room.fits formed.sides (omega (arith, room.bytes)));
      few = appends_few master;
      served = omega arith;
    })
    (duties_formed master.tablets are there formed
    (All_pairs (IsFormedTablet limits) master.tablets formed.tablets_order formed.tablets))
    (omega (arith, tablets_few formed, formed.known, are.backups))

-- what a master makes of each message has what work has that is well formed within wider limits, once its counters keep to them, if what
-- it makes of a Stored and of a Pulled has it
module _ (P : Worked → Type 0) (small limits : Limits) (number : ℕ) (master : Master) (more : IsMore small limits) (are : AreLimits limits)
    (there : IsMaster limits.masters number) (formed : IsFormedMaster small number master) (room : HasLogRoom master)
    (holds : (worked : Worked) → (Rises small limits worked → IsFormedWork limits number MOST_AT_ONCE worked) → P worked)
    (stores : (backup : ℕ) (stored : Stored) → P (stored_taken master backup stored (overreach master.log stored.segment stored.length)))
    (pulls : (pulled : Pulled) → IsLawfulToken pulled.next → All (IsFormedHeld small) (items_of pulled.entries) → P (pulled_taken master pulled)) where
  wide : IsFormedMaster limits number master
  wide = more_master small limits more formed

  rises_to : (worked : Worked) → (Rises small limits worked → IsFormedWork limits number 1 worked) → P worked
  rises_to worked works = holds worked (λ rises. formed_more 1 MOST_AT_ONCE (omega arith) (works rises))

  sure : {worked : Worked} → IsFormedWork limits number 1 worked → P worked
  sure {worked} works = rises_to worked (λ rises. works)

  same : P (changed master)
  same = sure (formed_changed wide)

  -- from a client
  client_is : (client : ℕ) (body : Body) → IsLawfulBody body → IsFormedBody small (Node.Client client) body → P (client_message master client body)
  client_is client (Body.Request request) lawful says = rises_to _ (formed_request more are there formed says lawful.0)
  client_is client _ lawful says = same

  -- from the coordinator
  order_is : (body : Body) → IsFormedBody small Node.Coordinator body → IsFormedBody limits Node.Coordinator body → P (order master body)
  order_is (Body.Prepare prepare) says said = sure (formed_prepare limits number master prepare are there said.0 said.1 wide room)
  order_is (Body.Close tenure) says said = sure (formed_close are there said wide)
  order_is (Body.Grant grant) says said = sure (formed_grant limits number master grant are said wide)
  order_is (Body.Own tenure) says said = sure (formed_own limits number master tenure said wide)
  order_is (Body.Release tenure) says said = sure (formed_release limits number master tenure said wide)
  order_is (Body.Rebuild rebuild) says said = rises_to _ (formed_rebuild more are says formed (place_fits master room.bytes))
  order_is _ says said = same

  -- from another master
  peer_is : (sender : ℕ) (body : Body) → IsMaster limits.masters sender → IsLawfulBody body → IsFormedBody small (Node.Master sender) body
      → IsFormedBody limits (Node.Master sender) body → P (peer_message master (Node.Master sender) body)
  peer_is sender (Body.Pull pull) from lawful says said =
      sure (formed_pull limits number master (Node.Master sender) pull are there from lawful.1 said wide room)
  peer_is sender (Body.Pulled pulled) from lawful says said = pulls pulled lawful.next says.1
  peer_is sender (Body.Want want) from lawful says said =
      sure (formed_want limits number master (Node.Master sender) want are there from lawful.1 said wide)
  peer_is sender (Body.Got message) from lawful says said = sure (formed_got message said.1 wide)
  peer_is sender _ from lawful says said = same

  -- from a backup
  backup_is : (backup : ℕ) (body : Body) → IsFormedBody small (Node.Backup backup) body → P (backup_message master backup body)
  backup_is backup (Body.Stored stored) says = stores backup stored
  backup_is backup (Body.Copy copy) says = rises_to _ (formed_copy more are says formed)
  backup_is backup _ says = same

  pub told_is : (sender : Node) (body : Body) → IsThere small sender → IsLawfulBody body → IsFormedBody small sender body
      → P (told_master master sender body)
  told_is sender body from lawful says = grind (arith, client_is, order_is, more_body, peer_is, more_there, backup_is)

-- what a master makes of a well formed message
pub formed_step : (limits : Limits) (number : ℕ) (master : Master) → AreLimits limits → IsMaster limits.masters number → IsFormedMaster limits number master
    → HasLogRoom master → {message : Message} → IsFormedMessage limits message → WorkFits limits number MOST_AT_ONCE (master_step master message)
formed_step limits number master are there formed room {message} told =
    told_is (WorkFits limits number MOST_AT_ONCE) limits limits number master (more_self limits) are there formed room
    (λ worked works fits. works (inr fits.counters))
    (λ backup stored fits. formed_more (length master.log.entries) MOST_AT_ONCE (omega (arith, room.bytes, entries_few master))
    (formed_stored backup stored _ are there formed fits))
    (λ pulled token items fits. formed_more 1 MOST_AT_ONCE (omega arith) (formed_pulled pulled are token items formed fits))
    message.from message.body told.from told.lawful told.says
