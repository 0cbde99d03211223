-- What the coordinator makes of a message, of its turn and of a tablet that begins to move, is added or split: if the coordinator is well
-- formed, it stays so, all that it sends is well formed, and what its rows covered is covered; and so is the master of such a tablet.
use Rattle.std.proofs.Common.{◌≡◌, ◌≤◌, ◌+◌, ℕ, w32, w64, Bool, ◌==◌, List, [], ◌∷◌, All, IfSome, find, length, Option, None, Some, refl}
use Rattle.std.proofs.Common.{arith, true, false, cond, is_some, nat_le, nat_lt, sym, ap, subst, unwrap_or, leb-true, ltb-true}
use Rattle.rk_inv_wellformed.proofs.Words.{All-cons, All-nil, recursion_from_All, each_insert, in_order_insert, get_or, has, Node, Range}
use Rattle.rk_inv_wellformed.proofs.Words.{IsLawfulRange, IsNumber, add_fault, row_of, Phase, Moving, Opening, Owned, Rebuilding, Row}
use Rattle.rk_inv_wellformed.proofs.Words.{IsLawfulBody, Tenure, Body, Message, Rebuilt, Coordinator, with_row, coordinator_step}
use Rattle.rk_inv_wellformed.proofs.Words.{coordinator_turn, IsFormedCoordinator, IsFormedRow, AreOfDistinctClients, IsFormedBody}
use Rattle.rk_inv_wellformed.proofs.Words.{IsFormedEnd, IsFormedMember, IsFormedMessage, IsFormedTenure, IsThere, Limits, tablet_migrated}
use Rattle.rk_inv_wellformed.proofs.Words.{IsMaster, World, member, row_with, Ready, Transfer, Handed, is_noticed, Coordinated, about}
use Rattle.rk_inv_wellformed.proofs.Words.{joined_in, located, ready_in, rebuilt_in, report, row_duty, row_for, told_again}
use Rattle.rk_inv_wellformed.proofs.Words.{told_coordinator, transfer_in, IsFormedHanded, IsWellFormed, limits_of, IsFormedNumber}
use Rattle.rk_inv_wellformed.proofs.Words.{and_parts, nat_tests, get, new_row, IsFormedMaster, IsFormedTablet, Master, tablet_at}
use Rattle.rk_inv_wellformed.proofs.Words.{range_below, refusal, where_true, has_parts, rows_split, with_half, with_halves, with_split}
use Rattle.rk_inv_wellformed.proofs.Words.{with_added, Tablet, no_tablet, has_crashed, number_of, changed_rows, split_fault, split_rows}
use Rattle.rk_inv_wellformed.proofs.Words.{Role, StepError, Event, cond_both, IsLawfulOwner, IsAnyRange, from_coordinator, owner_of}
use Rattle.rk_inv_wellformed.proofs.Words.{row_tenure, with_handed, with_phase, answered, at_term, own_to, release_to, unanswered}
use Rattle.rk_inv_wellformed.proofs.Words.{IsFormedTransfer, migrating, row_migrated, rows_split_of, tablet_split_fault}
use Rattle.rk_inv_wellformed.proofs.Words.{tablet_split_fault_of, with_rows_split}
use Rattle.rk_inv_wellformed.proofs.coordinator.Rows.{AreFormedRows, AreTermsUpTo, Cover, IsFormedPhase, all_found, all_placed}
use Rattle.rk_inv_wellformed.proofs.coordinator.Rows.{covered_changed, covered_placed, formed_changed_rows, formed_placed}
use Rattle.rk_inv_wellformed.proofs.coordinator.Rows.{phase_of_formed, terms_below, terms_changed, IsKnown, covered_split_rows}
use Rattle.rk_inv_wellformed.proofs.coordinator.Rows.{formed_split_rows, known_changed, known_split, lawful_below, lawful_from}
use Rattle.rk_inv_wellformed.proofs.coordinator.Rows.{placed_has, term_changed, terms_split_rows}
use Rattle.rk_inv_wellformed.proofs.masters.Work.{tenure_fits, AreLimits}
use Rattle.rk_inv_wellformed.proofs.lanes.Worlds.{terms_within}
use Rattle.rk_inv_wellformed.proofs.maps.{all_flat, by_found, either_way, found_has, each_or}
use Rattle.rk_inv_wellformed.proofs.lanes.Events.{has_no_fault, no_inner, no_second}
use Rattle.rk_inv_wellformed.proofs.masters.Changes.{formed_with_tablet}
use Rattle.rk_inv_wellformed.proofs.masters.MergedOnce.{none_twice}
use Rattle.rk_inv_wellformed.proofs.masters.Tablets.{formed_tablet, IsFormedHandover, rest_at, none_waits}

-- ---- coordinators

-- no term of a row is greater than the greatest number
pub record HasRowRoom (limits : Limits) (coordinator : Coordinator) : Type 0 where
  pub terms : AreTermsUpTo limits.top coordinator.rows

-- the terms of the rows of a well formed lane are at most the greatest number
pub rows_have_room : {w : World} → IsWellFormed w → HasRowRoom (limits_of w) w.coordinator
rows_have_room {w} formed = record { terms = terms_within w w.top formed.standing }

-- a coordinator after something that leaves the masters and those that were noticed, and what the rows cover
pub record Keeps (after before : Coordinator) : Type 0 where
  pub masters : after.masters ≡ before.masters
  pub noticed : after.noticed ≡ before.noticed
  pub covers : Cover after.rows before.rows

-- what is left as it was
pub keeps_all : (coordinator : Coordinator) → Keeps coordinator coordinator
keeps_all coordinator = record { masters = refl; noticed = refl; covers = λ table hash covered. covered }

-- the rows of a coordinator that is well formed
pub rows_of_formed : {limits : Limits} {coordinator : Coordinator} → IsFormedCoordinator limits coordinator → AreFormedRows limits coordinator.rows
rows_of_formed formed = assumption

-- a coordinator with other rows that are well formed
pub formed_with_rows : {limits : Limits} {coordinator : Coordinator} {rows : List Row} → AreFormedRows limits rows → IsFormedCoordinator limits coordinator → IsFormedCoordinator limits (record coordinator { rows = rows })
formed_with_rows {rows} new formed = assumption

-- a coordinator with a row at another phase
formed_with_phase : {limits : Limits} {coordinator : Coordinator} (row : Row) (phase : Phase) → 1 ≤ row.term → IsFormedPhase limits phase → IsFormedCoordinator limits coordinator → IsFormedCoordinator limits (with_phase coordinator row phase)
formed_with_phase row phase first there formed =
    formed_with_rows (formed_changed_rows row.tablet row.term phase first there (rows_of_formed formed)) formed

-- a coordinator that has noted what a source handed over
formed_with_handed : {limits : Limits} {coordinator : Coordinator} (tablet : ℕ) {handed : Handed} → IsFormedHanded limits handed → IsFormedCoordinator limits coordinator → IsFormedCoordinator limits (with_handed coordinator tablet handed)
formed_with_handed {limits} {coordinator} tablet {handed} told formed =
    assumption (
      in_order_insert coordinator.handed tablet handed formed.handed_order,
      each_insert (λ number other. IsFormedHanded limits other) coordinator.handed tablet handed formed.handed told,
    )

-- the owner that a phase names is there
owner_is_there : (limits : Limits) (phase : Phase) → IsFormedPhase limits phase → IfSome (owner_of phase) (IsMaster limits.masters)
owner_is_there limits phase there = grind arith

-- ---- numbers and ranges that can be spelled

-- a range that is not empty
any_range : {range : Range} → IsLawfulRange range → IsAnyRange range
any_range {range} lawful = grind (arith, w64)

-- a row that is well formed, whose term is at most the greatest number
pub record HasTenure (limits : Limits) (row : Row) : Type 0 where
  pub formed : IsFormedRow limits row
  pub term : row.term ≤ limits.top

-- its tenure
formed_tenure : {limits : Limits} {row : Row} → HasTenure limits row → IsFormedTenure limits (row_tenure row)
formed_tenure {limits} {row} stood = grind arith

module _ (limits : Limits) (are : AreLimits limits) where
  -- an owner that is there, if there is one
  lawful_owner : (owner : Option ℕ) → IfSome owner (IsMaster limits.masters) → IsLawfulOwner owner
  lawful_owner owner there = grind arith

  -- ---- what the coordinator sends

  -- a message of the coordinator
  sent_to : (to : Node) (body : Body) → IsThere limits to → IsLawfulBody body → IsFormedBody limits Node.Coordinator body → IsFormedMessage limits (from_coordinator to body)
  sent_to to body there lawful says = assumption

  -- a message alone
  only_message : {message : Message} → IsFormedMessage limits message → All (IsFormedMessage limits) (message ∷ [])
  only_message {message} formed = All-cons (IsFormedMessage limits) message [] formed (All-nil _)

  -- a master is told that it owns a tablet
  formed_own : {master : ℕ} {row : Row} → IsMaster limits.masters master → HasTenure limits row → IsFormedMessage limits (own_to master row)
  formed_own {master} {row} there stood = grind (arith, formed_tenure, sent_to, row_tenure, tenure_fits)

  -- or that another one owns it
  formed_release : {master : ℕ} {row : Row} → IsMaster limits.masters master → HasTenure limits row → IsFormedMessage limits (release_to master row)
  formed_release {master} {row} there stood = grind (arith, formed_tenure, sent_to, row_tenure, tenure_fits)

  -- the answer to a look-up
  formed_located : (sender : Node) (found : Option Row) → IsThere limits sender → IfSome found (HasTenure limits) → All (IsFormedMessage limits) (located sender found)
  formed_located sender None there stood = All-nil _
  formed_located sender (Some row) there stood =
      let range = stood.formed.range in
      let owner = owner_is_there limits row.phase (phase_of_formed stood.formed) in
      let tablet : IsNumber w32 0 row.tablet = record { least_is = omega arith; fits = stood.formed.number_is.fits } in
      let message = Body.Located (record { tablet = row.tablet; range = row.range; owner = owner_of row.phase }) in
      only_message (sent_to sender message there (tablet, any_range range, lawful_owner (owner_of row.phase) owner)
      (record { range = range; owner = owner }))

-- ---- what it makes of a message

-- a coordinator that may send: it is well formed, and its terms are at most the greatest number
record MaySend (limits : Limits) (coordinator : Coordinator) : Type 0 where
  are : AreLimits limits
  formed : IsFormedCoordinator limits coordinator
  room : HasRowRoom limits coordinator

-- a rebuild that is taken
pub record IsTaken (limits : Limits) (rebuilt : Rebuilt) : Type 0 where
  pub tenure : IsFormedTenure limits rebuilt.tenure
  pub ends : All (IsFormedEnd limits) rebuilt.ends
  pub once : AreOfDistinctClients rebuilt.ends

-- an answer of two messages at most that is well formed, as is the rebuild that it takes; the coordinator after it has what it had
-- before, and its terms are at most the greatest number
pub record Answers (limits : Limits) (before : Coordinator) (coordinated : Coordinated) : Type 0 where
  pub coordinator : IsFormedCoordinator limits coordinated.coordinator
  pub sends : All (IsFormedMessage limits) coordinated.sends
  pub keeps : Keeps coordinated.coordinator before
  pub room : HasRowRoom limits coordinated.coordinator
  pub rebuilt : IfSome coordinated.rebuilt (IsTaken limits)
  pub few : length coordinated.sends ≤ 2

-- the row at the term of a tenure, if it is there
row_at_term : (limits : Limits) (tenure : Tenure) (found : Option Row) → IfSome found (HasTenure limits) → IfSome (at_term tenure found) (HasTenure limits)
row_at_term limits tenure None stood = tt
row_at_term limits tenure (Some row) stood = either_way (λ found. IfSome found (HasTenure limits)) (row.term == tenure.term) stood tt

module _ (limits : Limits) (coordinator : Coordinator) (may : MaySend limits coordinator) where
  -- nothing changes
  same_answer : (sends : List Message) → All (IsFormedMessage limits) sends → length sends ≤ 2 → Answers limits coordinator (answered coordinator sends)
  same_answer sends all few = assumption (keeps_all coordinator)

  -- nothing changes, and nothing is sent
  no_answer : Answers limits coordinator (unanswered coordinator)
  no_answer = same_answer [] (All-nil _) (omega arith)

  -- with a row at another phase it has what it had
  phase_keeps : (row : Row) (phase : Phase) → Keeps (with_phase coordinator row phase) coordinator
  phase_keeps row phase = assumption (covered_changed coordinator.rows row.tablet row.term phase)

  -- and its terms are at most the greatest number
  phase_room : {row : Row} (phase : Phase) → HasTenure limits row → HasRowRoom limits (with_phase coordinator row phase)
  phase_room {row} phase stood = assumption (terms_changed limits.top coordinator.rows row.tablet row.term phase stood.term may.room.terms)

  -- a row is at another phase
  turned_answer : {row : Row} (phase : Phase) (sends : List Message) → HasTenure limits row → IsFormedPhase limits phase → All (IsFormedMessage limits) sends → length sends ≤ 2 → Answers limits coordinator (answered (with_phase coordinator row phase) sends)
  turned_answer {row} phase sends stood there all few =
      assumption (formed_with_phase row phase stood.formed.term there may.formed, phase_keeps row phase, phase_room phase stood)

  -- a row is at another phase, and what a source handed over is noted
  moved_answer : {row : Row} (phase : Phase) (handed : Handed) → HasTenure limits row → IsFormedPhase limits phase → IsFormedHanded limits handed → Answers limits coordinator (unanswered (with_handed (with_phase coordinator row phase) row.tablet handed))
  moved_answer {row} phase handed stood there told =
      let turned = turned_answer phase [] stood there (All-nil _) (omega arith) in
      assumption (formed_with_handed row.tablet told turned.coordinator, turned)

  -- the target is ready
  ready_answers : (sender : ℕ) (message : Ready) {row : Row} (phase : Phase) → IsNumber w64 0 message.place → HasTenure limits row → IsFormedPhase limits phase → Answers limits coordinator (ready_in coordinator sender message row phase)
  ready_answers sender message (Opening source sfrom target None) place stood there =
      either_way (Answers limits coordinator) (sender == target)
      (turned_answer (Opening source sfrom target (Some message.place)) [] stood (there.0, record { master = there.1.master; from = place })
      (All-nil _) (omega arith))
      no_answer
  ready_answers sender message _ place stood there = no_answer

  -- the source has frozen the tablet
  transfer_answers : (sender : ℕ) {message : Transfer} {row : Row} (phase : Phase) → IsFormedTransfer limits message → HasTenure limits row → IsFormedPhase limits phase → Answers limits coordinator (transfer_in coordinator sender message row phase)
  transfer_answers sender {message} (Opening source sfrom target (Some dfrom)) told stood there =
      either_way (Answers limits coordinator) (sender == source)
      (moved_answer (Moving source sfrom target dfrom) (record { floor = message.floor; ends = message.ends }) stood there
      (record { floor = told.floor; told = told.told }))
      no_answer
  transfer_answers sender _ told stood there = no_answer

  -- the owner is told again
  again_answers : (sender : ℕ) {row : Row} {master : ℕ} → IsMaster limits.masters master → HasTenure limits row → Answers limits coordinator (told_again coordinator sender row master)
  again_answers sender {row} {master} there stood = either_way (Answers limits coordinator) (sender == master)
      (same_answer (own_to master row ∷ []) (only_message limits may.are (formed_own limits may.are there stood)) (omega arith)) no_answer

  -- the target has all
  joined_answers : (sender : ℕ) {row : Row} (phase : Phase) → HasTenure limits row → IsFormedPhase limits phase → Answers limits coordinator (joined_in coordinator sender row phase)
  joined_answers sender {row} (Moving source sfrom target dfrom) stood there =
      either_way (Answers limits coordinator) (sender == target)
      (turned_answer (Owned target dfrom) (own_to target row ∷ release_to source row ∷ []) stood there.1
      (All-cons (IsFormedMessage limits) (own_to target row) (release_to source row ∷ []) (formed_own limits may.are there.1.master stood)
      (only_message limits may.are (formed_release limits may.are there.0.master stood))) (omega arith))
      no_answer
  joined_answers sender (Owned master from) stood there = again_answers sender there.master stood
  joined_answers sender _ stood there = no_answer

  -- the tablet is rebuilt
  rebuilt_answers : (sender : ℕ) (message : Rebuilt) {row : Row} (phase : Phase) → IsNumber w64 0 message.place → IsTaken limits message → HasTenure limits row → IsFormedPhase limits phase → Answers limits coordinator (rebuilt_in coordinator sender message row phase)
  rebuilt_answers sender message {row} (Rebuilding lineage to) place told stood there =
      let owned = turned_answer (Owned to message.place) (own_to to row ∷ []) stood (record { master = there.1; from = place })
      (only_message limits may.are (formed_own limits may.are there.1 stood)) (omega arith) in
      either_way (Answers limits coordinator) (sender == to) (assumption (told, owned)) no_answer
  rebuilt_answers sender message (Owned master from) place told stood there = again_answers sender there.master stood
  rebuilt_answers sender message _ place told stood there = no_answer

  -- ---- the row that a message speaks of

  -- a row that is found has its tenure
  found_row : (test : Row → Bool) → IfSome (find test coordinator.rows) (HasTenure limits)
  found_row test = found_has (HasTenure limits) test coordinator.rows
      (λ k d within. record { formed = may.formed.rows k d within; term = may.room.terms k d within })

  -- what is made of a message about the row that its sender may speak of, if it is there
  speaks : (sender : ℕ) (tenure : Tenure) (taken : Row → Coordinated)
      → ((row : Row) → HasTenure limits row → IsFormedPhase limits row.phase → Answers limits coordinator (taken row))
      → Answers limits coordinator (about coordinator taken (row_for coordinator sender tenure))
  speaks sender tenure taken each = go (row_for coordinator sender tenure)
      (either_way (λ found. IfSome found (HasTenure limits)) (is_noticed coordinator sender) tt
      (row_at_term limits tenure (row_of coordinator.rows tenure.tablet) (found_row (λ row. row.tablet == tenure.tablet))))
    where
      go : (found : Option Row) → IfSome found (HasTenure limits) → Answers limits coordinator (about coordinator taken found)
      go None stood = no_answer
      go (Some row) stood = each row stood (phase_of_formed stood.formed)

  -- ---- any message

  -- what a master sent
  report_answers : (sender : ℕ) (body : Body) → IsLawfulBody body → IsFormedBody limits (Node.Master sender) body → Answers limits coordinator (report coordinator sender body)
  report_answers sender (Body.Ready message) lawful says = speaks sender message.tenure
      (λ row. ready_in coordinator sender message row row.phase) (λ row stood there. ready_answers sender message row.phase lawful.1 stood there)
  report_answers sender (Body.Transfer message) lawful says = speaks sender message.tenure
      (λ row. transfer_in coordinator sender message row row.phase) (λ row stood there. transfer_answers sender row.phase says stood there)
  report_answers sender (Body.Joined tenure) lawful says = speaks sender tenure
      (λ row. joined_in coordinator sender row row.phase) (λ row stood there. joined_answers sender row.phase stood there)
  report_answers sender (Body.Rebuilt message) lawful says = speaks sender message.tenure
      (λ row. rebuilt_in coordinator sender message row row.phase)
      (λ row stood there. rebuilt_answers sender message row.phase lawful.place (assumption) stood there)
  report_answers sender _ lawful says = no_answer

  -- by its sender
  told_answers : (sender : Node) (body : Body) → IsThere limits sender → IsLawfulBody body → IsFormedBody limits sender body → Answers limits coordinator (told_coordinator coordinator sender body)
  told_answers sender body there lawful says =
      grind (arith, report_answers, no_answer, same_answer, located, row_with, formed_located, found_row, has, by_found)

-- what a well formed coordinator, whose terms are at most the greatest number, makes of a well formed message
pub formed_coordinator_step : {limits : Limits} {coordinator : Coordinator} {message : Message} → AreLimits limits → IsFormedCoordinator limits coordinator → HasRowRoom limits coordinator → IsFormedMessage limits message → Answers limits coordinator (coordinator_step coordinator message)
formed_coordinator_step {limits} {coordinator} {message} are formed room told = told_answers limits coordinator
    (assumption) message.from message.body told.from told.lawful told.says

-- ---- its turn

module _ (limits : Limits) (coordinator : Coordinator) (may : MaySend limits coordinator) where
  -- what a source handed over, or that it handed over nothing
  handed_is_formed : (tablet : ℕ) → 1 ≤ limits.top → IsFormedHanded limits (get_or (record { floor = 1; ends = [] }) coordinator.handed tablet)
  handed_is_formed tablet some =
      let nothing : IsFormedHanded limits (record { floor = 1; ends = [] }) =
      record { floor = omega (arith, some); told = record { each = All-nil _; rising = tt } } in
      each_or (λ number handed. IsFormedHanded limits handed) _ coordinator.handed tablet nothing may.formed.handed

  -- what it does for a row
  formed_duty : {row : Row} (phase : Phase) → HasTenure limits row → IsFormedPhase limits phase → All (IsFormedMessage limits) (row_duty coordinator row phase)
  formed_duty phase stood there =
      grind (arith, handed_is_formed, recursion_from_All)

-- what a well formed coordinator, whose terms are at most the greatest number, sends on its turn
pub formed_coordinator_turn : {limits : Limits} {coordinator : Coordinator} → AreLimits limits → IsFormedCoordinator limits coordinator → HasRowRoom limits coordinator → All (IsFormedMessage limits) (coordinator_turn coordinator)
formed_coordinator_turn {limits} {coordinator} are formed room =
    all_flat (IsFormedMessage limits) (λ row. row_duty coordinator row row.phase) coordinator.rows
    (λ k d within. formed_duty limits coordinator (record { are = are; formed = formed; room = room }) _
    (record { formed = formed.rows k d within; term = room.terms k d within }) (phase_of_formed (formed.rows k d within)))

-- ---- a tablet begins to move, or is added

-- a coordinator after a change: it is well formed, has what it had before, and each term rose by one at most
pub record IsFormedChange (limits : Limits) (before after : Coordinator) : Type 0 where
  pub formed : IsFormedCoordinator limits after
  pub keeps : Keeps after before
  pub terms : (most : ℕ) → AreTermsUpTo most before.rows → AreTermsUpTo (most + 1) after.rows

-- so it is with other rows that are well formed, cover what was covered, and whose terms rose by one at most
pub rows_change : {limits : Limits} {coordinator : Coordinator} {rows : List Row} → IsFormedCoordinator limits coordinator → AreFormedRows limits rows
    → Cover rows coordinator.rows → ((most : ℕ) → AreTermsUpTo most coordinator.rows → AreTermsUpTo (most + 1) rows)
    → IsFormedChange limits coordinator (record coordinator { rows = rows })
rows_change formed new covers terms =
    record { formed = formed_with_rows new formed; keeps = record { masters = refl; noticed = refl; covers = covers }; terms = terms }

module _ (limits : Limits) (coordinator : Coordinator) (formed : IsFormedCoordinator limits coordinator) where
  -- nothing changes
  no_change : IsFormedChange limits coordinator coordinator
  no_change = rows_change formed (rows_of_formed formed) (λ table hash covered. covered)
      (λ most all. terms_below most (most + 1) coordinator.rows (omega arith) all)

  -- a row, at its phase, begins to move
  migrating_changes : (row : Row) (tablet : ℕ) {to : ℕ} (phase : Phase) → row_of coordinator.rows tablet ≡ Some row → IsFormedPhase limits phase → IsMaster limits.masters to → IsFormedChange limits coordinator (migrating coordinator row phase to)
  migrating_changes row tablet {to} (Owned master from) found there target =
      let new : IsFormedMember limits (member to 0) = record { master = target; from = record { least_is = omega arith; fits = omega arith } } in
      let phase = Opening master from to None in
      rows_change formed (formed_changed_rows row.tablet (row.term + 1) phase (omega arith) (there, new) (rows_of_formed formed))
      (covered_changed coordinator.rows row.tablet (row.term + 1) phase)
      (λ most all.
      let below : row.term ≤ most = all_found (λ r. r.term ≤ most) row tablet coordinator.rows found all in
      terms_changed (most + 1) coordinator.rows row.tablet (row.term + 1) phase (omega arith)
      (terms_below most (most + 1) coordinator.rows (omega arith) all))
  migrating_changes row tablet _ found there target = no_change

  -- a tablet begins to move to a master that is there
  pub formed_tablet_migrated : (tablet : ℕ) {to : ℕ} → IsMaster limits.masters to → IsFormedChange limits coordinator (tablet_migrated coordinator tablet to)
  formed_tablet_migrated tablet {to} target =
      by_found (λ found. IsFormedChange limits coordinator (row_migrated coordinator found to)) (row_of coordinator.rows tablet) (λ none. no_change)
      (λ row found. migrating_changes row tablet row.phase found
      (phase_of_formed (all_found (IsFormedRow limits) row tablet coordinator.rows found formed.rows)) target)

  -- a row at the first term is added, if that is not refused
  pub formed_with_row : {row : Row} → add_fault coordinator.rows row ≡ None → IsFormedRow limits row → row.term ≡ 1 → IsFormedChange limits coordinator (with_row coordinator row)
  formed_with_row {row} none new first =
      rows_change formed (formed_placed none new (rows_of_formed formed)) (covered_placed row coordinator.rows)
      (λ most all.
      let below : row.term ≤ most + 1 = omega arith in
      all_placed (λ r. r.term ≤ most + 1) row coordinator.rows below
      (terms_below most (most + 1) coordinator.rows (omega arith) all))

-- ---- the rows

module _ (limits : Limits) (coordinator : Coordinator) (formed : IsFormedCoordinator limits coordinator) where
  -- a row that is found is split
  with_rows_split_changes : (tablet : ℕ) (row : Row) (at new : ℕ) → row_of coordinator.rows tablet ≡ Some row → split_fault coordinator.rows row.tablet at new ≡ None → IsNumber w32 1 new → IsFormedChange limits coordinator (with_rows_split coordinator row at new)
  with_rows_split_changes tablet row at new found none number = rows_change formed
      (formed_changed_rows new (row.term + 1) row.phase (omega arith) phase
      (formed_changed_rows row.tablet (row.term + 1) row.phase (omega arith) phase
      (formed_split_rows limits coordinator.rows row.tablet at new number none (rows_of_formed formed))))
      (λ table hash covered.
      covered_changed lower new (row.term + 1) row.phase table hash (covered_changed parts row.tablet (row.term + 1) row.phase
      table hash (covered_split_rows coordinator.rows row.tablet at new none table hash covered)))
      (λ most all.
      let below : row.term ≤ most = all_found (λ r. r.term ≤ most) row tablet coordinator.rows found all in
      terms_changed (most + 1) lower new (row.term + 1) row.phase (omega arith)
      (terms_changed (most + 1) parts row.tablet (row.term + 1) row.phase (omega arith)
      (terms_split_rows (most + 1) coordinator.rows row.tablet at new
      (terms_below most (most + 1) coordinator.rows (omega arith) all))))
    where
      parts : List Row
      parts = split_rows coordinator.rows row.tablet at new

      lower : List Row
      lower = changed_rows parts row.tablet (row.term + 1) row.phase

      phase : IsFormedPhase limits row.phase
      phase = phase_of_formed (all_found (IsFormedRow limits) row tablet coordinator.rows found formed.rows)

  -- a tablet is split, if that is not refused
  pub formed_rows_split : (tablet at new : ℕ) → tablet_split_fault coordinator tablet at new ≡ None → IsNumber w32 1 new → IsFormedChange limits coordinator (rows_split coordinator tablet at new)
  formed_rows_split tablet at new none number =
      grind (arith, by_found, tablet_split_fault_of, rows_split_of, row_of, with_rows_split_changes, no_inner, split_fault)

-- the term that both rows have then is at most the greatest number, if those of all rows are
pub split_term_stood : (limits : Limits) (coordinator : Coordinator) (tablet at new : ℕ) (row : Row) → row_of coordinator.rows tablet ≡ Some row → HasRowRoom limits (rows_split coordinator tablet at new) → IsFormedNumber limits (row.term + 1)
split_term_stood limits coordinator tablet at new row found room = record {
  first = omega arith;
  last = term_changed limits.top lower new (row.term + 1) row.phase
      (known_changed parts row.tablet (row.term + 1) row.phase new (known_split coordinator.rows row.tablet at new known))
      (subst (λ (o : Option Row). AreTermsUpTo limits.top (rows_split_of coordinator o at new).rows) found room.terms);
}
  where
    parts : List Row
    parts = split_rows coordinator.rows row.tablet at new

    lower : List Row
    lower = changed_rows parts row.tablet (row.term + 1) row.phase

    known : IsKnown coordinator.rows row.tablet
    known = subst (IsKnown coordinator.rows) (sym (number_of coordinator.rows tablet row found)) (ap is_some found)

-- and so is 1, if those of all rows are with a new row at term 1
pub one_has_stood : (limits : Limits) (coordinator : Coordinator) (row : Row) → row.term ≡ 1 → HasRowRoom limits (with_row coordinator row) → 1 ≤ limits.top
one_has_stood limits coordinator row first room = grind (arith, placed_has)

-- ---- the master

-- a handover that serves
serving_formed : {limits : Limits} {source : ℕ} {range : Range} {term counter : ℕ} → IsLawfulRange range → IsFormedNumber limits term
    → IsFormedNumber limits counter → IsFormedHandover limits source (record { role = Role.Serving; term = term; range = range; counter = counter })
serving_formed {limits} {source} lawful term counter =
    record { term = term; place = omega arith; range = lawful; counter = counter; source_is = λ receives. absurd (cc receives) }

-- a half of a tablet, under its own number or a new one
half_is_formed : {limits : Limits} {number half : ℕ} {tablet : Tablet} {range : Range} {term : ℕ} → IsNumber w32 1 half → IsLawfulRange range → IsFormedNumber limits term → IsFormedTablet limits number tablet → IsFormedTablet limits half (with_half tablet range term)
half_is_formed {limits} {tablet} {range} {term} is lawful stood old = grind (arith, formed_tablet, with_half, serving_formed, none_twice)

-- a tablet that is not known has no parts
nothing_parts : (at : ℕ) → has_parts no_tablet.handover.range at ≡ false
nothing_parts at = grind (arith, nat_tests)

module _ (limits : Limits) (number : ℕ) (master : Master) (formed : IsFormedMaster limits number master) where
  -- both halves of a tablet that is known
  with_halves_is_formed : (tablet : ℕ) (it : Tablet) (at new term : ℕ) → has_parts it.handover.range at ≡ true → IsNumber w32 1 new → IsFormedNumber limits term → IsFormedTablet limits tablet it → IsFormedMaster limits number (with_halves master tablet it at new term)
  with_halves_is_formed tablet it at new term parted is stood old =
      let range = it.handover.range in
      let parts = and_parts (nat_lt range.first at) (nat_le at range.last) parted in
      let above = ltb-true range.first at parts.0 in
      let within = leb-true at range.last parts.1 in
      let below = with_half it (range_below range at) term in
      formed_with_tablet (formed_with_tablet formed
      (half_is_formed old.number_is (lawful_below range at above within old.range) stood old)
      (none_waits Role.Serving [] _ (λ sealed. refl)))
      (half_is_formed is (lawful_from range at above within old.range) stood old) (none_waits Role.Serving [] _ (λ sealed. refl))

  -- the master serves both halves of a tablet, at a term that is at most the greatest number, if both have a hash
  pub formed_with_split : (tablet at new term : ℕ) → IsNumber w32 1 new → IsFormedNumber limits term → IsFormedMaster limits number (with_split master tablet at new term)
  formed_with_split tablet at new term is stood =
      by_found (λ found. IsFormedMaster limits number (split_of (unwrap_or found no_tablet))) (get master.tablets tablet)
      (λ none. subst (λ (b : Bool). IsFormedMaster limits number (cond b (with_halves master tablet no_tablet at new term) master))
      (sym (nothing_parts at)) formed)
      (λ it found. cond_both _ _ _ (IsFormedMaster limits number)
      (λ both. with_halves_is_formed tablet it at new term both is stood (formed.tablets tablet it found)) (λ one. formed))
    where
      split_of : Tablet → Master
      split_of it = cond (has_parts it.handover.range at) (with_halves master tablet it at new term) master

-- a tablet that is served from the start
abbrev served : Tablet → Range → Tablet
served tablet range = record tablet { handover = record { role = Role.Serving; term = 1; range = range; counter = 1 } }

-- a master serves a tablet that is added, if 1, its term and its counter, is at most the greatest number
pub formed_with_added : {limits : Limits} {number : ℕ} {master : Master} {tablet : ℕ} {range : Range} → 1 ≤ limits.top → IsNumber w32 1 tablet → IsLawfulRange range → IsFormedMaster limits number master → IsFormedMaster limits number (with_added master tablet range)
formed_with_added {limits} {number} {master} {tablet} {range} some is lawful formed =
    let one : IsFormedNumber limits 1 = omega (arith, some) in
    formed_with_tablet formed
    (formed_tablet (served (tablet_at master tablet) range) is (serving_formed lawful one one) (assumption (rest_at limits number master tablet formed)))
    (none_waits Role.Serving [] _ (λ sealed. refl))

-- ---- in a lane

-- a split that is not refused in a lane
pub split_allowed : (w : World) (tablet at new : ℕ) → refusal w (Event.Split tablet at new) ≡ None → tablet_split_fault w.coordinator tablet at new ≡ None
split_allowed w tablet at new none =
    no_inner StepError.Move (tablet_split_fault w.coordinator tablet at new) (has_no_fault w (Event.Split tablet at new) none)

-- a tablet whose addition is not refused
pub added_allowed : (w : World) (tablet : ℕ) (range : Range) (master : ℕ) → refusal w (Event.AddTablet tablet range master) ≡ None → add_fault w.coordinator.rows (new_row tablet range master) ≡ None
added_allowed w tablet range master none = grind (arith, add_fault, new_row, no_inner, no_second, where_true, has_crashed, has_no_fault)
