-- Handing a tablet over leaves a master well formed, and what it says of it is.
use Rattle.std.proofs.Common.{◌≡◌, ◌≤◌, ◌==◌, ℕ, false, true, nat_lt, List, [], All, length, refl, ap, subst, sym, arith, w64, ◌+◌}
use Rattle.rk_inv_wellformed.proofs.Words.{cond_both, All-nil, recursion_from_All, AllByRecursion, IsInOrder, Ended, Range}
use Rattle.rk_inv_wellformed.proofs.Words.{IsLawfulEnd, IsLawfulRange, IsNumber, Completions, ends_of, closed, role_granted, Handover}
use Rattle.rk_inv_wellformed.proofs.Words.{Role, Grant, Prepare, Tenure, IsFormedMaster, IsFormedTablet, place_in, IsFormedEnd}
use Rattle.rk_inv_wellformed.proofs.Words.{IsFormedEnds, IsFormedEntry, IsFormedGrant, IsFormedMessage, IsFormedNumber, IsFormedTenure}
use Rattle.rk_inv_wellformed.proofs.Words.{Limits, Master, tablet_at, without_items, IsMaster, is_absent, is_receiving, Tablet}
use Rattle.rk_inv_wellformed.proofs.Words.{with_handover, without_merged, role_closed, role_owned, role_released, Node, IsFormedGathered}
use Rattle.rk_inv_wellformed.proofs.Words.{with_tablet, is_frozen, MOST_CLIENTS, MOST_BASE_CLIENTS}
use Rattle.rk_world.specs.Handovers as handing
use Rattle.rk_inv_wellformed.proofs.bytes.Sizes.{place_fits}
use Rattle.rk_inv_wellformed.proofs.masters.Work.{counted_fits, formed_from, from_zero64, tenure_fits, AreLimits, HasLogRoom}
use Rattle.rk_inv_wellformed.proofs.masters.Work.{IsFormedWork, formed_changed, formed_sending}
use Rattle.rk_inv_wellformed.proofs.maps.{completions_each, completions_order, either_way, ends_rise, rising_within}
use Rattle.rk_inv_wellformed.proofs.masters.Changes.{formed_with_appended, formed_with_tablet, formed_without_items, formed_moved}
use Rattle.rk_inv_wellformed.proofs.masters.Changes.{formed_others_given_up, tablet_there, after_close, after_grant, after_own}
use Rattle.rk_inv_wellformed.proofs.masters.Changes.{after_release, formed_frozen, freezing_is, moved_is}
use Rattle.rk_inv_wellformed.proofs.masters.MergedOnce.{none_twice}
use Rattle.rk_inv_wellformed.proofs.masters.Tablets.{IsFormedHandover, counter_at, formed_pulling_from, formed_tablet, handover_of}
use Rattle.rk_inv_wellformed.proofs.masters.Tablets.{rest_at, rest_of, tablet_with_same, formed_in_role, none_waits_in, role_there}

-- if a term is at most the greatest number, 1 is
pub one_stood : (limits : Limits) (n : ℕ) → IsFormedNumber limits n → 1 ≤ limits.top
one_stood limits n stood = omega arith

-- what is asked for anew by a well formed tenure, in a role that does not pull
pub formed_begun : {limits : Limits} (source : ℕ) (handover : Handover) {term : ℕ} {range : Range} (role : Role)
    → IsFormedNumber limits handover.counter → IsFormedNumber limits term → IsLawfulRange range → IsNumber w64 0 (place_in role)
    → is_receiving role ≡ false → IsFormedHandover limits source (record handover { role = role; term = term; range = range })
formed_begun {limits} source handover role counter new lawful place still = grind (arith, is_receiving)

-- ---- Prepare

-- that a master made ready
ready_is_formed : {limits : Limits} {number : ℕ} (master : Master) {tenure : Tenure} {place : ℕ} → AreLimits limits → IsMaster limits.masters number
    → master.number ≡ number → IsFormedTenure limits tenure → IsNumber w64 0 place → IsFormedMessage limits (handing.ready master tenure place)
ready_is_formed {limits} master are there is tenure fits =
    formed_from limits master Node.Coordinator _ there is tt (tenure_fits are tenure, fits) tenure

module _ (limits : Limits) (number : ℕ) (master : Master) (prepare : Prepare) where
  abbrev asked : ℕ
  asked = prepare.tenure.tablet

  abbrev now : Master
  now = handing.with_others_given_up (without_items master prepare.range) asked prepare.range

  -- a master that makes ready
  prepared_is_formed : IsFormedTenure limits prepare.tenure → IsLawfulRange prepare.range → IsNumber w64 0 (length master.log.entries)
      → IsFormedMaster limits number master → IsFormedMaster limits number (handing.tablet_prepared master prepare)
  prepared_is_formed tenure range place formed =
      let now_formed = formed_others_given_up asked prepare.range (formed_without_items prepare.range formed) in
      let it = tablet_at now asked in
      either_way (λ moved. IsFormedMaster limits number (handing.with_move now asked moved)) (nat_lt it.handover.term prepare.tenure.term)
      (formed_with_tablet now_formed
      (formed_moved tenure.tablet (formed_begun it.pulling.source it.handover (Role.Wanting (length master.log.entries))
      (counter_at asked now_formed (one_stood limits prepare.tenure.term tenure.term)) tenure.term range place refl)
      (rest_at limits number now asked now_formed))
      (omega arith))
      now_formed

  -- a master that made ready at this term says so again
  again_is_formed : (role : Role) (term : ℕ) → (tablet_at master asked).handover.role ≡ role → AreLimits limits → IsMaster limits.masters number
      → IsFormedTenure limits prepare.tenure → IsFormedMaster limits number master → IsFormedWork limits number 1 (handing.ready_again master prepare.tenure role term)
  again_is_formed (Role.Wanting from) term is are there tenure formed = either_way (IsFormedWork limits number 1) (term == prepare.tenure.term)
      (formed_sending formed (ready_is_formed master are there formed.number_is tenure
      (rw (ap place_in is) at (tablet_there asked (ap is_absent is) formed).place)))
      (formed_changed formed)
  again_is_formed _ term is are there tenure formed = formed_changed formed

  -- a master that takes a Prepare
  pub formed_prepare : AreLimits limits → IsMaster limits.masters number → IsFormedTenure limits prepare.tenure → IsLawfulRange prepare.range
      → IsFormedMaster limits number master → HasLogRoom master → IsFormedWork limits number 1 (handing.prepare_taken master prepare)
  formed_prepare are there tenure range formed room =
      let place = place_fits master room.bytes in
      either_way (IsFormedWork limits number 1) (handing.is_greater master asked prepare.tenure.term prepare.range)
      (formed_sending (prepared_is_formed tenure range place formed) (ready_is_formed master are there formed.number_is tenure place))
      (again_is_formed (tablet_at master asked).handover.role (tablet_at master asked).handover.term refl are there tenure formed)

-- ---- Close, Own and Release

-- the last ends of completions in order
pub ends_are_formed : (limits : Limits) (completions : Completions) → IsInOrder completions → All (IsFormedEnd limits) (ends_of completions)
    → IsFormedEnds limits (ends_of completions)
ends_are_formed limits completions order ended =
    record { each = ended; rising = ends_rise completions order (λ place other within. (ended place other within).lawful.client.least_is) }

-- ends of the lane's clients are lawful
pub ends_are_lawful : (limits : Limits) (list : List Ended) → All (IsFormedEnd limits) list → AllByRecursion IsLawfulEnd list
ends_are_lawful limits list each =
    recursion_from_All IsLawfulEnd list (λ place other within. (each place other within).lawful)

-- the last ends of clients are no more than the clients
pub formed_ends_few : {limits : Limits} (list : List Ended) → AreLimits limits → IsFormedEnds limits list → length list ≤ MOST_CLIENTS + MOST_BASE_CLIENTS
formed_ends_few {limits} list are told =
    omega (arith, are.clients, rising_within list limits.clients told.rising (λ place other within. (told.each place other within).client))

module _ (limits : Limits) (number : ℕ) (master : Master) (tenure : Tenure) (told : IsFormedTenure limits tenure) (formed : IsFormedMaster limits number master) where
  abbrev it : Tablet
  it = tablet_at master tenure.tablet

  -- the tablet closes, and freezes if nothing of it is staged
  formed_closing : IsFormedMaster limits number (handing.closing master tenure.tablet (closed it.handover tenure.term))
  formed_closing = moved_is (λ moved. IsFormedMaster limits number (handing.closing master tenure.tablet moved)) (nat_lt it.handover.term tenure.term)
      (record it.handover { term = tenure.term }) (role_closed it.handover.role) formed
      (λ r is.
      let after = after_close it.handover.role r is in
      let there = tablet_there tenure.tablet after.there formed in
      let handover : Handover = record it.handover { term = tenure.term; role = r } in
      let old = handover_of there in
      let at_term : IsFormedHandover limits it.pulling.source (record it.handover { term = tenure.term }) = assumption (told, old) in
      let new = formed_in_role r Role.Closing after.now refl refl at_term in
      let closing : Tablet = without_merged (with_handover it handover) in
      let closing_is = formed_moved told.tablet new (rest_of there) in
      let same = tablet_with_same master tenure.tablet closing in
      let closed_is = formed_with_tablet formed closing_is (none_waits_in r Role.Closing _ _ after.now (λ sealed. refl)) in
      freezing_is (IsFormedMaster limits number) (with_tablet master tenure.tablet closing) tenure.tablet
      (tablet_at (with_tablet master tenure.tablet closing) tenure.tablet) closed_is handover handover.term
      (λ f frozen. formed_frozen f frozen closed_is (subst (IsFormedTablet limits tenure.tablet) (sym same) closing_is)
      (subst (λ (t : Tablet). IsFormedHandover limits t.pulling.source handover) (sym same) new)))

  -- what the next owner has to know
  transfer_is_formed : AreLimits limits → IsMaster limits.masters number → IsFormedTablet limits tenure.tablet it
      → IsFormedMessage limits (handing.transfer master tenure it)
  transfer_is_formed are there its =
      formed_from limits master Node.Coordinator _ there formed.number_is tt
      (tenure_fits are told, from_zero64 (counted_fits are its.counter), ends_are_lawful limits (ends_of it.completions) its.ended)
      (assumption (ends_are_formed limits it.completions its.order its.ended))

  -- a source that is frozen at this term reports it
  formed_transferring : AreLimits limits → IsMaster limits.masters number → IsFormedWork limits number 1 (handing.transferring master tenure)
  formed_transferring are there =
      grind (arith, cond_both, formed_sending, transfer_is_formed, tablet_there, role_there, is_frozen, formed_changed)

  -- a master that takes an Own
  pub formed_own : IsFormedWork limits number 1 (handing.own_taken master tenure)
  formed_own = moved_is (λ moved. IsFormedWork limits number 1 (handing.owning master tenure.tablet moved)) (it.handover.term == tenure.term)
      it.handover (role_owned master.applied it.handover.role) (formed_changed formed)
      (λ r is.
      let after = after_own master.applied it.handover.role r is in
      let new = formed_in_role r Role.Serving after.now refl refl (handover_of (tablet_there tenure.tablet after.there formed)) in
      let source_is : is_receiving r ≡ true → IsMaster limits.masters 0 = λ receives. absurd (cc (ap is_receiving after.now, receives)) in
      let rest = rest_at limits number master tenure.tablet formed in
      formed_changed (formed_with_tablet formed
      (formed_tablet {limits = limits} _ told.tablet (assumption (source_is, new))
      (assumption (formed_pulling_from limits 0, All-nil (IsFormedGathered limits), All-nil (IsFormedEnd limits), none_twice, rest)))
      (none_waits_in r Role.Serving _ _ after.now (λ sealed. refl))))

  -- a master that takes a Release
  pub formed_release : IsFormedWork limits number 1 (handing.release_taken master tenure)
  formed_release = moved_is (λ moved. IsFormedWork limits number 1 (handing.releasing master tenure.tablet moved)) (it.handover.term == tenure.term)
      it.handover (role_released it.handover.role) (formed_changed formed)
      (λ r is.
      let after = after_release it.handover.role r is in
      formed_changed (formed_with_tablet (formed_without_items it.handover.range formed)
      (formed_moved told.tablet
      (formed_in_role r Role.Absent after.now refl refl (handover_of (tablet_there tenure.tablet after.there formed)))
      (rest_at limits number master tenure.tablet formed))
      (none_waits_in r Role.Absent _ _ after.now (λ sealed. refl))))

-- a master that takes a Close
pub formed_close : {limits : Limits} {number : ℕ} {master : Master} {tenure : Tenure} → AreLimits limits → IsMaster limits.masters number
    → IsFormedTenure limits tenure → IsFormedMaster limits number master → IsFormedWork limits number 1 (handing.close_taken master tenure)
formed_close {limits} {number} {master} {tenure} are there told formed =
    formed_transferring limits number _ tenure told (formed_closing limits number master tenure told formed) are there

-- ---- Grant

module _ (limits : Limits) (number : ℕ) (master : Master) (grant : Grant) where
  abbrev target : Tablet
  target = tablet_at master grant.tenure.tablet

  -- the entry that begins what a target has
  pub carried_is_formed : {handover : Handover} → AreLimits limits → IsFormedHandover limits grant.source handover → IsFormedGrant limits grant
      → IsFormedEntry limits (handing.carried_entry handover grant)
  carried_is_formed are formed told =
      record {
        lawful = record {
          range = formed.range;
          term = counted_fits are formed.term;
          floor = counted_fits are told.floor;
          few = omega (arith, formed_ends_few grant.ends are told.told);
          each = ends_are_lawful limits grant.ends told.told.each;
          rising = told.told.rising;
        };
        term = formed.term.last;
        floor = told.floor.last;
        each = told.told.each;
      }

  -- the handover of a target that is granted its tablet
  pub granted_is_formed : (role : Role) → role ≡ Role.Receiving → IsFormedGrant limits grant → IsFormedTablet limits grant.tenure.tablet target
      → IsFormedHandover limits grant.source (record target.handover { counter = grant.floor; role = role })
  granted_is_formed role is told old = grind (arith, w64, place_in, is_receiving)

  -- a master that takes a Grant
  pub formed_grant : AreLimits limits → IsFormedGrant limits grant → IsFormedMaster limits number master
      → IsFormedWork limits number 1 (handing.grant_taken master grant)
  formed_grant are told formed = moved_is (λ moved. IsFormedWork limits number 1 (handing.granting master grant moved))
      (target.handover.term == grant.tenure.term) (record target.handover { counter = grant.floor }) (role_granted target.handover.role)
      (formed_changed formed)
      (λ r is.
      let after = after_grant target.handover.role r is in
      let new = granted_is_formed r after.now told (tablet_there grant.tenure.tablet after.there formed) in
      formed_changed (formed_with_tablet
      (formed_with_appended (handing.carried_entry (record target.handover { counter = grant.floor; role = r }) grant) formed
      (carried_is_formed are new told))
      (formed_tablet _ told.tenure.tablet new
      (assumption (
        completions_order [] grant.ends tt,
        completions_each (IsFormedEnd limits) [] grant.ends (All-nil _) told.told.each,
        formed_pulling_from limits grant.source,
        All-nil (IsFormedGathered limits),
        All-nil (IsFormedEnd limits),
        none_twice,
      )))
      (none_waits_in r Role.Receiving _ _ after.now (λ sealed. refl))))
