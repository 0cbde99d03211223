-- What targets have sealed stays there when a master takes a message that hands a tablet over.
use Rattle.std.proofs.Common.{arith, ◌&&◌, ◌==◌, ℕ, cond, not, [], length, Option, None, Some}
use Rattle.rk_inv_base.proofs.Words.{All-nil, meets, Range, completions_from, closed, granted, owned, prepared, released, Handover, Role}
use Rattle.rk_inv_base.proofs.Words.{Grant, Prepare, Tenure, carried_entry, close_taken, closing, given_up, grant_taken, granting}
use Rattle.rk_inv_base.proofs.Words.{is_greater, own_taken, owning, prepare_taken, preparing, ready, ready_again, release_taken, releasing}
use Rattle.rk_inv_base.proofs.Words.{tablet_closed, tablet_prepared, transfer, with_move, with_others_given_up, Master, tablet_at}
use Rattle.rk_inv_base.proofs.Words.{with_appended, without_items, is_frozen_at, Tablet, pulling_from, with_handover, without_merged}
use Rattle.rk_inv_base.proofs.Words.{changed, sending}
use Rattle.rk_inv_tablets.proofs.steady.Sealed.{IsSealedUnder, Seals, each_under, either_works, sealed_at, seals_with_tablet}
use Rattle.rk_transfer.specs.declared.role.Role.TheVariants as roles
use Rattle.rk_inv_wellformed.proofs.masters.Changes.{freezing_is}
use Rattle.rk_inv_wellformed.proofs.maps.Lists.{by_found}

module _ (count : ℕ) where
  -- ---- moves

  given_up_sealed : (number : ℕ) (range : Range) (entry : ℕ × Tablet) → IsSealedUnder count entry.1
      → IsSealedUnder count (cond (not (entry.0 == number) && meets entry.1.handover.range range) (given_up entry.1) entry.1)
  given_up_sealed number range entry sealed = grind (arith, meets, given_up)

  pub others_given_up_seal : (master : Master) (number : ℕ) (range : Range) → Seals count master → Seals count (with_others_given_up master number range)
  others_given_up_seal master number range seals = search (each_under, meets, given_up, given_up_sealed, seals.0, master.tablets, seals.1)

  move_seals : (master : Master) (number : ℕ) (handover : Option Handover) → Seals count master → Seals count (with_move master number handover)
  move_seals master number None seals = seals
  move_seals master number (Some handover) seals = search (seals_with_tablet, without_merged, with_handover, tablet_at, sealed_at)

  module _ (master : Master) (seals : Seals count master) where
    -- ---- ready

    prepared_seals : (prepare : Prepare) → Seals count (tablet_prepared master prepare)
    prepared_seals prepare =
        let number = prepare.tenure.tablet in
        let now = with_others_given_up (without_items master prepare.range) number prepare.range in
        move_seals now number (prepared (tablet_at now number).handover prepare.tenure.term prepare.range (length master.log.entries))
        (others_given_up_seal (without_items master prepare.range) number prepare.range seals)

    again_seals : (tenure : Tenure) (role : Role) (term : ℕ) → Seals count (ready_again master tenure role term).master
    again_seals tenure (roles.Wanting from) term =
        either_works count (term == tenure.term) (sending master (ready master tenure from)) (changed master) seals seals
    again_seals tenure _ term = seals

    pub prepare_seals : (prepare : Prepare) → Seals count (prepare_taken master prepare).master
    prepare_seals prepare =
        let handover = (tablet_at master prepare.tenure.tablet).handover in
        either_works count (is_greater master prepare.tenure.tablet prepare.tenure.term prepare.range) (preparing master prepare)
        (ready_again master prepare.tenure handover.role handover.term)
        (prepared_seals prepare) (again_seals prepare.tenure handover.role handover.term)

    -- ---- closed

    closing_seals : (number : ℕ) (handover : Option Handover) → Seals count (closing master number handover)
    closing_seals number None = seals
    closing_seals number (Some handover) =
        let now = tablet_closed master number handover in
        let closed_seals : Seals count now = move_seals master number (Some handover) seals in
        let tablet = tablet_at now number in
        freezing_is (Seals count) now number tablet closed_seals handover handover.term
        (λ r is.
        seals_with_tablet count now number (with_handover tablet (record handover { role = r })) closed_seals (sealed_at count now number closed_seals))

    pub close_seals : (tenure : Tenure) → Seals count (close_taken master tenure).master
    close_seals tenure =
        let now = closing master tenure.tablet (closed (tablet_at master tenure.tablet).handover tenure.term) in
        let kept : Seals count now = closing_seals tenure.tablet (closed (tablet_at master tenure.tablet).handover tenure.term) in
        either_works count (is_frozen_at (tablet_at now tenure.tablet) tenure.term) (sending now (transfer now tenure (tablet_at now tenure.tablet)))
        (changed now) kept kept

    -- ---- granted

    pub grant_seals : (grant : Grant) → Seals count (grant_taken master grant).master
    grant_seals grant =
        by_found (λ handover. Seals count (granting master grant handover).master)
        (granted (tablet_at master grant.tenure.tablet).handover grant.tenure.term grant.floor) (λ none. seals)
        (λ handover is.
        seals_with_tablet count (with_appended master (carried_entry handover grant)) grant.tenure.tablet
        (record (without_merged (tablet_at master grant.tenure.tablet)) {
          handover = handover;
          completions = completions_from [] grant.ends;
          pulling = pulling_from grant.source;
        })
        seals (All-nil _))

    -- ---- owned

    pub own_seals : (tenure : Tenure) → Seals count (own_taken master tenure).master
    own_seals tenure =
        let tablet = tablet_at master tenure.tablet in
        by_found (λ handover. Seals count (owning master tenure.tablet handover).master) (owned tablet.handover tenure.term master.applied)
        (λ none. seals)
        (λ handover is.
        seals_with_tablet count master tenure.tablet (record (without_merged tablet) { handover = handover; pulling = pulling_from 0 }) seals (All-nil _))

    -- ---- released

    pub release_seals : (tenure : Tenure) → Seals count (release_taken master tenure).master
    release_seals tenure =
        by_found (λ handover. Seals count (releasing master tenure.tablet handover).master)
        (released (tablet_at master tenure.tablet).handover tenure.term) (λ none. seals)
        (λ handover is. move_seals (without_items master handover.range) tenure.tablet (Some handover) seals)
