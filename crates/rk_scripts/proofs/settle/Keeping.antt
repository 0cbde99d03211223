-- What a master has of a tablet when it takes its turn, gets reports of what backups hold, or pulls: its term stays, a target stays one,
-- and a target that has all too.
use Rattle.std.proofs.Common.{arith, ◌≡◌, ◌&&◌, ℕ, Bool, true, false, cond, not, List, [], ◌∷◌, length, fold, Option, None, Some, refl, sym}
use Rattle.std.proofs.Common.{ap, subst, ◌∙◌, unwrap_or, option_map, nat_cmp}
use Rattle.rk_scripts.proofs.Words.{below_all, cases_eq, false≢true, IsInOrder, NumberMap, changed_each, get, Call, Ended, Held, Entry}
use Rattle.rk_scripts.proofs.Words.{Overreach, Stored, found, is_newer, end, frozen, in_role, joined, role_joined, Handover, Role}
use Rattle.rk_scripts.proofs.Words.{apply_entries, apply_entry, noting, stored_taken, with_applied, with_ended, with_entry_item, Master}
use Rattle.rk_scripts.proofs.Words.{is_settled, tablet_at, with_side_segment, with_tablet, duties, master_turn, tablet_duty}
use Rattle.rk_scripts.proofs.Words.{with_outstanding, item_replayed, joining_at, joining_by, pulled_all, pulled_taken, replay, replay_one}
use Rattle.rk_scripts.proofs.Words.{with_pulled, with_pulling, sealed_sides, Tablet, no_tablet, with_handover, all_going_on, closing_entry}
use Rattle.rk_scripts.proofs.Words.{freezing, going_on_in, is_sealed_stored, is_joining, is_target, kept_by_fold, above_all, first}
use Rattle.rk_scripts.proofs.Words.{found_changed, get_first, get_later, order_tail}
use Rattle.rk_done.specs.Completions.{noted}
use Rattle.rk_message.specs.declared.pulling.Pulled.{Pulled}
use Rattle.rk_world.specs.Ends.{told_by}
use Rattle.rk_world.specs.Pulls.{sealing}
use Rattle.rk_world.specs.Ranges.{has_key}
use Rattle.rk_world.specs.RoleTests.{is_absent}
use Rattle.rk_scripts.proofs.settle.Patient.{at_other, at_put}
use Rattle.rk_scripts.proofs.settle.PatientPulls.{joins}
use Rattle.rk_scripts.proofs.settle.Turning.{duty_is}
use Rattle.rk_scripts.proofs.settle.PatientSteps.{below_apart, entries_order, frozen_own, joined_own}
use Rattle.rk_inv_wellformed.proofs.masters.Sealing.{sides_tablets}

-- a handover goes on so: its term stays, a target stays one, and so does a target that has all
pub record Onward (before after : Handover) : Type 0 where
  pub term : after.term ≡ before.term
  pub target : is_target before.role ≡ true → is_target after.role ≡ true
  pub joining : is_joining before.role ≡ true → is_joining after.role ≡ true

pub onward_itself : (handover : Handover) → Onward handover handover
onward_itself handover = record { term = refl; target = λ is. is; joining = λ is. is }

pub onward_then : (a b c : Handover) → Onward a b → Onward b c → Onward a c
onward_then a b c first second = grind arith

-- so it is with one tablet of a master
abbrev pub GoesOnAt : ℕ → Master → Master → Type 0
GoesOnAt number before after = Onward (tablet_at before number).handover (tablet_at after number).handover

module _ (number : ℕ) where
  -- one tablet is put
  put_on : (master : Master) (n : ℕ) (tablet : Tablet) → Onward (tablet_at master n).handover tablet.handover → GoesOnAt number master (with_tablet master n tablet)
  put_on master n tablet on = grind (arith, tablet_at, with_tablet, at_put, at_other, onward_itself, cases_eq)

-- ---- turns

-- the tablets that are left are as they were
abbrev AreComing : NumberMap Tablet → Master → Type 0
AreComing list now = (q : ℕ) (tablet : Tablet) → get list q ≡ Some tablet → tablet_at now q ≡ tablet

first_below : (entry : ℕ × Tablet) (rest : NumberMap Tablet) → IsInOrder (entry ∷ rest) → (q : ℕ) (tablet : Tablet) → get rest q ≡ Some tablet → q ≡ entry.0 → ⊥
first_below entry rest sorted q tablet found same =
    below_apart entry.0 q (above_all entry.0 rest q tablet (first (below_all nat_cmp entry.0 rest) _ sorted) found) same

module _ (number : ℕ) where
  duties_on : (list : NumberMap Tablet) (now : Master) → IsInOrder list → AreComing list now → GoesOnAt number now (duties now list).master
  duties_on [] now sorted coming = onward_itself (tablet_at now number).handover
  duties_on (entry ∷ rest) now sorted coming =
      let next : Master = (tablet_duty now entry.0 entry.1 entry.1.handover.role).master in
      let at : tablet_at now entry.0 ≡ entry.1 = coming entry.0 entry.1 (get_first entry rest) in
      onward_then (tablet_at now number).handover (tablet_at next number).handover (tablet_at (duties next rest).master number).handover
      (duty_is (GoesOnAt number now) now entry.0 entry.1 entry.1.handover.role (onward_itself (tablet_at now number).handover)
      (put_on number now entry.0 (with_outstanding entry.1)
      (subst (λ (it : Tablet). Onward it.handover entry.1.handover) (sym at) (onward_itself entry.1.handover))))
      (duties_on rest next (order_tail entry rest sorted)
      (λ q tablet is.
      let apart = first_below entry rest sorted q tablet is in
      duty_is (λ (it : Master). tablet_at it q ≡ tablet) now entry.0 entry.1 entry.1.handover.role (coming q tablet (get_later entry rest q tablet sorted is))
      (at_other now entry.0 (with_outstanding entry.1) q apart ∙ coming q tablet (get_later entry rest q tablet sorted is))))

  -- a turn
  pub turn_on : (master : Master) → IsInOrder master.tablets → GoesOnAt number master (master_turn master).master
  turn_on master order = duties_on master.tablets master order (λ q tablet is. ap (λ (o : Option Tablet). unwrap_or o no_tablet) is)

  -- ---- what a backup reports

  noted_on : (master : Master) (call : Call) (end : Ended) (place : ℕ) → GoesOnAt number master (with_ended master place (Some call) (end ∷ [])).master
  noted_on master call end place = go (get master.tablets number) refl (found_changed (λ (q : ℕ) (tablet : Tablet). noting call end tablet) master.tablets number)
    where
      handover_same : (tablet : Tablet) → (noting call end tablet).handover ≡ tablet.handover
      handover_same tablet = by (not (is_absent tablet.handover.role) && has_key tablet.handover.range call.table call.key)
        where
          by : (b : Bool) → (cond b (record tablet { completions = noted tablet.completions end }) tablet).handover ≡ tablet.handover
          by true = refl
          by false = refl

      go : (it : Option Tablet) → get master.tablets number ≡ it
          → get (changed_each (λ (q : ℕ) (tablet : Tablet). noting call end tablet) master.tablets) number ≡ option_map (λ (tablet : Tablet). noting call end tablet) (get master.tablets number)
          → Onward (unwrap_or (get master.tablets number) no_tablet).handover
          (unwrap_or (get (changed_each (λ (q : ℕ) (tablet : Tablet). noting call end tablet) master.tablets) number) no_tablet).handover
      go None is changed_is =
          subst (λ (o : Option Tablet). Onward (unwrap_or (get master.tablets number) no_tablet).handover (unwrap_or o no_tablet).handover)
          (sym (changed_is ∙ ap (option_map (λ (tablet : Tablet). noting call end tablet)) is))
          (subst (λ (o : Option Tablet). Onward (unwrap_or o no_tablet).handover no_tablet.handover) (sym is) (onward_itself no_tablet.handover))
      go (Some tablet) is changed_is =
          subst (λ (o : Option Tablet). Onward (unwrap_or (get master.tablets number) no_tablet).handover (unwrap_or o no_tablet).handover)
          (sym (changed_is ∙ ap (option_map (λ (it : Tablet). noting call end it)) is))
          (subst (λ (o : Option Tablet). Onward (unwrap_or o no_tablet).handover (noting call end tablet).handover) (sym is)
          (subst (λ (h : Handover). Onward tablet.handover h) (sym (handover_same tablet)) (onward_itself tablet.handover)))

  item_on : (master : Master) (entry : Entry) → GoesOnAt number master (with_applied (with_entry_item master entry))
  item_on master (Entry.Held held) = onward_itself (tablet_at master number).handover
  item_on master _ = onward_itself (tablet_at master number).handover

  ended_on : (master : Master) (place : ℕ) (call : Option Call) (ends : List Ended) → GoesOnAt number master (with_ended master place call ends).master
  ended_on master place (Some call) (end ∷ ends) = noted_on master call end place
  ended_on master place (Some call) [] = onward_itself (tablet_at master number).handover
  ended_on master place None ends = onward_itself (tablet_at master number).handover

  entries_on : (list : List Entry) (master : Master) → GoesOnAt number master (apply_entries master list).master
  entries_on [] master = onward_itself (tablet_at master number).handover
  entries_on (entry ∷ list) master =
      let now : Master = with_applied (with_entry_item master entry) in
      let next : Master = (apply_entry master entry).master in
      onward_then (tablet_at master number).handover (tablet_at next number).handover (tablet_at (apply_entries next list).master number).handover
      (onward_then (tablet_at master number).handover (tablet_at now number).handover (tablet_at next number).handover (item_on master entry)
      (ended_on now master.applied (get master.calls master.applied) (told_by entry)))
      (entries_on list next)

  -- one tablet goes on
  record Going (n : ℕ) (now next : Master) : Type 0 where
    own : GoesOnAt number now next
    other : (q : ℕ) → (q ≡ n → ⊥) → tablet_at next q ≡ tablet_at now q

  going_still : (n : ℕ) (now : Master) → Going n now now
  going_still n now = record { own = onward_itself (tablet_at now number).handover; other = λ q apart. refl }

  going_put : (now : Master) (n : ℕ) (tablet : Tablet) → Onward (tablet_at now n).handover tablet.handover → Going n now (with_tablet now n tablet)
  going_put now n tablet on = record { own = put_on number now n tablet on; other = λ q apart. at_other now n tablet q apart }

  module _ (now : Master) (n : ℕ) (tablet : Tablet) (at : tablet_at now n ≡ tablet) where
    closing_on : tablet.handover.role ≡ Role.Closing → Going n now (freezing now n tablet (frozen tablet.handover tablet.handover.term))
    closing_on is = subst (λ (moved : Option Handover). Going n now (freezing now n tablet moved)) (sym (frozen_own tablet.handover is)) (go (is_settled now tablet.handover.range))
      where
        on : Onward tablet.handover (record tablet.handover { role = Role.Frozen })
        on = record {
          term = refl;
          target = λ it. absurd (false≢true (ap is_target (sym is) ∙ it));
          joining = λ it. absurd (false≢true (ap is_joining (sym is) ∙ it));
        }

        go : (b : Bool) → Going n now (cond b (with_tablet now n (with_handover tablet (record tablet.handover { role = Role.Frozen }))) now)
        go true = going_put now n (with_handover tablet (record tablet.handover { role = Role.Frozen }))
            (subst (λ (it : Tablet). Onward it.handover (record tablet.handover { role = Role.Frozen })) (sym at) on)
        go false = going_still n now

    joining_on : tablet.handover.role ≡ Role.Joining None
        → Going n now (cond (is_sealed_stored now tablet) (closing_entry now n tablet (joined tablet.handover tablet.handover.term (Some (length now.log.entries)))) now)
    joining_on is =
        subst (λ (moved : Option Handover). Going n now (cond (is_sealed_stored now tablet) (closing_entry now n tablet moved) now))
        (sym (joined_own tablet.handover (length now.log.entries) is)) (go (is_sealed_stored now tablet))
      where
        on : Onward tablet.handover (record tablet.handover { role = Role.Joining (Some (length now.log.entries)) })
        on = record { term = refl; target = λ it. refl; joining = λ it. refl }

        go : (b : Bool) → Going n now (cond b (closing_entry now n tablet (Some (record tablet.handover { role = Role.Joining (Some (length now.log.entries)) }))) now)
        go true =
            let after : Handover = record tablet.handover { role = Role.Joining (Some (length now.log.entries)) } in
            let put = going_put now n (with_handover tablet after) (subst (λ (it : Tablet). Onward it.handover after) (sym at) on) in
            record { own = put.own; other = put.other }
        go false = going_still n now

    going_on_one : (role : Role) → tablet.handover.role ≡ role → Going n now (going_on_in now n tablet role)
    going_on_one Role.Closing is = closing_on is
    going_on_one (Role.Joining None) is = joining_on is
    going_on_one _ is = going_still n now

  all_going : (list : NumberMap Tablet) (now : Master) → IsInOrder list → AreComing list now → GoesOnAt number now (all_going_on now list)
  all_going [] now sorted coming = onward_itself (tablet_at now number).handover
  all_going (entry ∷ rest) now sorted coming =
      let next : Master = going_on_in now entry.0 entry.1 entry.1.handover.role in
      let one = going_on_one now entry.0 entry.1 (coming entry.0 entry.1 (get_first entry rest)) entry.1.handover.role refl in
      onward_then (tablet_at now number).handover (tablet_at next number).handover (tablet_at (all_going_on next rest) number).handover one.own
      (all_going rest next (order_tail entry rest sorted)
      (λ q tablet is. one.other q (first_below entry rest sorted q tablet is) ∙ coming q tablet (get_later entry rest q tablet sorted is)))

  pub stored_on : (master : Master) (backup : ℕ) (stored : Stored) (over : Option Overreach) → IsInOrder master.tablets → GoesOnAt number master (stored_taken master backup stored over).master
  stored_on master backup stored (Some over) order = onward_itself (tablet_at master number).handover
  stored_on master backup stored None order =
      grind (arith, entries_on, all_going, entries_order)

  -- ---- pulls

  same_handover : (master : Master) (n : ℕ) (tablet : Tablet) → tablet.handover ≡ (tablet_at master n).handover → GoesOnAt number master (with_tablet master n tablet)
  same_handover master n tablet is =
      put_on number master n tablet (subst (Onward (tablet_at master n).handover) (sym is) (onward_itself (tablet_at master n).handover))

  replay_on : (master : Master) (n worker : ℕ) (items : List Held) → GoesOnAt number master (replay master n worker items)
  replay_on master n worker items = kept_by_fold (GoesOnAt number master) (replay_one n worker)
      (λ now item kept. go now item kept (is_newer item (found item.table item.key now.records)))
      items master (onward_itself (tablet_at master number).handover)
    where
      go : (now : Master) (item : Held) → GoesOnAt number master now → (b : Bool) → GoesOnAt number master (cond b (item_replayed n worker now item) now)
      go now item kept true =
          onward_then (tablet_at master number).handover (tablet_at now number).handover (tablet_at (item_replayed n worker now item) number).handover kept
          (same_handover now n (with_pulling (tablet_at now n) (with_pulled (tablet_at now n).pulling worker item)) refl)
      go now item kept false = kept

  module _ (now : Master) (n : ℕ) (tablet : Tablet) (at : (tablet_at now n).handover ≡ tablet.handover) where
    moved_put : (role : Role) → Onward tablet.handover (record tablet.handover { role = role }) → GoesOnAt number now (with_tablet now n (with_handover tablet (record tablet.handover { role = role })))
    moved_put role on =
        put_on number now n (with_handover tablet (record tablet.handover { role = role })) (subst (λ (h : Handover). Onward h (record tablet.handover { role = role })) (sym at) on)

    closes_on : (place : ℕ) (role : Role) → tablet.handover.role ≡ role → GoesOnAt number now (closing_entry now n tablet (joined tablet.handover tablet.handover.term (Some place)))
    closes_on place role is =
        subst (λ (moved : Option Handover). GoesOnAt number now (closing_entry now n tablet moved)) (sym (joins tablet.handover (Some place) role is)) (go role)
      where
        has : GoesOnAt number now (closing_entry now n tablet (Some (record tablet.handover { role = Role.Joining (Some place) })))
        has = moved_put (Role.Joining (Some place)) (record { term = refl; target = λ it. refl; joining = λ it. refl })

        go : (r : Role) → GoesOnAt number now (closing_entry now n tablet (in_role tablet.handover (role_joined (Some place) r)))
        go Role.Receiving = has
        go (Role.Joining None) = has
        go _ = onward_itself (tablet_at now number).handover

    waits_on : (role : Role) → tablet.handover.role ≡ role → GoesOnAt number now (joining_at now n tablet (joined tablet.handover tablet.handover.term None))
    waits_on role is =
        subst (λ (moved : Option Handover). GoesOnAt number now (joining_at now n tablet moved)) (sym (joins tablet.handover None role is)) (go role)
      where
        go : (r : Role) → GoesOnAt number now (joining_at now n tablet (in_role tablet.handover (role_joined None r)))
        go Role.Receiving = moved_put (Role.Joining None) (record { term = refl; target = λ it. refl; joining = λ it. refl })
        go _ = onward_itself (tablet_at now number).handover

    joining_by_on : (segments : List ℕ) → GoesOnAt number now (joining_by now n tablet segments)
    joining_by_on [] = closes_on (length now.log.entries) tablet.handover.role refl
    joining_by_on (segment ∷ more) = waits_on tablet.handover.role refl

  all_on : (master : Master) (n : ℕ) → GoesOnAt number master (pulled_all master n)
  all_on master n =
      let tablet : Tablet = tablet_at master n in
      let sides = sealed_sides tablet.pulling.sides in
      let after : Master = fold with_side_segment master sides in
      let sealed : Master = sealing master n tablet in
      let same : (q : ℕ) → tablet_at after q ≡ tablet_at master q = λ q. ap (λ (tablets : NumberMap Tablet). unwrap_or (get tablets q) no_tablet) (sides_tablets sides master) in
      let first_on : GoesOnAt number after sealed = same_handover after n _ (ap (λ (it : Tablet). it.handover) (sym (same n))) in
      onward_then (tablet_at master number).handover (tablet_at sealed number).handover (tablet_at (pulled_all master n) number).handover
      (subst (λ (it : Tablet). Onward it.handover (tablet_at sealed number).handover) (same number) first_on)
      (joining_by_on sealed n (tablet_at sealed n) refl (tablet_at sealed n).pulling.sealed)

  pub pulled_on : (master : Master) (pulled : Pulled) → GoesOnAt number master (pulled_taken master pulled).master
  pulled_on master pulled =
      grind (arith, replay_on, same_handover, all_on)
