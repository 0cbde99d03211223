-- What is so of a master stays so when a call is chosen for, when what waited goes on, and when a tablet is handed over, if it does when
-- the log grows, when items go into the records or are dropped from them, and when a tablet is put. So is what is said of the log, of what
-- is applied of it, of the calls that wait and of the records alone, whatever becomes of the tablets.
use Rattle.std.proofs.Common.{arith, All, Bool, List, None, Option, Some, [], cond, length, slice_set, ℕ, ◌∷◌}
use Rattle.rk_inv_base.proofs.Words.{Call, Choice, Entry, Grant, Handover, Held, Log, Master, NumberMap, Prepare, Range, Refuses, Role}
use Rattle.rk_inv_base.proofs.Words.{Tablet, Tenure, Wants, Worked, Writes, all_going_on, carried_entry, changed, chosen, close_taken}
use Rattle.rk_inv_base.proofs.Words.{closed, closing, closing_entry, freezing, frozen, going_on_in, granting, is_frozen_at, is_greater}
use Rattle.rk_inv_base.proofs.Words.{is_sealed_stored, is_settled, item_of, joined, joined_entry, owning, prepare_taken, prepared}
use Rattle.rk_inv_base.proofs.Words.{preparing, ready, ready_again, refusal_of, releasing, sending, tablet_at, tablet_closed, transfer}
use Rattle.rk_inv_base.proofs.Words.{with_appended, with_handover, with_move, with_others_given_up, with_side_segment, with_staged}
use Rattle.rk_inv_base.proofs.Words.{value_written, with_tablet, without_items, ⊤}
use Rattle.rk_world.specs.Master.{with_call, with_item}
use Rattle.rk_inv_wellformed.proofs.maps.Lists.{fold_keeps_all, either_way}

-- it stays so when an entry that may be appended is, when a side segment becomes known, when an item that fits is put into the records,
-- when the items of a range are dropped from them, and when a tablet is put that has sealed few side segments, with these lists of workers
pub record Lasts (P : Master → Type 0) (Fits : Held → Type 0) (May : Entry → Type 0) (Few : List ℕ → List (List Held) → Type 0) : Type 0 where
  pub appended : (master : Master) (entry : Entry) → May entry → P master → P (with_appended master entry)
  pub sealed : (master : Master) (items : List Held) → P master → P (with_side_segment master items)
  pub put : (master : Master) (item : Held) → Fits item → P master → P (with_item master item)
  pub dropped : (master : Master) (range : Range) → P master → P (without_items master range)
  pub tablet : (master : Master) (number : ℕ) (tablet : Tablet) → Few tablet.pulling.sealed tablet.pulling.sides → P master
      → P (with_tablet master number tablet)
  pub given_up : (master : Master) (number : ℕ) (range : Range) → P master → P (with_others_given_up master number range)
  -- each tablet has sealed few, and so has a tablet that pulls anew
  pub few : (master : Master) (number : ℕ) → P master → Few (tablet_at master number).pulling.sealed (tablet_at master number).pulling.sides
  pub all : (master : Master) → P master → All (λ entry. Few entry.1.pulling.sealed entry.1.pulling.sides) master.tablets
  pub none : Few [] ([] ∷ [] ∷ [] ∷ [] ∷ [])
  pub replayed : (sealed : List ℕ) (sides : List (List Held)) (worker : ℕ) (items : List Held) → Few sealed sides
      → Few sealed (slice_set sides worker items)
  pub closes : (tablet : Tablet) → Few tablet.pulling.sealed tablet.pulling.sides → May (joined_entry tablet)

-- something of a log, of how many of its entries are applied, of the calls that wait, of the items of its side segments, and of records
abbrev pub About : Type 1
About = Log → ℕ → NumberMap Call → List (List Held) → List Held → Type 0

-- a master has it
abbrev pub Has : About → Master → Type 0
Has P master = P master.log master.applied master.calls master.sides master.records

-- it stays so at these changes alone
pub record IsLasting (P : About) (Fits : Held → Type 0) : Type 0 where
  pub appended : (master : Master) (entry : Entry) → Has P master → Has P (with_appended master entry)
  pub sealed : (master : Master) (items : List Held) → Has P master → Has P (with_side_segment master items)
  pub put : (master : Master) (item : Held) → Fits item → Has P master → Has P (with_item master item)
  pub dropped : (master : Master) (range : Range) → Has P master → Has P (without_items master range)

-- any entry, and any tablet
abbrev pub AnyEntry : Entry → Type 0
AnyEntry entry = ⊤

abbrev pub AnyTablet : List ℕ → List (List Held) → Type 0
AnyTablet sealed sides = ⊤

pub of_lasting : {P : About} {Fits : Held → Type 0} → IsLasting P Fits → Lasts (Has P) Fits AnyEntry AnyTablet
of_lasting lasting = grind arith

-- the entry that a choice leaves may be appended
abbrev pub MayLeave : (Entry → Type 0) → Master → Call → Choice → Type 0
MayLeave May master call (Writes number) =
    May (Entry.Held (item_of call (tablet_at master number).handover.counter (value_written call.op)))
MayLeave May master call (Refuses found absent) = May (refusal_of call found absent)
MayLeave May master call _ = ⊤

module _ {P : Master → Type 0} {Fits : Held → Type 0} {May : Entry → Type 0} {Few : List ℕ → List (List Held) → Type 0} (lasts : Lasts P Fits May Few) where
  -- what is made if a test holds has it, and so has what is made if it does not
  pub either_work : (test : Bool) (one other : Worked) → P one.master → P other.master → P (cond test one other).master
  either_work test one other = either_way (λ (worked : Worked). P worked.master) test

  -- a tablet of a number is put, with what it sealed and its lists of workers
  pub put_has : (master : Master) (number : ℕ) (handover : Handover) → P master
      → P (with_tablet master number (with_handover (tablet_at master number) handover))
  put_has master number handover has = lasts.tablet master number _ (lasts.few master number has) has

  -- ---- requests

  -- if it stays so once the call waits
  pub chosen_has : (master : Master) (asked : ℕ) (call : Call) (choice : Choice) → MayLeave May master call choice → P (with_call master call)
      → P master → P (chosen master asked call choice).master
  chosen_has master asked call (Wants number) may called has = lasts.tablet master number _ (lasts.few master number has) has
  chosen_has master asked call (Writes number) may called has =
      let entry = Entry.Held (item_of call (tablet_at master number).handover.counter (value_written call.op)) in
      lasts.tablet (with_staged master call entry) number _ (lasts.few master number has)
      (lasts.appended (with_call master call) entry may called)
  chosen_has master asked call (Refuses found absent) may called has =
      lasts.appended (with_call master call) (refusal_of call found absent) may called
  chosen_has master asked call _ may called has = has

  -- ---- what waited

  pub freezing_has : (master : Master) (number : ℕ) (tablet : Tablet) (handover : Option Handover)
      → Few tablet.pulling.sealed tablet.pulling.sides → P master → P (freezing master number tablet handover)
  freezing_has master number tablet handover few has = grind (arith, either_way, is_settled)

  pub closing_entry_has : (master : Master) (number : ℕ) (tablet : Tablet) (handover : Option Handover)
      → Few tablet.pulling.sealed tablet.pulling.sides → P master → P (closing_entry master number tablet handover)
  closing_entry_has master number tablet None few has = has
  closing_entry_has master number tablet (Some handover) few has =
      lasts.appended (with_tablet master number (with_handover tablet handover)) (joined_entry tablet) (lasts.closes tablet few)
      (lasts.tablet master number _ few has)

  going_on_has : (master : Master) (number : ℕ) (tablet : Tablet) (role : Role) → Few tablet.pulling.sealed tablet.pulling.sides → P master
      → P (going_on_in master number tablet role)
  going_on_has master number tablet role few has =
      grind (arith, freezing_has, frozen, joined, either_way, is_sealed_stored, closing_entry_has)

  pub all_going_on_has : (master : Master) → P master → P (all_going_on master master.tablets)
  all_going_on_has master has =
      fold_keeps_all P (λ (entry : ℕ × Tablet). Few entry.1.pulling.sealed entry.1.pulling.sides)
      (λ now (entry : ℕ × Tablet). going_on_in now entry.0 entry.1 entry.1.handover.role) master.tablets master has (lasts.all master has)
      (λ now entry kept few. going_on_has now entry.0 entry.1 entry.1.handover.role few kept)

  -- ---- ready

  move_has : (master : Master) (number : ℕ) (handover : Option Handover) → P master → P (with_move master number handover)
  move_has master number None has = has
  move_has master number (Some handover) has = lasts.tablet master number _ (lasts.few master number has) has

  again_has : (master : Master) (tenure : Tenure) (role : Role) (term : ℕ) → P master → P (ready_again master tenure role term).master
  again_has master tenure role term has = grind (arith, either_work, sending, ready, changed)

  pub prepare_has : (master : Master) (prepare : Prepare) → P master → P (prepare_taken master prepare).master
  prepare_has master prepare has =
      let number = prepare.tenure.tablet in
      let handover = (tablet_at master number).handover in
      let now = with_others_given_up (without_items master prepare.range) number prepare.range in
      either_work (is_greater master number prepare.tenure.term prepare.range) (preparing master prepare)
      (ready_again master prepare.tenure handover.role handover.term)
      (move_has now number (prepared (tablet_at now number).handover prepare.tenure.term prepare.range (length master.log.entries))
      (lasts.given_up (without_items master prepare.range) number prepare.range (lasts.dropped master prepare.range has)))
      (again_has master prepare.tenure handover.role handover.term has)

  -- ---- closed

  closing_has : (master : Master) (number : ℕ) (handover : Option Handover) → P master → P (closing master number handover)
  closing_has master number None has = has
  closing_has master number (Some handover) has =
      let now = tablet_closed master number handover in
      let closed_has = move_has master number (Some handover) has in
      freezing_has now number (tablet_at now number) (frozen handover handover.term) (lasts.few now number closed_has) closed_has

  pub close_has : (master : Master) (tenure : Tenure) → P master → P (close_taken master tenure).master
  close_has master tenure has =
      grind (arith, closed, tablet_at, closing, closing_has, either_work, is_frozen_at, sending, transfer, changed)

  -- ---- granted, owned and released

  pub granting_has : (master : Master) (grant : Grant) (handover : Option Handover) → ((handover : Handover) → May (carried_entry handover grant))
      → P master → P (granting master grant handover).master
  granting_has master grant None may has = has
  granting_has master grant (Some handover) may has =
      lasts.tablet (with_appended master (carried_entry handover grant)) grant.tenure.tablet _ lasts.none
      (lasts.appended master (carried_entry handover grant) (may handover) has)

  pub owning_has : (master : Master) (number : ℕ) (handover : Option Handover) → P master → P (owning master number handover).master
  owning_has master number None has = has
  owning_has master number (Some handover) has = lasts.tablet master number _ lasts.none has

  pub releasing_has : (master : Master) (number : ℕ) (handover : Option Handover) → P master → P (releasing master number handover).master
  releasing_has master number None has = has
  releasing_has master number (Some handover) has =
      move_has (without_items master handover.range) number (Some handover) (lasts.dropped master handover.range has)
