-- A Joined that is taken finishes a migration: what its target has is the records of the source overlaid by its own writes, and the
-- coordinator gives it the row.
use Rattle.std.proofs.Common.{◌≡◌, ℕ, ◌+◌, ◌-◌, ◌≤◌, ◌<◌, true, List, [], Some, ◌⊎◌, refl, sym, ap, ◌∙◌, ⊎_elim, arith, inl, inr, length}
use Rattle.std.proofs.Common.{min, drop, filter, slice_get, take, Contains, flat_map, length-take, eqb, leb, ◌++◌, subst, append-nil, false}
use Rattle.std.proofs.Common.{◌∷◌, Option, None, Ok, eq-eqb}
use Rattle.rk_inv_base.proofs.Words.{cases_lt, drop-take, drop_all, All-contains, Contains-append_cases, Contains-append_left, Held, Range}
use Rattle.rk_inv_base.proofs.Words.{Entry, is_in, none_stands, items_in, items_of, is_marked, unmarked, unmarked_from, counting, counts}
use Rattle.rk_inv_base.proofs.Words.{log_material, named, named_by, side_entries, Mark, marked_entries, nat_tests, flat_map-append}
use Rattle.rk_inv_base.proofs.Words.{Contains-append_right, hash_of, Member, lineage_of, Phase, Moving, Rebuilding, Row, live, IsPlain}
use Rattle.rk_inv_base.proofs.Words.{Written, applied_entries, lineage_truth, member_truth, MayTakeJoined, NamedFit, entries_from}
use Rattle.rk_inv_base.proofs.Words.{named_items, IsTruth, View, SoundView, get, Node, lawful_turned, changed_rows, row_of, Owned, Body}
use Rattle.rk_inv_base.proofs.Words.{Message, Called, Gave, is_noticed, row_tenure, Coordinated, about, answered, at_term, joined_in}
use Rattle.rk_inv_base.proofs.Words.{own_to, release_to, row_for, row_owned, told_coordinator, unanswered, with_rebuilt, refusal, Stepped}
use Rattle.rk_inv_base.proofs.Words.{delivered, delivered_to, happened, step, stepped_by, with_sends, World, with_coordinator, with_ledger}
use Rattle.rk_inv_base.proofs.Words.{written_in, StepError, Event, ByMaster, HasJoined, IsOf, JoinedIn, SaysOf, row_at, view, IsSound}
use Rattle.rk_inv_rows.proofs.Words.{behind_at, place_of, filter_from, filter_stands, material_in, IsFinished, marks_none, SoundRow, row_in}
use Rattle.rk_inv_rows.proofs.Words.{Finishes, own_entries, found_stands, new_stands, stands_found}
use Rattle.rk_inv_rows.proofs.lineage.Among.{flat_among, kept_among}
use Rattle.rk_inv_base.proofs.views.Among.{from_flat, number_from, number_to, taken_from, to_flat, unmarked_place, unmarked_stands}
use Rattle.rk_inv_base.proofs.views.Among.{unmarked_stood}
use Rattle.rk_inv_rows.proofs.lineage.Pieces.{taken_counts}
use Rattle.rk_overlay.specs.Plain.{HaveSame}
use Rattle.rk_overlay.proofs.Live.{live_alike, live_of_overlay}
use Rattle.rk_inv_rows.proofs.lineage.JoinedTaken.{history}
use Rattle.rk_types.specs.declared.node.Node.TheVariants as nodes
use Rattle.rk_message.specs.declared.message.Body.TheVariants as bodies
use Rattle.rk_world.specs.declared.event.Event.TheVariants as events

-- what a first part has from a place on is a first part of what the list has from there
first_part : {X : Type 0} (from n : ℕ) (list : List X) → drop from (take n list) ≡ take (n - from) (drop from list)
first_part from n list =
    ⊎_elim
    (λ (beyond : n < from).
    let size : length (take n list) ≡ min n (length list) = length-take n list in
    let none : n - from ≡ 0 = omega (arith, beyond) in
    drop_all from (take n list) (omega (arith, size, beyond)) ∙ sym (ap (λ (k : ℕ). take k (drop from list)) none))
    (λ (behind : from ≤ n).
    let sum : n ≡ from + (n - from) = omega (arith, behind) in
    ap (λ (k : ℕ). drop from (take k list)) sum ∙ drop-take from (n - from) list)
    (cases_lt n from)

-- what bears no mark in a first part bears none in the whole
unmarked_among : (marks : List Mark) (from n : ℕ) (list : List Entry) (entry : Entry) → Contains (unmarked_from marks from (take n list)) entry → Contains (unmarked_from marks from list) entry
unmarked_among marks from n list entry stands =
    let free = unmarked_place marks from (drop from (take n list)) entry stands in
    let place : ℕ = from + free.k in
    let there : slice_get list place ≡ Some entry = taken_from n list place entry (place_of (take n list) from free.k place entry refl free.at) in
    let behind = behind_at list from place entry (omega arith) there in
    unmarked_stands marks from behind.0 (drop from list) entry behind.1 (ap (is_marked marks) behind.2 ∙ free.free)

module _ (range : Range) (marks : List Mark) (sides : List (List Held)) (from applied : ℕ) (list : List Entry) where
  abbrev front : List Entry
  front = take applied list

  abbrev kept : List Entry
  kept = unmarked_from marks from front

  abbrev own_ones : List Entry
  own_ones = counting range (drop from front)

  -- the entries of the side segments that entries name
  abbrev named_entries : List Entry → List Entry
  named_entries entries = flat_map (side_entries sides) (named range entries)

  number_stands : (n : ℕ) → Contains (named range kept) n → Contains (named range (unmarked_from marks from list)) n
  number_stands n stands =
      number_to [] (flat_map (named_by range) (unmarked_from marks from list)) n
      (flat_among (named_by range) kept (unmarked_from marks from list) (unmarked_among marks from applied list) n
      (⊎_elim (λ (none : Contains [] n). absurd (none_stands n none)) (λ (there : Contains (flat_map (named_by range) kept) n). there)
      (number_from [] (flat_map (named_by range) kept) n stands)))

  -- an item that counts of what is applied is of an own entry, or of a side segment that some unmarked entry names
  pub from_own : (item : Held) → Contains (items_of (log_material range marks sides from front)) item
      → Contains (items_of own_ones) item ⊎ Contains (filter (is_in range) (items_of (named_entries (unmarked_from marks from list)))) item
  from_own item stands =
      let found = from_flat items_in (log_material range marks sides from front) item stands in
      let entry : Entry = found.0 in
      ⊎_elim
      (λ (here : Contains (counting range kept) entry).
      inl
      (to_flat items_in own_ones entry item
      (kept_among (counts range) kept (drop from front) (unmarked_stood marks from (drop from front)) entry here) found.2))
      (λ (side : Contains (counting range (named_entries kept)) entry).
      inr
      (filter_stands (is_in range) (items_of (named_entries (unmarked_from marks from list))) item
      (to_flat items_in (named_entries (unmarked_from marks from list)) entry item
      (flat_among (side_entries sides) (named range kept) (named range (unmarked_from marks from list)) number_stands entry
      (filter_from (counts range) (named_entries kept) entry side)) found.2)
      (All-contains (λ (x : Held). is_in range x ≡ true) (items_of (log_material range marks sides from front)) item
      (material_in range (side_entries sides) kept) stands)))
      (Contains-append_cases (counting range kept) (counting range (named_entries kept)) entry found.1)

  -- if nothing that is marked counts, the own entries do
  own_counts : counting range (marked_entries marks from (drop from list)) ≡ [] → counting range kept ≡ own_ones
  own_counts none = search (first_part, counting, unmarked, taken_counts)

  pub own_stands : counting range (marked_entries marks from (drop from list)) ≡ [] → (item : Held) → Contains (items_of own_ones) item
      → Contains (items_of (log_material range marks sides from front)) item
  own_stands none item =
      flat_among items_in own_ones (log_material range marks sides from front)
      (λ entry stands.
      Contains-append_left (counting range kept) (counting range (named_entries kept)) entry
      (rw (own_counts none) stands)) item

module _ (v : View) (row : Row) (source target : Member) (sound : SoundView v) (some : row.range.first ≤ row.range.last) (may : MayTakeJoined v row source.master source.from target.master target.from) where
  abbrev moving : Phase
  moving = Moving source.master source.from target.master target.from

  abbrev w : Written
  w = v.written target.master

  abbrev of_source : List Entry
  of_source = member_truth v.written row.range source

  abbrev of_target : List Entry
  of_target = member_truth v.written row.range target

  abbrev own : List Entry
  own = entries_from row.range target.from (applied_entries w)

  row_was : SoundRow v row
  row_was = row_in v sound row may.has_row

  -- ---- items

  -- what the target names is of its source
  copied : (item : Held) → Contains (named_items row.range target.from w) item → Contains (items_of of_source) item
  copied = subst (λ (p : Phase). NamedFit v.written row.range (lineage_of p)) may.phase_is row_was.receives.named

  never : (lineage : List Member) (to : ℕ) → row.phase ≡ Rebuilding lineage to → ⊥
  never lineage to is = let same : moving ≡ Rebuilding lineage to = sym may.phase_is ∙ is in absurd (cc same)

  abbrev both : List Held
  both = items_of of_source ++ items_of of_target

  abbrev overlaid : List Held
  overlaid = items_of of_source ++ items_of own

  forth : (item : Held) → Contains both item → Contains overlaid item
  forth item stands =
      ⊎_elim (λ (first : Contains (items_of of_source) item). Contains-append_left (items_of of_source) (items_of own) item first)
      (λ (last : Contains (items_of of_target) item).
      ⊎_elim (λ (its : Contains (items_of own) item). Contains-append_right (items_of of_source) (items_of own) item its)
      (λ (copy : Contains (named_items row.range target.from w) item).
      Contains-append_left (items_of of_source) (items_of own) item (copied item copy))
      (from_own row.range w.marks w.sides target.from w.applied w.entries item last))
      (Contains-append_cases (items_of of_source) (items_of of_target) item stands)

  back : (item : Held) → Contains overlaid item → Contains both item
  back item stands =
      ⊎_elim (λ (first : Contains (items_of of_source) item). Contains-append_left (items_of of_source) (items_of of_target) item first)
      (λ (its : Contains (items_of own) item).
      Contains-append_right (items_of of_source) (items_of of_target) item
      (own_stands row.range w.marks w.sides target.from w.applied w.entries
      (marks_none v row sound may.has_row some never target) item its))
      (Contains-append_cases (items_of of_source) (items_of own) item stands)

  same : HaveSame both overlaid
  same item = (forth item, back item)

  -- ---- records

  was : IsTruth v.base row.range (of_source ++ (of_target ++ [])) v.journal
  was = grind (arith, lineage_truth, lineage_of, row_was)

  now : IsTruth v.base row.range (of_target ++ []) v.journal
  now = (history v row source.master source.from target.master target.from sound some may).leaves

  both_are : items_of (of_source ++ (of_target ++ [])) ≡ both
  both_are =
      flat_map-append items_in of_source (of_target ++ []) ∙ ap (λ (l : List Entry). items_of of_source ++ items_of l) (append-nil of_target)

  plain : IsPlain both
  plain = rw (← both_are) was.plain

  leaves : IsFinished row.range of_source of_target own
  leaves table key inside =
      ap (λ (l : List Entry). live (items_of l) table key) (sym (append-nil of_target)) ∙ now.live table key inside
      ∙ sym (was.live table key inside) ∙ ap (λ (l : List Held). live l table key) both_are ∙ live_alike both overlaid plain same table key
      ∙ sym (live_of_overlay (items_of of_source) (items_of own) table key)

-- for an empty range there is nothing to show
pub finished : (v : View) (row : Row) (source target : Member) → SoundView v → MayTakeJoined v row source.master source.from target.master target.from
    → IsFinished row.range (member_truth v.written row.range source) (member_truth v.written row.range target)
    (entries_from row.range target.from (applied_entries (v.written target.master)))
finished v row source target sound may table key inside = grind (arith, leaves, hash_of, eqb, leb, nat_tests, row.range)

-- an event that is not refused happened
pub happened_is : (w : World) (event : Event) (called : Called) (stepped : Stepped) (refused : Option StepError) → stepped_by w event called refused ≡ Ok stepped
    → (refused ≡ None) × (happened w event called ≡ stepped)
happened_is w event called stepped None is = let same : happened w event called ≡ stepped = cc is in (refl, same)
happened_is w event called stepped (Some error) is = absurd (cc is)

module _ (w : World) (number : ℕ) (message : Message) (row : Row) (source target : Member) (sound : IsSound w) (found : row_of w.coordinator.rows row.tablet ≡ Some row) (moving : row.phase ≡ Moving source.master source.from target.master target.from) (heard : is_noticed w.coordinator target.master ≡ false) (there : get w.wire.messages number ≡ Some message) (for_coordinator : message.to ≡ nodes.Coordinator) (tells : message.body ≡ bodies.Joined (row_tenure row)) where
  has_row : Contains w.coordinator.rows row
  has_row = found_stands w.coordinator.rows row.tablet row found

  -- ---- its sender

  abbrev SaysJoined : Phase → ℕ → Type 0
  SaysJoined phase master = JoinedIn phase ((view w).handovers master row.tablet) ((view w).written master).applied row.term master

  -- its sender is the target, which has joined
  record IsTold (sender : Node) : Type 0 where
    pub sender_is : sender ≡ nodes.Master target.master
    pub term_is : ((view w).handovers target.master row.tablet).term ≡ row.term
    pub joined : HasJoined ((view w).handovers target.master row.tablet).role ((view w).written target.master).applied

  told_by : (sender : Node) → ByMaster sender (λ master. IsOf row (row_tenure row) → SaysJoined row.phase master) → IsTold sender
  told_by sender says = grind (arith, view)

  abbrev Says : Body → Type 0
  Says body =
      SaysOf row (view w).logs (view w).written (view w).stored (view w).handovers (view w).completions (view w).merged (view w).live
      (view w).handed message.from message.to body

  is_told : IsTold message.from
  is_told =
      told_by message.from
      (subst Says tells
      (All-contains
      (λ (r : Row). SaysOf r (view w).logs (view w).written (view w).stored (view w).handovers (view w).completions (view w).merged (view w).live (view w).handed message.from message.to message.body)
      w.coordinator.rows row (sound.messages.of_rows number message there) has_row))

  may : MayTakeJoined (view w) row source.master source.from target.master target.from
  may = record { has_row = has_row; phase_is = moving; term_is = is_told.term_is; joined = is_told.joined }

  -- ---- what the coordinator makes of it

  abbrev taken : Coordinated
  taken = answered (row_owned w.coordinator row target.master target.from) (own_to target.master row ∷ release_to source.master row ∷ [])

  row_is : row_for w.coordinator target.master (row_tenure row) ≡ Some row
  row_is = grind (arith, at_term, row_tenure, row_of, same, eq-eqb)

  abbrev coordinated : Coordinated → Stepped
  coordinated made = with_sends (with_ledger (with_coordinator w made.coordinator) (with_rebuilt w.ledger made.rebuilt)) made.sends

  delivered_is : happened w (events.Deliver number) (Gave None) ≡ coordinated taken
  delivered_is = grind (arith, delivered, delivered_to, told_coordinator, is_told, about, joined_in, row_is, unanswered, eq-eqb)

  -- ---- the row after it

  abbrev owned : Row
  owned = row_at row row.term (Owned target.master target.from)

  owned_found : row_of (changed_rows w.coordinator.rows row.tablet row.term (Owned target.master target.from)) row.tablet ≡ Some owned
  owned_found =
      rw found (stands_found _ owned (lawful_turned w.coordinator.rows row.tablet row owned found refl refl sound.rows.apart)
      (new_stands w.coordinator.rows row.tablet row owned found))

  -- ---- so it finishes the migration

  record Leaves (now : World) : Type 0 where
    pub owned_is : row_of now.coordinator.rows row.tablet ≡ Some owned
    pub finished :
        IsFinished row.range (member_truth (written_in w) row.range source) (member_truth (written_in now) row.range target)
        (own_entries w row target)

  left_finished : Leaves (coordinated taken).world
  left_finished = record { owned_is = owned_found; finished = finished (view w) row source target sound may }

  pub finishes : (stepped : Stepped) → step w (events.Deliver number) (Gave None) ≡ Ok stepped → Finishes w number stepped row source target
  finishes stepped is =
      let made : coordinated taken ≡ stepped =
      sym delivered_is ∙ (happened_is w (events.Deliver number) (Gave None) stepped (refusal w (events.Deliver number)) is).1 in
      let left : Leaves stepped.world = rw (← made) left_finished in
      record {
        has_row = found;
        moving = moving;
        told = record { message = message; there = there; from = is_told.sender_is; to = for_coordinator; body = tells };
        step_is = is;
        owned = left.owned_is;
        finished = left.finished;
      }
