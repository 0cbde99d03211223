-- A row that moves comes to be owned by one event alone: the delivery of the Joined of its target.
use Rattle.std.proofs.Common.{arith, ◌≡◌, ◌+◌, ℕ, false, cond, List, Option, Some, None, ◌⊎◌, refl, sym, ap, ◌∙◌, ⊎_elim, inl, inr, Ok}
use Rattle.std.proofs.Common.{is_some, Contains, option_map}
use Rattle.rk_inv_base.proofs.Words.{cond_both, false≢true, All-contains, option_or, get, Member, Node, Range, Segments, number_of}
use Rattle.rk_inv_base.proofs.Words.{add_fault, divided, lower_part, placed, replaced, row_of, upper_part, Phase, Moving, Owned, Row}
use Rattle.rk_inv_base.proofs.Words.{Message, Called, Coordinator, new_row, coordinator_step, told_coordinator, is_added, with_client}
use Rattle.rk_inv_base.proofs.Words.{master_step, migrating, row_migrated, notice_order, fault_of, refusal, where_true, worn, rows_split_of}
use Rattle.rk_inv_base.proofs.Words.{Stepped, delivered, delivered_to, happened, losing, seen_in, sent_again, step, turned, worked_at}
use Rattle.rk_inv_base.proofs.Words.{World, has_crashed, master_at, with_ledger, with_stored_by, Event, IsSound}
use Rattle.rk_inv_rows.proofs.Words.{cut_fault, split_fault, split_rows, Taken, tablet_split_fault_by, tablet_split_fault_of, all_with}
use Rattle.rk_inv_rows.proofs.Words.{found_stands, stood}
use Rattle.rk_types.specs.declared.node.Node.TheVariants as nodes
use Rattle.rk_world.specs.declared.error.MoveError.TheVariants as moves
use Rattle.rk_world.specs.declared.error.StepError.TheVariants as errors
use Rattle.rk_world.specs.declared.event.Event.TheVariants as events
use Rattle.rk_tablet_map.specs.declared.error.MapError.{MapError}
use Rattle.rk_inv_rows.specs.finished.Deliveries.{DeliversJoined}
use Rattle.rk_inv_rows.proofs.finished.JoinedDelivered.{happened_is}
use Rattle.rk_inv_rows.proofs.finished.Unowned.{AreUnowned, IsJoined, IsUnowned, asked, is_owned, reported, unowned, unowned_all_noticed}
use Rattle.rk_inv_rows.proofs.finished.Unowned.{unowned_changed}

-- ---- what is refused

second_cause : {X : Type 0} (a b : Option X) → option_or a b ≡ None → b ≡ None
second_cause None b is = is
second_cause (Some x) b is = absurd (cc is)

no_mapped : {X Y : Type 0} (f : X → Y) (a : Option X) → option_map f a ≡ None → a ≡ None
no_mapped f None is = refl
no_mapped f (Some x) is = absurd (cc is)

-- a number that is taken is not added
not_added : (there : Option Row) (row : Row) (taken : MapError) (other : Option MapError) → there ≡ Some row → cond (is_some there) (Some taken) other ≡ None → ⊥
not_added None row taken other is free = absurd (cc is)
not_added (Some x) row taken other is free = absurd (cc free)

-- and no split takes it
not_split : (it there : Option Row) (row : Row) (at new : ℕ) → there ≡ Some row → cut_fault it there at new ≡ None → ⊥
not_split (Some x) None row at new is free = absurd (cc is)
not_split _ _ row at new is free = absurd (cc free)

module _ (w : World) (row : Row) (source target : Member) (sound : IsSound w) (found : row_of w.coordinator.rows row.tablet ≡ Some row) (moving : row.phase ≡ Moving source.master source.from target.master target.from) where
  abbrev coordinator : Coordinator
  coordinator = w.coordinator

  abbrev Stays : World → Type 0
  Stays now = AreUnowned row.tablet now.coordinator.rows

  as_before : AreUnowned row.tablet coordinator.rows
  as_before = unowned coordinator row source target sound.rows.apart found moving

  of_row : (r : Row) → Contains coordinator.rows r → IsUnowned row.tablet r
  of_row r at = All-contains (IsUnowned row.tablet) coordinator.rows r as_before at

  found_at : (number : ℕ) → number ≡ row.tablet → row_of coordinator.rows number ≡ Some row
  found_at number same = ap (row_of coordinator.rows) same ∙ found

  -- ---- what is ordered from outside

  added : (tablet : ℕ) (range : Range) (master : ℕ) → refusal w (events.AddTablet tablet range master) ≡ None
      → AreUnowned row.tablet (placed (new_row tablet range master) coordinator.rows)
  added tablet range master none =
      let fits : add_fault coordinator.rows (new_row tablet range master) ≡ None =
      no_mapped errors.Map (add_fault coordinator.rows (new_row tablet range master))
      (second_cause (where_true (has_crashed w master) (errors.Dead master))
      (option_map errors.Map (add_fault coordinator.rows (new_row tablet range master)))
      (second_cause (option_map errors.Worn (worn w)) (fault_of w (events.AddTablet tablet range master)) none)) in
      all_with (IsUnowned row.tablet) (new_row tablet range master) coordinator.rows
      (λ same. absurd (not_added (row_of coordinator.rows tablet) row (Taken tablet) _ (found_at tablet same) fits)) of_row

  migrated : (tablet to : ℕ) → AreUnowned row.tablet (row_migrated coordinator (row_of coordinator.rows tablet) to).rows
  migrated tablet to = grind (arith, row_of, migrating, unowned_changed, as_before, row_migrated)

  divided_rows : (number at new : ℕ) → (new ≡ row.tablet → ⊥) → AreUnowned row.tablet (split_rows coordinator.rows number at new)
  divided_rows number at new other = go (row_of coordinator.rows number) refl
    where
      go : (it : Option Row) → row_of coordinator.rows number ≡ it → AreUnowned row.tablet (divided it coordinator.rows number at new)
      go None is = as_before
      go (Some r) is =
          all_with (IsUnowned row.tablet) (upper_part r at new) (replaced number (lower_part r at) coordinator.rows) (λ same. absurd (other same))
          (λ x there.
          ⊎_elim
          (λ (e : x ≡ lower_part r at). rw e (of_row r (found_stands coordinator.rows number r is)))
          (λ (before : Contains coordinator.rows x). of_row x before)
          (stood coordinator.rows number (lower_part r at) x there))

  split : (tablet at new : ℕ) → refusal w (events.Split tablet at new) ≡ None → AreUnowned row.tablet (rows_split_of coordinator (row_of coordinator.rows tablet) at new).rows
  split tablet at new none =
      go (row_of coordinator.rows tablet) refl
      (no_mapped errors.Move (tablet_split_fault_of coordinator (row_of coordinator.rows tablet) at new)
      (second_cause (option_map errors.Worn (worn w)) (fault_of w (events.Split tablet at new)) none))
    where
      other : (r : Row) (phase : Phase) → tablet_split_fault_by coordinator r phase at new ≡ None → new ≡ row.tablet → ⊥
      other r (Owned owner from) fits same =
          not_split (row_of coordinator.rows r.tablet) (row_of coordinator.rows new) row at new (found_at new same)
          (no_mapped moves.Map (split_fault coordinator.rows r.tablet at new) fits)
      other r _ fits same = absurd (cc fits)

      go : (it : Option Row) → row_of coordinator.rows tablet ≡ it → tablet_split_fault_of coordinator it at new ≡ None → AreUnowned row.tablet (rows_split_of coordinator it at new).rows
      go None is fits = as_before
      go (Some r) is fits =
          unowned_changed row.tablet _ new (r.term + 1) r.phase
          (unowned_changed row.tablet (split_rows coordinator.rows r.tablet at new) r.tablet (r.term + 1) r.phase
          (divided_rows r.tablet at new (other r r.phase fits)) (of_row r (found_stands coordinator.rows tablet r is)))
          (λ same. absurd (other r r.phase fits same))

  -- ---- a message is delivered

  abbrev Leaves : Event → World → Type 0
  Leaves event now = Stays now ⊎ DeliversJoined w event row target.master

  to_coordinator : (number : ℕ) (message : Message) → get w.wire.messages number ≡ Some message → message.to ≡ nodes.Coordinator
      → AreUnowned row.tablet (coordinator_step coordinator message).coordinator.rows ⊎ DeliversJoined w (events.Deliver number) row target.master
  to_coordinator number message there to = go message.from refl
    where
      go : (sender : Node) → message.from ≡ sender
          → AreUnowned row.tablet (told_coordinator coordinator sender message.body).coordinator.rows ⊎ DeliversJoined w (events.Deliver number) row target.master
      go (nodes.Client client) is = inl (asked coordinator row source target sound.rows.apart found moving client message.body)
      go (nodes.Master sender) is =
          ⊎_elim (λ (stays : AreUnowned row.tablet (told_coordinator coordinator (nodes.Master sender) message.body).coordinator.rows). inl stays)
          (λ (joined : IsJoined coordinator row source target sound.rows.apart found moving sender message.body).
          inr (record {
            number = number;
            event_is = refl;
            told = record {
              message = message;
              there = there;
              from = is ∙ ap nodes.Master joined.sender_is;
              to = to;
              body = joined.body_is;
            };
            heard = joined.heard;
          }))
          (reported coordinator row source target sound.rows.apart found moving sender message.body)
      go _ is = inl as_before

  stored_by : (backup : ℕ) (store : Segments → Segments) (segments : Option Segments) → Stays (with_stored_by w backup store segments)
  stored_by backup store None = as_before
  stored_by backup store (Some segments) = as_before

  to_node : (number : ℕ) (message : Message) (called : Called) → get w.wire.messages number ≡ Some message
      → (to : Node) → message.to ≡ to → Leaves (events.Deliver number) (delivered_to w message to called).world
  to_node number message called there (nodes.Client client) to = inl as_before
  to_node number message called there nodes.Coordinator to = to_coordinator number message there to
  to_node number message called there (nodes.Master master) to =
      grind (arith, cond_both, has_crashed, losing, worked_at, seen_in, master_step, master_at, as_before, message.body)
  to_node number message called there (nodes.Backup backup) to =
      grind (arith, stored_by, as_before, message.from, message.body)

  deliver : (number : ℕ) (called : Called) → Leaves (events.Deliver number) (happened w (events.Deliver number) called).world
  deliver number called = go (get w.wire.messages number) refl
    where
      go : (it : Option Message) → get w.wire.messages number ≡ it → Leaves (events.Deliver number) (delivered w it called).world
      go None there = inl as_before
      go (Some message) there = to_node number message called there message.to refl

  -- ---- any event

  turn : (node : Node) → Stays (turned w node).world
  turn node = grind (arith, as_before)

  again : (message : Option Message) → Stays (sent_again w message).world
  again None = as_before
  again (Some message) = as_before

  event_leaves : (event : Event) (called : Called) → refusal w event ≡ None → Leaves event (happened w event called).world
  event_leaves (events.AddTablet tablet range master) called none = inl (added tablet range master none)
  event_leaves (events.AddClient client) called none = grind (arith, cond_both, is_added, with_ledger, with_client, as_before)
  event_leaves (events.Deliver number) called none = deliver number called
  event_leaves (events.Turn node) called none = inl (turn node)
  event_leaves (events.Again client) called none = inl (again (get w.ledger.requests client))
  event_leaves (events.Migrate tablet to) called none = inl (migrated tablet to)
  event_leaves (events.Split tablet at new) called none = inl (split tablet at new none)
  event_leaves (events.Notice master) called none = grind (arith, unowned_all_noticed, notice_order, as_before)
  event_leaves _ called none = inl as_before

  pub only_joined : (event : Event) (called : Called) (stepped : Stepped) (now : Row) (owner from : ℕ) → step w event called ≡ Ok stepped
      → row_of stepped.world.coordinator.rows row.tablet ≡ Some now → now.phase ≡ Owned owner from → DeliversJoined w event row target.master
  only_joined event called stepped now owner from is now_found owned =
      let happens = happened_is w event called stepped (refusal w event) is in
      ⊎_elim
      (λ (stays : Stays stepped.world).
      let rows : List Row = stepped.world.coordinator.rows in
      let free : is_owned now.phase ≡ false =
      All-contains (IsUnowned row.tablet) rows now stays (found_stands rows row.tablet now now_found)
      (number_of rows row.tablet now now_found) in
      absurd (false≢true (sym free ∙ ap is_owned owned)))
      (λ (delivers : DeliversJoined w event row target.master). delivers)
      (rw (← happens.1) (event_leaves event called happens.0))
