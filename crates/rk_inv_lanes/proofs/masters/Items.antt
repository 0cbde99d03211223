-- What is so of the entries of a master's log, of the items of its side segments and of its records, and of nothing else, stays so at each
-- message: also when a backup reports what it holds, if the items of the log fit.
use Rattle.std.proofs.Common.{arith, All, List, None, Option, Some, [], take, ℕ}
use Rattle.rk_inv_base.proofs.Words.{All-drop, All-head, All-take, Entry, Held, Master, Message, Overreach, Stored, apply_entries}
use Rattle.rk_inv_base.proofs.Words.{committed, items_in, items_of, master_step, newly_held, overreach, stored_taken, with_known}
use Rattle.rk_inv_wellformed.proofs.maps.Lists.{all_given}
use Rattle.rk_inv_lanes.specs.room.Replayed.{replayed_of}
use Rattle.rk_inv_lanes.proofs.masters.Changes.{About, Has, IsLasting, all_going_on_has, of_lasting}
use Rattle.rk_inv_lanes.proofs.masters.Steps.{told_has, makes_any}
use Rattle.rk_inv_events.proofs.stored.StoredTaken.{Passes, entries_pass, passed}

-- something of the entries of a log, of the items of its side segments, and of records
abbrev pub OfItems : Type 1
OfItems = List Entry → List (List Held) → List Held → Type 0

abbrev pub about : OfItems → About
about P log applied calls sides records = P log.entries sides records

module _ (P : OfItems) (Fits : Held → Type 0) (lasting : IsLasting (about P) Fits) where
  -- an item that is applied goes into the records
  item_has : (master : Master) (entry : Entry) → All Fits (items_in entry) → Has (about P) master → Has (about P) (passed master entry)
  item_has master (Entry.Held held) each has = lasting.put master held (All-head Fits held [] each) has
  item_has master _ each has = has

  entries_have : Passes (λ entry. All Fits (items_in entry)) (λ master worked. Has (about P) master → Has (about P) worked.master)
  entries_have = grind (arith, item_has)

  -- what every backup holds by then is applied, and what waited goes on
  stored_has : (master : Master) (backup : ℕ) (stored : Stored) (beyond : Option Overreach) → All Fits (items_of master.log.entries)
      → Has (about P) master → Has (about P) (stored_taken master backup stored beyond).master
  stored_has master backup stored (Some beyond) each has = has
  stored_has master backup stored None each has =
      let known = with_known master backup stored.segment stored.length in
      let now = (apply_entries known (newly_held known)).master in
      all_going_on_has (of_lasting lasting) now
      (entries_pass entries_have (newly_held known) known
      (All-drop (λ entry. All Fits (items_in entry)) known.applied (take (committed known.log) known.log.entries)
      (All-take (λ entry. All Fits (items_in entry)) (committed known.log) known.log.entries (all_given Fits items_in known.log.entries each)))
      has)

  -- a message, if what the log has and what is replayed fit
  pub step_has : (master : Master) (message : Message) → All Fits (items_of master.log.entries) → All Fits (replayed_of master message.body)
      → Has (about P) master → Has (about P) (master_step master message).master
  step_has master message own each has = told_has (of_lasting lasting) master message.from message.body
      (makes_any lasting master message.from message.body) (λ call. has)
      (λ backup stored. stored_has master backup stored (overreach master.log stored.segment stored.length) own has) each has
