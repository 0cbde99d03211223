-- What a master makes of a Stored, step by step: it applies the entries that every backup is known to hold, what waited for them goes on at
-- its tablets, and the clients of the calls that end with them are answered. A sound lane stays sound at each step, and so when a Stored is
-- taken.
use Rattle.std.proofs.Common.{All, Bool, List, None, Option, Some, [], ap, append_assoc, arith, cond, drop, eq-eqb, false, fold, length}
use Rattle.std.proofs.Common.{length-append, length-take, lt-ltb, ltb, map, not, position, refl, slice_get, subst, suc, sum_by, sym, take}
use Rattle.std.proofs.Common.{take-append-drop, true, unwrap_or, zero, ℕ, ◌&&◌, ◌++◌, ◌+◌, ◌-◌, ◌<◌, ◌==◌, ◌^◌, ◌∙◌, ◌∷◌, ◌≡◌, ◌≤◌}
use Rattle.std.proofs.Math.Numerals.{add-one}
use Rattle.rk_message.specs.declared.message.Body.TheVariants as bodies
use Rattle.rk_types.specs.declared.call.Answer.TheVariants as answers
use Rattle.rk_types.specs.declared.node.Node.TheVariants as nodes
use Rattle.rk_transfer.specs.declared.role.Role.TheVariants as roles
use Rattle.rk_world.specs.declared.event.Event.TheVariants as events
use Rattle.rk_types.proofs.NumberMaps.{in_order_changed}
use Rattle.rk_inv_base.proofs.Words.{All-append, All-cons, All-contains, All-head, All-map, All-nil, All-tail, All-weaker, Call, Called}
use Rattle.rk_inv_base.proofs.Words.{Ended, Entry, FIRST_SIDE_SEGMENT, Handover, HasRoom, IsBackup, IsFormedMaster, IsSound, IsWellFormed}
use Rattle.rk_inv_base.proofs.Words.{Ledger, Limits, Log, Master, MayApply, MaySend, Message, NumberMap, Placed, Role, Served}
use Rattle.rk_inv_base.proofs.Words.{Stored, Tablet, View, Worked, World, all_going_on, apply_entries, apply_entry, as_closed, as_frozen}
use Rattle.rk_inv_base.proofs.Words.{asked_by, changed, closing, closing_appended, closing_entry, committed, cond-false, cond-true}
use Rattle.rk_inv_base.proofs.Words.{cond_both, cut, cut_filled, cut_push, delivered, filled, fold-append, freezing, frozen, get}
use Rattle.rk_inv_base.proofs.Words.{going_on_in, happened, has_key, has_record, is_absent, is_mutation, is_of_mutation, is_sealed_stored}
use Rattle.rk_inv_base.proofs.Words.{is_settled, is_side_stored, joined, joined_entry, limits_of, list_any, list_any_none, lives, log_bytes}
use Rattle.rk_inv_base.proofs.Words.{log_in, map-append, master_at, meets, newly_held, next_record, no_tablet, noted, noting, or_parts}
use Rattle.rk_inv_base.proofs.Words.{outcome_of, overreach, place_of, reply_at, reply_with, seen_of, slice_get_front, slice_get_within}
use Rattle.rk_inv_base.proofs.Words.{spelled, staged, stored_taken, sum_by-cons, tablet_at, tablet_frozen, tablet_in, to_master, told_by}
use Rattle.rk_inv_base.proofs.Words.{told_length, touches, view, with_all_served, with_applied, with_ended, with_handover, with_known}
use Rattle.rk_inv_base.proofs.Words.{with_ledger, with_marks, with_master, with_mutation, with_record, worked_at, ⊤}
use Rattle.rk_inv_logs.proofs.apply.EntryPassed.{item_put}
use Rattle.rk_world.specs.Commits.{ended_call}
use Rattle.rk_world.specs.Worked.{then_works}
use Rattle.rk_inv_logs.proofs.apply.EntryApplied.{sound_applied}
use Rattle.rk_log.proofs.Cuts.{length-le-bytes}
use Rattle.rk_inv_base.proofs.Headlines.{sound_told}
use Rattle.rk_inv_base.proofs.logs.Shares.{append_nil}
use Rattle.rk_inv_events.proofs.Words.{Applying, IsFormedSide, MayFreeze, all_in, applying, by_found, entry_applied_in, its_last}
use Rattle.rk_inv_events.proofs.Words.{master_same, meets_itself, mutation, not-true, order_tail, position_or_len, role_frozen, role_joined}
use Rattle.rk_inv_events.proofs.Words.{segment_bytes, side_waits, side_waits_of, sound_closing, sound_frozen, tablet_apart, was_read}
use Rattle.rk_inv_events.proofs.Words.{with_bytes_few, with_item_of, with_served, within_sum_of, worked_in}
use Rattle.rk_inv_events.specs.stored.Small.{MayGoOn, stored_message, with_work}
use Rattle.rk_inv_events.proofs.events.Pairs.{all_pass, each_found, insert_twice, others_apart}
use Rattle.rk_inv_events.proofs.events.Working.{moved_itself, put_again, reached_or_lost, sound_unchanged, stays}
use Rattle.rk_inv_events.proofs.events.Sending.{may_reply, sound_all_sent}
use Rattle.rk_inv_events.proofs.events.Coordinating.{of_master}

-- ---- What a master makes of its next entry: its number and its log stay, one more entry is applied, and each call it served is answered.

-- the reply to a call that was served
abbrev pub reply_to : ℕ → Served → Message
reply_to master one = record {
  from = nodes.Master master;
  to = nodes.Client one.call.client;
  body = bodies.Reply (record { seq = one.call.seq; stamp = 0; place = 0; answer = answers.Done one.outcome });
}

-- work that answers the clients of all that it served, and leaves number and log as they were; its tablets may go on as before
pub record IsTold (master : Master) (worked : Worked) : Type 0 where
  pub number : worked.master.number ≡ master.number
  pub log : worked.master.log ≡ master.log
  pub sends : worked.sends ≡ map (reply_to master.number) worked.served
  pub marked : worked.marked ≡ []
  pub goes_on : MayGoOn master.log master.tablets → MayGoOn worked.master.log worked.master.tablets

-- a master that has applied one more entry
abbrev pub passed : Master → Entry → Master
passed master entry = record master { records = with_item_of entry master.records; applied = master.applied + 1 }

pub apply_is : (master : Master) (entry : Entry) → apply_entry master entry ≡ with_ended (passed master entry) master.applied (get master.calls master.applied) (told_by entry)
apply_is master entry =
    λ i. with_ended (with_applied (item_put master entry i)) master.applied (get master.calls master.applied) (told_by entry)

-- something of a master and of what it makes of its next entries, of each of which Q is so: it is so if none is applied, if one is with
-- which no call ends, and if one is with which a call ends, and of work that goes on after such work
pub record Passes (Q : Entry → Type 0) (R : Master → Worked → Type 0) : Type 0 where
  pub stays : (master : Master) → R master (changed master)
  pub silent : (master : Master) (entry : Entry) → Q entry → R master (changed (passed master entry))
  pub ends : (master : Master) (entry : Entry) (call : Call) (end : Ended) → Q entry → get master.calls master.applied ≡ Some call
      → R master (ended_call (passed master entry) master.applied call end)
  pub goes_on : (master : Master) (first later : Worked) → R master first → R first.master later → R master (then_works first (λ next. later))

module _ {Q : Entry → Type 0} {R : Master → Worked → Type 0} (passes : Passes Q R) where
  pub entry_passes : (master : Master) (entry : Entry) → Q entry → R master (apply_entry master entry)
  entry_passes master entry its = grind (arith, apply_is, told_by, with_ended)

  pub entries_pass : (entries : List Entry) (master : Master) → All Q entries → R master (apply_entries master entries)
  entries_pass [] master all = passes.stays master
  entries_pass (entry ∷ entries) master all =
      let first = apply_entry master entry in
      passes.goes_on master first (apply_entries first.master entries) (entry_passes master entry (All-head Q entry entries all))
      (entries_pass entries first.master (All-tail Q entry entries all))

-- any entry
abbrev pub AnyNext : Entry → Type 0
AnyNext entry = ⊤

-- a tablet that notes an end is else as it was
noted_same : (call : Call) (end : Ended) (tablet : Tablet) → ((noting call end tablet).handover ≡ tablet.handover) × ((noting call end tablet).pulling ≡ tablet.pulling)
noted_same call end tablet = grind (arith, cond_both, is_absent, has_key, noted)

waits_from : (call : Call) (end : Ended) (before : ℕ) (tablets : NumberMap Tablet)
    → fold (λ (n : ℕ) (entry : ℕ × Tablet). n + side_waits_of entry.1) before (map (λ entry. (entry.0, noting call end entry.1)) tablets)
    ≡ fold (λ (n : ℕ) (entry : ℕ × Tablet). n + side_waits_of entry.1) before tablets
waits_from call end before [] = refl
waits_from call end before (entry ∷ tablets) =
    grind (arith, (waits_from call end (before + side_waits_of entry.1) tablets))

waits_same : (call : Call) (end : Ended) (tablets : NumberMap Tablet) → side_waits (map (λ entry. (entry.0, noting call end entry.1)) tablets) ≡ side_waits tablets
waits_same call end tablets = waits_from call end 0 tablets

still_goes_on : (call : Call) (end : Ended) (log : Log) (tablets : NumberMap Tablet) → MayGoOn log tablets → MayGoOn log (map (λ entry. (entry.0, noting call end entry.1)) tablets)
still_goes_on call end log tablets may =
    let HasSome : Handover → Type 0 = λ (handover : Handover). meets handover.range handover.range ≡ true in
    record {
      order = in_order_changed (λ number tablet. noting call end tablet) tablets may.order;
      some = All-map (λ (entry : ℕ × Tablet). HasSome entry.1.handover) (λ (entry : ℕ × Tablet). (entry.0, noting call end entry.1)) tablets
          (All-weaker (λ (entry : ℕ × Tablet). HasSome entry.1.handover)
          (λ (entry : ℕ × Tablet). HasSome (noting call end entry.1).handover)
          (λ entry. subst HasSome (sym (noted_same call end entry.1).0)) tablets may.some);
      room = rw (waits_same call end tablets) may.room;
    }

told_passes : Passes AnyNext IsTold
told_passes = grind (arith, stays, still_goes_on, map-append)

pub entry_told : (master : Master) (entry : Entry) → IsTold master (apply_entry master entry)
entry_told master entry = entry_passes told_passes master entry tt

-- so is it of entries that are applied one after the other
pub all_told : (entries : List Entry) (master : Master) → IsTold master (apply_entries master entries)
all_told entries master = entries_pass told_passes entries master (λ place none inside. tt)

pub entry_applied_next : (master : Master) (entry : Entry) → (apply_entry master entry).master.applied ≡ master.applied + 1
entry_applied_next master entry = grind (arith, apply_is, told_by, master.applied, master.calls)

pub all_applied_next : (entries : List Entry) (master : Master) → (apply_entries master entries).master.applied ≡ master.applied + length entries
all_applied_next [] master = omega arith
all_applied_next (entry ∷ entries) master =
    omega (arith, entry_applied_next master entry, all_applied_next entries (apply_entry master entry).master)

-- ---- A lane stays sound when a living master applies the entries that every backup is known to hold, one after the other, and each call
-- that ends with one of them has its record then.

-- ---- the next of the entries that are held, and those behind it

module _ {X : Type 0} where
  of_drop : (list : List X) (place : ℕ) (x : X) (more : List X) → drop place list ≡ x ∷ more
      → (slice_get list place ≡ Some x) × (drop (suc place) list ≡ more)
  of_drop [] zero x more is = absurd (cc is)
  of_drop [] (suc place) x more is = absurd (cc is)
  of_drop (first ∷ list) zero x more is = (cc is, cc is)
  of_drop (first ∷ list) (suc place) x more is = of_drop list place x more is

  module _ (list : List X) (count place : ℕ) (x : X) (more : List X) (next : drop place (take count list) ≡ x ∷ more) where
    pub next_stands : slice_get list place ≡ Some x
    next_stands = rw (take-append-drop count list) at
        (slice_get_front (take count list) (drop count list) place x (of_drop (take count list) place x more next).0)

    pub next_within : place < count
    next_within =
        omega (arith, slice_get_within (take count list) place x (of_drop (take count list) place x more next).0, length-take count list)

    pub others_behind : drop (place + 1) (take count list) ≡ more
    others_behind = rw add-one (of_drop (take count list) place x more next).1

-- ---- the record of a served call

-- a mutation that was served has its record, before which there is none of its call
pub record HasFirst (journal : List Placed) (one : Served) : Type 0 where
  pub before : List Placed
  pub placed : Placed
  pub behind : List Placed
  pub parts : journal ≡ before ++ placed ∷ behind
  pub none : has_record before one.call.client one.call.seq ≡ false
  pub call_is : placed.call ≡ one.call
  pub outcome_is : placed.outcome ≡ one.outcome
  pub mutates : is_mutation one.call.op ≡ true

-- it has it when further ones are recorded
first_still : (journal more : List Placed) (one : Served) → HasFirst journal one → HasFirst (journal ++ more) one
first_still journal more one has = grind (arith, append_assoc)

served_still : (ledger : Ledger) (next one : Served) → HasFirst ledger.journal one → HasFirst (with_served 0 ledger next).journal one
served_still ledger next one has = grind (arith, with_record, seen_of, asked_by, cond_both, is_mutation, has_record, first_still)

all_still : (later : List Served) (ledger : Ledger) (one : Served) → HasFirst ledger.journal one → HasFirst (with_all_served 0 ledger later).journal one
all_still [] ledger one has = has
all_still (next ∷ later) ledger one has = all_still later (with_served 0 ledger next) one (served_still ledger next one has)

-- ---- one entry

module _ (w : World) (master : ℕ) (now : Master) (ledger : Ledger) where
  here : master_at (with_work w master now ledger) master ≡ now
  here = master_same w master now master refl

  step_is : (entry : Entry) → entry_applied_in (with_work w master now ledger) master entry ≡ with_work w master (apply_entry now entry).master (with_all_served 0 ledger (apply_entry now entry).served)
  step_is entry = grind (arith, worked_in, apply_entry, here, insert_twice, with_all_served)

  module _ (sound : IsSound (with_work w master now ledger)) (alive : lives w master ≡ true) (held : now.applied < committed now.log) (entry : Entry) (stands : slice_get now.log.entries now.applied ≡ Some entry) where
    may : MayApply (view (with_work w master now ledger)) master
    may = record { lives = alive; held = rw here held }

    sound_step : IsSound (with_work w master (apply_entry now entry).master (with_all_served 0 ledger (apply_entry now entry).served))
    sound_step = subst IsSound (step_is entry)
        (sound_applied (with_work w master now ledger) master sound may entry
        (subst (λ (m : Master). slice_get m.log.entries m.applied ≡ Some entry) (sym here) stands))

    -- the call that waits for it has no record yet, and gets it
    module _ (call : Call) (waits : get now.calls now.applied ≡ Some call) where
      abbrev its : Applying (view (with_work w master now ledger))
      its = applying (view (with_work w master now ledger)) master call sound (record { held = may; waits = rw here waits })

      gets : (end : Ended) → HasFirst (with_all_served 0 ledger ((record { call = call; outcome = outcome_of end.end }) ∷ [])).journal (record { call = call; outcome = outcome_of end.end })
      gets end =
          let v = view (with_work w master now ledger) in
          let one : Served = record { call = call; outcome = outcome_of end.end } in
          let new : Ledger = with_record ledger call (outcome_of end.end) (seen_of (asked_by ledger call.client)) in
          let is : with_served 0 ledger one ≡ new =
          cond-true (is_mutation call.op) (with_mutation ledger one) (with_record ledger call (outcome_of end.end) 0) (mutation v its)
          ∙ cond-false (has_record ledger.journal call.client call.seq) ledger new (its_last v its).unrecorded in
          rw is
          (record {
            before = ledger.journal;
            placed = next_record ledger.journal call (outcome_of end.end) (seen_of (asked_by ledger call.client));
            behind = [];
            parts = refl;
            none = (its_last v its).unrecorded;
            call_is = refl;
            outcome_is = refl;
            mutates = mutation v its;
          })

    step_has : All (HasFirst (with_all_served 0 ledger (apply_entry now entry).served).journal) (apply_entry now entry).served
    step_has = rw (apply_is now entry) (by (get now.calls now.applied) refl (told_by entry))
      where
        by : (waits : Option Call) → get now.calls now.applied ≡ waits → (ends : List Ended)
            → All (HasFirst (with_all_served 0 ledger (with_ended (passed now entry) now.applied waits ends).served).journal)
            (with_ended (passed now entry) now.applied waits ends).served
        by None is ends = All-nil (HasFirst ledger.journal)
        by (Some call) is [] = All-nil (HasFirst ledger.journal)
        by (Some call) is (end ∷ ends) =
            let one : Served = record { call = call; outcome = outcome_of end.end } in
            let Has = HasFirst (with_all_served 0 ledger (one ∷ [])).journal in
            All-cons Has one [] (gets call is end) (All-nil Has)

-- ---- all of them

-- a lane is sound once a master has worked so, and all that it served has its record
pub record IsWorked (w : World) (master : ℕ) (ledger : Ledger) (worked : Worked) : Type 0 where
  pub sound : IsSound (with_work w master worked.master (with_all_served 0 ledger worked.served))
  pub have : All (HasFirst (with_all_served 0 ledger worked.served).journal) worked.served

pub sound_all_applied : (w : World) (master : ℕ) → lives w master ≡ true → (entries : List Entry) (now : Master) (ledger : Ledger) (count : ℕ)
    → IsSound (with_work w master now ledger) → count ≤ committed now.log → drop now.applied (take count now.log.entries) ≡ entries
    → IsWorked w master ledger (apply_entries now entries)
sound_all_applied w master alive [] now ledger count sound within next = record { sound = sound; have = All-nil (HasFirst ledger.journal) }
sound_all_applied w master alive (entry ∷ entries) now ledger count sound within next =
    let first = apply_entry now entry in
    let then = with_all_served 0 ledger first.served in
    let later = apply_entries first.master entries in
    let stands = next_stands now.log.entries count now.applied entry entries next in
    let before = next_within now.log.entries count now.applied entry entries next in
    let held : now.applied < committed now.log = omega (arith, before, within) in
    let told = entry_told now entry in
    let rest =
    sound_all_applied w master alive entries first.master then count (sound_step w master now ledger sound alive held entry stands)
    (subst (λ log. count ≤ committed log) (sym told.log) within)
    ((λ i. drop (entry_applied_next now entry i) (take count (told.log i).entries))
    ∙ others_behind now.log.entries count now.applied entry entries next) in
    let ends = sym (fold-append (with_served 0) ledger first.served later.served) in
    record {
      sound = subst (λ (l : Ledger). IsSound (with_work w master later.master l)) ends rest.sound;
      have = subst (λ (l : Ledger). All (HasFirst l.journal) (first.served ++ later.served)) ends
          (All-append (HasFirst (with_all_served 0 then later.served).journal) first.served later.served
          (All-weaker (HasFirst then.journal) (HasFirst (with_all_served 0 then later.served).journal)
          (λ one has. all_still later.served then one has) first.served (step_has w master now ledger sound alive held entry stands))
          rest.have);
    }

-- ---- A lane stays sound when what a living master waited for goes on at its tablets, one after the other: a tablet that closes freezes
-- once nothing of it is staged, and a target whose side segments are stored appends its closing entry.

-- ---- one tablet

module _ (w : World) (master number : ℕ) where
  abbrev own : Master
  own = master_at w master

  abbrev kept : Tablet
  kept = tablet_in w master number

  -- a tablet that closes freezes if nothing of it is staged, and else stays as it is
  pub freezes_as : (P : Master → Type 0) → lives w master ≡ true → kept.handover.role ≡ roles.Closing → P own
      → (MayFreeze (view w) master number → P (tablet_frozen own number kept (as_frozen kept.handover)))
      → P (freezing own number kept (frozen kept.handover kept.handover.term))
  freezes_as P alive closing stays freezes =
      grind (arith, moved_itself, role_frozen, cond_both, is_settled, tablet_frozen, as_frozen, lives, not-true, touches, staged)

  -- a target whose side segments are stored appends its closing entry, and else stays as it is
  closes_as : (P : Master → Type 0) → kept.handover.role ≡ roles.Joining None → P own
      → (is_sealed_stored own kept ≡ true → P (closing_appended own number kept (as_closed (length own.log.entries) kept.handover)))
      → P (cond (is_sealed_stored own kept)
      (closing_entry own number kept (joined kept.handover kept.handover.term (Some (length own.log.entries)))) own)
  closes_as P joining stays closes = grind (arith, moved_itself, role_joined, cond_both, is_sealed_stored, closing_appended, as_closed)

-- one tablet of a master goes on: its lane is sound, its other tablets are as they were, and the log has few more segments
record HasGoneOn (w : World) (master number waited : ℕ) (now : Master) : Type 0 where
  sound : IsSound (with_master w master now)
  others : (other : ℕ) → (other ≡ number → ⊥) → tablet_at now other ≡ tablet_in w master other
  few : length (cut now.log.entries) ≤ length (cut (log_in w master).entries) + waited

module _ (w : World) (master number : ℕ) (alive : lives w master ≡ true) (sound : IsSound w)
    (some : meets (tablet_in w master number).handover.range (tablet_in w master number).handover.range ≡ true)
    (room : length (cut (log_in w master).entries) + side_waits_of (tablet_in w master number) < FIRST_SIDE_SEGMENT) where
  abbrev m : Master
  m = master_at w master

  abbrev t : Tablet
  t = tablet_in w master number

  abbrev Goes : Master → Type 0
  Goes = HasGoneOn w master number (side_waits_of (tablet_in w master number))

  as_it_was : Goes m
  as_it_was = record { sound = sound_unchanged w master sound; others = λ other apart. refl; few = omega arith }

  closes : t.handover.role ≡ roles.Joining None → is_sealed_stored m t ≡ true
      → Goes (closing_appended m number t (as_closed (length m.log.entries) t.handover))
  closes joining stored =
      let waited : 1 ≤ side_waits_of t = rw joining (omega arith) in
      record {
        sound = sound_closing w master number sound
            (record {
              lives = alive;
              joining = joining;
              room = omega (arith, room, waited);
              stored = all_pass (is_side_stored m.log) t.pulling.sealed stored;
              some = some;
            });
        others = tablet_apart m number (with_handover t (as_closed (length m.log.entries) t.handover));
        few = omega (
          arith,
          waited,
          ap length (cut_push [] m.log.entries (joined_entry t)),
          with_bytes_few (cut m.log.entries) (spelled (joined_entry t)),
        );
      }

  -- what it waited for goes on, by its role
  goes_on : (role : Role) → t.handover.role ≡ role → Goes (going_on_in m number t role)
  goes_on roles.Closing is = freezes_as w master number Goes alive is as_it_was (λ may. record {
    sound = sound_frozen w master number sound may;
    others = tablet_apart m number (with_handover t (as_frozen t.handover));
    few = omega arith;
  })
  goes_on (roles.Joining None) is = closes_as w master number Goes is as_it_was (closes is)
  goes_on _ is = as_it_was

-- ---- all of them

-- the tablets go on, one after the other; each of them is as it was until it goes on
all_go_on : (w : World) (master : ℕ) → lives w master ≡ true → IsSound w → (tablets : NumberMap Tablet)
    → All (λ entry. tablet_in w master entry.0 ≡ entry.1) tablets → MayGoOn (log_in w master) tablets
    → IsSound (with_master w master (all_going_on (master_at w master) tablets))
all_go_on w master alive sound [] kept may = sound_unchanged w master sound
all_go_on w master alive sound (entry ∷ tablets) kept may =
    let own : Master = master_at w master in
    let now : Master = going_on_in own entry.0 entry.1 entry.1.handover.role in
    let Kept : World → ℕ × Tablet → Type 0 = λ (u : World) (e : ℕ × Tablet). tablet_in u master e.0 ≡ e.1 in
    let HasSome : ℕ × Tablet → Type 0 = λ (e : ℕ × Tablet). meets e.1.handover.range e.1.handover.range ≡ true in
    let here : master_at (with_master w master now) master ≡ now = master_same w master now master refl in
    let waits = sum_by-cons (λ (e : ℕ × Tablet). side_waits_of e.1) entry tablets in
    let one : HasGoneOn w master entry.0 (side_waits_of entry.1) now =
    subst
    (λ (t : Tablet).
    meets t.handover.range t.handover.range ≡ true → length (cut own.log.entries) + side_waits_of t < FIRST_SIDE_SEGMENT
    → HasGoneOn w master entry.0 (side_waits_of t) (going_on_in own entry.0 t t.handover.role)) (All-head (Kept w) entry tablets kept)
    (λ some room. goes_on w master entry.0 alive sound some room (tablet_in w master entry.0).handover.role refl)
    (All-head HasSome entry tablets may.some) (omega (arith, may.room, waits)) in
    subst IsSound (put_again w master now (λ m. all_going_on m tablets))
    (all_go_on (with_master w master now) master alive one.sound tablets
    (all_in (Kept w) (Kept (with_master w master now)) tablets
    (λ other stands was.
    ap (λ (m : Master). tablet_at m other.0) here
    ∙ one.others other.0 (All-contains (λ (e : ℕ × Tablet). e.0 ≡ entry.0 → ⊥) tablets other (others_apart entry tablets may.order) stands)
    ∙ was) (All-tail (Kept w) entry tablets kept))
    (record {
      order = order_tail entry tablets may.order;
      some = All-tail HasSome entry tablets may.some;
      room = grind (arith, cut, side_waits, here, may.room, one.few);
    }))

-- so do those of a master
pub sound_going_on : (w : World) (master : ℕ) → lives w master ≡ true → (ledger : Ledger) (m : Master) → MayGoOn m.log m.tablets
    → IsSound (with_work w master m ledger) → IsSound (with_work w master (all_going_on m m.tablets) ledger)
sound_going_on w master alive ledger m may sound =
    let u : World = with_work w master m ledger in
    let here : master_at u master ≡ m = master_same w master m master refl in
    subst IsSound (ap (λ (x : World). with_ledger x ledger) (put_again w master m (λ n. all_going_on n m.tablets)))
    (all_go_on u master alive sound m.tablets
    (All-weaker (λ (e : ℕ × Tablet). get m.tablets e.0 ≡ Some e.1) (λ (e : ℕ × Tablet). tablet_in u master e.0 ≡ e.1)
    (λ e found. ap (λ (n : Master). tablet_at n e.0) here ∙ ap (λ (o : Option Tablet). unwrap_or o no_tablet) found) m.tablets
    (each_found m.tablets may.order)) (subst (λ (n : Master). MayGoOn n.log m.tablets) (sym here) may))

-- ---- What a master may send to a client whose call it served: the end of the call, with stamp and place of its record.

-- ---- the place of the first thing that passes a test, if it is known what is before it

module _ {X : Type 0} (p : X → Bool) (x : X) (behind : List X) (passes : p x ≡ true) where
  place_is : (before : List X) → list_any p before ≡ false → position_or_len p (before ++ x ∷ behind) ≡ length before
  place_is [] none = ap (λ (b : Bool). cond (not b) (1 + position_or_len p behind) 0) passes
  place_is (first ∷ before) none =
      let parts = or_parts (p first) (list_any p before) none in
      let later : position_or_len p (before ++ x ∷ behind) ≡ length before = place_is before parts.1 in
      let opened = ap (λ (b : Bool). cond (not b) (1 + position_or_len p (before ++ x ∷ behind)) 0) parts.0 in
      omega arith

  first_place : (before : List X) → list_any p before ≡ false → position p (before ++ x ∷ behind) ≡ Some (length before)
  first_place before none = grind (arith, ltb, place_is, cond-true, lt-ltb, length-append)

-- and what is there
got_there : {X : Type 0} (before : List X) (x : X) (behind : List X) → slice_get (before ++ x ∷ behind) (length before) ≡ Some x
got_there [] x behind = refl
got_there (first ∷ before) x behind = got_there before x behind

-- ---- replies

-- the outcome of a call whose record is found at this place may be reported
pub may_tell_at : (v : View) (master : ℕ) (served : List Served) (one : Served) (place : ℕ) (placed : Placed)
    → place_of v.journal served one.call.client one.call.seq ≡ Some place → slice_get v.journal place ≡ Some placed
    → placed.call.client ≡ one.call.client → placed.call.seq ≡ one.call.seq → placed.outcome ≡ one.outcome
    → MaySend v (filled v.journal served (reply_to master one))
may_tell_at v master served one place placed found got client seq outcome = grind (arith, reply_at, reply_with, may_reply)

module _ (v : View) (master : ℕ) (served : List Served) where
  -- the first record of a mutation is found
  module _ (one : Served) (has : HasFirst v.journal one) where
    passes : is_of_mutation one.call.client one.call.seq has.placed ≡ true
    passes =
        (λ i. is_mutation (has.call_is i).op && (((has.call_is i).client == one.call.client) && ((has.call_is i).seq == one.call.seq)))
        ∙ (λ i. has.mutates i && ((eq-eqb one.call.client one.call.client refl i) && (eq-eqb one.call.seq one.call.seq refl i)))

    got : slice_get v.journal (length has.before) ≡ Some has.placed
    got = ap (λ (l : List Placed). slice_get l (length has.before)) has.parts ∙ got_there has.before has.placed has.behind

    found : was_read served one.call.client one.call.seq ≡ false → place_of v.journal served one.call.client one.call.seq ≡ Some (length has.before)
    found unread = cond-false (was_read served one.call.client one.call.seq) (Some (length v.journal - 1))
        (position (is_of_mutation one.call.client one.call.seq) v.journal) unread
        ∙ ap (position (is_of_mutation one.call.client one.call.seq)) has.parts
        ∙ first_place (is_of_mutation one.call.client one.call.seq) has.placed has.behind passes has.before has.none

    may_tell_end : was_read served one.call.client one.call.seq ≡ false → MaySend v (filled v.journal served (reply_to master one))
    may_tell_end unread = may_tell_at v master served one (length has.before) has.placed (found unread) got
        (ap (λ call. call.client) has.call_is) (ap (λ call. call.seq) has.call_is) has.outcome_is

  -- no read is among mutations
  none_read : All (HasFirst v.journal) served → (client seq : ℕ) → was_read served client seq ≡ false
  none_read have client seq = grind (arith, list_any_none, is_mutation)

  pub may_tell_ends : All (HasFirst v.journal) served → All (MaySend v) (map (filled v.journal served) (map (reply_to master) served))
  may_tell_ends have = All-map (MaySend v) (filled v.journal served) (map (reply_to master) served)
      (All-map (λ message. MaySend v (filled v.journal served message)) (reply_to master) served
      (All-weaker (HasFirst v.journal) (λ one. MaySend v (filled v.journal served (reply_to master one)))
      (λ one has. may_tell_end one has (none_read have one.call.client one.call.seq)) served have))

-- ---- A lane stays sound when a master takes a Stored: the length is noted, what every backup holds by then is applied, the tablets
-- that waited for that go on, and the clients of the calls that end with it are answered. A well formed lane with room has what the master
-- needs for that, and the sender is one of its backups.

-- ---- a master has worked

-- once a master has worked and all that it served has its record, it may answer its clients
module _ (w : World) (master number : ℕ) (worked : Worked) where
  abbrev after : Ledger
  after = with_all_served 0 w.ledger worked.served

  pub sound_worked : worked.marked ≡ [] → worked.sends ≡ map (reply_to number) worked.served → IsWorked w master w.ledger worked
      → IsSound (worked_at w master 0 worked).world
  sound_worked unmarked sends is =
      let u : World = with_work w master worked.master (with_all_served 0 w.ledger worked.served) in
      let same : with_marks after worked.marked ≡ after =
      ap (with_marks after) unmarked ∙ (λ i. record after { marks = append_nil after.marks i }) in
      rw same
      (rw sends
      (sound_all_sent u (map (filled u.ledger.journal worked.served) (map (reply_to number) worked.served)) is.sound
      (may_tell_ends (view u) number worked.served is.have)))

-- ---- a Stored

-- a master to which a backup reported so much, and what every backup holds by then is applied
abbrev told_so : Master → ℕ → Stored → Master
told_so master backup stored = with_known master backup stored.segment stored.length

abbrev held_applied : Master → Worked
held_applied master = apply_entries master (newly_held master)

module _ (w : World) (number master backup : ℕ) (stored : Stored) (sound : IsSound w) (there : IsBackup (log_in w master) backup) (sent : get w.wire.messages number ≡ Some (stored_message backup master stored)) (may : MayGoOn (log_in w master) (master_at w master).tablets) where
  abbrev known : Master
  known = told_so (master_at w master) backup stored

  abbrev applied : Worked
  applied = held_applied (told_so (master_at w master) backup stored)

  -- the length may be noted, and then the entries be applied
  pub all_applied : lives w master ≡ true → IsWorked w master w.ledger (held_applied (told_so (master_at w master) backup stored))
  all_applied alive = sound_all_applied w master alive (newly_held known) known w.ledger (committed known.log)
      (sound_told w master backup stored.segment stored.length sound
      (record { lives = alive; there = there; is_stored = sound.logs.sent number _ sent })) (omega arith) refl

  told_sound : lives w master ≡ true → IsSound (worked_at w master 0 (told_length (master_at w master) backup stored)).world
  told_sound alive =
      let is = all_applied alive in
      let told = all_told (newly_held known) known in
      let same : applied.served ++ [] ≡ applied.served = append_nil applied.served in
      sound_worked w master known.number (told_length (master_at w master) backup stored) (append_nil applied.marked ∙ told.marked)
      (append_nil applied.sends ∙ told.sends ∙ ap (map (reply_to known.number)) (sym same))
      (record {
        sound =
            subst
            (λ (served : List Served).
            IsSound (with_work w master (all_going_on applied.master applied.master.tablets) (with_all_served 0 w.ledger served)))
            (sym same)
            (sound_going_on w master alive (with_all_served 0 w.ledger applied.served) applied.master
            (told.goes_on (record { order = may.order; some = may.some; room = may.room })) is.sound);
        have = subst (λ (served : List Served). All (HasFirst (with_all_served 0 w.ledger served).journal) served) (sym same) is.have;
      })

  pub sound_stored : IsSound (to_master w master (stored_message backup master stored)).world
  sound_stored =
      reached_or_lost w master 0 (stored_taken (master_at w master) backup stored (overreach (log_in w master) stored.segment stored.length))
      sound
      (λ alive.
      by_found (λ beyond. IsSound (worked_at w master 0 (stored_taken (master_at w master) backup stored beyond)).world)
      (overreach (log_in w master) stored.segment stored.length) (λ none. told_sound (ap not alive)) (λ beyond is. stays w master 0 sound))

-- ---- it is delivered

-- side segments are no more than their bytes
pub sides_few : (sides : List (List ℕ)) → All IsFormedSide sides → length sides ≤ sum_by (λ bytes. length bytes) sides
sides_few [] formed = omega arith
sides_few (bytes ∷ sides) formed = omega (
  arith,
  sum_by-cons (λ (b : List ℕ). length b) bytes sides,
  (All-head IsFormedSide bytes sides formed).some,
  sides_few sides (All-tail IsFormedSide bytes sides formed),
)

-- a well formed master whose log has few bytes may let its tablets go on
formed_goes_on : (limits : Limits) (number : ℕ) (master : Master) → IsFormedMaster limits number master → segment_bytes master.log < 2 ^ 30 → MayGoOn master.log master.tablets
formed_goes_on limits number master formed few = record {
  order = formed.tablets_order;
  some = All-weaker (λ (entry : ℕ × Tablet). get master.tablets entry.0 ≡ Some entry.1)
      (λ (entry : ℕ × Tablet). meets entry.1.handover.range entry.1.handover.range ≡ true)
      (λ entry found. meets_itself entry.1.handover.range (formed.tablets entry.0 entry.1 found).range.last.least_is) master.tablets
      (each_found master.tablets formed.tablets_order);
  room = omega (
    arith,
    few,
    formed.waited,
    sides_few master.log.sides formed.sides,
    length-le-bytes (cut master.log.entries) (cut_filled [] master.log.entries (λ k h. absurd (omega arith))),
  );
}

module _ (w : World) (formed : IsWellFormed w) (room : HasRoom w) where
  may_go_on : (master : ℕ) → MayGoOn (log_in w master) (master_at w master).tablets
  may_go_on master = of_master w formed (λ m. MayGoOn m.log m.tablets) master
      (record { order = tt; some = All-nil (λ (entry : ℕ × Tablet). meets entry.1.handover.range entry.1.handover.range ≡ true); room = omega arith })
      (λ m is its.
      formed_goes_on (limits_of w) master m its
      (omega (arith, room.bytes, within_sum_of log_bytes w.masters master m is)))

  pub sound_delivered : (number master backup : ℕ) (stored : Stored) (called : Called) → IsSound w
      → get w.wire.messages number ≡ Some (stored_message backup master stored)
      → IsSound (happened w (events.Deliver number) called).world
  sound_delivered number master backup stored called sound sent =
      let message = formed.wire.each number _ sent in
      let there : IsBackup (log_in w master) backup =
      record { first = message.from.0; last = omega (arith, message.from.1, sound.nodes.known master message.to) } in
      subst (λ (o : Option Message). IsSound (delivered w o called).world) (sym sent)
      (sound_stored w number master backup stored sound there sent (may_go_on master))
