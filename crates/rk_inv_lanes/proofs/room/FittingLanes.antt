-- The masters of a lane fit: in a new lane, after each event that leaves the logs few bytes, and after a client's turn or answer.
use Rattle.std.proofs.Common.{◌≡◌, ◌≤◌, ◌&&◌, ℕ, cond, not, List, [], ◌∷◌, All, length, Option, None, Some, refl, arith, ◌<◌, ◌+◌, fold}
use Rattle.std.proofs.Common.{length-set, ap, ◌∙◌, sum_by, ◌==◌, sym, subst}
use Rattle.rk_inv_base.proofs.Words.{cond_both, All-push, each_insert, EachIn, IsInOrder, NumberMap, Call, Ended, Entry, noted, Overreach}
use Rattle.rk_inv_base.proofs.Words.{Stored, apply_entries, newly_held, noting, stored_taken, Master, tablet_at, with_known, with_tablet}
use Rattle.rk_inv_base.proofs.Words.{has_key, is_absent, Tablet, no_tablet, joined_entry, sum_by-append, sum_by-cons, Held, spelled_all}
use Rattle.rk_inv_base.proofs.Words.{FIRST_SIDE_SEGMENT, found, end, log_bytes, with_side_segment, as_entries, pulled_all, sealing}
use Rattle.rk_inv_base.proofs.Words.{MOST_BYTES, sealed_sides, All-map, All-weaker, meets, Node, completions_from, ends_of, overreach, Body}
use Rattle.rk_inv_base.proofs.Words.{IsFormedMaster, by_member, IsFormedHeld, Limits, told_master, merge, call_of, choice_of, item_of}
use Rattle.rk_inv_base.proofs.Words.{Choice, next_sides, own_material, rebuild_begun, segment_gathered, ⊤, given_up, All-nil, get_or}
use Rattle.rk_inv_base.proofs.Words.{Called, accept, ask, Session, IsWellFormed, limits_of, new_master, IsMaster, HasRoom, world_visited}
use Rattle.rk_inv_base.proofs.Words.{happened, World, bytes_of_logs, master_at, new_world, Event}
use Rattle.rk_types.proofs.NumberMaps.{in_order_changed, in_order_insert}
use Rattle.rk_types.specs.NumberMap.{changed_each}
use Rattle.rk_entry.proofs.Sizes.{spelled_count}
use Rattle.rk_entry.specs.Kinds.{kind_of}
use Rattle.rk_world.specs.Commits.{with_noted}
use Rattle.rk_inv_wellformed.proofs.bytes.EntryBytes.{FitsSegment, mark_few, carried_fits, held_fits, refused_fits}
use Rattle.rk_inv_wellformed.proofs.maps.Maps.{All_pairs, each_changed, each_or}
use Rattle.rk_inv_lanes.specs.room.Fits.{MOST_SEALED, AllFit, IsFitting}
use Rattle.std.proofs.lemmas.List.FromFn.{length-range_with_len}
use Rattle.rk_inv_wellformed.proofs.bytes.PullBytes.{items_bytes}
use Rattle.rk_inv_wellformed.proofs.bytes.Sizes.{side_bytes, below_fits, entries_few}
use Rattle.rk_inv_lanes.proofs.room.SealedFew.{sealed_few}
use Rattle.rk_inv_events.proofs.steps.SealedBehind.{joined_sides}
use Rattle.rk_world.specs.Limits.{IsClient, IsFormedBody, IsFormedEnd, IsFormedMessage, IsThere}
use Rattle.rk_world.specs.Premises.{IsLawfulCall}
use Rattle.rk_inv_wellformed.proofs.maps.Rising.{rising_within}
use Rattle.rk_inv_wellformed.proofs.masters.Handovers.{one_stood}
use Rattle.rk_inv_wellformed.proofs.masters.Rebuilding.{begins, few_ends, formed_gathered, merge_formed}
use Rattle.rk_inv_wellformed.proofs.masters.Requests.{written_lawful}
use Rattle.rk_inv_wellformed.proofs.masters.Sealing.{first_holds}
use Rattle.rk_inv_wellformed.proofs.masters.Work.{AreLimits}
use Rattle.rk_inv_lanes.proofs.masters.Changes.{Lasts, MayLeave, all_going_on_has}
use Rattle.rk_inv_lanes.proofs.masters.Steps.{Makes, MayMerge, told_has, split_has, turn_has}
use Rattle.rk_inv_events.proofs.stored.StoredTaken.{AnyNext, Passes, entries_pass}
use Rattle.rk_inv_wellformed.proofs.bytes.ByteEvents.{master_below}
use Rattle.rk_inv_wellformed.proofs.lanes.Worlds.{formed_limits, master_of}
use Rattle.rk_inv_base.proofs.views.Fresh.{each_fresh}
use Rattle.rk_inv_events.proofs.Below.{Part, accept_keeps, ask_keeps}
use Rattle.rk_inv_lanes.proofs.lanes.Masters.{IsKeptByEach, each_kept}
use Rattle.rk_inv_events.proofs.events.Coordinating.{of_master}

-- A master's entries fit, and its tablets have sealed few side segments: it stays so at each message that the master takes, if it has few
-- bytes before and then, at its turn, and when a tablet is split.

-- ---- what fits

-- the entry that closes the role of a target that sealed few side segments
joined_fits : (tablet : Tablet) → length tablet.pulling.sealed ≤ MOST_SEALED → FitsSegment (joined_entry tablet)
joined_fits tablet few = omega (arith, few, spelled_count (joined_entry tablet), mark_few (kind_of (joined_entry tablet)))

-- a tablet has sealed few side segments, and has a list of items for each of its four workers
pub record AreFew (sealed : List ℕ) (sides : List (List Held)) : Type 0 where
  pub few : length sealed ≤ MOST_SEALED
  pub workers : length sides ≡ 4

abbrev IsFewAt : ℕ → Tablet → Type 0
IsFewAt number tablet = AreFew tablet.pulling.sealed tablet.pulling.sides

-- entries that fit, and tablets in order that have sealed few side segments
pub record AreFitting (list : List Entry) (tablets : NumberMap Tablet) : Type 0 where
  pub each : All FitsSegment list
  pub order : IsInOrder tablets
  pub sealed : EachIn (λ number tablet. AreFew tablet.pulling.sealed tablet.pulling.sides) tablets

-- a master with such entries and tablets
abbrev pub IsFit : Master → Type 0
IsFit master = AreFitting master.log.entries master.tablets

-- ---- changes

none_few : AreFew [] ([] ∷ [] ∷ [] ∷ [] ∷ [])
none_few = record { few = omega arith; workers = refl }

-- a tablet is put
pub put_fit : (master : Master) (number : ℕ) (tablet : Tablet) → AreFew tablet.pulling.sealed tablet.pulling.sides → IsFit master
    → IsFit (with_tablet master number tablet)
put_fit master number tablet few fit = record {
  each = fit.each;
  order = in_order_insert master.tablets number tablet fit.order;
  sealed = each_insert IsFewAt master.tablets number tablet fit.sealed few;
}

-- the tablet under a number has sealed few side segments, also a tablet that the master does not know
pub few_at : (master : Master) (number : ℕ) → IsFit master → IsFewAt number (tablet_at master number)
few_at master number fit = each_or IsFewAt no_tablet master.tablets number none_few fit.sealed

-- each tablet changes
changed_fit : (change : ℕ → Tablet → Tablet) → ((number : ℕ) (tablet : Tablet) → IsFewAt number tablet → IsFewAt number (change number tablet))
    → (master : Master) → IsFit master → AreFitting master.log.entries (changed_each change master.tablets)
changed_fit change gives master fit = record {
  each = fit.each;
  order = in_order_changed change master.tablets fit.order;
  sealed = each_changed IsFewAt IsFewAt change gives master.tablets fit.sealed;
}

-- so a master that fits does so when entries that fit are appended and such tablets are put
pub fit_lasts : Lasts IsFit (λ item. ⊤) FitsSegment AreFew
fit_lasts = record {
  appended = λ master entry fits fit. record {
    each = All-push FitsSegment master.log.entries entry fit.each fits;
    order = fit.order;
    sealed = fit.sealed;
  };
  sealed = λ master items fit. fit;
  put = λ master item fits fit. fit;
  dropped = λ master range fit. fit;
  tablet = put_fit;
  given_up = λ master id range fit. changed_fit
      (λ number tablet. cond (not (number == id) && meets tablet.handover.range range) (given_up tablet) tablet)
      (λ number tablet few. cond_both (not (number == id) && meets tablet.handover.range range) (given_up tablet) tablet (IsFewAt number)
      (λ is. none_few) (λ other. few)) master fit;
  few = few_at;
  all = λ master fit. All_pairs IsFewAt master.tablets fit.order fit.sealed;
  none = none_few;
  replayed = λ sealed sides worker items few. record { few = few.few; workers = length-set sides worker items ∙ few.workers };
  closes = λ tablet few. joined_fits tablet few.few;
}

-- ---- what a backup reports

-- a tablet that notes the end of a call keeps what it sealed
noted_fit : (master : Master) (call : Call) (end : Ended) → IsFit master → IsFit (with_noted master call end)
noted_fit master call end fit = changed_fit (λ number tablet. noting call end tablet)
    (λ number tablet few.
    cond_both (not (is_absent tablet.handover.role) && has_key tablet.handover.range call.table call.key)
    (record tablet { completions = noted tablet.completions end }) tablet (IsFewAt number) (λ notes. few) (λ other. few)) master fit

-- entries are applied, one after the other
applied_fit : Passes AnyNext (λ master worked. IsFit master → IsFit worked.master)
applied_fit = record {
  stays = λ master fit. fit;
  silent = λ master entry any fit. fit;
  ends = λ master entry call end any is fit. noted_fit master call end fit;
  goes_on = λ master first later one two fit. two (one fit);
}

-- a master that takes what a backup reports
stored_fit : (master : Master) (backup : ℕ) (stored : Stored) (over : Option Overreach) → IsFit master
    → IsFit (stored_taken master backup stored over).master
stored_fit master backup stored (Some beyond) fit = fit
stored_fit master backup stored None fit =
    let known = with_known master backup stored.segment stored.length in
    all_going_on_has fit_lasts (apply_entries known (newly_held known)).master
    (entries_pass applied_fit (newly_held known) known (λ place none inside. tt) fit)

-- ---- what is sealed

-- the side segments of a log have these bytes more
sides_sum : (pieces : List (List Held)) (master : Master)
    → sum_by (λ (b : List ℕ). length b) (fold with_side_segment master pieces).log.sides
    ≡ sum_by (λ (b : List ℕ). length b) master.log.sides + sum_by items_bytes pieces
sides_sum [] master = omega arith
sides_sum (items ∷ pieces) master =
    omega (
      arith,
      sides_sum pieces (with_side_segment master items),
      sum_by-append (λ (b : List ℕ). length b) master.log.sides (spelled_all (as_entries items) ∷ []),
      sum_by-cons (λ (b : List ℕ). length b) (spelled_all (as_entries items)) [],
      sum_by-cons items_bytes items pieces,
    )

-- those that a target makes have no more bytes than the master then, so they are few
seals_few : (number : ℕ) (master : Master) → IsFit master → log_bytes (pulled_all master number) < MOST_BYTES
    → length (next_sides master (length (sealed_sides (tablet_at master number).pulling.sides))) ≤ MOST_SEALED
seals_few number master fit below =
    let sides = (tablet_at master number).pulling.sides in
    let sealed = sealing master number (tablet_at master number) in
    omega (
      arith,
      below,
      sides_sum (sealed_sides sides) master,
      ap (λ (sides : List (List ℕ)). sum_by (λ (b : List ℕ). length b) sides)
          (joined_sides sealed number (tablet_at sealed number) (tablet_at sealed number).pulling.sealed),
      side_bytes (pulled_all master number),
      sealed_few sides,
      (few_at master number fit).workers,
      length-range_with_len (FIRST_SIDE_SEGMENT + length master.log.sides) (length (sealed_sides sides)),
    )

-- ---- messages

-- a call that is chosen for so leaves an entry that fits, or none
leaves_fit : (master : Master) {call : Call} (choice : Choice) → IsLawfulCall call → MayLeave FitsSegment master call choice
leaves_fit master {call} choice lawful = grind (arith, held_fits, item_of, tablet_at, found, refused_fits, written_lawful)

module _ (limits : Limits) (number : ℕ) (master : Master) (are : AreLimits limits) (formed : IsFormedMaster limits number master) (fit : IsFit master) (below : log_bytes master < MOST_BYTES) where
  -- what a rebuild merges fits: its copies, and the entry that closes it
  merge_fits : (now : Master) (id : ℕ) → 1 ≤ limits.top → IsFormedMaster limits number now → MayMerge FitsSegment now id
  merge_fits now id some formed_now =
      let it = tablet_at now id in
      let own = own_material now it in
      let merged = merge own (by_member it.gather own) in
      let is = merge_formed limits number now id some formed_now in (
        All-map FitsSegment Entry.Held merged.copies
            (All-weaker (IsFormedHeld limits) (λ held. FitsSegment (Entry.Held held))
            (λ held it. held_fits held it.lawful.key it.lawful.value) merged.copies is.copies),
        carried_fits
            (record { range = it.handover.range; term = it.handover.term; floor = merged.floor; ends = ends_of (completions_from [] merged.ends) })
            (few_ends limits merged.ends are is.told),
      )

  makes : (sender : Node) (body : Body) → IsFormedBody limits sender body → log_bytes (told_master master sender body).master < MOST_BYTES
      → Makes IsFit FitsSegment AreFew master sender body
  makes (Node.Client client) (Body.Request request) says few =
      leaves_fit master (choice_of master (call_of client request)) says.call
  -- the ends that come with a grant are of different clients, so they are few
  makes Node.Coordinator (Body.Grant grant) says few = λ handover. carried_fits
      (record { range = handover.range; term = handover.term; floor = grant.floor; ends = grant.ends })
      (omega (
        arith,
        are.clients,
        rising_within grant.ends limits.clients says.told.rising
            (All-weaker (IsFormedEnd limits) (λ end. IsClient limits end.client) (λ end formed. formed.client) grant.ends says.told.each),
      ))
  makes Node.Coordinator (Body.Rebuild rebuild) says few =
      merge_fits (rebuild_begun master rebuild) rebuild.tenure.tablet (one_stood limits rebuild.tenure.term says.tenure.term)
      (begins limits number master rebuild says (below_fits (length master.log.entries) (log_bytes master) (entries_few master) below) formed)
  makes (Node.Master other) (Body.Pulled pulled) says few = λ takes last fits. record {
    few = seals_few pulled.tenure.tablet _ fits (rw last at (rw takes at few));
    workers = refl;
  }
  makes (Node.Backup backup) (Body.Copy copy) says few = λ awaited.
      merge_fits (segment_gathered master copy) copy.tenure.tablet (one_stood limits copy.tenure.term says.tenure.term)
      (formed_gathered limits number master copy says (first_holds _ _ awaited) formed)
  makes _ _ says few = tt

  -- a master that takes a message, and has few bytes before it and then
  pub told_fit : (sender : Node) (body : Body) → IsFormedBody limits sender body → log_bytes (told_master master sender body).master < MOST_BYTES
      → IsFit (told_master master sender body).master
  told_fit sender body says few = told_has fit_lasts master sender body (makes sender body says few) (λ call. fit)
      (λ backup stored. stored_fit master backup stored (overreach master.log stored.segment stored.length) fit) (λ place none inside. tt) fit

-- ---- events

module _ {w : World} (formed : IsWellFormed w) (room : HasRoom w) (all : AllFit w) where
  fit_at : (number : ℕ) → IsFit (master_at w number)
  fit_at number = of_master w formed (λ m. IsFitting m → IsFit m) number
      (λ fits. record { each = fits.entries; order = tt; sealed = λ id tablet is. absurd (cc is) })
      (λ m is its fits. record {
        each = fits.entries;
        order = its.tablets_order;
        sealed = λ id tablet at. record { few = fits.sealed id tablet at; workers = (its.tablets id tablet at).pulled.workers };
      })
      (all number)

  -- a master that fits has entries that fit, and its tablets have sealed few side segments
  fitting_of : (master : Master) → IsFit master → IsFitting master
  fitting_of master fit = record { entries = fit.each; sealed = λ id tablet at. (fit.sealed id tablet at).few }

  -- a master that has few bytes fits, once it has taken a message too
  kept : (event : Event) → IsKeptByEach (λ number master. log_bytes master < MOST_BYTES → IsFitting master) w event
  kept event = record {
    now = λ number few. all number;
    steps = λ number master message is found to lives few.
        let told : IsFormedMessage (limits_of w) message = formed.wire.each number message found in
        let there : IsMaster w.coordinator.masters master = subst (λ to. IsThere (limits_of w) to) to told.to in
        fitting_of _ (told_fit (limits_of w) master (master_at w master) (formed_limits w formed room) (master_of w master there formed)
        (fit_at master) (omega (arith, room.bytes, master_below w master)) message.from message.body told.says few);
    turns = λ master few. fitting_of _ (turn_has fit_lasts (master_at w master) (fit_at master));
    adds = λ master tablet range few.
        fitting_of _ (put_fit (master_at w master) tablet _ (few_at (master_at w master) tablet (fit_at master)) (fit_at master));
    splits = λ master tablet at new term few. fitting_of _ (split_has fit_lasts (master_at w master) tablet at new term (fit_at master));
  }

  -- after each event that leaves the logs few bytes the masters fit
  pub fits_event : (event : Event) (called : Called) → bytes_of_logs (happened w event called).world < MOST_BYTES
      → AllFit (happened w event called).world
  fits_event event called below number =
      each_kept (kept event) called number (omega (arith, below, master_below (happened w event called).world number))

-- ---- clients and new lanes

-- the masters of a lane fit, whatever its backups store
abbrev MastersFit : Part
MastersFit masters count backups = (master : ℕ) → IsFitting (get_or (new_master master []) masters master)

-- clients change no master
pub fits_asked : (w : World) (session : Session) → AllFit w → AllFit (world_visited w (ask w session))
fits_asked w session all = ask_keeps MastersFit w all session

pub fits_accepted : (w : World) (number : ℕ) (session : Session) → AllFit w → AllFit (world_visited w (accept w number session))
fits_accepted w number session all = accept_keeps MastersFit w all number session

-- new masters have no entries and no tablets
pub fits_new : (lane masters backups : ℕ) → AllFit (new_world lane masters backups)
fits_new lane masters backups master = subst IsFitting (sym (each_fresh lane masters backups master).is_new)
    (record { entries = All-nil _; sealed = λ number tablet is. absurd (cc is) })
