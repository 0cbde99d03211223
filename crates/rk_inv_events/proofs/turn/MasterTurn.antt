-- A sound and well formed lane stays sound when a master that lives takes its turn: it asks for batches, and sends messages alone, each of
-- which may be sent.
use Rattle.std.proofs.Common.{arith, All, List, None, Option, Some, [], ap, append-nil, false, length, ltb-true, map, nat_lt, not, refl}
use Rattle.std.proofs.Common.{subst, sym, true, unwrap_or, ℕ, ◌++◌, ◌<◌, ◌∙◌, ◌∷◌, ◌≡◌}
use Rattle.rk_message.specs.declared.message.Body.TheVariants as bodies
use Rattle.rk_transfer.specs.declared.role.Role.TheVariants as roles
use Rattle.rk_types.specs.declared.node.Node.TheVariants as nodes
use Rattle.rk_world.specs.MasterTurn.{batch_asked, joined_duty, pull_of, rebuilt_duty, receiving_duty, tenure_at, want_of}
use Rattle.rk_world.specs.Worked.{then_works}
use Rattle.rk_inv_base.proofs.Words.{All-append, All-cons, All-head, All-map, All-nil, All-tail, All-weaker, Body, FIRST_SIDE_SEGMENT}
use Rattle.rk_inv_base.proofs.Words.{IsInOrder, IsSound, IsWellFormed, Ledger, Master, MaySend, Message, Node, NumberMap, Pulling, Role}
use Rattle.rk_inv_base.proofs.Words.{Tablet, View, Worked, World, appends, changed, cond_both, cut, duties, filled, from_master, get}
use Rattle.rk_inv_base.proofs.Words.{get_other, has_crashed, ledger_after, log_in, master_at, master_turn, next_reading, no_tablet, put2}
use Rattle.rk_inv_base.proofs.Words.{reading_duty, sending, tablet_at, tablet_duty, tablet_in, turned, view, with_all_sent, with_all_served}
use Rattle.rk_inv_base.proofs.Words.{with_ledger, with_marks, with_master, with_outstanding, worked_at}
use Rattle.rk_inv_base.proofs.Headlines.{sound_asked_for}
use Rattle.rk_inv_events.proofs.Words.{all_in, asking_batch, batch_asked_in, by_found, either_way, order_tail, view_pulled}
use Rattle.rk_inv_events.proofs.events.Sending.{MaySendFilled, sound_all_sent}
use Rattle.rk_inv_events.proofs.events.Working.{put_again, sound_unchanged, view_unchanged}
use Rattle.rk_inv_events.proofs.events.Appends.{each_append, may_append}
use Rattle.rk_inv_events.proofs.events.Duties.{may_pull, may_read_segment, may_tell_joined, may_tell_rebuilt, may_want}
use Rattle.rk_inv_events.proofs.events.Pairs.{each_found, others_apart}
use Rattle.rk_inv_events.proofs.events.Coordinating.{tablets_order}

-- ---- Work of a master that sends messages alone: it serves no call and marks no piece, and none of its messages is a reply. A sound lane
-- stays sound when a master does such work. So it does when a master asks for batches on its turn, which changes what is pulled alone.

-- work that sends messages alone
pub record OnlySends (v : View) (worked : Worked) : Type 0 where
  pub sends : All (MaySendFilled v) worked.sends
  pub served : worked.served ≡ []
  pub marked : worked.marked ≡ []

-- nothing is sent
pub sends_none : (v : View) (master : Master) → OnlySends v (changed master)
sends_none v master = record { sends = All-nil (MaySendFilled v); served = refl; marked = refl }

-- a message is sent
pub sends_one : (v : View) (master : Master) (message : Message) → MaySendFilled v message → OnlySends v (sending master message)
sends_one v master message may =
    record { sends = All-cons (MaySendFilled v) message [] may (All-nil (MaySendFilled v)); served = refl; marked = refl }

-- so does work that goes on after such work
pub sends_then : (v : View) (first : Worked) (next : Master → Worked) → OnlySends v first → OnlySends v (next first.master) → OnlySends v (then_works first next)
sends_then v first next before later =
    let after = next first.master in
    record {
      sends = All-append (MaySendFilled v) first.sends after.sends before.sends later.sends;
      served = (λ i. before.served i ++ later.served i);
      marked = (λ i. before.marked i ++ later.marked i);
    }

module _ (w : World) (master seen : ℕ) (worked : Worked) (only : OnlySends (view (with_master w master worked.master)) worked) where
  -- the ledger stays as it is
  ledger_is : ledger_after w.ledger master seen worked ≡ w.ledger
  ledger_is = grind (arith, with_marks, with_all_served, append-nil)

  -- a lane that is sound with the master after such work is sound once its messages are sent
  pub sound_sends : IsSound (with_master w master worked.master) → IsSound (worked_at w master seen worked).world
  sound_sends sound =
      let now = with_master w master worked.master in
      let ledger = ledger_after w.ledger master seen worked in
      let sends : List Message = map (filled ledger.journal worked.served) worked.sends in
      subst (λ (l : Ledger). IsSound (with_all_sent (with_ledger now l) sends)) (sym ledger_is)
      (sound_all_sent now sends sound
      (All-map (MaySend (view now)) (filled ledger.journal worked.served) worked.sends
      (All-weaker (MaySendFilled (view now)) (λ message. MaySend (view now) (filled ledger.journal worked.served message))
      (λ message may. may ledger.journal worked.served) worked.sends only.sends)))

-- ---- what is pulled

-- a view in which this is pulled
abbrev pub with_pullings : View → (ℕ → ℕ → Pulling) → View
with_pullings v pullings = record v { pullings = pullings }

-- what may be sent does not depend on what is pulled
pub may_send_pulling : (v : View) (pullings : ℕ → ℕ → Pulling) (message : Message) → MaySend v message → MaySend (with_pullings v pullings) message
may_send_pulling v pullings message may = assumption may

-- a lane is sound with this master, which differs from the master that it has in what it pulls alone
pub record IsSoundPulling (w : World) (master : ℕ) (now : Master) : Type 0 where
  pub sound : IsSound (with_master w master now)
  pub pullings : ℕ → ℕ → Pulling
  pub view_is : view (with_master w master now) ≡ with_pullings (view w) pullings

module _ (w : World) (master : ℕ) (now : Master) (number : ℕ) (tablet : Tablet) (its : tablet_at now number ≡ tablet) (so_far : IsSoundPulling w master now) where
  -- the lane with the master so far
  abbrev before : World
  before = with_master w master now

  world_is : batch_asked_in before master number ≡ with_master w master (batch_asked now number tablet)
  world_is = put_again w master now (λ m. batch_asked m number (tablet_at m number))
      ∙ ap (λ (t : Tablet). with_master w master (batch_asked now number t)) its

  -- a batch of the wanted hashes is asked for
  pub sound_batch_asked : IsSoundPulling w master (batch_asked now number tablet)
  sound_batch_asked =
      let asked : Pulling = asking_batch ((view before).pullings master number) in
      let pullings : ℕ → ℕ → Pulling = put2 (view before).pullings master number asked in
      record {
        sound = subst IsSound world_is (sound_asked_for before master number so_far.sound);
        pullings = pullings;
        view_is =
            ap view (sym world_is) ∙ view_pulled before master number asked ∙ ap (λ (v : View). with_pullings v pullings) so_far.view_is;
      }

-- ---- A sound and well formed lane stays sound when a master that lives takes its turn: it asks for batches, and sends messages alone,
-- each of which may be sent.

-- ---- what it asks for changes what is pulled alone

-- a duty leaves the master as it is, or asks for a batch
module _ (P : Master → Type 0) (now : Master) (number : ℕ) (tablet : Tablet) (stays : P now) where
  pub duty_by : (role : Role) → P (batch_asked now number tablet) → P (tablet_duty now number tablet role).master
  duty_by role asks = grind (arith, either_way, nat_lt, by_found, reading_duty, next_reading)

-- a master has a tablet under a number
abbrev pub HasTablet : Master → ℕ × Tablet → Type 0
HasTablet master pair = get master.tablets pair.0 ≡ Some pair.1

-- so it is the tablet that the master finds there
pub finds : (master : Master) (pair : ℕ × Tablet) → HasTablet master pair → tablet_at master pair.0 ≡ pair.1
finds master pair has = ap (λ (found : Option Tablet). unwrap_or found no_tablet) has

-- a batch that is asked for leaves the later tablets as they are
later_stay : (now : Master) (pair : ℕ × Tablet) (others : NumberMap Tablet) → IsInOrder (pair ∷ others) → All (HasTablet now) others
    → All (HasTablet (batch_asked now pair.0 pair.1)) others
later_stay now pair others order has = grind (arith, all_in, get_other, with_outstanding, others_apart)

-- a lane is sound with the master that these duties leave
pub sound_duties : (w : World) (master : ℕ) (tablets : NumberMap Tablet) (now : Master) → IsInOrder tablets → All (HasTablet now) tablets
    → IsSoundPulling w master now → IsSoundPulling w master (duties now tablets).master
sound_duties w master [] now order has so_far = so_far
sound_duties w master ((number, tablet) ∷ others) now order has so_far =
    let later = All-tail (HasTablet now) (number, tablet) others has in
    let its = finds now (number, tablet) (All-head (HasTablet now) (number, tablet) others has) in
    sound_duties w master others (tablet_duty now number tablet tablet.handover.role).master (order_tail (number, tablet) others order)
    (duty_by (λ (m : Master). All (HasTablet m) others) now number tablet later tablet.handover.role
    (later_stay now (number, tablet) others order later))
    (duty_by (IsSoundPulling w master) now number tablet so_far tablet.handover.role
    (sound_batch_asked w master now number tablet its so_far))

-- ---- its duties send messages alone

-- a master that has this number, and has applied so many entries
pub record IsAsBefore (number applied : ℕ) (now : Master) : Type 0 where
  pub number_is : now.number ≡ number
  pub applied_is : now.applied ≡ applied

module _ (w : World) (sound : IsSound w) (master : ℕ) (lives : (view w).live master ≡ true) (now : Master) (same : IsAsBefore master (master_at w master).applied now) where
  -- a message from it
  from_own : (to : Node) (body : Body) → MaySend (view w) (record { from = nodes.Master master; to = to; body = body }) → MaySend (view w) (from_master now to body)
  from_own to body = subst (λ (n : ℕ). MaySend (view w) (record { from = nodes.Master n; to = to; body = body })) (sym same.number_is)

  module _ (number : ℕ) where
    -- what it has of the tablet
    abbrev tablet : Tablet
    tablet = tablet_in w master number

    -- an entry that it has applied was applied before
    is_applied : (entry : ℕ) → nat_lt entry now.applied ≡ true → entry < (master_at w master).applied
    is_applied entry applied = rw same.applied_is at (ltb-true entry now.applied applied)

    wants : (hashes : List ℕ) → tablet.handover.role ≡ roles.Receiving
        → All (MaySendFilled (view w)) (want_of now number (with_outstanding tablet) hashes)
    wants [] is = All-nil (MaySendFilled (view w))
    wants (hash ∷ more) is =
        All-cons (MaySendFilled (view w)) _ []
        (λ journal served. from_own _ _ (may_want (view w) sound master number lives is (hash ∷ more)))
        (All-nil (MaySendFilled (view w)))

    -- a target asks for what it lacks
    receiving_sends : tablet.handover.role ≡ roles.Receiving → OnlySends (view w) (receiving_duty now number tablet)
    receiving_sends is =
        let asks = with_outstanding tablet in
        record {
          sends =
              All-append (MaySendFilled (view w)) (want_of now number asks asks.pulling.hashes.outstanding) (pull_of now number asks ∷ [])
              (wants asks.pulling.hashes.outstanding is)
              (All-cons (MaySendFilled (view w)) (pull_of now number asks) []
              (λ journal served. from_own _ _ (may_pull (view w) sound master number lives is asks.pulling.token))
              (All-nil (MaySendFilled (view w))));
          served = refl;
          marked = refl;
        }

    -- a target that has joined says so
    joined_sends : (entry : ℕ) → tablet.handover.role ≡ roles.Joining (Some entry) → OnlySends (view w) (joined_duty now number tablet entry)
    joined_sends entry is =
        cond_both (nat_lt entry now.applied) (sending now (from_master now nodes.Coordinator (bodies.Joined (tenure_at number tablet)))) (changed now) (OnlySends (view w))
        (λ applied.
        sends_one (view w) now _
        (λ journal served. from_own _ _ (may_tell_joined (view w) sound master number lives entry is (is_applied entry applied))))
        (λ waits. sends_none (view w) now)

    -- a master that has rebuilt says so
    rebuilt_sends : (from entry : ℕ) → tablet.handover.role ≡ roles.Rebuilding from (Some entry) → OnlySends (view w) (rebuilt_duty now number tablet from entry)
    rebuilt_sends from entry is =
        cond_both (nat_lt entry now.applied) (sending now (from_master now nodes.Coordinator (bodies.Rebuilt (record { tenure = tenure_at number tablet; place = from; ends = tablet.merged_ends })))) (changed now) (OnlySends (view w))
        (λ applied.
        sends_one (view w) now _
        (λ journal served. from_own _ _ (may_tell_rebuilt (view w) sound master number lives from entry is (is_applied entry applied))))
        (λ waits. sends_none (view w) now)

    -- a rebuilding master reads on
    reading_sends : (from : ℕ) → tablet.handover.role ≡ roles.Rebuilding from None
        → OnlySends (view w) (reading_duty now number tablet (next_reading tablet.gather))
    reading_sends from is = by_found (λ reading. OnlySends (view w) (reading_duty now number tablet reading)) (next_reading tablet.gather)
        (λ none. sends_none (view w) now)
        (λ reading next.
        sends_one (view w) now _ (λ journal served. from_own _ _ (may_read_segment (view w) sound master number lives from is reading next)))

    -- what it does, by its role
    duty_sends : (role : Role) → tablet.handover.role ≡ role → OnlySends (view w) (tablet_duty now number tablet role)
    duty_sends roles.Receiving is = receiving_sends is
    duty_sends (roles.Joining (Some entry)) is = joined_sends entry is
    duty_sends (roles.Rebuilding from None) is = reading_sends from is
    duty_sends (roles.Rebuilding from (Some entry)) is = rebuilt_sends from entry is
    duty_sends _ is = sends_none (view w) now

-- the duties for tablets that the master has send messages alone
module _ (w : World) (sound : IsSound w) (master : ℕ) (lives : (view w).live master ≡ true) where
  abbrev Same : Master → Type 0
  Same = IsAsBefore master (master_at w master).applied

  pub duties_send : (tablets : NumberMap Tablet) (now : Master) → Same now → All (HasTablet (master_at w master)) tablets → OnlySends (view w) (duties now tablets)
  duties_send [] now same has = sends_none (view w) now
  duties_send ((number, tablet) ∷ others) now same has =
      let its = finds (master_at w master) (number, tablet) (All-head (HasTablet (master_at w master)) (number, tablet) others has) in
      let later = All-tail (HasTablet (master_at w master)) (number, tablet) others has in
      sends_then (view w) (tablet_duty now number tablet tablet.handover.role) (λ next. duties next others)
      (rw its at (duty_sends w sound master lives now same number (tablet_in w master number).handover.role refl))
      (duties_send others (tablet_duty now number tablet tablet.handover.role).master
      (duty_by Same now number tablet same tablet.handover.role (record { number_is = same.number_is; applied_is = same.applied_is }))
      later)

-- ---- what the backups lack

-- what sends messages alone does so also if other things are pulled
sends_pulling : (v now : View) (worked : Worked) → ((message : Message) → MaySend v message → MaySend now message) → OnlySends v worked → OnlySends now worked
sends_pulling v now worked still only = search (filled, worked.sends, only.sends, only.served, only.marked)

module _ (w : World) (master : ℕ) (sound : IsSound w) (formed : IsWellFormed w) (lives : has_crashed w master ≡ false) (few : length (cut (log_in w master).entries) < FIRST_SIDE_SEGMENT) where
  abbrev own : Master
  own = master_at w master

  found : All (HasTablet own) own.tablets
  found = each_found own.tablets (tablets_order w formed master)

  -- the turn sends messages alone
  turn_sends : OnlySends (view w) (master_turn own)
  turn_sends =
      sends_then (view w) (record { master = own; sends = appends own; served = []; marked = [] }) (λ next. duties next next.tablets)
      (record {
        sends = each_append w master sound few (MaySendFilled (view w)) (λ backup append of_log journal served.
            rw (sound.nodes.numbered master) (may_append (view w) master backup append of_log));
        served = refl;
        marked = refl;
      })
      (duties_send w sound master (ap not lives) own.tablets own (record { number_is = sound.nodes.numbered master; applied_is = refl })
      found)

  pub sound_master_turn : IsSound (turned w (nodes.Master master)).world
  sound_master_turn =
      let after =
      sound_duties w master own.tablets own (tablets_order w formed master) found
      (record { sound = sound_unchanged w master sound; pullings = (view w).pullings; view_is = view_unchanged w master }) in
      sound_sends w master 0 (master_turn own)
      (sends_pulling (view w) _ (master_turn own) (λ message may. rw after.view_is (may_send_pulling (view w) after.pullings message may))
      turn_sends) after.sound
