-- What nodes send that refuses no call: all but what a master answers to a Request.
use Rattle.std.proofs.Common.{arith, All, Bool, List, None, Option, Some, [], cond, flat_map, length, map, nat_lt, ℕ, ◌++◌, ◌∷◌}
use Rattle.rk_inv_base.proofs.Words.{All-append, All-cons, All-map, All-nil, All-weaker, Body, Called, Coordinator, Master, Message, Node}
use Rattle.rk_inv_base.proofs.Words.{NumberMap, Overreach, Phase, Placed, Role, Row, Served, Stored, Tablet, Worked, all_going_on}
use Rattle.rk_inv_base.proofs.Words.{append_of, appends, apply_entries, backup_step, changed, coordinator_turn, duties, filled, from_master}
use Rattle.rk_inv_base.proofs.Words.{master_turn, newly_held, next_reading, overreach, own_to, pending, place_of, range_with_len}
use Rattle.rk_inv_base.proofs.Words.{release_to, row_duty, sending, stored_taken, tablet_duty, told_coordinator, told_master, with_known}
use Rattle.rk_inv_base.proofs.Words.{with_outstanding, ⊤}
use Rattle.rk_world.specs.Backup.{master_message}
use Rattle.rk_world.specs.Replies.{filled_body}
use Rattle.rk_world.specs.Worked.{then_works}
use Rattle.rk_inv_lanes.specs.late.Refused.{IsNoRefusal}
use Rattle.rk_inv_lanes.proofs.lanes.Reports.{told_made}
use Rattle.rk_inv_lanes.proofs.late.Answered.{at_same}
use Rattle.rk_inv_lanes.proofs.masters.Sends.{IsSaid, copy_sends, order_sends, peer_sends}
use Rattle.rk_inv_events.proofs.stored.StoredTaken.{AnyNext, Passes, entries_pass}
use Rattle.rk_inv_wellformed.proofs.maps.Lists.{by_found, either_way}

-- a message that refuses no call
abbrev pub IsPlain : Message → Type 0
IsPlain message = IsNoRefusal message.body

-- messages that refuse no call
pub record RefuseNone (sends : List Message) : Type 0 where
  pub each : All IsPlain sends

none : RefuseNone []
none = record { each = All-nil IsPlain }

pub one : (message : Message) → IsPlain message → RefuseNone (message ∷ [])
one message plain = record { each = All-cons IsPlain message [] plain (All-nil IsPlain) }

joined : {first later : List Message} → RefuseNone first → RefuseNone later → RefuseNone (first ++ later)
joined {first} {later} its others = record { each = All-append IsPlain first later its.each others.each }

of_each : {X : Type 0} (make : X → List Message) (things : List X) → ((x : X) → RefuseNone (make x)) → RefuseNone (flat_map make things)
of_each make [] each = none
of_each make (thing ∷ things) each = joined (each thing) (of_each make things each)

-- what was worked sends such messages alone
pub record WorksPlainly (worked : Worked) : Type 0 where
  pub sends : RefuseNone worked.sends

both : (first : Worked) (next : Master → Worked) → WorksPlainly first → WorksPlainly (next first.master) → WorksPlainly (then_works first next)
both first next its later = record { sends = joined its.sends later.sends }

quiet : (master : Master) → WorksPlainly (changed master)
quiet master = record { sends = none }

says : (master : Master) (message : Message) → IsPlain message → WorksPlainly (sending master message)
says master message plain = record { sends = one message plain }

at_most : (b : Bool) (master : Master) (message : Message) → IsPlain message → WorksPlainly (cond b (sending master message) (changed master))
at_most b master message plain = either_way WorksPlainly b (says master message plain) (quiet master)

-- ---- what a master takes

-- each message that a master sends when it takes another one, other than a Request and a Stored, refuses no call
plainly : IsSaid (λ body sends. RefuseNone sends)
plainly = grind (arith, none, one)

applies : Passes AnyNext (λ master worked. WorksPlainly worked)
applies = search (quiet, none, one, both)

-- a client asks a call
abbrev pub IsAsked : Node → Body → Type 0
IsAsked (Node.Client client) (Body.Request request) = ⊤
IsAsked sender body = ⊥

of_stored : (master : Master) (backup : ℕ) (stored : Stored) (beyond : Option Overreach) → WorksPlainly (stored_taken master backup stored beyond)
of_stored master backup stored (Some beyond) = record { sends = none }
of_stored master backup stored None =
    let known = with_known master backup stored.segment stored.length in
    both (apply_entries known (newly_held known)) (λ now. changed (all_going_on now now.tablets))
    (entries_pass applies (newly_held known) known (λ place none inside. tt))
    (quiet _)

pub master_plain : (master : Master) (sender : Node) (body : Body) → (IsAsked sender body → ⊥) → WorksPlainly (told_master master sender body)
master_plain master (Node.Client client) (Body.Request request) other = absurd (other tt)
master_plain master (Node.Client client) _ other = record { sends = none }
master_plain master Node.Coordinator body other = record { sends = order_sends plainly master body }
master_plain master (Node.Master peer) body other = record { sends = peer_sends plainly master (Node.Master peer) body }
master_plain master (Node.Backup backup) (Body.Stored stored) other =
    of_stored master backup stored (overreach master.log stored.segment stored.length)
master_plain master (Node.Backup backup) (Body.Copy copy) other = record { sends = copy_sends plainly master copy }
master_plain master (Node.Backup backup) _ other = record { sends = none }

-- ---- a master's turn

appends_plain : (master : Master) → RefuseNone (appends master)
appends_plain master = of_each (λ backup. append_of master backup (pending master.log backup))
    (range_with_len 1 (length master.log.known))
    (λ backup.
    by_found (λ piece. RefuseNone (append_of master backup piece)) (pending master.log backup) (λ nothing. none) (λ piece is. one _ tt))

duty_plain : (master : Master) (number : ℕ) (tablet : Tablet) (role : Role) → WorksPlainly (tablet_duty master number tablet role)
duty_plain master number tablet role = grind (arith, with_outstanding, joined, one, at_most, nat_lt, from_master, next_reading, none)

duties_plain : (master : Master) (tablets : NumberMap Tablet) → WorksPlainly (duties master tablets)
duties_plain master [] = record { sends = none }
duties_plain master ((number, tablet) ∷ others) = both (tablet_duty master number tablet tablet.handover.role)
    (λ next. duties next others) (duty_plain master number tablet tablet.handover.role)
    (duties_plain (tablet_duty master number tablet tablet.handover.role).master others)

pub turn_plain : (master : Master) → WorksPlainly (master_turn master)
turn_plain master = both (record { master = master; sends = appends master; served = []; marked = [] })
    (λ next. duties next next.tablets) (record { sends = appends_plain master }) (duties_plain master master.tablets)

-- ---- the coordinator

module _ (coordinator : Coordinator) where
  pub coordinator_plain : (sender : Node) (body : Body) → RefuseNone (told_coordinator coordinator sender body).sends
  coordinator_plain sender body = grind (arith, told_made, none, joined, one, own_to, release_to)

  duty_of_row : (row : Row) (phase : Phase) → RefuseNone (row_duty coordinator row phase)
  duty_of_row row phase = grind (arith, none, one)

  pub coordinator_turn_plain : RefuseNone (coordinator_turn coordinator)
  coordinator_turn_plain = of_each (λ row. row_duty coordinator row row.phase) coordinator.rows (λ row. duty_of_row row row.phase)

-- ---- a backup

module _ (backup : ℕ) (log : ℕ → ℕ → List ℕ) where
  for_master : (master : ℕ) (body : Body) (called : Called) → RefuseNone (master_message backup master body log called).sends
  for_master master body called = grind (arith, one, none)

  pub backup_plain : (sender : Node) (body : Body) (called : Called) → RefuseNone (backup_step backup sender body log called).sends
  backup_plain (Node.Master master) body called = for_master master body called
  backup_plain _ body called = none

-- ---- what is filled in

module _ (journal : List Placed) (served : List Served) where
  body_plain : (to : Node) (body : Body) → IsNoRefusal body → IsNoRefusal (filled_body journal served to body)
  body_plain to body plain = grind (arith, at_same, place_of)

  pub all_filled_plain : (sends : List Message) → All IsPlain sends → All IsPlain (map (filled journal served) sends)
  all_filled_plain sends plain = All-map IsPlain (filled journal served) sends
      (All-weaker IsPlain (λ (m : Message). IsPlain (filled journal served m)) (λ m its. body_plain m.to m.body its) sends plain)
