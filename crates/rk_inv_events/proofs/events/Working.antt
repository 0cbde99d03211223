-- What a master makes of a message that reaches it, as a change of the lane.
use Rattle.std.proofs.Common.{arith, Bool, List, None, Option, Some, [], ap, append-nil, cond, eq-eqb, false, refl, subst, sym, true, ℕ}
use Rattle.std.proofs.Common.{◌==◌, ◌∙◌, ◌≡◌}
use Rattle.rk_inv_base.proofs.Words.{Body, Handover, IsSound, Ledger, Mark, Master, MaySend, Message, Role, SoundView, Stepped, View}
use Rattle.rk_inv_base.proofs.Words.{Worked, World, changed, cond-true, cond_both, filled, has_crashed, in_role, lives, losing, master_at}
use Rattle.rk_inv_base.proofs.Words.{order, seen_in, sending, tablet_in, to_master, view, with_marks, with_master, worked_at}
use Rattle.rk_inv_events.proofs.Words.{master_same, put2_same, put_same, sound_sent, view_master}
use Rattle.rk_inv_events.proofs.events.Pairs.{insert_twice}
use Rattle.rk_inv_events.specs.orders.Orders.{order_to}

-- ---- a master that is put

-- a master may be put where it is
pub view_unchanged : (w : World) (master : ℕ) → view (with_master w master (master_at w master)) ≡ view w
view_unchanged w master = view_master w master (master_at w master) 0 (tablet_in w master 0) refl refl (λ r apart. refl)
    ∙ (λ i. record (view w) {
      logs = put_same (view w).logs master i;
      written = put_same (view w).written master i;
      records = put_same (view w).records master i;
      calls = put_same (view w).calls master i;
      handovers = put2_same (view w).handovers master 0 i;
      completions = put2_same (view w).completions master 0 i;
      pullings = put2_same (view w).pullings master 0 i;
      gathers = put2_same (view w).gathers master 0 i;
      merged = put2_same (view w).merged master 0 i;
    })

pub sound_unchanged : (w : World) (master : ℕ) → IsSound w → IsSound (with_master w master (master_at w master))
sound_unchanged w master sound = subst SoundView (sym (view_unchanged w master)) sound

-- what is put last for a master is there
pub put_again : (w : World) (master : ℕ) (now : Master) (change : Master → Master)
    → with_master (with_master w master now) master (change (master_at (with_master w master now) master)) ≡ with_master w master (change now)
put_again w master now change = grind (arith, with_master, master_same, insert_twice)

-- a role that moves at its own term
pub moved_itself : (term : ℕ) (at : Handover) (to : Option Role) (role : Role) → to ≡ Some role
    → cond (term == term) (in_role at to) None ≡ Some (record at { role = role })
moved_itself term at to role is =
    cond-true (term == term) (in_role at to) None (eq-eqb term term refl) ∙ ap (λ (o : Option Role). in_role at o) is

-- what a test lets through is there, and the test holds
pub let_through : {X : Type 0} (test : Bool) (some : Option X) (thing : X) → cond test some None ≡ Some thing → (test ≡ true) × (some ≡ Some thing)
let_through true some thing is = (refl, is)
let_through false some thing is = absurd (cc is)

-- ---- a message reaches a master

-- what is so once a living master has worked is so of the lane then
pub reached : (w : World) (master seen : ℕ) (worked : Worked) → has_crashed w master ≡ false → IsSound (worked_at w master seen worked).world
    → IsSound (cond (has_crashed w master) (losing w) (worked_at w master seen worked)).world
reached w master seen worked lives sound = rw lives sound

-- a master that has crashed loses what reaches it
pub reached_or_lost : (w : World) (master seen : ℕ) (worked : Worked) → IsSound w
    → (has_crashed w master ≡ false → IsSound (worked_at w master seen worked).world)
    → IsSound (cond (has_crashed w master) (losing w) (worked_at w master seen worked)).world
reached_or_lost w master seen worked sound =
    cond_both (has_crashed w master) (losing w) (worked_at w master seen worked) (λ (s : Stepped). IsSound s.world) (λ crashed. sound)

-- a living master takes an order
pub taken : (w : World) (master : ℕ) (body : Body) → has_crashed w master ≡ false
    → IsSound (worked_at w master (seen_in body) (order (master_at w master) body)).world
    → IsSound (to_master w master (order_to master body)).world
taken w master body = reached w master (seen_in body) (order (master_at w master) body)

-- ---- the master works

-- if no piece is marked, the ledger keeps its marks
pub marks_same : (ledger : Ledger) → with_marks ledger [] ≡ ledger
marks_same ledger = ap (λ (marks : List Mark). record ledger { marks = marks }) (append-nil ledger.marks)

-- it changes, and sends nothing
pub sound_changed : (w : World) (master seen : ℕ) (now : Master) → IsSound (with_master w master now) → IsSound (worked_at w master seen (changed now)).world
sound_changed w master seen now sound = rw (marks_same w.ledger) sound

-- it stays as it is
pub stays : (w : World) (master seen : ℕ) → IsSound w → IsSound (worked_at w master seen (changed (master_at w master))).world
stays w master seen sound = sound_changed w master seen (master_at w master) (sound_unchanged w master sound)

-- it changes, and sends a message that may be sent once it is filled in
pub sound_sending : (w : World) (master seen : ℕ) (now : Master) (message : Message) → IsSound (with_master w master now)
    → MaySend (view (with_master w master now)) (filled w.ledger.journal [] message)
    → IsSound (worked_at w master seen (sending now message)).world
sound_sending w master seen now message sound may =
    rw (marks_same w.ledger) (sound_sent (with_master w master now) (filled w.ledger.journal [] message) sound may)

-- it stays as it is, and sends a message
pub stays_sending : (w : World) (master seen : ℕ) (message : Message) → IsSound w → MaySend (view w) (filled w.ledger.journal [] message)
    → IsSound (worked_at w master seen (sending (master_at w master) message)).world
stays_sending w master seen message sound may = sound_sending w master seen (master_at w master) message (sound_unchanged w master sound)
    (subst (λ (v : View). MaySend v (filled w.ledger.journal [] message)) (sym (view_unchanged w master)) may)
