-- The last requests of clients: no event changes them, and what a client sends is for a master.
use Rattle.rk_lane.proofs.Words.{arith, ◌≡◌, ℕ, ◌+◌, Bool, List, [], ◌∷◌, Option, Some, None, IfSome, if◌then◌else◌, refl, sym, subst, ◌∙◌}
use Rattle.rk_lane.proofs.Words.{⊤, get, each_insert, Call, Ended, Node, Segments, row_of, Phase, Row, Located, Body, Message, Rebuilt}
use Rattle.rk_lane.proofs.Words.{Backed, Called, backup_step, stored_after, is_asked, ledger_asked, ledger_requested, ledger_taken}
use Rattle.rk_lane.proofs.Words.{ClientTurn, Session, range_of, session_turn, turn_by, turn_of, coordinator_step, Ledger, asked_by}
use Rattle.rk_lane.proofs.Words.{is_added, with_end, with_ends, with_all_served, with_rebuilt, with_served, master_step, master_turn}
use Rattle.rk_lane.proofs.Words.{backed_at, delivered, delivered_to, happened, log_bytes_of, losing, quietly, seen_in, with_sends}
use Rattle.rk_lane.proofs.Words.{worked_at, Stepped, World, has_crashed, is_backup, master_at, with_stored_by, owner_split, row_split}
use Rattle.rk_lane.proofs.Words.{with_split, Worked, Event, Seen, Taken, LastCall, Served, world_of, AreForMasters, Parts}
use Rattle.rk_types.specs.declared.node.Node.TheVariants as nodes
use Rattle.rk_model.specs.Merged.{is_mutation}
use Rattle.rk_message.specs.declared.message.Body.TheVariants as bodies
use Rattle.rk_world.specs.Journal.{has_record}
use Rattle.rk_world.specs.Ledger.{with_end_of}
use Rattle.rk_world.specs.Step.{turned}
use Rattle.rk_world.specs.declared.event.Taken.TheVariants as takes
use Rattle.rk_inv_wellformed.proofs.maps.Lists.{either_way}
use Rattle.rk_lane.specs.Requests.{IsOfMaster}

abbrev KeepsRequests : Ledger → Ledger → Type 0
KeepsRequests old new = new.requests ≡ old.requests

served_keeps : (seen : ℕ) (ledger : Ledger) (served : Served) → KeepsRequests ledger (with_served seen ledger served)
served_keeps seen ledger served =
    either_way (KeepsRequests ledger) (is_mutation served.call.op) (either_way (KeepsRequests ledger) (has_record ledger.journal served.call.client served.call.seq) refl refl) refl

all_served_keep : (seen : ℕ) (ledger : Ledger) (served : List Served) → KeepsRequests ledger (with_all_served seen ledger served)
all_served_keep seen ledger [] = refl
all_served_keep seen ledger (one ∷ served) = all_served_keep seen (with_served seen ledger one) served ∙ served_keeps seen ledger one

end_keeps : (ledger : Ledger) (end : Ended) (asked : Option LastCall) → KeepsRequests ledger (with_end_of ledger end asked)
end_keeps ledger end asked = grind (arith, either_way)

ends_keep : (ledger : Ledger) (ends : List Ended) → KeepsRequests ledger (with_ends ledger ends)
ends_keep ledger [] = refl
ends_keep ledger (end ∷ ends) = ends_keep (with_end ledger end) ends ∙ end_keeps ledger end (asked_by ledger end.client)

rebuilt_keeps : (ledger : Ledger) (rebuilt : Option Rebuilt) → KeepsRequests ledger (with_rebuilt ledger rebuilt)
rebuilt_keeps ledger None = refl
rebuilt_keeps ledger (Some rebuilt) = ends_keep ledger rebuilt.ends

-- ---- events

abbrev Keeps : World → World → Type 0
Keeps old new = KeepsRequests old.ledger new.ledger

work_keeps : (w : World) (master seen : ℕ) (work : Worked) → Keeps w (worked_at w master seen work).world
work_keeps w master seen work = all_served_keep seen w.ledger work.served

master_keeps : (w : World) (master : ℕ) (message : Message) (crashed : Bool)
    → Keeps w (if crashed then losing w else worked_at w master (seen_in message.body) (master_step (master_at w master) message)).world
master_keeps w master message crashed =
    either_way (λ (it : Stepped). Keeps w it.world) crashed refl (work_keeps w master (seen_in message.body) (master_step (master_at w master) message))

backed_keeps : (w : World) (backed : Backed) (lost : Bool) → Keeps w (if lost then losing w else with_sends w backed.sends).world
backed_keeps w backed lost = either_way (λ (it : Stepped). Keeps w it.world) lost refl refl

stored_keeps : (w : World) (backup : ℕ) (store : Segments → Segments) (stored : Option Segments) → Keeps w (with_stored_by w backup store stored)
stored_keeps w backup store None = refl
stored_keeps w backup store (Some segments) = refl

backup_keeps : (w : World) (backup : ℕ) (sender : Node) (body : Body) (called : Called) (there : Bool)
    → Keeps w (if there
    then backed_at (with_stored_by w backup (λ segments. stored_after segments sender body called) (get w.backups backup)) (backup_step backup sender body (log_bytes_of w) called)
    else quietly w).world
backup_keeps w backup sender body called there =
    grind (arith, with_stored_by, stored_after, backup_step, log_bytes_of, backed_keeps, stored_keeps)

delivery_keeps : (w : World) (message : Message) (to : Node) (called : Called) → Keeps w (delivered_to w message to called).world
delivery_keeps w message (nodes.Client client) called = refl
delivery_keeps w message nodes.Coordinator called = rebuilt_keeps w.ledger (coordinator_step w.coordinator message).rebuilt
delivery_keeps w message (nodes.Master master) called = master_keeps w master message (has_crashed w master)
delivery_keeps w message (nodes.Backup backup) called = backup_keeps w backup message.from message.body called (is_backup w backup)

found_keeps : (w : World) (message : Option Message) (called : Called) → Keeps w (delivered w message called).world
found_keeps w None called = refl
found_keeps w (Some message) called = delivery_keeps w message message.to called

turn_keeps : (w : World) (node : Node) → Keeps w (turned w node).world
turn_keeps w (nodes.Master master) = work_keeps w master 0 (master_turn (master_at w master))
turn_keeps w _ = refl

owner_keeps : (w : World) (tablet : ℕ) (phase : Phase) (at new term : ℕ) → Keeps w (owner_split w tablet phase at new term)
owner_keeps w tablet phase at new term = grind (arith, with_split, master_at, has_crashed, either_way)

split_keeps : (w : World) (row : Option Row) (at new : ℕ) → Keeps w (row_split w row at new)
split_keeps w None at new = refl
split_keeps w (Some row) at new = owner_keeps w row.tablet row.phase at new (row.term + 1)

-- so they are for masters after an event
pub still_for_masters : (old new : Parts) (event : Event) (called : Called) (seen : Seen)
    → happened (world_of old []) event called ≡ record { world = world_of new []; seen = seen } → AreForMasters old.ledger.requests → AreForMasters new.ledger.requests
still_for_masters old new event called seen is requests =
    grind (arith, world_of, is_added, found_keeps, turn_keeps, split_keeps, row_of, either_way)

-- ---- what a client sends

-- a request is for a master
abbrev pub IsForMaster : Message → Body → Type 0
IsForMaster message (bodies.Request request) = IsOfMaster message.to
IsForMaster message body = ⊤

by_range : (session : Session) (call : Call) (located : Option Located) → IsForMaster (turn_by session call located).message (turn_by session call located).message.body
by_range session call located = grind arith

by_call : (session : Session) (call : Option Call) → IfSome (turn_of session call) (λ turned. IsForMaster turned.message turned.message.body)
by_call session None = tt
by_call session (Some call) = by_range session call (range_of session call)

-- what a client sends on its turn
pub turned_to_master : (session later : Session) (message : Message) → session_turn session ≡ Some (record { session = later; message = message }) → IsForMaster message message.body
turned_to_master session later message turn =
    subst (λ (turned : Option ClientTurn). IfSome turned (λ it. IsForMaster it.message it.message.body)) turn (by_call session session.outstanding)

pub requested_for_masters : (ledger : Ledger) (client : ℕ) (message : Message) (body : Body) → IsForMaster message body → AreForMasters ledger.requests
    → AreForMasters (ledger_requested ledger client message body).requests
requested_for_masters ledger client message (bodies.Request request) is requests =
    each_insert (λ client request. IsOfMaster request.to) ledger.requests client message requests is
requested_for_masters ledger client message body is requests = requests

pub asked_for_masters : (ledger : Ledger) (session : Session) (call : Call) → AreForMasters ledger.requests → AreForMasters (ledger_asked ledger session call).requests
asked_for_masters ledger session call requests =
    subst AreForMasters (sym (either_way (KeepsRequests ledger) (is_asked ledger session call) refl refl)) requests

pub taken_for_masters : (ledger : Ledger) (body : Body) (taken : Taken) → AreForMasters ledger.requests → AreForMasters (ledger_taken ledger body taken).requests
taken_for_masters ledger (bodies.Reply reply) takes.Done requests = requests
taken_for_masters ledger body taken requests = requests
