-- How a client asks in a lane, and takes its answers there.
use Rattle.std.specs.Prelude.{ℕ, ◌==◌, ◌&&◌, ◌||◌, Bool, true, false, not, nat_lt, if◌then◌else◌, [], ◌∷◌, bytes_eq, Option, Some, None, Result, Ok, Err}
use Rattle.rk_types.specs.NumberMap.{get}
use Rattle.rk_types.specs.declared.call.Call.{Call}
use Rattle.rk_types.specs.declared.call.Op.{Op}
use Rattle.rk_types.specs.declared.call.Op.TheVariants as ops
use Rattle.rk_message.specs.declared.message.Body.{Body}
use Rattle.rk_message.specs.declared.message.Body.TheVariants as bodies
use Rattle.rk_message.specs.declared.message.Message.{Message}
use Rattle.rk_world.specs.declared.error.StepError.{StepError}
use Rattle.rk_world.specs.declared.event.Seen.{Seen}
use Rattle.rk_world.specs.declared.event.Taken.{Taken}
use Rattle.rk_world.specs.declared.event.Taken.TheVariants as takes
use Rattle.rk_world.specs.Client.{Session, ClientTurn, call_lane, session_turn, session_accept}
use Rattle.rk_world.specs.Journal.{is_accepted}
use Rattle.rk_world.specs.declared.ledger.LastCall.{LastCall}
use Rattle.rk_world.specs.Ledger.{Ledger, asked_by, is_added, with_asked, with_request, with_accepted}
use Rattle.rk_world.specs.World.{World, with_ledger}
use Rattle.rk_world.specs.Refusals.{ask_refusal, accept_refusal}
use Rattle.rk_world.specs.Step.{with_sends}

-- whether two operations are one
abbrev pub is_op : Op → Op → Bool
is_op ops.Get ops.Get = true
is_op (ops.Put a) (ops.Put b) = bytes_eq a b
is_op (ops.CondPut expected a) (ops.CondPut other b) = expected == other && bytes_eq a b
is_op ops.Delete ops.Delete = true
is_op _ _ = false

-- whether two calls are one
abbrev pub is_call : Call → Call → Bool
is_call a b =
    a.client == b.client && (a.seq == b.seq) && (a.table == b.table) && bytes_eq a.key b.key && is_op a.op b.op

-- whether a call, with what its client has seen, is the last that this client asked
abbrev pub is_last : Call → ℕ → Option LastCall → Bool
is_last call seen None = false
is_last call seen (Some asked) = is_call asked.call call && (asked.seen == seen)

-- whether a client's call, with what it has seen, is the last that it asked here, and has no accepted record
abbrev pub is_asked : Ledger → Session → Call → Bool
is_asked ledger session call =
    is_last call session.seen (asked_by ledger session.client) && not (is_accepted ledger.journal session.client call.seq)

-- whether the lane takes a new call of a client: it was asked none, or the last call that it was asked is older and accepted
abbrev pub is_next : Ledger → Session → Call → Option LastCall → Bool
is_next ledger session call None = true
is_next ledger session call (Some asked) =
    nat_lt asked.call.seq call.seq && is_accepted ledger.journal session.client asked.call.seq

-- whether a session with this outstanding call fits the lane: the call was asked here, or its key lies here and it comes next
abbrev pub fits_with : World → Session → Call → Bool
fits_with w session call =
    is_asked w.ledger session call
    || (call_lane call == w.lane && is_next w.ledger session call (asked_by w.ledger session.client))

-- a session without an outstanding call fits no lane
abbrev pub fits_by : World → Session → Option Call → Bool
fits_by w session None = false
fits_by w session (Some call) = fits_with w session call

-- whether a session fits a lane: its client was added there, and its call was asked there or comes next
abbrev pub fits : World → Session → Bool
fits w session = is_added w.ledger session.client && fits_by w session session.outstanding

-- whether this outstanding call of a session, if there is one, was asked in a lane
abbrev pub asked_by_session : World → Session → Option Call → Bool
asked_by_session w session None = false
asked_by_session w session (Some call) = is_asked w.ledger session call

-- whether the outstanding call of a session was asked in a lane
abbrev pub is_asked_here : World → Session → Bool
is_asked_here w session = asked_by_session w session session.outstanding

-- what becomes of a lane and a session, and what was seen of it
pub record Visited : Type 0 where
  pub world : World
  pub session : Session
  pub seen : Seen

-- nothing changed, but for what the client took
abbrev pub untouched : World → Session → Option Taken → Visited
untouched w session taken = record {
  world = w;
  session = session;
  seen = record { first = 0; sent = 0; lost = false; taken = taken };
}

-- the ledger once a call was asked there
abbrev pub ledger_asked : Ledger → Session → Call → Ledger
ledger_asked ledger session call =
    if is_asked ledger session call then ledger
    else with_asked ledger session.client (record { call = call; seen = session.seen })

-- the last request of a client is saved, so that it can be sent again
abbrev pub ledger_requested : Ledger → ℕ → Message → Body → Ledger
ledger_requested ledger client message (bodies.Request request) = with_request ledger client message
ledger_requested ledger client message _ = ledger

-- a client's turn in a lane that its session fits
abbrev pub asking_by : World → Session → Call → Option ClientTurn → Visited
asking_by w session call None = untouched w session None
asking_by w session call (Some turned) =
    let ledger = ledger_requested (ledger_asked w.ledger session call) session.client turned.message turned.message.body in
    let sent = with_sends (with_ledger w ledger) (turned.message ∷ []) in
    record { world = sent.world; session = turned.session; seen = sent.seen }

-- a client's turn in a lane, by its outstanding call; one whose session does not fit changes nothing
abbrev pub asking : World → Session → Option Call → Visited
asking w session None = untouched w session None
asking w session (Some call) =
    if fits_with w session call then asking_by w session call (session_turn session) else untouched w session None

-- a client's turn in a lane, unless it is refused
abbrev pub ask_by : World → Session → Option StepError → Result Visited StepError
ask_by w session None = Ok (asking w session session.outstanding)
ask_by w session (Some error) = Err error

-- a client takes its turn in a lane; a session that does not fit changes nothing
abbrev pub ask : World → Session → Result Visited StepError
ask w session = ask_by w session (ask_refusal w session)

-- the ledger once a client took what a message says: the record of an answered call is accepted
abbrev pub ledger_taken : Ledger → Body → Taken → Ledger
ledger_taken ledger (bodies.Reply reply) takes.Done = with_accepted ledger reply.place
ledger_taken ledger body taken = ledger

-- a client takes a message in a lane where its call was asked
abbrev pub taking : World → Session → Body → Visited
taking w session body =
    let accepted = session_accept session body in
    record {
      world = with_ledger w (ledger_taken w.ledger body accepted.taken);
      session = accepted.session;
      seen = record { first = 0; sent = 0; lost = false; taken = Some accepted.taken };
    }

-- a client takes a message of a lane, if it is on the wire; one whose call was not asked here ignores it
abbrev pub accepting : World → Session → Option Message → Visited
accepting w session None = untouched w session None
accepting w session (Some message) =
    if is_asked_here w session then taking w session message.body else untouched w session (Some takes.Ignored)

-- a client takes a message of a lane, unless that is refused
abbrev pub accept_by : World → ℕ → Session → Option StepError → Result Visited StepError
accept_by w number session None = Ok (accepting w session (get w.wire.messages number))
accept_by w number session (Some error) = Err error

-- a client takes the message of a number; one whose call was not asked here ignores it
abbrev pub accept : World → ℕ → Session → Result Visited StepError
accept w number session =
    accept_by w number session (accept_refusal w number session.client (get w.wire.messages number))
