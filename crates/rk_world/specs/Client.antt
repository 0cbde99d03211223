-- A client: one outstanding call at a time, and what it knows of where keys are.
use Rattle.std.specs.Prelude.{ℕ, ◌+◌, ◌==◌, Bool, not, max, if◌then◌else◌, List, [], ◌∷◌, ◌++◌, filter, find, Option, Some, None, slice_index_or, slice_set, replicate}
use Rattle.std.specs.Option.{option_map}
use Rattle.rk_types.specs.Hashing.{hash_of, lane_of}
use Rattle.rk_types.specs.Range.{meets}
use Rattle.rk_types.specs.declared.call.Answer.{Answer}
use Rattle.rk_types.specs.declared.call.Answer.TheVariants as answers
use Rattle.rk_types.specs.declared.call.Call.{Call}
use Rattle.rk_types.specs.declared.call.Op.{Op}
use Rattle.rk_types.specs.declared.call.Outcome.{Outcome}
use Rattle.rk_types.specs.declared.hashing.TheConstants.{LANES}
use Rattle.rk_types.specs.declared.history.Receipt.{Receipt}
use Rattle.rk_types.specs.declared.node.Node.TheVariants as nodes
use Rattle.rk_message.specs.declared.calls.Located.{Located}
use Rattle.rk_message.specs.declared.calls.Reply.{Reply}
use Rattle.rk_message.specs.declared.message.Body.{Body}
use Rattle.rk_message.specs.declared.message.Body.TheVariants as bodies
use Rattle.rk_message.specs.declared.message.Message.{Message}
use Rattle.rk_world.specs.declared.event.Taken.{Taken}
use Rattle.rk_world.specs.declared.event.Taken.TheVariants as taken
use Rattle.rk_world.specs.Ranges.{has_key}

-- how many requests of a call are sent to a cached owner before it is looked up again
abbrev pub MOST_REQUESTS : ℕ
MOST_REQUESTS = 3

-- a client's session: its receipts, oldest first; the seq of its last call; its outstanding call; the highest stamp that it
-- has seen; how many requests of that call it sent since it last looked up the key or learned where it is; the ranges that it cached,
-- by lane; and the lane in which it sent its last request
pub record Session : Type 0 where
  pub client : ℕ
  pub receipts : List Receipt
  pub last : ℕ
  pub outstanding : Option Call
  pub seen : ℕ
  pub requests : ℕ
  pub ranges : List (List Located)
  pub sent_in : Option ℕ

-- a session that asked nothing
abbrev pub new_session : ℕ → Session
new_session client = record {
  client = client;
  receipts = [];
  last = 0;
  outstanding = None;
  seen = 0;
  requests = 0;
  ranges = replicate LANES [];
  sent_in = None;
}

-- the next call of a client
abbrev pub next_call : Session → ℕ → List ℕ → Op → Call
next_call session table key op =
    record { client = session.client; seq = session.last + 1; table = table; key = key; op = op }

-- the seq of the outstanding call, for which another one is refused
abbrev pub busy : Session → Option ℕ
busy session = option_map (λ call. call.seq) session.outstanding

-- a client asks its next call, if none is outstanding
abbrev pub with_next_call : Session → ℕ → List ℕ → Op → Session
with_next_call session table key op = record session {
  last = session.last + 1;
  outstanding = Some (next_call session table key op);
  requests = 0;
}

-- a client asks its next call, unless one is outstanding, whose seq this is
abbrev pub session_calling : Session → ℕ → List ℕ → Op → Option ℕ → Session
session_calling session table key op None = with_next_call session table key op
session_calling session table key op (Some seq) = session

-- the lane of a call
abbrev pub call_lane : Call → ℕ
call_lane call = lane_of (hash_of call.key)

-- the ranges that are cached of a lane
abbrev pub ranges_in : Session → ℕ → List Located
ranges_in session lane = slice_index_or session.ranges lane []

-- whether a cached range has the key of a call
abbrev pub has_call : Call → Located → Bool
has_call call located = has_key located.range call.table call.key

-- the cached range that has the key of a call
abbrev pub range_of : Session → Call → Option Located
range_of session call = find (has_call call) (ranges_in session (call_lane call))

-- the cached range that has the key of a call is dropped
abbrev pub without_range : Session → Call → Session
without_range session call = record session {
  ranges =
      slice_set session.ranges (call_lane call)
      (filter (λ located. not (has_call call located)) (ranges_in session (call_lane call)));
}

-- what a client's turn gives: the session after it, and the message
pub record ClientTurn : Type 0 where
  pub session : Session
  pub message : Message

-- the question where the key of a call is
abbrev pub lookup_of : Session → Call → Message
lookup_of session call = record {
  from = nodes.Client session.client;
  to = nodes.Coordinator;
  body = bodies.Lookup (record { table = call.table; hash = hash_of call.key });
}

-- the request of a call to a master
abbrev pub request_of : Session → Call → ℕ → ℕ → Message
request_of session call tablet master = record {
  from = nodes.Client session.client;
  to = nodes.Master master;
  body = bodies.Request (record {
    tablet = tablet;
    seq = call.seq;
    seen = session.seen;
    table = call.table;
    key = call.key;
    op = call.op;
  });
}

-- the client asks where the key is, and forgets the range that it cached
abbrev pub looking_up : Session → Call → ClientTurn
looking_up session call =
    record { session = record (without_range session call) { requests = 0 }; message = lookup_of session call }

-- the client sends a request to the owner that it cached
abbrev pub requesting : Session → Call → ℕ → ℕ → ClientTurn
requesting session call tablet master = record {
  session = record session {
    requests = session.requests + 1;
    sent_in = Some (call_lane call);
  };
  message = request_of session call tablet master;
}

-- a request to the owner of a cached range; if it has none, the key is looked up
abbrev pub turn_to : Session → Call → ℕ → Option ℕ → ClientTurn
turn_to session call tablet (Some master) = requesting session call tablet master
turn_to session call tablet None = looking_up session call

-- the turn of a client with an outstanding call, by the range that it cached
abbrev pub turn_by : Session → Call → Option Located → ClientTurn
turn_by session call None = looking_up session call
turn_by session call (Some located) =
    if session.requests == MOST_REQUESTS then looking_up session call else turn_to session call located.tablet located.owner

-- the turn of a client; none if no call is outstanding
abbrev pub turn_of : Session → Option Call → Option ClientTurn
turn_of session None = None
turn_of session (Some call) = Some (turn_by session call (range_of session call))

-- what a client does on its turn
abbrev pub session_turn : Session → Option ClientTurn
session_turn session = turn_of session session.outstanding

-- what a client makes of a message: the session after it, and what it took
pub record Accepted : Type 0 where
  pub session : Session
  pub taken : Taken

-- the message says nothing
abbrev pub ignoring : Session → Accepted
ignoring session = record { session = session; taken = taken.Ignored }

-- a range as a list, empty if it has no owner
abbrev pub owned_range : Located → Option ℕ → List Located
owned_range located None = []
owned_range located (Some owner) = located ∷ []

-- a range is cached, if it has an owner, in place of those that it meets
abbrev pub with_range : Session → ℕ → Located → Session
with_range session lane located = record session {
  ranges =
      slice_set session.ranges lane
      (filter (λ other. not (meets other.range located.range)) (ranges_in session lane)
      ++ owned_range located located.owner);
  requests = 0;
}

-- the client learns where a range is, if that range has the key of its call
abbrev pub located_accepted : Session → Call → Located → Accepted
located_accepted session call located =
    if has_call call located
    then record { session = with_range session (call_lane call) located; taken = taken.Located }
    else ignoring session

-- the receipt of a call
abbrev pub receipt_of : Call → Reply → Outcome → Receipt
receipt_of call reply outcome = record {
  call = call;
  outcome = outcome;
  lane = call_lane call;
  place = reply.place;
  stamp = reply.stamp;
}

-- the call is answered
abbrev pub done : Session → Call → Reply → Outcome → Session
done session call reply outcome = record session {
  receipts = session.receipts ++ receipt_of call reply outcome ∷ [];
  outstanding = None;
  seen = max session.seen reply.stamp;
}

-- what a client makes of the answer to its call
abbrev pub answer_accepted : Session → Call → Reply → Answer → Accepted
answer_accepted session call reply (answers.Done outcome) =
    record { session = done session call reply outcome; taken = taken.Done }
answer_accepted session call reply (answers.Moved tablet) =
    record { session = record (without_range session call) { requests = 0 }; taken = taken.Moved tablet }
answer_accepted session call reply (answers.NotYet key) = record { session = session; taken = taken.NotYet key }

-- what a client with an outstanding call makes of a message
abbrev pub accepted_by : Session → Call → Body → Accepted
accepted_by session call (bodies.Located located) = located_accepted session call located
accepted_by session call (bodies.Reply reply) =
    if reply.seq == call.seq then answer_accepted session call reply reply.answer else ignoring session
accepted_by session call _ = ignoring session

-- a client takes a message; without an outstanding call it ignores it
abbrev pub accepted_of : Session → Option Call → Body → Accepted
accepted_of session None body = ignoring session
accepted_of session (Some call) body = accepted_by session call body

-- what a client makes of what a message says
abbrev pub session_accept : Session → Body → Accepted
session_accept session body = accepted_of session session.outstanding body
