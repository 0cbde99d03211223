-- What a session in code represents.
use Rattle.std.specs.Prelude.{◌≡◌, ◌<◌, ◌≤◌, vec_len, vec_capacity, Some, IfSome}
use Rattle.rk_types.specs.declared.call.Call.{Call}
use Rattle.rk_types.specs.declared.hashing.TheConstants.{LANES}
use Rattle.rk_world.specs.Client.{Session as Known}
use Rattle.rk_session.specs.Cached.{HasRoom, ranges_of}
use Rattle.rk_session.specs.declared.session.Session.TheInside.{Inside}
use Rattle.rk_session.specs.declared.session.TheConstants.{MOST_REQUESTS}

-- the session
abbrev pub session_of : Inside → Known
session_of inside = record {
  client = inside.client;
  receipts = inside.receipts.items;
  last = inside.last;
  outstanding = inside.outstanding;
  seen = inside.seen;
  requests = inside.requests;
  ranges = ranges_of inside.cached.lanes;
  sent_in = inside.sent_in;
}

-- an answer to a call finds room: one receipt, and one range in place of those that have the key
pub record MayBeAnswered (inside : Inside) (call : Call) : Type 0 where
  pub receipt : vec_len inside.receipts < vec_capacity inside.receipts
  pub range : HasRoom call inside.cached.lanes

-- no more requests are sent than may be, the outstanding call may be answered, and the last request was sent in one of the lanes
pub record IsSession (inside : Inside) : Type 0 where
  pub requests : inside.requests ≤ MOST_REQUESTS
  pub room : (call : Call) → inside.outstanding ≡ Some call → MayBeAnswered inside call
  pub sent_in : IfSome inside.sent_in (λ lane. lane < LANES)
