-- What may be sent: a message that says of each row, of logs, of records and of calls what the parts ask of it. A sound lane stays sound
-- when such messages are sent, one after the other.
use Rattle.std.proofs.Common.{All, Contains, IfSome, List, None, [], flat_map, is_some, refl, true, ℕ, ◌++◌, ◌+◌, ◌∷◌, ◌≡◌}
use Rattle.rk_message.specs.declared.calls.Lookup.{Lookup}
use Rattle.rk_message.specs.declared.message.Body.TheVariants as bodies
use Rattle.rk_types.specs.declared.node.Node.TheVariants as nodes
use Rattle.rk_inv_base.proofs.Words.{All-cons, All-head, All-nil, All-tail, All-weaker, AnswerFits, AreHandedOver, Body, Handed}
use Rattle.rk_inv_base.proofs.Words.{IfSome_then, IsNext, IsRequest, IsSound, IsWithinRows, Located, LogSays, MaySend, Message, Node}
use Rattle.rk_inv_base.proofs.Words.{Placed, Reply, Request, RequestFits, RequestSays, Row, Says, SentFits, Served, View, World, filled}
use Rattle.rk_inv_base.proofs.Words.{handed_by, located, range_in, rests, row_of, row_with, tenure_in, to_coordinator, truths, view}
use Rattle.rk_inv_base.proofs.Words.{with_all_sent, with_sends}
use Rattle.rk_inv_events.proofs.Words.{SaysIn, all_by, message_sent, sent, sound_sent, all_flat, by_found}

-- what is handed over for a row is what the parts ask of it
abbrev pub Hands : View → Row → Handed → Type 0
Hands v row h = IsNext (truths v row ++ rests v row) h.floor × AreHandedOver v.base row.range v.journal h.ends

module _ (v : View) (from to : Node) (body : Body) where
  pub may_hand : ((row : Row) → Contains v.rows row → IfSome (handed_by row v.handovers body) (Hands v row))
      → IfSome (tenure_in body) (λ tenure. is_some (row_of v.rows tenure.tablet) ≡ true) × IfSome (range_in body) (IsWithinRows v.rows)
      → ((row : Row) → Contains v.rows row → SentFits row body × SaysIn v row from to body)
      → LogSays v.logs v.stored from to body × Says v.journal to body × RequestSays v.asked v.journal from body
      → MaySend v (record { from = from; to = to; body = body })
  may_hand hands within each says = record {
    terms = all_by (λ row. SentFits row body) v.rows (λ row at. (each row at).0);
    logs = says.0;
    counters = all_by (λ (row : Row). IfSome (handed_by row v.handovers body) (λ h. IsNext (truths v row ++ rests v row) h.floor)) v.rows
        (λ row at. IfSome_then (handed_by row v.handovers body) (hands row at) (λ h both. both.0));
    calls = all_by (λ (row : Row). IfSome (handed_by row v.handovers body) (λ h. AreHandedOver v.base row.range v.journal h.ends)) v.rows
        (λ row at. IfSome_then (handed_by row v.handovers body) (hands row at) (λ h both. both.1));
    cover = within;
    messages = all_by (λ row. SaysIn v row from to body) v.rows (λ row at. (each row at).1);
    replies = says.1;
    asked = says.2;
  }

  -- a message that hands nothing over
  pub may_send : ((row : Row) → handed_by row v.handovers body ≡ None)
      → IfSome (tenure_in body) (λ tenure. is_some (row_of v.rows tenure.tablet) ≡ true) × IfSome (range_in body) (IsWithinRows v.rows)
      → ((row : Row) → Contains v.rows row → SentFits row body × SaysIn v row from to body)
      → LogSays v.logs v.stored from to body × Says v.journal to body × RequestSays v.asked v.journal from body
      → MaySend v (record { from = from; to = to; body = body })
  may_send none = may_hand (λ row at. rw (none row) tt)

-- a message may be sent, whatever is filled in if it is a reply
abbrev pub MaySendFilled : View → Message → Type 0
MaySendFilled v message = (journal : List Placed) (served : List Served) → MaySend v (filled journal served message)

-- ---- to and from clients

-- a client may ask where a key is
pub may_look_up : (v : View) (client : ℕ) (lookup : Lookup) → MaySend v (record { from = nodes.Client client; to = nodes.Coordinator; body = bodies.Lookup lookup })
may_look_up v client lookup = may_send v (nodes.Client client) nodes.Coordinator (bodies.Lookup lookup) (λ row. refl) (tt, tt)
    (λ row stands. (record { within = tt; below = tt }, tt)) (tt, tt, tt)

-- the coordinator may tell a client where a range is
may_locate : (v : View) (client : ℕ) (located : Located)
    → MaySend v (record { from = nodes.Coordinator; to = nodes.Client client; body = bodies.Located located })
may_locate v client located = may_send v nodes.Coordinator (nodes.Client client) (bodies.Located located) (λ row. refl) (tt, tt)
    (λ row stands. (record { within = tt; below = tt }, tt)) (tt, tt, tt)

-- a client may send a request of a call that was asked, to any node
pub may_request : (v : View) (client : ℕ) (to : Node) (request : Request) → RequestFits v.asked v.journal client request
    → MaySend v (record { from = nodes.Client client; to = to; body = bodies.Request request })
may_request v client to request fits = may_send v (nodes.Client client) to (bodies.Request request) (λ row. refl) (tt, tt)
    (λ row stands. (record { within = tt; below = tt }, tt)) (tt, tt, fits)

-- so may a message that was saved to be sent again
pub may_send_again : (v : View) (client : ℕ) (from to : Node) (body : Body) → IsRequest v.asked v.journal client from body
    → MaySend v (record { from = from; to = to; body = body })
may_send_again v client (nodes.Client sender) to (bodies.Request request) (own, fits) = may_request v sender to request (rw own fits)
may_send_again v client _ to _ is = absurd is

-- a master may tell a client how a call ended, with the place of its record
pub may_reply : (v : View) (master client : ℕ) (reply : Reply) → AnswerFits v.journal client reply reply.answer
    → MaySend v (record { from = nodes.Master master; to = nodes.Client client; body = bodies.Reply reply })
may_reply v master client reply fits = may_send v (nodes.Master master) (nodes.Client client) (bodies.Reply reply) (λ row. refl) (tt, tt)
    (λ row stands. (record { within = tt; below = tt }, tt)) (tt, fits, tt)

-- ---- a lane that sends

-- what may be sent may still be sent after another message was
may_still : (v : View) (number : ℕ) (first message : Message) → MaySend v message → MaySend (sent v number first) message
may_still v number first message may = assumption may

pub sound_all_sent : (w : World) (messages : List Message) → IsSound w → All (MaySend (view w)) messages → IsSound (with_all_sent w messages)
sound_all_sent w [] sound may = sound
sound_all_sent w (message ∷ messages) sound may =
    sound_all_sent (message_sent w message) messages (sound_sent w message sound (All-head (MaySend (view w)) message messages may))
    (All-weaker (MaySend (view w)) (MaySend (view (message_sent w message)))
    (λ other it. may_still (view w) (w.wire.sent + 1) message other it) messages (All-tail (MaySend (view w)) message messages may))

pub one_sent : (v : View) (message : Message) → MaySend v message → All (MaySend v) (message ∷ [])
one_sent v message may = All-cons (MaySend v) message [] may (All-nil (MaySend v))

-- what is made of each thing of a list may be sent
pub all_of_each : {X Y : Type 0} (P : Y → Type 0) (make : X → List Y) (things : List X) → ((x : X) → Contains things x → All P (make x))
    → All P (flat_map make things)
all_of_each P make things each = all_flat P make things (all_by (λ x. All P (make x)) things each)

-- the coordinator answers a look-up of a client if a row has the hash, and takes nothing else that clients send
pub sound_question : (w : World) (client : ℕ) (body : Body) → IsSound w
    → IsSound (to_coordinator w (record { from = nodes.Client client; to = nodes.Coordinator; body = body })).world
sound_question w client (bodies.Lookup lookup) sound =
    by_found (λ row. IsSound (with_sends w (located (nodes.Client client) row)).world) (row_with w.coordinator.rows lookup.table lookup.hash)
    (λ none. sound) (λ row is. sound_sent w _ sound (may_locate (view w) client _))
sound_question w client _ sound = sound
