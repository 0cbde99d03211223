-- What a client's turn and its answer make of the parts of a lane: the world after it is that of the parts after it, and all is kept.
use Rattle.rk_lane.proofs.Words.{◌≡◌, ◌≤◌, ◌+◌, ℕ, Bool, true, false, cond, max, [], ◌∷◌, All, Option, None, Some, is_some, refl, sym, ap}
use Rattle.rk_lane.proofs.Words.{subst, ◌∙◌, arith, unwrap_or, eqb-true, All-nil, get_same, NumberMap, get, Call, Segments, Traffic}
use Rattle.rk_lane.proofs.Words.{with_message, Message, Visited, accept, ask, is_asked, is_asked_here, ledger_asked, ledger_requested}
use Rattle.rk_lane.proofs.Words.{ledger_taken, Session, session_accept, session_turn, last_stamp, Ledger, asked_by, is_added, seen_of}
use Rattle.rk_lane.proofs.Words.{with_asked, MayAct, accept_refusal, where_true, worn, IsFormedWithRoom, with_sends, World, with_all_sent}
use Rattle.rk_lane.proofs.Words.{with_ledger, with_top, StepError, Seen, Taken, LastCall, IsKept, world_of, AreForMasters, IsFitToSend}
use Rattle.rk_lane.proofs.Words.{noted, saved, IsVisited, Parts, all_in_map, KeepsTo, all_inserted, keeps_to_more, keeps_to_top}
use Rattle.std.specs.Prelude.{IfSome, Ok, Result, not, ◌==◌}
use Rattle.std.proofs.lemmas.Bool.{and_parts}
use Rattle.rk_world.specs.Base.{no_base}
use Rattle.rk_world.specs.Calls.{is_call, is_last}
use Rattle.rk_world.specs.Journal.{is_accepted}
use Rattle.rk_world.specs.Premises.{IsAfterStart}
use Rattle.rk_world.specs.Refusals.{ask_refusal}
use Rattle.rk_world.specs.Runs.{world_visited}
use Rattle.rk_lane.specs.Visiting.{MayTurn, last_to_note, request_told}
use Rattle.rk_inv_wellformed.proofs.lanes.Happenings.{formed_accepts, formed_asks}
use Rattle.rk_lane.proofs.Requests.{asked_for_masters, requested_for_masters, taken_for_masters, turned_to_master}
use Rattle.rk_lane.proofs.Sendable.{fit_to_send}
use Rattle.rk_lane.proofs.Topped.{keeps_once_topped, topped}

-- all is kept if nothing but ledger, wire and greatest number changes
pub kept_with : (old : Parts) (ledger : Ledger) (wire : Traffic) (top : ℕ) → IsKept old
    → IsFormedWithRoom (world_of (record old { ledger = ledger; wire = wire; top = top }) []) → AreForMasters ledger.requests
    → IsKept (record old { ledger = ledger; wire = wire; top = top })
kept_with old ledger wire top kept formed requests = grind arith

-- each call comes after a start that records nothing
pub after_nothing : (call : Option Call) → IfSome call (IsAfterStart no_base)
after_nothing None = tt
after_nothing (Some call) = All-nil _

-- what was visited is so as well by other names of what came of it
pub visited_as : (visit : World → Result Visited StepError) (old made new : Parts) (later session : Session) (shown seen : Seen)
    → new ≡ made → session ≡ later → seen ≡ shown → IsVisited visit old made later shown → IsVisited visit old new session seen
visited_as visit old made new later session shown seen parts same is visited = grind arith

-- ---- the ledger

-- a call is noted just when the definitions note it
noted_is : (ledger : Ledger) (session : Session) (call : Call) → noted ledger session.client (last_to_note ledger session (Some call)) ≡ ledger_asked ledger session call
noted_is ledger session call = grind (arith, is_asked, noted, with_asked)

journal_noted : (ledger : Ledger) (client : ℕ) (last : Option LastCall) → (noted ledger client last).journal ≡ ledger.journal
journal_noted ledger client None = refl
journal_noted ledger client (Some last) = refl

journal_saved : (ledger : Ledger) (client : ℕ) (request : Option Message) → (saved ledger client request).journal ≡ ledger.journal
journal_saved ledger client None = refl
journal_saved ledger client (Some message) = refl

clients_saved : (ledger : Ledger) (client : ℕ) (request : Option Message) → (saved ledger client request).clients ≡ ledger.clients
clients_saved ledger client None = refl
clients_saved ledger client (Some message) = refl

-- what clients had seen keeps to a limit
abbrev AllSeen : ℕ → Ledger → Type 0
AllSeen limit ledger = All (λ entry. seen_of entry.1 ≤ limit) ledger.clients

-- it does so once a call is noted, if its client's session does
seen_noted : (limit : ℕ) (ledger : Ledger) (client : ℕ) (last : Option LastCall) → IfSome last (λ one. one.seen ≤ limit) → AllSeen limit ledger → AllSeen limit (noted ledger client last)
seen_noted limit ledger client None low all = all
seen_noted limit ledger client (Some last) low all =
    all_inserted (λ (one : Option LastCall). seen_of one ≤ limit) ledger.clients client (Some last) low all

low_to_note : (limit : ℕ) (ledger : Ledger) (session : Session) (call : Option Call) → session.seen ≤ limit → IfSome (last_to_note ledger session call) (λ one. one.seen ≤ limit)
low_to_note limit ledger session call low = grind (arith, is_asked)

-- a client with a last call is in the map
found_last : (found : Option (Option LastCall)) (last : LastCall) → unwrap_or found None ≡ Some last → found ≡ Some (Some last)
found_last None last is = absurd (cc is)
found_last (Some asked) last is = ap Some is

-- what the session of a call that was asked has seen keeps to the limit
seen_asked : (limit : ℕ) (ledger : Ledger) (session : Session) (call : Call) → is_asked ledger session call ≡ true → AllSeen limit ledger → session.seen ≤ limit
seen_asked limit ledger session call asked all =
    go (asked_by ledger session.client) refl
    (and_parts (is_last call session.seen (asked_by ledger session.client)) (not (is_accepted ledger.journal session.client call.seq)) asked).0
  where
    go : (last : Option LastCall) → asked_by ledger session.client ≡ last → is_last call session.seen last ≡ true → session.seen ≤ limit
    go None is it = absurd (cc it)
    go (Some last) is it =
        subst (λ (n : ℕ). n ≤ limit) (eqb-true last.seen session.seen (and_parts (is_call last.call call) (last.seen == session.seen) it).1)
        (all_in_map (λ (one : Option LastCall). seen_of one ≤ limit) ledger.clients session.client (Some last)
        (found_last (get ledger.clients session.client) last is) all)

-- and so it is once the call is noted
seen_once_noted : (limit : ℕ) (ledger : Ledger) (session : Session) (call : Call) → AllSeen limit (noted ledger session.client (last_to_note ledger session (Some call))) → session.seen ≤ limit
seen_once_noted limit ledger session call = go (is_asked ledger session call) refl
  where
    go : (asked : Bool) → is_asked ledger session call ≡ asked
        → AllSeen limit (noted ledger session.client (cond asked None (Some (record { call = call; seen = session.seen })))) → session.seen ≤ limit
    go true is all = seen_asked limit ledger session call is all
    go false is all =
        all_in_map (λ (one : Option LastCall). seen_of one ≤ limit) (with_asked ledger session.client (record { call = call; seen = session.seen })).clients session.client
        (Some (record { call = call; seen = session.seen }))
        (get_same ledger.clients session.client (Some (record { call = call; seen = session.seen })) session.client refl) all

-- a client that was added stays so
pub added_noted : (ledger : Ledger) (client : ℕ) (last : Option LastCall) → is_added ledger client ≡ true → is_added (noted ledger client last) client ≡ true
added_noted ledger client None added = added
added_noted ledger client (Some last) added = ap is_some (get_same ledger.clients client (Some last) client refl)

-- ---- a client's turn

-- the client of a turn that is not refused was added
pub added_where_allowed : (w : World) (session : Session) → ask_refusal w session ≡ None → is_added w.ledger session.client ≡ true
added_where_allowed w session = grind (arith, worn, is_added, where_true)

-- the outstanding call of a session
record HasCall (session : Session) : Type 0 where
  call : Call
  there : session.outstanding ≡ Some call

module _ (old : Parts) (session later : Session) (message : Message) (may : MayTurn old session)
    (turn : session_turn session ≡ Some (record { session = later; message = message })) where
  abbrev pub ledger_then : Ledger
  ledger_then =
      saved (noted old.ledger session.client (last_to_note old.ledger session session.outstanding)) session.client (request_told message message.body)

  abbrev pub parts_then : Parts
  parts_then = record old {
    ledger = ledger_then;
    wire = with_message message old.wire;
    top = max (max old.top session.seen) (old.wire.sent + 1);
  }

  its : HasCall session
  its = grind (arith, world_of)

  ledger_is : ledger_then ≡ ledger_requested (ledger_asked old.ledger session its.call) session.client message message.body
  ledger_is = grind (arith, saved, noted, its, noted_is, ledger_asked)

  -- the world once the message is sent
  abbrev sent_then : NumberMap Segments → World
  sent_then stored = with_all_sent (with_ledger (world_of old stored) ledger_then) (message ∷ [])

  keeps_then : (stored : NumberMap Segments) → KeepsTo parts_then.top (sent_then stored)
  keeps_then stored =
      let before = keeps_to_more old.top parts_then.top (world_of old []) (omega arith) (keeps_to_top (world_of old []) may.kept.formed.formed) in
      record {
        top = omega arith;
        sent = omega arith;
        stamp =
            subst (λ journal. last_stamp journal ≤ parts_then.top)
            (sym (journal_noted old.ledger session.client (last_to_note old.ledger session session.outstanding))
            ∙ sym (journal_saved (noted old.ledger session.client (last_to_note old.ledger session session.outstanding)) session.client (request_told message message.body)))
            before.stamp;
        seen =
            subst (λ clients. All (λ entry. seen_of entry.1 ≤ parts_then.top) clients)
            (sym (clients_saved (noted old.ledger session.client (last_to_note old.ledger session session.outstanding)) session.client (request_told message message.body)))
            (seen_noted parts_then.top old.ledger session.client (last_to_note old.ledger session session.outstanding)
            (low_to_note parts_then.top old.ledger session session.outstanding (omega arith)) before.seen);
        terms = before.terms;
        counters = before.counters;
      }

  reached_then : (stored : NumberMap Segments) → parts_then.top ≤ (with_top (sent_then stored)).top
  reached_then stored =
      let once = keeps_once_topped (sent_then stored) in
      let top = once.top in
      let sent = once.sent in
      let seen : session.seen ≤ (with_top (sent_then stored)).top =
      seen_once_noted (with_top (sent_then stored)).top old.ledger session its.call
      (subst (λ (call : Option Call). AllSeen (with_top (sent_then stored)).top (noted old.ledger session.client (last_to_note old.ledger session call))) its.there
      (subst (λ clients. All (λ entry. seen_of entry.1 ≤ (with_top (sent_then stored)).top) clients)
      (clients_saved (noted old.ledger session.client (last_to_note old.ledger session session.outstanding)) session.client (request_told message message.body))
      once.seen)) in
      omega arith

  -- the definitions' turn of the client
  asked_is : (stored : NumberMap Segments) → ask (world_of old stored) session
      ≡ Ok (record { world = (with_sends (with_ledger (world_of old stored) ledger_then) (message ∷ [])).world; session = later; seen = record { first = old.wire.sent + 1; sent = 1; lost = false; taken = None } })
  asked_is stored = grind (arith, world_of, its, session_turn, with_sends, with_ledger, ledger_is)

  formed_then : IsFormedWithRoom (with_sends (with_ledger (world_of old []) ledger_then) (message ∷ [])).world
  formed_then =
      subst (λ (result : Result Visited StepError). IsFormedWithRoom (world_visited (world_of old []) result)) (asked_is [])
      (formed_asks (world_of old []) session (may.may, after_nothing session.outstanding) may.kept.formed)

  -- what the client sends fits the wire
  pub turn_fits : IsFitToSend old.wire (message ∷ [])
  turn_fits = fit_to_send (with_ledger (world_of old []) ledger_then) (message ∷ []) formed_then

  world_then : (stored : NumberMap Segments) → with_top (sent_then stored) ≡ world_of parts_then stored
  world_then stored = topped (sent_then stored) parts_then.top (keeps_then stored) (reached_then stored)

  -- the client has taken its turn then
  pub turn_made : IsVisited (λ w. ask w session) old parts_then later (record { first = old.wire.sent + 1; sent = 1; lost = false; taken = None })
  turn_made = record {
    visited = λ stored. asked_is stored
        ∙ (λ i. Ok (record { world = world_then stored i; session = later; seen = record { first = old.wire.sent + 1; sent = 1; lost = false; taken = None } }));
    kept = kept_with old ledger_then (with_message message old.wire) parts_then.top may.kept (subst IsFormedWithRoom (world_then []) formed_then)
        (subst (λ (ledger : Ledger). AreForMasters ledger.requests) (sym ledger_is)
        (requested_for_masters (ledger_asked old.ledger session its.call) session.client message message.body (turned_to_master session later message turn)
        (asked_for_masters old.ledger session its.call may.kept.requests)));
    lane = record { number = refl; backups = refl; masters = refl };
  }

-- ---- a client's answer

module _ (old : Parts) (number : ℕ) (session : Session) (kept : IsKept old) (may : MayAct old.coordinator.masters session)
    (none : accept_refusal (world_of old []) number session.client (get old.wire.messages number) ≡ None) (message : Message)
    (there : get old.wire.messages number ≡ Some message) (asked : is_asked_here (world_of old []) session ≡ true) where
  abbrev taken_then : Taken
  taken_then = (session_accept session message.body).taken

  abbrev pub parts_taken : Parts
  parts_taken = record old { ledger = ledger_taken old.ledger message.body taken_then }

  accepted : (stored : NumberMap Segments) → accept (world_of old stored) number session
      ≡ Ok (record { world = world_of parts_taken stored; session = (session_accept session message.body).session; seen = record { first = 0; sent = 0; lost = false; taken = Some taken_then } })
  accepted stored = grind (arith, world_of)

  -- the client has taken its answer then
  pub answer_taken : IsVisited (λ w. accept w number session) old parts_taken (session_accept session message.body).session (record { first = 0; sent = 0; lost = false; taken = Some taken_then })
  answer_taken = record {
    visited = accepted;
    kept =
        kept_with old parts_taken.ledger old.wire old.top kept
        (subst (λ (result : Result Visited StepError). IsFormedWithRoom (world_visited (world_of old []) result)) (accepted [])
        (formed_accepts (world_of old []) number session may kept.formed))
        (taken_for_masters old.ledger message.body taken_then kept.requests);
    lane = record { number = refl; backups = refl; masters = refl };
  }
