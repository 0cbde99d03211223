-- A lane with room keeps it when a client takes an answer, and if the lane is not worn also when one asks.
use Rattle.std.proofs.Common.{◌≡◌, ◌≤◌, ◌<◌, ℕ, ◌+◌, max, [], ◌∷◌, ◌∙◌, All, Option, None, Some, refl, sym, subst, arith, Ok}
use Rattle.rk_inv_wellformed.proofs.Words.{get, Call, Body, Message, Visited, accept, ask, ClientTurn, Session}
use Rattle.rk_inv_wellformed.proofs.Words.{IsWellFormed, last_stamp, Ledger, is_added, seen_of, WORN_NUMBER, where_true, worn, HasRoom}
use Rattle.rk_inv_wellformed.proofs.Words.{MOST_NUMBER, World, with_all_sent, with_ledger, LastCall, accept_by}
use Rattle.rk_inv_wellformed.proofs.Words.{accepting, ask_by, asking, asking_by, fits_with, is_asked_here, ledger_asked, ledger_requested}
use Rattle.rk_inv_wellformed.proofs.Words.{session_turn, accept_refusal, ask_refusal, too_great, worn_session}
use Rattle.rk_inv_wellformed.proofs.lanes.Asks.{asked_is, now_asked, after_asking, asked_ledger, clients_requested}
use Rattle.rk_inv_wellformed.proofs.lanes.Events.{IsFresh, no_first, no_inner, no_second, not_too_great, not_worn}
use Rattle.rk_inv_wellformed.proofs.maps.{by_found, either_way}
use Rattle.rk_inv_wellformed.proofs.room.Rises.{HaveSeen, KeepsTo, all_inserted, keeps_to_more, keeps_to_top, keeps_with_ledger}
use Rattle.rk_inv_wellformed.proofs.room.Rises.{keeps_with_sent, top_within}

-- if a client's turn is not refused, neither its session nor the lane is worn
record IsFreshTurn (w : World) (session : Session) : Type 0 where
  lane : IsFresh w
  seen : session.seen < WORN_NUMBER

fresh_turn : (w : World) (session : Session) → ask_refusal w session ≡ None → IsFreshTurn w session
fresh_turn w session none =
    grind (arith, not_worn, no_first, worn, worn_session, no_second, no_inner, where_true, is_added, not_too_great, too_great)

-- the journal stays when a call is asked
journal_asked : (ledger : Ledger) (session : Session) (call : Call) → (ledger_asked ledger session call).journal ≡ ledger.journal
journal_asked ledger session call =
    asked_is (λ now. now.journal ≡ ledger.journal) ledger session call (λ asked. refl) (λ new. refl)

journal_requested : (ledger : Ledger) (client : ℕ) (message : Message) (body : Body) → (ledger_requested ledger client message body).journal ≡ ledger.journal
journal_requested ledger client message (Body.Request request) = refl
journal_requested ledger client message body = refl

-- what clients had seen then
seen_after_asking : (limit : ℕ) (ledger : Ledger) (session : Session) (call : Call) → session.seen ≤ limit → HaveSeen limit ledger → HaveSeen limit (ledger_asked ledger session call)
seen_after_asking limit ledger session call within all = asked_is (HaveSeen limit) ledger session call (λ asked. all)
    (λ new. all_inserted (λ (last : Option LastCall). seen_of last ≤ limit) ledger.clients session.client
    (Some (now_asked session call)) within all)

-- the greatest number rises by the request, and to what the session has seen
pub top_after_asking : {w : World} (session : Session) (call : Call) (turned : ClientTurn) → IsWellFormed w → (after_asking w session call turned).top ≤ max w.top session.seen + 1
top_after_asking {w} session call turned formed = top_within (most + 1) (with_all_sent now (turned.message ∷ []))
    (keeps_with_sent (turned.message ∷ [])
    (keeps_with_ledger ledger
    (subst (λ journal. last_stamp journal ≤ most)
    (sym (journal_requested (ledger_asked w.ledger session call) session.client turned.message turned.message.body ∙ journal_asked w.ledger session call))
    more.stamp)
    (subst (λ clients. All (λ entry. seen_of entry.1 ≤ most) clients)
    (sym (clients_requested (ledger_asked w.ledger session call) session.client turned.message turned.message.body))
    (seen_after_asking most w.ledger session call (omega arith) more.seen))
    more))
  where
    most : ℕ
    most = max w.top session.seen

    ledger : Ledger
    ledger = asked_ledger w session call turned

    now : World
    now = with_ledger w ledger

    more : KeepsTo most w
    more = keeps_to_more w.top most w (omega arith) (keeps_to_top w formed)

-- a lane keeps its room when a client asks there
pub room_asking : (w : World) (session : Session) → ask_refusal w session ≡ None → IsWellFormed w → HasRoom w → HasRoom (asking w session session.outstanding).world
room_asking w session none formed room =
    by_found (λ outstanding. HasRoom (asking w session outstanding).world) session.outstanding (λ nothing. room)
    (λ call is. either_way (λ (visited : Visited). HasRoom visited.world) (fits_with w session call)
    (by_found (λ turned. HasRoom (asking_by w session call turned).world) (session_turn session) (λ nothing. room) (λ turned is. turns call turned))
    room)
  where
    turns : (call : Call) (turned : ClientTurn) → HasRoom (asking_by w session call (Some turned)).world
    turns call turned =
        let number : (after_asking w session call turned).top < MOST_NUMBER =
        omega (arith, fresh_turn w session none, top_after_asking session call turned formed) in
        assumption

-- so it does if the client's turn is not refused
pub room_ask : {w : World} (session : Session) (visited : Visited) → ask w session ≡ Ok visited → IsWellFormed w → HasRoom w → HasRoom visited.world
room_ask {w} session visited asked formed room = grind (arith, by_found, ask_by, ask_refusal, asking, room_asking)

-- a lane keeps its room when a client takes a message of its wire
pub room_accept : (w : World) (number : ℕ) (session : Session) (visited : Visited) → accept w number session ≡ Ok visited → HasRoom w → HasRoom visited.world
room_accept w number session visited taken room =
    by_found (λ refused. accept_by w number session refused ≡ Ok visited → HasRoom visited.world)
    (accept_refusal w number session.client (get w.wire.messages number))
    (λ none is.
    let visited_is : accepting w session (get w.wire.messages number) ≡ visited = cc is in
    subst (λ (v : Visited). HasRoom v.world) visited_is accepts)
    (λ error some is. absurd (cc is)) taken
  where
    accepts : HasRoom (accepting w session (get w.wire.messages number)).world
    accepts = by_found (λ found. HasRoom (accepting w session found).world) (get w.wire.messages number) (λ none. room)
        (λ message is. either_way (λ (visited : Visited). HasRoom visited.world) (is_asked_here w session)
        (assumption) room)
