-- A session and the ledgers of the lanes agree still, whatever happens to one of them.
use Rattle.std.proofs.Common.{All, ◌≡◌, ℕ, zero, suc, ◌+◌, ◌<◌, ◌≤◌, max, true, false, List, [], ◌∷◌, ◌++◌, Option, Some, None, length, refl}
use Rattle.std.proofs.Common.{sym, ap, subst, ◌∙◌, ⊎_elim, arith, inl, inr, IfSome, slice_get, slice_set}
use Rattle.rk_inv_base.proofs.Words.{cases_eq, false≢true, All-append, All-contains, All-push, All-weaker, Contains-append_left}
use Rattle.rk_inv_base.proofs.Words.{Contains-push, none-some, Call, Op, Outcome, Placed, Receipt, slice_get_front, Located, Reply}
use Rattle.rk_inv_base.proofs.Words.{Session, call_lane, as_accepted, Ledger, asked_by, LastCall, IsAccepted}
use Rattle.std.proofs.lemmas.List.{length_push}
use Rattle.rk_model.proofs.Places.{all_from_places}
use Rattle.rk_world.specs.Client.{done, receipt_of, with_next_call}
use Rattle.rk_inv_base.proofs.calls.SameRecords.{IsSameRecord, accepted_cases, accepted_same, record_after}
use Rattle.rk_runs.specs.history.Agreement.{Agrees, AreTold, IsLastKnown, IsOutstanding, IsRecordedIn, IsToldBy, waiting}
use Rattle.rk_runs.proofs.history.GoesOn.{Grows}
use Rattle.rk_runs.proofs.history.Receipts.{numbered_push, place_of, rising_push, stands_at}

-- ---- one ledger is another

-- the ledger of one lane is this, and each other one is as it was
pub record ChangesAt (before after : ℕ → Ledger) (lane : ℕ) (new : Ledger) : Type 0 where
  pub here : after lane ≡ new
  pub others : (q : ℕ) → (q ≡ lane → ⊥) → after q ≡ before q

pub at_lane : (before after : ℕ → Ledger) (lane : ℕ) (new : Ledger) → ChangesAt before after lane new → (P : Ledger → Type 0) (q : ℕ) → (q ≡ lane → P new) → ((q ≡ lane → ⊥) → P (before q)) → P (after q)
at_lane before after lane new changes P q here other = grind (arith, cases_eq)

-- what was known of a last call is known if the records that were accepted are so still
known_on : (before after : List Placed) (session : Session) (last : Option LastCall) → ((call : Call) → IsAccepted before call → IsAccepted after call) → IsLastKnown before session last → IsLastKnown after session last
known_on before after session last on known = grind arith

-- each accepted record of a journal is at its place in another journal
abbrev StaysIn : List Placed → List Placed → Type 0
StaysIn journal now = (place : ℕ) (placed : Placed) → slice_get journal place ≡ Some placed → placed.accepted ≡ true → slice_get now place ≡ Some placed

accepted_on : (journal now : List Placed) → StaysIn journal now → (call : Call) → IsAccepted journal call → IsAccepted now call
accepted_on journal now stays call accepted =
    let old = place_of journal accepted.placed accepted.stands in
    record {
      placed = accepted.placed;
      stands = stands_at now old.0 accepted.placed (stays old.0 accepted.placed old.1 accepted.accepted);
      call_is = accepted.call_is;
      accepted = accepted.accepted;
    }

module _ (before after : ℕ → Ledger) (lane : ℕ) (new : Ledger) (changes : ChangesAt before after lane new) (stays : StaysIn (before lane).journal new.journal) where
  -- so what receipts record is there still
  recorded_on : (receipts : List Receipt) → All (IsRecordedIn before) receipts → All (IsRecordedIn after) receipts
  recorded_on = grind (arith, at_lane)

  told_on : (client : ℕ) (receipts : List Receipt) → AreTold receipts client lane new.journal → ((q : ℕ) → AreTold receipts client q (before q).journal) → (q : ℕ) → AreTold receipts client q (after q).journal
  told_on client receipts here told q = grind (arith, at_lane)

  -- a session that is as it was agrees still, if its receipts record what the new journal accepted of it, and its last call there is known
  agrees_on : (client : ℕ) (session : Session) → Agrees before client session → AreTold session.receipts client lane new.journal → IsLastKnown new.journal session (asked_by new client) → Agrees after client session
  agrees_on client session agrees told asked = grind (arith, recorded_on, told_on, at_lane, asked_by)

  -- as it is if the client's last call is what it was
  same_agrees : (client : ℕ) (session : Session) → Agrees before client session → asked_by new client ≡ asked_by (before lane) client → AreTold session.receipts client lane new.journal → Agrees after client session
  same_agrees client session agrees same told = grind (arith, agrees_on, known_on, asked_by, accepted_on)

module _ (before after : ℕ → Ledger) (lane : ℕ) (new : Ledger) (changes : ChangesAt before after lane new) (client : ℕ) (session : Session) (agrees : Agrees before client session) where
  -- a journal that grows
  pub agrees_grown : Grows client (before lane) new → Agrees after client session
  agrees_grown grows =
      let Tells : Placed → Type 0 = λ placed. placed.accepted ≡ true → placed.call.client ≡ client → IsToldBy session.receipts lane placed in
      same_agrees before after lane new changes
      (λ place placed at accepted.
      ap (λ (list : List Placed). slice_get list place) grows.journal_is ∙ slice_get_front (before lane).journal grows.more place placed at)
      client session agrees grows.asked
      (rw grows.journal_is
      (All-append Tells (before lane).journal grows.more (agrees.told lane)
      (All-weaker (λ (placed : Placed). placed.accepted ≡ false) Tells
      (λ placed none accepted own. absurd (false≢true (sym none ∙ accepted))) grows.more grows.unaccepted)))

  -- a client asks its outstanding call there
  pub agrees_asked : (call : Call) → session.outstanding ≡ Some call → new.journal ≡ (before lane).journal → asked_by new client ≡ Some (record { call = call; seen = session.seen }) → Agrees after client session
  agrees_asked call is_out same last_is = grind (arith, agrees_on)

-- ---- the session goes on

module _ (ledgers : ℕ → Ledger) (client : ℕ) (session : Session) (agrees : Agrees ledgers client session) where
  -- with other ranges that it cached, and requests
  pub agrees_looking : (ranges : List (List Located)) (requests : ℕ) (sent_in : Option ℕ)
      → Agrees ledgers client (record session { ranges = ranges; requests = requests; sent_in = sent_in })
  agrees_looking ranges requests sent_in = grind (arith, asked_by)

  -- a client that has no call outstanding asks its next one
  pub agrees_calling : (table : ℕ) (key : List ℕ) (op : Op) → session.outstanding ≡ None → Agrees ledgers client (with_next_call session table key op)
  agrees_calling table key op idle = grind (arith, asked_by)

-- ---- a record is accepted

-- a record that another one is but for whether it is accepted, and which was accepted, is that one
same_accepted : (placed new : Placed) → IsSameRecord placed new → placed.accepted ≡ true → new ≡ placed
same_accepted placed new same accepted i = record {
  call = same.call i;
  outcome = same.outcome i;
  stamp = same.stamp i;
  accepted = (same.kept accepted ∙ sym accepted) i;
}

-- an element that is put at a place is there
set_here : {X : Type 0} (xs : List X) (place : ℕ) (old new : X) → slice_get xs place ≡ Some old → slice_get (slice_set xs place new) place ≡ Some new
set_here [] place old new at = absurd (none-some old at)
set_here (x ∷ xs) zero old new at = refl
set_here (x ∷ xs) (suc place) old new at = set_here xs place old new at

-- a reply reports that the outstanding call of a client, asked last in a lane, was carried out: the record is at this place,
-- with a stamp above all that the client has seen
pub record IsAnswer (ledgers : ℕ → Ledger) (lane client : ℕ) (session : Session) (place : ℕ) (placed : Placed) (call : Call) (reply : Reply) (outcome : Outcome) : Type 0 where
  pub outstanding : session.outstanding ≡ Some call
  pub here : call_lane call ≡ lane
  pub last_is : asked_by (ledgers lane) client ≡ Some (record { call = call; seen = session.seen })
  pub lanes : (q : ℕ) → IfSome (asked_by (ledgers q) client) (λ last. call_lane last.call ≡ q)
  pub call_is : call ≡ placed.call
  pub outcome_is : outcome ≡ placed.outcome
  pub place_is : reply.place ≡ place
  pub stamp_is : reply.stamp ≡ placed.stamp
  pub later : session.seen < placed.stamp

module _ (before after : ℕ → Ledger) (lane : ℕ) (new : Ledger) (changes : ChangesAt before after lane new) (place : ℕ) (placed : Placed) (at : slice_get (before lane).journal place ≡ Some placed) (journal_is : new.journal ≡ slice_set (before lane).journal place (as_accepted placed)) (asked_same : (client : ℕ) → asked_by new client ≡ asked_by (before lane) client) where
  abbrev accepted_now : List Placed
  accepted_now = slice_set (before lane).journal place (as_accepted placed)

  -- what is accepted stays so
  stays : StaysIn (before lane).journal new.journal
  stays i old here accepted =
      let its = record_after (before lane).journal accepted_now i old (accepted_same (before lane).journal place placed at) here in
      ap (λ (list : List Placed). slice_get list i) journal_is ∙ its.1 ∙ ap Some (same_accepted old its.0 its.2 accepted)

  -- these receipts record the accepted records of a client, if they record the one that is accepted now in case it is the client's
  told_here : (client : ℕ) (receipts : List Receipt) → (placed.call.client ≡ client → IsToldBy receipts lane (as_accepted placed)) → AreTold receipts client lane (before lane).journal → AreTold receipts client lane new.journal
  told_here client receipts tells told =
      rw journal_is
      (all_from_places (λ (p : Placed). p.accepted ≡ true → p.call.client ≡ client → IsToldBy receipts lane p) accepted_now
      (λ i found there accepted own. elim (accepted_cases (before lane).journal place placed i found there) [
        | inl here ↦ subst (IsToldBy receipts lane) here.1 (tells (ap (λ (p : Placed). p.call.client) here.1 ∙ own))
        | inr stood ↦
            All-contains (λ (p : Placed). p.accepted ≡ true → p.call.client ≡ client → IsToldBy receipts lane p) (before lane).journal found
            told (stands_at (before lane).journal i found stood) accepted own
      ]))

  -- another client
  pub agrees_beside : (client : ℕ) (session : Session) → (placed.call.client ≡ client → ⊥) → Agrees before client session → Agrees after client session
  agrees_beside client session apart agrees =
      same_agrees before after lane new changes stays client session agrees (asked_same client)
      (told_here client session.receipts (λ own. absurd (apart own)) (agrees.told lane))

  -- the client of the call, which takes the answer and keeps the receipt
  module _ (client : ℕ) (session : Session) (agrees : Agrees before client session) (call : Call) (reply : Reply) (outcome : Outcome) (taken : IsAnswer before lane client session place placed call reply outcome) where
    abbrev receipt : Receipt
    receipt = receipt_of call reply outcome

    abbrev receipts : List Receipt
    receipts = session.receipts ++ receipt ∷ []

    mine : (call.client ≡ client) × (call.seq ≡ session.last)
    mine = subst (λ (o : Option Call). IfSome o (λ c. (c.client ≡ client) × (c.seq ≡ session.last))) taken.outstanding agrees.outstanding

    next : session.last ≡ length session.receipts + 1
    next = agrees.last ∙ ap (λ (o : Option Call). length session.receipts + waiting o) taken.outstanding

    -- the accepted record is the one that the receipt records
    record_is : as_accepted placed ≡ record { call = call; outcome = outcome; stamp = reply.stamp; accepted = true }
    record_is = sym (λ i. record { call = taken.call_is i; outcome = taken.outcome_is i; stamp = taken.stamp_is i; accepted = true })

    stands_now : slice_get accepted_now place ≡ Some (as_accepted placed)
    stands_now = set_here (before lane).journal place placed (as_accepted placed) at

    recorded_now : IsRecordedIn after receipt
    recorded_now =
        at_lane before after lane new changes
        (λ ledger. slice_get ledger.journal reply.place ≡ Some (record { call = call; outcome = outcome; stamp = reply.stamp; accepted = true }))
        (call_lane call)
        (λ is.
        ap (λ (list : List Placed). slice_get list reply.place) journal_is
        ∙ ap (slice_get accepted_now) taken.place_is ∙ stands_now ∙ ap Some record_is)
        (λ apart. absurd (apart taken.here))

    tells_now : IsToldBy receipts lane (as_accepted placed)
    tells_now = record {
      receipt = receipt;
      stands = Contains-push session.receipts receipt;
      tells = λ i. record {
        lane = taken.here i;
        call = taken.call_is i;
        outcome = taken.outcome_is i;
        stamp = taken.stamp_is i;
      };
    }

    more_told : (q : ℕ) → AreTold receipts client q (before q).journal
    more_told q =
        All-weaker (λ (p : Placed). p.accepted ≡ true → p.call.client ≡ client → IsToldBy session.receipts q p)
        (λ (p : Placed). p.accepted ≡ true → p.call.client ≡ client → IsToldBy receipts q p)
        (λ p told accepted own.
        let its : IsToldBy session.receipts q p = told accepted own in
        record {
          receipt = its.receipt;
          stands = Contains-append_left session.receipts (receipt ∷ []) its.receipt its.stands;
          tells = its.tells;
        }) (before q).journal (agrees.told q)

    -- in another lane nothing was outstanding
    elsewhere : (q : ℕ) → (q ≡ lane → ⊥) → (last : Option LastCall) → IfSome last (λ l. call_lane l.call ≡ q) → IsLastKnown (before q).journal session last → IsLastKnown (before q).journal (done session call reply outcome) last
    elsewhere q apart None here known = tt
    elsewhere q apart (Some last) here known =
        ⊎_elim (λ (accepted : IsAccepted (before q).journal last.call). inl accepted)
        (λ (out : IsOutstanding session last).
        let both : Some call ≡ Some last.call = sym taken.outstanding ∙ out.call_is in
        let is : call ≡ last.call = cc both in
        absurd (apart (sym here ∙ sym (ap call_lane is) ∙ taken.here))) known

    pub agrees_answered : Agrees after client (done session call reply outcome)
    agrees_answered = record {
      own = agrees.own;
      numbered = numbered_push 1 session.receipts receipt agrees.numbered (mine.1 ∙ (let n = next in omega (arith, n)));
      own_calls = All-push (λ (r : Receipt). r.call.client ≡ client) session.receipts receipt agrees.own_calls mine.0;
      last =
          let n = next in
          let m = length_push session.receipts receipt in
          omega (arith, n, m);
      outstanding = tt;
      rising =
          rising_push 0 session.receipts receipt agrees.rising
          (let above = taken.later in let is = taken.stamp_is in omega (arith, above, is))
          (All-weaker (λ (r : Receipt). r.stamp ≤ session.seen) (λ (r : Receipt). r.stamp < reply.stamp)
          (λ r seen. let above = taken.later in let is = taken.stamp_is in omega (arith, above, is, seen)) session.receipts agrees.seen);
      seen =
          All-push (λ (r : Receipt). r.stamp ≤ max session.seen reply.stamp) session.receipts receipt
          (All-weaker (λ (r : Receipt). r.stamp ≤ session.seen) (λ (r : Receipt). r.stamp ≤ max session.seen reply.stamp)
          (λ r seen. omega (arith, seen)) session.receipts agrees.seen) (omega arith);
      recorded =
          All-push (IsRecordedIn after) session.receipts receipt
          (recorded_on before after lane new changes stays session.receipts agrees.recorded) recorded_now;
      told =
          told_on before after lane new changes stays client receipts (told_here client receipts (λ own. tells_now) (more_told lane)) more_told;
      asked = λ q.
          at_lane before after lane new changes
          (λ ledger. IsLastKnown ledger.journal (done session call reply outcome) (asked_by ledger client)) q
          (λ is.
          rw (asked_same client ∙ taken.last_is, journal_is)
          (inl (record {
            placed = as_accepted placed;
            stands = stands_at accepted_now place (as_accepted placed) stands_now;
            call_is = sym taken.call_is;
            accepted = refl;
          })))
          (λ apart. elsewhere q apart (asked_by (before q) client) (taken.lanes q) (agrees.asked q));
    }
